-- What is told of octets that come one by one is what is told of the packets that they divide into.
use Rattle.std.proofs.Common.{◌≡◌, ℕ, suc, zero, Bool, true, false, cond, List, [], ◌∷◌, ◌++◌, length, map, Option, Some, None, refl, sym, ap, subst, ◌∙◌, append_assoc, append-nil}
use Rattle.std.specs.Prelude.{if◌then◌else◌, is_some, Result, Ok, Err}
use Rattle.std.specs.Option.{option_map_or}
use Rattle.gatt_laws.proofs.runs.Streams.{EndsWithIt, ends_first}
use Rattle.gatt_laws.specs.machine.Event.{Event}
use Rattle.gatt_laws.specs.machine.Input.{Item, AnOctet, APacket, Run, run_after_first, after_item, after_packet, after_whole, packet_taken, stopped, taken, unless_stopped, with_unfinished}
use Rattle.gatt_laws.specs.machine.ItemEvents.{event_if, event_of_first, event_taken}
use Rattle.gatt_laws.specs.machine.Notice.{noticed, of_item, of_items, received_of_event}
use Rattle.gatt_laws.specs.machine.Packets.{Fault, Desync, packet_event}
use Rattle.gatt_laws.specs.laws.StreamNotices.{IsOfTheDivision, ReceivesOfTheDivision, TellsOfTheDivision}
use Rattle.gatt_laws.specs.machine.State.{State}
use Rattle.le_h4.proofs.Dividing.{division_first, division-lost, division-part}
use Rattle.le_h4.proofs.Firsts.{first_append-packet}
use Rattle.le_h4.specs.Division.{Division, after_first, before, division, division_within, is_long}
use Rattle.le_h4.specs.Packet.{Packet, First, FirstPacket, NoneYet, NoPacket, first_of}
use Rattle.octet_io.specs.Number.{Octets}

-- what is unfinished does not matter to what is told of packets
apart-taken : (old : Run) (octets : Octets) (packet : Packet) (result : Result Event Fault)
    → packet_taken (with_unfinished old octets) packet result ≡ with_unfinished (packet_taken old packet result) octets
apart-taken old octets packet (Ok event) = refl
apart-taken old octets packet (Err fault) = refl

apart-whole : (old : Run) (octets : Octets) (packet : Packet) (long : Bool)
    → cond long (with_unfinished old octets) (after_packet (with_unfinished old octets) packet)
    ≡ with_unfinished (cond long old (after_packet old packet)) octets
apart-whole old octets packet true = refl
apart-whole old octets packet false =
    apart-taken old octets packet (packet_event old.intake.state old.intake.fragments packet)

apart-item : (old : Run) (octets : Octets) (packet : Packet) (fault : Option Fault)
    → unless_stopped fault (with_unfinished old octets) (after_whole (with_unfinished old octets) packet)
    ≡ with_unfinished (unless_stopped fault old (after_whole old packet)) octets
apart-item old octets packet (Some why) = refl
apart-item old octets packet None = apart-whole old octets packet (is_long packet)

-- by whatever is read of each event
module _ {A : Type 0} (of_event : State → Event → List A) where
  told-apart : (packets : List Packet) (old : Run) (octets : Octets)
      → of_items of_event (with_unfinished old octets) (map APacket packets) ≡ of_items of_event old (map APacket packets)
  unfolding after_item
  told-apart [] old octets = refl
  told-apart (packet ∷ packets) old octets =
      ap (λ (new : Run). of_item of_event old (APacket packet) ++ of_items of_event new (map APacket packets))
      (apart-item old octets packet old.intake.fault)
      ∙ ap (λ (told : List A). of_item of_event old (APacket packet) ++ told)
      (told-apart packets (after_item old (APacket packet)) octets)

  -- where a fault stands nothing is told
  pub stopped_silent : (run : Run) (why : Fault) (items : List Item) → run.intake.fault ≡ Some why
      → of_items of_event run items ≡ []
  unfolding after_item
  stopped_silent run why [] is = refl
  stopped_silent run why (item ∷ items) is =
      ap (λ (fault : Option Fault). option_map_or (of_event run.intake.state) (if is_some fault then None else event_taken run.intake item) []
      ++ of_items of_event (unless_stopped fault run (taken run item)) items) is
      ∙ stopped_silent run why items is

  -- what the octets that follow tell
  abbrev Follows : Octets → Type 0
  Follows octets = (old : Run) → old.intake.fault ≡ None → first_of old.intake.unfinished ≡ NoneYet
      → of_items of_event old (map AnOctet octets) ≡ of_items of_event old (map APacket (division (old.intake.unfinished ++ octets)).packets)

  -- a packet that is taken, and then they
  behind : (new : Run) (octets : Octets) (fault : Option Fault) → new.intake.fault ≡ fault → Follows octets
      → of_items of_event (with_unfinished new []) (map AnOctet octets) ≡ of_items of_event new (map APacket (division octets).packets)
  behind new octets (Some why) is follows =
      stopped_silent (with_unfinished new []) why (map AnOctet octets) is
      ∙ sym (stopped_silent new why (map APacket (division octets).packets) is)
  behind new octets None is follows =
      follows (with_unfinished new []) is refl ∙ told-apart (division octets).packets new []

  told-whole : (old : Run) (packet : Packet) (octets : Octets) (long : Bool) → old.intake.fault ≡ None → is_long packet ≡ long
      → Follows octets
      → option_map_or (of_event old.intake.state)
      (if long then None else event_if (packet_event old.intake.state old.intake.fragments packet)) []
      ++ of_items of_event (cond long (with_unfinished old []) (after_packet (with_unfinished old []) packet)) (map AnOctet octets)
      ≡ of_items of_event old (map APacket (cond long (division octets) (before (packet ∷ []) (division octets))).packets)
  unfolding after_item
  told-whole old packet octets true none is follows = behind old octets None none follows
  told-whole old packet octets false none is follows =
      let event : Option Event = event_if (packet_event old.intake.state old.intake.fragments packet) in
      let new : Run = after_packet old packet in
      let rest : List Item = map APacket (division octets).packets in
      ap (λ (run : Run). option_map_or (of_event old.intake.state) event [] ++ of_items of_event run (map AnOctet octets))
      (apart-taken old [] packet (packet_event old.intake.state old.intake.fragments packet))
      ∙ ap (λ (told : List A). option_map_or (of_event old.intake.state) event [] ++ told)
      (behind new octets new.intake.fault refl follows)
      ∙ (λ i. option_map_or (of_event old.intake.state) (if is_some (sym none i) then None else if (sym is i) then None else event) []
      ++ of_items of_event (unless_stopped (sym none i) old (cond (sym is i) old new)) rest)

  told-octet : (old : Run) (octets : Octets) (octet : ℕ) (first : First) → old.intake.fault ≡ None
      → first_of (old.intake.unfinished ++ octet ∷ []) ≡ first → EndsWithIt NoneYet first → Follows octets
      → option_map_or (of_event old.intake.state) (event_of_first old.intake.state old.intake.fragments first) []
      ++ of_items of_event (run_after_first old (old.intake.unfinished ++ octet ∷ []) first) (map AnOctet octets)
      ≡ of_items of_event old (map APacket (division ((old.intake.unfinished ++ octet ∷ []) ++ octets)).packets)
  told-octet old octets octet NoneYet none is ends follows =
      let all : Octets = old.intake.unfinished ++ octet ∷ [] in
      follows (with_unfinished old all) none is ∙ told-apart (division (all ++ octets)).packets old all
  told-octet old octets octet (NoPacket indicator) none is ends follows =
      let all : Octets = old.intake.unfinished ++ octet ∷ [] in
      stopped_silent (stopped old (Desync indicator)) (Desync indicator) (map AnOctet octets) refl
      ∙ ap (λ (d : Division). of_items of_event old (map APacket d.packets)) (sym (division-lost all octets indicator is))
  told-octet old octets octet (FirstPacket packet rest) none is ends follows =
      let all : Octets = old.intake.unfinished ++ octet ∷ [] in
      let divides : division (all ++ octets) ≡ after_first (FirstPacket packet (rest ++ octets)) division =
      division_first (all ++ octets) ∙ ap (λ (first : First). after_first first division) (first_append-packet all octets rest packet is) in
      ap (λ (left : Octets). option_map_or (of_event old.intake.state) (event_of_first old.intake.state old.intake.fragments (FirstPacket packet left)) []
      ++ of_items of_event (run_after_first old all (FirstPacket packet left)) (map AnOctet octets)) ends
      ∙ told-whole old packet octets (is_long packet) none refl follows
      ∙ ap (λ (left : Octets). of_items of_event old (map APacket (after_first (FirstPacket packet (left ++ octets)) division).packets)) (sym ends)
      ∙ ap (λ (d : Division). of_items of_event old (map APacket d.packets)) (sym divides)

  follows-all : (octets : Octets) → Follows octets
  unfolding after_item
  follows-all [] old none part =
      ap (λ (d : Division). of_items of_event old (map APacket d.packets))
      (sym (division-part old.intake.unfinished part) ∙ ap division (sym (append-nil old.intake.unfinished)))
  follows-all (octet ∷ octets) old none part =
      let all : Octets = old.intake.unfinished ++ octet ∷ [] in
      ap (λ (fault : Option Fault). option_map_or (of_event old.intake.state) (if is_some fault then None else event_taken old.intake (AnOctet octet)) []
      ++ of_items of_event (unless_stopped fault old (taken old (AnOctet octet))) (map AnOctet octets)) none
      ∙ told-octet old octets octet (first_of all) none refl
      (subst (λ (first : First). EndsWithIt first (first_of all)) part (ends_first octet old.intake.unfinished)) (follows-all octets)
      ∙ ap (λ (all : Octets). of_items of_event old (map APacket (division all).packets)) (append_assoc old.intake.unfinished (octet ∷ []) octets)

  pub is_of_the_division : IsOfTheDivision of_event
  is_of_the_division old octets none part = follows-all octets old none part

pub tells_of_the_division : TellsOfTheDivision
tells_of_the_division = is_of_the_division noticed

pub receives_of_the_division : ReceivesOfTheDivision
receives_of_the_division = is_of_the_division received_of_event

-- no packet of a division is too long
abbrev pub AreKept : List Packet → Type 0
AreKept [] = Unit
AreKept (packet ∷ packets) = (is_long packet ≡ false) × AreKept packets

kept-first : (packet : Packet) (long : Bool) (rest : Division) → is_long packet ≡ long → AreKept rest.packets
    → AreKept (cond long rest (before (packet ∷ []) rest)).packets
kept-first packet true rest is kept = kept
kept-first packet false rest is kept = (is, kept)

kept-after : (first : First) (divide : Octets → Division) → ((octets : Octets) → AreKept (divide octets).packets)
    → AreKept (after_first first divide).packets
kept-after (FirstPacket packet rest) divide kept = kept-first packet (is_long packet) (divide rest) refl (kept rest)
kept-after NoneYet divide kept = tt
kept-after (NoPacket indicator) divide kept = tt

kept-within : (count : ℕ) (octets : Octets) → AreKept (division_within count octets).packets
unfolding division_within
kept-within zero octets = tt
kept-within (suc count) octets = kept-after (first_of octets) (division_within count) (λ rest. kept-within count rest)

pub all_kept : (octets : Octets) → AreKept (division octets).packets
unfolding division
all_kept octets = kept-within (length octets) octets
