-- Octets that come one by one mean what the packets mean that they divide into.
use Rattle.std.proofs.Common.{◌≡◌, ℕ, Bool, true, false, cond, List, [], ◌∷◌, ◌++◌, length, map, Option, Some, None, refl, sym, ap, subst, ◌∙◌, inl, inr, arith, append_assoc, append-nil}
use Rattle.std.proofs.lemmas.List.{drop_all, length-append}
use Rattle.std.proofs.lemmas.Bool.{cases_Bool, leb-false}
use Rattle.std.specs.Prelude.{nat_le, ◌==◌, Result, Ok, Err}
use Rattle.gatt_laws.specs.machine.Event.{Event}
use Rattle.gatt_laws.specs.machine.Input.{Item, AnOctet, Run, stopped, packet_taken, after_packet, with_unfinished, run_after_first, taken, unless_stopped, after_item, after_items}
use Rattle.gatt_laws.specs.laws.Laws.{after_packets, after_division, with_nothing_unfinished, TakesTheDivision}
use Rattle.gatt_laws.specs.machine.Packets.{Fault, Desync, packet_event}
use Rattle.le_h4.proofs.Dividing.{division_first, division-part, division-lost}
use Rattle.le_h4.proofs.Firsts.{first_append-packet}
use Rattle.le_h4.specs.Division.{Division, End, Unfinished, Lost, before, division, is_long, after_first}
use Rattle.le_h4.specs.Packet.{Packet, ScoPacket, EventPacket, First, FirstPacket, NoneYet, NoPacket, first_of, with_data, acl_packet, acl_form, sco_form, event_form}
use Rattle.octet_io.specs.Number.{Octets, from_two}

-- where one octet more makes a packet whole, nothing follows it
abbrev pub EndsWithIt : First → First → Type 0
EndsWithIt NoneYet (FirstPacket packet rest) = rest ≡ []
EndsWithIt NoneYet NoneYet = Unit
EndsWithIt NoneYet (NoPacket indicator) = Unit
EndsWithIt (FirstPacket packet rest) now = Unit
EndsWithIt (NoPacket indicator) now = Unit

ends-either : (test : Bool) (a b c d : First) → EndsWithIt a c → EndsWithIt b d → EndsWithIt (cond test a b) (cond test c d)
ends-either true a b c d first second = first
ends-either false a b c d first second = second

ends-data : (octet : ℕ) (packet : Octets → Packet) (size : ℕ) (octets : Octets)
    → EndsWithIt (with_data packet size octets) (with_data packet size (octets ++ octet ∷ []))
ends-data octet packet size octets =
    elim (cases_Bool (nat_le size (length octets))) [
      | inl before ↦ rw before tt
      | inr after ↦
          rw after (elim (cases_Bool (nat_le size (length (octets ++ octet ∷ [])))) [
            | inl now ↦
                rw now (drop_all size (octets ++ octet ∷ [])
                (omega (arith, leb-false size (length octets) after, length-append octets (octet ∷ []))))
            | inr never ↦ rw never tt
          ])
    ]

ends-none : (octet : ℕ) (packet : Octets → Packet) (size : ℕ) → EndsWithIt NoneYet (with_data packet size [])
ends-none octet packet size =
    let none : Octets = [] in
    elim (cases_Bool (nat_le size (length none))) [
      | inl all ↦ rw all (drop_all size none (omega arith))
      | inr part ↦ rw part tt
    ]

ends-acl : (octet : ℕ) (octets : Octets) → EndsWithIt (acl_form octets) (acl_form (octets ++ octet ∷ []))
ends-acl octet [] = tt
ends-acl octet (a ∷ []) = tt
ends-acl octet (a ∷ b ∷ []) = tt
ends-acl octet (a ∷ b ∷ c ∷ []) = ends-none octet (acl_packet (from_two a b)) (from_two c octet)
ends-acl octet (a ∷ b ∷ c ∷ d ∷ octets) = ends-data octet (acl_packet (from_two a b)) (from_two c d) octets

ends-sco : (octet : ℕ) (octets : Octets) → EndsWithIt (sco_form octets) (sco_form (octets ++ octet ∷ []))
ends-sco octet [] = tt
ends-sco octet (a ∷ []) = tt
ends-sco octet (a ∷ b ∷ []) = ends-none octet (λ data_octets. ScoPacket) octet
ends-sco octet (a ∷ b ∷ size ∷ octets) = ends-data octet (λ data_octets. ScoPacket) size octets

ends-event : (octet : ℕ) (octets : Octets) → EndsWithIt (event_form octets) (event_form (octets ++ octet ∷ []))
ends-event octet [] = tt
ends-event octet (code ∷ []) = ends-none octet (λ parameters. EventPacket (code ∷ octet ∷ parameters)) octet
ends-event octet (code ∷ size ∷ octets) = ends-data octet (λ parameters. EventPacket (code ∷ size ∷ parameters)) size octets

ends-alone : (octet : ℕ) (acl sco event : Bool) → EndsWithIt NoneYet (cond acl NoneYet (cond sco NoneYet (cond event NoneYet (NoPacket octet))))
ends-alone octet true sco event = tt
ends-alone octet false true event = tt
ends-alone octet false false true = tt
ends-alone octet false false false = tt

pub ends_first : (octet : ℕ) (octets : Octets) → EndsWithIt (first_of octets) (first_of (octets ++ octet ∷ []))
ends_first octet [] = ends-alone octet (octet == 0x02) (octet == 0x03) (octet == 0x04)
ends_first octet (indicator ∷ octets) =
    ends-either (indicator == 0x02) _ _ _ _ (ends-acl octet octets)
    (ends-either (indicator == 0x03) _ _ _ _ (ends-sco octet octets)
    (ends-either (indicator == 0x04) _ _ _ _ (ends-event octet octets) tt))

-- a run that has stopped
pub stays_stopped : (old : Run) (fault : Fault) (items : List Item) → old.intake.fault ≡ Some fault → after_items old items ≡ old
unfolding after_item
stays_stopped old fault [] is = refl
stays_stopped old fault (item ∷ items) is =
    ap (λ (stands : Option Fault). after_items (unless_stopped stands old (taken old item)) items) is ∙ stays_stopped old fault items is

-- what is unfinished does not matter to a packet
packet-apart : (old : Run) (octets : Octets) (packet : Packet) (result : Result Event Fault)
    → packet_taken (with_unfinished old octets) packet result ≡ with_unfinished (packet_taken old packet result) octets
packet-apart old octets packet (Ok event) = refl
packet-apart old octets packet (Err fault) = refl

packets-apart : (packets : List Packet) (end : End) (old : Run) (octets : Octets)
    → with_nothing_unfinished (after_packets (with_unfinished old octets) packets end) ≡ with_nothing_unfinished (after_packets old packets end)
packets-apart [] Unfinished old octets = refl
packets-apart [] (Lost indicator) old octets = refl
packets-apart (packet ∷ packets) end old octets =
    let new : Run = after_packet old packet in
    ap (λ (run : Run). with_nothing_unfinished (unless_stopped run.intake.fault run (after_packets run packets end)))
    (packet-apart old octets packet (packet_event old.intake.state old.intake.fragments packet))
    ∙ apart-unless new octets (after_packets (with_unfinished new octets) packets end) (after_packets new packets end) new.intake.fault
    (packets-apart packets end new octets)
  where
    apart-unless : (new : Run) (octets : Octets) (one other : Run) (fault : Option Fault) → with_nothing_unfinished one ≡ with_nothing_unfinished other
        → with_nothing_unfinished (unless_stopped fault (with_unfinished new octets) one) ≡ with_nothing_unfinished (unless_stopped fault new other)
    apart-unless new octets one other (Some fault) same = refl
    apart-unless new octets one other None same = same

-- what the octets that follow do
abbrev Follows : Octets → Type 0
Follows octets = (old : Run) → old.intake.fault ≡ None → first_of old.intake.unfinished ≡ NoneYet →
    with_nothing_unfinished (after_items old (map AnOctet octets)) ≡ with_nothing_unfinished (after_division old (division (old.intake.unfinished ++ octets)))

-- a packet that is taken, and then they
after-packet : (new : Run) (octets : Octets) (fault : Option Fault) → new.intake.fault ≡ fault → new.intake.unfinished ≡ [] → Follows octets
    → with_nothing_unfinished (after_items new (map AnOctet octets)) ≡ with_nothing_unfinished (unless_stopped fault new (after_division new (division octets)))
after-packet new octets (Some fault) is empty follows = ap with_nothing_unfinished (stays_stopped new fault (map AnOctet octets) is)
after-packet new octets None is empty follows =
    follows new is (ap first_of empty) ∙ ap (λ (unfinished : Octets). with_nothing_unfinished (after_division new (division (unfinished ++ octets)))) empty

pub packet_kept : (old : Run) (packet : Packet) (result : Result Event Fault) → (packet_taken old packet result).intake.unfinished ≡ old.intake.unfinished
packet_kept old packet (Ok event) = refl
packet_kept old packet (Err fault) = refl

after-whole : (old : Run) (packet : Packet) (octets : Octets) (long : Bool) → old.intake.fault ≡ None → Follows octets
    → with_nothing_unfinished (after_items (cond long (with_unfinished old []) (after_packet (with_unfinished old []) packet)) (map AnOctet octets))
    ≡ with_nothing_unfinished (after_division (with_unfinished old []) (cond long (division octets) (before (packet ∷ []) (division octets))))
after-whole old packet octets true none follows = follows (with_unfinished old []) none refl
after-whole old packet octets false none follows =
    let start : Run = with_unfinished old [] in
    let new : Run = after_packet start packet in
    after-packet new octets new.intake.fault refl
    (packet_kept start packet (packet_event start.intake.state start.intake.fragments packet)) follows

after-octet : (old : Run) (octets : Octets) (octet : ℕ) (first : First) → old.intake.fault ≡ None
    → first_of (old.intake.unfinished ++ octet ∷ []) ≡ first → EndsWithIt NoneYet first → Follows octets
    → with_nothing_unfinished (after_items (run_after_first old (old.intake.unfinished ++ octet ∷ []) first) (map AnOctet octets))
    ≡ with_nothing_unfinished (after_division old (division ((old.intake.unfinished ++ octet ∷ []) ++ octets)))
after-octet old octets octet NoneYet none is ends follows =
    let unfinished : Octets = old.intake.unfinished ++ octet ∷ [] in
    follows (with_unfinished old unfinished) none is
    ∙ packets-apart (division (unfinished ++ octets)).packets (division (unfinished ++ octets)).end old unfinished
after-octet old octets octet (NoPacket indicator) none is ends follows =
    let unfinished : Octets = old.intake.unfinished ++ octet ∷ [] in
    ap with_nothing_unfinished (stays_stopped (stopped old (Desync indicator)) (Desync indicator) (map AnOctet octets) refl)
    ∙ ap (λ (d : Division). with_nothing_unfinished (after_division old d)) (sym (division-lost unfinished octets indicator is))
after-octet old octets octet (FirstPacket packet rest) none is ends follows =
    let unfinished : Octets = old.intake.unfinished ++ octet ∷ [] in
    let divides : division (unfinished ++ octets) ≡ after_first (FirstPacket packet (rest ++ octets)) division =
    division_first (unfinished ++ octets) ∙ ap (λ (first : First). after_first first division) (first_append-packet unfinished octets rest packet is) in
    ap (λ (left : Octets). with_nothing_unfinished (after_items (run_after_first old unfinished (FirstPacket packet left)) (map AnOctet octets))) ends
    ∙ after-whole old packet octets (is_long packet) none follows
    ∙ packets-apart (cond (is_long packet) (division octets) (before (packet ∷ []) (division octets))).packets
    (cond (is_long packet) (division octets) (before (packet ∷ []) (division octets))).end old []
    ∙ ap (λ (left : Octets). with_nothing_unfinished (after_division old (after_first (FirstPacket packet (left ++ octets)) division))) (sym ends)
    ∙ ap (λ (d : Division). with_nothing_unfinished (after_division old d)) (sym divides)

follows-all : (octets : Octets) → Follows octets
unfolding after_item
follows-all [] old none part =
    ap (λ (d : Division). with_nothing_unfinished (after_division old d))
    (sym (division-part old.intake.unfinished part) ∙ ap division (sym (append-nil old.intake.unfinished)))
follows-all (octet ∷ octets) old none part =
    let unfinished : Octets = old.intake.unfinished ++ octet ∷ [] in
    ap (λ (stands : Option Fault). with_nothing_unfinished (after_items (unless_stopped stands old (taken old (AnOctet octet))) (map AnOctet octets))) none
    ∙ after-octet old octets octet (first_of unfinished) none refl
    (subst (λ (first : First). EndsWithIt first (first_of unfinished)) part (ends_first octet old.intake.unfinished)) (follows-all octets)
    ∙ ap (λ (all : Octets). with_nothing_unfinished (after_division old (division all))) (append_assoc old.intake.unfinished (octet ∷ []) octets)

pub takes_the_division : TakesTheDivision
takes_the_division old octets none part = follows-all octets old none part
