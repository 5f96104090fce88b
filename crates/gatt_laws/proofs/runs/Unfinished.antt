-- What is unfinished: less than a packet, and what follows goes on from it.
use Rattle.std.proofs.Common.{◌≡◌, ℕ, Bool, true, false, cond, List, [], ◌∷◌, ◌++◌, map, Option, Some, None, refl, sym, ap, subst, ◌∙◌, append_assoc, append-nil}
use Rattle.std.specs.Prelude.{Result, Ok, Err}
use Rattle.gatt_laws.proofs.runs.Streams.{EndsWithIt, ends_first, packet_kept, stays_stopped}
use Rattle.gatt_laws.specs.machine.Calls.{call_event, replacement_event}
use Rattle.gatt_laws.specs.machine.Event.{Event}
use Rattle.gatt_laws.specs.machine.Input.{Item, AnOctet, APacket, ACall, ATable, TheEnd, Run, run_after_first, after_item, after_items, after_packet, after_result, run_at_start, run, stopped, taken, unless_stopped, with_unfinished}
use Rattle.gatt_laws.specs.laws.Laws.{DividesOn, LeavesLessThanAPacket}
use Rattle.gatt_laws.specs.machine.Packets.{Fault, Desync, packet_event}
use Rattle.le_h4.proofs.Dividing.{division_first, division-part}
use Rattle.le_h4.proofs.Firsts.{first_append-packet}
use Rattle.le_h4.specs.Division.{Division, after_first, before, division, is_long}
use Rattle.le_h4.specs.Packet.{Packet, First, FirstPacket, NoneYet, NoPacket, first_of}
use Rattle.octet_io.specs.Number.{Octets}

-- less than a packet
abbrev IsPart : Run → Type 0
IsPart run = first_of run.intake.unfinished ≡ NoneYet

-- a packet that is whole leaves what follows it
left-behind : (old : Run) (packet : Packet) (rest : Octets) (long : Bool)
    → (cond long (with_unfinished old rest) (after_packet (with_unfinished old rest) packet)).intake.unfinished ≡ rest
left-behind old packet rest true = refl
left-behind old packet rest false =
    packet_kept (with_unfinished old rest) packet (packet_event old.intake.state old.intake.fragments packet)

part-first : (old : Run) (octets : Octets) (first : First) → IsPart old → first_of octets ≡ first → EndsWithIt NoneYet first
    → IsPart (run_after_first old octets first)
part-first old octets NoneYet partial is ends = is
part-first old octets (NoPacket indicator) partial is ends = partial
part-first old octets (FirstPacket packet rest) partial is ends = ap first_of (left-behind old packet rest (is_long packet) ∙ ends)

part-result : {E : Type 0} (old : Run) (result : Result Event E) → IsPart old → IsPart (after_result old result)
part-result old (Ok event) partial = partial
part-result old (Err refused) partial = partial

-- one octet more ends a packet, or none
ends-next : (old : Run) (octet : ℕ) → IsPart old → EndsWithIt NoneYet (first_of (old.intake.unfinished ++ octet ∷ []))
ends-next old octet partial =
    subst (λ (first : First). EndsWithIt first (first_of (old.intake.unfinished ++ octet ∷ []))) partial (ends_first octet old.intake.unfinished)

part-taken : (old : Run) (item : Item) → IsPart old → IsPart (taken old item)
part-taken old (AnOctet octet) partial =
    let octets : Octets = old.intake.unfinished ++ octet ∷ [] in part-first old octets (first_of octets) partial refl (ends-next old octet partial)
part-taken old (APacket packet) partial = ap first_of (left-behind old packet old.intake.unfinished (is_long packet)) ∙ partial
part-taken old (ACall call) partial = part-result old (call_event old.intake.state call) partial
part-taken old (ATable table) partial = part-result old (replacement_event old.intake.state table) partial
part-taken old TheEnd partial = refl

part-unless : (old new : Run) (fault : Option Fault) → IsPart old → IsPart new → IsPart (unless_stopped fault old new)
part-unless old new (Some fault) partial then_part = partial
part-unless old new None partial then_part = then_part

part-items : (old : Run) (items : List Item) → IsPart old → IsPart (after_items old items)
unfolding after_item
part-items old [] partial = partial
part-items old (item ∷ items) partial =
    part-items (after_item old item) items (part-unless old (taken old item) old.intake.fault partial (part-taken old item partial))

pub leaves_less_than_a_packet : LeavesLessThanAPacket
unfolding run
leaves_less_than_a_packet start input = part-items (run_at_start start) input refl

-- a run that has a fault has it still
never : (old : Run) (why : Fault) (items : List Item) → old.intake.fault ≡ Some why → (after_items old items).intake.fault ≡ None → ⊥
never old why items is none =
    let there : (after_items old items).intake.fault ≡ Some why = ap (λ (run : Run). run.intake.fault) (stays_stopped old why items is) ∙ is in
    cc (there, none)

-- behind a packet that is taken
divides-packet : (new : Run) (packet : Packet) (octets rest : Octets) (fault : Option Fault) → new.intake.fault ≡ fault → new.intake.unfinished ≡ []
    → DividesOn octets → (after_items new (map AnOctet octets)).intake.fault ≡ None
    → before (packet ∷ []) (division (octets ++ rest))
    ≡ before (packet ∷ (division octets).packets) (division ((after_items new (map AnOctet octets)).intake.unfinished ++ rest))
divides-packet new packet octets rest (Some why) is empty divides none = absurd (never new why (map AnOctet octets) is none)
divides-packet new packet octets rest None is empty divides none =
    let behind : Octets = (after_items new (map AnOctet octets)).intake.unfinished ++ rest in
    ap (before (packet ∷ []))
    (subst (λ (octets_kept : Octets). division (octets_kept ++ (octets ++ rest)) ≡ before (division (octets_kept ++ octets)).packets (division behind)) empty
    (divides new is (ap first_of empty) none rest))

divides-whole : (old : Run) (packet : Packet) (octets rest : Octets) (long : Bool) → old.intake.fault ≡ None → DividesOn octets
    → let new = after_items (cond long (with_unfinished old []) (after_packet (with_unfinished old []) packet)) (map AnOctet octets) in
    new.intake.fault ≡ None
    → cond long (division (octets ++ rest)) (before (packet ∷ []) (division (octets ++ rest)))
    ≡ before (cond long (division octets) (before (packet ∷ []) (division octets))).packets (division (new.intake.unfinished ++ rest))
divides-whole old packet octets rest true none divides then_none = divides (with_unfinished old []) none refl then_none rest
divides-whole old packet octets rest false none divides then_none =
    let new : Run = after_packet (with_unfinished old []) packet in
    divides-packet new packet octets rest new.intake.fault refl (left-behind old packet [] false) divides then_none

-- what follows one octet more
abbrev DividesBehind : Run → Octets → First → Octets → Octets → Type 0
DividesBehind old all first octets rest =
    let new = after_items (run_after_first old all first) (map AnOctet octets) in
    new.intake.fault ≡ None → division (all ++ (octets ++ rest)) ≡ before (division (all ++ octets)).packets (division (new.intake.unfinished ++ rest))

divides-octet : (old : Run) (all : Octets) (first : First) (octets rest : Octets) → old.intake.fault ≡ None → first_of all ≡ first
    → EndsWithIt NoneYet first → DividesOn octets → DividesBehind old all first octets rest
divides-octet old all NoneYet octets rest none is ends divides then_none = divides (with_unfinished old all) none is then_none rest
divides-octet old all (NoPacket indicator) octets rest none is ends divides then_none =
    absurd (never (stopped old (Desync indicator)) (Desync indicator) (map AnOctet octets) refl then_none)
divides-octet old all (FirstPacket packet left) octets rest none is ends divides then_none =
    let divides_so : (more : Octets) → division (all ++ more) ≡ cond (is_long packet) (division more) (before (packet ∷ []) (division more)) =
    λ more. division_first (all ++ more)
    ∙ ap (λ (first : First). after_first first division) (first_append-packet all more left packet is)
    ∙ ap (λ (kept : Octets). after_first (FirstPacket packet (kept ++ more)) division) ends in
    let new : Octets → Run = λ kept. after_items (run_after_first old all (FirstPacket packet kept)) (map AnOctet octets) in
    let stands : (new []).intake.fault ≡ None =
    subst (λ (kept : Octets). (new kept).intake.fault ≡ None) ends then_none in
    divides_so (octets ++ rest)
    ∙ divides-whole old packet octets rest (is_long packet) none divides stands
    ∙ (λ i. before (sym (divides_so octets) i).packets (division ((new (sym ends i)).intake.unfinished ++ rest)))

pub divides_on : (octets : Octets) → DividesOn octets
unfolding after_item
divides_on [] old none partial then_none rest =
    ap (λ (d : Division). before d.packets (division (old.intake.unfinished ++ rest)))
    (sym (ap division (append-nil old.intake.unfinished) ∙ division-part old.intake.unfinished partial))
divides_on (octet ∷ octets) old none partial then_none rest =
    let all : Octets = old.intake.unfinished ++ octet ∷ [] in
    let new : Option Fault → Run = λ fault. after_items (unless_stopped fault old (taken old (AnOctet octet))) (map AnOctet octets) in
    let stands : (new None).intake.fault ≡ None =
    subst (λ (fault : Option Fault). (new fault).intake.fault ≡ None) none then_none in
    ap division (sym (append_assoc old.intake.unfinished (octet ∷ []) (octets ++ rest)))
    ∙ divides-octet old all (first_of all) octets rest none refl (ends-next old octet partial) (divides_on octets) stands
    ∙ (λ i. before (division (append_assoc old.intake.unfinished (octet ∷ []) octets i)).packets (division ((new (sym none i)).intake.unfinished ++ rest)))
