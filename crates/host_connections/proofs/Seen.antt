-- The connections of slots, slot by slot.
use Rattle.std.proofs.Common.{◌≡◌, ℕ, ◌+◌, ◌<◌, ◌≤◌, [], length, get_or, Option, sym, ap, ◌∙◌}
use Rattle.std.specs.List.{cons_option}
use Rattle.std.proofs.lemmas.List.{drop_all, drop_more}
use Rattle.host_connections.specs.Connections.{connections_left, read_from, slot_seen}
use Rattle.host_connections.specs.declared.arrivals.Arrivals.{Arrivals}
use Rattle.host_api.specs.declared.connection.Connection.{Connection}
use Rattle.host_connections.specs.SlotState.{SlotState}
use Rattle.host_connections.specs.Slots.{SlotStates}

pub seen_more : (slots : SlotStates) (arrivals : Arrivals) (place : ℕ) (slot : Option SlotState) (seen : Option Connection) → place < length slots
    → slot ≡ get_or slots place slot → seen ≡ slot_seen arrivals place slot
    → connections_left slots arrivals place ≡ cons_option seen (connections_left slots arrivals (place + 1))
seen_more slots arrivals place slot seen within read is =
    ap (read_from (slot_seen arrivals) place) (drop_more slots place slot within)
    ∙ ap (λ (first : Option Connection). cons_option first (connections_left slots arrivals (place + 1))) (ap (slot_seen arrivals place) (sym read) ∙ sym is)

pub seen_none : (slots : SlotStates) (arrivals : Arrivals) (place : ℕ) → length slots ≤ place → connections_left slots arrivals place ≡ []
seen_none slots arrivals place beyond = ap (read_from (slot_seen arrivals) place) (drop_all place slots beyond)
