use Rattle.std.proofs.Common.{◌≡◌, [], Option, get_or, set, sym, ap, ◌∙◌}
use Rattle.std.proofs.lemmas.Bool.{OnFalse_at}
use Rattle.host_connections.proofs.AtPlace.{there_at}
use Rattle.host_connections.proofs.Uncovered.{heard_waits}
use Rattle.host_connections.specs.Commands.{gives}
use Rattle.host_connections.specs.Places.{waits}
use Rattle.host_connections.specs.SlotState.{SlotState}
use Rattle.host_connections.specs.Slots.{slot_heard, slot_state_at}
use Rattle.host_connections.proofs.event_end.indicate_at.Goals as goal

pub returns-clause-slots : goal.returns-clause-slots
returns-clause-slots c =
    let a = c.args in
    let slots = a.slots.now in
    let place = a.place in
    ap (λ (it : Option SlotState). set slots place it) (c.indicate-told.ensures.heard
    ∙ ap (λ (it : Option SlotState). slot_heard a.moment.table.now a.moment.now a.moment.rows.now [] it)
    (there_at slots slots (λ i. slots) place (get_or slots place c.index-slots-place.result) c.requires.place
    (ap (λ it. get_or slots place it) c.index-slots-place.is)))

pub returns-clause-covered : goal.returns-clause-covered
returns-clause-covered c = λ covers.
    let a = c.args in
    let table = a.moment.table.now in
    let now = a.moment.now in
    let rows = a.moment.rows.now in
    let slots = a.slots.now in
    let place = a.place in
    let lent : Option SlotState = get_or slots place c.index-slots-place.result in
    let read : lent ≡ slot_state_at slots place =
    there_at slots slots (λ i. slots) place lent c.requires.place (ap (λ it. get_or slots place it) c.index-slots-place.is) in
    let new : Option SlotState = c.indicate-told.new.self in
    c.settle.ensures slots new c.requires.few covers
    (λ none. ap gives (OnFalse_at none c.indicate-told.ensures.unchanged ∙ read))
    (λ none. OnFalse_at none c.may_wait.ensures)
    (λ still. ap waits (sym read) ∙ heard_waits table now rows lent (ap waits (sym c.indicate-told.ensures.heard) ∙ still))
