use Rattle.std.proofs.Common.{◌≡◌, ◌<◌, ◌≤◌, refl, Option, None, get_or, length, subst, sym, ap, ◌∙◌, arith}
use Rattle.std.proofs.lemmas.Bool.{OnFalse_at, OnTrue_at}
use Rattle.std.proofs.lemmas.List.{get_or_default}
use Rattle.host_connections.specs.Commands.{gives}
use Rattle.host_connections.specs.SlotState.{SlotState}
use Rattle.host_connections.specs.OfTable.{SlotIsOfTable}
use Rattle.host_connections.specs.Places.{waits}
use Rattle.host_connections.specs.Slots.{slot_state_at, slot_notified}
use Rattle.host_connections.proofs.Found.{kept-is}
use Rattle.host_connections.proofs.InTurn.{nobody_hears}
use Rattle.host_connections.proofs.OfTable.{notified_of_table, set_of_table}
use Rattle.host_connections.proofs.OneByOne.{begins, goes_on, goes_past, ends}
use Rattle.host_connections.proofs.event_end.notify_for.Goals as goal
use Rattle.gatt_subs.specs.Raised.{InTable}

pub loop-place-init : goal.loop-place-init
loop-place-init c =
    let a = c.args in
    (begins (slot_notified a.moment.table.now a.moment.now a.moment.rows.now a.handle) refl a.whom.bits a.slots.now, (c.requires.covered, c.requires.of_table))

pub notify-notified-requires-clause-slot : goal.notify-notified-requires-clause-slot
notify-notified-requires-clause-slot c =
    let slots = c.loop-place.slots in
    let place = c.in-Some-first.place in
    let there : place < length slots = omega (arith, c.if-place-slots.true) in
    let read : get_or slots place c.index-slots-place.result ≡ slot_state_at slots place =
    get_or_default slots place c.index-slots-place.result None there ∙ sym (kept-is slots place there) in
    subst (λ (it : Option SlotState). SlotIsOfTable c.args.moment.table.now.attributes it) (sym read) (c.loop-place.invariant.1.1.each place)

pub loop-place-preserved-then-place-slots : goal.loop-place-preserved-then-place-slots
loop-place-preserved-then-place-slots c =
    let a = c.args in
    let table = a.moment.table.now in
    let now = a.moment.now in
    let rows = a.moment.rows.now in
    let place = c.in-Some-first.place in
    let slots = c.loop-place.slots in
    let told = c.loop-place.invariant in
    let there : place < length slots = omega (arith, c.if-place-slots.true) in
    let slot : Option SlotState = slot_state_at slots place in
    let lent : Option SlotState = get_or slots place c.index-slots-place.result in
    let read : lent ≡ slot = get_or_default slots place c.index-slots-place.result None there ∙ sym (kept-is slots place there) in
    let new : Option SlotState = c.notify-notified.new.self in
    let notified : new ≡ slot_notified table now rows a.handle slot =
    c.notify-notified.ensures.notified ∙ ap (λ (it : InTable). slot_notified it.table now rows it.handle lent) c.in-Some.ensures.raised
    ∙ ap (λ (it : Option SlotState). slot_notified table now rows a.handle it) read in
    let first = c.in-Some-first.ensures.first in (
      goes_on (slot_notified table now rows a.handle) refl a.whom.bits c.loop-place.left.bits c.remove.new.self.bits place a.slots.now slots told.0
          first.few first.within c.remove.ensures.removed c.remove.ensures.others new there notified,
      (
        c.take.ensures slots new told.1.0
            (λ none. OnFalse_at none c.notify-notified.ensures.unnotified ∙ ap gives read)
            (λ told. OnTrue_at told c.notify-notified.ensures.told ∙ ap waits read)
            (λ none. OnFalse_at none c.may_wait.ensures),
        set_of_table table.attributes rows slots place new there told.1.1
            (subst (λ (it : Option SlotState). SlotIsOfTable table.attributes it) (sym notified)
            (notified_of_table table now rows a.handle told.1.1.bonds slot (told.1.1.each place))),
      ),
    )

pub loop-place-preserved : goal.loop-place-preserved
loop-place-preserved c =
    let a = c.args in
    let place = c.in-Some-first.place in
    let slots = c.loop-place.slots in
    let told = c.loop-place.invariant in
    let first = c.in-Some-first.ensures.first in
    let beyond : length slots ≤ place = omega (arith, c.if-place-slots.false) in (
      goes_past (slot_notified a.moment.table.now a.moment.now a.moment.rows.now a.handle) refl a.whom.bits c.loop-place.left.bits c.remove.new.self.bits place
          a.slots.now slots told.0
          first.few first.within c.remove.ensures.removed c.remove.ensures.others beyond,
      told.1,
    )

pub returns-clause-notified : goal.returns-clause-notified
returns-clause-notified c =
    let a = c.args in
    ends (slot_notified a.moment.table.now a.moment.now a.moment.rows.now a.handle) refl a.whom.bits c.loop-place.left.bits a.slots.now c.loop-place.slots
    c.requires.few c.loop-place.invariant.0 (c.in_default-first.ensures.none refl)

pub returns-in_default-clause-notified : goal.returns-in_default-clause-notified
returns-in_default-clause-notified c =
    let a = c.args in
    nobody_hears a.moment.table.now a.moment.now a.moment.rows.now a.whom.bits a.handle a.slots.now (c.in_default.ensures.none refl)

pub returns-in_default-clause-covered : goal.returns-in_default-clause-covered
returns-in_default-clause-covered c = c.requires.covered
