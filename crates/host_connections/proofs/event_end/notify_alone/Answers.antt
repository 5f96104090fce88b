use Rattle.std.proofs.Common.{◌≡◌, ◌<◌, ◌≤◌, refl, List, [], ◌∷◌, ◌++◌, Option, None, get_or, length, subst, sym, ap, ◌∙◌, arith, append-nil, length-append}
use Rattle.std.proofs.lemmas.Bool.{OnFalse_at, OnTrue_at}
use Rattle.std.proofs.lemmas.List.{get_or_default}
use Rattle.host_connections.specs.Commands.{gives}
use Rattle.host_connections.specs.SlotState.{SlotState}
use Rattle.host_connections.specs.OfTable.{SlotIsOfTable}
use Rattle.host_connections.specs.Places.{waits}
use Rattle.host_connections.specs.declared.skipped.Skipped.{Skipped}
use Rattle.host_connections.specs.Skips.{skips_among, slot_skips}
use Rattle.host_connections.specs.Slots.{slot_state_at, slot_notified_alone}
use Rattle.host_connections.proofs.Skipping.{none_left, notes_at, notes_past, one_at_most, silent_skips, skips_in}
use Rattle.host_connections.proofs.Alone.{nobody_hears_alone}
use Rattle.host_connections.proofs.Found.{kept-is}
use Rattle.host_connections.proofs.OneByOne.{begins, goes_on, goes_past, ends, unheard}
use Rattle.host_connections.proofs.event_end.notify_alone.Goals as goal
use Rattle.gatt_subs.specs.Raised.{InTable}

pub loop-place-init : goal.loop-place-init
loop-place-init c =
    let a = c.args in (
      begins (slot_notified_alone a.moment.table.now a.moment.now a.moment.rows.now a.handle) refl a.whom.bits a.slots.now,
      c.requires.covered,
      ap (λ (noted : List Skipped). noted
          ++ skips_among a.moment.table.now a.moment.now a.moment.rows.now a.whom.bits (a.handle ∷ []) a.slots.now) c.requires.none,
    )

pub notify_alone-told-requires-clause-slot : goal.notify_alone-told-requires-clause-slot
notify_alone-told-requires-clause-slot c =
    let a = c.args in
    let slots = c.loop-place.slots in
    let place = c.in-Some-first.place in
    let first = c.in-Some-first.ensures.first in
    let there : place < length slots = omega (arith, c.if-place-slots.true) in
    let read : get_or slots place c.index-slots-place.result ≡ slot_state_at slots place =
    get_or_default slots place c.index-slots-place.result None there ∙ sym (kept-is slots place there) in
    let as-before : slot_state_at slots place ≡ slot_state_at a.slots.now place =
    unheard (slot_notified_alone a.moment.table.now a.moment.now a.moment.rows.now a.handle) refl a.whom.bits c.loop-place.left.bits c.remove.new.self.bits
    place a.slots.now slots
    c.loop-place.invariant.0 first.few first.within c.remove.ensures.removed c.remove.ensures.others in
    subst (λ (it : Option SlotState). SlotIsOfTable a.moment.table.now.attributes it) (sym (read ∙ as-before)) (c.requires.of_table.each place)

pub loop-place-preserved-then-place-slots : goal.loop-place-preserved-then-place-slots
loop-place-preserved-then-place-slots c =
    let a = c.args in
    let table = a.moment.table.now in
    let now = a.moment.now in
    let rows = a.moment.rows.now in
    let place = c.in-Some-first.place in
    let slots = c.loop-place.slots in
    let so-far = c.loop-place.invariant in
    let there : place < length slots = omega (arith, c.if-place-slots.true) in
    let slot : Option SlotState = slot_state_at slots place in
    let lent : Option SlotState = get_or slots place c.index-slots-place.result in
    let read : lent ≡ slot = get_or_default slots place c.index-slots-place.result None there ∙ sym (kept-is slots place there) in
    let new : Option SlotState = c.notify_alone-told.new.self in
    let notified : new ≡ slot_notified_alone table now rows a.handle slot =
    c.notify_alone-told.ensures.notified ∙ ap (λ (it : InTable). slot_notified_alone it.table now rows it.handle lent) c.in-Some.ensures.raised
    ∙ ap (λ (it : Option SlotState). slot_notified_alone table now rows a.handle it) read in
    let first = c.in-Some-first.ensures.first in
    let as-before : slot ≡ slot_state_at a.slots.now place =
    unheard (slot_notified_alone table now rows a.handle) refl a.whom.bits c.loop-place.left.bits c.remove.new.self.bits place a.slots.now slots
    so-far.0 first.few first.within c.remove.ensures.removed c.remove.ensures.others in
    let noted-here : c.note_skips.new.skipped.items ≡ c.loop-place.skipped.items ++ slot_skips table now rows (a.handle ∷ [])
    (slot_state_at a.slots.now place) =
    c.note_skips.ensures
    ∙ ap (λ (it : Option SlotState). c.loop-place.skipped.items ++ slot_skips table now rows (a.handle ∷ []) it) (read ∙ as-before) in (
      goes_on (slot_notified_alone table now rows a.handle) refl a.whom.bits c.loop-place.left.bits c.remove.new.self.bits place a.slots.now slots so-far.0
          first.few first.within c.remove.ensures.removed c.remove.ensures.others new there notified,
      c.take.ensures slots new so-far.1
          (λ none. OnFalse_at none c.notify_alone-told.ensures.untold ∙ ap gives read)
          (λ told. OnTrue_at told c.notify_alone-told.ensures.told ∙ ap waits read)
          (λ none. OnFalse_at none c.may_wait.ensures),
      ap (λ (noted : List Skipped). noted ++ skips_in (λ place slot. slot_skips table now rows (a.handle ∷ []) slot) c.remove.new.self.bits a.slots.now)
          noted-here
          ∙ notes_at (λ place slot. slot_skips table now rows (a.handle ∷ []) slot) c.loop-place.left.bits c.remove.new.self.bits place a.slots.now
          c.loop-place.skipped.items (skips_among table now rows a.whom.bits (a.handle ∷ []) a.slots.now) c.requires.few first c.remove.ensures.removed
          c.remove.ensures.others so-far.2 (omega (arith, there, so-far.0.count)),
    )

pub loop-place-preserved : goal.loop-place-preserved
loop-place-preserved c =
    let a = c.args in
    let place = c.in-Some-first.place in
    let slots = c.loop-place.slots in
    let so-far = c.loop-place.invariant in
    let first = c.in-Some-first.ensures.first in
    let beyond : length slots ≤ place = omega (arith, c.if-place-slots.false) in (
      goes_past (slot_notified_alone a.moment.table.now a.moment.now a.moment.rows.now a.handle) refl a.whom.bits c.loop-place.left.bits c.remove.new.self.bits
          place a.slots.now slots so-far.0
          first.few first.within c.remove.ensures.removed c.remove.ensures.others beyond,
      so-far.1,
      notes_past (λ place slot. slot_skips a.moment.table.now a.moment.now a.moment.rows.now (a.handle ∷ []) slot) c.loop-place.left.bits c.remove.new.self.bits
          place a.slots.now c.loop-place.skipped.items (skips_among a.moment.table.now a.moment.now a.moment.rows.now a.whom.bits (a.handle ∷ []) a.slots.now)
          c.requires.few first c.remove.ensures.removed c.remove.ensures.others so-far.2 (omega (arith, beyond, so-far.0.count)),
    )

pub returns-clause-notified : goal.returns-clause-notified
returns-clause-notified c =
    let a = c.args in
    ends (slot_notified_alone a.moment.table.now a.moment.now a.moment.rows.now a.handle) refl a.whom.bits c.loop-place.left.bits a.slots.now c.loop-place.slots
    c.requires.few c.loop-place.invariant.0 (c.in_default-first.ensures.none refl)

pub returns-in_default-clause-notified : goal.returns-in_default-clause-notified
returns-in_default-clause-notified c =
    let a = c.args in
    nobody_hears_alone a.moment.table.now a.moment.now a.moment.rows.now a.whom.bits a.handle a.slots.now (c.in_default.ensures.none refl)

pub returns-in_default-clause-covered : goal.returns-in_default-clause-covered
returns-in_default-clause-covered c = c.requires.covered

pub returns-in_default-clause-skipped : goal.returns-in_default-clause-skipped
returns-in_default-clause-skipped c =
    let a = c.args in
    c.requires.none ∙ sym (silent_skips a.moment.table.now a.moment.now a.moment.rows.now a.whom.bits a.handle a.slots.now (c.in_default.ensures.none refl))

pub returns-clause-skipped : goal.returns-clause-skipped
returns-clause-skipped c =
    let a = c.args in
    let items = c.loop-place.skipped.items in
    sym (append-nil items)
    ∙ ap (λ (it : List Skipped). items ++ it)
    (sym (none_left (λ place slot. slot_skips a.moment.table.now a.moment.now a.moment.rows.now (a.handle ∷ []) slot) c.loop-place.left.bits a.slots.now
    (c.in_default-first.ensures.none refl)))
    ∙ c.loop-place.invariant.2

pub note_skips-requires-clause-room : goal.note_skips-requires-clause-room
note_skips-requires-clause-room c =
    let a = c.args in
    let table = a.moment.table.now in
    let now = a.moment.now in
    let rows = a.moment.rows.now in
    let place = c.in-Some-first.place in
    let slots = c.loop-place.slots in
    let so-far = c.loop-place.invariant in
    let first = c.in-Some-first.ensures.first in
    let there : place < length slots = omega (arith, c.if-place-slots.true) in
    let read : get_or slots place c.index-slots-place.result ≡ slot_state_at slots place =
    get_or_default slots place c.index-slots-place.result None there ∙ sym (kept-is slots place there) in
    let as-before : slot_state_at slots place ≡ slot_state_at a.slots.now place =
    unheard (slot_notified_alone table now rows a.handle) refl a.whom.bits c.loop-place.left.bits c.remove.new.self.bits place a.slots.now slots
    so-far.0 first.few first.within c.remove.ensures.removed c.remove.ensures.others in
    let whole : List Skipped = skips_among table now rows a.whom.bits (a.handle ∷ []) a.slots.now in
    let here-too : List Skipped = slot_skips table now rows (a.handle ∷ []) (slot_state_at a.slots.now place) in
    let later : List Skipped = skips_in (λ place slot. slot_skips table now rows (a.handle ∷ []) slot) c.remove.new.self.bits a.slots.now in
    let noted : List Skipped = c.loop-place.skipped.items in
    let all : length ((noted ++ here-too) ++ later) ≡ length whole =
    ap (λ (it : List Skipped). length it) (notes_at (λ place slot. slot_skips table now rows (a.handle ∷ []) slot) c.loop-place.left.bits
    c.remove.new.self.bits place a.slots.now noted whole c.requires.few first c.remove.ensures.removed c.remove.ensures.others so-far.2
    (omega (arith, there, so-far.0.count))) in
    let same : length (slot_skips table now rows (a.handle ∷ []) (get_or slots place c.index-slots-place.result)) ≡ length here-too =
    ap (λ (it : Option SlotState). length (slot_skips table now rows (a.handle ∷ []) it)) (read ∙ as-before) in
    omega (
      arith,
      same,
      all,
      length-append (noted ++ here-too) later,
      length-append noted here-too,
      one_at_most table now rows a.whom.bits a.handle a.slots.now,
      c.requires.few,
    )
