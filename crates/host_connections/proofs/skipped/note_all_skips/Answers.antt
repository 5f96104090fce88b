use Rattle.std.proofs.Common.{◌≡◌, ◌<◌, ◌≤◌, ◌++◌, ℕ, List, Option, None, length, ap, sym, ◌∙◌, refl, arith, append-nil}
use Rattle.std.proofs.lemmas.List.{get_or_default}
use Rattle.att_writes.specs.declared.queue.TheConstants.{MAX_PREPARED}
use Rattle.host_connections.proofs.Found.{kept-is}
use Rattle.host_connections.proofs.Skipping.{few_for, listeners_miss, none_left, notes_at, notes_past, room_at, skips_in}
use Rattle.host_connections.specs.declared.skipped.Skipped.{Skipped}
use Rattle.host_connections.specs.Skips.{all_skipped, slot_skips}
use Rattle.host_connections.specs.SlotState.{SlotState}
use Rattle.host_connections.specs.Slots.{handles_for, slot_state_at}
use Rattle.host_connections.proofs.skipped.note_all_skips.Goals as goal

pub loop-place-init : goal.loop-place-init
loop-place-init c =
    let a = c.args in
    let table = a.moment.table.now in
    let now = a.moment.now in
    let rows = a.moment.rows.now in
    let missed : List Skipped = skips_in (λ place slot. slot_skips table now rows (handles_for a.own a.here.now a.handles.now place) slot) a.listening.bits
    a.slots.now in
    ap (λ (it : List Skipped). it ++ missed) c.requires.none
    ∙ listeners_miss table now rows a.own a.here.now a.handles.now a.listening.bits a.slots.now c.requires.covers

pub note_skips-requires-clause-room : goal.note_skips-requires-clause-room
note_skips-requires-clause-room c =
    let a = c.args in
    let table = a.moment.table.now in
    let now = a.moment.now in
    let rows = a.moment.rows.now in
    let slots = a.slots.now in
    let place = c.in-Some.place in
    let slot : Option SlotState = c.index-slots-place.result in
    let there : place < length slots = omega (arith, c.if-place-slots.true) in
    let read : slot ≡ slot_state_at slots place = c.index-slots-place.is ∙ get_or_default slots place slot None there ∙ sym (kept-is slots place there) in
    let skips : ℕ → Option SlotState → List Skipped = λ place slot. slot_skips table now rows (handles_for a.own a.here.now a.handles.now place) slot in
    let room = room_at skips c.loop-place.left.bits c.remove.new.self.bits place slots c.loop-place.skipped.items
    (all_skipped table now rows a.own a.here.now a.handles.now slots)
    c.requires.few c.in-Some.ensures.first c.remove.ensures.removed c.remove.ensures.others c.loop-place.invariant MAX_PREPARED there
    (λ i. all_skipped table now rows a.own a.here.now a.handles.now slots)
    (few_for table now rows a.own a.here.now a.handles.now MAX_PREPARED c.requires.few_here c.requires.few_handles) in
    let values : length (slot_skips table now rows c.values_for-values.result.now slot) ≡ length (skips place (slot_state_at slots place)) =
    (λ i. length (slot_skips table now rows (c.values_for-values.ensures i) (read i))) in
    omega (arith, room, values, c.requires.few)

pub loop-place-preserved-then-place-slots : goal.loop-place-preserved-then-place-slots
loop-place-preserved-then-place-slots c =
    let a = c.args in
    let table = a.moment.table.now in
    let now = a.moment.now in
    let rows = a.moment.rows.now in
    let slots = a.slots.now in
    let place = c.in-Some.place in
    let slot : Option SlotState = c.index-slots-place.result in
    let there : place < length slots = omega (arith, c.if-place-slots.true) in
    let read : slot ≡ slot_state_at slots place = c.index-slots-place.is ∙ get_or_default slots place slot None there ∙ sym (kept-is slots place there) in
    let skips : ℕ → Option SlotState → List Skipped = λ place slot. slot_skips table now rows (handles_for a.own a.here.now a.handles.now place) slot in
    let noted : c.note_skips.new.skipped.items ≡ c.loop-place.skipped.items ++ skips place (slot_state_at slots place) =
    c.note_skips.ensures ∙ (λ i. c.loop-place.skipped.items ++ slot_skips table now rows (c.values_for-values.ensures i) (read i)) in
    ap (λ (it : List Skipped). it ++ skips_in skips c.remove.new.self.bits slots) noted
    ∙ notes_at skips c.loop-place.left.bits c.remove.new.self.bits place slots c.loop-place.skipped.items
    (all_skipped table now rows a.own a.here.now a.handles.now slots)
    c.requires.few c.in-Some.ensures.first c.remove.ensures.removed c.remove.ensures.others c.loop-place.invariant there

pub loop-place-preserved : goal.loop-place-preserved
loop-place-preserved c =
    let a = c.args in
    let table = a.moment.table.now in
    let now = a.moment.now in
    let rows = a.moment.rows.now in
    let slots = a.slots.now in
    let place = c.in-Some.place in
    let beyond : length slots ≤ place = omega (arith, c.if-place-slots.false) in
    notes_past (λ place slot. slot_skips table now rows (handles_for a.own a.here.now a.handles.now place) slot) c.loop-place.left.bits c.remove.new.self.bits
    place slots c.loop-place.skipped.items
    (all_skipped table now rows a.own a.here.now a.handles.now slots)
    c.requires.few c.in-Some.ensures.first c.remove.ensures.removed c.remove.ensures.others c.loop-place.invariant beyond

pub returns : goal.returns
returns c =
    let a = c.args in
    let table = a.moment.table.now in
    let now = a.moment.now in
    let rows = a.moment.rows.now in
    let slots = a.slots.now in
    let items = c.loop-place.skipped.items in
    sym (append-nil items)
    ∙ ap (λ (it : List Skipped). items ++ it)
    (sym (none_left (λ place slot. slot_skips table now rows (handles_for a.own a.here.now a.handles.now place) slot) c.loop-place.left.bits slots
    (c.in_default.ensures.none refl)))
    ∙ c.loop-place.invariant
