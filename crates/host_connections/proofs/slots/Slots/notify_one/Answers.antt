use Rattle.std.proofs.Common.{◌≡◌, ◌≤◌, ℕ, [], ◌∷◌, None, length, sym, ap, subst, ◌∙◌, arith}
use Rattle.host_connections.proofs.Alone.{all_alone}
use Rattle.host_connections.proofs.Skipping.{others_miss}
use Rattle.host_connections.proofs.HeardMarks.{commands_heard, free_heard, listening_heard}
use Rattle.host_connections.proofs.Noted.{heard_noted, written_over}
use Rattle.host_connections.specs.Handles.{AreNotedIfAny}
use Rattle.host_connections.specs.declared.marks.Marks.{Marks}
use Rattle.host_connections.specs.OfTable.{AreOfTable}
use Rattle.host_connections.specs.Places.{Covers, IsMarked}
use Rattle.host_connections.specs.Skips.{all_skipped}
use Rattle.host_connections.specs.Slots.{SlotStates, all_heard}
use Rattle.host_connections.specs.declared.places.Due.TheVariants.{Value}
use Rattle.host_api.specs.declared.TheConstants.{MAX_SLOTS}
use Rattle.host_connections.proofs.slots.Slots.notify_one.Goals as goal

pub invariant_of-self : goal.invariant_of-self
invariant_of-self c =
    let a = c.args in
    let table = a.moment.table.now in
    let now = a.moment.now in
    let rows = a.moment.rows.now in
    let own = a.own in
    let handle = a.handle in
    let old = c.self.inside.slots.items in
    let lent = c.as_mut_slice-slots.result.now in
    let new = c.indicate_due.new.slots in
    let noted = c.self.inside.handles.noted in
    let marked = c.self.invariant.0 in
    let is : lent ≡ old = c.as_mut_slice-slots.ensures.value in
    let theirs : ℕ = c.without_own-whom.result.bits in
    let few : length lent ≤ MAX_SLOTS = omega (arith, ap (λ (it : SlotStates). length it) is, c.self.invariant.0.few) in
    let listens : Covers Value c.self.inside.marks.listening.bits lent =
    subst (Covers Value c.self.inside.marks.listening.bits) (sym is) c.self.invariant.0.listening in
    let heard : new ≡ all_heard table now rows own [] (handle ∷ []) old =
    c.indicate_due.ensures.heard
    ∙ ap (λ (it : SlotStates). all_heard table now rows None [] [] it)
    c.notify_alone.ensures.notified
    ∙ all_alone table now rows own theirs c.self.inside.marks.listening.bits handle lent listens c.without_own-whom.ensures.own
    c.without_own-whom.ensures.others few
    ∙ ap (λ (it : SlotStates). all_heard table now rows own [] (handle ∷ []) it) is in
    let count : length new ≡ length old =
    c.indicate_due.ensures.count ∙ c.notify_alone.ensures.count ∙ ap (λ (it : SlotStates). length it) is in
    let covered = c.indicate_due.ensures.covered in
    let marks : Marks = record c.self.inside.marks { packets = c.indicate_due.new.heard.packets; waiting = c.indicate_due.new.heard.waiting } in
    subst (λ (it : SlotStates). IsMarked it marks × AreNotedIfAny it noted)
    (sym (written_over c.self.inside.slots.len old new count (ap (λ (it : SlotStates). length it) (sym is) ∙ c.as_mut_slice-slots.ensures.len))) (
      record {
        few = omega (arith, marked.few, count);
        commands = commands_heard table now rows own [] (handle ∷ []) c.self.inside.marks.commands.bits old new heard marked.commands;
        packets = covered.packets;
        listening = listening_heard table now rows own [] (handle ∷ []) c.self.inside.marks.listening.bits old new heard marked.listening;
        waiting = covered.waiting;
        free = λ none. free_heard table now rows own [] (handle ∷ []) old new heard (marked.free none);
      },
      λ other some. heard_noted table now rows own [] (handle ∷ []) old new noted heard count (c.self.invariant.1 other some),
    )

pub returns-clause-heard : goal.returns-clause-heard
returns-clause-heard c =
    let a = c.args in
    let table = a.moment.table.now in
    let now = a.moment.now in
    let rows = a.moment.rows.now in
    let own = a.own in
    let handle = a.handle in
    let old = c.self.inside.slots.items in
    let lent = c.as_mut_slice-slots.result.now in
    let new = c.indicate_due.new.slots in
    let is : lent ≡ old = c.as_mut_slice-slots.ensures.value in
    let theirs : ℕ = c.without_own-whom.result.bits in
    let few : length lent ≤ MAX_SLOTS = omega (arith, ap (λ (it : SlotStates). length it) is, c.self.invariant.0.few) in
    let listens : Covers Value c.self.inside.marks.listening.bits lent =
    subst (Covers Value c.self.inside.marks.listening.bits) (sym is) c.self.invariant.0.listening in
    let count : length new ≡ length old =
    c.indicate_due.ensures.count ∙ c.notify_alone.ensures.count ∙ ap (λ (it : SlotStates). length it) is in
    written_over c.self.inside.slots.len old new count (ap (λ (it : SlotStates). length it) (sym is) ∙ c.as_mut_slice-slots.ensures.len)
    ∙ c.indicate_due.ensures.heard
    ∙ ap (λ (it : SlotStates). all_heard table now rows None [] [] it)
    c.notify_alone.ensures.notified
    ∙ all_alone table now rows own theirs c.self.inside.marks.listening.bits handle lent listens c.without_own-whom.ensures.own
    c.without_own-whom.ensures.others few
    ∙ ap (λ (it : SlotStates). all_heard table now rows own [] (handle ∷ []) it) (is ∙ c.self.view_is)

pub notify_alone-requires-clause-of_table : goal.notify_alone-requires-clause-of_table
notify_alone-requires-clause-of_table c =
    let a = c.args in
    subst (λ (it : SlotStates). AreOfTable a.moment.table.now.attributes a.moment.rows.now it) (sym (c.as_mut_slice-slots.ensures.value ∙ c.self.view_is))
    c.requires.of_table

pub returns-clause-count : goal.returns-clause-count
returns-clause-count c =
    let old = c.self.inside.slots.items in
    let lent = c.as_mut_slice-slots.result.now in
    let new = c.indicate_due.new.slots in
    let is : length lent ≡ length old = ap (λ (it : SlotStates). length it) c.as_mut_slice-slots.ensures.value in
    let count : length new ≡ length old = c.indicate_due.ensures.count ∙ c.notify_alone.ensures.count ∙ is in
    ap (λ (it : SlotStates). length it) (written_over c.self.inside.slots.len old new count (sym is ∙ c.as_mut_slice-slots.ensures.len))
    ∙ count ∙ ap (λ (it : SlotStates). length it) c.self.view_is

pub returns-clause-skipped : goal.returns-clause-skipped
returns-clause-skipped c =
    let a = c.args in
    let table = a.moment.table.now in
    let now = a.moment.now in
    let rows = a.moment.rows.now in
    let own = a.own in
    let handle = a.handle in
    let old = c.self.inside.slots.items in
    let lent = c.as_mut_slice-slots.result.now in
    let is : lent ≡ old = c.as_mut_slice-slots.ensures.value in
    let few : length lent ≤ MAX_SLOTS = omega (arith, ap (λ (it : SlotStates). length it) is, c.self.invariant.0.few) in
    let listens : Covers Value c.self.inside.marks.listening.bits lent =
    subst (Covers Value c.self.inside.marks.listening.bits) (sym is) c.self.invariant.0.listening in
    c.notify_alone.ensures.skipped
    ∙ others_miss table now rows own c.without_own-whom.result.bits c.self.inside.marks.listening.bits handle lent listens c.without_own-whom.ensures.own
    c.without_own-whom.ensures.others few
    ∙ ap (λ (it : SlotStates). all_skipped table now rows own [] (handle ∷ []) it) (is ∙ c.self.view_is)
