use Rattle.std.proofs.Common.{◌≡◌, ℕ, [], None, sym, subst}
use Rattle.std.proofs.lemmas.Bool.{OnFalse_at, OnFalse_from}
use Rattle.att_table.specs.Table.{Contents}
use Rattle.host_connections.proofs.Uncovered.{none_marked}
use Rattle.host_connections.proofs.Quiet.{nothing_heard_by_all}
use Rattle.host_connections.specs.Slots.{SlotStates, all_heard}
use Rattle.host_connections.specs.declared.places.Due.TheVariants.{Indication}
use Rattle.gatt_subs.specs.Rows.{Subscriptions}
use Rattle.host_connections.proofs.slots.Slots.may_wait.Goals as goal

pub returns : goal.returns
returns c = OnFalse_from _ _ (λ none.
    let all : (table : Contents) → (rows : Subscriptions) → (now : ℕ) → all_heard table now rows None [] [] c.args.self.now ≡ c.args.self.now =
    λ table rows now.
    subst (λ (it : SlotStates). all_heard table now rows None [] [] it ≡ it) c.self.view_is
    (sym (nothing_heard_by_all table now rows None c.self.inside.slots.items (OnFalse_at none
    (none_marked Indication c.self.inside.marks.waiting.bits c.self.inside.slots.items c.is_empty.result c.self.invariant.0.waiting c.is_empty.ensures)))) in
    all)
