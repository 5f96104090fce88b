use Rattle.std.proofs.Common.{◌≡◌, drop}
use Rattle.att_values.specs.Change.{ChangesFit, contents_after}
use Rattle.att_values.proofs.change.run.Given as goal

-- the changes that are left fit, and lead to the same contents
abbrev pub invariant-loop-change : goal.invariant-loop-change
invariant-loop-change g l =
    let store = g.S.ValueStore in
    let left = drop l.change-index l.changes in
    record {
      fit : ChangesFit (store.room l.store) (store.contents l.store) left;
      contents : contents_after left (store.contents l.store) ≡ contents_after l.changes (store.contents l.fn.store);
      room : store.room l.store ≡ store.room l.fn.store;
    }
