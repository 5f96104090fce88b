use Rattle.std.proofs.Common.{◌≡◌, drop}
use Rattle.std.specs.List.{list_any}
use Rattle.policy_words.specs.compare.Before.{IsHeldFor}
use Rattle.policy_words.specs.compare.Gains.{opens_at}
use Rattle.policy_words.proofs.compare.gaining.gains_rights.Given as goal

-- none of those before is one
abbrev pub invariant-loop-pair : goal.invariant-loop-pair
invariant-loop-pair l = record {
  none :
      list_any (opens_at l.table.attributes l.others.attributes l.kinds) l.pairs
      ≡ list_any (opens_at l.table.attributes l.others.attributes l.kinds) (drop l.pair-index l.pairs);
  held : IsHeldFor l.others.attributes l.kinds l.held_for l.before.items;
}
