use Rattle.std.proofs.Common.{◌≡◌, ◌++◌, drop}
use Rattle.std.specs.List.{flat_map}
use Rattle.policy_words.specs.compare.Lines.{kind_if_lasting}
use Rattle.policy_words.proofs.compare.moves.add_lasting_kinds.Given as goal

-- those so far and those that are left are all
abbrev pub invariant-loop-key : goal.invariant-loop-key
invariant-loop-key l =
    l.lasting.items ++ flat_map (kind_if_lasting l.fn.table.attributes l.fn.other.attributes l.fn.handle) (drop l.key-index l.kinds)
    ≡ l.fn.lasting.items ++ flat_map (kind_if_lasting l.fn.table.attributes l.fn.other.attributes l.fn.handle) l.kinds
