use Rattle.std.proofs.Common.{◌≡◌, drop}
use Rattle.std.specs.Prelude.{filter, slice_get}
use Rattle.policy_words.specs.compare.Pairing.{is_loose}
use Rattle.policy_words.proofs.compare.pairing.numbered_loose.Given as goal

-- those that are left are counted on
abbrev pub invariant-loop-other : goal.invariant-loop-other
invariant-loop-other l =
    slice_get (filter (is_loose l.pair) (drop l.other-index l.others)) l.left ≡ slice_get (filter (is_loose l.pair) l.others) l.fn.number
