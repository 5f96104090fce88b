use Rattle.std.proofs.Common.{◌≡◌, drop}
use Rattle.std.specs.Prelude.{filter, slice_get}
use Rattle.policy_words.specs.compare.Pairing.{is_service_of}
use Rattle.policy_words.proofs.compare.pairing.numbered_service.Given as goal

-- those that are left are counted on
abbrev pub invariant-loop-attr : goal.invariant-loop-attr
invariant-loop-attr l =
    slice_get (filter (is_service_of l.table l.uuid) (drop l.attr-index l.attributes)) l.left ≡ slice_get (filter (is_service_of l.table l.uuid) l.attributes) l.fn.number
