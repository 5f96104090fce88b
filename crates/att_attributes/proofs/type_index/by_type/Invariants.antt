use Rattle.std.proofs.Common.{◌≡◌, drop}
use Rattle.att_attributes.specs.Attributes.{type_at}
use Rattle.att_attributes.specs.TypeIndex.{by_type}
use Rattle.att_attributes.proofs.OfType.{handles_of}
use Rattle.att_attributes.proofs.type_index.by_type.Given as goal

abbrev pub invariant-loop-place : goal.invariant-loop-place
invariant-loop-place l = l.index.items ≡ by_type (type_at l.attributes) (handles_of (drop l.place l.attributes))
