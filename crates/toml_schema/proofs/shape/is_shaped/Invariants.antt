use Rattle.std.proofs.Common.{◌≡◌}
use Rattle.toml.specs.View.{members_view}
use Rattle.toml_schema.specs.Shape.{keys_view, is_shaped}
use Rattle.toml_schema.proofs.shape.is_shaped.Given as goal

abbrev pub invariant-members : goal.invariant-members
invariant-members l =
    is_shaped (keys_view l.keys) (members_view l.name-iterator) ≡ is_shaped (keys_view l.keys) (members_view l.table.entries)
