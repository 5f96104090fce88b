use Rattle.std.proofs.Common.{◌≡◌, drop}
use Rattle.toml.specs.View.{view}
use Rattle.toml_schema.specs.Shape.{keys_view, is_listed_by}
use Rattle.toml_schema.proofs.shape.is_listed.Given as goal

abbrev pub invariant-keys : goal.invariant-keys
invariant-keys l =
    is_listed_by (keys_view (drop l.key-index l.keys)) l.name (view l.value) ≡ is_listed_by (keys_view l.keys) l.name (view l.value)
