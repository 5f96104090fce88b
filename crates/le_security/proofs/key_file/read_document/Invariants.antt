use Rattle.std.proofs.Common.{◌≡◌, [], drop}
use Rattle.toml.specs.View.{items_view, table_view}
use Rattle.toml_schema.specs.Reading.{each, items_at}
use Rattle.std.specs.Prelude.{codes}
use Rattle.le_security.specs.KeyFile.{key_step}
use Rattle.le_security.proofs.key_file.read_document.Given as goal

abbrev pub invariant-elements : goal.invariant-elements
invariant-elements l =
    each key_step l.keys (items_view (drop l.element-index l.element-items))
    ≡ each key_step [] (items_at (codes "key") (table_view l.document))
