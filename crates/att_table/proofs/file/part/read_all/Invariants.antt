use Rattle.std.proofs.Common.{◌≡◌, drop}
use Rattle.toml.specs.View.{items_view}
use Rattle.toml_schema.specs.Reading.{each}
use Rattle.att_table.proofs.file.part.read_all.Given as goal

abbrev pub invariant-elements : goal.invariant-elements
invariant-elements g l =
    each g.P.Part.step l.draft (items_view (drop l.element-index l.elements))
    ≡ each g.P.Part.step l.fn.draft (items_view l.elements)
