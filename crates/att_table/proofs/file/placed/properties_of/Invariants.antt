use Rattle.std.proofs.Common.{◌≡◌, drop}
use Rattle.toml.specs.View.{items_view}
use Rattle.toml_schema.specs.Reading.{each}
use Rattle.att_table.specs.file.Fields.{no_properties, property_step}
use Rattle.att_table.proofs.file.placed.properties_of.Given as goal

abbrev pub invariant-words : goal.invariant-words
invariant-words l =
    each (property_step l.allowed) l.properties (items_view (drop l.word-index l.words))
    ≡ each (property_step l.allowed) no_properties (items_view l.words)
