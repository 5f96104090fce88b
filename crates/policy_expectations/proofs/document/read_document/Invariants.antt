use Rattle.std.proofs.Common.{◌≡◌, drop}
use Rattle.toml.specs.View.{items_view, table_view}
use Rattle.toml_schema.specs.Reading.{each}
use Rattle.policy_expectations.specs.File.{expectation_step, expectations_of}
use Rattle.policy_expectations.proofs.document.read_document.Given as goal

-- those so far and those that are left are all
abbrev pub invariant-elements : goal.invariant-elements
invariant-elements l =
    each expectation_step l.expectations.items (items_view (drop l.element-index l.elements))
    ≡ expectations_of (table_view l.document)
