use Rattle.std.proofs.Common.{List, subst}
use Rattle.std.specs.List.{All}
use Rattle.std.specs.Prelude.{OnOk}
use Rattle.att_attributes.specs.declared.attr.Attr.{Attr}
use Rattle.saved_values.specs.SavedValue.{IsSavedValue}
use Rattle.saved_values.specs.ValuesText.{saved_of}
use Rattle.saved_values.proofs.Writing.{values_written}
use Rattle.saved_values.proofs.saved_lines.add_values.Goals as goal

pub returns-clause-values : goal.returns-clause-values
returns-clause-values c =
    subst (λ (attributes : List Attr). OnOk c.add_values_of.result (All IsSavedValue (saved_of c.args.saves c.args.table.now c.args.initial.now attributes)))
    c.all_attributes.ensures.attributes
    (values_written c.add_values_of.result c.args.saves c.args.table.now c.args.initial.now c.all_attributes.result.now c.all_attributes.ensures.table
    c.add_values_of.ensures.typed)
