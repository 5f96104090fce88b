use Rattle.std.proofs.Common.{◌∙◌}
use Rattle.shell_files.proofs.Fronts.{first_of, then_of}
use Rattle.gatt_commands.proofs.outcome.print_name.Goals as goal

pub returns-in_err-print-clause-front : goal.returns-in_err-print-clause-front
returns-in_err-print-clause-front g c =
    first_of c.from_residual.result c.as_bytes.result.now c.args.name.now c.args.behind.now _ _ (c.as_bytes.ensures.value ∙ c.as_str.ensures)
    c.in_err-print.ensures.front

pub returns-clause-front : goal.returns-clause-front
returns-clause-front g c =
    then_of c.print-2.result c.as_bytes.result.now c.args.name.now c.args.behind.now _ _ _
    (c.as_bytes.ensures.value ∙ c.as_str.ensures) c.in_ok-print.ensures.ok c.print-2.ensures.front
