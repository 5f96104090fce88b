use Rattle.std.proofs.Common.{[], ◌∷◌, ◌∙◌}
use Rattle.std.specs.Fmt.{decimal}
use Rattle.shell_files.proofs.Fronts.{first_of, then_of}
use Rattle.shell_files.proofs.output.print_number_line.Goals as goal

pub returns-in_err-print-clause-front : goal.returns-in_err-print-clause-front
returns-in_err-print-clause-front g c =
    first_of c.from_residual.result c.as_bytes.result.now (decimal c.args.number) (10 ∷ []) _ _
    (c.as_bytes.ensures.value ∙ c.format.ensures.text) c.in_err-print.ensures.front

pub returns-clause-front : goal.returns-clause-front
returns-clause-front g c =
    then_of c.print-2.result c.as_bytes.result.now (decimal c.args.number) (10 ∷ []) _ _ _
    (c.as_bytes.ensures.value ∙ c.format.ensures.text) c.in_ok-print.ensures.ok c.print-2.ensures.front
