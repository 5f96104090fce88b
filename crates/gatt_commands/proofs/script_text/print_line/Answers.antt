use Rattle.std.proofs.Common.{refl}
use Rattle.shell_files.proofs.Fronts.{first_of, then_of}
use Rattle.gatt_commands.specs.Lines.{line_feed}
use Rattle.gatt_commands.proofs.script_text.print_line.Goals as goal

pub returns-in_err-print-clause-front : goal.returns-in_err-print-clause-front
returns-in_err-print-clause-front g c = first_of c.from_residual.result c.args.line.now c.args.line.now line_feed _ _ refl c.in_err-print.ensures.front

pub returns-clause-front : goal.returns-clause-front
returns-clause-front g c = then_of c.print-2.result c.args.line.now c.args.line.now line_feed _ _ _ refl c.in_ok-print.ensures.ok c.print-2.ensures.front
