use Rattle.std.proofs.Common.{List, ℕ, subst}
use Rattle.std.specs.Prelude.{OnErr}
use Rattle.shell_files.proofs.Fronts.{at_error, front_first, front_rest}
use Rattle.octet_io.specs.Stream.{WritesFront}
use Rattle.gatt_commands.specs.Lines.{outcome_text}
use Rattle.gatt_commands.proofs.told.print_line.Goals as goal

pub returns-in_err-print_outcome-clause-front : goal.returns-in_err-print_outcome-clause-front
returns-in_err-print_outcome-clause-front g c =
    at_error c.from_residual.result _
    (front_first (outcome_text c.args.names.now c.args.refused c.args.sim.now.phones) c.args.notes.now.text.items _ _ c.in_err-print_outcome.ensures.front)

pub returns-clause-front : goal.returns-clause-front
returns-clause-front g c =
    front_rest c.print.result (outcome_text c.args.names.now c.args.refused c.args.sim.now.phones) c.args.notes.now.text.items _ _ _
    c.in_ok-print_outcome.ensures.ok
    (subst (λ (octets : List ℕ).
    OnErr c.print.result (WritesFront octets (g.W.Write.contents c.print_outcome.new.writer) (g.W.Write.contents c.print.new.writer)))
    c.as_slice.ensures.value c.print.ensures.front)
