use Rattle.std.proofs.Common.{refl, arith}
use Rattle.std.proofs.lemmas.Grind.{common_steps}
use Rattle.shell_files.specs.declared.fault.ShellFault.TheVariants.{Unwritten}
use Rattle.shell_files.proofs.Fronts.{of_error}
use Rattle.shell_files.proofs.Printing.{breaks_answer, breaks_dash}
use Rattle.shell_files.proofs.session.Session.answer_line.Goals as goal

pub returns-then-answer-clause-breaks_off : goal.returns-then-answer-clause-breaks_off
returns-then-answer-clause-breaks_off g c h = record {
  pdu = c.decode_to_slice.new.out;
  spelled = grind (arith, common_steps);
  front =
      breaks_answer _ _ _ _ _ _ c.answer.ensures.answer c.if-answer.true c.as_slice-then-answer.ensures.value
      (of_error c.print_hex_line.result Unwritten _ h c.print_hex_line.ensures.front);
}

pub returns-else-answer-clause-breaks_off : goal.returns-else-answer-clause-breaks_off
returns-else-answer-clause-breaks_off g c h = record {
  pdu = c.decode_to_slice.new.out;
  spelled = grind (arith, common_steps);
  front = breaks_dash _ _ _ _ _ _ c.answer.ensures.answer c.if-answer.false refl (of_error c.print.result Unwritten _ h c.print.ensures.front);
}
