use Rattle.std.proofs.Common.{◌≡◌, ◌≢◌, arith, [], ◌+◌, refl, ap}
use Rattle.std.proofs.lemmas.Grind.{common_steps}
use Rattle.shell_files.specs.Session.{server_of}
use Rattle.shell_files.specs.declared.fault.ShellFault.TheVariants.{NotHex, Unwritten}
use Rattle.shell_files.proofs.Sessions.{same_fault, pass_octet, stop_long, pass_blank, pass_line, stop_line, break_line}
use Rattle.shell_files.proofs.session.Session.take_octet.Goals as goal
use Rattle.shell_files.proofs.session.Session.take_octet.Goals.{then-not-is_empty+in_ok-answer_line, else-not-is_empty}

pub returns-in-Ok-clause-passes : goal.returns-in-Ok-clause-passes
returns-in-Ok-clause-passes g c = pass_octet _ _ _ _ c.if-octet-ne10.true c.in-Ok.ensures.ok refl refl

pub returns-in-Err-clause-stops : goal.returns-in-Err-clause-stops
returns-in-Err-clause-stops g c number h = stop_long _ _ _ _ c.if-octet-ne10.true c.in-Err.ensures.full (cc)

pub returns-in_err-answer_line-clause-stops : goal.returns-in_err-answer_line-clause-stops
returns-in_err-answer_line-clause-stops g c number h =
    let begun : c.args.self.now.line.items ≢ [] = grind (arith, common_steps) in
    let said = same_fault c.answer_line.result c.from_residual.result _ (NotHex number) c.in_err-answer_line.was c.from_residual.ensures.1 h in
    let refused = c.answer_line.ensures.not_hex number said in
    stop_line _ _ _ _ _ c.if-octet-ne10.false begun refused.0 refused.1 refused.2

pub returns-clause-passes : goal.returns-clause-passes
returns-clause-passes g c = elim c.if-not-is_empty.branch [
  | then-not-is_empty+in_ok-answer_line w ↦
      let begun : c.args.self.now.line.items ≢ [] = grind (arith, common_steps, w.if-not-is_empty.true) in
      rw w.writer-is (
      pass_line _ _ _ _ _ _ c.if-octet-ne10.false begun w.in_ok-answer_line.ensures.answered c.clear.ensures
      (ap server_of w.self-is) (ap (λ session. session.number + 1) w.self-is)
      )
  | else-not-is_empty w ↦
      let blank : c.args.self.now.line.items ≡ [] = grind (arith, common_steps) in
      rw w.writer-is (
      pass_blank _ _ _ _ c.if-octet-ne10.false blank c.clear.ensures
      (ap server_of w.self-is) (ap (λ session. session.number + 1) w.self-is)
      )
]

pub returns-in_err-answer_line-clause-breaks_off : goal.returns-in_err-answer_line-clause-breaks_off
returns-in_err-answer_line-clause-breaks_off g c h =
    let begun : c.args.self.now.line.items ≢ [] = grind (arith, common_steps) in
    let said = same_fault c.answer_line.result c.from_residual.result _ Unwritten c.in_err-answer_line.was c.from_residual.ensures.1 h in
    break_line _ _ _ _ c.if-octet-ne10.false begun (c.answer_line.ensures.breaks_off said)
