use Rattle.std.proofs.Common.{◌≢◌, arith, []}
use Rattle.std.proofs.lemmas.Grind.{common_steps}
use Rattle.std.proofs.lemmas.Result.{on_ok_weaker}
use Rattle.shell_files.proofs.Sessions.{end_blank, end_line, end_refused, break_last}
use Rattle.shell_files.proofs.session.Session.finish.Goals as goal

pub returns-then-is_empty-clause-ends : goal.returns-then-is_empty-clause-ends
returns-then-is_empty-clause-ends g c = end_blank _ _ (grind (arith, common_steps))

pub returns-clause-ends : goal.returns-clause-ends
returns-clause-ends g c =
    let begun : c.args.self.now.line.items ≢ [] = grind (arith, common_steps) in
    on_ok_weaker c.answer_line.result (λ answered. end_line _ _ _ _ begun answered) c.answer_line.ensures.answered

pub returns-clause-stops : goal.returns-clause-stops
returns-clause-stops g c number h =
    let begun : c.args.self.now.line.items ≢ [] = grind (arith, common_steps) in
    let refused = c.answer_line.ensures.not_hex number h in
    end_refused _ number _ _ begun refused.0 refused.1 refused.2

pub returns-clause-breaks_off : goal.returns-clause-breaks_off
returns-clause-breaks_off g c h =
    let begun : c.args.self.now.line.items ≢ [] = grind (arith, common_steps) in
    break_last _ _ _ begun (c.answer_line.ensures.breaks_off h)
