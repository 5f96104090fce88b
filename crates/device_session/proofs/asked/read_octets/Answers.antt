use Rattle.std.proofs.Common.{ap, ◌∙◌}
use Rattle.app_lines.specs.Command.{command_of}
use Rattle.device_session.specs.Questions.{question_by}
use Rattle.device_session.specs.Questions.Question.{NoText}
use Rattle.device_session.proofs.Texts.{text_read, text_refused}
use Rattle.device_session.proofs.asked.read_octets.Goals as goal

pub returns-in-Ok : goal.returns-in-Ok
returns-in-Ok c =
    c.read_text.ensures ∙ ap (λ text. question_by text (command_of text)) c.in-Ok.ensures.cases.0
    ∙ text_read (question_by c.args.octets.now (command_of c.args.octets.now)) NoText c.args.octets.now c.in-Ok.ensures.cases.1

pub returns-in-Err : goal.returns-in-Err
returns-in-Err c =
    text_refused (question_by c.args.octets.now (command_of c.args.octets.now)) NoText c.args.octets.now c.in-Err.ensures.cases.0
