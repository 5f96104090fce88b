use Rattle.std.proofs.Common.{ap, ◌∙◌}
use Rattle.app_lines.specs.Command.{command_of}
use Rattle.device_session.specs.Lines.{kind_of_command}
use Rattle.device_session.specs.declared.asked.LineKind.TheVariants.{Wrong}
use Rattle.device_session.proofs.Texts.{text_read, text_refused}
use Rattle.device_session.proofs.asked.kind_of_octets.Goals as goal

pub returns-in-Ok : goal.returns-in-Ok
returns-in-Ok c =
    c.kind_of_text.ensures ∙ ap (λ text. kind_of_command (command_of text)) c.in-Ok.ensures.cases.0
    ∙ text_read (kind_of_command (command_of c.args.octets.now)) Wrong c.args.octets.now c.in-Ok.ensures.cases.1

pub returns-in-Err : goal.returns-in-Err
returns-in-Err c =
    text_refused (kind_of_command (command_of c.args.octets.now)) Wrong c.args.octets.now c.in-Err.ensures.cases.0
