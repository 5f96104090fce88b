use Rattle.std.proofs.Common.{ap, ◌∙◌, Err}
use Rattle.app_lines.specs.Command.{command_of}
use Rattle.app_lines.proofs.Words.{too_many_words}
use Rattle.app_lines.proofs.command.read_line.Goals as goal

pub returns-in-Some-first_word-3 : goal.returns-in-Some-first_word-3
unfolding command_of
returns-in-Some-first_word-3 c =
    ap Err c.count_fault.ensures
    ∙ too_many_words c.in-Some.first.now c.in-Some-first_word.second.now c.in-Some-first_word-2.third.now c.in-Some-first_word-3.field-0.0.now
    c.args.line.now c.in-Some.rest.now c.in-Some-first_word.rest.now c.in-Some-first_word-2.rest.now c.in-Some.ensures.first
    c.in-Some-first_word.ensures.first c.in-Some-first_word-2.ensures.first c.in-Some-first_word-3.field-0.1.now
    c.in-Some-first_word-3.ensures.first
