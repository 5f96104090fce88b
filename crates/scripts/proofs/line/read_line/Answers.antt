use Rattle.std.proofs.Common.{}
use Rattle.scripts.specs.Line.{line_of}
use Rattle.scripts.proofs.Words.{too_many_words}
use Rattle.scripts.proofs.line.read_line.Goals as goal

pub returns-in-Some-first_word-3 : goal.returns-in-Some-first_word-3
unfolding line_of
returns-in-Some-first_word-3 c =
    too_many_words c.in-Some.first.now c.in-Some-first_word.second.now c.in-Some-first_word-2.third.now c.in-Some-first_word-3.field-0.0.now
    c.args.line.now c.in-Some.rest.now c.in-Some-first_word.rest.now c.in-Some-first_word-2.rest.now
    c.in-Some.ensures.first c.in-Some-first_word.ensures.first c.in-Some-first_word-2.ensures.first
    c.in-Some-first_word-3.field-0.1.now c.in-Some-first_word-3.ensures.first
