use Rattle.std.proofs.Common.{arith}
use Rattle.std.proofs.lemmas.Str.Pattern.{split_once_first}
use Rattle.octet_io.proofs.Parts.{first_of_parts, only_part}
use Rattle.text_words.proofs.split.first_word.Goals as goal

pub returns-clause-first : goal.returns-clause-first
returns-clause-first c =
    let text = c.args.line.now in
    first_of_parts 32 text c.split_once.result (split_once_first 32 text c.split_once.result c.split_once.ensures.cases (omega arith))

pub returns-clause-only : goal.returns-clause-only
returns-clause-only c =
    let text = c.args.line.now in
    only_part 32 text c.split_once.result (split_once_first 32 text c.split_once.result c.split_once.ensures.cases (omega arith))
