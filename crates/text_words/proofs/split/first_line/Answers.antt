use Rattle.std.proofs.Common.{arith}
use Rattle.std.proofs.lemmas.Str.Pattern.{split_once_first}
use Rattle.octet_io.proofs.Parts.{first_of_parts, only_part}
use Rattle.text_words.proofs.split.first_line.Goals as goal

pub returns-clause-first : goal.returns-clause-first
returns-clause-first c =
    let text = c.args.text.now in
    first_of_parts 10 text c.split_once.result (split_once_first 10 text c.split_once.result c.split_once.ensures.cases (omega arith))

pub returns-clause-only : goal.returns-clause-only
returns-clause-only c =
    let text = c.args.text.now in
    only_part 10 text c.split_once.result (split_once_first 10 text c.split_once.result c.split_once.ensures.cases (omega arith))
