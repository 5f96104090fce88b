use Rattle.std.proofs.Common.{List, [], length, drop, sym, ap, ◌∙◌, arith, rules}
use Rattle.std.proofs.lemmas.List.{drop-drop, get_or_past, length-drop}
use Rattle.octet_io.specs.Number.{Octets}
use Rattle.text_words.specs.Split.{words_of}
use Rattle.app_lines.proofs.wrong.word_at.Goals as goal

pub returns-in-None : goal.returns-in-None
returns-in-None c =
    let words : List Octets = words_of c.args.line.now in
    let last = sym c.loop-index.invariant.1 ∙ c.in-None.ensures.only in
    let short = ap length last in
    sym (get_or_past words c.args.place [] (omega (arith, short, length-drop c.loop-index._index words, c.loop-index-test.true)))

pub loop-index-preserved : goal.loop-index-preserved
loop-index-preserved c =
    let words : List Octets = words_of c.args.line.now in
    let next = sym c.in-Some.ensures.first ∙ c.loop-index.invariant.1 in
    (search rules, ap (drop 1) next ∙ drop-drop 1 c.loop-index._index words)
