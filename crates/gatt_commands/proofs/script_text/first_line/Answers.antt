use Rattle.std.proofs.Common.{◌∷◌, ◌+◌, ◌∙◌, ap, ◌-◌, sym, length, drop, take, arith}
use Rattle.std.proofs.lemmas.List.{length-drop, take_all}
use Rattle.octet_io.specs.Number.{Octets}
use Rattle.text_words.specs.Split.{lines_of}
use Rattle.gatt_commands.proofs.Echoing.{first_of_lines, only_line}
use Rattle.gatt_commands.proofs.script_text.first_line.Goals as goal

pub returns-in-Some-clause-lines : goal.returns-in-Some-clause-lines
returns-in-Some-clause-lines c =
    let text = c.args.text.now in
    first_of_lines text c.in-Some.end c.in-Some.ensures
    ∙ ap (λ (rest : Octets). take c.in-Some.end text ∷ lines_of rest)
    (sym (take_all (length text - (c.in-Some.end + 1)) (drop (c.in-Some.end + 1) text) (omega (arith, length-drop (c.in-Some.end + 1) text))))

pub returns-in-None-clause-lines : goal.returns-in-None-clause-lines
returns-in-None-clause-lines c = only_line c.args.text.now c.in-None.ensures
