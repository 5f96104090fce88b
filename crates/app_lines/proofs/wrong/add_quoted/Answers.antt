use Rattle.std.proofs.Common.{◌≡◌, ◌++◌, map, sym, subst, OnOk}
use Rattle.std.proofs.lemmas.List.{take_all}
use Rattle.octet_io.specs.Number.{Octets}
use Rattle.app_lines.specs.Wrong.{printable}
use Rattle.app_lines.proofs.wrong.add_quoted.Goals as goal

pub returns-then-word-le-MOST_QUOTED : goal.returns-then-word-le-MOST_QUOTED
returns-then-word-le-MOST_QUOTED c = record {
  ok =
      subst (λ (front : Octets). OnOk c.add_printable.result (c.add_printable.new.text.items ≡ c.args.text.now.items ++ map printable front))
      (sym (take_all 32 c.args.word.now c.if-word-le-MOST_QUOTED.true)) c.add_printable.ensures.ok;
}
