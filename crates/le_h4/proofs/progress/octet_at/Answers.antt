use Rattle.std.proofs.Common.{sym, ◌∙◌, arith}
use Rattle.std.proofs.lemmas.Option.{slice_get-get_or}
use Rattle.le_h4.proofs.Joining.{get_first}
use Rattle.le_h4.proofs.progress.octet_at.Goals as goal

pub returns-then-index-first : goal.returns-then-index-first
returns-then-index-first c =
    sym (get_first c.args.first.now c.args.second.now c.args.index (omega (arith, c.if-index-first.true))
    ∙ slice_get-get_or c.args.first.now c.args.index 0 (omega (arith, c.if-index-first.true)))
