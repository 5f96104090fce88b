use Rattle.att_words.proofs.Wording.{adds_end, at_error, on_err, on_ok, part_end, part_words}
use Rattle.att_words.proofs.worded.end_with_words.Goals as goal

pub returns-in_err-write_whole-clause-front : goal.returns-in_err-write_whole-clause-front
returns-in_err-write_whole-clause-front g c =
    at_error c.from_residual.result _ (part_words c.args.text.now _ _ c.requires c.in_err-write_whole.ensures.front)

pub returns-clause-worded : goal.returns-clause-worded
returns-clause-worded g c =
    on_ok c.write_whole-2.result (adds_end c.args.text.now _ _ _ c.requires c.in_ok-write_whole.ensures.ok) c.write_whole-2.ensures.ok

pub returns-clause-front : goal.returns-clause-front
returns-clause-front g c =
    on_err c.write_whole-2.result (part_end c.args.text.now _ _ _ c.requires c.in_ok-write_whole.ensures.ok) c.write_whole-2.ensures.front
