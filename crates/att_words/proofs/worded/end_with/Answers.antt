use Rattle.att_words.proofs.Wording.{adds_same, on_err, on_ok, part_same}
use Rattle.att_words.proofs.worded.end_with.Goals as goal

pub returns-else-has_words-clause-worded : goal.returns-else-has_words-clause-worded
returns-else-has_words-clause-worded g c = on_ok c.write_whole.result (adds_same _ _ _) c.write_whole.ensures.ok

pub returns-else-has_words-clause-front : goal.returns-else-has_words-clause-front
returns-else-has_words-clause-front g c = on_err c.write_whole.result (part_same _ _ _) c.write_whole.ensures.front
