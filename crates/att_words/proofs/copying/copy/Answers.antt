use Rattle.att_words.proofs.Wording.{copied_kept, copied_more, copied_none}
use Rattle.att_words.proofs.copying.copy.Goals as goal
use Rattle.att_words.proofs.copying.copy.Goals.{in-Ok+in_ok-put_and_flush-in-Ok, in-Err}

pub loop-read-init : goal.loop-read-init
loop-read-init g c = copied_none _ _

pub loop-read-preserved : goal.loop-read-preserved
loop-read-preserved g c = elim c.match-read.branch [
  | in-Ok+in_ok-put_and_flush-in-Ok w ↦
      let read = rw w.in-Ok.is at c.read.ensures.bytes in
      rw w.worded-is (copied_more _ _ _ _ _ _ _ c.loop-read.invariant read.0 w.in_ok-put_and_flush-in-Ok.ensures.ok)
  | in-Err w ↦
      let kept = rw w.in-Err.is at c.read.ensures.bytes in
      rw w.worded-is (copied_kept _ _ _ _ _ c.loop-read.invariant kept)
]
