use Rattle.shell_files.proofs.Printing.{printed_more, printed_kept}
use Rattle.shell_files.proofs.output.print.Goals as goal
use Rattle.shell_files.proofs.output.print.Goals.{in-Ok, in-Err}

pub loop-write-preserved : goal.loop-write-preserved
loop-write-preserved g c = elim c.match-write.branch [
  | in-Ok w ↦
      let appended = rw w.in-Ok.is at c.write.ensures.bytes in
      rw (w.rest-is, w.split_at.ensures.back) (printed_more _ _ _ _ _ _ c.loop-write.invariant appended)
  | in-Err w ↦
      let kept = rw w.in-Err.is at c.write.ensures.bytes in
      rw w.rest-is (printed_kept _ _ _ _ _ c.loop-write.invariant kept)
]
