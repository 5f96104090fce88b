use Rattle.std.proofs.Common.{rules}
use Rattle.shell_files.proofs.Inputs.{consumes-append, consumes-kept}
use Rattle.shell_files.proofs.input.read_into.Goals as goal
use Rattle.shell_files.proofs.input.read_into.Goals.{in-Ok+in_ok-extend_from_slice-in-Ok, in-Err}

pub loop-read-preserved : goal.loop-read-preserved
loop-read-preserved g c = elim c.match-read.branch [
  | in-Ok+in_ok-extend_from_slice-in-Ok w ↦
      let read = rw w.in-Ok.is at c.read.ensures.bytes in
      record {
        kept = rw (w.octets-is, w.in_ok-extend_from_slice-in-Ok.ensures.items) (consumes-append _ _ _ _ _ c.loop-read.invariant.kept read.0);
        bounded = (search rules);
      }
  | in-Err w ↦
      let kept = rw w.in-Err.is at c.read.ensures.bytes in
      record {
        kept = rw w.octets-is (consumes-kept _ _ _ _ c.loop-read.invariant.kept kept);
        bounded = (search rules);
      }
]
