use Rattle.std.proofs.Common.{◌+◌, ◌*◌, ◌≤◌}
use Rattle.shell_files.proofs.Sessions.{HasRead}
use Rattle.shell_files.proofs.att.answer_input.Given as goal

-- the session has come past all that was read, and each octet ends at most one line
abbrev pub invariant-loop-read : goal.invariant-loop-read
invariant-loop-read g l = record {
  so_far : HasRead l.fn.session l.session (g.R.Read.remaining l.fn.reader) (g.R.Read.remaining l.reader) (g.W.Write.contents l.fn.writer)
      (g.W.Write.contents l.writer);
  counts : l.session.number ≤ 512 * l._read + 1;
}
