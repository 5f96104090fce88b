use Rattle.shell_files.proofs.Sessions.{break_kept}
use Rattle.shell_files.proofs.att.take_and_write_out.Goals as goal

pub returns-then-is_err-clause-breaks_off : goal.returns-then-is_err-clause-breaks_off
returns-then-is_err-clause-breaks_off g c h = break_kept _ _ _ _ _ _ c.in_ok-take.ensures.passes c.flush.ensures.bytes
