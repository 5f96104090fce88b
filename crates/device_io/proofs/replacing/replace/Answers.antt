use Rattle.device_io.proofs.Disks.{keeps_new_once_done, keeps_old_or_new}
use Rattle.device_io.proofs.replacing.replace.Goals as goal

pub returns-clause-kept : goal.returns-clause-kept
returns-clause-kept c c' = keeps_old_or_new

pub returns-clause-done : goal.returns-clause-done
returns-clause-done c c' = keeps_new_once_done
