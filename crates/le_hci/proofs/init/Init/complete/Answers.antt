use Rattle.le_hci.proofs.HandedBack.{same_state}
use Rattle.le_hci.proofs.init.Init.complete.Goals as goal

pub returns-in-Ok-clause-handed_back : goal.returns-in-Ok-clause-handed_back
returns-in-Ok-clause-handed_back c = rw c.advance.ensures (same_state _ _)
