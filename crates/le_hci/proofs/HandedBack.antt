-- A state that is handed back is the same.
use Rattle.std.proofs.Common.{◌≡◌, refl}
use Rattle.std.specs.Prelude.{Result, Ok, Err, IfErr}
use Rattle.le_hci.specs.declared.init.Init.{Init}
use Rattle.le_hci.specs.declared.init.InitFault.{InitFault}
use Rattle.le_hci.specs.Init.{handed_back}

pub same_state : (state : Init) (outcome : Result Init InitFault) → IfErr (handed_back state outcome) (λ (e : InitFault × Init). e.1 ≡ state)
same_state state (Ok following) = tt
same_state state (Err fault) = refl
