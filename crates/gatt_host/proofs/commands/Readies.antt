-- A controller that is initialised has told its buffers.
use Rattle.std.proofs.Common.{◌≡◌, true, refl}
use Rattle.std.specs.Prelude.{is_none, IsSome}
use Rattle.gatt_laws.specs.machine.Controller.{Controller, is_ready}
use Rattle.le_hci.specs.declared.init.Init.{Init}
use Rattle.le_hci.specs.declared.init.Init.TheVariants.{Resetting, Masking, LeMasking, Sizing, SharedSizing}
use Rattle.le_hci.specs.Init.{command_awaited}
use Rattle.le_hci.specs.InitTold.{told_in}

init-told : (init : Init) → is_none (command_awaited init) ≡ true → IsSome (told_in init)
init-told (Resetting settings) is = cc is
init-told (Masking settings) is = cc is
init-told (LeMasking settings) is = cc is
init-told (Sizing settings) is = cc is
init-told (SharedSizing settings) is = cc is
init-told init is = refl

pub ready_told : (controller : Controller) → is_ready controller ≡ true → IsSome (told_in controller.init)
ready_told controller is = init-told controller.init is
