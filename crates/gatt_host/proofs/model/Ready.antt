-- What goes out leaves a controller initialised, or not yet.
use Rattle.std.proofs.Common.{◌≡◌, List, [], ◌∷◌, Option, Some, None, refl}
use Rattle.std.specs.Option.{option_map_or}
use Rattle.gatt_host.specs.GoingOut.{command_next, controller_then}
use Rattle.gatt_laws.specs.machine.Controller.{Controller, controller_after, is_ready}
use Rattle.host_connections.specs.SlotState.{SlotState}
use Rattle.le_hci.specs.Command.{Commanded}

ready-by : (controller : Controller) (found : Option Commanded)
    → is_ready (option_map_or (λ command. controller_after controller (command ∷ [])) found controller) ≡ is_ready controller
ready-by controller (Some command) = refl
ready-by controller None = refl

pub ready_then : (controller : Controller) (slots : List (Option SlotState)) → is_ready (controller_then controller slots) ≡ is_ready controller
ready_then controller slots = ready-by controller (command_next controller slots)
