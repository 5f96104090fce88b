-- The buffers that the states of initialisation know.
use Rattle.std.specs.Prelude.{◌<◌, ◌≤◌, List, [], ◌∷◌, IfSome, Option, Some, None, Result, Ok, Err}
use Rattle.octet_io.specs.Number.{Octets}
use Rattle.le_hci.specs.declared.buffers.Buffers.{Buffers}
use Rattle.le_hci.specs.declared.buffers.TheConstants.{LEAST_LENGTH}
use Rattle.le_hci.specs.declared.init.Init.{Init}
use Rattle.le_hci.specs.declared.init.Init.TheVariants.{Resetting, Masking, LeMasking, Sizing, SharedSizing, Addressing, Describing, Filling, Enabling, Ready}
use Rattle.le_hci.specs.declared.init.InitFault.{InitFault}
use Rattle.le_hci.specs.Init.{init_outcome}

abbrev pub told_in : Init → Option Buffers
told_in (Addressing address advertising buffers) = Some buffers
told_in (Describing own_address_type advertising buffers) = Some buffers
told_in (Filling advertising buffers) = Some buffers
told_in (Enabling buffers) = Some buffers
told_in (Ready length packets) = Some (record { length = length; packets = packets })
told_in (Resetting settings) = None
told_in (Masking settings) = None
told_in (LeMasking settings) = None
told_in (Sizing settings) = None
told_in (SharedSizing settings) = None

pub record AreUsable (buffers : Buffers) : Type 0 where
  pub length_least : LEAST_LENGTH ≤ buffers.length
  pub packets_some : 0 < buffers.packets

abbrev pub KnowsUsable : Init → Type 0
KnowsUsable state = IfSome (told_in state) AreUsable

-- The state after these answers, until one fails.
abbrev pub state_after : Result Init (InitFault × Init) → (Init → Init) → Init
state_after (Ok following) go_on = go_on following
state_after (Err fault) go_on = fault.1

abbrev pub state_after_answers : List Octets → Init → Init
state_after_answers [] state = state
state_after_answers (returned ∷ answers) state =
    state_after (init_outcome state returned) (state_after_answers answers)
