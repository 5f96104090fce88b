-- The order of the commands of initialisation (this profile's own).
use Rattle.std.specs.Prelude.{◌≡◌, ℕ, Bool, false, ◌==◌, if◌then◌else◌, List, [], ◌∷◌, ◌++◌, Option, Some, None, Result, Ok, Err}
use Rattle.std.specs.Option.{option_to_list}
use Rattle.le_hci.specs.declared.init.Init.{Init}
use Rattle.le_hci.specs.declared.init.InitFault.{InitFault}
use Rattle.le_hci.specs.Command.{Commanded, Reset, SetEventMask, ReadBufferSize, LeSetEventMask, LeReadBufferSize, LeSetRandomAddress, LeSetAdvertisingParameters, LeSetAdvertisingData, LeSetAdvertiseEnable}
use Rattle.le_hci.specs.Init.{event_mask, le_event_mask, command_awaited, init_outcome}
use Rattle.octet_io.specs.Number.{Octets, from_two}
use Rattle.le_hci.specs.declared.peer.TheConstants.{PUBLIC_ADDRESS, RANDOM_ADDRESS}

abbrev pub address_commands : Option Octets → List Commanded
address_commands None = []
address_commands (Some address) = LeSetRandomAddress address ∷ []

abbrev pub own_address_type_of : Option Octets → ℕ
own_address_type_of None = PUBLIC_ADDRESS
own_address_type_of (Some address) = RANDOM_ADDRESS

abbrev pub shared_commands : Bool → List Commanded
shared_commands shared = if shared then ReadBufferSize ∷ [] else []

abbrev pub advertising_commands : Option Octets → Octets → List Commanded
advertising_commands address advertising =
    LeSetAdvertisingParameters (own_address_type_of address) ∷ LeSetAdvertisingData advertising
    ∷ LeSetAdvertiseEnable ∷ []

-- All commands, in order. (P-WIRE-4)
abbrev pub commands_in_order : Option Octets → Octets → Bool → List Commanded
commands_in_order address advertising shared =
    Reset ∷ SetEventMask event_mask ∷ LeSetEventMask le_event_mask ∷ LeReadBufferSize
    ∷ (shared_commands shared
    ++ (address_commands address ++ advertising_commands address advertising))

-- The buffers are shared if the first answer, to LE Read Buffer Size, states length 0 (Core 5.0,
-- Vol 2 Part E, 7.8.2).
abbrev pub tell_shared : List Octets → Bool
tell_shared ((status ∷ length_low ∷ length_high ∷ _) ∷ answers) =
    from_two length_low length_high == 0
tell_shared _ = false

-- The commands sent with these answers, until one fails.
abbrev pub sent_after : Result Init (InitFault × Init) → (Init → List Commanded) → List Commanded
sent_after (Ok following) sent_from = sent_from following
sent_after (Err fault) sent_from = []

abbrev pub init_commands_sent : List Octets → Init → List Commanded
init_commands_sent [] state = option_to_list (command_awaited state)
init_commands_sent (returned ∷ answers) state =
    option_to_list (command_awaited state) ++ sent_after (init_outcome state returned)
    (init_commands_sent answers)

-- The sent commands are a prefix of the others.
pub record IsPrefixOf (sent commands : List Commanded) : Type 0 where
  pub rest : List Commanded
  pub whole : sent ++ rest ≡ commands
