-- The controller as a host knows it, and its pending commands (Core 5.0, Vol 2 Part E, 4.4; their
-- order is this profile's own).
use Rattle.std.specs.Prelude.{ℕ, ◌+◌, ◌-◌, ◌==◌, nat_lt, Bool, ◌&&◌, ◌||◌, not, is_some, is_none, if◌then◌else◌, List, [], ◌∷◌, ◌++◌, length, take, Option, Some, None}
use Rattle.std.specs.List.{list_any}
use Rattle.std.specs.Option.{option_to_list}
use Rattle.gatt_laws.specs.machine.Event.{Ordinal}
use Rattle.gatt_laws.specs.machine.ConnectionState.{ConnectionState, KeyReply}
use Rattle.le_hci.specs.Command.{Commanded, Disconnect, LeSetAdvertiseEnable, LeLongTermKeyRequestReply, LeLongTermKeyRequestNegativeReply, opcode_of}
use Rattle.le_hci.specs.Init.{command_awaited}
use Rattle.le_hci.specs.declared.init.Init.{Init}

-- `credit` counts the commands that it accepts now. `awaiting`: the command that initialisation
-- awaits was sent. `advertising`: it advertises as far as the host knows. `refused`: it refused to
-- since a connection last ended.
pub record Controller : Type 0 where
  pub credit : ℕ
  pub init : Init
  pub awaiting : Bool
  pub advertising : Bool
  pub refused : Bool

abbrev pub is_ready : Controller → Bool
is_ready controller = is_none (command_awaited controller.init)

abbrev pub Slots : Type 0
Slots = List (Option Ordinal)

abbrev pub has_free : Slots → Bool
has_free slots = list_any (λ slot. is_none slot) slots

-- A connection takes the lowest free slot. (P-ALL-2)
abbrev pub with_taken : Ordinal → Slots → Slots
with_taken ordinal [] = []
with_taken ordinal (None ∷ slots) = Some ordinal ∷ slots
with_taken ordinal (Some other ∷ slots) = Some other ∷ with_taken ordinal slots

abbrev pub with_freed : Ordinal → Slots → Slots
with_freed ordinal [] = []
with_freed ordinal (None ∷ slots) = None ∷ with_freed ordinal slots
with_freed ordinal (Some other ∷ slots) =
    (if other == ordinal then None else Some other) ∷ with_freed ordinal slots

-- The command for a connection is a Disconnect, else the reply to the request for its key.
abbrev pub key_reply_of : ℕ → KeyReply → Commanded
key_reply_of handle (Some key) = LeLongTermKeyRequestReply handle key
key_reply_of handle None = LeLongTermKeyRequestNegativeReply handle

abbrev pub reply_due : ℕ → Option KeyReply → Option Commanded
reply_due handle None = None
reply_due handle (Some reply) = Some (key_reply_of handle reply)

abbrev pub disconnect_or : ℕ → Option ℕ → Option Commanded → Option Commanded
disconnect_or handle (Some reason) other = Some (Disconnect handle reason)
disconnect_or handle None other = other

abbrev pub command_for : ConnectionState → Option Commanded
command_for connection =
    disconnect_or connection.handle connection.reason (reply_due connection.handle connection.reply)

abbrev pub commands_for : (Ordinal → ConnectionState) → Slots → List Commanded
commands_for connections [] = []
commands_for connections (None ∷ slots) = commands_for connections slots
commands_for connections (Some ordinal ∷ slots) =
    option_to_list (command_for (connections ordinal)) ++ commands_for connections slots

abbrev pub command_of_init : Controller → List Commanded
command_of_init controller =
    if controller.awaiting then [] else option_to_list (command_awaited controller.init)

-- Advertising is enabled if it is off and a slot is free; after a refusal, only once a connection
-- has ended. (P-ALL-6)
abbrev pub enabling : Controller → Slots → List Commanded
enabling controller slots =
    if has_free slots && not controller.advertising && not controller.refused
    then LeSetAdvertiseEnable ∷ [] else []

-- (P-ALL-6)
unfoldable pub commands_due : Controller → (Ordinal → ConnectionState) → Slots → List Commanded
commands_due controller connections slots =
    command_of_init controller ++ commands_for connections slots ++ enabling controller slots

abbrev pub commands_sent : Controller → (Ordinal → ConnectionState) → Slots → List Commanded
commands_sent controller connections slots =
    take controller.credit (commands_due controller connections slots)

abbrev pub count_before : Ordinal → (Ordinal → ConnectionState) → Slots → ℕ
count_before ordinal connections [] = 0
count_before ordinal connections (None ∷ slots) = count_before ordinal connections slots
count_before ordinal connections (Some other ∷ slots) =
    if other == ordinal then 0
    else length (option_to_list (command_for (connections other)))
    + count_before ordinal connections slots

abbrev pub without_command : ConnectionState → ConnectionState
without_command connection =
    if is_some connection.reason then record connection { reason = None }
    else record connection { reply = None }

abbrev pub after_sending : Controller → (Ordinal → ConnectionState) → Slots → Ordinal
    → ConnectionState
after_sending controller connections slots ordinal =
    if nat_lt (length (command_of_init controller) + count_before ordinal connections slots)
    controller.credit
    then without_command (connections ordinal) else connections ordinal

abbrev pub is_enabling : Commanded → Bool
is_enabling command = opcode_of command == opcode_of LeSetAdvertiseEnable

-- The controller counts as advertising once the command to enable that is sent.
abbrev pub controller_after : Controller → List Commanded → Controller
controller_after controller commands = record controller {
  credit = controller.credit - length commands;
  awaiting =
      controller.awaiting
      || (is_some (command_awaited controller.init) && nat_lt 0 controller.credit);
  advertising = controller.advertising || list_any is_enabling commands;
}
