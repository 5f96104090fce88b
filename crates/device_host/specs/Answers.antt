-- The answer to each line of an application, and the state that a new one reads (this profile's
-- own).
use Rattle.std.specs.Prelude.{◌≡◌, ◌⊎◌, ℕ, ◌==◌, ◌++◌, if◌then◌else◌, Bool, true, false, List, [], codes, Option, Some, None, Result, Err}
use Rattle.std.specs.List.{flat_map, list_any}
use Rattle.std.specs.Option.{option_and_then}
use Rattle.octet_io.specs.Number.{Octets}
use Rattle.att_numbers.specs.Types.{Row}
use Rattle.att_table.specs.Find.{value_found, value_where}
use Rattle.host_api.specs.declared.app.AppFault.{AppFault}
use Rattle.host_api.specs.declared.app.AppFault.TheVariants.{NoSuchConnection}
use Rattle.host_api.specs.declared.connection.Connection.{Connection}
use Rattle.host_api.specs.declared.notice.Notice.TheVariants.{Disconnected}
use Rattle.gatt_host.specs.Connections.{connection_with, connections_in, row_in_force_of}
use Rattle.gatt_host.specs.HostModel.{HostModel}
use Rattle.app_lines.specs.Answers.{done, handle_answer, line, outcome_answer, value_answer}
use Rattle.app_lines.specs.Names.{handle_of, name_of}
use Rattle.app_lines.specs.NoticeText.{named_line}
use Rattle.app_lines.specs.Told.{lines_of_connection, subscribed_line, told_line}
use Rattle.app_lines.specs.Wrong.{wrong_line}
use Rattle.app_lines.specs.declared.command.Command.{Command}
use Rattle.app_lines.specs.declared.command.Command.TheVariants as command
use Rattle.app_lines.specs.declared.names.Named.{Named}
use Rattle.app_lines.specs.declared.told.Told.TheVariants.{Serving, Started, Waiting}
use Rattle.device_host.specs.declared.course.Course.{Course}
use Rattle.device_host.specs.declared.course.Course.TheVariants as course
use Rattle.device_session.specs.Asking.{Asking, after_delay, IsAnswerKept}
use Rattle.device_session.specs.Questions.{Question, Nothing, Asks, IsWrong, NoText, TooLong}

-- An attribute and its bits, unless they are 0.
abbrev pub entry_line : ℕ → ℕ × ℕ → Octets
entry_line name entry =
    if entry.1 == 0 then [] else subscribed_line name entry.0 entry.1

abbrev pub row_lines : Option ℕ → Option Row → Octets
row_lines (Some name) (Some row) = flat_map (entry_line name) row
row_lines name row = []

-- The subscriptions in force of the connection with a handle, if it has a name.
abbrev pub subscription_lines : List Named → HostModel → ℕ → Octets
subscription_lines named host handle =
    row_lines (name_of handle named) (row_in_force_of host handle)

abbrev pub connection_named : ℕ → List Named → HostModel → Option Connection
connection_named name named host =
    option_and_then (λ handle. connection_with handle (connections_in host))
    (handle_of name named)

abbrev pub subscriptions_answer : Option Connection → List Named → HostModel → Octets
subscriptions_answer (Some connection) named host =
    subscription_lines named host connection.handle ++ done
subscriptions_answer None named host = outcome_answer (Err NoSuchConnection)

-- The answer to a command, after the outcome of the call that it made, if it made one.
abbrev pub answer_to : Command → Result (Unit {0}) AppFault → List Named → HostModel → Octets
answer_to (command.Value handle) outcome named host =
    value_answer handle (value_where host.server.table handle)
answer_to command.Connections outcome named host =
    flat_map (lines_of_connection named) (connections_in host) ++ done
answer_to (command.Subscriptions name) outcome named host =
    subscriptions_answer (connection_named name named host) named host
answer_to (command.Find service characteristic number) outcome named host =
    handle_answer (value_found host.server.table service characteristic number)
answer_to command.Application outcome named host = done
answer_to command.Reload outcome named host = done
answer_to command.Stop outcome named host = done
answer_to command outcome named host = outcome_answer outcome

abbrev pub IsSomehowAnswered : Asking → Asking → Type 0
IsSomehowAnswered before after = (text : Octets) × IsAnswerKept (Some text) before after

abbrev pub IsAnsweredOrPutOff : Asking → Asking → Type 0
IsAnsweredOrPutOff before after =
    IsSomehowAnswered before after ⊎ (after ≡ after_delay before)

-- The device neither stops nor reloads.
abbrev pub serves : Course → Bool
serves course.Serves = true
serves other = false

abbrev pub bad : Octets → Octets
bad words = line (codes "bad: " ++ words)

abbrev pub answer_of : Question → Result (Unit {0}) AppFault → List Named → HostModel → Octets
answer_of Nothing outcome named host = []
answer_of (Asks command) outcome named host = answer_to command outcome named host
answer_of (IsWrong word fault) outcome named host = wrong_line word fault
answer_of NoText outcome named host = bad (codes "the line is no text")
answer_of TooLong outcome named host = bad (codes "the line is too long")

-- The line that waits is answered, or memory is refused for its answer. `stop` is answered once the
-- device has stopped, and `reload` at once, or once the host is opened again.
abbrev pub IsLineAnswered : Question → Octets → Asking → Asking → Type 0
IsLineAnswered Nothing text before after = after ≡ before
IsLineAnswered (Asks command.Stop) text before after = after ≡ after_delay before
IsLineAnswered (Asks command.Reload) text before after = IsAnsweredOrPutOff before after
IsLineAnswered question text before after = IsAnswerKept (Some text) before after

abbrev pub lines_of_subscriptions : List Named → HostModel → Connection → Octets
lines_of_subscriptions named host connection =
    subscription_lines named host connection.handle

-- The number of the start, whether a controller is served, who is connected with which key, and the
-- subscriptions.
abbrev pub state_lines : ℕ → Bool → List Named → HostModel → Octets
state_lines started is_serving named host =
    told_line (Started started)
    ++ told_line (if is_serving then Serving else Waiting)
    ++ flat_map (lines_of_connection named) (connections_in host)
    ++ flat_map (lines_of_subscriptions named host) (connections_in host)

-- The subscriptions of the connections whose links have become secure.
abbrev pub lines_if_secured : List ℕ → List Named → HostModel → Connection → Octets
lines_if_secured secured named host connection =
    if list_any (λ handle. handle == connection.handle) secured
    then subscription_lines named host connection.handle
    else []

abbrev pub line_if_named : ℕ → Option ℕ → Octets
line_if_named handle (Some name) = named_line name (Disconnected handle)
line_if_named handle None = []

-- A connection with a name ends.
abbrev pub end_line : List Named → Connection → Octets
end_line named connection = line_if_named connection.handle (name_of connection.handle named)
