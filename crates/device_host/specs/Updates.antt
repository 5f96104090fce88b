-- The notes of a device about a value that a line has updated (this profile's own).
use Rattle.std.specs.Prelude.{◌≡◌, ◌⊎◌, ℕ, ◌++◌, if◌then◌else◌, Bool, true, false, List, codes, is_ok, Option, Some, None, Result}
use Rattle.std.specs.Option.{option_and_then, option_map}
use Rattle.octet_io.specs.Number.{Octets}
use Rattle.att_table.specs.Find.{value_where}
use Rattle.host_api.specs.declared.app.AppFault.{AppFault}
use Rattle.gatt_host.specs.HostModel.{HostModel}
use Rattle.app_lines.specs.Told.{value_line}
use Rattle.app_lines.specs.declared.command.Command.TheVariants as command
use Rattle.device_session.specs.Pending.{Line, without_subject}
use Rattle.device_session.specs.Questions.{Question, Asks}
use Rattle.device_session.specs.declared.pending.Subject.TheVariants.{Value}

-- The handle of the value that a line has updated, after the answer of the host to its call.
abbrev pub updated_by : Question → Result (Unit {0}) AppFault → Option ℕ
updated_by (Asks (command.Update handle value)) answer =
    if is_ok answer then Some handle else None
updated_by question answer = None

-- A line about the value that waits for a save is dropped.
abbrev pub without_updated : Option ℕ → List Line → List Line
without_updated (Some handle) lines = without_subject (Value handle) lines
without_updated None lines = lines

abbrev pub update_line : HostModel → ℕ → Option Octets
update_line host handle =
    option_map (λ value. value_line (codes "+ updated") handle value)
    (value_where host.server.table handle)

-- The line to the application about an update of its visitor.
abbrev pub line_if_visited : Bool → Option ℕ → HostModel → Option Octets
line_if_visited true updated host = option_and_then (update_line host) updated
line_if_visited false updated host = None

abbrev pub with_text : Option Octets → Octets → Octets
with_text (Some text) lines = lines ++ text
with_text None lines = lines
