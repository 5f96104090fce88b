-- The meaning of a line, and the call of the host that it makes (this profile's own).
use Rattle.std.specs.Prelude.{ℕ, ◌+◌, ◌-◌, ◌^◌, if◌then◌else◌, List, [], get_or, min, take, Option, Some, None, Result, Ok, Err}
use Rattle.std.specs.Option.{option_map_or}
use Rattle.std.specs.Str.{is_utf8}
use Rattle.octet_io.specs.Number.{Octets}
use Rattle.text_words.specs.Split.{words_of}
use Rattle.host_api.specs.declared.app.App.{App}
use Rattle.host_api.specs.declared.app.App.TheVariants as app
use Rattle.host_api.specs.declared.app.AppFault.{AppFault}
use Rattle.host_api.specs.declared.app.AppFault.TheVariants.{NoSuchConnection}
use Rattle.gatt_laws.specs.machine.Calls.{Call, UpdateCall, AuthorizeCall, DisconnectCall, TickCall}
use Rattle.app_lines.specs.Command.{command_of, without_return}
use Rattle.app_lines.specs.Names.{handle_of}
use Rattle.app_lines.specs.declared.command.Command.{Command}
use Rattle.app_lines.specs.declared.command.Command.TheVariants as command
use Rattle.app_lines.specs.declared.names.Named.{Named}
use Rattle.app_lines.specs.declared.wrong.WordFault.{WordFault}
use Rattle.app_lines.specs.declared.wrong.WrongWord.{WrongWord}
use Rattle.device_session.specs.declared.asked.Asked.{Asked}
use Rattle.device_session.specs.declared.asked.Asked.TheVariants as asked
use Rattle.device_session.specs.declared.asking.Unanswered.{Unanswered}
use Rattle.device_session.specs.declared.asking.Unanswered.TheVariants as waits

-- No line, a command, a wrong word, a line that is not UTF-8, or one that is too long.
pub data Question : Type 0 where
  Nothing : Question
  Asks : (command : Command) → Question
  IsWrong : (word : Octets) (fault : WordFault) → Question
  NoText : Question
  TooLong : Question

-- The meaning without the memory of its words.
abbrev pub question_of : Asked → Question
question_of asked.Nothing = Nothing
question_of (asked.Command command) = Asks command
question_of (asked.Wrong word fault) = IsWrong word.now fault
question_of asked.NoText = NoText
question_of asked.TooLong = TooLong

abbrev pub question_by : Octets → Result Command WrongWord → Question
question_by text (Ok command) = Asks command
question_by text (Err wrong) = IsWrong (get_or (words_of text) wrong.place []) wrong.fault

abbrev pub question_of_text : Octets → Question
question_of_text text = if is_utf8 text then question_by text (command_of text) else NoText

unfoldable pub question_of_line : Octets → Question
question_of_line line = question_of_text (without_return line)

-- A line whose answer is put off asks no more.
abbrev pub question_in : Unanswered → Octets → Question
question_in (waits.Line answer) line = question_of_line line
question_in waits.TooLong line = TooLong
question_in unanswered line = Nothing

-- A call without the memory of its octets.
abbrev pub called : App → Call
called (app.Update handle value) = UpdateCall handle value.now
called (app.Authorize handle until) = AuthorizeCall handle until
called (app.Disconnect handle) = DisconnectCall handle
called (app.Tick time) = TickCall time

-- A connection without the name is refused.
abbrev pub for_handle : Option ℕ → (ℕ → Call) → Result (Option Call) AppFault
for_handle (Some handle) call = Ok (Some (call handle))
for_handle None call = Err NoSuchConnection

-- The end of an authorization. Without a time it is the last one.
abbrev pub end_of : ℕ → Option ℕ → ℕ
end_of time lasting =
    option_map_or (λ lasting. min (time + lasting) (2 ^ 64 - 1)) lasting (2 ^ 64 - 1)

-- The call of a command, if it makes one, with at most `room` octets of a value.
abbrev pub call_of : Command → List Named → ℕ → ℕ → Result (Option Call) AppFault
call_of (command.Update handle value) named time room =
    Ok (Some (UpdateCall handle (take room value)))
call_of (command.Allow name lasting) named time room =
    for_handle (handle_of name named) (λ handle. AuthorizeCall handle (end_of time lasting))
call_of (command.Deny name) named time room =
    for_handle (handle_of name named) (λ handle. AuthorizeCall handle 0)
call_of (command.Disconnect name) named time room =
    for_handle (handle_of name named) DisconnectCall
call_of command named time room = Ok None

abbrev pub call_in : Question → List Named → ℕ → ℕ → Result (Option Call) AppFault
call_in (Asks command) named time room = call_of command named time room
call_in question named time room = Ok None
