-- The kinds of lines (this profile's own).
use Rattle.std.specs.Prelude.{if◌then◌else◌, Result, Ok, Err}
use Rattle.std.specs.Str.{is_utf8}
use Rattle.octet_io.specs.Number.{Octets}
use Rattle.app_lines.specs.Command.{command_of, without_return}
use Rattle.app_lines.specs.declared.command.Command.{Command}
use Rattle.app_lines.specs.declared.command.Command.TheVariants.{Update, Allow, Deny, Disconnect, Application}
use Rattle.app_lines.specs.declared.wrong.WrongWord.{WrongWord}
use Rattle.device_session.specs.declared.asked.LineKind.{LineKind}
use Rattle.device_session.specs.declared.asked.LineKind.TheVariants as kind

abbrev pub kind_of_command : Result Command WrongWord → LineKind
kind_of_command (Ok Application) = kind.Claim
kind_of_command (Ok (Update handle value)) = kind.Call
kind_of_command (Ok (Allow name lasting)) = kind.Call
kind_of_command (Ok (Deny name)) = kind.Call
kind_of_command (Ok (Disconnect name)) = kind.Call
kind_of_command (Ok question) = kind.Question
kind_of_command (Err wrong) = kind.Wrong

abbrev pub kind_of_text : Octets → LineKind
kind_of_text text =
    if is_utf8 text then kind_of_command (command_of text) else kind.Wrong

unfoldable pub kind_of_line : Octets → LineKind
kind_of_line line = kind_of_text (without_return line)
