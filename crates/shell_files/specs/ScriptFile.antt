-- Scripts and their faults.
use Rattle.std.specs.Prelude.{◌≡◌, Bool, Result, Err}
use Rattle.octet_io.specs.Text.{as_text}
use Rattle.octet_io.specs.Number.{Octets}
use Rattle.scripts.specs.declared.script_fault.ScriptFault.{ScriptFault}
use Rattle.scripts.specs.declared.script_fault.ScriptFault.TheVariants.{BadLine}
use Rattle.scripts.specs.Script.{Acts, script_of}
use Rattle.shell_files.specs.declared.fault.ShellFault.{ShellFault}
use Rattle.shell_files.specs.declared.fault.ShellFault.TheVariants.{Script, Memory}

-- The acts of a script, or its first bad line: 1 if it is not UTF-8.
unfoldable pub script_in : Bool → Octets → Result Acts ScriptFault
script_in has_next octets = as_text (script_of has_next) (BadLine 1) octets

-- A script is refused for its first bad line or for refused memory.
abbrev pub IsScriptRefusal : Bool → Octets → ShellFault → Type 0
IsScriptRefusal has_next octets (Script line) = script_in has_next octets ≡ Err (BadLine line)
IsScriptRefusal has_next octets Memory = Unit {0}
IsScriptRefusal has_next octets _ = ⊥
