-- What may end a part of a run may end the command.
use Rattle.std.proofs.Common.{◌≡◌, Bool, List, ℕ, sym, subst}
use Rattle.std.specs.Prelude.{Result, Ok, Err, IfErr, IsErrAnd}
use Rattle.shell_files.specs.declared.fault.ShellFault.{ShellFault}
use Rattle.shell_files.specs.declared.fault.ShellFault.TheVariants.{Table, Keys, Rows, Next, Script, Host, Controller, TooLong, NotHex, Unreadable, Unwritten, Listen, Memory}
use Rattle.gatt_commands.specs.Faults.{IsRunCommandFault, IsRunFault, IsScriptRunFault}
use Rattle.shell_files.specs.ScriptFile.{IsScriptRefusal}

ran : (fault : ShellFault) → IsRunFault fault → IsScriptRunFault fault
ran (Host number) is = is
ran (Controller number) is = is
ran TooLong is = is
ran Unwritten is = is
ran Memory is = is
ran (Table number) is = absurd is
ran (Next number) is = absurd is
ran (Keys number) is = absurd is
ran (Rows number) is = absurd is
ran (Script line) is = absurd is
ran (NotHex line) is = absurd is
ran Unreadable is = absurd is
ran Listen is = absurd is

pub ran_at_all : (result : Result Unit ShellFault) → IfErr result IsRunFault → IfErr result IsScriptRunFault
ran_at_all (Ok done) is = is
ran_at_all (Err fault) is = ran fault is

judged : (has_next : Bool) (text : List ℕ) (fault : ShellFault) → IsScriptRefusal has_next text fault → IsScriptRunFault fault
judged has_next text (Script line) refusal = tt
judged has_next text Memory refusal = tt
judged has_next text (Table number) refusal = absurd refusal
judged has_next text (Keys number) refusal = absurd refusal
judged has_next text (Rows number) refusal = absurd refusal
judged has_next text (Next number) refusal = absurd refusal
judged has_next text (Host number) refusal = absurd refusal
judged has_next text (Controller number) refusal = absurd refusal
judged has_next text TooLong refusal = absurd refusal
judged has_next text (NotHex line) refusal = absurd refusal
judged has_next text Unreadable refusal = absurd refusal
judged has_next text Unwritten refusal = absurd refusal
judged has_next text Listen refusal = absurd refusal

-- the refusal of a script that is passed on
pub judged_at_all : (has_next : Bool) (text : List ℕ) (outer : Result Unit ShellFault) (fault : ShellFault)
    → IsErrAnd outer (λ passed_on. passed_on ≡ fault) → IsScriptRefusal has_next text fault → IfErr outer IsScriptRunFault
judged_at_all has_next text (Ok done) fault was refusal = absurd was
judged_at_all has_next text (Err passed_on) fault was refusal =
    subst IsScriptRunFault (sym was) (judged has_next text fault refusal)

begun : (fault : ShellFault) → IsScriptRunFault fault → IsRunCommandFault fault
begun (Script line) is = is
begun (Host number) is = is
begun (Controller number) is = is
begun TooLong is = is
begun Unreadable is = is
begun Unwritten is = is
begun Memory is = is
begun (Table number) is = absurd is
begun (Next number) is = absurd is
begun (Keys number) is = absurd is
begun (Rows number) is = absurd is
begun (NotHex line) is = absurd is
begun Listen is = absurd is

pub run_at_all : (result : Result Unit ShellFault) → IfErr result IsScriptRunFault → IfErr result IsRunCommandFault
run_at_all (Ok done) is = is
run_at_all (Err fault) is = begun fault is

-- a fault from the script on is none of the files in front of it
pub no_table : (result : Result Unit ShellFault) (number : ℕ) → IfErr result IsScriptRunFault → result ≡ Err (Table number) → ⊥
no_table result number faults is = subst (λ (ended : Result Unit ShellFault). IfErr ended IsScriptRunFault) is faults

pub no_next : (result : Result Unit ShellFault) (number : ℕ) → IfErr result IsScriptRunFault → result ≡ Err (Next number) → ⊥
no_next result number faults is = subst (λ (ended : Result Unit ShellFault). IfErr ended IsScriptRunFault) is faults

pub no_keys : (result : Result Unit ShellFault) (number : ℕ) → IfErr result IsScriptRunFault → result ≡ Err (Keys number) → ⊥
no_keys result number faults is = subst (λ (ended : Result Unit ShellFault). IfErr ended IsScriptRunFault) is faults

pub no_rows : (result : Result Unit ShellFault) (number : ℕ) → IfErr result IsScriptRunFault → result ≡ Err (Rows number) → ⊥
no_rows result number faults is = subst (λ (ended : Result Unit ShellFault). IfErr ended IsScriptRunFault) is faults
