-- The order in which the files of a run are judged.
use Rattle.std.proofs.Common.{◌≡◌, ◌<◌, ℕ, Bool, List, Option, Some, None, subst, ◌∙◌, arith}
use Rattle.std.specs.Prelude.{IfSome, IsOk, IsErrAnd, Result, Ok, Err}
use Rattle.att_table.specs.Table.{Contents}
use Rattle.gatt_subs.specs.Rows.{Subscriptions}
use Rattle.le_security.specs.declared.entry.Entry.{Entry}
use Rattle.scripts.specs.declared.script_fault.ScriptFault.{ScriptFault}
use Rattle.scripts.specs.declared.script_fault.ScriptFault.TheVariants.{BadLine}
use Rattle.scripts.specs.Script.{Acts}
use Rattle.shell_files.specs.declared.fault.ShellFault.{ShellFault}
use Rattle.shell_files.specs.declared.fault.ShellFault.TheVariants.{Table, Keys, Rows, Next, Script, Host, Controller, TooLong, NotHex, Unreadable, Unwritten, Listen, Memory}
use Rattle.gatt_commands.specs.declared.script_text.Shows.{Shows}
use Rattle.gatt_commands.specs.Runs.{RunsFile}
use Rattle.shell_files.specs.Saving.{Save}
use Rattle.shell_files.specs.ScriptFile.{script_in, IsScriptRefusal}
use Rattle.shell_files.specs.Turns.{IsPast, OfScript, turn_place, place_of_fault}

-- what is judged is all of the input
pub judged_all : (known : Option (List ℕ)) (items text : List ℕ) (judged given : Bool) (wanted : Result Acts ScriptFault)
    → IfSome known (λ input. items ≡ input) → text ≡ items → judged ≡ given → script_in judged text ≡ wanted
    → IfSome known (λ octets. script_in given octets ≡ wanted)
judged_all None items text judged given wanted all same has is = tt
judged_all (Some input) items text judged given wanted all same has is =
    subst (λ (octets : List ℕ). script_in given octets ≡ wanted) (same ∙ all) (subst (λ (next : Bool). script_in next text ≡ wanted) has is)

-- so is all that is so of it
pub known_all : (known : Option (List ℕ)) (items text : List ℕ) (P : List ℕ → Type 0) → IfSome known (λ input. items ≡ input) → text ≡ items
    → P text → IfSome known P
known_all None items text P all same is = tt
known_all (Some input) items text P all same is = subst P (same ∙ all) is

-- and what is run of it
pub runs_all : (result : Result Unit ShellFault) (shows : Shows) (rx_mtu : ℕ) (table : Contents) (next : Option Contents) (keys : List Entry) (rows : Subscriptions)
    (known : Option (List ℕ)) (items text : List ℕ) (held holds : Option (List ℕ)) (saves saves_then : Option (List Save))
    → IfSome known (λ input. items ≡ input) → text ≡ items → RunsFile result shows rx_mtu table next keys rows (Some text) held holds saves saves_then
    → RunsFile result shows rx_mtu table next keys rows known held holds saves saves_then
runs_all result shows rx_mtu table next keys rows None items text held holds saves saves_then all same runs = record {
  script = runs.script;
  has_script = tt;
  shown = runs.shown;
  has_notices = runs.has_notices;
  has_lines = tt;
  begun = runs.begun;
  opened = runs.opened;
  last = runs.last;
  runs = runs.runs;
}
runs_all result shows rx_mtu table next keys rows (Some input) items text held holds saves saves_then all same runs =
    subst (λ (octets : List ℕ). RunsFile result shows rx_mtu table next keys rows (Some octets) held holds saves saves_then) (same ∙ all) runs

-- a script is refused for the line that is told
pub refused_at : (has_next : Bool) (text : List ℕ) (outer : Result Unit ShellFault) (fault : ShellFault) (line : ℕ)
    → IsErrAnd outer (λ passed_on. passed_on ≡ fault) → IsScriptRefusal has_next text fault → outer ≡ Err (Script line)
    → script_in has_next text ≡ Err (BadLine line)
refused_at has_next text (Ok done) fault line was refusal is = absurd was
refused_at has_next text (Err passed_on) fault line was refusal is =
    let same : fault ≡ Script line = cc (was, is) in subst (IsScriptRefusal has_next text) same refusal

past : (has_next : Bool) (text : List ℕ) (fault : ShellFault) → IsScriptRefusal has_next text fault → turn_place OfScript < place_of_fault fault → ⊥
past has_next text (Script line) refusal later = omega (arith, later)
past has_next text Memory refusal later = omega (arith, later)
past has_next text (Table number) refusal later = refusal
past has_next text (Keys number) refusal later = refusal
past has_next text (Rows number) refusal later = refusal
past has_next text (Next number) refusal later = refusal
past has_next text (Host number) refusal later = refusal
past has_next text (Controller number) refusal later = refusal
past has_next text TooLong refusal later = refusal
past has_next text (NotHex line) refusal later = refusal
past has_next text Unreadable refusal later = refusal
past has_next text Unwritten refusal later = refusal
past has_next text Listen refusal later = refusal

-- where a script is refused, no run begins
pub never_past : (has_next : Bool) (text : List ℕ) (outer : Result Unit ShellFault) (fault : ShellFault)
    → IsErrAnd outer (λ passed_on. passed_on ≡ fault) → IsScriptRefusal has_next text fault → IsPast OfScript outer → ⊥
never_past has_next text (Ok done) fault was refusal later = absurd was
never_past has_next text (Err passed_on) fault was refusal later =
    past has_next text fault refusal (subst (λ (f : ShellFault). turn_place OfScript < place_of_fault f) was later)

-- nor where memory is refused before
pub refused_never_past : (outer : Result Unit ShellFault) (fault : ShellFault)
    → IsErrAnd outer (λ passed_on. passed_on ≡ fault) → fault ≡ Memory → IsPast OfScript outer → ⊥
refused_never_past (Ok done) fault was is later = absurd was
refused_never_past (Err passed_on) fault was is later =
    let past : turn_place OfScript < place_of_fault Memory = subst (λ (f : ShellFault). turn_place OfScript < place_of_fault f) (was ∙ is) later in
    omega (arith, past)

-- what is judged where a next table was read is judged where one was given
pub script_refused : (known : Option (List ℕ)) (judged given : Bool) (line : ℕ) → judged ≡ given
    → IfSome known (λ octets. script_in judged octets ≡ Err (BadLine line)) → IfSome known (λ octets. script_in given octets ≡ Err (BadLine line))
script_refused known judged given line same is =
    subst (λ (has_next : Bool). IfSome known (λ octets. script_in has_next octets ≡ Err (BadLine line))) same is

pub script_accepted : (known : Option (List ℕ)) (judged given : Bool) → judged ≡ given
    → IfSome known (λ octets. IsOk (script_in judged octets)) → IfSome known (λ octets. IsOk (script_in given octets))
script_accepted known judged given same is =
    subst (λ (has_next : Bool). IfSome known (λ octets. IsOk (script_in has_next octets))) same is
