-- Lines are run one after the other.
use Rattle.std.proofs.Common.{◌≡◌, ℕ, ◌+◌, ◌<◌, Bool, false, List, [], ◌∷◌, length, drop, get_or, Option, None, Some, Result, Ok, Err, refl, sym, ap, subst, inl, inr, ◌∙◌}
use Rattle.std.specs.Prelude.{IfErr, IsErrAnd, OnErr, OnOk}
use Rattle.std.specs.Io.KnownBytes.{Appends, Keeps}
use Rattle.std.proofs.lemmas.List.{drop_more}
use Rattle.octet_io.specs.Number.{Octets}
use Rattle.octet_io.specs.Stream.{WritesFront}
use Rattle.scripts.specs.declared.act.Act.{Act}
use Rattle.scripts.specs.Script.{Acts}
use Rattle.sim_controller.specs.Simulated.{Simulated}
use Rattle.gatt_commands.specs.declared.refused.Refused.{Refused}
use Rattle.shell_files.specs.declared.fault.ShellFault.{ShellFault}
use Rattle.shell_files.specs.declared.fault.ShellFault.TheVariants.{Table, Keys, Rows, Next, Script, Host, Controller, TooLong, NotHex, Unreadable, Unwritten, Listen, Memory}
use Rattle.gatt_commands.specs.declared.notes.Notes.{Notes}
use Rattle.gatt_commands.specs.declared.stage.Stage.{Stage}
use Rattle.gatt_commands.specs.Echo.{Shown, shown_behind}
use Rattle.gatt_commands.specs.Exchange.{ExchangesAll, pair_of}
use Rattle.gatt_commands.specs.Faults.{IsExchangeFault}
use Rattle.gatt_commands.specs.Lines.{with_told_phones}
use Rattle.gatt_commands.specs.Runs.{EndsAmong, EndsAtLine, EndsAtNext, EndsEarly, Fails, FailsToExchange, FailsToNote, LineIsDone, Runs, RunsAll, RunsLine, RunsNext, line_text}

pub keeps_all : (held : Option Octets) → Keeps held held
keeps_all None = tt
keeps_all (Some octets) = refl

-- what is so of a fault is so of it where it is passed on
pub passed_on : {T : Type 0} (result : Result T ShellFault) (fault : ShellFault) (P : ShellFault → Type 0)
    → IsErrAnd result (λ passed. passed ≡ fault) → P fault → IfErr result P
passed_on (Ok done) fault P was is = absurd was
passed_on (Err passed) fault P was is = subst P (sym was) is

-- a line that ends for a fault of the exchange
fails-exchanging : (fault : ShellFault) (shows : Bool) (names : List Octets) (refused : Option Refused) (heard : Notes) (old new : Stage)
    (held holds : Option Octets)
    → IsExchangeFault fault → FailsToExchange fault heard old new held holds → Fails fault shows names refused heard old new held holds
fails-exchanging (Host number) shows names refused heard old new held holds is fails = fails
fails-exchanging (Controller number) shows names refused heard old new held holds is fails = fails
fails-exchanging TooLong shows names refused heard old new held holds is fails = fails
fails-exchanging (Table number) shows names refused heard old new held holds is fails = fails
fails-exchanging (Keys number) shows names refused heard old new held holds is fails = fails
fails-exchanging (Rows number) shows names refused heard old new held holds is fails = fails
fails-exchanging (Next number) shows names refused heard old new held holds is fails = fails
fails-exchanging (Script line) shows names refused heard old new held holds is fails = fails
fails-exchanging (NotHex line) shows names refused heard old new held holds is fails = fails
fails-exchanging Unreadable shows names refused heard old new held holds is fails = fails
fails-exchanging Listen shows names refused heard old new held holds is fails = fails
fails-exchanging Memory shows names refused heard old new held holds is fails = absurd is
fails-exchanging Unwritten shows names refused heard old new held holds is fails = absurd is

module _ (shows : Bool) (names : List Octets) (act : Act) (refused : Option Refused) (heard : Notes) (old acted new : Stage) (held holds : Option Octets)
    (done : LineIsDone shows act refused old acted heard) where
  pub ends_exchanging : (result : Result (Unit {0}) ShellFault) (fault : ShellFault) → IsErrAnd result (λ passed. passed ≡ fault)
      → IsExchangeFault fault → FailsToExchange fault heard acted new held holds → IfErr result (λ fault. EndsAtLine fault shows names act old new held holds)
  ends_exchanging result fault was is fails =
      passed_on result fault (λ fault. EndsAtLine fault shows names act old new held holds) was
      (record {
        refused = refused;
        acted = acted;
        heard = heard;
        done = done;
        fails = fails-exchanging fault shows names refused heard acted new held holds is
            fails;
      })

  pub runs_line : (result : Result (Unit {0}) ShellFault) (quiet : Simulated) (last : Notes)
      → ExchangesAll (pair_of acted.host acted.sim heard) (pair_of new.host quiet last) → last.is_refused ≡ false → new.next ≡ acted.next
      → OnOk result (Appends held holds (line_text names refused quiet last)) → OnOk result (new.sim ≡ with_told_phones quiet (length names))
      → OnOk result (RunsLine shows names act old new held holds)
  runs_line (Err fault) quiet last exchanges kept next printed told = tt
  runs_line (Ok ran) quiet last exchanges kept next printed told = record {
    refused = refused;
    acted = acted;
    quiet = quiet;
    heard = heard;
    last = last;
    done = done;
    exchanges = exchanges;
    kept = kept;
    printed = printed;
    told = told;
    next = next;
  }

  pub ends_noting : FailsToNote shows heard acted new held holds → EndsAtLine Memory shows names act old new held holds
  ends_noting fails = record { refused = refused; acted = acted; heard = heard; done = done; fails = fails }

  pub ends_printing : (result : Result (Unit {0}) ShellFault) (quiet : Simulated) (last : Notes)
      → ExchangesAll (pair_of acted.host acted.sim heard) (pair_of new.host quiet last)
      → new.next ≡ acted.next → IfErr result (λ fault. fault ≡ Unwritten) → OnErr result (WritesFront (line_text names refused quiet last) held holds)
      → IfErr result (λ fault. EndsAtLine fault shows names act old new held holds)
  ends_printing (Ok done) quiet last exchanges next is front = tt
  ends_printing (Err fault) quiet last exchanges next is front =
      subst (λ (fault : ShellFault). EndsAtLine fault shows names act old new held holds) (sym is)
      (record {
        refused = refused;
        acted = acted;
        heard = heard;
        done = done;
        fails = record { quiet = quiet; last = last; exchanges = exchanges; next = next; printed = front };
      })

-- some lines are run, and of those these are left, with what is left to show: whoever runs them has run all, and a fault among them ends the run
pub record HasRun (shown left : Shown) (names : List Octets) (acts rest : List Act) (old now : Stage) (held holds : Option Octets) : Type 0 where
  pub all : (new : Stage) (last : Option Octets) → Runs left names rest now new holds last → Runs shown names acts old new held last
  pub ends : (fault : ShellFault) (new : Stage) (last : Option Octets) → EndsAmong fault left names rest now new holds last
      → EndsAmong fault shown names acts old new held last

module _ (shown left : Shown) (names : List Octets) (acts : List Act) (index : ℕ) (act : Act) (below : index < length acts) (same : act ≡ get_or acts index act)
    (old now : Stage) (held between : Option Octets) (so_far : HasRun shown left names acts (drop index acts) old now held between) where
  next-line : act ∷ drop (index + 1) acts ≡ drop index acts
  next-line = ap (λ (first : Act). first ∷ drop (index + 1) acts) same ∙ sym (drop_more acts index act below)

  pub run_more : (behind : Shown) → behind ≡ shown_behind left → (next : Stage) (holds : Option Octets)
      → RunsNext left names act now next between holds → HasRun shown behind names acts (drop (index + 1) acts) old next held holds
  run_more behind is_left next holds line =
      subst (λ (behind : Shown). HasRun shown behind names acts (drop (index + 1) acts) old next held holds) (sym is_left) (record {
        all = λ new last runs.
            so_far.all new last (subst (λ (rest : List Act). Runs left names rest now new between last) next-line (next, holds, line, runs));
        ends = λ fault new last ends.
            so_far.ends fault new last
            (subst (λ (rest : List Act). EndsAmong fault left names rest now new between last) next-line (inr (next, holds, line, ends)));
      })

  pub run_ends : (result : Result (Unit {0}) ShellFault) (fault : ShellFault) (new : Stage) (holds : Option Octets) → IsErrAnd result (λ passed. passed ≡ fault)
      → EndsAtNext fault left names act now new between holds → IfErr result (λ fault. EndsAmong fault shown names acts old new held holds)
  run_ends result fault new holds was line =
      passed_on result fault (λ fault. EndsAmong fault shown names acts old new held holds) was
      (so_far.ends fault new holds
      (subst (λ (rest : List Act). EndsAmong fault left names rest now new between holds) next-line (inl line)))

pub run_all : (shown left : Shown) (names : List Octets) (acts rest : List Act) (old now : Stage) (held holds : Option Octets)
    → HasRun shown left names acts rest old now held holds → rest ≡ [] → Runs shown names acts old now held holds
run_all shown left names acts rest old now held holds so_far none =
    so_far.all now holds (subst (λ (rest : List Act). Runs left names rest now now holds holds) (sym none) (refl, keeps_all holds))

-- a script is its lines
module _ (shown : Shown) (script : Acts) (names : List Octets) (acts : List Act) (same_names : names ≡ script.names) (same_acts : acts ≡ script.acts)
    (old begun new : Stage) (held holds : Option Octets) (silent last : Notes)
    (exchanges : ExchangesAll (pair_of old.host old.sim silent) (pair_of begun.host begun.sim last))
    (next : begun.next ≡ old.next) where
  pub runs_script : (result : Result (Unit {0}) ShellFault) → OnOk result (Runs shown names acts begun new held holds)
      → OnOk result (RunsAll shown script old new held holds)
  runs_script (Err fault) runs = tt
  runs_script (Ok done) runs = record {
    begun = begun;
    silent = silent;
    last = last;
    exchanges = exchanges;
    next = next;
    lines = subst (λ (names : List Octets). Runs shown names script.acts begun new held holds) same_names
        (subst (λ (acts : List Act). Runs shown names acts begun new held holds) same_acts runs);
  }

  pub script_ends : (result : Result (Unit {0}) ShellFault) → IfErr result (λ fault. EndsAmong fault shown names acts begun new held holds)
      → IfErr result (λ fault. EndsEarly fault shown script old new held holds)
  script_ends (Ok done) ends = tt
  script_ends (Err fault) ends = inr (record {
    begun = begun;
    silent = silent;
    last = last;
    exchanges = exchanges;
    next = next;
    lines = subst (λ (names : List Octets). EndsAmong fault shown names script.acts begun new held holds) same_names
        (subst (λ (acts : List Act). EndsAmong fault shown names acts begun new held holds) same_acts ends);
  })
