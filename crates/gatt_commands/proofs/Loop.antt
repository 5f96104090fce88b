-- Host and controller stay joined in whole runs.
use Rattle.std.proofs.Common.{◌≡◌, ℕ, List, [], ◌∷◌, ◌++◌, length, Option, refl, sym, ap, subst, inl, inr}
use Rattle.std.specs.Prelude.{Bool}
use Rattle.att_table.specs.Table.{Contents}
use Rattle.gatt_host.proofs.meaning.Drained.{all_sent}
use Rattle.gatt_host.proofs.model.Items.{drained_where}
use Rattle.gatt_host.specs.Opening.{start_of}
use Rattle.gatt_host.specs.HostModel.{HostModel}
use Rattle.gatt_laws.specs.machine.Input.{run}
use Rattle.gatt_laws.specs.machine.Start.{Start}
use Rattle.gatt_subs.specs.Rows.{Subscriptions}
use Rattle.le_security.specs.declared.entry.Entry.{Entry}
use Rattle.octet_io.specs.Number.{Octets}
use Rattle.scripts.specs.declared.act.Act.{Act}
use Rattle.sim_controller.specs.Simulated.{Simulated, simulated_at_start}
use Rattle.gatt_commands.proofs.Joined.{Joins, joins, is-joined, exchanges, does-act, tells}
use Rattle.gatt_commands.proofs.Running.{keeps_all}
use Rattle.shell_files.specs.declared.fault.ShellFault.{ShellFault}
use Rattle.gatt_commands.specs.declared.notes.Notes.{Notes}
use Rattle.gatt_commands.specs.declared.stage.Stage.{Stage}
use Rattle.gatt_commands.specs.Echo.{Shown, shown_after, shown_behind}
use Rattle.gatt_commands.specs.Exchange.{ExchangesAll, pair_of}
use Rattle.gatt_commands.specs.Loop.{ClosesTheLoop, IsJoinedUpTo, SoFar, after_line_done, after_line, after_lines, nothing_yet, packets_taken}
use Rattle.gatt_commands.specs.Opening.{IsOpened, command_configuration}
use Rattle.gatt_commands.specs.Runs.{EndsAmong, EndsAtNext, IsStageOpened, Runs, RunsLine, simulated}

joins-line : (start : Start) (so_far : SoFar) (shows : Bool) (names : List Octets) (act : Act) (old new : Stage) (held holds : Option Octets)
    (runs : RunsLine shows names act old new held holds) → Joins start old.host old.sim so_far → Joins start new.host new.sim (after_line runs so_far)
joins-line start so_far shows names act old new held holds runs was =
    let done = does-act start so_far act runs.refused old runs.acted runs.done.does was in
    let handed = exchanges start (after_line_done old act so_far) runs.exchanges.count (pair_of runs.acted.host runs.acted.sim runs.heard)
    (pair_of new.host runs.quiet runs.last) runs.exchanges.exchanges done in
    tells start (after_line_done old act so_far) (length names) new.host runs.quiet new.sim runs.told handed

joins-lines : (start : Start) (so_far : SoFar) (shown : Shown) (names : List Octets) (lines : List Act) (old new : Stage) (held holds : Option Octets)
    (runs : Runs shown names lines old new held holds) → Joins start old.host old.sim so_far
    → Joins start new.host new.sim (after_lines shown names lines old new held holds runs so_far)
joins-lines start so_far shown names [] old new held holds runs was = subst (λ (stage : Stage). Joins start stage.host stage.sim so_far) (sym runs.0) was
joins-lines start so_far shown names (act ∷ lines) old new held holds (middle, between, first, rest) was =
    joins-lines start (after_line first.runs so_far) (shown_behind shown) names lines middle new between holds rest
    (joins-line start so_far shown.notices names act old middle first.echoed between first.runs was)

joins-opened : (table : Contents) (keys : List Entry) (rows : Subscriptions) (rx_mtu : ℕ) (host : HostModel) → IsOpened table keys rows rx_mtu host
    → Joins (start_of table keys rows (command_configuration rx_mtu)) host (simulated_at_start simulated) nothing_yet
joins-opened table keys rows rx_mtu host is = record {
  input = [];
  calls = [];
  refines = is.refines;
  controller = refl;
  given = refl;
  asked = refl;
  acts = refl;
  heard_so = λ phone below. refl;
}

-- the lines of a run: all of them, or those before one that ends it
joins-begun : (table : Contents) (next : Option Contents) (keys : List Entry) (rows : Subscriptions) (rx_mtu : ℕ) (old : Stage)
    → IsStageOpened table next keys rows rx_mtu old
    → (begun : Stage) (silent last : Notes) → ExchangesAll (pair_of old.host old.sim silent) (pair_of begun.host begun.sim last)
    → Joins (start_of table keys rows (command_configuration rx_mtu)) begun.host begun.sim nothing_yet
joins-begun table next keys rows rx_mtu old opened begun silent last is =
    exchanges (start_of table keys rows (command_configuration rx_mtu)) nothing_yet is.count (pair_of old.host old.sim silent) (pair_of begun.host begun.sim last)
    is.exchanges
    (subst (λ (sim : Simulated). Joins (start_of table keys rows (command_configuration rx_mtu)) old.host sim nothing_yet) (sym opened.fresh)
    (joins-opened table keys rows rx_mtu old.host opened.opened))

-- the lines before the one that ends a run
record HasLast (fault : ShellFault) (shown : Shown) (names : List Octets) (lines : List Act) (old new : Stage) (held holds : Option Octets) : Type 0 where
  earlier : List Act
  last : Act
  left : List Act
  in_order : lines ≡ earlier ++ last ∷ left
  middle : Stage
  between : Option Octets
  runs : Runs shown names earlier old middle held between
  ends : EndsAtNext fault (shown_after earlier shown) names last middle new between holds

has-last : (fault : ShellFault) (shown : Shown) (names : List Octets) (lines : List Act) (old new : Stage) (held holds : Option Octets)
    → EndsAmong fault shown names lines old new held holds → HasLast fault shown names lines old new held holds
has-last fault shown names [] old new held holds ends = absurd ends
has-last fault shown names (act ∷ lines) old new held holds (inl ends) =
    record { earlier = []; last = act; left = lines; in_order = refl; middle = old; between = held; runs = (refl, keeps_all held); ends = ends }
has-last fault shown names (act ∷ lines) old new held holds (inr (middle, between, first, rest)) =
    let has = has-last fault (shown_behind shown) names lines middle new between holds rest in
    record {
      earlier = act ∷ has.earlier;
      last = has.last;
      left = has.left;
      in_order = ap (λ (lines : List Act). act ∷ lines) has.in_order;
      middle = has.middle;
      between = has.between;
      runs = (middle, between, first, has.runs);
      ends = has.ends;
    }

joined-up-to : (start : Start) (fault : ShellFault) (shown : Shown) (names : List Octets) (lines : List Act) (old new : Stage) (held holds : Option Octets)
    → EndsAmong fault shown names lines old new held holds → Joins start old.host old.sim nothing_yet
    → IsJoinedUpTo start fault shown names lines old new held holds
joined-up-to start fault shown names lines old new held holds ends was =
    let has = has-last fault shown names lines old new held holds ends in
    record {
      earlier = has.earlier;
      last = has.last;
      left = has.left;
      in_order = has.in_order;
      middle = has.middle;
      between = has.between;
      runs = has.runs;
      ends = has.ends;
      joined = is-joined start has.middle.host has.middle.sim (after_lines shown names has.earlier old has.middle held has.between has.runs nothing_yet)
          (joins-lines start nothing_yet shown names has.earlier old has.middle held has.between has.runs was);
    }

pub closes_the_loop : ClosesTheLoop
closes_the_loop = record {
  opened = λ table keys rows rx_mtu host is.
      is-joined (start_of table keys rows (command_configuration rx_mtu)) host (simulated_at_start simulated) nothing_yet (joins-opened table keys rows rx_mtu host is);
  does_line = λ start so_far act told old new does was.
      is-joined start new.host new.sim (after_line_done old act so_far) (does-act start so_far act told old new does (joins start old.host old.sim so_far was));
  exchanges = λ start so_far count before after_calls is was.
      is-joined start after_calls.host after_calls.sim so_far
      (exchanges start so_far count before after_calls is (joins start before.host before.sim so_far was));
  all_sent = λ start so_far host sim joined none out.
      all_sent (run start joined.input) (packets_taken simulated joined.calls) host.server host.frames joined.refines.refines (drained_where host none out);
  each_line = λ start so_far shown names act old new held holds runs was.
      is-joined start new.host new.sim (after_line runs so_far)
      (joins-line start so_far shown names act old new held holds runs (joins start old.host old.sim so_far was));
  all_lines = λ start so_far shown names lines old new held holds runs was.
      is-joined start new.host new.sim (after_lines shown names lines old new held holds runs so_far)
      (joins-lines start so_far shown names lines old new held holds runs (joins start old.host old.sim so_far was));
  whole_run = λ table next keys rows rx_mtu shown script old new held holds opened runs.
      is-joined (start_of table keys rows (command_configuration rx_mtu)) new.host new.sim
      (after_lines shown script.names script.acts runs.begun new held holds runs.lines nothing_yet)
      (joins-lines (start_of table keys rows (command_configuration rx_mtu)) nothing_yet shown script.names script.acts runs.begun new held holds runs.lines
      (joins-begun table next keys rows rx_mtu old opened runs.begun runs.silent runs.last runs.exchanges));
  early_end = λ table next keys rows rx_mtu fault shown script old new held holds opened ends.
      joined-up-to (start_of table keys rows (command_configuration rx_mtu)) fault shown script.names script.acts ends.begun new held holds ends.lines
      (joins-begun table next keys rows rx_mtu old opened ends.begun ends.silent ends.last ends.exchanges);
}
