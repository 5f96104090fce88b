use Rattle.std.proofs.Common.{refl, inl}
use Rattle.gatt_commands.proofs.Running.{keeps_all, passed_on, runs_script, script_ends}
use Rattle.shell_files.specs.declared.fault.ShellFault.{ShellFault}
use Rattle.gatt_commands.specs.Echo.{shown_of}
use Rattle.gatt_commands.specs.Runs.{EndsEarly}
use Rattle.gatt_commands.proofs.lines.run_lines.Goals as goal

pub returns-in_err-exchange-clause-ends : goal.returns-in_err-exchange-clause-ends
returns-in_err-exchange-clause-ends g c =
    passed_on c.from_residual.result c.in_err-exchange.field-0.0
    (λ (fault : ShellFault). EndsEarly fault (shown_of c.args.shown) c.args.script.now
    c.args.stage.now (record c.args.stage.now { host = c.exchange.new.host; sim = c.exchange.new.sim })
    (g.W.Write.contents c.args.writer.now) (g.W.Write.contents c.args.writer.now))
    c.from_residual.ensures.1
    (inl (
      c.new-notes.result,
      record {
        last = c.exchange.new.notes;
        exchanges = c.in_err-exchange.ensures.exchanges;
        next = refl;
        kept = keeps_all (g.W.Write.contents c.args.writer.now);
      },
    ))

pub returns-clause-runs : goal.returns-clause-runs
returns-clause-runs g c =
    runs_script (shown_of c.args.shown) c.args.script.now c.names.result.now c.acts.result.now c.names.ensures c.acts.ensures
    c.args.stage.now (record c.args.stage.now { host = c.exchange.new.host; sim = c.exchange.new.sim }) c.run_acts.new.stage _ _
    c.new-notes.result c.exchange.new.notes c.in_ok-exchange.ensures.exchanges refl c.run_acts.result c.run_acts.ensures.runs

pub returns-clause-ends : goal.returns-clause-ends
returns-clause-ends g c =
    script_ends (shown_of c.args.shown) c.args.script.now c.names.result.now c.acts.result.now c.names.ensures c.acts.ensures
    c.args.stage.now (record c.args.stage.now { host = c.exchange.new.host; sim = c.exchange.new.sim }) c.run_acts.new.stage _ _
    c.new-notes.result c.exchange.new.notes c.in_ok-exchange.ensures.exchanges refl c.run_acts.result c.run_acts.ensures.ends
