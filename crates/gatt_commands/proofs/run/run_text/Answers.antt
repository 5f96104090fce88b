use Rattle.std.proofs.Common.{refl, inr}
use Rattle.std.specs.Prelude.{is_some, Ok, Err, Some}
use Rattle.scripts.specs.declared.script_fault.ScriptFault.TheVariants.{BadLine}
use Rattle.gatt_commands.specs.Echo.{lines_left}
use Rattle.shell_files.specs.ScriptFile.{script_in}
use Rattle.gatt_commands.proofs.RunFaults.{judged_at_all, ran_at_all}
use Rattle.shell_files.proofs.Turns.{accepted}
use Rattle.gatt_commands.proofs.RunOrders.{judged_all, refused_at, never_past}
use Rattle.gatt_commands.proofs.run.run_text.Goals as goal

pub returns-in_err-script-clause-runs : goal.returns-in_err-script-clause-runs
returns-in_err-script-clause-runs g c = λ past.
    absurd (never_past c.is_some.result c.args.text.now c.from_residual.result c.in_err-script.field-0.0
    c.from_residual.ensures.1 c.in_err-script.ensures.refused past)

pub returns-clause-runs : goal.returns-clause-runs
returns-clause-runs g c = λ past. record {
  script = c.in_ok-script.script;
  has_script =
      judged_all (Some c.args.text.now) c.args.text.now c.args.text.now c.is_some.result (is_some c.args.next)
      (Ok c.in_ok-script.script) refl refl c.is_some.ensures c.in_ok-script.ensures.script;
  shown = record { notices = c.args.shows.notices; lines = lines_left c.shown_text.result };
  has_notices = refl;
  has_lines = c.shown_text.ensures;
  begun = c.in_ok-stage.stage;
  opened = c.in_ok-stage.ensures.opened;
  last = c.run_host-ran.new.stage;
  runs = c.run_host-ran.ensures.runs;
}

pub returns-clause-unbegun : goal.returns-clause-unbegun
returns-clause-unbegun g c = inr (record {
  script = c.in_ok-script.script;
  has_script =
      judged_all (Some c.args.text.now) c.args.text.now c.args.text.now c.is_some.result (is_some c.args.next)
      (Ok c.in_ok-script.script) refl refl c.is_some.ensures c.in_ok-script.ensures.script;
  shown = record { notices = c.args.shows.notices; lines = lines_left c.shown_text.result };
  has_notices = refl;
  has_lines = c.shown_text.ensures;
  begun = c.in_ok-stage.stage;
  opened = c.in_ok-stage.ensures.opened;
  last = c.run_host-ran.new.stage;
  runs = c.run_host-ran.ensures.runs;
})

pub returns-in_err-script-clause-script : goal.returns-in_err-script-clause-script
returns-in_err-script-clause-script g c = λ line is.
    judged_all (Some c.args.text.now) c.args.text.now c.args.text.now c.is_some.result (is_some c.args.next) (Err (BadLine line)) refl refl c.is_some.ensures
    (refused_at c.is_some.result c.args.text.now c.from_residual.result c.in_err-script.field-0.0 line
    c.from_residual.ensures.1 c.in_err-script.ensures.refused is)

pub returns-in_err-script-clause-script_last : goal.returns-in_err-script-clause-script_last
returns-in_err-script-clause-script_last g c = λ past.
    absurd (never_past c.is_some.result c.args.text.now c.from_residual.result c.in_err-script.field-0.0
    c.from_residual.ensures.1 c.in_err-script.ensures.refused past)

pub returns-clause-script_last : goal.returns-clause-script_last
returns-clause-script_last g c = λ past.
    accepted (Some c.args.text.now) (script_in (is_some c.args.next)) c.in_ok-script.script
    (judged_all (Some c.args.text.now) c.args.text.now c.args.text.now c.is_some.result (is_some c.args.next) (Ok c.in_ok-script.script)
    refl refl c.is_some.ensures c.in_ok-script.ensures.script)

pub returns-in_err-script-clause-faults : goal.returns-in_err-script-clause-faults
returns-in_err-script-clause-faults g c =
    judged_at_all c.is_some.result c.args.text.now c.from_residual.result c.in_err-script.field-0.0
    c.from_residual.ensures.1 c.in_err-script.ensures.refused

pub returns-clause-faults : goal.returns-clause-faults
returns-clause-faults g c = ran_at_all c.run_host-ran.result c.run_host-ran.ensures.faults
