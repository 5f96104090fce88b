use Rattle.std.proofs.Common.{refl}
use Rattle.std.proofs.lemmas.List.{drop_all}
use Rattle.gatt_commands.proofs.Running.{run_all, run_ends, run_more}
use Rattle.gatt_commands.specs.Echo.{shown_of}
use Rattle.gatt_commands.proofs.lines.run_acts.Goals as goal

pub loop-act-preserved : goal.loop-act-preserved
loop-act-preserved g c = record {
  drained = c.in_ok-left.ensures.drained refl;
  run =
      run_more (shown_of c.args.shown) (shown_of c.loop-act.left) c.args.names.now c.args.acts.now c.loop-act.act-index c.act-item.result
      c.loop-act-test.true c.act-item.is c.args.stage.now c.loop-act.stage _ _ c.loop-act.invariant.run
      (shown_of c.in_ok-left.left) c.in_ok-left.ensures.left c.run_next.new.stage _ c.in_ok-left.ensures.runs;
}

pub returns-in_err-left-clause-ends : goal.returns-in_err-left-clause-ends
returns-in_err-left-clause-ends g c =
    run_ends (shown_of c.args.shown) (shown_of c.loop-act.left) c.args.names.now c.args.acts.now c.loop-act.act-index c.act-item.result
    c.loop-act-test.true c.act-item.is c.args.stage.now c.loop-act.stage _ _ c.loop-act.invariant.run
    c.from_residual.result c.in_err-left.field-0.0 c.run_next.new.stage _ c.from_residual.ensures.1 c.in_err-left.ensures.ends

pub returns-clause-runs : goal.returns-clause-runs
returns-clause-runs g c =
    run_all (shown_of c.args.shown) (shown_of c.loop-act.left) c.args.names.now c.args.acts.now _ c.args.stage.now c.loop-act.stage
    _ _ c.loop-act.invariant.run (drop_all c.loop-act.act-index c.args.acts.now c.loop-act-test.false)
