use Rattle.std.proofs.Common.{ℕ, ◌==◌, ◌+◌, ◌*◌, arith}
use Rattle.att_table.proofs.Lanes.{first_in_lanes, none_in_lanes, position_here, position_past}
use Rattle.att_table.proofs.row_entries.place_in_lanes.Goals as goal

pub returns-then-before-lt-LANES-clause-found : goal.returns-then-before-lt-LANES-clause-found
returns-then-before-lt-LANES-clause-found c =
    let test = λ (own : ℕ). own == c.args.handle in
    let before = c.lanes_before-before in
    let at = first_in_lanes test c.args.handles.now (c.loop-turn.turn * 32) 32 before.result c.loop-turn.invariant before.ensures c.if-before-lt-LANES.true in
    position_here test c.args.handles.now (c.loop-turn.turn * 32 + before.result) at
    (omega (arith, c.told-handles, c.requires, c.loop-turn-test.true, c.div_ceil-turn-end.ensures, c.if-before-lt-LANES.true))

pub loop-turn-preserved : goal.loop-turn-preserved
loop-turn-preserved c =
    let before = c.lanes_before-before in
    let past = none_in_lanes (λ own. own == c.args.handle) c.args.handles.now (c.loop-turn.turn * 32) 32 before.result c.loop-turn.invariant before.ensures
    (omega (arith, c.if-before-lt-LANES.false)) in
    omega (arith, past)

pub returns-clause-missing : goal.returns-clause-missing
returns-clause-missing c none =
    position_past (λ own. own == c.args.handle) c.args.handles.now c.args.len (omega (arith, c.requires, c.told-handles))
    (omega (arith, c.loop-turn-test.false, c.loop-turn.auto.turn-end, c.div_ceil-turn-end.ensures, c.loop-turn.invariant))
