use Rattle.std.proofs.Common.{Some, None, sym, ◌∙◌}
use Rattle.host_connections.proofs.Seen.{seen_more, seen_none}
use Rattle.host_connections.proofs.connection.next_connection.Goals as goal

pub returns-in-Some : goal.returns-in-Some
returns-in-Some c =
    c.loop-place.invariant
    ∙ seen_more c.args.slots.now c.args.arrivals.now c.loop-place.place c.index-slots-place.result (Some c.in-Some.connection) c.loop-place-test.true
    c.index-slots-place.is (sym c.in-Some.is ∙ c.connection.ensures)

pub loop-place-preserved : goal.loop-place-preserved
loop-place-preserved c =
    c.loop-place.invariant
    ∙ seen_more c.args.slots.now c.args.arrivals.now c.loop-place.place c.index-slots-place.result None c.loop-place-test.true c.index-slots-place.is
    (sym c.in_default.is ∙ c.connection.ensures)

pub returns : goal.returns
returns c = c.loop-place.invariant ∙ seen_none c.args.slots.now c.args.arrivals.now c.loop-place.place c.loop-place-test.false
