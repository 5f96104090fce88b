use Rattle.std.proofs.Common.{take}
use Rattle.gatt_host.specs.Feeding.{octet_items, TakesUpToAPacket}
use Rattle.gihandop_c.specs.Boundary.{TellsItems}
use Rattle.gihandop_c.proofs.Carried.{carried, carried_before}
use Rattle.gihandop_c.proofs.exports.stream.gh_take.Goals as goal

pub returns-clause-tells : goal.returns-clause-tells
returns-clause-tells c = λ taken.
    carried (TellsItems (octet_items (take c.take.new.used c.args.octets.now))) c.args.host.now.host c.in-Some.open.now c.take.new.opened
    c.in-Some.ensures.host (c.take.ensures.tells taken)

pub returns-clause-up_to : goal.returns-clause-up_to
returns-clause-up_to c = λ done.
    carried_before (λ opened. TakesUpToAPacket c.args.octets.now c.take.new.used opened.host) c.args.host.now.host c.in-Some.open.now
    c.in-Some.ensures.host (c.take.ensures.up_to done)
