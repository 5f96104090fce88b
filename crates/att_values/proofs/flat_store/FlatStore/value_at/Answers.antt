use Rattle.std.proofs.Common.{◌≡◌, arith}
use Rattle.att_values.specs.Cell.{cell_at}
use Rattle.att_values.proofs.InPlace.{stands_at}
use Rattle.att_values.proofs.flat_store.FlatStore.value_at.Goals as goal

pub octets_at-requires : goal.octets_at-requires
octets_at-requires c =
    let octets = c.self.inside.octets in
    let here = stands_at octets.items c.self.inside.places.items c.args.self.now octets.len c.args.handle c.from.result c.index.result.now
    c.self.invariant octets.ok.0 c.self.view_is c.requires c.from.ensures c.index.ensures in
    omega (arith, here.value_ends)

pub returns-clause-fits : goal.returns-clause-fits
returns-clause-fits c =
    let octets = c.self.inside.octets in
    let here = stands_at octets.items c.self.inside.places.items c.args.self.now octets.len c.args.handle c.from.result c.index.result.now
    c.self.invariant octets.ok.0 c.self.view_is c.requires c.from.ensures c.index.ensures in
    let value : c.octets_at.result.now ≡ (cell_at c.args.self.now c.args.handle).octets = cc (here.cell) in
    rw value here.fits
