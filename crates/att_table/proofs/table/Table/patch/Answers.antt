use Rattle.std.proofs.Common.{◌+◌, ◌-◌, ◌≤◌, length, arith, ap}
use Rattle.att_values.specs.Cell.{cell_at, patched_cell}
use Rattle.att_table.proofs.Facts.{exact-set, keeps_written}
use Rattle.att_table.specs.Table.{room_at, value_at}
use Rattle.att_attributes.proofs.Places.{place_within}
use Rattle.att_table.proofs.Tables.{fits_cell, kept-patched, patched_values, value_at-cell}
use Rattle.att_table.proofs.table.Table.patch.Goals as goal

pub patch_at-requires-clause-fits : goal.patch_at-requires-clause-fits
patch_at-requires-clause-fits c =
    rw c.from.ensures
    (fits_cell c.self.inside.attributes.items c.self.inside.values c.args.self.now c.args.handle _ c.self.invariant.kept c.self.view_is c.requires.exists
    c.requires.fits)

pub invariant_of-self : goal.invariant_of-self
invariant_of-self c =
    let in_value : c.from.result ≤ length (cell_at c.self.inside.values c.args.handle).octets =
    omega (
      arith,
      c.requires.offset,
      c.from.ensures,
      ap (λ table. length (value_at table.values c.args.handle)) c.self.view_is,
      ap length (value_at-cell c.self.inside.values c.args.handle),
    ) in
    let fits =
    fits_cell c.self.inside.attributes.items c.self.inside.values c.args.self.now c.args.handle _ c.self.invariant.kept c.self.view_is c.requires.exists
    c.requires.fits in
    let cells = c.self.inside.values in
    let used = (place_within c.args.self.now.attributes c.args.handle c.requires.exists).0 in
    let in_room : c.from.result + length c.args.part.now ≤ room_at c.args.self.now c.args.handle = omega (arith, c.requires.fits, c.from.ensures) in
    let keeps =
    keeps_written c.self.inside.attributes.items cells c.args.self.now c.is_fixed-fixed.result c.args.handle c.from.result c.args.part.now
    c.self.invariant.kept c.self.view_is used c.is_fixed-fixed.ensures in_room in
    let exact =
    exact-set c.self.inside.attributes.items cells (c.args.handle - 1)
    (patched_cell c.is_fixed-fixed.result (cell_at cells c.args.handle) c.from.result c.args.part.now) c.self.invariant.kept.exact keeps in
    record {
      kept = rw c.patch_at.ensures (kept-patched _ _ _ _ _ _ c.self.invariant.kept in_value (rw c.from.ensures fits) exact);
      few = c.self.invariant.few;
      counted = c.self.invariant.counted;
      ends = c.self.invariant.ends;
      types = c.self.invariant.types;
      runs = c.self.invariant.runs;
    }

pub returns-clause-values : goal.returns-clause-values
returns-clause-values c =
    patched_values c.self.inside.values c.patch_at.new.self c.args.self.now c.is_fixed-fixed.result c.args.handle c.from.result c.args.offset c.args.part.now
    (ap (λ table. table.values) c.self.view_is) c.patch_at.ensures c.is_fixed-fixed.ensures c.from.ensures
