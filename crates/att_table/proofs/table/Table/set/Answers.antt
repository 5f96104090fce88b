use Rattle.std.proofs.Common.{◌-◌, ap, arith, false}
use Rattle.att_values.specs.Cell.{cell_at, patched_cell}
use Rattle.att_table.proofs.Facts.{exact-set, keeps_replaced}
use Rattle.att_attributes.proofs.Places.{place_within}
use Rattle.att_table.proofs.Tables.{fits_cell, kept-patched, replaced_values}
use Rattle.att_table.proofs.table.Table.set.Goals as goal

pub patch_at-requires-clause-fits : goal.patch_at-requires-clause-fits
patch_at-requires-clause-fits c =
    let fits =
    fits_cell c.self.inside.attributes.items c.self.inside.values c.args.self.now c.args.handle _ c.self.invariant.kept c.self.view_is c.requires.exists
    c.requires.fits in
    omega arith

pub invariant_of-self : goal.invariant_of-self
invariant_of-self c =
    let fits =
    fits_cell c.self.inside.attributes.items c.self.inside.values c.args.self.now c.args.handle _ c.self.invariant.kept c.self.view_is c.requires.exists
    c.requires.fits in
    let cells = c.self.inside.values in
    let used = (place_within c.args.self.now.attributes c.args.handle c.requires.exists).0 in
    let keeps =
    keeps_replaced c.self.inside.attributes.items cells c.args.self.now c.args.handle c.args.octets.now c.self.invariant.kept c.self.view_is used
    c.requires.exact in
    let exact =
    exact-set c.self.inside.attributes.items cells (c.args.handle - 1) (patched_cell false (cell_at cells c.args.handle) 0 c.args.octets.now)
    c.self.invariant.kept.exact keeps in
    record {
      kept = rw c.patch_at.ensures (kept-patched _ _ false c.args.handle 0 c.args.octets.now c.self.invariant.kept (omega arith) (omega arith) exact);
      few = c.self.invariant.few;
      counted = c.self.invariant.counted;
      ends = c.self.invariant.ends;
      types = c.self.invariant.types;
      runs = c.self.invariant.runs;
    }

pub returns-clause-values : goal.returns-clause-values
returns-clause-values c =
    replaced_values c.self.inside.values c.patch_at.new.self c.args.self.now c.args.handle c.args.octets.now
    (ap (λ table. table.values) c.self.view_is) c.patch_at.ensures
