use Rattle.std.proofs.Common.{◌+◌, drop, ap, ◌∙◌}
use Rattle.std.specs.List.{filter}
use Rattle.att_numbers.specs.Types.{Row}
use Rattle.att_table.specs.ConfigRow.{is_supported}
use Rattle.gatt_subs.specs.Fit.{with_entries}
use Rattle.gatt_subs.proofs.Supported.{fits_next}
use Rattle.gatt_subs.proofs.fit.fit_row.Goals as goal

pub loop-place-preserved : goal.loop-place-preserved
loop-place-preserved c =
    let attributes = c.args.table.now.attributes in
    record {
      fitted =
          ap (λ (row : Row). with_entries row (filter (is_supported attributes) (drop (c.loop-place.place + 1) c.args.other.now))) c.set_supported.ensures.after
          ∙ fits_next attributes c.loop-place.row c.args.other.now c.loop-place.place c.entry-handle.result c.entry-handle.ensures.entry
          ∙ c.loop-place.invariant.fitted;
      table = c.set_supported.ensures.table;
    }
