use Rattle.std.proofs.Common.{◌&&◌, ◌++◌, [], ◌∷◌, if◌then◌else◌, ap, ◌∙◌, arith}
use Rattle.att_numbers.specs.Types.{Row}
use Rattle.att_table.specs.ConfigRow.{is_supported, has_its_meaning}
use Rattle.att_table.proofs.Kept.{kept_next}
use Rattle.att_table.proofs.config_row.retain_kept.Goals as goal

pub loop-place-preserved : goal.loop-place-preserved
loop-place-preserved c =
    let old = c.args.old.now.attributes in
    let new = c.args.new.now.attributes in
    let entry = c.get-handle.result in
    record {
      kept =
          c.keep_entry.ensures.kept
          ∙ ap (λ (row : Row). if is_supported new entry && has_its_meaning old new entry.0 then row ++ entry ∷ [] else row) c.loop-place.invariant.kept
          ∙ kept_next old new c.args.entries.now c.loop-place.place entry c.get-handle.ensures;
      room = omega (arith, c.keep_entry.ensures.most, c.loop-place.invariant.room);
    }
