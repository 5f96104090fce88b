use Rattle.std.proofs.Common.{◌∙◌, sym}
use Rattle.att_table.specs.Table.{Contents, values_of}
use Rattle.att_table.proofs.Found.{found_here, found_later, inside_next, passed, value_at_handle}
use Rattle.att_table.proofs.find.find_value.Goals as goal
use Rattle.att_table.proofs.find.find_value.Goals.{then-is_wanted+else-left-eq1, else-is_wanted}
use Rattle.octet_io.proofs.Choices.{and_true_left}

pub returns-then-left-eq1-clause-found : goal.returns-then-left-eq1-clause-found
returns-then-left-eq1-clause-found c =
    let table : Contents = record { attributes = c.args.attributes.now; values = values_of c.args.values.now } in
    found_here table c.args.service c.args.characteristic c.loop-attr.attr-index _ c.loop-attr.is_inside c.requires.kept.numbered.handles c.loop-attr-test.true
    c.loop-attr.invariant.inside c.loop-attr.left _ (sym c.is_wanted.ensures ∙ c.if-is_wanted.true) c.if-left-eq1.true c.loop-attr.invariant.found

pub returns-then-left-eq1-clause-value : goal.returns-then-left-eq1-clause-value
returns-then-left-eq1-clause-value c =
    value_at_handle c.args.attributes.now c.loop-attr.attr-index _ c.args.characteristic c.requires.kept.numbered.handles c.loop-attr-test.true
    (and_true_left _ c.loop-attr.is_inside (sym c.is_wanted.ensures ∙ c.if-is_wanted.true))

pub loop-attr-preserved : goal.loop-attr-preserved
loop-attr-preserved c =
    let table : Contents = record { attributes = c.args.attributes.now; values = values_of c.args.values.now } in
    let handles = c.requires.kept.numbered.handles in
    let so_far = c.loop-attr.invariant in
    record {
      inside =
          inside_next table c.args.service c.args.characteristic c.loop-attr.attr-index _ c.loop-attr.is_inside handles c.loop-attr-test.true so_far.inside _ _
          c.is_inside_after-is_inside.ensures (c.as_slice.ensures.value ∙ c.type_octets-uuid.ensures);
      found = elim c.if-is_wanted.branch [
        | then-is_wanted+else-left-eq1 w ↦ rw (w.left-is, w.saturating_sub-left.ensures) (
            found_later table c.args.service c.args.characteristic c.loop-attr.attr-index _ c.loop-attr.is_inside handles c.loop-attr-test.true so_far.inside
            c.loop-attr.left _ (sym c.is_wanted.ensures ∙ w.if-is_wanted.true) w.if-left-eq1.false so_far.found)
        | else-is_wanted w ↦ rw w.left-is (
            passed table c.args.service c.args.characteristic c.loop-attr.attr-index _ c.loop-attr.is_inside handles c.loop-attr-test.true so_far.inside
            c.loop-attr.left _ (sym c.is_wanted.ensures ∙ w.if-is_wanted.false) so_far.found)
      ];
    }
