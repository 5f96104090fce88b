use Rattle.std.proofs.Common.{◌≡◌, ◌≤◌, ◌+◌, length, arith, true, false, ◌∷◌, drop, get_or, ap, sym, ◌∙◌}
use Rattle.std.specs.Prelude.{filter, ◌||◌}
use Rattle.std.specs.List.{list_any}
use Rattle.att_pdu.specs.PduBuf.{contents, mtu_of}
use Rattle.att_reads.specs.Answer.{is_match, with_groups}
use Rattle.att_reads.proofs.Found.{groups_next}
use Rattle.att_reads.proofs.Lists.{drop_next, filter_taken, filter_passed, any_here, any_later}
use Rattle.att_reads.proofs.find.append_matches.Goals as goal
use Rattle.att_reads.proofs.find.append_matches.Goals.{then-is_match+else-not-append_group, else-is_match}
use Rattle.octet_io.proofs.Choices.{or_with_true}

pub loop-handle-preserved : goal.loop-handle-preserved
loop-handle-preserved c =
    let reader = c.args.reader in
    let table = reader.table.now in
    let mtu = mtu_of c.args.out.now in
    let test = is_match table reader.row.now reader.standing.now c.args.value.now in
    let handles = c.args.handles.now in
    let i = c.loop-handle.handle-index in
    let handle = get_or handles i 0 in
    let left = drop (i + 1) handles in
    let at : drop i handles ≡ handle ∷ left = drop_next handles i 0 c.loop-handle-test.true in
    elim c.if-is_match.branch [
      | then-is_match+else-not-append_group w ↦
          let is : test handle ≡ true = sym c.is_match.ensures.is ∙ w.if-is_match.true in
          let room = w.append_group.ensures.fits.0 w.if-not-append_group.false in
          let fits : length (contents c.loop-handle.out) + 4 ≤ mtu = let same = c.loop-handle.invariant.same.mtu in omega (arith, room, same) in
          rw (w.out-is, w.found-is) (record {
            same = record {
              place = w.append_group.ensures.same_buffer.place ∙ c.loop-handle.invariant.same.place;
              end = w.append_group.ensures.same_buffer.end ∙ c.loop-handle.invariant.same.end;
              mtu = w.append_group.ensures.same_buffer.mtu ∙ c.loop-handle.invariant.same.mtu;
            };
            any =
                sym (or_with_true c.loop-handle.found)
                ∙ ap (λ any. c.loop-handle.found || any) (sym (any_here test handle left is))
                ∙ ap (λ hs. c.loop-handle.found || list_any test hs) (sym at)
                ∙ c.loop-handle.invariant.any;
            groups =
                groups_next table mtu (contents c.loop-handle.out) (contents w.append_group.new.out) handle (filter test left) fits
                (w.if-not-append_group.ensures.appended)
                ∙ ap (with_groups table mtu (contents c.loop-handle.out)) (sym (filter_taken test handle left is))
                ∙ ap (λ hs. with_groups table mtu (contents c.loop-handle.out) (filter test hs)) (sym at)
                ∙ c.loop-handle.invariant.groups;
          })
      | else-is_match w ↦
          let is : test handle ≡ false = sym c.is_match.ensures.is ∙ w.if-is_match.false in
          rw (w.out-is, w.found-is) (record {
            same = c.loop-handle.invariant.same;
            any =
                ap (λ any. c.loop-handle.found || any) (sym (any_later test handle left is))
                ∙ ap (λ hs. c.loop-handle.found || list_any test hs) (sym at)
                ∙ c.loop-handle.invariant.any;
            groups =
                ap (with_groups table mtu (contents c.loop-handle.out)) (sym (filter_passed test handle left is))
                ∙ ap (λ hs. with_groups table mtu (contents c.loop-handle.out) (filter test hs)) (sym at)
                ∙ c.loop-handle.invariant.groups;
          })
    ]
