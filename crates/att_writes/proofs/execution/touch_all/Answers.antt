use Rattle.std.proofs.Common.{◌≡◌, ◌+◌, true, false, ◌==◌, not, get_or, sym, ap, ◌∙◌, arith}
use Rattle.std.proofs.lemmas.Grind.{common_steps}
use Rattle.std.specs.List.{list_any}
use Rattle.att_writes.specs.Queue.{once_each}
use Rattle.att_writes.proofs.Laid.{no_place}
use Rattle.att_writes.proofs.Touched.{is_new, with_new, all_new, added, left_out, handles_left, handles_next}
use Rattle.att_writes.proofs.execution.touch_all.Goals as goal
use Rattle.att_writes.proofs.execution.touch_all.Goals.{then-not-contains, else-not-contains}

pub loop-place-init : goal.loop-place-init
loop-place-init c =
    let handles = handles_left c.args.places.now 0 in
    record {
      few = grind (arith, common_steps);
      same = ap (λ touched. with_new touched handles) c.requires.empty ∙ all_new (once_each handles);
    }

pub loop-place-preserved : goal.loop-place-preserved
loop-place-preserved c =
    let places = c.args.places.now in
    let touched = c.loop-place.touched.items in
    let handle = (get_or places c.loop-place.place-index no_place).handle in
    let left = handles_left places (c.loop-place.place-index + 1) in
    let next = handles_next places c.loop-place.place-index c.loop-place-test.true in
    let contained : c.contains.result ≡ list_any (λ other. other == handle) touched =
    c.contains.ensures.value ∙ ap (λ items. list_any (λ other. other == handle) items) c.deref.ensures.0 in
    let before = ap (with_new touched) (sym next) ∙ c.loop-place.invariant.same in
    elim c.if-not-contains.branch [
      | then-not-contains w ↦
          let is : is_new touched handle ≡ true = ap not (sym contained ∙ w.if-not-contains.true) in
          rw w.touched-is (record {
            few = grind (arith, common_steps);
            same = ap (λ items. with_new items left) w.push.ensures.items ∙ added touched handle left is ∙ before;
          })
      | else-not-contains w ↦
          let is : is_new touched handle ≡ false = ap not (sym contained ∙ w.if-not-contains.false) in
          rw w.touched-is (record {
            few = grind (arith, common_steps);
            same = left_out touched handle left is ∙ before;
          })
    ]
