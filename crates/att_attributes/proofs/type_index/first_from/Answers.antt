use Rattle.std.proofs.Common.{◌≡◌, ℕ, ◌+◌, ◌/◌, ◌<◌, ◌≤◌, Bool, true, false, get_or, refl, arith}
use Rattle.std.specs.Prelude.{nat_lt}
use Rattle.att_attributes.specs.TypeIndex.{place_from}
use Rattle.att_attributes.proofs.Search.{half_within, narrow_high, narrow_low, paid_high, paid_low, test_false, test_true}
use Rattle.att_attributes.proofs.TypeOrder.{place_below, place_at, closed_ascending}
use Rattle.att_attributes.proofs.type_index.first_from.Goals as goal

pub loop-low-preserved-then-from-handle : goal.loop-low-preserved-then-from-handle
loop-low-preserved-then-from-handle g c =
    let handles = c.args.handles.now in
    let test : ℕ → Bool = λ x. nat_lt x c.args.handle in
    let low = c.loop-low.low in
    let high = c.loop-low.high in
    let middle = (low + high) / 2 in
    let within = half_within low high _ c.loop-low-test.true (omega (arith, c.loop-low.invariant.0.inside, c.requires.inside)) in
    let before : test (get_or handles middle 0) ≡ true = test_true _ c.from.result _ c.from.ensures c.if-from-handle.true in
    let below : middle < place_from handles c.args.handle =
    place_below test handles middle 0 (closed_ascending c.args.handle handles c.requires.ascending) within before in (
      narrow_low _ _ low high _ middle c.loop-low.invariant.0 (omega (arith, below, c.loop-low-test.true, c.loop-low.invariant.0.inside)),
      λ turns enough. paid_low low high middle _ _ _ _ (c.loop-low.invariant.1 turns enough) refl c.loop-low-test.true c.tick.ensures.counts,
    )

pub loop-low-preserved : goal.loop-low-preserved
loop-low-preserved g c =
    let handles = c.args.handles.now in
    let test : ℕ → Bool = λ x. nat_lt x c.args.handle in
    let low = c.loop-low.low in
    let high = c.loop-low.high in
    let middle = (low + high) / 2 in
    let within = half_within low high _ c.loop-low-test.true (omega (arith, c.loop-low.invariant.0.inside, c.requires.inside)) in
    let not_before : test (get_or handles middle 0) ≡ false = test_false _ c.from.result _ c.from.ensures c.if-from-handle.false in
    let above : place_from handles c.args.handle ≤ middle = place_at test handles middle 0 within not_before in (
      narrow_high _ _ low high _ middle c.loop-low.invariant.0 refl c.loop-low-test.true (omega (arith, above)),
      λ turns enough. paid_high low high middle _ _ _ _ (c.loop-low.invariant.1 turns enough) refl c.loop-low-test.true c.tick.ensures.counts,
    )
