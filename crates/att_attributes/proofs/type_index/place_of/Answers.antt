use Rattle.std.proofs.Common.{◌≡◌, ℕ, ◌+◌, ◌/◌, Bool, true, false, get_or, refl, arith}
use Rattle.std.specs.Prelude.{nat_lt}
use Rattle.att_attributes.specs.Attributes.{type_at}
use Rattle.att_attributes.proofs.OfType.{above_at}
use Rattle.att_attributes.proofs.Search.{half_within, narrow_high, narrow_low, test_false, test_true}
use Rattle.att_attributes.proofs.TypeOrder.{closed, place_at, place_below, place_within}
use Rattle.att_attributes.proofs.type_index.place_of.Goals as goal

pub loop-low-init : goal.loop-low-init
loop-low-init c = record { low_side = omega arith; high_side = place_within _ c.args.index.now; inside = omega arith }

pub type_of-requires-clause-first : goal.type_of-requires-clause-first
type_of-requires-clause-first c =
    (above_at _ _ _ _ 0 c.requires.within (half_within _ _ _ c.loop-low-test.true c.loop-low.invariant.inside)).0

pub type_of-requires-clause-last : goal.type_of-requires-clause-last
type_of-requires-clause-last c =
    (above_at _ _ _ _ 0 c.requires.within (half_within _ _ _ c.loop-low-test.true c.loop-low.invariant.inside)).1

pub loop-low-preserved-then-type_of-kind : goal.loop-low-preserved-then-type_of-kind
loop-low-preserved-then-type_of-kind c =
    let index = c.args.index.now in
    let kind = type_at c.args.attributes.now in
    let test : ℕ → Bool = λ x. nat_lt (kind x) c.args.kind in
    let low = c.loop-low.low in
    let high = c.loop-low.high in
    let middle = (low + high) / 2 in
    let within = half_within _ _ _ c.loop-low-test.true c.loop-low.invariant.inside in
    let below : test (get_or index middle 0) ≡ true =
    test_true _ c.type_of.result _ c.type_of.ensures c.if-type_of-kind.true in
    narrow_low _ _ low high _ middle c.loop-low.invariant (place_below test index middle 0 (closed kind c.args.kind index c.requires.ordered) within below)

pub loop-low-preserved : goal.loop-low-preserved
loop-low-preserved c =
    let index = c.args.index.now in
    let kind = type_at c.args.attributes.now in
    let test : ℕ → Bool = λ x. nat_lt (kind x) c.args.kind in
    let low = c.loop-low.low in
    let high = c.loop-low.high in
    let middle = (low + high) / 2 in
    let within = half_within _ _ _ c.loop-low-test.true c.loop-low.invariant.inside in
    let not_below : test (get_or index middle 0) ≡ false =
    test_false _ c.type_of.result _ c.type_of.ensures c.if-type_of-kind.false in
    narrow_high _ _ low high _ middle c.loop-low.invariant refl c.loop-low-test.true (place_at test index middle 0 within not_below)
