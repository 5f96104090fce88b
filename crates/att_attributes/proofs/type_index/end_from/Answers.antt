use Rattle.std.proofs.Common.{◌≡◌, ℕ, ◌+◌, ◌<◌, ◌≤◌, Bool, true, false, length, get_or, sym, arith}
use Rattle.std.specs.Prelude.{nat_lt}
use Rattle.att_attributes.specs.Attributes.{type_at}
use Rattle.att_attributes.specs.TypeIndex.{place_of}
use Rattle.att_attributes.proofs.OfType.{above_at, run_has}
use Rattle.att_attributes.proofs.Runs.{end_found}
use Rattle.att_attributes.proofs.Search.{test_false, test_true}
use Rattle.att_attributes.proofs.TypeOrder.{closed, place_at, place_below, place_within}
use Rattle.att_attributes.proofs.type_index.end_from.Goals as goal

pub type_of-kind-requires-clause-first : goal.type_of-kind-requires-clause-first
type_of-kind-requires-clause-first c = (above_at _ _ _ _ 0 c.requires.index.within (omega (arith, c.from.ensures, c.requires.inside))).0

pub type_of-kind-requires-clause-last : goal.type_of-kind-requires-clause-last
type_of-kind-requires-clause-last c = (above_at _ _ _ _ 0 c.requires.index.within (omega (arith, c.from.ensures, c.requires.inside))).1

pub loop-end-init : goal.loop-end-init
loop-end-init c =
    let within : c.from.result < length c.args.index.now = omega (arith, c.from.ensures, c.requires.inside) in
    let has =
    run_has (type_at c.args.attributes.now) c.args.index.now c.from.result c.type_of-kind.result c.requires.index.ordered within
    (sym c.type_of-kind.ensures) in
    omega (arith, c.from.ensures, has.1)

pub type_of-requires-clause-first : goal.type_of-requires-clause-first
type_of-requires-clause-first c =
    (above_at _ _ _ _ 0 c.requires.index.within (omega (arith, c.from-in-loop-end.ensures, c.from-in-loop-end-2.ensures, c.loop-end-test.true))).0

pub type_of-requires-clause-last : goal.type_of-requires-clause-last
type_of-requires-clause-last c =
    (above_at _ _ _ _ 0 c.requires.index.within (omega (arith, c.from-in-loop-end.ensures, c.from-in-loop-end-2.ensures, c.loop-end-test.true))).1

pub loop-end-preserved : goal.loop-end-preserved
loop-end-preserved c =
    let index = c.args.index.now in
    let kind = type_at c.args.attributes.now in
    let at = c.from-in-loop-end-2.result in
    let next = c.type_of-kind.result + 1 in
    let test : ℕ → Bool = λ x. nat_lt (kind x) next in
    let within : at < length index = omega (arith, c.from-in-loop-end.ensures, c.from-in-loop-end-2.ensures, c.loop-end-test.true) in
    let below : test (get_or index at 0) ≡ true =
    test_true _ c.type_of.result next c.type_of.ensures (omega (arith, c.if-type_of-kind.true)) in
    let more : at < place_of kind index next = place_below test index at 0 (closed kind next index c.requires.index.ordered) within below in
    omega (arith, c.from-in-loop-end-2.ensures, more)

pub returns-else-type_of-kind : goal.returns-else-type_of-kind
returns-else-type_of-kind c =
    let index = c.args.index.now in
    let kind = type_at c.args.attributes.now in
    let at = c.from-in-loop-end-2.result in
    let next = c.type_of-kind.result + 1 in
    let test : ℕ → Bool = λ x. nat_lt (kind x) next in
    let within : at < length index = omega (arith, c.from-in-loop-end.ensures, c.from-in-loop-end-2.ensures, c.loop-end-test.true) in
    let above : test (get_or index at 0) ≡ false =
    test_false _ c.type_of.result next c.type_of.ensures (omega (arith, c.if-type_of-kind.false)) in
    let most : place_of kind index next ≤ at = place_at test index at 0 within above in
    end_found kind index c.args.place c.from.result c.type_of-kind.result c.loop-end.end c.from.ensures c.type_of-kind.ensures
    (omega (arith, c.from-in-loop-end-2.ensures, c.loop-end.invariant, most))

pub returns-after-loop-end : goal.returns-after-loop-end
returns-after-loop-end c =
    let index = c.args.index.now in
    let kind = type_at c.args.attributes.now in
    let most = place_within (λ x. nat_lt (kind x) (c.type_of-kind.result + 1)) index in
    end_found kind index c.args.place c.from.result c.type_of-kind.result c.loop-end.end c.from.ensures c.type_of-kind.ensures
    (omega (arith, c.from-in-loop-end.ensures, c.loop-end.invariant, c.loop-end-test.false, most))
