use Rattle.std.proofs.Common.{◌≡◌, ℕ, ◌≤◌, ◌+◌, ◌-◌, ◌/◌, ◌<◌, length, get_or, refl, sym, ap, subst, ◌∙◌, arith}
use Rattle.att_attributes.specs.Attributes.{type_at}
use Rattle.att_attributes.specs.TypeIndex.{IsAscending, handles_within}
use Rattle.att_attributes.proofs.OfType.{above_at, found, index_given, length_given, none_between, place_less, run_ascending}
use Rattle.att_attributes.specs.declared.type_index.Run.{Run}
use Rattle.att_attributes.proofs.Runs.{beside, run_fits, run_long, run_taken, IsBeside}
use Rattle.att_attributes.proofs.Search.{HaveSameUpper, before_run, half_within, lower_less, lower_more, lower_same, paid_at_first, paid_in_run, past_run, same_upper, upper_less, upper_more}
use Rattle.att_attributes.proofs.TypeOrder.{place_within}
use Rattle.att_attributes.proofs.type_index.of_type.Given.{Over}
use Rattle.att_attributes.proofs.type_index.of_type.Goals.{After-tick}
use Rattle.att_attributes.proofs.type_index.of_type.Goals as goal

-- what is known of the middle of each turn
abbrev own-at : (g : Over) → After-tick g → ℕ
own-at g c = type_at c.args.attributes.now (get_or c.args.index.now ((c.loop-low.low + c.loop-low.high) / 2) 0)

abbrev run-at : (g : Over) → After-tick g → Run
run-at g c = get_or c.args.runs.now ((c.loop-low.low + c.loop-low.high) / 2) (record { begin = 0; end = 0 })

stands-at : (g : Over) (c : After-tick g) → IsBeside (type_at c.args.attributes.now) c.args.index.now (own-at g c)
    ((c.loop-low.low + c.loop-low.high) / 2) (run-at g c).begin (run-at g c).end
stands-at g c =
    let within = half_within c.loop-low.low c.loop-low.high _ c.loop-low-test.true c.loop-low.invariant.0.inside in
    beside c.args.attributes.now c.args.index.now c.args.runs.now _ _ _ _ c.requires.numbered c.requires.index c.requires.runs within refl refl

halves-at : (g : Over) (c : After-tick g) → c.halves-upper.result.0 ≤ c.halves-own_upper.result.0 → c.halves-own_upper.result.0 ≤ c.halves-upper.result.0
    → HaveSameUpper (own-at g c) c.args.kind c.halves-own_upper.result.1 c.halves-upper.result.1
halves-at g c least most =
    same_upper c.type_of.result _ _ _ _ _ _ c.type_of.ensures c.halves-own_upper.ensures.upper c.halves-upper.ensures.upper least most
    c.halves-own_upper.ensures.lower c.halves-upper.ensures.lower

pub loop-low-init : goal.loop-low-init
loop-low-init g c = (
  record { low_side = omega arith; high_side = place_within _ c.args.index.now; inside = omega arith },
  paid_at_first (length c.args.index.now) _ (length_given _ _ c.requires.numbered c.requires.index),
)

pub type_of-requires-clause-first : goal.type_of-requires-clause-first
type_of-requires-clause-first g c =
    (above_at _ _ _ _ 0 (index_given _ _ c.requires.numbered c.requires.index).within (half_within _ _ _ c.loop-low-test.true c.loop-low.invariant.0.inside)).0

pub type_of-requires-clause-last : goal.type_of-requires-clause-last
type_of-requires-clause-last g c =
    (above_at _ _ _ _ 0 (index_given _ _ c.requires.numbered c.requires.index).within (half_within _ _ _ c.loop-low-test.true c.loop-low.invariant.0.inside)).1

pub loop-low-smaller-then-own_upper-upper : goal.loop-low-smaller-then-own_upper-upper
loop-low-smaller-then-own_upper-upper g c =
    let at = (goal.at.loop-low-smaller-then-own_upper-upper g c).After-tick in
    omega (arith, c.from-low.ensures, (stands-at g at).behind, c.loop-low-test.true)

pub loop-low-preserved-then-own_upper-upper : goal.loop-low-preserved-then-own_upper-upper
loop-low-preserved-then-own_upper-upper g c =
    let at = (goal.at.loop-low-preserved-then-own_upper-upper g c).After-tick in
    let kind = type_at c.args.attributes.now in
    let index = c.args.index.now in
    let low = c.loop-low.low in
    let high = c.loop-low.high in
    let middle = (c.loop-low.low + c.loop-low.high) / 2 in
    let own = own-at g at in
    let stands = stands-at g at in
    let told : own < c.args.kind =
    upper_less c.type_of.result own c.args.kind c.halves-own_upper.result.0 c.halves-upper.result.0 c.type_of.ensures c.halves-own_upper.ensures.upper
    c.halves-upper.ensures.upper c.if-own_upper-upper.true in
    let below = place_less kind index (own + 1) c.args.kind (omega (arith, told)) in
    past_run _ _ low high _ _ _ _ middle c.from-low.result c.loop-low.invariant c.loop-low-test.true refl
    (omega (arith, c.from-low.ensures, stands.ends, below))
    (omega (arith, c.from-low.ensures, stands.behind)) c.tick.ensures.counts

pub loop-low-smaller-then-own_upper-upper-2 : goal.loop-low-smaller-then-own_upper-upper-2
loop-low-smaller-then-own_upper-upper-2 g c =
    let at = (goal.at.loop-low-smaller-then-own_upper-upper-2 g c).After-tick in
    omega (arith, c.from-high.ensures, (stands-at g at).ahead, c.loop-low-test.true)

pub loop-low-preserved-then-own_upper-upper-2 : goal.loop-low-preserved-then-own_upper-upper-2
loop-low-preserved-then-own_upper-upper-2 g c =
    let at = (goal.at.loop-low-preserved-then-own_upper-upper-2 g c).After-tick in
    let kind = type_at c.args.attributes.now in
    let index = c.args.index.now in
    let low = c.loop-low.low in
    let high = c.loop-low.high in
    let middle = (c.loop-low.low + c.loop-low.high) / 2 in
    let own = own-at g at in
    let stands = stands-at g at in
    let told : c.args.kind < own =
    upper_more c.type_of.result own c.args.kind c.halves-own_upper.result.0 c.halves-upper.result.0 c.type_of.ensures c.halves-own_upper.ensures.upper
    c.halves-upper.ensures.upper c.if-own_upper-upper-2.true in
    let above = place_less kind index (c.args.kind + 1) own (omega (arith, told)) in
    before_run _ _ low high _ _ _ _ middle c.from-high.result c.loop-low.invariant c.loop-low-test.true refl
    (omega (arith, c.from-high.ensures, stands.begins, above))
    (omega (arith, c.from-high.ensures, stands.ahead)) c.tick.ensures.counts

pub loop-low-smaller-then-own_lower-lower : goal.loop-low-smaller-then-own_lower-lower
loop-low-smaller-then-own_lower-lower g c =
    let at = (goal.at.loop-low-smaller-then-own_lower-lower g c).After-tick in
    omega (arith, c.from-low-then-own_lower-lower.ensures, (stands-at g at).behind, c.loop-low-test.true)

pub loop-low-preserved-then-own_lower-lower : goal.loop-low-preserved-then-own_lower-lower
loop-low-preserved-then-own_lower-lower g c =
    let at = (goal.at.loop-low-preserved-then-own_lower-lower g c).After-tick in
    let kind = type_at c.args.attributes.now in
    let index = c.args.index.now in
    let low = c.loop-low.low in
    let high = c.loop-low.high in
    let middle = (c.loop-low.low + c.loop-low.high) / 2 in
    let own = own-at g at in
    let stands = stands-at g at in
    let halves = halves-at g at c.if-own_upper-upper.false c.if-own_upper-upper-2.false in
    let told : own < c.args.kind = lower_less own c.args.kind c.halves-own_upper.result.1 c.halves-upper.result.1 halves c.if-own_lower-lower.true in
    let below = place_less kind index (own + 1) c.args.kind (omega (arith, told)) in
    past_run _ _ low high _ _ _ _ middle c.from-low-then-own_lower-lower.result c.loop-low.invariant c.loop-low-test.true refl
    (omega (arith, c.from-low-then-own_lower-lower.ensures, stands.ends, below))
    (omega (arith, c.from-low-then-own_lower-lower.ensures, stands.behind)) c.tick.ensures.counts

pub loop-low-smaller : goal.loop-low-smaller
loop-low-smaller g c =
    let at = (goal.at.loop-low-smaller g c).After-tick in
    omega (arith, c.from-high-then-own_lower-lower-2.ensures, (stands-at g at).ahead, c.loop-low-test.true)

pub loop-low-preserved : goal.loop-low-preserved
loop-low-preserved g c =
    let at = (goal.at.loop-low-preserved g c).After-tick in
    let kind = type_at c.args.attributes.now in
    let index = c.args.index.now in
    let low = c.loop-low.low in
    let high = c.loop-low.high in
    let middle = (c.loop-low.low + c.loop-low.high) / 2 in
    let own = own-at g at in
    let stands = stands-at g at in
    let halves = halves-at g at c.if-own_upper-upper.false c.if-own_upper-upper-2.false in
    let told : c.args.kind < own = lower_more own c.args.kind c.halves-own_upper.result.1 c.halves-upper.result.1 halves c.if-own_lower-lower-2.true in
    let above = place_less kind index (c.args.kind + 1) own (omega (arith, told)) in
    before_run _ _ low high _ _ _ _ middle c.from-high-then-own_lower-lower-2.result c.loop-low.invariant c.loop-low-test.true refl
    (omega (arith, c.from-high-then-own_lower-lower-2.ensures, stands.begins, above))
    (omega (arith, c.from-high-then-own_lower-lower-2.ensures, stands.ahead)) c.tick.ensures.counts

pub in_run-requires-clause-begin : goal.in_run-requires-clause-begin
in_run-requires-clause-begin g c =
    let at = (goal.at.in_run-requires-clause-begin g c).After-tick in
    let stands = stands-at g at in
    omega (arith, stands.ahead, stands.behind)

pub in_range-requires-clause-some : goal.in_range-requires-clause-some
in_range-requires-clause-some g c =
    let at = (goal.at.in_range-requires-clause-some g c).After-tick in
    let kind = type_at c.args.attributes.now in
    let index = c.args.index.now in
    let middle = (c.loop-low.low + c.loop-low.high) / 2 in
    let own = own-at g at in
    let run = run-at g at in
    let stands = stands-at g at in
    omega (arith, ap length c.in_run.ensures, run_long kind index own middle run.begin run.end stands, stands.ahead, stands.behind)

pub in_range-requires-clause-ascending : goal.in_range-requires-clause-ascending
in_range-requires-clause-ascending g c =
    let at = (goal.at.in_range-requires-clause-ascending g c).After-tick in
    let kind = type_at c.args.attributes.now in
    let index = c.args.index.now in
    let middle = (c.loop-low.low + c.loop-low.high) / 2 in
    let own = own-at g at in
    let run = run-at g at in
    let stands = stands-at g at in
    let halves = halves-at g at c.if-own_upper-upper.false c.if-own_upper-upper-2.false in
    let same : own ≡ c.args.kind =
    lower_same own c.args.kind c.halves-own_upper.result.1 c.halves-upper.result.1 halves c.if-own_lower-lower.false c.if-own_lower-lower-2.false in
    subst IsAscending (sym (c.in_run.ensures ∙ run_taken kind index own c.args.kind middle run.begin run.end stands same))
    (run_ascending kind index c.args.kind (index_given _ _ c.requires.numbered c.requires.index).ordered)

pub returns-else-own_lower-lower-2-clause-handles : goal.returns-else-own_lower-lower-2-clause-handles
returns-else-own_lower-lower-2-clause-handles g c =
    let at = (goal.at.returns-else-own_lower-lower-2-clause-handles g c).After-tick in
    let kind = type_at c.args.attributes.now in
    let index = c.args.index.now in
    let attributes = c.args.attributes.now in
    let middle = (c.loop-low.low + c.loop-low.high) / 2 in
    let own = own-at g at in
    let run = run-at g at in
    let stands = stands-at g at in
    let halves = halves-at g at c.if-own_upper-upper.false c.if-own_upper-upper-2.false in
    let same : own ≡ c.args.kind =
    lower_same own c.args.kind c.halves-own_upper.result.1 c.halves-upper.result.1 halves c.if-own_lower-lower.false c.if-own_lower-lower-2.false in
    c.in_range.ensures.handles
    ∙ ap (handles_within c.args.first c.args.last) (c.in_run.ensures ∙ run_taken kind index own c.args.kind middle run.begin run.end stands same)
    ∙ found attributes index c.args.kind c.args.first c.args.last c.requires.numbered c.requires.index

pub returns-else-own_lower-lower-2-clause-steps : goal.returns-else-own_lower-lower-2-clause-steps
returns-else-own_lower-lower-2-clause-steps g c =
    let at = (goal.at.returns-else-own_lower-lower-2-clause-steps g c).After-tick in
    let kind = type_at c.args.attributes.now in
    let index = c.args.index.now in
    let low = c.loop-low.low in
    let high = c.loop-low.high in
    let middle = (c.loop-low.low + c.loop-low.high) / 2 in
    let own = own-at g at in
    let run = run-at g at in
    let stands = stands-at g at in
    let halves = halves-at g at c.if-own_upper-upper.false c.if-own_upper-upper-2.false in
    let same : own ≡ c.args.kind =
    lower_same own c.args.kind c.halves-own_upper.result.1 c.halves-upper.result.1 halves c.if-own_lower-lower.false c.if-own_lower-lower-2.false in
    let long = run_long kind index own middle run.begin run.end stands in
    let fits = run_fits kind index own c.args.kind middle run.begin run.end low high _ stands same c.loop-low.invariant.0 in
    paid_in_run (high - low) (length c.in_run.result.now) _ _ _ _ c.loop-low.invariant.1 (omega (arith, c.loop-low-test.true))
    (omega (arith, ap length c.in_run.ensures, long, fits))
    c.tick.ensures.counts c.in_range.ensures.steps

pub returns-clause-handles : goal.returns-clause-handles
returns-clause-handles g c =
    none_between c.args.attributes.now c.args.index.now c.args.kind c.args.first c.args.last c.requires.numbered c.requires.index
    (omega (arith, c.loop-low.invariant.0.low_side, c.loop-low.invariant.0.high_side, c.loop-low-test.false))
