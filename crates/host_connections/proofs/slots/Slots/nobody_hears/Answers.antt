use Rattle.std.proofs.Common.{◌≡◌, ℕ, ◌<◌, true, List, [], None, sym, ap, subst, ◌∙◌, arith}
use Rattle.std.specs.Int.{bit_at}
use Rattle.std.proofs.lemmas.Bool.{OnTrue_at, OnTrue_from}
use Rattle.att_numbers.specs.Types.{Handle}
use Rattle.att_table.specs.Table.{Contents}
use Rattle.host_api.specs.declared.TheConstants.{MAX_SLOTS}
use Rattle.host_connections.proofs.Covering.{there}
use Rattle.host_connections.proofs.InTurn.{nobody_listens, nothing_is_raised}
use Rattle.host_connections.proofs.Quiet.{none_there}
use Rattle.host_connections.proofs.Skipping.{nobody_misses, nothing_is_missed}
use Rattle.host_connections.specs.Skips.{all_skipped}
use Rattle.host_connections.specs.Slots.{SlotStates, all_heard, is_own_place}
use Rattle.host_connections.specs.declared.places.Due.TheVariants.{Value}
use Rattle.gatt_subs.specs.Rows.{Subscriptions}
use Rattle.host_connections.proofs.slots.Slots.nobody_hears.Goals as goal

pub returns-then-is_empty-2-clause-heard : goal.returns-then-is_empty-2-clause-heard
returns-then-is_empty-2-clause-heard c =
    let a = c.args in
    let here : a.here.now ≡ [] = none_there a.here.now (sym c.is_empty.ensures ∙ c.if-is_empty.true) in
    let handles : a.handles.now ≡ [] = none_there a.handles.now (sym c.is_empty-then-is_empty.ensures ∙ c.if-is_empty-2.true) in
    let all : (table : Contents) → (rows : Subscriptions) → (now : ℕ)
    → all_heard table now rows a.own a.here.now a.handles.now a.self.now ≡ all_heard table now rows None [] [] a.self.now = λ table rows now.
    ap (λ (it : List Handle). all_heard table now rows a.own it a.handles.now a.self.now) here
    ∙ ap (λ (it : List Handle). all_heard table now rows a.own [] it a.self.now) handles
    ∙ nothing_is_raised table now rows a.own a.self.now in
    OnTrue_from _ _ (λ is. all)

pub returns-else-is_empty-2-clause-heard : goal.returns-else-is_empty-2-clause-heard
returns-else-is_empty-2-clause-heard c =
    let a = c.args in
    let slots = c.self.inside.slots.items in
    let marked = c.self.invariant.0 in
    let here : a.here.now ≡ [] = none_there a.here.now (sym c.is_empty.ensures ∙ c.if-is_empty.true) in
    OnTrue_from _ _ (λ is.
    let only : (place : ℕ) → place < MAX_SLOTS → bit_at c.self.inside.marks.listening.bits place ≡ 1 → is_own_place a.own place ≡ true =
    OnTrue_at is c.is_empty_but.ensures in
    let all : (table : Contents) → (rows : Subscriptions) → (now : ℕ)
    → all_heard table now rows a.own a.here.now a.handles.now a.self.now ≡ all_heard table now rows None [] [] a.self.now = λ table rows now.
    ap (λ (it : List Handle). all_heard table now rows a.own it a.handles.now a.self.now) here
    ∙ subst (λ (it : SlotStates). all_heard table now rows a.own [] a.handles.now it ≡ all_heard table now rows None [] [] it) c.self.view_is
    (nobody_listens table now rows a.own a.handles.now slots
    (λ place listens. only place (omega (arith, there Value slots place listens, marked.few)) (marked.listening place listens))) in
    all)

pub returns-then-is_empty-2-clause-skipped : goal.returns-then-is_empty-2-clause-skipped
returns-then-is_empty-2-clause-skipped c =
    let a = c.args in
    let here : a.here.now ≡ [] = none_there a.here.now (sym c.is_empty.ensures ∙ c.if-is_empty.true) in
    let handles : a.handles.now ≡ [] = none_there a.handles.now (sym c.is_empty-then-is_empty.ensures ∙ c.if-is_empty-2.true) in
    let all : (table : Contents) → (rows : Subscriptions) → (now : ℕ) → all_skipped table now rows a.own a.here.now a.handles.now a.self.now ≡ [] =
    λ table rows now.
    ap (λ (it : List Handle). all_skipped table now rows a.own it a.handles.now a.self.now) here
    ∙ ap (λ (it : List Handle). all_skipped table now rows a.own [] it a.self.now) handles
    ∙ nothing_is_missed table now rows a.own a.self.now in
    OnTrue_from _ _ (λ is. all)

pub returns-else-is_empty-2-clause-skipped : goal.returns-else-is_empty-2-clause-skipped
returns-else-is_empty-2-clause-skipped c =
    let a = c.args in
    let slots = c.self.inside.slots.items in
    let marked = c.self.invariant.0 in
    let here : a.here.now ≡ [] = none_there a.here.now (sym c.is_empty.ensures ∙ c.if-is_empty.true) in
    OnTrue_from _ _ (λ is.
    let only : (place : ℕ) → place < MAX_SLOTS → bit_at c.self.inside.marks.listening.bits place ≡ 1 → is_own_place a.own place ≡ true =
    OnTrue_at is c.is_empty_but.ensures in
    let all : (table : Contents) → (rows : Subscriptions) → (now : ℕ) → all_skipped table now rows a.own a.here.now a.handles.now a.self.now ≡ [] =
    λ table rows now.
    ap (λ (it : List Handle). all_skipped table now rows a.own it a.handles.now a.self.now) here
    ∙ ap (λ (it : SlotStates). all_skipped table now rows a.own [] a.handles.now it) (sym c.self.view_is)
    ∙ nobody_misses table now rows a.own a.handles.now slots
    (λ place listens. only place (omega (arith, there Value slots place listens, marked.few)) (marked.listening place listens)) in
    all)
