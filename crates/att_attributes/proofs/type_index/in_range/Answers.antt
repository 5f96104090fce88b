use Rattle.std.proofs.Common.{◌≡◌, ◌+◌, min, length, drop, ap, ◌∙◌, arith}
use Rattle.att_attributes.specs.TypeIndex.{place_from}
use Rattle.att_attributes.proofs.OfType.{highest_past, none_below, range_between, range_to_last, take_all, take_of_drop}
use Rattle.att_attributes.proofs.type_index.in_range.Goals as goal

pub returns-then-first-handles-clause-handles : goal.returns-then-first-handles-clause-handles
returns-then-first-handles-clause-handles g c =
    let handles = c.args.handles.now in
    range_to_last handles c.args.first c.args.last 0 c.requires.ascending c.requires.some c.if-handles-highest.true
    (omega (arith, none_below handles c.args.first c.requires.some c.if-first-handles.true))

pub returns-then-handles-highest-clause-handles : goal.returns-then-handles-highest-clause-handles
returns-then-handles-highest-clause-handles g c =
    let handles = c.args.handles.now in
    let start : c.first_from-start.result ≡ min (place_from handles c.args.first) (length handles) =
    c.first_from-start.ensures.place ∙ ap (λ n. min (place_from handles n) (length handles)) c.from.ensures in
    take_of_drop handles c.first_from-start.result (length handles) (omega (arith, start))
    ∙ ap (drop c.first_from-start.result) (take_all handles)
    ∙ range_to_last handles c.args.first c.args.last c.first_from-start.result c.requires.ascending c.requires.some c.if-handles-highest.true start

pub returns-clause-handles : goal.returns-clause-handles
returns-clause-handles g c =
    let handles = c.args.handles.now in
    let past = highest_past handles c.args.last c.requires.some c.if-handles-highest.false in
    let to : place_from handles (c.from-2.result + 1) ≡ place_from handles (c.args.last + 1) = ap (λ n. place_from handles (n + 1)) c.from-2.ensures in
    let end : c.first_from-end.result ≡ place_from handles (c.args.last + 1) = omega (arith, c.first_from-end.ensures.place, to, past) in
    let start : c.first_from-start-2.result ≡ min (place_from handles c.args.first) c.first_from-end.result =
    c.first_from-start-2.ensures.place ∙ ap (λ n. min (place_from handles n) c.first_from-end.result) c.from-3.ensures in
    take_of_drop handles c.first_from-start-2.result c.first_from-end.result (omega (arith, start))
    ∙ range_between handles c.args.first c.args.last c.first_from-start-2.result c.first_from-end.result c.requires.ascending start end
