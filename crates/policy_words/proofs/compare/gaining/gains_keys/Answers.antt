use Rattle.std.proofs.Common.{◌<◌, ◌+◌, Bool, ◌||◌, length, drop, ap, sym, ◌∙◌, arith}
use Rattle.std.specs.List.{list_any}
use Rattle.policy_words.specs.compare.Gains.{gains_by_key}
use Rattle.policy_rights.proofs.Keyed.{next_test}
use Rattle.policy_words.proofs.compare.gaining.gains_keys.Goals as goal

pub returns-then-gains : goal.returns-then-gains
returns-then-gains c =
    let keys = c.args.keys.now in
    let at = c.loop-at.at in
    let test = gains_by_key c.args.others.now c.args.table.now.attributes in
    let within : at < length keys = omega (arith, c.count-at-end.ensures.count, c.loop-at-test.true) in
    sym (c.loop-at.invariant ∙ next_test test keys at within
    ∙ ap (λ (passes : Bool). passes || list_any test (drop (at + 1) keys)) (sym c.in_ok-gains.ensures ∙ c.if-gains.true))

pub loop-at-preserved : goal.loop-at-preserved
loop-at-preserved c =
    let keys = c.args.keys.now in
    let at = c.loop-at.at in
    let test = gains_by_key c.args.others.now c.args.table.now.attributes in
    let within : at < length keys = omega (arith, c.count-at-end.ensures.count, c.loop-at-test.true) in
    c.loop-at.invariant ∙ next_test test keys at within
    ∙ ap (λ (passes : Bool). passes || list_any test (drop (at + 1) keys)) (sym c.in_ok-gains.ensures ∙ c.if-gains.false)
