use Rattle.std.proofs.Common.{◌<◌, ◌+◌, Bool, ◌||◌, length, drop, ap, sym, ◌∙◌, arith}
use Rattle.std.specs.List.{list_any}
use Rattle.policy_rights.specs.Columns.{is_key_of}
use Rattle.policy_rights.proofs.Keyed.{next_test}
use Rattle.policy_rights.proofs.columns.has_key.Goals as goal

pub returns-then-is_key_of : goal.returns-then-is_key_of
returns-then-is_key_of c =
    let keys = c.args.keys.now in
    let at = c.loop-at.at in
    let test = is_key_of c.args.peer.now c.args.column in
    let within : at < length keys = omega (arith, c.count-at-end.ensures.count, c.loop-at-test.true) in
    sym (c.loop-at.invariant ∙ next_test test keys at within
    ∙ ap (λ (passes : Bool). passes || list_any test (drop (at + 1) keys)) (sym c.is_key_of.ensures ∙ c.if-is_key_of.true))

pub loop-at-preserved : goal.loop-at-preserved
loop-at-preserved c =
    let keys = c.args.keys.now in
    let at = c.loop-at.at in
    let test = is_key_of c.args.peer.now c.args.column in
    let within : at < length keys = omega (arith, c.count-at-end.ensures.count, c.loop-at-test.true) in
    c.loop-at.invariant ∙ next_test test keys at within
    ∙ ap (λ (passes : Bool). passes || list_any test (drop (at + 1) keys)) (sym c.is_key_of.ensures ∙ c.if-is_key_of.false)
