use Rattle.std.proofs.Common.{◌<◌, ◌+◌, List, length, drop, ap, sym, ◌∙◌, arith}
use Rattle.std.specs.Prelude.{Option}
use Rattle.att_policy.specs.declared.standing.KeyFacts.{KeyFacts}
use Rattle.policy_rights.specs.Columns.{with_column, with_columns}
use Rattle.policy_rights.proofs.Keyed.{next_column}
use Rattle.policy_rights.proofs.columns.add_columns.Goals as goal

pub loop-at-preserved : goal.loop-at-preserved
loop-at-preserved c =
    let keys = c.args.keys.now in
    let at = c.loop-at.at in
    let within : at < length keys = omega (arith, c.count-at-end.ensures.count, c.loop-at-test.true) in
    ap (λ (columns : List (Option KeyFacts)). with_columns columns (drop (at + 1) keys))
    (c.in_ok-add_column.ensures.ok ∙ ap (λ (key : Option KeyFacts). with_column c.loop-at.columns.items key) c.facts.ensures)
    ∙ sym (next_column c.loop-at.columns.items keys at within)
    ∙ c.loop-at.invariant
