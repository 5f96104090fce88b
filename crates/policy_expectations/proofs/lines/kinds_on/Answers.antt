use Rattle.std.proofs.Common.{List, ◌++◌, refl, ap, ◌∙◌}
use Rattle.std.specs.Prelude.{Option}
use Rattle.att_policy.specs.declared.standing.KeyFacts.{KeyFacts}
use Rattle.policy_expectations.specs.Lines.{is_on_side}
use Rattle.policy_expectations.proofs.Filtered.{all_filtered, kind_filtered, one_filtered}
use Rattle.policy_expectations.proofs.lines.kinds_on.Goals as goal

pub loop-key-preserved : goal.loop-key-preserved
loop-key-preserved c =
    one_filtered (is_on_side c.args.table.now.attributes c.args.found c.args.side) c.args.kinds.now
    c.loop-key.on.items c.add_kind_if.new.kinds.items c.loop-key.key-index _ _
    c.loop-key-test.true refl c.loop-key.invariant
    (c.in_ok-add_kind_if.ensures.ok ∙ ap (λ (more : List (Option KeyFacts)). c.loop-key.on.items ++ more)
    (kind_filtered (is_on_side c.args.table.now.attributes c.args.found c.args.side) _ _ c.is_on_side-is_on.ensures))

pub returns : goal.returns
returns c =
    all_filtered (is_on_side c.args.table.now.attributes c.args.found c.args.side) c.args.kinds.now
    c.loop-key.on.items c.loop-key.key-index c.loop-key-test.false c.loop-key.invariant
