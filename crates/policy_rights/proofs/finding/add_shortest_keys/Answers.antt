use Rattle.std.proofs.Common.{refl}
use Rattle.policy_rights.specs.Findings.{shortest_key}
use Rattle.policy_rights.proofs.Added.{all_added, one_added}
use Rattle.policy_rights.proofs.finding.add_shortest_keys.Goals as goal

pub loop-key-preserved : goal.loop-key-preserved
loop-key-preserved c =
    one_added (shortest_key c.args.columns.now) c.args.columns.now c.args.findings.now.items
    c.loop-key.findings.items c.add_shortest_key.new.findings.items c.loop-key.key-index _ _
    c.loop-key-test.true refl c.loop-key.invariant c.in_ok-add_shortest_key.ensures.ok

pub returns : goal.returns
returns c = record {
  ok =
      all_added (shortest_key c.args.columns.now) c.args.columns.now c.args.findings.now.items
      c.loop-key.findings.items c.loop-key.key-index c.loop-key-test.false c.loop-key.invariant;
}
