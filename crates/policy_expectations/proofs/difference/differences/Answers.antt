use Rattle.std.proofs.Common.{rules}
use Rattle.policy_expectations.proofs.Holding.{all_hold}
use Rattle.policy_expectations.proofs.difference.differences.Goals as goal

pub returns-clause-holds : goal.returns-clause-holds
returns-clause-holds c =
    all_hold c.args.table.now c.args.expectations.now c.add_unnamed.new.differences.items (search rules)
