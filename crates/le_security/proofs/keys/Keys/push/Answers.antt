use Rattle.std.proofs.Common.{rules}
use Rattle.le_security.proofs.Provisioned.{provisioned_pushed}
use Rattle.le_security.proofs.keys.Keys.push.Goals as goal

pub invariant_of-self-2 : goal.invariant_of-self-2
invariant_of-self-2 c = search (rules, provisioned_pushed)
