use Rattle.std.proofs.Common.{◌≡◌, ◌≤◌, length, Ok, subst}
use Rattle.att_pdu.specs.Grammar.{request_of}
use Rattle.att_pdu.proofs.Accepted.{accepted}
use Rattle.att_pdu.proofs.grammar.read_request.Goals as goal

pub returns-clause-accepted : goal.returns-clause-accepted
returns-clause-accepted c =
    λ request fields spells. subst (λ pdu. length pdu ≤ c.args.mtu → request_of pdu c.args.mtu ≡ Ok request) spells (accepted request c.args.mtu fields)
