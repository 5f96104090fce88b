use Rattle.std.proofs.Common.{ap, ◌≡◌, ◌<◌, length, ◌∙◌, subst, arith}
use Rattle.std.specs.Prelude.{Some}
use Rattle.std.specs.Option.{option_map}
use Rattle.le_acl.specs.Packets.{Pdu, frame_octets}
use Rattle.le_acl.specs.Outgoing.{next_of, acl_octets}
use Rattle.le_acl.specs.Sending.{Sending}
use Rattle.le_acl.proofs.Fragments.{gives_first, not_all_gone}
use Rattle.le_acl.proofs.sender.Sender.next.Goals as goal
use Rattle.le_acl.proofs.sender.Sender.next.Goals.{in-Beginning, in-Continuation}

pub returns-clause-given : goal.returns-clause-given
returns-clause-given c =
    let pdu : Pdu = (c.in-Some.channel, c.in-Some.payload.now) in
    let left : c.self.inside.gone < length (frame_octets pdu) = not_all_gone _ _ _ pdu c.in-Some.ensures.front c.self.invariant.within in
    let some : 0 < c.self.inside.acl_len = omega (arith, c.self.invariant.size_least) in
    let P : Sending → Type 0 = λ sending. option_map (acl_octets c.args.handle) (next_of sending.outgoing.queue) ≡ Some c.match-at.out.items in
    subst P c.self.view_is (elim c.match-at.branch [
      | in-Beginning w ↦ gives_first _ _ _ pdu c.in-Some.ensures.front some left _ _ _ w.in-Beginning.ensures.fragment
          (ap (λ out. out.items) w.out-is ∙ w.write_acl_parts.ensures)
      | in-Continuation w ↦ gives_first _ _ _ pdu c.in-Some.ensures.front some left _ _ _ w.in-Continuation.ensures.fragment
          (ap (λ out. out.items) w.out-is ∙ w.write_acl_parts-in-Continuation.ensures)
    ])
