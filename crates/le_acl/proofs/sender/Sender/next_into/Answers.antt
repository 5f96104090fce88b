use Rattle.std.proofs.Common.{ap, ◌≡◌, ◌<◌, ◌≤◌, length, take, ap₂, ◌∙◌, subst, arith}
use Rattle.std.specs.Prelude.{Some}
use Rattle.std.specs.Option.{option_map}
use Rattle.le_acl.specs.Fragment.{Beginning}
use Rattle.le_acl.specs.Packets.{Pdu, frame_octets}
use Rattle.le_acl.specs.Outgoing.{next_of, acl_octets}
use Rattle.le_acl.specs.Sending.{Sending}
use Rattle.le_acl.proofs.Fragments.{gives_first, not_all_gone, whole_first}
use Rattle.le_acl.proofs.sender.Sender.next_into.Goals as goal
use Rattle.le_acl.proofs.sender.Sender.next_into.Goals.{in-Beginning, in-Continuation}

pub returns-clause-given : goal.returns-clause-given
returns-clause-given c =
    let pdu : Pdu = (c.in_ok-channel.channel, c.in_ok-channel.payload.now) in
    let left : c.self.inside.gone < length (frame_octets pdu) = not_all_gone _ _ _ pdu c.in_ok-channel.ensures.front c.self.invariant.within in
    let some : 0 < c.self.inside.acl_len = omega (arith, c.self.invariant.size_least) in
    let P : Sending → Type 0 = λ sending. option_map (acl_octets c.args.handle) (next_of sending.outgoing.queue) ≡ Some (take c.match-at.count c.match-at.out)
    in
    subst P c.self.view_is (elim c.match-at.branch [
      | in-Beginning w ↦ gives_first _ _ _ pdu c.in_ok-channel.ensures.front some left _ _ _ w.in-Beginning.ensures.fragment
          (ap₂ take w.count-is w.out-is ∙ w.acl_into-count-in-Beginning.ensures.written)
      | in-Continuation w ↦ gives_first _ _ _ pdu c.in_ok-channel.ensures.front some left _ _ _ w.in-Continuation.ensures.fragment
          (ap₂ take w.count-is w.out-is ∙ w.acl_into-count-in-Continuation.ensures.written)
    ])

pub returns-then-frame_len-self-clause-given : goal.returns-then-frame_len-self-clause-given
returns-then-frame_len-self-clause-given c =
    let pdu : Pdu = (c.in_ok-channel.channel, c.in_ok-channel.payload.now) in
    let left : c.self.inside.gone < length (frame_octets pdu) = not_all_gone _ _ _ pdu c.in_ok-channel.ensures.front c.self.invariant.within in
    let some : 0 < c.self.inside.acl_len = omega (arith, c.self.invariant.size_least) in
    let none : c.self.inside.gone ≡ 0 = omega (arith, c.if-self-eq0.true) in
    let fits : length (frame_octets pdu) ≤ c.self.inside.acl_len = omega (arith, c.if-frame_len-self.true) in
    let P : Sending → Type 0 =
    λ sending. option_map (acl_octets c.args.handle) (next_of sending.outgoing.queue) ≡ Some (take c.acl_into-count.result c.acl_into-count.new.out) in
    subst P c.self.view_is (gives_first c.self.inside.acl_len c.self.inside.gone _ pdu c.in_ok-channel.ensures.front some left c.args.handle _ _
    (ap Beginning c.header_of-header.ensures ∙ whole_first c.self.inside.acl_len c.self.inside.gone pdu none fits) c.acl_into-count.ensures.written)
