use Rattle.std.proofs.Common.{refl}
use Rattle.playground.specs.Fields.{peer_data}
use Rattle.policy_rights.proofs.Added.{all_added, one_added}
use Rattle.playground.proofs.fields.add_peers.Goals as goal

pub loop-peer-preserved : goal.loop-peer-preserved
loop-peer-preserved c =
    one_added (peer_data c.args.column.now) c.args.peers.now c.args.text.now.items c.loop-peer.text.items
    c.add_peer.new.text.items c.loop-peer.peer-index _ _
    c.loop-peer-test.true refl c.loop-peer.invariant c.in_ok-add_peer.ensures.ok

pub returns : goal.returns
returns c = record {
  ok =
      all_added (peer_data c.args.column.now) c.args.peers.now c.args.text.now.items c.loop-peer.text.items
      c.loop-peer.peer-index c.loop-peer-test.false c.loop-peer.invariant;
}
