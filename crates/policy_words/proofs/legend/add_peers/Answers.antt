use Rattle.std.proofs.Common.{refl}
use Rattle.policy_words.specs.Legend.{peer_line}
use Rattle.policy_rights.proofs.Added.{all_added, one_added}
use Rattle.policy_words.proofs.legend.add_peers.Goals as goal

pub loop-peer-preserved : goal.loop-peer-preserved
loop-peer-preserved c =
    one_added (peer_line c.args.keys.now c.args.columns.now c.args.kinds.now c.args.name) c.args.peers.now c.args.text.now.items c.loop-peer.text.items
    c.add_peer.new.text.items c.loop-peer.peer-index _ _
    c.loop-peer-test.true refl c.loop-peer.invariant c.in_ok-add_peer.ensures.ok

pub returns : goal.returns
returns c = record {
  ok =
      all_added (peer_line c.args.keys.now c.args.columns.now c.args.kinds.now c.args.name) c.args.peers.now c.args.text.now.items c.loop-peer.text.items
      c.loop-peer.peer-index c.loop-peer-test.false c.loop-peer.invariant;
}
