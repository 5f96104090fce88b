use Rattle.std.proofs.Common.{◌<◌, ◌+◌, List, length, drop, ap, sym, ◌∙◌, arith}
use Rattle.le_hci.specs.declared.peer.Peer.{Peer}
use Rattle.policy_rights.specs.Columns.{with_peers_of}
use Rattle.policy_rights.proofs.Keyed.{next_peer}
use Rattle.policy_rights.proofs.columns.peers_of_kind.Goals as goal

pub loop-at-preserved : goal.loop-at-preserved
loop-at-preserved c =
    let keys = c.args.keys.now in
    let at = c.loop-at.at in
    let within : at < length keys = omega (arith, c.count-at-end.ensures.count, c.loop-at-test.true) in
    ap (λ (peers : List Peer). with_peers_of c.args.column peers (drop (at + 1) keys)) c.in_ok-add_peer_of.ensures.ok
    ∙ sym (next_peer c.args.column c.loop-at.peers.items keys at within)
    ∙ c.loop-at.invariant
