use Rattle.std.proofs.Common.{◌<◌, ◌+◌, List, length, drop, Some, None, ap, sym, ◌∙◌, arith}
use Rattle.std.specs.Option.{option_copied}
use Rattle.le_hci.specs.declared.peer.Peer.{Peer}
use Rattle.gatt_subs.specs.Fit.{peers_with}
use Rattle.gatt_subs.proofs.Supported.{peers_more}
use Rattle.gatt_subs.proofs.fit.peers_of.Goals as goal
use Rattle.gatt_subs.proofs.fit.peers_of.Goals.{in-Some+in_ok-add_peer, in_default}

pub loop-at-preserved : goal.loop-at-preserved
loop-at-preserved c =
    let keys = c.args.keys.now in
    let at = c.loop-at.at in
    let peers = c.loop-at.peers.items in
    let within : at < length keys = omega (arith, c.count-at-end.ensures.count, c.loop-at-test.true) in
    let step : List Peer → List Peer = λ peers. peers_with peers (drop (at + 1) keys) in
    elim c.match-peer.branch [
      | in-Some+in_ok-add_peer w ↦
          ap step ((λ i. (w.peers-is i).items) ∙ w.in_ok-add_peer.ensures)
          ∙ peers_more keys peers at (Some w.in-Some.peer.now) (ap option_copied (sym w.in-Some.is) ∙ c.peer.ensures) within
          ∙ c.loop-at.invariant
      | in_default w ↦
          ap step (λ i. (w.peers-is i).items)
          ∙ peers_more keys peers at None (ap option_copied (sym w.in_default.is) ∙ c.peer.ensures) within
          ∙ c.loop-at.invariant
    ]
