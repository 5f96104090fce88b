use Rattle.std.proofs.Common.{List, ap, sym, subst, ◌∙◌}
use Rattle.le_hci.specs.declared.peer.Peer.{Peer}
use Rattle.gatt_subs.specs.declared.bond.Bond.{Bond}
use Rattle.gatt_subs.specs.Rows.{peer_place, with_set, ChangesBond}
use Rattle.gatt_subs.proofs.Bonds.{changes_bond}
use Rattle.gatt_subs.proofs.rows.Rows.set.Goals as goal

pub returns-in-Some : goal.returns-in-Some
returns-in-Some c =
    let peer = c.args.peer.now in
    let place = c.in-Some.place in
    let change : Bond → Bond = with_set c.args.handle c.args.bits in
    let held = c.self.inside in
    let at = sym (c.place_of.ensures ∙ ap (λ (peers : List Peer). peer_place peers peer) c.deref.ensures.value) ∙ c.in-Some.is in
    subst (λ (bonds : List Bond). ChangesBond change peer c.args.self.now (record { peers = held.peers.items; bonds = bonds; unfitted = held.unfitted }))
    (sym c.set_bits.ensures)
    (changes_bond c.args.self.now held.peers.items held.bonds.items held.unfitted peer place change c.self.view_is c.self.invariant at)
