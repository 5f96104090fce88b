use Rattle.std.proofs.Common.{List, ap, sym, ◌∙◌}
use Rattle.std.specs.Option.{option_map}
use Rattle.std.proofs.lemmas.Bool.{false≢true}
use Rattle.att_numbers.specs.Types.{Row}
use Rattle.le_hci.specs.declared.peer.Peer.{Peer}
use Rattle.gatt_subs.specs.declared.bond.Bond.{Bond}
use Rattle.gatt_subs.specs.Rows.{peer_place}
use Rattle.gatt_subs.proofs.Bonds.{ends_alike, lent_row, row_changes, row_there}
use Rattle.gatt_subs.proofs.rows.Rows.of.Goals as goal

pub returns : goal.returns
returns c =
    let peer = c.args.peer.now in
    let place = c.in_ok-place.place in
    let held = c.self.inside in
    let bond = c.index_mut.result.now in
    let at = sym (c.place_of.ensures ∙ ap (λ (peers : List Peer). peer_place peers peer) c.deref.ensures.value) ∙ c.in_ok-place.was in (
      ends_alike _ _ _
          (λ (row : Row). lent_row c.args.self.now held.peers.items held.bonds.items held.unfitted peer place bond bond row c.self.view_is c.self.invariant at
          c.index_mut.ensures.value),
      record {
        writes_back = tt;
        row =
            ap (option_map (λ (bond : Bond). bond.row))
            (row_there c.args.self.now held.peers.items held.bonds.items held.unfitted peer place bond bond c.self.view_is c.self.invariant at
            c.index_mut.ensures.value);
        none = λ is. absurd (false≢true (sym is));
        changes = λ row. row_changes c.args.self.now held.peers.items held.bonds.items held.unfitted peer row c.self.view_is c.self.invariant;
      },
    )
