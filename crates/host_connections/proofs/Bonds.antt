-- Changes of a peer's bond, one after another.
use Rattle.std.proofs.Common.{◌≡◌, Bool, true, false, Option, Some, None, refl, sym, ap, ◌∙◌}
use Rattle.std.specs.Option.{option_map}
use Rattle.att_numbers.specs.Types.{Row}
use Rattle.host_connections.specs.Request.{with_owed_after}
use Rattle.gatt_subs.specs.declared.bond.Bond.{Bond}
use Rattle.gatt_subs.specs.Rows.{Subscriptions, bond_of, row_of, with_owed, with_row, ChangesBond}
use Rattle.le_hci.specs.declared.peer.Peer.{Peer}
use Rattle.octet_io.proofs.Choices.{and_with_false, and_with_true}

-- a change that is the same is the same on a bond that may not be there
mapped : (f g : Bond → Bond) → ((bond : Bond) → f bond ≡ g bond) → (found : Option Bond) → option_map f found ≡ option_map g found
mapped f g same None = refl
mapped f g same (Some bond) = ap (λ (b : Bond). Some b) (same bond)

mapped-twice : (f g : Bond → Bond) (found : Option Bond) → option_map g (option_map f found) ≡ option_map (λ bond. g (f bond)) found
mapped-twice f g None = refl
mapped-twice f g (Some bond) = refl

mapped-same : (f : Bond → Bond) → ((bond : Bond) → f bond ≡ bond) → (found : Option Bond) → found ≡ option_map f found
mapped-same f same None = refl
mapped-same f same (Some bond) = ap (λ (b : Bond). Some b) (sym (same bond))

pub changes-as : (f g : Bond → Bond) (peer : Peer) (old new : Subscriptions) → ((bond : Bond) → f bond ≡ g bond) → ChangesBond f peer old new
    → ChangesBond g peer old new
changes-as f g peer old new same changes = record {
  bond = changes.bond ∙ mapped f g same (bond_of old peer);
  others = changes.others;
  unfitted = changes.unfitted;
  peers = changes.peers;
  count = changes.count;
}

pub changes-twice : (f g : Bond → Bond) (peer : Peer) (old mid new : Subscriptions) → ChangesBond f peer old mid → ChangesBond g peer mid new
    → ChangesBond (λ bond. g (f bond)) peer old new
changes-twice f g peer old mid new first second = record {
  bond = second.bond ∙ ap (λ (found : Option Bond). option_map g found) first.bond ∙ mapped-twice f g (bond_of old peer);
  others = λ other apart. second.others other apart ∙ first.others other apart;
  unfitted = second.unfitted ∙ first.unfitted;
  peers = second.peers ∙ first.peers;
  count = second.count ∙ first.count;
}

pub changes-nothing : (f : Bond → Bond) (peer : Peer) (rows : Subscriptions) → ((bond : Bond) → f bond ≡ bond) → ChangesBond f peer rows rows
changes-nothing f peer rows same = record {
  bond = mapped-same f same (bond_of rows peer);
  others = λ other apart. refl;
  unfitted = refl;
  peers = refl;
  count = refl;
}

-- a peer that has confirmed is owed nothing, and another stays as it was
pub confirmed_owed : (peer : Peer) (old new : Subscriptions) → ChangesBond (with_owed false) peer old new → ChangesBond (with_owed_after true) peer old new
confirmed_owed peer old new changes =
    changes-as (with_owed false) (with_owed_after true) peer old new
    (λ bond. ap (λ (owed : Bool). record { row = bond.row; owed = owed }) (sym (and_with_false bond.owed))) changes

pub unconfirmed_owed : (peer : Peer) (rows : Subscriptions) → ChangesBond (with_owed_after false) peer rows rows
unconfirmed_owed peer rows =
    changes-nothing (with_owed_after false) peer rows
    (λ bond. ap (λ (owed : Bool). record { row = bond.row; owed = owed }) (and_with_true bond.owed))

-- a row that is written in the place of a bond's is the bond's then
with_row_there : (row then-row : Row) (found : Option Bond) → option_map (λ (bond : Bond). bond.row) found ≡ Some row
    → option_map (λ (bond : Bond). bond.row) (option_map (with_row then-row) found) ≡ Some then-row
with_row_there row then-row (Some bond) is = refl
with_row_there row then-row None is = cc is

pub row_put : (row then-row : Row) (peer : Peer) (old new : Subscriptions) → row_of old peer ≡ Some row → ChangesBond (with_row then-row) peer old new
    → row_of new peer ≡ Some then-row
row_put row then-row peer old new is changes =
    ap (λ (found : Option Bond). option_map (λ (bond : Bond). bond.row) found) changes.bond ∙ with_row_there row then-row (bond_of old peer) is
