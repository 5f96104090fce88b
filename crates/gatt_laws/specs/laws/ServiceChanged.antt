-- The end of a peer's pending Service Changed indication (Core 5.0, Vol 3 Part G, 7.1).
use Rattle.std.specs.Prelude.{◌≡◌, ℕ, ◌==◌, ◌&&◌, Bool, true, false, is_some, Some}
use Rattle.std.specs.List.{list_any}
use Rattle.att_numbers.specs.Types.{Handle}
use Rattle.gatt_laws.specs.laws.RowNotices.{is_replacement}
use Rattle.gatt_laws.specs.machine.ConnectionState.{key_of}
use Rattle.gatt_laws.specs.machine.Event.{Ordinal, Event}
use Rattle.gatt_laws.specs.machine.Notice.{Notice, Confirmed, noticed}
use Rattle.gatt_laws.specs.machine.State.{State, step}
use Rattle.le_hci.specs.declared.peer.Peer.{Peer}
use Rattle.le_security.specs.Entry.{same_peer}

abbrev pub is_confirmed_notice : ℕ → Handle → Notice → Bool
is_confirmed_notice handle attribute (Confirmed other at) = (other == handle) && (at == attribute)
is_confirmed_notice handle attribute notice = false

-- A peer's pending Service Changed changes only if the table is replaced, or with a notice that a
-- connection of this peer, whose link has a key, confirmed the value.
abbrev pub NoticesServiceChangedConfirmed : Type 0
NoticesServiceChangedConfirmed = (state : State) (event : Event) (peer : Peer) →
    is_replacement event ≡ false
    → ((ordinal : Ordinal) (changer : Handle) → same_peer peer (state.connections ordinal).peer
    ≡ true
    → is_some (key_of (state.connections ordinal)) ≡ true → state.shared.changer ≡ Some changer
    → list_any (is_confirmed_notice (state.connections ordinal).handle changer)
    (noticed state event) ≡ false)
    → (step state event).owed peer ≡ state.owed peer
