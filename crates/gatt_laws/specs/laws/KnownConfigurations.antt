-- Client characteristic configurations (Core 5.0, Vol 3 Part G, 3.3.3.3), as a listener knows them.
use Rattle.std.specs.Prelude.{◌≡◌, ℕ, ◌==◌, ◌&&◌, Bool, true, false, not, is_some, fold, if◌then◌else◌}
use Rattle.std.specs.Prelude.{List, [], ◌∷◌, Option, Some, None}
use Rattle.std.specs.Option.{option_map_or}
use Rattle.att_numbers.specs.Types.{Handle}
use Rattle.att_table.specs.ConfigRow.{bits_at}
use Rattle.gatt_laws.specs.laws.KnownKeys.{KnownKeys, known_keys_after, no_keys_known}
use Rattle.gatt_laws.specs.laws.OwnWrites.{row_of_connection}
use Rattle.gatt_laws.specs.laws.Present.{Present, present_after, nobody_present}
use Rattle.gatt_laws.specs.laws.RowNotices.{is_replacement}
use Rattle.gatt_laws.specs.machine.ConnectionState.{is_there}
use Rattle.gatt_laws.specs.machine.Context.{holding}
use Rattle.gatt_laws.specs.machine.Event.{Ordinal, Event}
use Rattle.gatt_laws.specs.machine.Input.{Item, Run, after_item, run_at_start, run}
use Rattle.gatt_laws.specs.machine.ItemEvents.{event_at}
use Rattle.gatt_laws.specs.machine.Notice.{Notice, Connected, Configured, notices_of}
use Rattle.gatt_laws.specs.machine.Start.{Start}
use Rattle.gatt_laws.specs.machine.State.{State}
use Rattle.le_hci.specs.declared.peer.Peer.{Peer}
use Rattle.le_security.specs.Entry.{same_peer}

-- Own bits are known by connection handle, those of bonds by peer.
pub record Known : Type 0 where
  pub present : Present
  pub keys : KnownKeys
  pub own : ℕ → Handle → ℕ
  pub bonds : Peer → Handle → ℕ

abbrev pub is_peer_of : Peer → Option Peer → Bool
is_peer_of peer None = false
is_peer_of peer (Some other) = same_peer peer other

-- A connection has configured nothing when it connects. Its configurations are its own while its
-- link has no key, else its bond's.
abbrev pub own_bits_after : Known → Notice → ℕ → Handle → ℕ
own_bits_after known (Connected handle peer) other attribute =
    if handle == other then 0 else known.own other attribute
own_bits_after known (Configured handle at bits) other attribute =
    if (handle == other) && not (is_some (known.keys handle)) && (at == attribute) then bits
    else known.own other attribute
own_bits_after known notice other attribute = known.own other attribute

abbrev pub bond_bits_after : Known → Notice → Peer → Handle → ℕ
bond_bits_after known (Configured handle at bits) peer attribute =
    if is_some (known.keys handle) && is_peer_of peer (known.present handle) && (at == attribute)
    then bits
    else known.bonds peer attribute
bond_bits_after known notice peer attribute = known.bonds peer attribute

abbrev pub known_after_notice : Known → Notice → Known
known_after_notice known notice = record {
  present = present_after known.present notice;
  keys = known_keys_after known.keys notice;
  own = own_bits_after known notice;
  bonds = bond_bits_after known notice;
}

-- At first nobody is connected, and the bonds are those of the start.
abbrev pub known_at_start : Start → Known
known_at_start start = record {
  present = nobody_present;
  keys = no_keys_known;
  own = λ handle attribute. 0;
  bonds = λ peer attribute. bits_at (start.bonds peer) attribute;
}

-- The configurations are read again after the table is replaced.
abbrev pub with_bits_read : State → Known → Known
with_bits_read state known = record known {
  own = λ handle attribute.
      option_map_or (λ ordinal. bits_at (state.connections ordinal).row attribute)
      (holding state handle) 0;
  bonds = λ peer attribute. bits_at (state.bonds peer) attribute;
}

abbrev pub is_replacing : Option Event → Bool
is_replacing event = option_map_or is_replacement event false

abbrev pub known_after_item : Run → Known → Item → Known
known_after_item run known item =
    if is_replacing (event_at run.intake item)
    then with_bits_read (after_item run item).intake.state known
    else fold known_after_notice known (notices_of run item)

abbrev pub known_after_items : Run → Known → List Item → Known
known_after_items run known [] = known
known_after_items run known (item ∷ items) =
    known_after_items (after_item run item) (known_after_item run known item) items

abbrev pub bits_known_of : Known → ℕ → Handle → ℕ
bits_known_of known handle attribute =
    if is_some (known.keys handle)
    then option_map_or (λ peer. known.bonds peer attribute) (known.present handle) 0
    else known.own handle attribute

pub record AreConfigurationsKnown (state : State) (known : Known) : Type 0 where
  pub own : (ordinal : Ordinal) (attribute : Handle) → is_there (state.connections ordinal).mark
      ≡ true
      → known.own (state.connections ordinal).handle attribute
      ≡ bits_at (state.connections ordinal).row attribute
  pub bonds : (peer : Peer) (attribute : Handle) → known.bonds peer attribute
      ≡ bits_at (state.bonds peer) attribute
  pub in_force : (ordinal : Ordinal) (attribute : Handle)
      → is_there (state.connections ordinal).mark ≡ true
      → bits_known_of known (state.connections ordinal).handle attribute
      ≡ bits_at (row_of_connection state ordinal) attribute

-- In every run a listener knows each configuration.
abbrev pub KnowsTheConfigurations : Type 0
KnowsTheConfigurations = (start : Start) (input : List Item) →
    AreConfigurationsKnown (run start input).intake.state
    (known_after_items (run_at_start start) (known_at_start start) input)
