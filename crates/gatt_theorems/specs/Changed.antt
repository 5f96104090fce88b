-- An event changes only values and configurations that the acting connection asks to write and may
-- then write, that the application writes, or that a replacement of the table changes.
use Rattle.std.specs.Prelude.{◌≡◌, ◌<◌, true, false, is_some, Some}
use Rattle.att_numbers.specs.Types.{Handle}
use Rattle.att_pdu.specs.Grammar.{request_of}
use Rattle.att_table.specs.ConfigRow.{bits_at}
use Rattle.att_table.specs.Table.{value_at}
use Rattle.att_writes.specs.SameBut.{is_touched}
use Rattle.gatt_conn.specs.Answer.{Writing, writing_asked}
use Rattle.gatt_laws.specs.laws.Headline.{MayUse}
use Rattle.gatt_laws.specs.laws.Possible.{Possible}
use Rattle.gatt_laws.specs.machine.Event.{Ordinal, Own, Event, Connected, Disconnected, Asks, Of, Update, Replaced}
use Rattle.gatt_laws.specs.machine.ConnectionState.{is_live, key_of, connection_mtu, prepared_of, standing_of}
use Rattle.gatt_laws.specs.machine.State.{State, step}
use Rattle.le_hci.specs.declared.peer.Peer.{Peer}
use Rattle.le_security.specs.Entry.{same_peer}
use Rattle.octet_io.specs.Number.{Octets}

-- A connection that serves asks to write an attribute, and may write it in the way that it asks.
pub record MayWriteThere (state : State) (ordinal : Ordinal) (own : Own) (attribute : Handle) : Type
    0 where
  pub serves : is_live (state.connections ordinal).mark ≡ true
  pub pdu : Octets
  pub asks : own ≡ Asks pdu
  pub writing : Writing
  pub asked : writing_asked (prepared_of (state.connections ordinal))
      (request_of pdu (connection_mtu state.shared (state.connections ordinal))) ≡ Some writing
  pub there : is_touched writing.entries attribute ≡ true
  pub may : MayUse writing.access state.shared.table.attributes
      (standing_of state.shared (state.connections ordinal)) attribute

abbrev pub ChangesAValue : State → Event → Handle → Type 0
ChangesAValue state (Of ordinal own) attribute = MayWriteThere state ordinal own attribute
ChangesAValue state (Update handle value) attribute = handle ≡ attribute
ChangesAValue state (Replaced table) attribute = Unit
ChangesAValue state event attribute = ⊥

abbrev pub ChangesValuesByRight : Type 0
ChangesValuesByRight = (state : State) (event : Event) (attribute : Handle) → 0 < attribute
    → Possible (λ table. Unit) state event
    → (value_at (step state event).shared.table.values attribute
    ≡ value_at state.shared.table.values attribute → ⊥)
    → ChangesAValue state event attribute

-- A connection configures its own row while its link has no key, and its peer's bond while it has
-- one.
pub record ConfiguresItsOwn (state : State) (ordinal : Ordinal) (own : Own)
    (attribute : Handle) : Type 0 where
  pub keyless : is_some (key_of (state.connections ordinal)) ≡ false
  pub may : MayWriteThere state ordinal own attribute

pub record ConfiguresItsBond (state : State) (ordinal : Ordinal) (own : Own) (peer : Peer)
    (attribute : Handle) : Type 0 where
  pub keyed : is_some (key_of (state.connections ordinal)) ≡ true
  pub of : same_peer peer (state.connections ordinal).peer ≡ true
  pub may : MayWriteThere state ordinal own attribute

-- A connection has nothing configured when it connects, and leaves nothing when it disconnects.
abbrev pub HasNothing : State → Ordinal → Own → Handle → Type 0
HasNothing state ordinal own attribute =
    bits_at ((step state (Of ordinal own)).connections ordinal).row attribute ≡ 0

abbrev pub ConfiguresOwn : State → Ordinal → Own → Handle → Type 0
ConfiguresOwn state ordinal (Connected handle peer) attribute =
    HasNothing state ordinal (Connected handle peer) attribute
ConfiguresOwn state ordinal Disconnected attribute = HasNothing state ordinal Disconnected attribute
ConfiguresOwn state ordinal own attribute = ConfiguresItsOwn state ordinal own attribute

abbrev pub ChangesAnOwnRow : State → Event → Ordinal → Handle → Type 0
ChangesAnOwnRow state (Of at own) ordinal attribute =
    (ordinal ≡ at) × ConfiguresOwn state at own attribute
ChangesAnOwnRow state (Replaced table) ordinal attribute = Unit
ChangesAnOwnRow state event ordinal attribute = ⊥

abbrev pub ChangesOwnRowsByRight : Type 0
ChangesOwnRowsByRight = (state : State) (event : Event) (ordinal : Ordinal) (attribute : Handle)
    → (bits_at ((step state event).connections ordinal).row attribute
    ≡ bits_at (state.connections ordinal).row attribute → ⊥)
    → ChangesAnOwnRow state event ordinal attribute

abbrev pub ChangesABond : State → Event → Peer → Handle → Type 0
ChangesABond state (Of ordinal own) peer attribute =
    ConfiguresItsBond state ordinal own peer attribute
ChangesABond state (Replaced table) peer attribute = Unit
ChangesABond state event peer attribute = ⊥

abbrev pub ChangesBondsByRight : Type 0
ChangesBondsByRight = (state : State) (event : Event) (peer : Peer) (attribute : Handle)
    → (bits_at ((step state event).bonds peer) attribute ≡ bits_at (state.bonds peer) attribute → ⊥)
    → ChangesABond state event peer attribute
