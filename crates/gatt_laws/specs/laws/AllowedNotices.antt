-- Each write with a notice was permitted, and nothing refused or ignored causes one.
use Rattle.std.specs.Prelude.{◌≡◌, ℕ, true, false, All, [], length, Some, Ok, Err}
use Rattle.att_numbers.specs.Types.{Handle, Opcode, Code}
use Rattle.att_pdu.specs.Grammar.{request_of}
use Rattle.att_pdu.specs.Request.{WriteCommandPdu}
use Rattle.att_pdu.specs.Response.{ErrorResponse}
use Rattle.att_pdu.specs.declared.grammar.PduFault.TheVariants.{Ignored}
use Rattle.att_policy.specs.declared.policy.Access.TheVariants.{Command}
use Rattle.att_table.specs.Table.{value_at}
use Rattle.att_writes.specs.Entry.{whole_value}
use Rattle.att_writes.specs.Fault.{entry_fault}
use Rattle.att_writes.specs.SameBut.{is_touched}
use Rattle.gatt_conn.specs.Answer.{Writing, answer_to, writing_asked}
use Rattle.gatt_laws.specs.machine.Event.{Ordinal, Own, Asks, Event, Of}
use Rattle.gatt_laws.specs.laws.Headline.{MayUse}
use Rattle.gatt_laws.specs.machine.Notice.{Notice, Written, Configured, noticed}
use Rattle.gatt_laws.specs.laws.OwnWrites.{row_of_connection}
use Rattle.gatt_laws.specs.machine.ConnectionState.{is_live, connection_mtu, standing_of, bearer_of, prepared_of}
use Rattle.gatt_laws.specs.laws.Silence.{is_for_all}
use Rattle.gatt_laws.specs.machine.State.{State}
use Rattle.gatt_laws.specs.machine.Effect.{is_full}
use Rattle.octet_io.specs.Number.{Octets}

-- A connection with this handle that serves sends a PDU that asks to write there, and it may write
-- there in the way that it asks.
pub record MayWrite (state : State) (event : Event) (handle : ℕ) (attribute : Handle) : Type 0 where
  pub ordinal : Ordinal
  pub pdu : Octets
  pub asks : event ≡ Of ordinal (Asks pdu)
  pub serves : is_live (state.connections ordinal).mark ≡ true
  pub named : (state.connections ordinal).handle ≡ handle
  pub writing : Writing
  pub asked : writing_asked (prepared_of (state.connections ordinal))
      (request_of pdu (connection_mtu state.shared (state.connections ordinal))) ≡ Some writing
  pub named_there : is_touched writing.entries attribute ≡ true
  pub may : MayUse writing.access state.shared.table.attributes
      (standing_of state.shared (state.connections ordinal)) attribute

abbrev pub WasAllowed : State → Event → Notice → Type 0
WasAllowed state event (Written handle attribute) = MayWrite state event handle attribute
WasAllowed state event (Configured handle attribute bits) = MayWrite state event handle attribute
WasAllowed state event notice = Unit

abbrev pub TellsWhatWasAllowed : Type 0
TellsWhatWasAllowed = (state : State) (event : Event) →
    All (WasAllowed state event) (noticed state event)

-- A request that is refused causes no notice, if there is space for the refusal.
abbrev pub TellsNoRefusals : Type 0
TellsNoRefusals = (state : State) (ordinal : Ordinal) (pdu : Octets)
    (request : Opcode) (handle : Handle) (code : Code) →
    let connection = state.connections ordinal in
    is_full state.shared connection ≡ false
    → answer_to state.shared.table (row_of_connection state ordinal)
    (bearer_of state.shared connection)
    (request_of pdu (connection_mtu state.shared connection))
    ≡ Some (ErrorResponse request handle code)
    → noticed state (Of ordinal (Asks pdu)) ≡ []

-- A refused Write Command, which has no answer (Core 5.0, Vol 3 Part F, 3.4.5.3), causes no notice.
abbrev pub TellsNoRefusedCommands : Type 0
TellsNoRefusedCommands = (state : State) (ordinal : Ordinal) (pdu : Octets)
    (handle : Handle) (value : Octets) (code : Code) →
    let connection = state.connections ordinal in
    let table = state.shared.table in
    request_of pdu (connection_mtu state.shared connection) ≡ Ok (WriteCommandPdu handle value)
    → entry_fault Command table.attributes (standing_of state.shared connection)
    (length (value_at table.values handle)) (whole_value handle value) ≡ Some code
    → noticed state (Of ordinal (Asks pdu)) ≡ []

abbrev pub TellsNothingIgnored : Type 0
TellsNothingIgnored = (state : State) (ordinal : Ordinal) (pdu : Octets) →
    request_of pdu (connection_mtu state.shared (state.connections ordinal)) ≡ Err Ignored
    → noticed state (Of ordinal (Asks pdu)) ≡ []

-- An event of a connection that does not serve causes no notice, unless it connects or disconnects.
abbrev pub TellsOnlyOfTheLive : Type 0
TellsOnlyOfTheLive = (state : State) (ordinal : Ordinal) (own : Own) →
    is_live (state.connections ordinal).mark ≡ false → is_for_all own ≡ false
    → noticed state (Of ordinal own) ≡ []
