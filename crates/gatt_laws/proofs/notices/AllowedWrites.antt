-- What is told of writes was allowed.
use Rattle.std.proofs.Common.{◌≡◌, ℕ, Bool, true, false, List, [], ◌∷◌, map, Option, Some}
use Rattle.std.proofs.Common.{None}
use Rattle.std.proofs.Common.{Result, Ok, Err, refl}
use Rattle.std.specs.Prelude.{◌++◌, ◌==◌, ◌&&◌, ◌||◌, not, All, IfSome, if◌then◌else◌}
use Rattle.std.specs.List.{flat_map}
use Rattle.std.specs.Option.{option_to_list}
use Rattle.std.proofs.lemmas.Bool.{eq-eqb, or_right}
use Rattle.std.proofs.lemmas.List.Elements.{All-nil, All-cons, All-append}
use Rattle.att_numbers.specs.Types.{Handle, Row}
use Rattle.att_attributes.specs.declared.attr.Attr.{Attr}
use Rattle.att_attributes.specs.Attributes.{is_configuration_at}
use Rattle.att_pdu.specs.Grammar.{request_of, is_due}
use Rattle.att_policy.specs.declared.standing.KeyFacts.{KeyFacts}
use Rattle.att_table.specs.ConfigRow.{bits_at}
use Rattle.att_policy.specs.Refusal.{Refusal}
use Rattle.att_writes.specs.Applied.{Stored, applied_to}
use Rattle.att_writes.specs.Entry.{Entry}
use Rattle.att_writes.specs.Queue.{touched_by}
use Rattle.att_writes.specs.SameBut.{is_touched}
use Rattle.gatt_conn.specs.Answer.{Question, Writing, writing_asked, handles_after, handles_by}
use Rattle.gatt_conn.specs.Answer.{is_confirmation}
use Rattle.gatt_laws.proofs.policy.Headline.{each-once, writes_what_may_be_written}
use Rattle.gatt_laws.proofs.notices.Skips.{holds_with_skips}
use Rattle.gatt_laws.specs.laws.AllowedNotices.{MayWrite, WasAllowed, TellsWhatWasAllowed}
use Rattle.gatt_laws.specs.machine.Controller.{Slots}
use Rattle.gatt_laws.specs.machine.Event.{Ordinal, Own, Event, Encrypted, Refreshed, Asks}
use Rattle.gatt_laws.specs.machine.Event.{Of, Credit, Tick}
use Rattle.gatt_laws.specs.machine.Event as event
use Rattle.gatt_laws.specs.laws.Headline.{Each, MayUse}
use Rattle.gatt_laws.specs.machine.Notice.{Notice, Connected, Disconnected, Secured, Unsecured, Written}
use Rattle.gatt_laws.specs.machine.Notice.{Configured, Confirmed, TimedOut, Ending, are_same_facts}
use Rattle.gatt_laws.specs.machine.Notice.{link_told, write_told, confirmation_told, end_told, live_told}
use Rattle.gatt_laws.specs.machine.Notice.{own_told, late_told, slot_told, event_told}
use Rattle.gatt_laws.specs.machine.ConnectionState.{ConnectionState, is_live, is_there, key_of, row_in_force, connection_mtu, standing_of}
use Rattle.gatt_laws.specs.machine.ConnectionState.{bearer_of, prepared_of}
use Rattle.gatt_laws.specs.machine.State.{State}
use Rattle.gatt_laws.specs.machine.Effect.{Effect, is_full, effect_of, handles_written}
use Rattle.gatt_subs.specs.declared.pending.Unconfirmed.{Unconfirmed}
use Rattle.octet_io.specs.Number.{Octets}

-- each handle that is written is one that an entry names
abbrev IsTouched : List Entry → Handle → Type 0
IsTouched entries handle = is_touched entries handle ≡ true

also-touched : (entry : Entry) (entries : List Entry) (handles : List Handle) → Each (IsTouched entries) handles
    → Each (IsTouched (entry ∷ entries)) handles
also-touched entry entries [] each = tt
also-touched entry entries (handle ∷ handles) each =
    (or_right (entry.handle == handle) (is_touched entries handle) each.0, also-touched entry entries handles each.1)

each-touched : (entries : List Entry) → Each (IsTouched entries) (map (λ (entry : Entry). entry.handle) entries)
each-touched [] = tt
each-touched (entry ∷ entries) = (
  (λ i. eq-eqb entry.handle entry.handle refl i || is_touched entries entry.handle),
  also-touched entry entries (map (λ (one : Entry). one.handle) entries) (each-touched entries),
)

touched-there : (entries : List Entry) (result : Result Stored Refusal) → Each (IsTouched entries) (touched_by entries result)
touched-there entries (Ok stored) =
    each-once (IsTouched entries) (map (λ (entry : Entry). entry.handle) entries) (each-touched entries)
touched-there entries (Err refusal) = tt

-- of some lists of notices
module _ (state : State) (happens : Event) where
  abbrev Allowed : List Notice → Type 0
  Allowed notices = All (WasAllowed state happens) notices

  none-allowed : Allowed []
  none-allowed = All-nil (WasAllowed state happens)

  one-allowed : (notice : Notice) → WasAllowed state happens notice → Allowed (notice ∷ [])
  one-allowed notice was = All-cons (WasAllowed state happens) notice [] was none-allowed

  either-allowed : (one other : List Notice) (test : Bool) → Allowed one → Allowed other
      → Allowed (if test then one else other)
  either-allowed one other true first second = first
  either-allowed one other false first second = second

  both-allowed : (one other : List Notice) → Allowed one → Allowed other → Allowed (one ++ other)
  both-allowed one other first second = All-append (WasAllowed state happens) one other first second

  link-allowed : (handle : ℕ) (old new : Option KeyFacts) → Allowed (link_told handle old new)
  link-allowed handle None None = none-allowed
  link-allowed handle None (Some new) = one-allowed (Secured handle new) tt
  link-allowed handle (Some old) None = one-allowed (Unsecured handle) tt
  link-allowed handle (Some old) (Some new) =
      either-allowed [] (Secured handle new ∷ []) (are_same_facts old new) none-allowed
      (one-allowed (Secured handle new) tt)

  confirmation-allowed : (handle : ℕ) (unconfirmed : Option Unconfirmed)
      → Allowed (confirmation_told handle unconfirmed)
  confirmation-allowed handle None = none-allowed
  confirmation-allowed handle (Some unconfirmed) =
      either-allowed [] (Confirmed handle unconfirmed.handle ∷ []) unconfirmed.outdated none-allowed
      (one-allowed (Confirmed handle unconfirmed.handle) tt)

  reason-allowed : (handle : ℕ) (reason : Option ℕ)
      → Allowed (map (Ending handle) (option_to_list reason))
  reason-allowed handle None = none-allowed
  reason-allowed handle (Some reason) = one-allowed (Ending handle reason) tt

  end-allowed : (handle : ℕ) (new : ConnectionState) → Allowed (end_told handle new)
  end-allowed handle new =
      either-allowed [] (map (Ending handle) (option_to_list new.reason))
      (is_live new.mark) none-allowed
      (reason-allowed handle new.reason)

  late-allowed : (time : ℕ) (connection : ConnectionState) (late : Bool)
      → Allowed (if late then TimedOut connection.handle ∷ [] else [])
  late-allowed time connection true = one-allowed (TimedOut connection.handle) tt
  late-allowed time connection false = none-allowed

  slots-allowed : (time : ℕ) (slots : Slots) → Allowed (flat_map (slot_told state time) slots)
  slots-allowed time [] = none-allowed
  slots-allowed time (None ∷ slots) = slots-allowed time slots
  slots-allowed time (Some ordinal ∷ slots) =
      let connection : ConnectionState = state.connections ordinal in
      both-allowed (late_told time connection) (flat_map (slot_told state time) slots)
      (late-allowed time connection _) (slots-allowed time slots)

  -- of a connection that serves
  module _ (ordinal : Ordinal) (serves : is_live (state.connections ordinal).mark ≡ true) where
    abbrev its : ConnectionState
    its = state.connections ordinal

    abbrev attributes : List Attr
    attributes = state.shared.table.attributes

    abbrev asked_by : Octets → Question
    asked_by pdu = request_of pdu (connection_mtu state.shared its)

    may-write : (pdu : Octets) (writing : Writing) (attribute : Handle) → happens ≡ Of ordinal (Asks pdu)
        → writing_asked (prepared_of its) (asked_by pdu) ≡ Some writing
        → is_touched writing.entries attribute ≡ true
        → MayUse writing.access attributes (standing_of state.shared its) attribute
        → MayWrite state happens its.handle attribute
    may-write pdu writing attribute asks asked there may = record {
      ordinal = ordinal;
      pdu = pdu;
      asks = asks;
      serves = serves;
      named = refl;
      writing = writing;
      asked = asked;
      named_there = there;
      may = may;
    }

    write-allowed : (row : Row) (attribute : Handle) (configuration : Bool)
        → MayWrite state happens its.handle attribute
        → WasAllowed state happens (if configuration then Configured its.handle attribute
        (bits_at row attribute)
        else Written its.handle attribute)
    write-allowed row attribute true may = may
    write-allowed row attribute false may = may

    -- by a PDU
    module _ (pdu : Octets) (asks : happens ≡ Of ordinal (Asks pdu)) where
      writes-allowed : (row : Row) (writing : Writing) (handles : List Handle)
          → writing_asked (prepared_of its) (asked_by pdu) ≡ Some writing
          → Each (MayUse writing.access attributes (standing_of state.shared its)) handles
          → Each (IsTouched writing.entries) handles
          → Allowed (map (write_told attributes row its.handle) handles)
      writes-allowed row writing [] asked each there = none-allowed
      writes-allowed row writing (attribute ∷ handles) asked each there =
          All-cons (WasAllowed state happens) (write_told attributes row its.handle attribute)
          (map (write_told attributes row its.handle) handles)
          (write-allowed row attribute (is_configuration_at attributes attribute)
          (may-write pdu writing attribute asks asked there.0 each.0))
          (writes-allowed row writing handles asked each.1 there.1)

      asked-allowed : (row old : Row) (writing : Option Writing)
          → writing_asked (prepared_of its) (asked_by pdu) ≡ writing
          → IfSome writing (λ (one : Writing). Each
          (MayUse one.access attributes (standing_of state.shared its))
          (handles_after state.shared.table old (standing_of state.shared its) writing))
          → Allowed (map (write_told attributes row its.handle)
          (handles_after state.shared.table old (standing_of state.shared its) writing))
      asked-allowed row old None asked each = none-allowed
      asked-allowed row old (Some writing) asked each =
          writes-allowed row writing _ asked each (touched-there writing.entries
          (applied_to writing.access state.shared.table old (standing_of state.shared its) writing.entries))

      -- where there is no room for the answer, nothing is written
      request-allowed : (bond row : Row) (served : Bool)
          → Allowed (map (write_told attributes row its.handle)
          (if served then handles_by state.shared.table (row_in_force bond its)
          (bearer_of state.shared its) (asked_by pdu)
          else []))
      request-allowed bond row true =
          let conn = bearer_of state.shared its in
          asked-allowed row (row_in_force bond its) (writing_asked conn.queue (asked_by pdu)) refl
          (writes_what_may_be_written state.shared.table (row_in_force bond its) conn (asked_by pdu))
      request-allowed bond row false = none-allowed

      asks-allowed : (bond : Row) (effect : Effect)
          → Allowed (live_told state.shared bond its (Asks pdu) effect)
      asks-allowed bond effect =
          let row : Row = row_in_force effect.bond effect.connection in
          both-allowed (map (write_told attributes row its.handle)
          (handles_written state.shared bond its (Asks pdu)))
          (if is_confirmation pdu then confirmation_told its.handle its.pending.unconfirmed else [])
          (request-allowed bond row
          (is_live its.mark && not (is_due (asked_by pdu) && is_full state.shared its)))
          (either-allowed (confirmation_told its.handle its.pending.unconfirmed) []
          (is_confirmation pdu)
          (confirmation-allowed its.handle its.pending.unconfirmed) none-allowed)

    live-allowed : (bond : Row) (own : Own) (effect : Effect) → happens ≡ Of ordinal own
        → Allowed (live_told state.shared bond its own effect)
    live-allowed bond (Asks pdu) effect is = asks-allowed pdu is bond effect
    live-allowed bond (Encrypted status enabled) effect is = link-allowed its.handle (key_of its)
        (key_of effect.connection)
    live-allowed bond (Refreshed status) effect is = link-allowed its.handle (key_of its)
        (key_of effect.connection)
    live-allowed bond own effect is = none-allowed

  module _ (ordinal : Ordinal) (bond : Row) (effect : Effect) where
    abbrev told-part : ConnectionState
    told-part = state.connections ordinal

    if-live-allowed : (own : Own) (live : Bool) → happens ≡ Of ordinal own → is_live told-part.mark ≡ live
        → Allowed (if live then live_told state.shared bond told-part own effect
        ++ end_told told-part.handle effect.connection else [])
    if-live-allowed own true happened is =
        both-allowed (live_told state.shared bond told-part own effect)
        (end_told told-part.handle effect.connection)
        (live-allowed ordinal is bond own effect happened) (end-allowed told-part.handle effect.connection)
    if-live-allowed own false happened is = none-allowed

    own-allowed : (own : Own) → happens ≡ Of ordinal own → Allowed (own_told state.shared bond told-part own effect)
    own-allowed (event.Connected handle peer) is =
        either-allowed [] (Connected handle peer ∷ []) (is_there told-part.mark) none-allowed
        (one-allowed (Connected handle peer) tt)
    own-allowed event.Disconnected is =
        either-allowed (Disconnected told-part.handle ∷ []) [] (is_there told-part.mark)
        (one-allowed (Disconnected told-part.handle) tt) none-allowed
    own-allowed own is = if-live-allowed own (is_live told-part.mark) is refl

event-allowed : (state : State) (happens : Event) → Allowed state happens (event_told state happens)
unfolding event_told
event-allowed state (Of ordinal own) =
    let connection : ConnectionState = state.connections ordinal in
    let bond : Row = state.bonds connection.peer in
    own-allowed state (Of ordinal own) ordinal bond
    (effect_of state.shared bond (state.owed connection.peer) connection own) own refl
event-allowed state (Credit allowed opcode status following) =
    none-allowed state (Credit allowed opcode status following)
event-allowed state (Tick time) = slots-allowed state (Tick time) time state.slots
event-allowed state event = none-allowed state event

pub tells_what_was_allowed : TellsWhatWasAllowed
tells_what_was_allowed state happens =
    holds_with_skips (WasAllowed state happens) (λ handle attribute. tt) state happens (event-allowed state happens)
