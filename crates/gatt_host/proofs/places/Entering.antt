-- What an event brings out is owed once all but its end is done.
use Rattle.std.proofs.Common.{◌≡◌, ℕ, Bool, true, false, List, [], ◌∷◌, ◌++◌, Option, Some, None, refl, sym, ap, subst, ◌∙◌, arith, append-nil}
use Rattle.std.specs.Prelude.{◌&&◌, ◌==◌, if◌then◌else◌}
use Rattle.std.specs.List.{flat_map}
use Rattle.std.proofs.lemmas.Bool.{eqb-true}
use Rattle.att_numbers.specs.Types.{Handle, Row}
use Rattle.att_pdu.specs.Grammar.{request_of, is_due}
use Rattle.att_table.specs.ConfigRow.{kept_row}
use Rattle.att_table.specs.Table.{Contents}
use Rattle.gatt_conn.specs.Transcript.{Dropped}
use Rattle.gatt_host.proofs.owing.Nexts.{clash}
use Rattle.gatt_host.specs.Owing.{slot_left, all_given, IsPartway, OwesWhatAnEventBrings, OwesTheFirstCommand}
use Rattle.gatt_laws.proofs.invariants.Placed.{freed_lacks, placed_before_commands}
use Rattle.gatt_laws.proofs.invariants.Queued.{change-queued, heard-within}
use Rattle.gatt_laws.proofs.invariants.Settled.{none_next, settled_before_commands}
use Rattle.gatt_laws.specs.machine.Controller.{Slots}
use Rattle.gatt_laws.specs.machine.Event.{Ordinal, Own, Event, Connected, Disconnected, Encrypted, Refreshed, Asks, OtherChannel, Of, Completed, Credit, Replaced}
use Rattle.gatt_laws.specs.machine.Heard.{after_hearing}
use Rattle.gatt_laws.specs.machine.ConnectionState.{ConnectionState, fresh_connection, is_live, is_there, key_of, connection_mtu, with_pdus, after_ending}
use Rattle.gatt_laws.specs.laws.Possible.{Possible}
use Rattle.gatt_laws.specs.laws.Queued.{IsWithinBounds, HasBoundedQueues}
use Rattle.gatt_laws.specs.machine.SharedState.{SharedState, share_of, fragment_size_of}
use Rattle.gatt_laws.specs.laws.Settled.{has_slot, IsSettled}
use Rattle.gatt_laws.specs.machine.Start.{before_first_command}
use Rattle.gatt_laws.specs.machine.State.{State, Change, slots_after, with_packets_completed, after_packets_completed, connection_after_replacement, change_of, before_commands, commands_out, slot_out, step, out}
use Rattle.gatt_laws.specs.machine.Effect.{effect_on_connection, served, is_full, request_effect, after_other_channel, channel_answer, with_step, lost_encryption, live_effect, effect_of, remote_user_terminated, authentication_failure}
use Rattle.gatt_subs.specs.Indications.{after_replacement}
use Rattle.le_acl.specs.History.{packets_allowed}
use Rattle.le_security.specs.Link.{Step, Encryption, Refresh}
use Rattle.octet_io.specs.Number.{Octets}

-- before its end an event gives nothing
abbrev Same : ConnectionState → ConnectionState → Type 0
Same old new = new.given ≡ old.given

request-same : (shared : SharedState) (bond : Row) (owed : Bool) (connection : ConnectionState) (pdu : Octets)
    → Same connection (request_effect shared bond owed connection pdu).connection
request-same shared bond owed connection pdu =
    let asked = request_of pdu (connection_mtu shared connection) in
    elim (is_due asked && is_full shared connection) as
    (λ (full : Bool). Same connection (if full then effect_on_connection shared bond owed (after_ending connection remote_user_terminated)
    else served shared bond owed connection pdu asked).connection) [ true ↦ refl | false ↦ refl ]

channel-same : (shared : SharedState) (connection : ConnectionState) (channel : ℕ) (answer : Option Octets)
    → Same connection (after_other_channel shared connection channel answer)
channel-same shared connection channel None = refl
channel-same shared connection channel (Some answer) =
    elim (is_full shared connection) as
    (λ (full : Bool). Same connection (if full then after_ending connection remote_user_terminated else with_pdus connection ((channel, answer) ∷ [])))
    [ true ↦ refl | false ↦ refl ]

link-same : (connection : ConnectionState) (step : Step) (lost : Bool)
    → Same connection (if lost then after_ending (with_step connection step) authentication_failure else with_step connection step)
link-same connection step true = refl
link-same connection step false = refl

live-same : (shared : SharedState) (bond : Row) (owed : Bool) (connection : ConnectionState) (own : Own)
    → Same connection (live_effect shared bond owed connection own).connection
unfolding live_effect
live-same shared bond owed connection (Asks pdu) = request-same shared bond owed connection pdu
live-same shared bond owed connection (OtherChannel channel payload) = channel-same shared connection channel (channel_answer channel payload)
live-same shared bond owed connection (Encrypted status enabled) =
    link-same connection (Encryption status enabled) (lost_encryption (key_of connection) (key_of (with_step connection (Encryption status enabled))))
live-same shared bond owed connection (Refreshed status) =
    link-same connection (Refresh status) (lost_encryption (key_of connection) (key_of (with_step connection (Refresh status))))
live-same shared bond owed connection own = refl

if-live : (shared : SharedState) (bond : Row) (owed : Bool) (connection : ConnectionState) (own : Own) (live : Bool)
    → Same connection (if live then live_effect shared bond owed connection own else effect_on_connection shared bond owed connection).connection
if-live shared bond owed connection own true = live-same shared bond owed connection own
if-live shared bond owed connection own false = refl

-- who comes was given nothing, and who goes has no slot
own-same : (state : State) (at : Ordinal) (own : Own) → IsSettled state → Possible (λ table. Unit) state (Of at own)
    → has_slot at (slots_after own at state.slots) ≡ true
    → Same (state.connections at)
    (effect_of state.shared (state.bonds (state.connections at).peer) (state.owed (state.connections at).peer) (state.connections at) own).connection
own-same state at (Connected handle peer) settled may has =
    let lacks : has_slot at state.slots ≡ false =
    ap (λ (one : Ordinal). has_slot one state.slots) may.next ∙ none_next state.next state.next state.slots (omega arith) settled.slots in
    let none : 0 ≡ (state.connections at).given = sym (ap (λ (connection : ConnectionState). connection.given) (settled.absent at lacks)) in
    elim (is_there (state.connections at).mark) as
    (λ (there : Bool). Same (state.connections at) (if there then state.connections at else fresh_connection handle peer)) [ true ↦ refl | false ↦ none ]
own-same state at Disconnected settled may has = absurd (clash (sym (freed_lacks at state.slots) ∙ has))
own-same state at own settled may has = if-live _ _ _ (state.connections at) own (is_live (state.connections at).mark)

completed-same : (ordinal : Ordinal) (entries : List (Ordinal × ℕ)) (connection : ConnectionState)
    → Same connection (after_packets_completed ordinal entries connection)
completed-same ordinal [] connection = refl
completed-same ordinal (entry ∷ entries) connection =
    completed-same ordinal entries (if entry.0 == ordinal then with_packets_completed connection entry.1 else connection)
    ∙ elim (entry.0 == ordinal) as (λ (own : Bool). Same connection (if own then with_packets_completed connection entry.1 else connection))
    [ true ↦ refl | false ↦ refl ]

replaced-same : (old new : Contents) (connection : ConnectionState) → Same connection (connection_after_replacement old new connection)
replaced-same old new connection =
    elim (is_live connection.mark) as
    (λ (live : Bool).
    Same connection
    (record (if live then record connection { said = Dropped ∷ connection.said; pending = after_replacement connection.pending } else connection)
    { row = kept_row old.attributes new.attributes connection.row })) [
      | true ↦ refl
      | false ↦ refl
    ]

pub change-same : (state : State) (event : Event) → Possible (λ table. Unit) state event → IsSettled state → (ordinal : Ordinal)
    → has_slot ordinal (change_of state event).state.slots ≡ true → Same (state.connections ordinal) ((change_of state event).state.connections ordinal)
unfolding change_of
change-same state (Of at own) possible settled ordinal has =
    let effect = effect_of state.shared (state.bonds (state.connections at).peer) (state.owed (state.connections at).peer) (state.connections at) own in
    elim (ordinal == at) as
    (λ (same : Bool). (ordinal == at) ≡ same → Same (state.connections ordinal) (if same then effect.connection else state.connections ordinal)) [
      | true ↦ λ same.
          own-same state at own settled possible
          (subst (λ (one : Ordinal). has_slot one (slots_after own at state.slots) ≡ true) (eqb-true ordinal at same) has)
          ∙ sym (ap (λ (one : Ordinal). (state.connections one).given) (eqb-true ordinal at same))
      | false ↦ λ differs. refl
    ] refl
change-same state (Completed entries) possible settled ordinal has = completed-same ordinal entries (state.connections ordinal)
change-same state (Credit allowed opcode status (Some init)) possible settled ordinal has = refl
change-same state (Credit allowed opcode status None) possible settled ordinal has = refl
change-same state (Replaced table) possible settled ordinal has = replaced-same state.shared.table table (state.connections ordinal)
change-same state event possible settled ordinal has = refl

-- at its end it gives what may be given
given-partway : (shared : SharedState) (connection : ConnectionState) (handed : ℕ) (live : Bool) → is_live connection.mark ≡ live → connection.given ≡ handed
    → IsWithinBounds (share_of shared.slots shared.buffers) (fragment_size_of shared.buffers) connection
    → IsPartway shared
    (if live
    then record connection { given = packets_allowed (share_of shared.slots shared.buffers) (fragment_size_of shared.buffers) connection.pdus connection.done }
    else connection) handed
given-partway shared connection handed true is same within = record {
  serving = λ live. refl;
  most = λ live. omega (arith, within.given, within.within, same);
  done = omega (arith, within.done, same);
  others = λ other. cc (is, other);
}
given-partway shared connection handed false is same within = record {
  serving = λ live. cc (is, live);
  most = λ live. omega (arith, same);
  done = omega (arith, within.done, same);
  others = λ other. sym same;
}

heard-same : (shared : SharedState) (bond : Row) (handles : List Handle) (connection : ConnectionState) → (after_hearing shared bond handles connection).given
    ≡ connection.given
unfolding after_hearing
heard-same shared bond handles connection = refl

event-partway : (state : State) (event : Event) → Possible (λ table. Unit) state event → IsSettled state → HasBoundedQueues state → (ordinal : Ordinal)
    → has_slot ordinal (before_commands state event).slots ≡ true
    → IsPartway (before_commands state event).shared ((before_commands state event).connections ordinal) ((state.connections ordinal).given)
event-partway state event possible settled queued ordinal has =
    let change : Change = change_of state event in
    let shared : SharedState = change.state.shared in
    let connection : ConnectionState = change.state.connections ordinal in
    let bond : Row = change.state.bonds connection.peer in
    let heard : ConnectionState = after_hearing shared bond (change.to_notify ordinal) connection in
    let within = change-queued state event possible (record { settled = settled; queued = queued }) ordinal in
    given-partway shared heard (state.connections ordinal).given (is_live heard.mark) refl
    (heard-same shared bond (change.to_notify ordinal) connection ∙ change-same state event possible settled ordinal has)
    (heard-within (share_of shared.slots shared.buffers) (fragment_size_of shared.buffers) shared refl refl bond (change.to_notify ordinal) connection within)

slots-out : (old new : State) (slots : Slots) → flat_map (slot_out old new) slots ≡ flat_map (slot_left new (all_given old)) slots
slots-out old new [] = refl
slots-out old new (None ∷ slots) = slots-out old new slots
slots-out old new (Some ordinal ∷ slots) = ap (λ later. slot_left new (all_given old) (Some ordinal) ++ later) (slots-out old new slots)

pub owes_what_an_event_brings : OwesWhatAnEventBrings
unfolding step out
owes_what_an_event_brings state event possible settled queued placed =
    let new : State = before_commands state event in
    record {
      state = new;
      handed = all_given state;
      settled = settled_before_commands state event possible settled;
      placed = placed_before_commands state event placed;
      partway = event-partway state event possible settled queued;
      arrives = refl;
      owes = ap (λ packets. commands_out new ++ packets) (slots-out state new new.slots);
      controller_is = refl;
      slots_are = refl;
    }

pub owes_the_first_command : OwesTheFirstCommand
owes_the_first_command start =
    let old : State = before_first_command start in
    record {
      state = old;
      handed = λ ordinal. 0;
      settled = record { early = λ early. refl; slots = tt; absent = λ ordinal lacks. refl };
      placed = record { there = λ ordinal has. cc has; once = λ ordinal. record { serving = λ live. refl; others = λ other. refl } };
      partway = λ ordinal has. absurd (clash has);
      arrives = refl;
      owes = sym (append-nil (commands_out old));
      controller_is = refl;
      slots_are = refl;
    }
