-- A connection keeps its handle and its peer while it is there.
use Rattle.std.proofs.Common.{◌≡◌, Bool, true, false, ◌∷◌, Some}
use Rattle.std.proofs.Common.{refl, sym, subst, ◌∙◌}
use Rattle.std.specs.Prelude.{◌==◌, ◌&&◌, if◌then◌else◌}
use Rattle.std.proofs.lemmas.Bool.{eqb-true}
use Rattle.att_numbers.specs.Types.{Row}
use Rattle.att_table.specs.ConfigRow.{kept_row}
use Rattle.att_table.specs.Table.{Contents}
use Rattle.gatt_conn.specs.Transcript.{Dropped}
use Rattle.gatt_laws.proofs.runs.Ends.{end_keeps}
use Rattle.gatt_laws.proofs.runs.KeptByChanges.{KeepsByChanges, keeps_if_live}
use Rattle.gatt_laws.proofs.runs.Steady.{completed_steady}
use Rattle.gatt_laws.specs.machine.Event.{Ordinal, Own, Event, Connected, Disconnected}
use Rattle.gatt_laws.specs.machine.Event.{Of, Completed, Credit}
use Rattle.gatt_laws.specs.machine.Event.{Tick, Replaced}
use Rattle.gatt_laws.specs.machine.ConnectionState.{ConnectionState, is_live, is_there}
use Rattle.gatt_laws.specs.machine.SharedState.{SharedState}
use Rattle.gatt_laws.specs.laws.RowNotices.{is_connection_or_disconnection}
use Rattle.gatt_laws.specs.laws.Silence.{is_for_all}
use Rattle.gatt_laws.specs.machine.State.{State, change_of, connection_after_replacement, step}
use Rattle.gatt_laws.specs.machine.Effect.{effect_on_connection, effect_of, live_effect}
use Rattle.gatt_subs.specs.Indications.{after_replacement}

pub record IsNamedAs (old new : ConnectionState) : Type 0 where
  pub handle : new.handle ≡ old.handle
  pub peer : new.peer ≡ old.peer

pub itself : (connection : ConnectionState) → IsNamedAs connection connection
itself connection = record { handle = refl; peer = refl }

by-changes : (connection : ConnectionState) → KeepsByChanges IsNamedAs connection
by-changes connection = record {
  same = itself connection;
  authorized = λ until. record { handle = refl; peer = refl };
  ended = λ reason. record { handle = refl; peer = refl };
  key_asked = λ found. record { handle = refl; peer = refl };
  stepped = λ step. record { handle = refl; peer = refl };
  ended_then = λ step reason. record { handle = refl; peer = refl };
  queued = λ pdu. record { handle = refl; peer = refl };
  served_by = λ shared bond owed pdu asked. record { handle = refl; peer = refl };
}

pub if-live-named : (shared : SharedState) (bond : Row) (owed : Bool) (connection : ConnectionState) (own : Own)
    → IsNamedAs connection (if is_live connection.mark then live_effect shared bond owed connection own
    else effect_on_connection shared bond owed connection).connection
if-live-named shared bond owed connection own =
    keeps_if_live IsNamedAs shared bond owed connection (itself connection) (λ live. by-changes connection) own

-- A connection that is there is there after each change.
abbrev Stays : ConnectionState → ConnectionState → Type 0
Stays old new = is_there old.mark ≡ true → is_there new.mark ≡ true

stays-by-changes : (connection : ConnectionState) → KeepsByChanges Stays connection
stays-by-changes connection = record {
  same = λ there. there;
  authorized = λ until there. there;
  ended = λ reason there. refl;
  key_asked = λ found there. there;
  stepped = λ step there. there;
  ended_then = λ step reason there. refl;
  queued = λ pdu there. there;
  served_by = λ shared bond owed pdu asked there. there;
}

pub if-live-stays : (shared : SharedState) (bond : Row) (owed : Bool) (connection : ConnectionState) (own : Own)
    → is_there connection.mark ≡ true
    → is_there (if is_live connection.mark then live_effect shared bond owed connection own
    else effect_on_connection shared bond owed connection).connection.mark ≡ true
if-live-stays shared bond owed connection own =
    keeps_if_live Stays shared bond owed connection (λ there. there) (λ live. stays-by-changes connection) own

turn-named : (shared : SharedState) (bond : Row) (owed : Bool) (connection : ConnectionState) (own : Own) → is_for_all own
    ≡ false
    → IsNamedAs connection (effect_of shared bond owed connection own).connection
turn-named shared bond owed connection (Connected handle peer) kind = cc kind
turn-named shared bond owed connection Disconnected kind = cc kind
turn-named shared bond owed connection own kind = if-live-named shared bond owed connection own

of-named : (state : State) (at ordinal : Ordinal) (own : Own) (same : Bool) → (ordinal == at) ≡ same
    → (same && is_for_all own) ≡ false
    → (let connection = state.connections at in
    IsNamedAs (state.connections ordinal)
    (if same then (effect_of state.shared (state.bonds connection.peer)
    (state.owed connection.peer) connection own).connection else state.connections ordinal))
of-named state at ordinal own true is kind =
    let connection = state.connections at in
    subst (λ (one : Ordinal). IsNamedAs (state.connections one)
    (effect_of state.shared (state.bonds connection.peer) (state.owed connection.peer) connection own).connection)
    (sym (eqb-true ordinal at is))
    (turn-named state.shared (state.bonds connection.peer) (state.owed connection.peer) connection own kind)
of-named state at ordinal own false is kind = itself (state.connections ordinal)

replaced-named : (old new : Contents) (connection : ConnectionState) → IsNamedAs connection (connection_after_replacement old new connection)
replaced-named old new connection =
    elim (is_live connection.mark) as (λ (live : Bool). IsNamedAs connection
    (record (if live then record connection {
      said = Dropped ∷ connection.said;
      pending = after_replacement connection.pending;
    } else connection) {
      row = kept_row old.attributes new.attributes connection.row;
    })) [
      | true ↦ record { handle = refl; peer = refl }
      | false ↦ record { handle = refl; peer = refl }
    ]

change-named : (state : State) (event : Event) (ordinal : Ordinal)
    → is_connection_or_disconnection ordinal event ≡ false
    → IsNamedAs (state.connections ordinal) ((change_of state event).state.connections ordinal)
unfolding change_of
change-named state (Of at own) ordinal kind = of-named state at ordinal own
    (ordinal == at) refl kind
change-named state (Completed entries) ordinal kind = record {
  handle = completed_steady (λ (of : ConnectionState). of.handle) (λ connection done. refl) ordinal entries
      (state.connections ordinal);
  peer = completed_steady (λ (of : ConnectionState). of.peer) (λ connection done. refl) ordinal entries
      (state.connections ordinal);
}
change-named state (Credit allowed opcode status (Some init)) ordinal kind = itself
    (state.connections ordinal)
change-named state (Tick time) ordinal kind = record { handle = refl; peer = refl }
change-named state (Replaced table) ordinal kind = replaced-named state.shared.table table
    (state.connections ordinal)
change-named state event ordinal kind = itself (state.connections ordinal)

-- the end of an event leaves both
pub end_named : (state : State) (event : Event) (ordinal : Ordinal)
    → IsNamedAs ((change_of state event).state.connections ordinal) ((step state event).connections ordinal)
end_named state event ordinal = record {
  handle = end_keeps (λ (of : ConnectionState). of.handle)
      (λ connection pdus pending given reply reason. refl) state event ordinal;
  peer = end_keeps (λ (of : ConnectionState). of.peer)
      (λ connection pdus pending given reply reason. refl) state event ordinal;
}

pub step_named : (state : State) (event : Event) (ordinal : Ordinal)
    → is_connection_or_disconnection ordinal event ≡ false
    → IsNamedAs (state.connections ordinal) ((step state event).connections ordinal)
step_named state event ordinal kind =
    let before = change-named state event ordinal kind in
    let end = end_named state event ordinal in
    record { handle = end.handle ∙ before.handle; peer = end.peer ∙ before.peer }
