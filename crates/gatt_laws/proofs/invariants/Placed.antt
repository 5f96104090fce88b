-- Each possible event keeps that who has a slot is there, and waits for one command at most.
use Rattle.std.proofs.Common.{◌≡◌, ℕ, zero, suc, ◌+◌, Bool, true, false, List, [], ◌∷◌, length, Some, None, refl, sym, ap, subst, ◌∙◌}
use Rattle.std.specs.Prelude.{nat_lt, replicate, ◌==◌, ◌||◌, if◌then◌else◌}
use Rattle.std.proofs.lemmas.Bool.{eq-eqb, eqb-true}
use Rattle.att_numbers.specs.Types.{Handle, Row}
use Rattle.att_table.specs.Table.{Contents}
use Rattle.gatt_laws.proofs.runs.Always.{always, any_tables}
use Rattle.gatt_laws.proofs.runs.KeptByChanges.{KeepsByChanges, completed_keeps, finished_keeps, keeps_if_live, replaced_keeps, sent_keeps}
use Rattle.gatt_laws.specs.machine.Controller.{Slots, with_taken, with_freed, command_of_init, count_before, without_command}
use Rattle.gatt_laws.specs.machine.Event.{Ordinal, Own, Event, Connected, Disconnected, Of, Completed, Credit, Tick, Replaced}
use Rattle.gatt_laws.specs.machine.Heard.{after_hearing}
use Rattle.gatt_laws.specs.machine.Input.{run_at_start, run}
use Rattle.gatt_laws.specs.machine.ConnectionState.{ConnectionState, Ending, no_connection, fresh_connection, is_live, is_there}
use Rattle.gatt_laws.specs.laws.Placed.{WaitsOnce, IsPlaced, IsAlwaysPlaced}
use Rattle.gatt_laws.specs.laws.Possible.{Possible}
use Rattle.gatt_laws.specs.machine.SharedState.{SharedState, Bonds}
use Rattle.gatt_laws.specs.laws.Settled.{is_slot_of, has_slot}
use Rattle.gatt_laws.specs.machine.Start.{Start, before_first_command, state_at}
use Rattle.gatt_laws.specs.machine.State.{State, Change, slots_after, slots_when_ready, own_change, after_packets_completed, connection_after_replacement, change_of, finished, connections_finished, before_commands, step}
use Rattle.gatt_laws.specs.machine.Effect.{effect_of}
use Rattle.le_acl.specs.Shares.{usable}
use Rattle.le_hci.specs.declared.init.Init.{Init}
use Rattle.le_hci.specs.declared.init.Init.TheVariants.{Ready}

-- one connection
record Keeps (old new : ConnectionState) : Type 0 where
  there : is_there old.mark ≡ true → is_there new.mark ≡ true
  once : WaitsOnce old → WaitsOnce new

keeps-same : (connection : ConnectionState) → Keeps connection connection
keeps-same connection = record { there = λ there. there; once = λ once. once }

keeps-both : (first second third : ConnectionState) → Keeps first second → Keeps second third → Keeps first third
keeps-both first second third one other = record { there = λ there. other.there (one.there there); once = λ once. other.once (one.once once) }

-- a mark and what waits for it: a change of neither keeps both
as-before : (connection new : ConnectionState) → new.mark ≡ connection.mark → new.reply ≡ connection.reply → new.reason ≡ connection.reason
    → Keeps connection new
as-before connection new mark reply reason = record {
  there = λ there. ap is_there mark ∙ there;
  once = λ once.
      record { serving = λ live. reason ∙ once.serving (ap is_live (sym mark) ∙ live); others = λ other. reply ∙ once.others (ap is_live (sym mark) ∙ other) };
}

end-keeps : (connection new : ConnectionState) → new.mark ≡ Ending → new.reply ≡ None → Keeps connection new
end-keeps connection new mark none =
    record { there = λ there. ap is_there mark; once = λ once. record { serving = λ live. cc (sym (ap is_live mark) ∙ live); others = λ other. none } }

by-changes : (connection : ConnectionState) → is_live connection.mark ≡ true → KeepsByChanges Keeps connection
by-changes connection live = record {
  same = keeps-same connection;
  authorized = λ until. as-before connection _ refl refl refl;
  ended = λ reason. end-keeps connection _ refl refl;
  key_asked = λ found. record { there = λ there. there; once = λ once. record { serving = once.serving; others = λ other. cc (live, other) } };
  stepped = λ step. as-before connection _ refl refl refl;
  ended_then = λ step reason. end-keeps connection _ refl refl;
  queued = λ pdu. as-before connection _ refl refl refl;
  served_by = λ shared bond owed pdu asked. as-before connection _ refl refl refl;
}

come-once : (handle : ℕ) (peer : _) → WaitsOnce (fresh_connection handle peer)
come-once handle peer = record { serving = λ live. refl; others = λ other. refl }

absent-once : WaitsOnce no_connection
absent-once = record { serving = λ live. refl; others = λ other. refl }

heard-keeps : (shared : SharedState) (bond : Row) (handles : List Handle) (connection : ConnectionState)
    → Keeps connection (after_hearing shared bond handles connection)
unfolding after_hearing
heard-keeps shared bond handles connection = as-before connection _ refl refl refl

finished-keeps : (shared : SharedState) (bonds : Bonds) (handles : List Handle) (connection : ConnectionState)
    → Keeps connection (finished shared bonds handles connection)
finished-keeps = finished_keeps Keeps keeps-same keeps-both heard-keeps (λ connection given. as-before connection _ refl refl refl)

sent-keeps : (connection : ConnectionState) (sent : Bool) → Keeps connection (if sent then without_command connection else connection)
sent-keeps = sent_keeps Keeps keeps-same keeps-both
    (λ connection. record { there = λ there. there; once = λ once. record { serving = λ live. refl; others = once.others } })
    (λ connection. record { there = λ there. there; once = λ once. record { serving = once.serving; others = λ other. refl } })

completed-keeps : (ordinal : Ordinal) (entries : List (Ordinal × ℕ)) (connection : ConnectionState)
    → Keeps connection (after_packets_completed ordinal entries connection)
completed-keeps = completed_keeps Keeps keeps-same keeps-both (λ connection done. as-before connection _ refl refl refl)

replaced-keeps : (old new : Contents) (connection : ConnectionState) → Keeps connection (connection_after_replacement old new connection)
replaced-keeps old new connection =
    replaced_keeps Keeps keeps-same keeps-both old new connection (as-before connection _ refl refl refl) (as-before connection _ refl refl refl)

-- what has a slot
or-true : (one other : Bool) → (one || other) ≡ true → one ≡ false → other ≡ true
or-true true other is not = cc not
or-true false other is not = is

either-true : (one other later : Bool) → (one || other) ≡ true → (other ≡ true → later ≡ true) → (one || later) ≡ true
either-true true other later is go = refl
either-true false other later is go = go is

pub taken-has : (ordinal other : Ordinal) (slots : Slots) → (other == ordinal) ≡ false → (ordinal == other) ≡ false → has_slot other (with_taken ordinal slots)
    ≡ true
    → has_slot other slots ≡ true
taken-has ordinal other [] differs too has = has
taken-has ordinal other (None ∷ slots) differs too has = or-true (ordinal == other) (has_slot other slots) has too
taken-has ordinal other (Some one ∷ slots) differs too has =
    either-true (one == other) (has_slot other (with_taken ordinal slots)) (has_slot other slots) has (taken-has ordinal other slots differs too)

freed-slot : (ordinal other one : Ordinal) (slots : Slots) (is : Bool) → (has_slot other (with_freed ordinal slots) ≡ true → has_slot other slots ≡ true)
    → (is_slot_of other (if is then None else Some one) || has_slot other (with_freed ordinal slots)) ≡ true → ((one == other) || has_slot other slots) ≡ true
freed-slot ordinal other one slots true go has = later (one == other) (go has)
  where
    later : (test : Bool) → has_slot other slots ≡ true → (test || has_slot other slots) ≡ true
    later true is = refl
    later false is = is
freed-slot ordinal other one slots false go has = either-true (one == other) (has_slot other (with_freed ordinal slots)) (has_slot other slots) has go

pub freed-has : (ordinal other : Ordinal) (slots : Slots) → has_slot other (with_freed ordinal slots) ≡ true → has_slot other slots ≡ true
freed-has ordinal other [] has = has
freed-has ordinal other (None ∷ slots) has = freed-has ordinal other slots has
freed-has ordinal other (Some one ∷ slots) has = freed-slot ordinal other one slots (one == ordinal) (freed-has ordinal other slots) has

pub freed_lacks : (ordinal : Ordinal) (slots : Slots) → has_slot ordinal (with_freed ordinal slots) ≡ false
freed_lacks ordinal [] = refl
freed_lacks ordinal (None ∷ slots) = freed_lacks ordinal slots
freed_lacks ordinal (Some one ∷ slots) =
    elim (one == ordinal) as
    (λ (is : Bool). (one == ordinal) ≡ is → (is_slot_of ordinal (if is then None else Some one) || has_slot ordinal (with_freed ordinal slots)) ≡ false) [
      | true ↦ λ is. freed_lacks ordinal slots
      | false ↦ λ is. rw is (freed_lacks ordinal slots)
    ] refl

all-free : (ordinal : Ordinal) (count : ℕ) → has_slot ordinal (replicate count None) ≡ false
all-free ordinal zero = refl
all-free ordinal (suc count) = all-free ordinal count

pub init-has : (count : ℕ) (init : Init) (ordinal : Ordinal) (slots : Slots) → has_slot ordinal (slots_when_ready count init slots) ≡ true
    → has_slot ordinal slots ≡ true
init-has count (Ready length packets) ordinal slots has = cc (has, all-free ordinal (usable count packets))
init-has count init ordinal slots has = has

same-too : (one other : Ordinal) → (one == other) ≡ false → (other == one) ≡ false
same-too one other is =
    elim (other == one) as (λ (test : Bool). (other == one) ≡ test → test ≡ false) [
      | true ↦ λ same. cc (is, eq-eqb one other (sym (eqb-true other one same)))
      | false ↦ λ differs. refl
    ] refl

-- what happens to one connection
turn-once : (shared : SharedState) (bond : Row) (owed : Bool) (connection : ConnectionState) (own : Own) → WaitsOnce connection
    → WaitsOnce (effect_of shared bond owed connection own).connection
turn-once shared bond owed connection (Connected handle peer) once =
    elim (is_there connection.mark) as (λ (there : Bool). WaitsOnce (if there then connection else fresh_connection handle peer))
    [ true ↦ once | false ↦ come-once handle peer ]
turn-once shared bond owed connection Disconnected once = absent-once
turn-once shared bond owed connection own once = (keeps_if_live Keeps shared bond owed connection (keeps-same connection) (by-changes connection) own).once once

-- who has a slot then
come-there : (connection : ConnectionState) (handle : ℕ) (peer : _) (there : Bool) → is_there connection.mark ≡ there
    → is_there (if there then connection else fresh_connection handle peer).mark ≡ true
come-there connection handle peer true is = is
come-there connection handle peer false is = refl

turn-there : (shared : SharedState) (bond : Row) (owed : Bool) (connection : ConnectionState) (own : Own) (at : Ordinal) (slots : Slots)
    → (has_slot at slots ≡ true → is_there connection.mark ≡ true) → has_slot at (slots_after own at slots) ≡ true
    → is_there (effect_of shared bond owed connection own).connection.mark ≡ true
turn-there shared bond owed connection (Connected handle peer) at slots there has = come-there connection handle peer (is_there connection.mark) refl
turn-there shared bond owed connection Disconnected at slots there has = cc (has, freed_lacks at slots)
turn-there shared bond owed connection own at slots there has =
    (keeps_if_live Keeps shared bond owed connection (keeps-same connection) (by-changes connection) own).there (there has)

other-has : (own : Own) (at other : Ordinal) (slots : Slots) → (other == at) ≡ false → has_slot other (slots_after own at slots) ≡ true
    → has_slot other slots ≡ true
other-has (Connected handle peer) at other slots differs has = taken-has at other slots differs (same-too other at differs) has
other-has Disconnected at other slots differs has = freed-has at other slots has
other-has own at other slots differs has = has

own-placed : (state : State) (at : Ordinal) (own : Own) → IsPlaced state → IsPlaced (own_change state at own).state
own-placed state at own placed =
    let connection : ConnectionState = state.connections at in
    record {
      there = λ ordinal has.
          elim (ordinal == at) as (λ (same : Bool). (ordinal == at) ≡ same
          → is_there (if same then (effect_of state.shared (state.bonds connection.peer) (state.owed connection.peer) connection own).connection
          else state.connections ordinal).mark ≡ true) [
            | true ↦ λ same.
                turn-there state.shared (state.bonds connection.peer) (state.owed connection.peer) connection own at state.slots (placed.there at)
                (subst (λ (one : Ordinal). has_slot one (slots_after own at state.slots) ≡ true) (eqb-true ordinal at same) has)
            | false ↦ λ differs. placed.there ordinal (other-has own at ordinal state.slots differs has)
          ] refl;
      once = λ ordinal.
          elim (ordinal == at) as
          (λ (same : Bool).
          WaitsOnce (if same then (effect_of state.shared (state.bonds connection.peer) (state.owed connection.peer) connection own).connection
          else state.connections ordinal)) [
            | true ↦ turn-once state.shared (state.bonds connection.peer) (state.owed connection.peer) connection own (placed.once at)
            | false ↦ placed.once ordinal
          ];
    }

change-placed : (state : State) (event : Event) → IsPlaced state → IsPlaced (change_of state event).state
unfolding change_of
change-placed state (Of at own) placed = own-placed state at own placed
change-placed state (Completed entries) placed = record {
  there = λ ordinal has. (completed-keeps ordinal entries (state.connections ordinal)).there (placed.there ordinal has);
  once = λ ordinal. (completed-keeps ordinal entries (state.connections ordinal)).once (placed.once ordinal);
}
change-placed state (Credit allowed opcode status (Some init)) placed =
    record { there = λ ordinal has. placed.there ordinal (init-has state.shared.slots init ordinal state.slots has); once = placed.once }
change-placed state (Tick time) placed = record {
  there = placed.there;
  once = λ ordinal. record { serving = (placed.once ordinal).serving; others = (placed.once ordinal).others };
}
change-placed state (Replaced table) placed = record {
  there = λ ordinal has. (replaced-keeps state.shared.table table (state.connections ordinal)).there (placed.there ordinal has);
  once = λ ordinal. (replaced-keeps state.shared.table table (state.connections ordinal)).once (placed.once ordinal);
}
change-placed state event placed = record { there = placed.there; once = placed.once }

pub placed_before_commands : (state : State) (event : Event) → IsPlaced state → IsPlaced (before_commands state event)
placed_before_commands state event placed =
    let change : Change = change_of state event in
    let changed : IsPlaced change.state = change-placed state event placed in
    record {
      there = λ ordinal has.
          (finished-keeps change.state.shared change.state.bonds (change.to_notify ordinal) (change.state.connections ordinal)).there
          (changed.there ordinal has);
      once = λ ordinal.
          (finished-keeps change.state.shared change.state.bonds (change.to_notify ordinal) (change.state.connections ordinal)).once (changed.once ordinal);
    }

pub stays_placed : (state : State) (event : Event) → Possible (λ table. Unit) state event → IsPlaced state → IsPlaced (step state event)
unfolding step
stays_placed state event possible placed =
    let change : Change = change_of state event in
    let before : IsPlaced (before_commands state event) = placed_before_commands state event placed in
    let sent : Ordinal → Bool =
    λ ordinal. nat_lt (length (command_of_init change.state.controller) + count_before ordinal (connections_finished change) change.state.slots)
    change.state.controller.credit in
    record {
      there = λ ordinal has. (sent-keeps (connections_finished change ordinal) (sent ordinal)).there (before.there ordinal has);
      once = λ ordinal. (sent-keeps (connections_finished change ordinal) (sent ordinal)).once (before.once ordinal);
    }

pub placed_at_first : (start : Start) → IsPlaced (state_at start)
placed_at_first start =
    let old : State = before_first_command start in
    record {
      there = λ ordinal has. cc has;
      once = λ ordinal.
          (sent-keeps no_connection
          (nat_lt (length (command_of_init old.controller) + count_before ordinal old.connections old.slots) old.controller.credit)).once absent-once;
    }

pub is_always_placed : IsAlwaysPlaced
unfolding run
is_always_placed start input = always (λ table. Unit) IsPlaced stays_placed (run_at_start start) input (any_tables input) (placed_at_first start)
