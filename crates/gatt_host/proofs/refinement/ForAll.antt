-- What happens to all connections leads a host on: nothing, time that goes by, and a value that is written.
use Rattle.std.proofs.Common.{◌≡◌, ℕ, ◌≤◌, zero, suc, Bool, true, false, List, [], ◌∷◌, map, length, Option, Some, None, refl, sym, ap, ◌∙◌}
use Rattle.std.specs.Prelude.{replicate, if◌then◌else◌}
use Rattle.std.specs.Option.{option_map}
use Rattle.att_numbers.specs.Types.{Handle}
use Rattle.att_table.specs.Table.{Contents, with_value}
use Rattle.gatt_host.proofs.refinement.Told.{tick_told}
use Rattle.gatt_host.proofs.refinement.Holding.{ends_with, Holds, ends, holds, keyed_alike}
use Rattle.gatt_host.specs.declared.last_event.LastEvent.TheVariants as last
use Rattle.gatt_host.specs.ServerState as host
use Rattle.gatt_host.specs.ServerState.{ServerState}
use Rattle.gatt_host.specs.Owing.{Handed, all_given, slot_state_handed}
use Rattle.gatt_host.specs.StateRefinement.{IsSound, RefinesStep, RefinesState}
use Rattle.gatt_laws.specs.laws.Possible.{MayBeUpdated}
use Rattle.gatt_laws.specs.machine.Controller.{Slots, is_ready}
use Rattle.gatt_laws.specs.machine.Event.{Ordinal, Nothing, Tick, Update}
use Rattle.gatt_laws.specs.machine.Notice.{event_told}
use Rattle.gatt_laws.specs.machine.ConnectionState.{ConnectionState, is_there}
use Rattle.gatt_laws.specs.machine.SharedState.{SharedState}
use Rattle.gatt_laws.specs.machine.State.{State, change_of}
use Rattle.host_connections.specs.SlotState.{SlotState, slot_state_of, slot_state_if_there}
use Rattle.host_connections.specs.Slots.{all_after_time, late_handles}
use Rattle.host_connections.specs.SlotEffects.{after_time}
use Rattle.gatt_subs.specs.Indications.{after_tick}
use Rattle.octet_io.specs.Number.{Octets}

-- slots of which each is changed
pub slots_each : (old new : State) (handed : Handed) (change : Option SlotState → Option SlotState) → change None ≡ None
    → ((ordinal : Ordinal) → change (slot_state_if_there old.shared (old.connections ordinal) (handed ordinal))
    ≡ slot_state_if_there new.shared (new.connections ordinal) (handed ordinal))
    → (slots : Slots) → map change (map (slot_state_handed old handed) slots) ≡ map (slot_state_handed new handed) slots
slots_each old new handed change none each [] = refl
slots_each old new handed change none each (None ∷ slots) = λ i. none i ∷ slots_each old new handed change none each slots i
slots_each old new handed change none each (Some ordinal ∷ slots) = λ i. each ordinal i ∷ slots_each old new handed change none each slots i

pub slots_same : (old new : State) (handed : Handed)
    → ((ordinal : Ordinal) → slot_state_if_there old.shared (old.connections ordinal) (handed ordinal)
    ≡ slot_state_if_there new.shared (new.connections ordinal) (handed ordinal))
    → (slots : Slots) → map (slot_state_handed old handed) slots ≡ map (slot_state_handed new handed) slots
slots_same old new handed each [] = refl
slots_same old new handed each (None ∷ slots) = ap (λ later. None ∷ later) (slots_same old new handed each slots)
slots_same old new handed each (Some ordinal ∷ slots) = λ i. each ordinal i ∷ slots_same old new handed each slots i

-- the same of those that are open, and of all while they are free
pub open_each : (change : Option SlotState → Option SlotState) (ready : Bool) (slots : List (Option SlotState))
    → (if ready then map change slots else []) ≡ map change (if ready then slots else [])
open_each change true slots = refl
open_each change false slots = refl

pub free_each : (change : Option SlotState → Option SlotState) → change None ≡ None → (count : ℕ) → map change (replicate count None) ≡ replicate count None
free_each change none zero = refl
free_each change none (suc count) = λ i. none i ∷ free_each change none count i

pub each_length : {A B : Type 0} (change : A → B) (xs : List A) → length (map change xs) ≡ length xs
each_length change [] = refl
each_length change (x ∷ xs) = ap (λ (count : ℕ). suc count) (each_length change xs)

-- nothing happens
nothing-holds : (state : State) (server : ServerState) → RefinesState state [] server → Holds (change_of state Nothing).state (all_given state) server
unfolding change_of
nothing-holds state server refines = holds state server refines

pub nothing_leads : (state : State) (server : ServerState) → IsSound state → RefinesState state [] server
    → RefinesStep state Nothing (host.after_no_change server)
unfolding change_of event_told
nothing_leads state server sound refines =
    ends state Nothing sound tt server (nothing-holds state server refines) None [] [] (λ place ordinal there found slot_state. refl) refl

-- time goes by
timed : (old new : SharedState) (connection : ConnectionState) (now handed : ℕ) → (new ≡ record old { time = now })
    → option_map (after_time now) (slot_state_if_there old connection handed)
    ≡ slot_state_if_there new (record connection { pending = after_tick connection.pending now }) handed
timed old new connection now handed is =
    let later : ConnectionState = record connection { pending = after_tick connection.pending now } in
    (elim (is_there connection.mark) as (λ (there : Bool). option_map (after_time now) (if there then Some (slot_state_of old connection handed) else None)
    ≡ (if there then Some (slot_state_of (record old { time = now }) later handed) else None)) [ true ↦ refl | false ↦ refl ])
    ∙ ap (λ (shared : SharedState). slot_state_if_there shared later handed) (sym is)

abbrev with_time : ℕ → ServerState → ServerState
with_time now server = record server { time = now; slots = all_after_time now server.slots; late = late_handles now server.slots }

tick-holds : (state : State) (server : ServerState) (now : ℕ) → RefinesState state [] server
    → Holds (change_of state (Tick now)).state (all_given state) (with_time now server)
unfolding change_of
tick-holds state server now refines =
    let is : Holds state (all_given state) server = holds state server refines in
    let new : State = (change_of state (Tick now)).state in
    let change : Option SlotState → Option SlotState = λ slot. option_map (after_time now) slot in
    record {
      table = is.table;
      changer = is.changer;
      keys = is.keys;
      rx_mtu = is.rx_mtu;
      time = refl;
      buffers = is.buffers;
      rows = is.rows;
      keyed = λ ordinal. keyed_alike state.shared.keys (state.connections ordinal) (new.connections ordinal) (refl, refl) (is.keyed ordinal);
      controller = is.controller;
      free = λ early. ap (λ slots. map change slots) (is.free early) ∙ free_each change refl state.shared.slots;
      ready = λ ready. each_length change server.slots ∙ is.ready ready;
      slots = open_each change (is_ready server.controller) server.slots ∙ ap (λ slots. map change slots) is.slots
          ∙ slots_each state new (all_given state) change refl
          (λ ordinal. timed state.shared new.shared (state.connections ordinal) now (state.connections ordinal).given refl) state.slots;
    }

pub time_leads : (state : State) (server : ServerState) (now : ℕ) → IsSound state → RefinesState state [] server → state.shared.time ≤ now
    → RefinesStep state (Tick now) (host.server_after_tick now server)
unfolding change_of
time_leads state server now sound refines later =
    ends_with state (Tick now) sound later (with_time now server) (tick-holds state server now refines) None [] []
    (λ place ordinal there found slot_state. refl)
    last.Ticked (tick_told state server now sound refines)

-- a value is written
abbrev with_update : Handle → Octets → ServerState → ServerState
with_update handle value server = record server { table = record server.table { values = with_value server.table.values handle value } }

update-holds : (state : State) (server : ServerState) (handle : Handle) (value : Octets) → RefinesState state [] server
    → Holds (change_of state (Update handle value)).state (all_given state) (with_update handle value server)
unfolding change_of
update-holds state server handle value refines =
    let is : Holds state (all_given state) server = holds state server refines in
    let new : State = (change_of state (Update handle value)).state in
    record {
      table = ap (λ (table : Contents). record table { values = with_value table.values handle value }) is.table;
      changer = is.changer;
      keys = is.keys;
      rx_mtu = is.rx_mtu;
      time = is.time;
      buffers = is.buffers;
      rows = is.rows;
      keyed = is.keyed;
      controller = is.controller;
      free = is.free;
      ready = is.ready;
      slots = is.slots ∙ slots_same state new (all_given state) (λ ordinal. refl) state.slots;
    }

pub update_leads : (state : State) (server : ServerState) (handle : Handle) (value : Octets) → IsSound state → RefinesState state [] server
    → MayBeUpdated state handle value → RefinesStep state (Update handle value) (host.after_update handle value server)
unfolding change_of event_told
update_leads state server handle value sound refines may =
    ends state (Update handle value) sound may (with_update handle value server) (update-holds state server handle value refines) None [] (handle ∷ [])
    (λ place ordinal there found slot_state. refl) refl
