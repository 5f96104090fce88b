-- A command that goes out is the first of what is owed, and the others are owed then.
use Rattle.std.proofs.Common.{◌≡◌, ℕ, zero, suc, ◌-◌, ◌<◌, Bool, true, false, List, [], ◌∷◌, ◌++◌, length, map, take, Option, Some, None, refl, sym, ap, subst, ◌∙◌, arith}
use Rattle.std.specs.Prelude.{is_some, nat_lt, ◌&&◌, ◌||◌, ◌==◌, if◌then◌else◌}
use Rattle.std.specs.List.{flat_map, list_any}
use Rattle.std.specs.Option.{option_map}
use Rattle.std.proofs.lemmas.Bool.{eq-eqb, eqb-true, lt-ltb, ltb-true}
use Rattle.gatt_host.proofs.owing.Nexts.{clash, is_none_where, then_controller}
use Rattle.gatt_host.specs.GoingOut.{with_first, command_next, slots_commanded}
use Rattle.gatt_host.specs.Owing.{Handed, slot_states_handed, packets_left, slot_left, left_of, IsPartway, SendsTheFirst}
use Rattle.gatt_laws.specs.machine.Controller.{Controller, Slots, command_for, commands_due, commands_sent, controller_after, disconnect_or, is_enabling, reply_due, without_command, after_sending}
use Rattle.gatt_laws.specs.machine.Event.{Ordinal}
use Rattle.gatt_laws.specs.machine.ConnectionState.{ConnectionState, KeyReply, no_connection, is_live, is_there}
use Rattle.gatt_laws.specs.laws.Placed.{WaitsOnce, IsPlaced}
use Rattle.gatt_laws.specs.machine.SharedState.{SharedState}
use Rattle.gatt_laws.specs.laws.Settled.{has_slot, IsSettled}
use Rattle.gatt_laws.specs.machine.State.{State, command_octets, with_commands_sent}
use Rattle.host_connections.specs.Commands as slot_state
use Rattle.le_hci.specs.Command.{Commanded}
use Rattle.le_hci.specs.Init.{command_awaited}

pub same_too : (one other : Ordinal) → (one == other) ≡ false → (other == one) ≡ false
same_too one other is =
    elim (other == one) as (λ (test : Bool). (other == one) ≡ test → test ≡ false) [
      | true ↦ λ same. cc (is, eq-eqb one other (sym (eqb-true other one same)))
      | false ↦ λ differs. refl
    ] refl

-- a part of which no command is due
none-due : (handle : ℕ) (reason : Option ℕ) (reply : Option KeyReply) → disconnect_or handle reason (reply_due handle reply) ≡ None → (reason ≡ None)
    × (reply ≡ None)
none-due handle (Some reason) reply none = absurd (clash (sym (ap is_some none)))
none-due handle None (Some reply) none = absurd (clash (sym (ap is_some none)))
none-due handle None None none = (refl, refl)

unchanged : (connection : ConnectionState) → command_for connection ≡ None → without_command connection ≡ connection
unchanged connection none =
    let both = none-due connection.handle connection.reason connection.reply none in
    let first : without_command connection ≡ record connection { reply = None } =
    λ i. if is_some (both.0 i) then record connection { reason = None } else record connection { reply = None } in
    first ∙ sym (λ i. record connection { reply = both.1 i })

pub either_unchanged : (connection : ConnectionState) (sent : Bool) → command_for connection ≡ None → (if sent then without_command connection else connection)
    ≡ connection
either_unchanged connection true none = unchanged connection none
either_unchanged connection false none = refl

once-has : (connection : ConnectionState) (has : Bool) → is_some connection.reason ≡ has → WaitsOnce connection
    → command_for (if has then record connection { reason = None } else record connection { reply = None }) ≡ None
once-has connection true is once = ap (reply_due connection.handle) no-reply
  where
    by-mark : (live : Bool) → is_live connection.mark ≡ live → connection.reply ≡ None
    by-mark true lives = absurd (clash (sym (ap is_some (once.serving lives)) ∙ is))
    by-mark false lives = once.others lives

    no-reply : connection.reply ≡ None
    no-reply = by-mark (is_live connection.mark) refl
once-has connection false is once = ap (λ reason. disconnect_or connection.handle reason None) (is_none_where connection.reason is)

pub none_after : (connection : ConnectionState) → WaitsOnce connection → command_for (without_command connection) ≡ None
none_after connection once = once-has connection (is_some connection.reason) refl once

-- a part is as before, or its command was sent
pub record Touched (old new : ConnectionState) : Type 0 where
  pub sent : Bool
  pub is : new ≡ (if sent then without_command old else old)

with-has : (P : ConnectionState → Type 0) (connection : ConnectionState) (has : Bool) → P (record connection { reason = None })
    → P (record connection { reply = None })
    → P (if has then record connection { reason = None } else record connection { reply = None })
with-has P connection true one other = one
with-has P connection false one other = other

touched-so : (P : ConnectionState → Type 0) (old new : ConnectionState) → Touched old new → P old → P (record old { reason = None })
    → P (record old { reply = None }) → P new
touched-so P old new touched so one other = subst P (sym touched.is) (either touched.sent)
  where
    either : (sent : Bool) → P (if sent then without_command old else old)
    either true = with-has P old (is_some old.reason) one other
    either false = so

touched-once : (old new : ConnectionState) → Touched old new → WaitsOnce old → WaitsOnce new
touched-once old new touched once =
    touched-so WaitsOnce old new touched once (record { serving = λ live. refl; others = once.others })
    (record { serving = once.serving; others = λ other. refl })

touched-partway : (shared : SharedState) (handed : ℕ) (old new : ConnectionState) → Touched old new → IsPartway shared old handed → IsPartway shared new handed
touched-partway shared handed old new touched way =
    let again : IsPartway shared (record old { reason = None }) handed = record { serving = way.serving; most = way.most; done = way.done; others = way.others }
    in
    let replied : IsPartway shared (record old { reply = None }) handed =
    record { serving = way.serving; most = way.most; done = way.done; others = way.others } in
    touched-so (λ connection. IsPartway shared connection handed) old new touched way again replied

touched-left : (shared : SharedState) (handed : ℕ) (old new : ConnectionState) → Touched old new → packets_left shared old handed
    ≡ packets_left shared new handed
touched-left shared handed old new touched =
    touched-so (λ connection. packets_left shared old handed ≡ packets_left shared connection handed) old new touched refl refl refl

touched-absent : (old new : ConnectionState) → Touched old new → old ≡ no_connection → new ≡ no_connection
touched-absent old new touched is = touched.is ∙ ap (λ (connection : ConnectionState). if touched.sent then without_command connection else connection) is
    ∙ none touched.sent
  where
    none : (sent : Bool) → (if sent then without_command no_connection else no_connection) ≡ no_connection
    none true = refl
    none false = refl

-- one command is sent
abbrev pub sent_state : State → (Ordinal → ConnectionState) → Commanded → State
sent_state state parts command = record state { connections = parts; controller = controller_after state.controller (command ∷ []) }

pub record OneSent (state : State) (parts : Ordinal → ConnectionState) (command : Commanded) : Type 0 where
  pub due : commands_due state.controller state.connections state.slots ≡ command ∷ commands_due (controller_after state.controller (command ∷ [])) parts
      state.slots
  pub sent : (ordinal : Ordinal) → after_sending state.controller state.connections state.slots ordinal
      ≡ after_sending (controller_after state.controller (command ∷ [])) parts state.slots ordinal
  pub touched : (ordinal : Ordinal) → Touched (state.connections ordinal) (parts ordinal)

take-first : {A : Type 0} (n : ℕ) (x : A) (xs : List A) → 0 < n → take n (x ∷ xs) ≡ x ∷ take (n - 1) xs
take-first zero x xs some = absurd (omega (arith, some))
take-first (suc n) x xs some = ap (λ (m : ℕ). x ∷ take m xs) (omega arith)

awaiting-still : (awaiting awaited more : Bool) → (awaiting || (awaited && true)) ≡ ((awaiting || (awaited && true)) || (awaited && more))
awaiting-still true awaited more = refl
awaiting-still false true more = refl
awaiting-still false false more = refl

or-assoc : (one two three : Bool) → (one || (two || three)) ≡ ((one || (two || false)) || three)
or-assoc true two three = refl
or-assoc false true three = refl
or-assoc false false three = refl

after-first : (controller : Controller) (command : Commanded) (commands : List Commanded) → 0 < controller.credit
    → controller_after controller (command ∷ commands) ≡ controller_after (controller_after controller (command ∷ [])) commands
after-first controller command commands some = λ i. record controller {
  credit = credits i;
  awaiting = waits i;
  advertising = or-assoc controller.advertising (is_enabling command) (list_any is_enabling commands) i;
}
  where
    credits : controller.credit - length (command ∷ commands) ≡ controller.credit - 1 - length commands
    credits = omega arith

    awaited : Bool
    awaited = is_some (command_awaited controller.init)

    waits : (controller.awaiting || (is_some (command_awaited controller.init) && nat_lt 0 controller.credit))
        ≡ ((controller.awaiting || (is_some (command_awaited controller.init) && nat_lt 0 controller.credit))
        || (is_some (command_awaited controller.init) && nat_lt 0 (controller.credit - 1)))
    waits = rw (lt-ltb 0 controller.credit some)
        (awaiting-still controller.awaiting (is_some (command_awaited controller.init)) (nat_lt 0 (controller.credit - 1)))

sent-first : (state : State) (parts : Ordinal → ConnectionState) (command : Commanded) → OneSent state parts command → 0 < state.controller.credit
    → commands_sent state.controller state.connections state.slots
    ≡ command ∷ commands_sent (controller_after state.controller (command ∷ [])) parts state.slots
sent-first state parts command one some =
    ap (take state.controller.credit) one.due
    ∙ take-first state.controller.credit command (commands_due (controller_after state.controller (command ∷ [])) parts state.slots) some

arrives-too : (state : State) (parts : Ordinal → ConnectionState) (command : Commanded) → OneSent state parts command → 0 < state.controller.credit
    → with_commands_sent state ≡ with_commands_sent (sent_state state parts command)
arrives-too state parts command one some =
    let later = commands_sent (controller_after state.controller (command ∷ [])) parts state.slots in
    let controllers : controller_after state.controller (commands_sent state.controller state.connections state.slots)
    ≡ controller_after (controller_after state.controller (command ∷ [])) later =
    ap (controller_after state.controller) (sent-first state parts command one some) ∙ after-first state.controller command later some in
    λ i. record state { connections = λ ordinal. one.sent ordinal i; controller = controllers i }

left-too : (state : State) (parts : Ordinal → ConnectionState) (command : Commanded) (handed : Handed)
    → ((ordinal : Ordinal) → Touched (state.connections ordinal) (parts ordinal)) → (slots : Slots)
    → flat_map (slot_left state handed) slots ≡ flat_map (slot_left (sent_state state parts command) handed) slots
left-too state parts command handed touched [] = refl
left-too state parts command handed touched (None ∷ slots) = left-too state parts command handed touched slots
left-too state parts command handed touched (Some ordinal ∷ slots) = λ i.
    touched-left state.shared (handed ordinal) (state.connections ordinal) (parts ordinal) (touched ordinal) i
    ++ left-too state parts command handed touched slots i

settled-too : (state : State) (parts : Ordinal → ConnectionState) (command : Commanded)
    → ((ordinal : Ordinal) → Touched (state.connections ordinal) (parts ordinal)) → IsSettled state
    → IsSettled (sent_state state parts command)
settled-too state parts command touched settled = record {
  early = settled.early;
  slots = settled.slots;
  absent = λ ordinal lacks. touched-absent (state.connections ordinal) (parts ordinal) (touched ordinal) (settled.absent ordinal lacks);
}

placed-too : (state : State) (parts : Ordinal → ConnectionState) (command : Commanded)
    → ((ordinal : Ordinal) → Touched (state.connections ordinal) (parts ordinal)) → IsPlaced state
    → IsPlaced (sent_state state parts command)
placed-too state parts command touched placed = record {
  there = λ ordinal has.
      let there : is_there (state.connections ordinal).mark ≡ true = placed.there ordinal has in
      touched-so (λ connection. is_there connection.mark ≡ true) (state.connections ordinal) (parts ordinal) (touched ordinal) there there there;
  once = λ ordinal. touched-once (state.connections ordinal) (parts ordinal) (touched ordinal) (placed.once ordinal);
}

pub record Facts (state : State) (handed : Handed) : Type 0 where
  pub settled : IsSettled state
  pub placed : IsPlaced state
  pub partway : (ordinal : Ordinal) → has_slot ordinal state.slots ≡ true → IsPartway state.shared (state.connections ordinal) (handed ordinal)

pub command_goes : (state : State) (handed : Handed) (parts : Ordinal → ConnectionState) (command : Commanded) → Facts state handed
    → OneSent state parts command
    → nat_lt 0 state.controller.credit ≡ true
    → command_next state.controller (slot_states_handed state handed) ≡ Some command
    → slots_commanded state.controller (slot_states_handed state handed) ≡ slot_states_handed (sent_state state parts command) handed
    → SendsTheFirst (with_commands_sent state) (left_of state handed) state.controller (slot_states_handed state handed) (command_octets command)
command_goes state handed parts command facts one takes next slots =
    let some : 0 < state.controller.credit = ltb-true 0 state.controller.credit takes in
    let new : State = sent_state state parts command in
    record {
      others = left_of new handed;
      first = λ i. map command_octets (sent-first state parts command one some i) ++ left-too state parts command handed one.touched state.slots i;
      owing = record {
        state = new;
        handed = handed;
        settled = settled-too state parts command one.touched facts.settled;
        placed = placed-too state parts command one.touched facts.placed;
        partway = λ ordinal has.
            touched-partway state.shared (handed ordinal) (state.connections ordinal) (parts ordinal) (one.touched ordinal) (facts.partway ordinal has);
        arrives = sym (arrives-too state parts command one some);
        owes = refl;
        controller_is = then_controller state.controller (slot_states_handed state handed) (Some command) next;
        slots_are = ap (λ due. if is_some due then slots_commanded state.controller (slot_states_handed state handed)
            else with_first slot_state.gives (option_map slot_state.slot_without_packet) (slot_states_handed state handed)) next ∙ slots;
      };
    }
