-- What is owed while a command is due that the controller takes, and what is so once none is.
use Rattle.std.proofs.Common.{◌≡◌, ℕ, zero, suc, ◌+◌, ◌-◌, ◌<◌, ◌≤◌, Bool, true, false, List, [], ◌∷◌, ◌++◌, length, take, Option, Some, None, refl, sym, ap, subst, ◌∙◌, inl, inr, arith}
use Rattle.std.specs.Prelude.{is_some, is_none, nat_lt, ◌&&◌, ◌||◌, ◌==◌, not, if◌then◌else◌}
use Rattle.std.specs.Option.{option_map, option_or, option_to_list}
use Rattle.std.proofs.Math.Bool.{or-false}
use Rattle.std.proofs.lemmas.Bool.{cases_lt, eqb-true, le-ltb, lt-ltb, ltb-false, ltb-true, or_right}
use Rattle.gatt_host.proofs.commands.Commands.{Touched, OneSent, Facts, command_goes, either_unchanged, none_after}
use Rattle.gatt_host.proofs.owing.Nexts.{clash, some_of, takes_enabling, takes_init, takes_none, takes_slot}
use Rattle.gatt_host.proofs.commands.SlotCommands.{NoneDue, Other, Behind, Without, FirstDue, NoCommand, ACommand, moved, other_part, own_part, room_same, search_slots, told_same}
use Rattle.gatt_host.specs.GoingOut.{with_first, init_command, first_slot_command, command_next, has_free_slot, slots_commanded}
use Rattle.host_connections.specs.Commands.{has_command}
use Rattle.gatt_host.specs.Owing.{Handed, slot_states_handed, left_of, SendsTheFirst}
use Rattle.gatt_laws.specs.machine.Controller.{Controller, command_for, commands_for, command_of_init, commands_due, commands_sent, controller_after, count_before, disconnect_or, enabling, has_free, is_enabling, reply_due, without_command, after_sending}
use Rattle.gatt_laws.specs.machine.Event.{Ordinal}
use Rattle.gatt_laws.specs.machine.ConnectionState.{ConnectionState, KeyReply}
use Rattle.gatt_laws.specs.laws.Settled.{has_slot}
use Rattle.gatt_laws.specs.machine.State.{State, at_ordinal, command_octets, with_commands_sent}
use Rattle.host_connections.specs.Commands as slot_state
use Rattle.host_connections.specs.SlotState.{SlotState}
use Rattle.le_hci.specs.Command.{Commanded, LeSetAdvertiseEnable}
use Rattle.le_hci.specs.Init.{command_awaited}

-- the command of initialisation
record Turn (awaiting : Bool) (awaited : Option Commanded) (command : Commanded) : Type 0 where
  waits : awaiting ≡ false
  is : awaited ≡ Some command

its-turn : (awaiting : Bool) (awaited : Option Commanded) (command : Commanded) → (if awaiting then None else awaited) ≡ Some command
    → Turn awaiting awaited command
its-turn true awaited command is = absurd (clash (ap is_some is))
its-turn false awaited command is = record { waits = refl; is = is }

no-turn : (awaiting : Bool) (awaited : Option Commanded) → (if awaiting then None else awaited) ≡ None → (if awaiting then [] else option_to_list awaited) ≡ []
no-turn true awaited none = refl
no-turn false awaited none = ap option_to_list none

no-turn-later : (awaiting more : Bool) (awaited : Option Commanded) → (if awaiting then None else awaited) ≡ None
    → (if awaiting || (is_some awaited && more) then [] else option_to_list awaited) ≡ []
no-turn-later true more awaited none = refl
no-turn-later false more None none = refl
no-turn-later false more (Some command) none = absurd (clash (sym (ap is_some none)))

awaiting-too : (awaiting more : Bool) (awaited : Option Commanded) → (if awaiting then None else awaited) ≡ None → (awaiting || (is_some awaited && more))
    ≡ awaiting
awaiting-too true more awaited none = refl
awaiting-too false more None none = refl
awaiting-too false more (Some command) none = absurd (clash (sym (ap is_some none)))

-- commands of connections do not enable
not-enabling : (handle : ℕ) (reason : Option ℕ) (reply : Option KeyReply) (command : Commanded) → disconnect_or handle reason (reply_due handle reply)
    ≡ Some command
    → is_enabling command ≡ false
not-enabling handle (Some reason) reply command is = sym (ap is_enabling (some_of _ _ is))
not-enabling handle None (Some (Some key)) command is = sym (ap is_enabling (some_of _ _ is))
not-enabling handle None (Some None) command is = sym (ap is_enabling (some_of _ _ is))
not-enabling handle None None command is = absurd (clash (ap is_some is))

none-commanded : (change : Option SlotState → Option SlotState) (slots : List (Option SlotState)) → first_slot_command slots ≡ None
    → with_first has_command change slots ≡ slots
none-commanded change [] none = refl
none-commanded change (slot ∷ slots) none =
    elim (slot_state.command_due slot) as
    (λ due. option_or due (first_slot_command slots) ≡ None → (if is_some due then change slot ∷ slots else slot ∷ with_first has_command change slots)
    ≡ slot ∷ slots) [
      | Some command ↦ λ is. absurd (clash (sym (ap is_some is)))
      | None ↦ λ is. ap (λ later. slot ∷ later) (none-commanded change slots is)
    ] none

and-false : (one other : Bool) → ((one && false) && other) ≡ false
and-false true other = refl
and-false false other = refl

take-none : {A : Type 0} (n : ℕ) (xs : List A) → nat_lt 0 n ≡ false → take n xs ≡ []
take-none zero [] none = refl
take-none (suc n) [] none = refl
take-none zero (x ∷ xs) none = refl
take-none (suc n) (x ∷ xs) none = absurd (clash (sym none ∙ lt-ltb 0 (suc n) (omega arith)))

take-nothing : {A : Type 0} (n : ℕ) → let none : List A = [] in take n none ≡ none
take-nothing zero = refl
take-nothing (suc n) = refl

full-waits : (awaiting awaited takes : Bool) → takes ≡ false → (awaiting || (awaited && takes)) ≡ awaiting
full-waits true awaited takes none = refl
full-waits false true takes none = none
full-waits false false takes none = refl

less-one : (all before rest later credit : ℕ) → all ≡ 0 → rest ≡ 0 → before ≡ 1 + later → 0 < credit → nat_lt (all + before) credit
    ≡ nat_lt (rest + later) (credit - 1)
less-one all before rest later credit none none_too more some = elim (cases_lt (all + before) credit) [
  | inl below ↦ lt-ltb (all + before) credit below ∙ sym (lt-ltb (rest + later) (credit - 1) (omega arith))
  | inr past ↦ le-ltb (all + before) credit past ∙ sym (le-ltb (rest + later) (credit - 1) (omega arith))
]

module _ (state : State) (handed : Handed) (facts : Facts state handed) where
  abbrev Gives : Commanded → Type 0
  Gives command = SendsTheFirst (with_commands_sent state) (left_of state handed) state.controller (slot_states_handed state handed) (command_octets command)

  untouched : (ordinal : Ordinal) → Touched (state.connections ordinal) (state.connections ordinal)
  untouched ordinal = record { sent = false; is = refl }

  -- of who has no slot no command is due
  gone-none : (ordinal : Ordinal) → has_slot ordinal state.slots ≡ false → command_for (state.connections ordinal) ≡ None
  gone-none ordinal lacks = ap command_for (facts.settled.absent ordinal lacks)

  same-parts : (one other : Bool) (ordinal : Ordinal) → command_for (state.connections ordinal) ≡ None
      → (if one then without_command (state.connections ordinal) else state.connections ordinal)
      ≡ (if other then without_command (state.connections ordinal) else state.connections ordinal)
  same-parts one other ordinal none = either_unchanged (state.connections ordinal) one none ∙ sym (either_unchanged (state.connections ordinal) other none)

  -- the command of initialisation is due
  init_goes : (command : Commanded) → nat_lt 0 state.controller.credit ≡ true → init_command state.controller ≡ Some command → Gives command
  unfolding commands_due
  init_goes command takes init =
      let effect = its-turn state.controller.awaiting (command_awaited state.controller.init) command init in
      let none : state.slots ≡ [] = facts.settled.early (ap is_none effect.is) in
      let new : Controller = controller_after state.controller (command ∷ []) in
      let awaits : new.awaiting ≡ true =
      (λ i. state.controller.awaiting || (is_some (effect.is i) && takes i)) ∙ or_right state.controller.awaiting true refl in
      let old_due : commands_due state.controller state.connections state.slots ≡ command ∷ [] =
      λ i. (if effect.waits i then [] else option_to_list (effect.is i)) ++ commands_for state.connections (none i) ++ enabling state.controller (none i) in
      let new_due : commands_due new state.connections state.slots ≡ [] =
      λ i. (if awaits i then [] else option_to_list (command_awaited state.controller.init)) ++ commands_for state.connections (none i) ++ enabling new (none i)
      in
      let one : OneSent state state.connections command = record {
        due = old_due ∙ sym (ap (λ later. command ∷ later) new_due);
        sent = λ ordinal. same-parts _ _ ordinal (gone-none ordinal (ap (has_slot ordinal) none));
        touched = untouched;
      } in
      let first : slots_commanded state.controller (slot_states_handed state handed) ≡ slot_states_handed state handed =
      λ i. if is_some (init i) then slot_states_handed state handed else with_first has_command (option_map slot_state.slot_without_command)
      (slot_states_handed state handed) in
      command_goes state handed state.connections command facts one takes (takes_init state.controller (slot_states_handed state handed) command takes init)
      (first ∙ told_same state handed new state.slots)

  -- that of a slot
  slot_goes : (first : FirstDue state handed state.controller state.slots) → nat_lt 0 state.controller.credit ≡ true → init_command state.controller ≡ None
      → Gives first.command
  unfolding commands_due
  slot_goes first takes init =
      let command : Commanded = first.command in
      let old : ConnectionState = state.connections first.ordinal in
      let parts : Ordinal → ConnectionState = at_ordinal first.ordinal (without_command old) state.connections in
      let new : Controller = controller_after state.controller (command ∷ []) in
      let some : 0 < state.controller.credit = ltb-true 0 state.controller.credit takes in
      let old_init : command_of_init state.controller ≡ [] = no-turn state.controller.awaiting (command_awaited state.controller.init) init in
      let new_init : command_of_init new ≡ [] =
      no-turn-later state.controller.awaiting (nat_lt 0 state.controller.credit) (command_awaited state.controller.init) init in
      let no : is_enabling command ≡ false = not-enabling old.handle old.reason old.reply command first.due in
      let same_advertising : new.advertising ≡ state.controller.advertising =
      (λ i. state.controller.advertising || (no i || false)) ∙ or-false state.controller.advertising in
      let same_enabling : enabling new state.slots ≡ enabling state.controller state.slots =
      λ i. if has_free state.slots && not (same_advertising i) && not state.controller.refused then LeSetAdvertiseEnable ∷ [] else [] in
      let new_init_then = sym new_init in
      let enabling_then = sym same_enabling in
      let before : commands_due state.controller state.connections state.slots
      ≡ command ∷ (commands_for parts state.slots ++ enabling state.controller state.slots) =
      λ i. old_init i ++ first.commands i ++ enabling state.controller state.slots in
      let none_left : command_for (without_command old) ≡ None = none_after old (facts.placed.once first.ordinal) in
      let one : OneSent state parts command = record {
        due = before ∙ (λ i. command ∷ (new_init_then i ++ commands_for parts state.slots ++ enabling_then i));
        sent = λ ordinal.
            elim (ordinal == first.ordinal) as (λ (is : Bool). (ordinal == first.ordinal) ≡ is
            → after_sending state.controller state.connections state.slots ordinal ≡ after_sending new parts state.slots ordinal) [
              | true ↦ λ is. subst (λ (at : Ordinal). after_sending state.controller state.connections state.slots at ≡ after_sending new parts state.slots at)
                  (sym (eqb-true ordinal first.ordinal is)) (own-sent first some old_init)
              | false ↦ λ differs. other-sent first some old_init new_init ordinal differs (first.others ordinal differs)
            ] refl;
        touched = λ ordinal.
            elim (ordinal == first.ordinal) as (λ (is : Bool). (ordinal == first.ordinal) ≡ is
            → Touched (state.connections ordinal) (if is then without_command old else state.connections ordinal)) [
              | true ↦ λ is. record {
                sent = true;
                is = ap (λ (at : Ordinal). without_command (state.connections at)) (sym (eqb-true ordinal first.ordinal is));
              }
              | false ↦ λ differs. record { sent = false; is = refl }
            ] refl;
      } in
      let commanded : slots_commanded state.controller (slot_states_handed state handed)
      ≡ with_first has_command (option_map slot_state.slot_without_command) (slot_states_handed state handed) =
      λ i. if is_some (init i) then slot_states_handed state handed else with_first has_command (option_map slot_state.slot_without_command)
      (slot_states_handed state handed) in
      command_goes state handed parts command facts one takes (takes_slot state.controller (slot_states_handed state handed) command takes init first.found)
      (commanded ∙ first.server ∙ told_same (moved state first.ordinal (without_command old) state.controller) handed new state.slots)
    where
      own-sent : (first : FirstDue state handed state.controller state.slots) → 0 < state.controller.credit → command_of_init state.controller ≡ []
          → after_sending state.controller state.connections state.slots first.ordinal
          ≡ after_sending (controller_after state.controller (first.command ∷ []))
          (at_ordinal first.ordinal (without_command (state.connections first.ordinal)) state.connections) state.slots first.ordinal
      own-sent first some old_init =
          let old : ConnectionState = state.connections first.ordinal in
          let parts : Ordinal → ConnectionState = at_ordinal first.ordinal (without_command old) state.connections in
          let own : parts first.ordinal ≡ without_command old = own_part state.connections first.ordinal (without_command old) in
          let none : command_for (parts first.ordinal) ≡ None = ap command_for own ∙ none_after old (facts.placed.once first.ordinal) in
          let now : nat_lt (length (command_of_init state.controller) + count_before first.ordinal state.connections state.slots) state.controller.credit
          ≡ true =
          lt-ltb _ _ (omega (arith, ap length old_init, first.own, some)) in
          let before : after_sending state.controller state.connections state.slots first.ordinal ≡ without_command old =
          λ i. if now i then without_command old else old in
          before ∙ sym own ∙ sym (either_unchanged (parts first.ordinal) _ none)

      other-sent : (first : FirstDue state handed state.controller state.slots) → 0 < state.controller.credit → command_of_init state.controller ≡ []
          → command_of_init (controller_after state.controller (first.command ∷ [])) ≡ [] → (ordinal : Ordinal) → (ordinal == first.ordinal) ≡ false
          → Other state handed (at_ordinal first.ordinal (without_command (state.connections first.ordinal)) state.connections) state.slots ordinal
          → after_sending state.controller state.connections state.slots ordinal
          ≡ after_sending (controller_after state.controller (first.command ∷ []))
          (at_ordinal first.ordinal (without_command (state.connections first.ordinal)) state.connections) state.slots ordinal
      other-sent first some old_init new_init ordinal differs (Behind count) =
          let old : ConnectionState = state.connections first.ordinal in
          let parts : Ordinal → ConnectionState = at_ordinal first.ordinal (without_command old) state.connections in
          let same = sym (other_part state.connections first.ordinal ordinal (without_command old) differs) in
          let test = less-one (length (command_of_init state.controller)) (count_before ordinal state.connections state.slots)
          (length (command_of_init (controller_after state.controller (first.command ∷ [])))) (count_before ordinal parts state.slots) state.controller.credit
          (ap length old_init) (ap length new_init) count some in
          λ i. if test i then without_command (same i) else same i
      other-sent first some old_init new_init ordinal differs (Without none) =
          let old : ConnectionState = state.connections first.ordinal in
          let parts : Ordinal → ConnectionState = at_ordinal first.ordinal (without_command old) state.connections in
          let same : parts ordinal ≡ state.connections ordinal = other_part state.connections first.ordinal ordinal (without_command old) differs in
          either_unchanged (state.connections ordinal) _ none ∙ sym same ∙ sym (either_unchanged (parts ordinal) _ (ap command_for same ∙ none))

  -- nothing is due of anybody
  all-none : NoneDue state handed state.slots → (ordinal : Ordinal) → command_for (state.connections ordinal) ≡ None
  all-none none ordinal =
      elim (has_slot ordinal state.slots) as (λ (has : Bool). has_slot ordinal state.slots ≡ has → command_for (state.connections ordinal) ≡ None) [
        | true ↦ λ has. none.each ordinal has
        | false ↦ λ lacks. gone-none ordinal lacks
      ] refl

  -- advertising is to be enabled
  same-room : has_free_slot (slot_states_handed state handed) ≡ has_free state.slots
  same-room = room_same state handed state.slots facts.placed.there

  abbrev May : Bool
  May = has_free_slot (slot_states_handed state handed) && not state.controller.advertising && not state.controller.refused

  enabling_goes : NoneDue state handed state.slots → nat_lt 0 state.controller.credit ≡ true → init_command state.controller ≡ None → May ≡ true
      → Gives LeSetAdvertiseEnable
  unfolding commands_due
  enabling_goes none takes init may =
      let new : Controller = controller_after state.controller (LeSetAdvertiseEnable ∷ []) in
      let old_init : command_of_init state.controller ≡ [] = no-turn state.controller.awaiting (command_awaited state.controller.init) init in
      let new_init : command_of_init new ≡ [] =
      no-turn-later state.controller.awaiting (nat_lt 0 state.controller.credit) (command_awaited state.controller.init) init in
      let free : (has_free state.slots && not state.controller.advertising && not state.controller.refused) ≡ true =
      sym (ap (λ (free : Bool). free && not state.controller.advertising && not state.controller.refused) same-room) ∙ may in
      let advertises : new.advertising ≡ true = or_right state.controller.advertising true refl in
      let not_again : (has_free state.slots && not new.advertising && not state.controller.refused) ≡ false =
      ap (λ (advertising : Bool). has_free state.slots && not advertising && not state.controller.refused) advertises
      ∙ and-false (has_free state.slots) (not state.controller.refused) in
      let old_due : commands_due state.controller state.connections state.slots ≡ LeSetAdvertiseEnable ∷ [] =
      λ i. old_init i ++ none.commands i ++ (if free i then LeSetAdvertiseEnable ∷ [] else []) in
      let new_due : commands_due new state.connections state.slots ≡ [] =
      λ i. new_init i ++ none.commands i ++ (if not_again i then LeSetAdvertiseEnable ∷ [] else []) in
      let one : OneSent state state.connections LeSetAdvertiseEnable = record {
        due = old_due ∙ sym (ap (λ later. LeSetAdvertiseEnable ∷ later) new_due);
        sent = λ ordinal. same-parts _ _ ordinal (all-none none ordinal);
        touched = untouched;
      } in
      let commanded : slots_commanded state.controller (slot_states_handed state handed)
      ≡ with_first has_command (option_map slot_state.slot_without_command) (slot_states_handed state handed) =
      λ i. if is_some (init i) then slot_states_handed state handed else with_first has_command (option_map slot_state.slot_without_command)
      (slot_states_handed state handed) in
      command_goes state handed state.connections LeSetAdvertiseEnable facts one takes
      (takes_enabling state.controller (slot_states_handed state handed) true takes init none.none may)
      (commanded ∙ none-commanded (option_map slot_state.slot_without_command) (slot_states_handed state handed) none.none
      ∙ told_same state handed new state.slots)

  -- no command goes out
  pub record Quiet : Type 0 where
    pub next : command_next state.controller (slot_states_handed state handed) ≡ None
    pub none : commands_sent state.controller state.connections state.slots ≡ []
    pub still : with_commands_sent state ≡ state

  still-so : ((ordinal : Ordinal) → after_sending state.controller state.connections state.slots ordinal ≡ state.connections ordinal)
      → commands_sent state.controller state.connections state.slots ≡ []
      → (state.controller.awaiting || (is_some (command_awaited state.controller.init) && nat_lt 0 state.controller.credit)) ≡ state.controller.awaiting
      → with_commands_sent state ≡ state
  still-so parts none awaits =
      let credits : state.controller.credit - 0 ≡ state.controller.credit = omega arith in
      let advertises : (state.controller.advertising || false) ≡ state.controller.advertising = or-false state.controller.advertising in
      let same : controller_after state.controller [] ≡ state.controller =
      λ i. record state.controller { credit = credits i; awaiting = awaits i; advertising = advertises i } in
      let controllers : controller_after state.controller (commands_sent state.controller state.connections state.slots) ≡ state.controller =
      ap (controller_after state.controller) none ∙ same in
      λ i. record state { connections = λ ordinal. parts ordinal i; controller = controllers i }

  quiet_due : NoneDue state handed state.slots → nat_lt 0 state.controller.credit ≡ true → init_command state.controller ≡ None → May ≡ false → Quiet
  unfolding commands_due
  quiet_due none takes init may =
      let old_init : command_of_init state.controller ≡ [] = no-turn state.controller.awaiting (command_awaited state.controller.init) init in
      let free : (has_free state.slots && not state.controller.advertising && not state.controller.refused) ≡ false =
      sym (ap (λ (free : Bool). free && not state.controller.advertising && not state.controller.refused) same-room) ∙ may in
      let due : commands_due state.controller state.connections state.slots ≡ [] =
      λ i. old_init i ++ none.commands i ++ (if free i then LeSetAdvertiseEnable ∷ [] else []) in
      let out : commands_sent state.controller state.connections state.slots ≡ [] = ap (take state.controller.credit) due ∙ take-nothing state.controller.credit
      in
      record {
        next = takes_enabling state.controller (slot_states_handed state handed) false takes init none.none may;
        none = out;
        still = still-so (λ ordinal. either_unchanged (state.connections ordinal) _ (all-none none ordinal)) out
            (awaiting-too state.controller.awaiting (nat_lt 0 state.controller.credit) (command_awaited state.controller.init) init);
      }

  quiet_full : nat_lt 0 state.controller.credit ≡ false → Quiet
  quiet_full takes =
      let out : commands_sent state.controller state.connections state.slots ≡ [] =
      take-none state.controller.credit (commands_due state.controller state.connections state.slots) takes in
      let none : state.controller.credit ≤ 0 = ltb-false 0 state.controller.credit takes in
      record {
        next = takes_none state.controller (slot_states_handed state handed) takes;
        none = out;
        still = still-so
            (λ ordinal.
            let before : ℕ = length (command_of_init state.controller) + count_before ordinal state.connections state.slots in
            let never : nat_lt before state.controller.credit ≡ false = le-ltb before state.controller.credit (omega (arith, none)) in
            λ i. if never i then without_command (state.connections ordinal) else state.connections ordinal) out
            (full-waits state.controller.awaiting (is_some (command_awaited state.controller.init)) (nat_lt 0 state.controller.credit) takes);
      }

  -- a command goes out, or none does
  pub data Commanding : Type 0 where
    CommandGoes : (command : Commanded) → command_next state.controller (slot_states_handed state handed) ≡ Some command → Gives command → Commanding
    NoneGoes : Quiet → Commanding

  after_init : nat_lt 0 state.controller.credit ≡ true → init_command state.controller ≡ None → Commanding
  after_init takes init =
      elim (search_slots state handed state.controller facts.placed.once state.next state.slots facts.settled.slots facts.placed.there) [
        | NoCommand none ↦ elim May as (λ (may : Bool). May ≡ may → Commanding) [
          | true ↦ λ may. CommandGoes LeSetAdvertiseEnable
              (takes_enabling state.controller (slot_states_handed state handed) true takes init none.none may) (enabling_goes none takes init may)
          | false ↦ λ may. NoneGoes (quiet_due none takes init may)
        ] refl
        | ACommand first ↦ CommandGoes first.command
            (takes_slot state.controller (slot_states_handed state handed) first.command takes init first.found) (slot_goes first takes init)
      ]

  pub commanding : Commanding
  commanding = elim (nat_lt 0 state.controller.credit) as (λ (takes : Bool). nat_lt 0 state.controller.credit ≡ takes → Commanding) [
    | false ↦ λ takes. NoneGoes (quiet_full takes)
    | true ↦ λ takes. elim (init_command state.controller) as (λ due. init_command state.controller ≡ due → Commanding) [
      | Some command ↦ λ init. CommandGoes command (takes_init state.controller (slot_states_handed state handed) command takes init)
          (init_goes command takes init)
      | None ↦ λ init. after_init takes init
    ] refl
  ] refl
