-- The first command that slots wait for, by the connections that have them and by what is kept of these.
use Rattle.std.proofs.Common.{◌≡◌, ℕ, ◌+◌, Bool, true, false, [], ◌∷◌, ◌++◌, length, map, Some, None, refl, sym, ap, ◌∙◌, arith}
use Rattle.std.specs.Prelude.{is_some, is_none, ◌||◌, ◌==◌, if◌then◌else◌}
use Rattle.std.specs.Option.{option_map, option_or, option_to_list}
use Rattle.std.proofs.lemmas.Bool.{eq-eqb, eqb-true, or_right, or_left}
use Rattle.gatt_host.proofs.commands.Commands.{none_after, same_too}
use Rattle.gatt_host.proofs.owing.Nexts.{clash}
use Rattle.gatt_host.specs.GoingOut.{with_first, first_slot_command, has_free_slot}
use Rattle.host_connections.specs.Commands.{has_command}
use Rattle.gatt_host.specs.Owing.{Handed, slot_state_handed}
use Rattle.gatt_laws.specs.machine.Controller.{Controller, Slots, command_for, commands_for, count_before, has_free, without_command}
use Rattle.gatt_laws.specs.machine.Event.{Ordinal}
use Rattle.gatt_laws.specs.machine.ConnectionState.{ConnectionState, is_there}
use Rattle.gatt_laws.specs.laws.Placed.{WaitsOnce}
use Rattle.gatt_laws.specs.laws.Settled.{has_slot, HaveOneSlotEach}
use Rattle.gatt_laws.specs.machine.State.{State, at_ordinal}
use Rattle.host_connections.specs.Commands as slot_state
use Rattle.host_connections.specs.SlotState.{slot_state_of, slot_state_if_there}
use Rattle.le_hci.specs.Command.{Commanded}
use Rattle.octet_io.proofs.Choices.{or_false_left, or_false_right}

-- a state with another part at one ordinal, and another controller
abbrev pub moved : State → Ordinal → ConnectionState → Controller → State
moved state ordinal connection controller = record state { connections = at_ordinal ordinal connection state.connections; controller = controller }

pub other_part : (parts : Ordinal → ConnectionState) (ordinal other : Ordinal) (new : ConnectionState) → (other == ordinal) ≡ false
    → at_ordinal ordinal new parts other ≡ parts other
other_part parts ordinal other new differs = λ i. if differs i then new else parts other

pub own_part : (parts : Ordinal → ConnectionState) (ordinal : Ordinal) (new : ConnectionState) → at_ordinal ordinal new parts ordinal ≡ new
own_part parts ordinal new = λ i. if eq-eqb ordinal ordinal refl i then new else parts ordinal

-- slots that the ordinal does not have stay as they are
module _ (parts : Ordinal → ConnectionState) (ordinal : Ordinal) (new : ConnectionState) where
  commands-same : (slots : Slots) → has_slot ordinal slots ≡ false → commands_for (at_ordinal ordinal new parts) slots ≡ commands_for parts slots
  commands-same [] lacks = refl
  commands-same (None ∷ slots) lacks = commands-same slots lacks
  commands-same (Some one ∷ slots) lacks = λ i.
      option_to_list (command_for (other_part parts ordinal one new (or_false_left (one == ordinal) (has_slot ordinal slots) lacks) i))
      ++ commands-same slots (or_false_right (one == ordinal) (has_slot ordinal slots) lacks) i

  count-same : (other : Ordinal) (slots : Slots) → has_slot ordinal slots ≡ false → count_before other (at_ordinal ordinal new parts) slots
      ≡ count_before other parts slots
  count-same other [] lacks = refl
  count-same other (None ∷ slots) lacks = count-same other slots lacks
  count-same other (Some one ∷ slots) lacks = λ i.
      if one == other then 0
      else length (option_to_list (command_for (other_part parts ordinal one new (or_false_left (one == ordinal) (has_slot ordinal slots) lacks) i)))
      + count-same other slots (or_false_right (one == ordinal) (has_slot ordinal slots) lacks) i

module _ (state : State) (handed : Handed) where
  pub held_same : (ordinal : Ordinal) (new : ConnectionState) (controller : Controller) (slots : Slots) → has_slot ordinal slots ≡ false
      → map (slot_state_handed state handed) slots ≡ map (slot_state_handed (moved state ordinal new controller) handed) slots
  held_same ordinal new controller [] lacks = refl
  held_same ordinal new controller (None ∷ slots) lacks = ap (λ later. None ∷ later) (held_same ordinal new controller slots lacks)
  held_same ordinal new controller (Some one ∷ slots) lacks =
      let same = sym (other_part state.connections ordinal one new (or_false_left (one == ordinal) (has_slot ordinal slots) lacks)) in
      λ i. slot_state_if_there state.shared (same i) (handed one) ∷ held_same ordinal new controller slots
      (or_false_right (one == ordinal) (has_slot ordinal slots) lacks) i

  abbrev pub AllThere : Slots → Type 0
  AllThere slots = (ordinal : Ordinal) → has_slot ordinal slots ≡ true → is_there (state.connections ordinal).mark ≡ true

  -- what is kept of a connection that has a slot
  pub held_there : (ordinal : Ordinal) → is_there (state.connections ordinal).mark ≡ true
      → slot_state_handed state handed (Some ordinal) ≡ Some (slot_state_of state.shared (state.connections ordinal) (handed ordinal))
  held_there ordinal there = λ i. if there i then Some (slot_state_of state.shared (state.connections ordinal) (handed ordinal)) else None

  held-due : (ordinal : Ordinal) → is_there (state.connections ordinal).mark ≡ true → slot_state.command_due (slot_state_handed state handed (Some ordinal))
      ≡ command_for (state.connections ordinal)
  held-due ordinal there = ap slot_state.command_due (held_there ordinal there)

  -- the part and what is kept of it lose their command together
  kept-has : (connection : ConnectionState) (count : ℕ) (has : Bool)
      → (if has then record (slot_state_of state.shared connection count) { reason = None }
      else record (slot_state_of state.shared connection count) { reply = None })
      ≡ slot_state_of state.shared (if has then record connection { reason = None } else record connection { reply = None }) count
  kept-has connection count true = refl
  kept-has connection count false = refl

  there-has : (connection : ConnectionState) (has : Bool) → is_there connection.mark ≡ true
      → is_there (if has then record connection { reason = None } else record connection { reply = None }).mark ≡ true
  there-has connection true there = there
  there-has connection false there = there

  kept-without : (connection : ConnectionState) (count : ℕ) → is_there connection.mark ≡ true
      → option_map slot_state.slot_without_command (slot_state_if_there state.shared connection count)
      ≡ slot_state_if_there state.shared (without_command connection) count
  kept-without connection count there =
      let there_then : is_there (without_command connection).mark ≡ true = there-has connection (is_some connection.reason) there in
      let now : slot_state_if_there state.shared connection count ≡ Some (slot_state_of state.shared connection count) =
      λ i. if there i then Some (slot_state_of state.shared connection count) else None in
      let new : slot_state_if_there state.shared (without_command connection) count ≡ Some (slot_state_of state.shared (without_command connection) count) =
      λ i. if there_then i then Some (slot_state_of state.shared (without_command connection) count) else None in
      ap (option_map slot_state.slot_without_command) now ∙ ap Some (kept-has connection count (is_some connection.reason)) ∙ sym new

  -- a slot is free where no connection has it
  pub room_same : (slots : Slots) → ((ordinal : Ordinal) → has_slot ordinal slots ≡ true → is_there (state.connections ordinal).mark ≡ true)
      → has_free_slot (map (slot_state_handed state handed) slots) ≡ has_free slots
  room_same [] there = refl
  room_same (None ∷ slots) there = refl
  room_same (Some one ∷ slots) there = λ i.
      is_none (held_there one (there one (or_left (one == one) (has_slot one slots) (eq-eqb one one refl))) i)
      || room_same slots (λ ordinal has. there ordinal (or_right (one == ordinal) (has_slot ordinal slots) has)) i

  -- with another controller
  pub told_same : (controller : Controller) (slots : Slots) → map (slot_state_handed state handed) slots
      ≡ map (slot_state_handed (record state { controller = controller }) handed) slots
  told_same controller [] = refl
  told_same controller (None ∷ slots) = ap (λ later. None ∷ later) (told_same controller slots)
  told_same controller (Some one ∷ slots) = ap (λ later. slot_state_handed state handed (Some one) ∷ later) (told_same controller slots)

  -- where no command is due
  pub record NoneDue (slots : Slots) : Type 0 where
    pub none : first_slot_command (map (slot_state_handed state handed) slots) ≡ None
    pub commands : commands_for state.connections slots ≡ []
    pub each : (ordinal : Ordinal) → has_slot ordinal slots ≡ true → command_for (state.connections ordinal) ≡ None

  -- any other connection stands behind the one whose command goes out, or waits for none
  pub data Other (new : Ordinal → ConnectionState) (slots : Slots) (other : Ordinal) : Type 0 where
    Behind : count_before other state.connections slots ≡ 1 + count_before other new slots → Other new slots other
    Without : command_for (state.connections other) ≡ None → Other new slots other

  pub record FirstDue (controller : Controller) (slots : Slots) : Type 0 where
    pub ordinal : Ordinal
    pub command : Commanded
    pub due : command_for (state.connections ordinal) ≡ Some command
    pub has : has_slot ordinal slots ≡ true
    pub found : first_slot_command (map (slot_state_handed state handed) slots) ≡ Some command
    pub commands : commands_for state.connections slots
        ≡ command ∷ commands_for (at_ordinal ordinal (without_command (state.connections ordinal)) state.connections) slots
    pub server : with_first has_command (option_map slot_state.slot_without_command) (map (slot_state_handed state handed) slots)
        ≡ map (slot_state_handed (moved state ordinal (without_command (state.connections ordinal)) controller) handed) slots
    pub own : count_before ordinal state.connections slots ≡ 0
    pub others : (other : Ordinal) → (other == ordinal) ≡ false
        → Other (at_ordinal ordinal (without_command (state.connections ordinal)) state.connections) slots other

  pub data Search (controller : Controller) (slots : Slots) : Type 0 where
    NoCommand : NoneDue slots → Search controller slots
    ACommand : FirstDue controller slots → Search controller slots

  module _ (controller : Controller) (once : (ordinal : Ordinal) → WaitsOnce (state.connections ordinal)) where
    past-free : (slots : Slots) → Search controller slots → Search controller (None ∷ slots)
    past-free slots (NoCommand none) = NoCommand (record { none = none.none; commands = none.commands; each = none.each })
    past-free slots (ACommand first) = ACommand (record {
      ordinal = first.ordinal;
      command = first.command;
      due = first.due;
      has = first.has;
      found = first.found;
      commands = first.commands;
      server = ap (λ later. None ∷ later) first.server;
      own = first.own;
      others = λ other differs. past (first.others other differs);
    })
      where
        past : {other : Ordinal} → Other (at_ordinal first.ordinal (without_command (state.connections first.ordinal)) state.connections) slots other
            → Other (at_ordinal first.ordinal (without_command (state.connections first.ordinal)) state.connections) (None ∷ slots) other
        past (Behind count) = Behind count
        past (Without none) = Without none

    here : (one : Ordinal) (slots : Slots) (command : Commanded) → is_there (state.connections one).mark ≡ true → has_slot one slots ≡ false
        → command_for (state.connections one) ≡ Some command → FirstDue controller (Some one ∷ slots)
    here one slots command there lacks due =
        let connection : ConnectionState = state.connections one in
        let new : Ordinal → ConnectionState = at_ordinal one (without_command connection) state.connections in
        let rest = first_slot_command (map (slot_state_handed state handed) slots) in
        let is_due : slot_state.command_due (slot_state_handed state handed (Some one)) ≡ Some command = held-due one there ∙ due in
        let none : command_for (new one) ≡ None =
        ap command_for (own_part state.connections one (without_command connection)) ∙ none_after connection (once one) in
        let none_then = sym none in
        let same_then = sym (commands-same state.connections one (without_command connection) slots lacks) in
        let server = slot_state_handed state handed (Some one) in
        let later = map (slot_state_handed state handed) slots in
        let has_due : has_command server ≡ true = ap is_some is_due in
        let kept_then : option_map slot_state.slot_without_command server ≡ slot_state_handed (moved state one (without_command connection) controller) handed
        (Some one) =
        kept-without connection (handed one) there
        ∙ sym (ap (λ (new_part : ConnectionState). slot_state_if_there state.shared new_part (handed one))
        (own_part state.connections one (without_command connection))) in
        let first : with_first has_command (option_map slot_state.slot_without_command) (server ∷ later) ≡ option_map slot_state.slot_without_command server
        ∷ later =
        λ i. if has_due i then option_map slot_state.slot_without_command server ∷ later
        else server ∷ with_first has_command (option_map slot_state.slot_without_command) later in
        let before : commands_for state.connections (Some one ∷ slots) ≡ command ∷ commands_for state.connections slots =
        λ i. option_to_list (due i) ++ commands_for state.connections slots in
        record {
          ordinal = one;
          command = command;
          due = due;
          has = or_left (one == one) (has_slot one slots) (eq-eqb one one refl);
          found = ap (λ first. option_or first rest) is_due;
          commands = before ∙ (λ i. command ∷ (option_to_list (none_then i) ++ same_then i));
          server = first ∙ (λ i. kept_then i ∷ held_same one (without_command connection) controller slots lacks i);
          own = λ i. if eq-eqb one one refl i then 0 else length (option_to_list (command_for connection)) + count_before one state.connections slots;
          others = λ other differs.
              let apart : (one == other) ≡ false = same_too other one differs in
              let old_count : count_before other state.connections (Some one ∷ slots) ≡ length (command ∷ []) + count_before other state.connections slots =
              λ i. if apart i then 0 else length (option_to_list (due i)) + count_before other state.connections slots in
              let new_count : count_before other new (Some one ∷ slots) ≡ 0 + count_before other state.connections slots =
              λ i. if apart i then 0 else length (option_to_list (none i)) + count-same state.connections one (without_command connection) other slots lacks i
              in
              Behind (omega (arith, old_count, new_count));
        }

    differs-where : (one ordinal : Ordinal) (command : Commanded) → command_for (state.connections one) ≡ None → command_for (state.connections ordinal)
        ≡ Some command
        → (one == ordinal) ≡ false
    differs-where one ordinal command none due =
        elim (one == ordinal) as (λ (is : Bool). (one == ordinal) ≡ is → is ≡ false) [
          | true ↦ λ same.
              absurd (clash (sym (ap is_some none) ∙ ap (λ (at : Ordinal). is_some (command_for (state.connections at))) (eqb-true one ordinal same)
              ∙ ap is_some due))
          | false ↦ λ differs. refl
        ] refl

    later-has : (one other : Ordinal) (slots : Slots) → (one == other) ≡ false → has_slot other (Some one ∷ slots) ≡ true → has_slot other slots ≡ true
    later-has one other slots differs has = sym (ap (λ (test : Bool). test || has_slot other slots) differs) ∙ has

    past-one : (one : Ordinal) (slots : Slots) → is_there (state.connections one).mark ≡ true → command_for (state.connections one) ≡ None
        → Search controller slots → Search controller (Some one ∷ slots)
    past-one one slots there due (NoCommand found) =
        let is_due : slot_state.command_due (slot_state_handed state handed (Some one)) ≡ None = held-due one there ∙ due in
        NoCommand (record {
          none = λ i. option_or (is_due i) (found.none i);
          commands = λ i. option_to_list (due i) ++ found.commands i;
          each = λ other has.
              elim (one == other) as (λ (is : Bool). (one == other) ≡ is → command_for (state.connections other) ≡ None) [
                | true ↦ λ same. sym (ap (λ (at : Ordinal). command_for (state.connections at)) (eqb-true one other same)) ∙ due
                | false ↦ λ differs. found.each other (later-has one other slots differs has)
              ] refl;
        })
    past-one one slots there due (ACommand first) =
        let connection : ConnectionState = without_command (state.connections first.ordinal) in
        let new : Ordinal → ConnectionState = at_ordinal first.ordinal connection state.connections in
        let differs : (one == first.ordinal) ≡ false = differs-where one first.ordinal first.command due first.due in
        let same : new one ≡ state.connections one = other_part state.connections first.ordinal one connection differs in
        let same_then = sym same in
        let none_new : command_for (new one) ≡ None = ap command_for same ∙ due in
        let none_then = sym none_new in
        let is_due : slot_state.command_due (slot_state_handed state handed (Some one)) ≡ None = held-due one there ∙ due in
        let server = slot_state_handed state handed (Some one) in
        let later = map (slot_state_handed state handed) slots in
        let not_due : has_command server ≡ false = ap is_some is_due in
        let before : commands_for state.connections (Some one ∷ slots) ≡ first.command ∷ commands_for new slots =
        λ i. option_to_list (due i) ++ first.commands i in
        let past : with_first has_command (option_map slot_state.slot_without_command) (server ∷ later)
        ≡ server ∷ with_first has_command (option_map slot_state.slot_without_command) later =
        λ i. if not_due i then option_map slot_state.slot_without_command server ∷ later
        else server ∷ with_first has_command (option_map slot_state.slot_without_command) later in
        let own : count_before first.ordinal state.connections (Some one ∷ slots) ≡ 0 + 0 =
        λ i. if differs i then 0 else length (option_to_list (due i)) + first.own i in
        ACommand (record {
          ordinal = first.ordinal;
          command = first.command;
          due = first.due;
          has = or_right (one == first.ordinal) (has_slot first.ordinal slots) first.has;
          found = λ i. option_or (is_due i) (first.found i);
          commands = before ∙ (λ i. first.command ∷ (option_to_list (none_then i) ++ commands_for new slots));
          server = past ∙ (λ i. slot_state_if_there state.shared (same_then i) (handed one) ∷ first.server i);
          own = own;
          others = λ other apart.
              elim (one == other) as (λ (is : Bool). (one == other) ≡ is → Other new (Some one ∷ slots) other) [
                | true ↦ λ here. Without (sym (ap (λ (at : Ordinal). command_for (state.connections at)) (eqb-true one other here)) ∙ due)
                | false ↦ λ not_here.
                    let old_count : count_before other state.connections (Some one ∷ slots) ≡ 0 + count_before other state.connections slots =
                    λ i. if not_here i then 0 else length (option_to_list (due i)) + count_before other state.connections slots in
                    let new_count : count_before other new (Some one ∷ slots) ≡ 0 + count_before other new slots =
                    λ i. if not_here i then 0 else length (option_to_list (none_new i)) + count_before other new slots in
                    behind other old_count new_count (first.others other apart)
              ] refl;
        })
      where
        behind : {new : Ordinal → ConnectionState} (other : Ordinal) → count_before other state.connections (Some one ∷ slots)
            ≡ 0 + count_before other state.connections slots
            → count_before other new (Some one ∷ slots) ≡ 0 + count_before other new slots → Other new slots other → Other new (Some one ∷ slots) other
        behind other old_count new_count (Behind count) = Behind (omega (arith, old_count, new_count, count))
        behind other old_count new_count (Without none) = Without none

    pub search_slots : (next : Ordinal) (slots : Slots) → HaveOneSlotEach next slots → AllThere slots → Search controller slots
    search_slots next [] each there = NoCommand (record { none = refl; commands = refl; each = λ other has. cc has })
    search_slots next (None ∷ slots) each there = past-free slots (search_slots next slots each there)
    search_slots next (Some one ∷ slots) each there =
        let one_there : is_there (state.connections one).mark ≡ true = there one (or_left (one == one) (has_slot one slots) (eq-eqb one one refl)) in
        let later = search_slots next slots each.2 (λ other has. there other (or_right (one == other) (has_slot other slots) has)) in
        elim (command_for (state.connections one)) as (λ due. command_for (state.connections one) ≡ due → Search controller (Some one ∷ slots)) [
          | Some command ↦ λ due. ACommand (here one slots command one_there each.1 due)
          | None ↦ λ due. past-one one slots one_there due later
        ] refl
