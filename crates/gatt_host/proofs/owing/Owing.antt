-- What goes out next is the first of what is owed.
use Rattle.std.proofs.Common.{[], ◌≡◌, ◌≢◌, ◌+◌, Bool, true, false, List, ◌∷◌, ◌++◌, map, Option, Some, None, refl, sym, ap, subst, ◌∙◌}
use Rattle.std.specs.Prelude.{is_some, is_none, ◌&&◌, ◌==◌, not, if◌then◌else◌}
use Rattle.std.specs.List.{flat_map, list_any}
use Rattle.std.specs.Option.{option_map, option_or}
use Rattle.std.proofs.lemmas.Bool.{eqb-true}
use Rattle.gatt_host.proofs.commands.Commands.{Facts}
use Rattle.gatt_host.proofs.commands.CommandsFirst.{Quiet, CommandGoes, NoneGoes, commanding}
use Rattle.gatt_host.proofs.owing.Nexts.{is_none_where, packet_next, then_controller, there_where}
use Rattle.gatt_host.proofs.packets.Packets.{NoPacket, APacket, NonePacket, OnePacket, search_packets, with_handed}
use Rattle.gatt_host.specs.GoingOut.{with_first, command_next, first_slot_packet, next_out, is_drained, controller_then, slots_commanded, slots_then}
use Rattle.gatt_host.specs.Owing.{Handed, IsPartway, slot_states_handed, slot_left, left_of, all_given, IsOwing, IsAllSent, OwesTheRest, SendsTheFirst, SendsTheNext, HandsOutWhatIsOwed, IsDrainedWhereNothingGoesOut}
use Rattle.gatt_laws.specs.machine.Controller.{Controller}
use Rattle.gatt_laws.specs.machine.Event.{Ordinal}
use Rattle.gatt_laws.specs.machine.State.{State, command_octets, with_commands_sent}
use Rattle.host_connections.specs.Commands.{gives, slot_without_packet}
use Rattle.host_connections.specs.SlotState.{SlotState}
use Rattle.le_hci.specs.Command.{Commanded}
use Rattle.octet_io.specs.Number.{Octets}

module _ (state : State) (handed : Handed) (facts : Facts state handed) where
  abbrev Goes : Option Octets → Type 0
  Goes found = SendsTheNext (with_commands_sent state) (left_of state handed) state.controller (slot_states_handed state handed) found

  -- a command
  command-out : (command : Commanded) → command_next state.controller (slot_states_handed state handed) ≡ Some command
      → next_out state.controller (slot_states_handed state handed) ≡ Some (command_octets command)
  command-out command next = ap (λ due. option_or (option_map command_octets due) (first_slot_packet (slot_states_handed state handed))) next

  -- no command
  packet-out : Quiet state handed facts → (found : Option Octets) → first_slot_packet (slot_states_handed state handed) ≡ found
      → next_out state.controller (slot_states_handed state handed) ≡ found
  packet-out quiet found is = packet_next state.controller (slot_states_handed state handed) quiet.next ∙ is

  done : Quiet state handed facts → NonePacket state handed state.slots → IsAllSent (with_commands_sent state) (left_of state handed) state.controller
      (slot_states_handed state handed)
  done quiet none = record {
    none = λ i. map command_octets (quiet.none i) ++ none.left i;
    controller_is = sym (ap (λ (at : State). at.controller) quiet.still);
    slots_are = none.server ∙ sym (ap (λ (at : State). slot_states_handed at (all_given at)) quiet.still);
  }

  packet-goes : Quiet state handed facts → (first : OnePacket state handed state.slots)
      → SendsTheFirst (with_commands_sent state) (left_of state handed) state.controller (slot_states_handed state handed) first.octets
  packet-goes quiet first =
      let new : Handed = with_handed state handed first.ordinal in
      let later = flat_map (slot_left state new) state.slots in
      let before : left_of state handed ≡ first.octets ∷ later = λ i. map command_octets (quiet.none i) ++ first.left i in
      let after : left_of state new ≡ later = λ i. map command_octets (quiet.none i) ++ later in
      record {
        others = left_of state new;
        first = before ∙ ap (λ others. first.octets ∷ others) (sym after);
        owing = record {
          state = state;
          handed = new;
          settled = facts.settled;
          placed = facts.placed;
          partway = λ ordinal has.
              elim (ordinal == first.ordinal) as (λ (is : Bool). (ordinal == first.ordinal) ≡ is
              → IsPartway state.shared (state.connections ordinal) (if is then handed first.ordinal + 1 else handed ordinal)) [
                | true ↦ λ is.
                    subst (λ (at : Ordinal). IsPartway state.shared (state.connections at) (handed first.ordinal + 1)) (sym (eqb-true ordinal first.ordinal is))
                    first.way
                | false ↦ λ differs. facts.partway ordinal has
              ] refl;
          arrives = refl;
          owes = refl;
          controller_is = then_controller state.controller (slot_states_handed state handed) None quiet.next;
          slots_are = (λ i. if is_some (quiet.next i) then slots_commanded state.controller (slot_states_handed state handed)
              else with_first gives (option_map slot_without_packet) (slot_states_handed state handed)) ∙ first.server;
        };
      }

  goes-on : Goes (next_out state.controller (slot_states_handed state handed))
  goes-on = elim (commanding state handed facts) [
    | CommandGoes command next first ↦ subst Goes (sym (command-out command next)) first
    | NoneGoes quiet ↦ elim (search_packets state handed state.next state.slots facts.settled.slots facts.placed.there facts.partway) [
      | NoPacket none ↦ subst Goes (sym (packet-out quiet None none.none)) (done quiet none)
      | APacket first ↦ subst Goes (sym (packet-out quiet (Some first.octets) first.found)) (packet-goes quiet first)
    ]
  ]

  -- whether anything goes out
  drained-by : (next : Option Commanded) (any : Bool) (found : Option Octets) → command_next state.controller (slot_states_handed state handed) ≡ next
      → list_any gives (slot_states_handed state handed) ≡ any → next_out state.controller (slot_states_handed state handed) ≡ found → (is_none next && not any)
      ≡ is_none found
      → is_drained state.controller (slot_states_handed state handed) ≡ is_none (next_out state.controller (slot_states_handed state handed))
  drained-by next any found commands packets out same = (λ i. is_none (commands i) && not (packets i)) ∙ same ∙ sym (ap is_none out)

  drained : is_drained state.controller (slot_states_handed state handed) ≡ is_none (next_out state.controller (slot_states_handed state handed))
  drained = elim (commanding state handed facts) [
    | CommandGoes command next first ↦ drained-by (Some command) (list_any gives (slot_states_handed state handed)) (Some (command_octets command)) next refl
        (command-out command next) refl
    | NoneGoes quiet ↦ elim (search_packets state handed state.next state.slots facts.settled.slots facts.placed.there facts.partway) [
      | NoPacket none ↦ drained-by None false None quiet.next none.any (packet-out quiet None none.none) refl
      | APacket first ↦ drained-by None true (Some first.octets) quiet.next first.any (packet-out quiet (Some first.octets) first.found) refl
    ]
  ]

facts-of : (final : State) (owed : List Octets) (controller : Controller) (slots : List (Option SlotState)) (owing : IsOwing final owed controller slots)
    → Facts owing.state owing.handed
facts-of final owed controller slots owing = record { settled = owing.settled; placed = owing.placed; partway = owing.partway }

pub hands_out_what_is_owed : HandsOutWhatIsOwed
hands_out_what_is_owed final owed controller slots owing =
    let state : State = owing.state in
    let server = slot_states_handed state owing.handed in
    let left = left_of state owing.handed in
    let at_state : SendsTheNext (with_commands_sent state) left state.controller server (next_out state.controller server) =
    goes-on state owing.handed (facts-of final owed controller slots owing) in
    let with_slots : SendsTheNext (with_commands_sent state) left state.controller slots (next_out state.controller slots) =
    subst (λ slot_state. SendsTheNext (with_commands_sent state) left state.controller slot_state (next_out state.controller slot_state))
    (sym owing.slots_are) at_state in
    let with_controller : SendsTheNext (with_commands_sent state) left controller slots (next_out controller slots) =
    subst (λ told. SendsTheNext (with_commands_sent state) left told slots (next_out told slots)) (sym owing.controller_is) with_slots in
    let with_owed : SendsTheNext (with_commands_sent state) owed controller slots (next_out controller slots) =
    subst (λ octets. SendsTheNext (with_commands_sent state) octets controller slots (next_out controller slots)) (sym owing.owes) with_controller in
    subst (λ end. SendsTheNext end owed controller slots (next_out controller slots)) owing.arrives with_owed

pub is_drained_where_nothing_goes_out : IsDrainedWhereNothingGoesOut
is_drained_where_nothing_goes_out final owed controller slots owing =
    let now = drained owing.state owing.handed (facts-of final owed controller slots owing) in
    (λ i. is_drained (owing.controller_is i) (owing.slots_are i)) ∙ now ∙ sym (λ i. is_none (next_out (owing.controller_is i) (owing.slots_are i)))

-- the same by what is so afterwards
pub rest_is_owed : (final : State) (owed : List Octets) (octets : Octets) (old new : Controller) (before after : List (Option SlotState))
    → IsOwing final owed old before
    → next_out old before ≡ Some octets → new ≡ controller_then old before → after ≡ slots_then old before → OwesTheRest final owed octets new after
rest_is_owed final owed octets old new before after owing goes controllers slots =
    let first : OwesTheRest final owed octets (controller_then old before) (slots_then old before) =
    subst (SendsTheNext final owed old before) goes (hands_out_what_is_owed final owed old before owing) in
    record {
      others = first.others;
      first = first.first;
      owing = subst (λ told. IsOwing final first.others told after) (sym controllers)
          (subst (λ server. IsOwing final first.others (controller_then old before) server) (sym slots) first.owing);
    }

pub none_is_owed : (final : State) (owed : List Octets) (controller : Controller) (slots : List (Option SlotState)) → IsOwing final owed controller slots
    → is_some (next_out controller slots) ≡ false → IsAllSent final owed controller slots
none_is_owed final owed controller slots owing none =
    subst (SendsTheNext final owed controller slots) (is_none_where (next_out controller slots) none) (hands_out_what_is_owed final owed controller slots owing)

some-where : {A : Type 0} (found : Option A) → is_none found ≡ false → is_some found ≡ true
some-where (Some x) is = refl
some-where None is = sym is

none-where : {A : Type 0} (found : Option A) → is_none found ≡ true → is_some found ≡ false
none-where None is = refl
none-where (Some x) is = sym is

pub drained_is_done : (final : State) (owed : List Octets) (controller : Controller) (slots : List (Option SlotState)) → IsOwing final owed controller slots
    → is_drained controller slots ≡ true → IsAllSent final owed controller slots
drained_is_done final owed controller slots owing is =
    none_is_owed final owed controller slots owing
    (none-where (next_out controller slots) (sym (is_drained_where_nothing_goes_out final owed controller slots owing) ∙ is))

pub some_is_owed : (final : State) (owed : List Octets) (controller : Controller) (slots : List (Option SlotState)) → IsOwing final owed controller slots
    → is_drained controller slots ≡ false → owed ≢ []
some_is_owed final owed controller slots owing is =
    let found = there_where (next_out controller slots)
    (some-where (next_out controller slots) (sym (is_drained_where_nothing_goes_out final owed controller slots owing) ∙ is)) in
    let first : SendsTheNext final owed controller slots (Some found.x) =
    subst (SendsTheNext final owed controller slots) found.is (hands_out_what_is_owed final owed controller slots owing) in
    λ none. some-none (sym first.first ∙ none)
  where
    some-none : {A : Type 0} {x : A} {xs : List A} → x ∷ xs ≡ [] → ⊥
    some-none e = cc e
