-- What goes out of a host is the first of what it owes.
use Rattle.std.proofs.Common.{◌≡◌, ℕ, Bool, true, false, suc, IfSome, List, [], ◌∷◌, ◌++◌, length, Option, Some, None, refl, sym, ap, subst, ◌∙◌, append_assoc, append-nil}
use Rattle.std.specs.Prelude.{if◌then◌else◌, is_none, is_some, not, take, ◌||◌}
use Rattle.std.specs.Bool.{OnFalse, OnTrue}
use Rattle.std.specs.Option.{option_map}
use Rattle.gatt_host.proofs.owing.Owing.{is_drained_where_nothing_goes_out, rest_is_owed}
use Rattle.gatt_host.specs.GoingOut.{command_next, init_command, is_drained, slots_commanded, slots_then, with_first}
use Rattle.gatt_host.specs.ServerState.{ServerState, after_out, next_packet_out, open_slots}
use Rattle.gatt_host.specs.Meaning.{IncomingFrames}
use Rattle.gatt_host.specs.Owing.{IsOwing, OwesTheRest}
use Rattle.gatt_host.specs.RunRefinement.{ServerRefinesRun}
use Rattle.gatt_host.specs.StateRefinement.{RefinesState}
use Rattle.gatt_host.proofs.model.Items.{reached_by}
use Rattle.gatt_host.proofs.model.Ready.{ready_then}
use Rattle.gatt_host.specs.declared.host_fault.HostFault.{HostFault}
use Rattle.gatt_host.specs.HostModel.{all_out, HoldsStream, IsReached, Refines, SameFault, RefinesRun, HostModel}
use Rattle.le_h4.specs.Deframer.{Deframing}
use Rattle.gatt_laws.specs.machine.Controller.{Controller, is_ready}
use Rattle.gatt_laws.specs.machine.Input.{Run, Item, run}
use Rattle.gatt_laws.specs.machine.State.{State}
use Rattle.host_connections.specs.Commands.{gives, slot_without_command, slot_without_packet, has_command}
use Rattle.host_connections.specs.SlotState.{SlotState}
use Rattle.octet_io.specs.Number.{Octets}

abbrev none : List (Option SlotState)
none = []

-- no slot comes or goes
first-length : {A : Type 0} (test : A → Bool) (change : A → A) (xs : List A) → length (with_first test change xs) ≡ length xs
first-length test change [] = refl
first-length test change (x ∷ xs) =
    elim (test x) as (λ (passes : Bool). length (if passes then change x ∷ xs else x ∷ with_first test change xs) ≡ length (x ∷ xs)) [
      | true ↦ refl
      | false ↦ ap suc (first-length test change xs)
    ]

commanded-length : (controller : Controller) (slots : List (Option SlotState)) → length (slots_commanded controller slots) ≡ length slots
commanded-length controller slots =
    elim (is_some (init_command controller)) as
    (λ (initial : Bool). length (if initial then slots else with_first has_command (option_map slot_without_command) slots) ≡ length slots) [
      | true ↦ refl
      | false ↦ first-length has_command (option_map slot_without_command) slots
    ]

then-length : (controller : Controller) (slots : List (Option SlotState)) → length (slots_then controller slots) ≡ length slots
then-length controller slots =
    elim (is_some (command_next controller slots)) as
    (λ (commands : Bool). length (if commands then slots_commanded controller slots else with_first gives (option_map slot_without_packet) slots)
    ≡ length slots) [
      | true ↦ commanded-length controller slots
      | false ↦ first-length gives (option_map slot_without_packet) slots
    ]

none-then : (controller : Controller) → slots_then controller [] ≡ []
none-then controller = either (is_some (command_next controller [])) (is_some (init_command controller))
  where
    either : (commands initial : Bool) → (if commands then (if initial then none else none) else none) ≡ none
    either true true = refl
    either true false = refl
    either false initial = refl

opened-then : (server : ServerState) (ready : Bool)
    → (if ready then (if ready then slots_then server.controller server.slots else server.slots) else [])
    ≡ slots_then server.controller (if ready then server.slots else [])
opened-then server true = refl
opened-then server false = sym (none-then server.controller)

open-then : (server : ServerState) → open_slots (after_out server) ≡ slots_then server.controller (open_slots server)
open-then server =
    ap (λ (ready : Bool). if ready then (after_out server).slots else []) (ready_then server.controller (open_slots server))
    ∙ opened-then server (is_ready server.controller)

-- whether the controller is initialised does not depend on what is owed
final-ready : (final : State) (owed : List Octets) (controller : Controller) (slots : List (Option SlotState)) → IsOwing final owed controller slots
    → is_ready final.controller ≡ is_ready controller
final-ready final owed controller slots owing =
    sym (ap (λ (state : State). is_ready state.controller) owing.arrives) ∙ sym (ap (λ (known : Controller). is_ready known) owing.controller_is)

slots-where : (server : ServerState) → is_ready server.controller ≡ false → (after_out server).slots ≡ server.slots
slots-where server early = ap (λ (ready : Bool). if ready then slots_then server.controller server.slots else server.slots) early

same-length : (server : ServerState) → length (after_out server).slots ≡ length server.slots
same-length server =
    elim (is_ready server.controller) as (λ (ready : Bool). length (if ready then slots_then server.controller server.slots else server.slots)
    ≡ length server.slots) [
      | true ↦ then-length server.controller server.slots
      | false ↦ refl
    ]

module _ (old new : HostModel) (octets : Octets) (next : next_packet_out old.server ≡ Some octets) (is_after : new.server ≡ after_out old.server) where
  stands-out : (state : State) (owed : List Octets) → RefinesState state owed old.server
      → (rest : OwesTheRest state owed octets (after_out old.server).controller (open_slots (after_out old.server)))
      → RefinesState state rest.others (after_out old.server)
  stands-out state owed refines rest =
      let same : is_ready state.controller ≡ is_ready old.server.controller = final-ready state owed old.server.controller (open_slots old.server) refines.owing
      in
      record {
        table = refines.table;
        changer = refines.changer;
        keys = refines.keys;
        rx_mtu = refines.rx_mtu;
        time = refines.time;
        buffers = refines.buffers;
        rows = refines.rows;
        keyed = refines.keyed;
        free = λ early. slots-where old.server (sym same ∙ early) ∙ refines.free early;
        ready = λ ready. same-length old.server ∙ refines.ready ready;
        owing = rest.owing;
      }

  goes : (state : State) (owed : List Octets) → RefinesState state owed old.server
      → OwesTheRest state owed octets (after_out old.server).controller (open_slots (after_out old.server))
  goes state owed refines =
      rest_is_owed state owed octets old.server.controller (after_out old.server).controller (open_slots old.server) (open_slots (after_out old.server))
      refines.owing next refl (open-then old.server)

  pub goes_out : new.frames ≡ old.frames → new.stream ≡ old.stream → new.fault ≡ old.fault → Refines [] (octets ∷ []) old new
  goes_out frames stream fault start input sent is =
      let at_run : Run = run start input in
      let rest = goes at_run.intake.state is.refines.owed is.refines.refines in
      let server : ServerRefinesRun at_run (sent ++ octets ∷ []) (after_out old.server) old.frames = record {
        owed = rest.others;
        all = is.refines.all ∙ ap (λ (owed : List Octets). sent ++ owed) rest.first ∙ sym (append_assoc sent (octets ∷ []) rest.others);
        sound = is.refines.sound;
        refines = stands-out at_run.intake.state is.refines.owed is.refines.refines rest;
        together = is.refines.together;
      } in
      subst (λ (items : List Item). RefinesRun (run start items) (sent ++ octets ∷ []) new) (sym (append-nil input))
      (record {
        refines = subst (λ (slot_state : IncomingFrames). ServerRefinesRun at_run (sent ++ octets ∷ []) new.server slot_state) (sym frames)
            (subst (λ (slot_state : ServerState). ServerRefinesRun at_run (sent ++ octets ∷ []) slot_state old.frames) (sym is_after) server);
        same = subst (λ (why : Option HostFault). SameFault at_run.intake.fault why) (sym fault) is.same;
        stream = subst (λ (slot_state : Deframing). HoldsStream at_run slot_state) (sym stream) is.stream;
      })

-- something goes out just where not all is out
not-none : {A : Type 0} (found : Option A) → is_some found ≡ not (is_none found)
not-none None = refl
not-none (Some x) = refl

pub goes_where_not_out : (old : HostModel) → IsReached old → old.fault ≡ None → is_some (next_packet_out old.server) ≡ not (all_out old)
goes_where_not_out old reached none =
    let at_run : Run = run reached.start reached.input in
    let owing = reached.refines.refines.refines.owing in
    not-none (next_packet_out old.server)
    ∙ sym (ap not (is_drained_where_nothing_goes_out at_run.intake.state reached.refines.refines.owed old.server.controller (open_slots old.server) owing))
    ∙ sym (ap (λ (fault : Option HostFault). not (is_some fault || is_drained old.server.controller (open_slots old.server))) none)

-- and the host is reached then, whether anything goes out or not
pub reached_out : (old new : HostModel) (goes : Bool) (octets : Octets) → IsReached old → OnTrue goes (next_packet_out old.server ≡ Some octets)
    → new.server ≡ after_out old.server
    → OnFalse goes (new.server ≡ old.server) → new.frames ≡ old.frames → new.stream ≡ old.stream → new.fault ≡ old.fault → IsReached new
reached_out old new true octets reached next is_after stays frames stream fault =
    reached_by [] (octets ∷ []) old new reached (goes_out old new octets next is_after frames stream fault)
reached_out old new false octets reached next is_after stays frames stream fault =
    subst IsReached (λ i. record { server = sym stays i; frames = sym frames i; stream = sym stream i; fault = sym fault i }) reached

-- the same of a packet at the front of a buffer, by its length
abbrev pub Fronts : HostModel → Option ℕ → Octets → Type 0
Fronts old count out = IfSome count (λ count. next_packet_out old.server ≡ Some (take count out))

pub reached_into : (old new : HostModel) (count : Option ℕ) (out : Octets) → IsReached old → Fronts old count out → new.server ≡ after_out old.server
    → (count ≡ None → new.server ≡ old.server) → new.frames ≡ old.frames → new.stream ≡ old.stream → new.fault ≡ old.fault → IsReached new
reached_into old new (Some count) out reached next is_after stays frames stream fault =
    reached_out old new true (take count out) reached next is_after tt frames stream fault
reached_into old new None out reached next is_after stays frames stream fault =
    reached_out old new false [] reached tt is_after (stays refl) frames stream fault

pub goes_into : (old new : HostModel) (count : Option ℕ) (out : Octets) → Fronts old count out → new.server ≡ after_out old.server
    → new.frames ≡ old.frames → new.stream ≡ old.stream → new.fault ≡ old.fault → IfSome count (λ count. Refines [] (take count out ∷ []) old new)
goes_into old new (Some count) out next is_after frames stream fault = goes_out old new (take count out) next is_after frames stream fault
goes_into old new None out next is_after frames stream fault = tt
