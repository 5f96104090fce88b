-- A command that is answered leads a host on: once the controller is initialised, its slots are opened.
use Rattle.std.proofs.Common.{◌≡◌, ℕ, ◌≤◌, zero, suc, Bool, true, false, [], ◌∷◌, map, length, take, Option, Some, None, refl, sym, ap, ◌∙◌, arith}
use Rattle.std.specs.Prelude.{is_none, replicate, if◌then◌else◌, ◌&&◌}
use Rattle.gatt_host.proofs.owing.Nexts.{clash}
use Rattle.gatt_host.proofs.refinement.ForAll.{slots_same}
use Rattle.gatt_host.proofs.refinement.Holding.{Holds, ends, holds}
use Rattle.gatt_host.specs.Answers.{answered_by}
use Rattle.gatt_host.specs.ServerState.{ServerState, server_after_command_complete, opened}
use Rattle.gatt_host.specs.Owing.{Handed, all_given, slot_state_handed}
use Rattle.gatt_host.specs.StateRefinement.{RefinesStep, RefinesState, IsSound}
use Rattle.gatt_laws.specs.laws.Possible.{Possible}
use Rattle.gatt_laws.specs.machine.Controller.{Controller, Slots, is_ready}
use Rattle.gatt_laws.specs.machine.Event.{Credit}
use Rattle.gatt_laws.specs.machine.Notice.{event_told}
use Rattle.gatt_laws.specs.machine.State.{State, change_of, is_refusal, slots_when_ready}
use Rattle.le_acl.specs.Shares.{usable}
use Rattle.le_hci.specs.declared.init.Init.{Init}
use Rattle.le_hci.specs.declared.init.Init.TheVariants.{Ready}
use Rattle.le_hci.specs.Init.{command_awaited}
use Rattle.le_hci.specs.InitTold.{told_in}

-- an answer that is not awaited leaves the state of initialisation
same-init : (controller : Controller) (allowed opcode : ℕ) (status : Option ℕ) → (answered_by controller allowed opcode status None).init ≡ controller.init
same-init controller allowed opcode status =
    elim (is_ready controller && is_refusal opcode status) as (λ (refused : Bool).
    (if refused then record controller { credit = allowed; advertising = false; refused = true } else record controller { credit = allowed }).init
    ≡ controller.init) [
      | true ↦ refl
      | false ↦ refl
    ]

same-ready : (controller : Controller) (allowed opcode : ℕ) (status : Option ℕ) → is_ready (answered_by controller allowed opcode status None)
    ≡ is_ready controller
same-ready controller allowed opcode status = ap (λ (init : Init). is_none (command_awaited init)) (same-init controller allowed opcode status)

-- slots that are free
free-length : {A : Type 0} (count : ℕ) (x : A) → length (replicate count x) ≡ count
free-length zero x = refl
free-length (suc count) x = ap (λ (n : ℕ). suc n) (free-length count x)

free-taken : {A : Type 0} (count most : ℕ) (x : A) → count ≤ most → take count (replicate most x) ≡ replicate count x
free-taken zero most x below = refl
free-taken (suc count) zero x below = absurd (omega (arith, below))
free-taken (suc count) (suc most) x below = ap (λ xs. x ∷ xs) (free-taken count most x (omega (arith, below)))

free-held : (state : State) (handed : Handed) (count : ℕ) → map (slot_state_handed state handed) (replicate count None) ≡ replicate count None
free-held state handed zero = refl
free-held state handed (suc count) = ap (λ slots. None ∷ slots) (free-held state handed count)

module _ (state : State) (server : ServerState) (allowed opcode : ℕ) (status : Option ℕ) (sound : IsSound state) (stood : RefinesState state [] server) where
  is : Holds state (all_given state) server
  is = holds state server stood

  abbrev answered : Option Init → ServerState
  answered following = record server { controller = answered_by server.controller allowed opcode status following; slots = opened following server.slots }

  -- it was not awaited
  other-holds : Holds (change_of state (Credit allowed opcode status None)).state (all_given state) (answered None)
  unfolding change_of
  other-holds =
      let new : State = (change_of state (Credit allowed opcode status None)).state in
      record {
        table = is.table;
        changer = is.changer;
        keys = is.keys;
        rx_mtu = is.rx_mtu;
        time = is.time;
        buffers = is.buffers ∙ ap told_in (sym (same-init state.controller allowed opcode status));
        rows = is.rows;
        keyed = is.keyed;
        controller = ap (λ (controller : Controller). answered_by controller allowed opcode status None) is.controller;
        free = λ early. is.free (sym (same-ready state.controller allowed opcode status) ∙ early);
        ready = λ ready. is.ready (sym (same-ready state.controller allowed opcode status) ∙ ready);
        slots = ap (λ (ready : Bool). if ready then server.slots else []) (same-ready server.controller allowed opcode status)
            ∙ is.slots ∙ slots_same state new (all_given state) (λ ordinal. refl) state.slots;
      }

  other-leads : RefinesStep state (Credit allowed opcode status None) (server_after_command_complete allowed opcode status None server)
  unfolding change_of event_told
  other-leads =
      ends state (Credit allowed opcode status None) sound tt (answered None) other-holds None [] [] (λ place ordinal there found slot_state. refl) refl

  -- it was, and another command is awaited then
  module _ (early : is_ready state.controller ≡ false) where
    awaiting-holds : (init : Init) → is_none (command_awaited init) ≡ false → opened (Some init) server.slots ≡ server.slots
        → slots_when_ready state.shared.slots init state.slots ≡ state.slots
        → Holds (change_of state (Credit allowed opcode status (Some init))).state (all_given state) (answered (Some init))
    unfolding change_of
    awaiting-holds init awaits same same' =
        let new : State = (change_of state (Credit allowed opcode status (Some init))).state in
        record {
          table = is.table;
          changer = is.changer;
          keys = is.keys;
          rx_mtu = is.rx_mtu;
          time = is.time;
          buffers = refl;
          rows = is.rows;
          keyed = is.keyed;
          controller = ap (λ (controller : Controller). answered_by controller allowed opcode status (Some init)) is.controller;
          free = λ still. same ∙ is.free early;
          ready = λ ready. absurd (clash (sym awaits ∙ ready));
          slots = ap (λ (ready : Bool). if ready then opened (Some init) server.slots else []) awaits
              ∙ sym (ap (λ (slots : Slots). map (slot_state_handed new (all_given state)) slots) (same' ∙ sound.settled.early early));
        }

    -- the controller is initialised
    ready-holds : (told packets : ℕ) → Holds (change_of state (Credit allowed opcode status (Some (Ready told packets)))).state (all_given state)
        (answered (Some (Ready told packets)))
    unfolding change_of
    ready-holds told packets =
        let new : State = (change_of state (Credit allowed opcode status (Some (Ready told packets)))).state in
        let count : ℕ = usable state.shared.slots packets in
        let all : length server.slots ≡ state.shared.slots = ap (λ slots. length slots) (is.free early) ∙ free-length state.shared.slots None in
        let opens : take (usable (length server.slots) packets) server.slots ≡ replicate count None =
        (λ i. take (usable (all i) packets) (is.free early i)) ∙ free-taken count state.shared.slots None (omega arith) in
        record {
          table = is.table;
          changer = is.changer;
          keys = is.keys;
          rx_mtu = is.rx_mtu;
          time = is.time;
          buffers = refl;
          rows = is.rows;
          keyed = is.keyed;
          controller = ap (λ (controller : Controller). answered_by controller allowed opcode status (Some (Ready told packets))) is.controller;
          free = λ still. absurd (clash (sym still));
          ready = λ ready. ap (λ slots. length slots) opens ∙ free-length count None;
          slots = opens ∙ sym (free-held new (all_given state) count);
        }

    next-holds : (init : Init) → Holds (change_of state (Credit allowed opcode status (Some init))).state (all_given state) (answered (Some init))
    next-holds (Ready told packets) = ready-holds told packets
    next-holds init = awaiting-holds init refl refl refl

    next-leads : (init : Init)
        → RefinesStep state (Credit allowed opcode status (Some init)) (server_after_command_complete allowed opcode status (Some init) server)
    unfolding change_of event_told
    next-leads init =
        ends state (Credit allowed opcode status (Some init)) sound early (answered (Some init)) (next-holds init) None [] []
        (λ place ordinal there found slot_state. refl) refl

pub answer_leads : (state : State) (server : ServerState) (allowed opcode : ℕ) (status : Option ℕ) (following : Option Init) → IsSound state
    → RefinesState state [] server → Possible (λ table. Unit) state (Credit allowed opcode status following)
    → RefinesStep state (Credit allowed opcode status following) (server_after_command_complete allowed opcode status following server)
answer_leads state server allowed opcode status None sound stood possible = other-leads state server allowed opcode status sound stood
answer_leads state server allowed opcode status (Some init) sound stood early = next-leads state server allowed opcode status sound stood early init
