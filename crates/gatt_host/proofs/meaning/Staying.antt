-- What an event leaves of a state: it stays sound, and has as many slots.
use Rattle.std.proofs.Common.{◌≡◌, Some, None, refl}
use Rattle.gatt_host.specs.StateRefinement.{IsSound}
use Rattle.gatt_laws.proofs.invariants.Placed.{stays_placed}
use Rattle.gatt_laws.proofs.invariants.Queued.{IsKept, stays-kept}
use Rattle.gatt_laws.specs.laws.Possible.{Possible}
use Rattle.gatt_laws.specs.machine.Event.{Event, Credit}
use Rattle.gatt_laws.specs.machine.State.{State, change_of, step}

pub stays_sound : (state : State) (event : Event) → Possible (λ table. Unit) state event
    → IsSound state → IsSound (step state event)
stays_sound state event possible sound =
    let slot_state : IsKept (step state event) =
    stays-kept state event possible (record { settled = sound.settled; queued = sound.queued })
    in
    record {
      settled = slot_state.settled;
      queued = slot_state.queued;
      placed =
          stays_placed state event possible sound.placed;
    }

-- how many slots a host was opened with does not change
pub rooms_stay : (state : State) (event : Event) → (step state event).shared.slots ≡ state.shared.slots
unfolding step change_of
rooms_stay state (Credit allowed opcode status (Some init)) = refl
rooms_stay state (Credit allowed opcode status None) = refl
rooms_stay state event = refl
