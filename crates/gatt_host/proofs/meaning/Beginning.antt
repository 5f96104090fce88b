-- A host that has just been opened stands at the start of its run.
use Rattle.std.proofs.Common.{◌≡◌, ℕ, ◌≤◌, List, [], length, slice_get, Option, Some, refl, sym, ap, subst}
use Rattle.gatt_host.proofs.refinement.AtTheStart.{stands_at_the_start, is_always_sound}
use Rattle.gatt_host.specs.ServerState.{ServerState}
use Rattle.gatt_host.specs.Meaning.{IncomingFrames}
use Rattle.gatt_host.specs.RunRefinement.{ServerRefinesRun}
use Rattle.gatt_host.specs.StateRefinement.{IsOpenedAs}
use Rattle.host_api.specs.declared.TheConstants.{MAX_SLOTS}
use Rattle.gatt_laws.specs.machine.Event.{Ordinal}
use Rattle.gatt_laws.specs.machine.Input.{run_at_start, run}
use Rattle.gatt_laws.specs.machine.Start.{Start, state_at, first_out}
use Rattle.host_connections.specs.Arrivals.{no_arrivals}
use Rattle.host_connections.specs.declared.arrivals.Arrivals.{Arrivals}

none-there : (place : ℕ) (ordinal : Ordinal) (slots : List (Option Ordinal)) → slots ≡ [] → slice_get slots place ≡ Some (Some ordinal) → ⊥
none-there place ordinal slots none there = cc (none, there)

pub stands_in_at_the_start : (start : Start) (server : ServerState) (frames : IncomingFrames) → IsOpenedAs start server → start.slots ≤ length frames.assembled
    → frames.arrivals ≡ no_arrivals → start.slots ≤ MAX_SLOTS
    → ServerRefinesRun (run_at_start start) [] server frames
unfolding run
stands_in_at_the_start start server frames opened enough none few = record {
  owed = first_out start;
  all = refl;
  sound = is_always_sound start [];
  refines = stands_at_the_start start server opened;
  together = record {
    there = λ place ordinal there. absurd (none-there place ordinal (state_at start).slots refl there);
    fresh = λ ordinal later. refl;
    enough = enough;
    numbered = record {
      there = λ place ordinal there. absurd (none-there place ordinal (state_at start).slots refl there);
      accepted = ap (λ (arrivals : Arrivals). arrivals.accepted) none;
      enough = subst (λ (arrivals : Arrivals). start.slots ≤ length arrivals.ordinals) (sym none) few;
    };
    timed = record {
      there = λ place ordinal there. absurd (none-there place ordinal (state_at start).slots refl there);
      enough = subst (λ (arrivals : Arrivals). start.slots ≤ length arrivals.heard) (sym none) few;
    };
  };
}
