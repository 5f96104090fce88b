-- A host of which nothing is to go out has all out that its run has.
use Rattle.std.proofs.Common.{◌≡◌, true, List, [], ◌++◌, ap, subst, ◌∙◌, append-nil}
use Rattle.gatt_host.proofs.owing.Owing.{drained_is_done}
use Rattle.gatt_host.specs.GoingOut.{is_drained}
use Rattle.gatt_host.specs.ServerState.{ServerState, open_slots}
use Rattle.gatt_host.specs.Meaning.{IncomingFrames}
use Rattle.gatt_host.specs.RunRefinement.{ServerRefinesRun, IsDrainedIn}
use Rattle.gatt_host.specs.StateRefinement.{RefinesState}
use Rattle.gatt_laws.specs.machine.Input.{Run}
use Rattle.octet_io.specs.Number.{Octets}

module _ (run : Run) (sent : List Octets) (server : ServerState) (frames : IncomingFrames) (is : ServerRefinesRun run sent server frames)
    (drained : is_drained server.controller (open_slots server) ≡ true) where
  none-owed : is.owed ≡ []
  none-owed = (drained_is_done run.intake.state is.owed server.controller (open_slots server) is.refines.owing drained).none

  pub drained_in : IsDrainedIn run server frames
  drained_in = record {
    sound = is.sound;
    refines = subst (λ (owed : List Octets). RefinesState run.intake.state owed server) none-owed is.refines;
    together = is.together;
  }

  pub all_sent : run.sent ≡ sent
  all_sent = is.all ∙ ap (λ (owed : List Octets). sent ++ owed) none-owed ∙ append-nil sent
