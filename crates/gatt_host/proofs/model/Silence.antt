-- A host of which nothing is told any more stands where it stood.
use Rattle.std.proofs.Common.{List}
use Rattle.gatt_host.proofs.refinement.Holding.{stands_without_notices}
use Rattle.gatt_host.specs.ServerState.{ServerState, without_notices}
use Rattle.gatt_host.specs.Meaning.{IncomingFrames}
use Rattle.gatt_host.specs.RunRefinement.{ServerRefinesRun}
use Rattle.gatt_host.specs.HostModel.{RefinesRun, HostModel}
use Rattle.gatt_laws.specs.machine.Input.{Run}
use Rattle.octet_io.specs.Number.{Octets}

-- nothing that a host stands by is changed where nothing is told
pub stands_in_silence : (run : Run) (sent : List Octets) (server : ServerState) (frames : IncomingFrames) → ServerRefinesRun run sent server frames
    → ServerRefinesRun run sent (without_notices server) frames
stands_in_silence run sent server frames is = record {
  owed = is.owed;
  all = is.all;
  sound = is.sound;
  refines = stands_without_notices run.intake.state is.owed server is.refines;
  together = is.together;
}

pub stands_at_in_silence : (run : Run) (sent : List Octets) (host : HostModel) → RefinesRun run sent host
    → RefinesRun run sent (record host { server = without_notices host.server })
stands_at_in_silence run sent host is = record {
  refines = stands_in_silence run sent host.server host.frames is.refines;
  same = is.same;
  stream = is.stream;
}
