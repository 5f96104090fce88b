use Rattle.host_tests.proofs.recorded.serve_each.Given as goal
use Rattle.device_loop.specs.Turn.{SavedFirst}
use Rattle.host_tests.specs.Reached.{IsInARun}

abbrev pub invariant-loop-turn : goal.invariant-loop-turn
invariant-loop-turn g l = record {
  run : IsInARun l.host;
  order : SavedFirst l.device.history.entries;
}
