use Rattle.std.proofs.Common.{◌≡◌, ◌++◌, drop}
use Rattle.device_session.specs.Strangers.{strangers_of}
use Rattle.device_session.proofs.strangers.strangers_of.Given as goal

-- The phones so far and those of the connections that are left are all.
abbrev pub invariant-loop-connection : goal.invariant-loop-connection
invariant-loop-connection l =
    l.strangers.items ++ strangers_of l.known l.now (drop l.connection-index l.keyless.items) ≡ strangers_of l.known l.now l.keyless.items
