use Rattle.device_io.specs.Served.{IsDrained}
use Rattle.device_io.proofs.served.write_from.Given as goal

-- Some of what waited was accepted, or nothing yet.
abbrev pub invariant-loop-write : goal.invariant-loop-write
invariant-loop-write l = IsDrained l.fn.now l.fn.outbound l.outbound
