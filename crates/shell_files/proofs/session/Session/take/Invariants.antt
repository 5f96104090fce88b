use Rattle.std.proofs.Common.{◌+◌, ◌≤◌, take}
use Rattle.shell_files.specs.Session.{Passes}
use Rattle.shell_files.proofs.session.Session.take.Given as goal

-- the session has come past the octets so far
abbrev pub invariant-loop-octet : goal.invariant-loop-octet
invariant-loop-octet g l = record {
  passed : Passes l.fn.self l.self (take l.octet-index l.octets) (g.W.Write.contents l.fn.writer) (g.W.Write.contents l.writer);
  counts : l.self.number ≤ l.fn.self.number + l.octet-index;
}
