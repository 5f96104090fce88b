use Rattle.std.proofs.Common.{◌+◌, ◌≤◌, length}
use Rattle.std.specs.Io.KnownBytes.{Consumes}
use Rattle.shell_files.proofs.input.read_into.Given as goal

-- what was read is kept, and the last read has at most 512 bytes
abbrev pub invariant-loop-read : goal.invariant-loop-read
invariant-loop-read g l = record {
  kept : Consumes (g.R.Read.remaining l.fn.reader) (g.R.Read.remaining l.reader) l.octets.items;
  bounded : length l.octets.items ≤ l.most + 512;
}
