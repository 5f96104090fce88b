use Rattle.std.proofs.Common.{◌≡◌, length, take, drop}
use Rattle.att_numbers.specs.Types.{Row}
use Rattle.att_policy.specs.declared.policy.Access.TheVariants.{Write}
use Rattle.att_writes.specs.Applied.{Stored, stored_in}
use Rattle.att_writes.specs.Queue.{entries_in, sizes_of}
use Rattle.att_writes.proofs.Reached.{IsReached}
use Rattle.att_writes.proofs.execution.first_refused.Given as goal

-- the entries so far are judged, and the octets that are left are those of the others
abbrev pub invariant-loop-index : goal.invariant-loop-index
invariant-loop-index l = record {
  sizes : sizes_of (drop l.index l.places) ≡ length l.rest;
  reached : (row : Row) → (by : Stored) × IsReached Write l.table.attributes l.standing (stored_in l.table row) (entries_in l.places l.octets)
      (entries_in (drop l.index l.places) l.rest) (take l.index l.places) by;
}
