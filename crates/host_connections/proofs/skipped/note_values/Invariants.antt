use Rattle.std.proofs.Common.{◌≡◌, ◌++◌, Bool, drop, map}
use Rattle.att_numbers.specs.Types.{Handle}
use Rattle.host_connections.specs.Skips.{skip_of, skips_by, wants_notification}
use Rattle.host_connections.proofs.skipped.note_values.Given as goal

abbrev pub invariant-loop-attribute : goal.invariant-loop-attribute
invariant-loop-attribute l =
    let wants : Handle → Bool = wants_notification l.table.attributes l.pending l.row l.standing in
    l.skipped.items ++ map (skip_of l.connection) (skips_by wants l.backlog (drop l.attribute-index l.handles))
    ≡ l.fn.skipped.items ++ map (skip_of l.connection) (skips_by wants l.queued l.handles)
