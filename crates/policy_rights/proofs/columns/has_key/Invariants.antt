use Rattle.std.proofs.Common.{◌≡◌, drop}
use Rattle.std.specs.List.{list_any}
use Rattle.policy_rights.specs.Columns.{has_key, is_key_of}
use Rattle.policy_rights.proofs.columns.has_key.Given as goal

-- none of those before is one
abbrev pub invariant-loop-at : goal.invariant-loop-at
invariant-loop-at l = has_key l.fn.keys l.fn.peer l.fn.column ≡ list_any (is_key_of l.fn.peer l.fn.column) (drop l.at l.fn.keys)
