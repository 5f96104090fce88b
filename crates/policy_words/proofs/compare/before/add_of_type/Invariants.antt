use Rattle.std.proofs.Common.{◌≡◌, ◌++◌, drop}
use Rattle.std.specs.List.{flat_map}
use Rattle.policy_words.specs.compare.Before.{handle_of_type}
use Rattle.policy_words.proofs.compare.before.add_of_type.Given as goal

-- those so far and those that are left are all
abbrev pub invariant-loop-attr : goal.invariant-loop-attr
invariant-loop-attr l =
    l.handles.items ++ flat_map (handle_of_type l.fn.kind) (drop l.attr-index l.attributes)
    ≡ l.fn.handles.items ++ flat_map (handle_of_type l.fn.kind) l.attributes
