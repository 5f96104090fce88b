use Rattle.std.proofs.Common.{◌≡◌, ◌++◌, drop}
use Rattle.std.specs.List.{flat_map}
use Rattle.policy_words.specs.may.Answer.{link_line}
use Rattle.policy_words.proofs.may.add_lines.Given as goal

-- what stands and what is left are all
abbrev pub invariant-loop-link : goal.invariant-loop-link
invariant-loop-link l =
    l.text.items ++ flat_map (link_line l.fn.table.attributes l.fn.question l.fn.is_known) (drop l.link-index l.links)
    ≡ l.fn.text.items ++ flat_map (link_line l.fn.table.attributes l.fn.question l.fn.is_known) l.links
