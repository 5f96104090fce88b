use Rattle.std.proofs.Common.{◌≡◌}
use Rattle.toml.specs.View.{members_view}
use Rattle.policy_expectations.specs.File.{are_known}
use Rattle.policy_expectations.proofs.document.are_known.Given as goal

abbrev pub invariant-members : goal.invariant-members
invariant-members l = are_known l.level (members_view l.name-iterator) ≡ are_known l.level (members_view l.table.entries)
