-- The rights that an expectation gives a link (this profile's own).
use Rattle.std.specs.Prelude.{Bool, false, is_none, Option, Some, None}
use Rattle.att_policy.specs.declared.guard.Need.{Need}
use Rattle.att_policy.specs.declared.standing.Standing.{Standing}
use Rattle.att_policy.specs.Policy.{first_unmet_rule_of}
use Rattle.policy_rights.specs.declared.rights.Right.{Right}
use Rattle.policy_expectations.specs.declared.expectation.Expectation.{Expectation}

-- The need of a use; without one the use is for nobody.
abbrev pub meant_for : Expectation → Right → Option Need
meant_for expected Right.Read = expected.read
meant_for expected Right.Write = expected.write
meant_for expected Right.Command = expected.command
meant_for expected Right.Notify = expected.notify
meant_for expected Right.Indicate = expected.indicate
meant_for expected Right.Subscribe = expected.subscribe

-- A connection is meant to have a right exactly if it meets each rule of the need.
abbrev pub is_meant : Option Need → Standing → Bool
is_meant None standing = false
is_meant (Some need) standing = is_none (first_unmet_rule_of need standing)
