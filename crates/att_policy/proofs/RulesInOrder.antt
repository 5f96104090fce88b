-- What is found first among the rules in their order.
use Rattle.std.proofs.Common.{◌≡◌, ◌<◌, Bool, true, false, arith}
use Rattle.std.specs.Prelude.{Option, Some, None}
use Rattle.std.specs.List.{find}
use Rattle.att_policy.specs.declared.guard.Guard.{Guard}
use Rattle.att_policy.specs.declared.policy.Access.{Access}
use Rattle.att_policy.specs.declared.policy.Rule.{Rule}
use Rattle.att_policy.specs.declared.policy.Rule.TheVariants.{HandleExists, Property, Encryption, Authentication, KeySize, SecureConnections, Authorization}
use Rattle.att_policy.specs.declared.standing.Standing.{Standing}
use Rattle.att_policy.specs.Policy.{rules_in_order, rule_place, is_broken, first_broken_rule_of, IsPermitted, IsFirstBroken}

-- where none is found, none passes
none_found : (p : Rule → Bool) → find p rules_in_order ≡ None → (rule : Rule) → p rule ≡ false
none_found p h HandleExists = grind arith
none_found p h Property = grind arith
none_found p h Encryption = grind arith
none_found p h Authentication = grind arith
none_found p h KeySize = grind arith
none_found p h SecureConnections = grind arith
none_found p h Authorization = grind arith

-- what is found passes
found : (p : Rule → Bool) (rule : Rule) → find p rules_in_order ≡ Some rule → p rule ≡ true
found p HandleExists h = grind arith
found p Property h = grind arith
found p Encryption h = grind arith
found p Authentication h = grind arith
found p KeySize h = grind arith
found p SecureConnections h = grind arith
found p Authorization h = grind arith

-- and none before it does
found_first : (p : Rule → Bool) (rule earlier : Rule) → find p rules_in_order ≡ Some rule → rule_place earlier < rule_place rule → p earlier ≡ false
found_first p rule HandleExists h below = grind arith
found_first p rule Property h below = grind arith
found_first p rule Encryption h below = grind arith
found_first p rule Authentication h below = grind arith
found_first p rule KeySize h below = grind arith
found_first p rule SecureConnections h below = grind arith
found_first p rule Authorization h below = grind arith

pub is_permitted : (access : Access) (guard : Option Guard) (standing : Standing) → first_broken_rule_of access guard standing ≡ None
    → IsPermitted access guard standing
is_permitted access guard standing h = none_found (is_broken access guard standing) h

pub is_first_broken : (access : Access) (guard : Option Guard) (standing : Standing) (rule : Rule) → first_broken_rule_of access guard standing ≡ Some rule
    → IsFirstBroken access guard standing rule
is_first_broken access guard standing rule h = record {
  broken = found (is_broken access guard standing) rule h;
  none_before = λ earlier below. found_first (is_broken access guard standing) rule earlier h below;
}
