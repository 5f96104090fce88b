-- The requirements of reading, by the policy of a value with the property read.
use Rattle.std.proofs.Common.{◌≡◌, Some, refl}
use Rattle.std.specs.Prelude.{option_map}
use Rattle.att_policy.specs.declared.guard.Need.{Need}
use Rattle.att_policy.specs.declared.policy.Access.TheVariants.{Read}
use Rattle.att_policy.specs.declared.standing.Standing.{Standing}
use Rattle.att_policy.specs.declared.guard.TheConstants.Properties.{READ}
use Rattle.att_policy.specs.Policy.{code_of, first_broken_of, first_unmet_rule_of}

-- with the property only the requirements are left
pub unmet : (read write : Need) (standing : Standing) → first_broken_of Read (Some (record { properties = READ; read = read; write = write })) standing
    ≡ option_map (λ rule. (rule, code_of Read standing rule)) (first_unmet_rule_of read standing)
unmet read write standing = refl
