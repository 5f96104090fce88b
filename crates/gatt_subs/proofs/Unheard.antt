-- Of what is no value that is told, nobody hears.
use Rattle.std.proofs.Common.{◌≡◌, ℕ, Bool, true, false, ◌&&◌, ◌==◌, not, Option, Some, None, refl, ap, ◌∙◌, arith}
use Rattle.std.proofs.lemmas.Bool.Decides.{nat_tests}
use Rattle.std.specs.Prelude.{cond, is_none, nat_lt}
use Rattle.std.specs.Int.Bits.{and_zero_r}
use Rattle.std.specs.Int.RustNames.{bit_and}
use Rattle.att_policy.specs.declared.guard.Guard.{Guard}
use Rattle.att_policy.specs.declared.guard.Need.{Need}
use Rattle.att_policy.specs.declared.policy.Rule.{Rule}
use Rattle.att_policy.specs.declared.policy.Rule.TheVariants.{KeySize}
use Rattle.att_policy.specs.declared.standing.Standing.{Standing}
use Rattle.att_policy.specs.Policy.{configuration_bits_of, first_unmet_rule_of, may_hear_of, size_of_key}
use Rattle.octet_io.proofs.Choices.{and_with_true}

-- one whose properties allow no configuration
pub unheard : (guard : Guard) (bits : ℕ) (standing : Standing) → configuration_bits_of guard.properties ≡ 0 → may_hear_of guard bits standing ≡ false
unheard guard bits standing none =
    ap (λ (allowed : ℕ). not (bit_and bits allowed == 0) && is_none (first_unmet_rule_of guard.read standing)) none
    ∙ ap (λ (both : ℕ). not (both == 0) && is_none (first_unmet_rule_of guard.read standing)) (and_zero_r bits)

-- where reading needs nothing, each connection that has asked hears
none-below : (size : ℕ) → nat_lt size 0 ≡ false
none-below size = elim (nat_lt size 0) as (λ (test : Bool). nat_lt size 0 ≡ test → test ≡ false) [
  | true ↦ λ is. absurd (grind (arith, nat_tests, is))
  | false ↦ λ is. refl
] refl

abbrev nothing : Need
nothing = record { encrypted = false; authenticated = false; key_size = None; authorized = false; secure = false }

pub met_by_all : (need : Need) (standing : Standing) → need ≡ nothing → first_unmet_rule_of need standing ≡ None
met_by_all need standing is =
    ap (λ (it : Need). first_unmet_rule_of it standing) is
    ∙ ap (λ (test : Bool). cond test (Some KeySize) None) (none-below (size_of_key standing))

pub heard_by_all : (guard : Guard) (bits : ℕ) (standing : Standing) → first_unmet_rule_of guard.read standing ≡ None
    → may_hear_of guard bits standing ≡ not (bit_and bits (configuration_bits_of guard.properties) == 0)
heard_by_all guard bits standing met =
    ap (λ (unmet : Option Rule). not (bit_and bits (configuration_bits_of guard.properties) == 0) && is_none unmet) met
    ∙ and_with_true (not (bit_and bits (configuration_bits_of guard.properties) == 0))
