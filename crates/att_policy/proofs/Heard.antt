-- Nothing that is needed is unmet where no rule is found.
use Rattle.std.proofs.Common.{◌≡◌, ◌<◌, ℕ, Bool, true, false, ◌==◌, refl, sym, ap, ◌∙◌, arith}
use Rattle.std.proofs.lemmas.Bool.Decides.{nat_tests}
use Rattle.std.specs.Prelude.{Option, None, bit_and, is_none, IsTrue}
use Rattle.std.specs.List.{find}
use Rattle.att_policy.specs.declared.guard.Guard.{Guard}
use Rattle.att_policy.specs.declared.policy.Rule.{Rule}
use Rattle.att_policy.specs.declared.policy.Rule.TheVariants.{HandleExists, Property, Encryption, Authentication, KeySize, SecureConnections, Authorization}
use Rattle.att_policy.specs.declared.standing.Standing.{Standing}
use Rattle.att_policy.specs.Policy.{rules_of_need, is_unmet, first_unmet_rule_of, configuration_bits_of, MayHear}

none_unmet : (p : Rule → Bool) → p HandleExists ≡ false → p Property ≡ false → is_none (find p rules_of_need) ≡ true → (rule : Rule) → p rule ≡ false
none_unmet p exists has none HandleExists = exists
none_unmet p exists has none Property = has
none_unmet p exists has none Encryption = grind arith
none_unmet p exists has none Authentication = grind arith
none_unmet p exists has none KeySize = grind arith
none_unmet p exists has none SecureConnections = grind arith
none_unmet p exists has none Authorization = grind arith

none_found : (p : Rule → Bool) → ((rule : Rule) → p rule ≡ false) → is_none (find p rules_of_need) ≡ true
none_found p met = rw (met Encryption, met Authentication, met KeySize, met SecureConnections, met Authorization) refl

allowed : (bits : ℕ) → (bits == 0) ≡ false → 0 < bits
allowed bits is = grind (arith, nat_tests)

-- where a bit is allowed, a client may hear exactly where no rule is found
pub heard : (guard : Guard) (bits : ℕ) (standing : Standing) (found : Option Rule) (result : Bool)
    → (bit_and bits (configuration_bits_of guard.properties) == 0) ≡ false
    → found ≡ first_unmet_rule_of guard.read standing → result ≡ is_none found → (IsTrue result → MayHear guard bits standing)
    × (MayHear guard bits standing → IsTrue result)
heard guard bits standing found result is of none = (
  λ true. record {
    allowed = allowed (bit_and bits (configuration_bits_of guard.properties)) is;
    met = none_unmet (is_unmet guard.read standing) refl refl (ap is_none (sym of) ∙ sym none ∙ true);
  },
  λ may. none ∙ ap is_none of ∙ none_found (is_unmet guard.read standing) may.met,
)
