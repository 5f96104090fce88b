use Rattle.std.proofs.Common.{◌≡◌, ℕ, Bool, true, false, not, ◌==◌, bit_and, rules, arith}
use Rattle.std.proofs.lemmas.Grind.{common_steps}
use Rattle.std.specs.Prelude.{is_none}
use Rattle.att_policy.specs.Policy.{configuration_bits_of}
use Rattle.att_policy.proofs.Heard.{heard}
use Rattle.att_policy.proofs.policy.may_hear.Goals as goal

pub returns-then-bits-configuration_bits-ne0-clause-heard :
    goal.returns-then-bits-configuration_bits-ne0-clause-heard
returns-then-bits-configuration_bits-ne0-clause-heard c =
    let is : (bit_and c.args.bits (configuration_bits_of c.args.guard.now.properties) == 0) ≡ false = grind (arith, common_steps) in
    let none : c.is_none.result ≡ is_none c.first_unmet_rule.result = grind (arith, common_steps) in
    heard c.args.guard.now c.args.bits c.args.standing.now c.first_unmet_rule.result c.is_none.result is c.first_unmet_rule.ensures none
