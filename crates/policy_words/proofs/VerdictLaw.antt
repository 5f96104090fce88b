-- An answer is yes exactly if the right is granted.
use Rattle.std.proofs.Common.{◌≡◌, ℕ, ◌+◌, Bool, true, false, ◌&&◌, List, Option, Some, None, if◌then◌else◌, refl, ap, sym, ◌∙◌}
use Rattle.std.specs.Prelude.{is_none}
use Rattle.std.specs.Option.{option_map_or}
use Rattle.att_numbers.specs.Types.{Code, Handle}
use Rattle.att_policy.specs.declared.policy.Rule.{Rule}
use Rattle.att_policy.specs.declared.policy.Rule.TheVariants.{Property}
use Rattle.att_policy.specs.declared.standing.Standing.{Standing}
use Rattle.att_policy.specs.declared.guard.TheConstants.{INDICATION}
use Rattle.att_policy.specs.Policy.{first_unmet_rule_of}
use Rattle.att_attributes.specs.declared.attr.Attr.{Attr}
use Rattle.att_attributes.specs.Attributes.{attribute_at, is_configuration_at, is_value}
use Rattle.policy_rights.specs.declared.rights.Right.{Right}
use Rattle.policy_rights.specs.Needs.{is_notified_or_indicated}
use Rattle.policy_rights.specs.Rights.{is_sent, is_sent_of, may_of, subscribes_at, subscribes_of}
use Rattle.policy_rights.proofs.Subscribing.{sent, subscribes}
use Rattle.policy_rights.specs.declared.rights.TheConstants.{NOTIFICATION}
use Rattle.policy_words.specs.declared.may.verdict.Verdict.TheVariants.{NoConfiguration, Silent}
use Rattle.policy_words.specs.may.Verdict.{access_verdict, broken_by_write, has_bit, is_yes, missing, sending_answer, sending_verdict, sent_verdict, subscription_answer, subscription_verdict, verdict_of, write_verdict}
use Rattle.policy_words.proofs.Subscribing.{subscription}

of_access : (broken : Option (Rule × Code)) → is_yes (access_verdict broken) ≡ is_none broken
of_access None = refl
of_access (Some broken) = refl

-- what is sent
by_rules : (is_a_value has : Bool) (unmet : Option Rule)
    → is_yes (if is_a_value && has then sent_verdict unmet else Silent Property) ≡ is_a_value && (has && is_none unmet)
by_rules true true None = refl
by_rules true true (Some rule) = refl
by_rules true false unmet = refl
by_rules false has unmet = refl

sent_to : (standing : Standing) (bit : ℕ) (found : Option Attr)
    → is_yes (option_map_or (sending_answer standing bit) found missing)
    ≡ option_map_or (λ (attr : Attr). is_sent attr standing bit) found false
sent_to standing bit None = refl
sent_to standing bit (Some attr) = by_rules (is_value attr.role) (has_bit attr bit) (first_unmet_rule_of attr.guard.read standing)

of_sending : (attributes : List Attr) (standing : Standing) (handle : Handle) (bit : ℕ)
    → is_yes (sending_verdict attributes standing handle bit) ≡ is_sent_of attributes standing handle bit
of_sending attributes standing handle bit =
    sent_to standing bit (attribute_at attributes handle) ∙ sym (sent attributes standing handle bit)

-- who subscribes
by_write : (handle : Handle) (announced is_configuration : Bool) (broken : Option (Rule × Code))
    → is_yes (if announced && is_configuration then write_verdict handle broken else NoConfiguration)
    ≡ is_configuration && (is_none broken && announced)
by_write handle true true None = refl
by_write handle true true (Some rule) = refl
by_write handle true false broken = refl
by_write handle false true None = refl
by_write handle false true (Some rule) = refl
by_write handle false false broken = refl

subscribed_at : (attributes : List Attr) (standing : Standing) (handle : Handle) (found : Option Attr)
    → is_yes (option_map_or (λ (attr : Attr). subscription_answer attributes standing attr (handle + 1)) found missing)
    ≡ option_map_or (λ (attr : Attr). subscribes_at attributes standing attr.guard (handle + 1)) found false
subscribed_at attributes standing handle None = refl
subscribed_at attributes standing handle (Some attr) =
    by_write (handle + 1) (is_notified_or_indicated attr.guard.properties) (is_configuration_at attributes (handle + 1))
    (broken_by_write attributes standing (handle + 1))

of_subscribing : (attributes : List Attr) (standing : Standing) (handle : Handle)
    → is_yes (subscription_verdict attributes standing handle) ≡ subscribes_of attributes standing handle
of_subscribing attributes standing handle =
    ap is_yes (subscription attributes standing handle)
    ∙ subscribed_at attributes standing handle (attribute_at attributes handle)
    ∙ sym (subscribes attributes standing handle)

pub yes_exactly : (attributes : List Attr) (standing : Standing) (handle : Handle) (right : Right)
    → is_yes (verdict_of attributes standing handle right) ≡ may_of attributes standing handle right
yes_exactly attributes standing handle Right.Read = of_access _
yes_exactly attributes standing handle Right.Write = of_access _
yes_exactly attributes standing handle Right.Command = of_access _
yes_exactly attributes standing handle Right.Notify = of_sending attributes standing handle NOTIFICATION
yes_exactly attributes standing handle Right.Indicate = of_sending attributes standing handle INDICATION
yes_exactly attributes standing handle Right.Subscribe = of_subscribing attributes standing handle
