use Rattle.std.proofs.Common.{◌≡◌, List, Option, Some, None}
use Rattle.att_numbers.specs.Types.{AttributeType, Handle}
use Rattle.att_policy.specs.declared.standing.KeyFacts.{KeyFacts}
use Rattle.att_attributes.specs.declared.attr.Attr.{Attr}
use Rattle.policy_words.specs.compare.Before.{IsHeldFor, before_of, loose_type_by}
use Rattle.policy_words.specs.declared.compare.before.Held.{Held}
use Rattle.policy_words.proofs.compare.before.renew.Goals as goal

by_there : (others : List Attr) (kinds : List (Option KeyFacts)) (there : Option Handle) (kind : AttributeType) (held : List Held)
    → held ≡ before_of others kinds there kind → IsHeldFor others kinds (loose_type_by there kind) held
by_there others kinds None kind held is = is
by_there others kinds (Some handle) kind held is = tt

pub returns-clause-next : goal.returns-clause-next
returns-clause-next c = λ before.
    rw c.loose_type.ensures
    (by_there c.args.others.now.attributes c.args.kinds.now c.args.pair.now.there c.args.pair.now.attr.kind c.replace_before.new.held.items
    c.in_ok-replace_before.ensures.ok)
