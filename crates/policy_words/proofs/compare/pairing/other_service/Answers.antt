use Rattle.std.proofs.Common.{List, ℕ, ap, ◌∙◌}
use Rattle.policy_words.specs.compare.Pairing.{service_with}
use Rattle.policy_words.proofs.compare.pairing.other_service.Goals as goal

pub returns : goal.returns
returns c =
    c.service_with.ensures
    ∙ ap (λ (uuid : List ℕ). service_with c.args.table.now uuid c.args.service.now.handle c.args.other.now) c.told_value.ensures
