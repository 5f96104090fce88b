use Rattle.std.proofs.Common.{ap, ◌∙◌}
use Rattle.policy_words.specs.may.Verdict.{is_yes}
use Rattle.policy_words.proofs.VerdictLaw.{yes_exactly}
use Rattle.policy_words.proofs.may.verdict.verdict_of.Goals as goal

pub returns-clause-law : goal.returns-clause-law
returns-clause-law c =
    ap is_yes c.of_use.ensures
    ∙ yes_exactly c.args.table.now.attributes c.args.standing.now c.args.handle c.args.right
