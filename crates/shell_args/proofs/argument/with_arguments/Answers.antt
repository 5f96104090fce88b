use Rattle.std.proofs.Common.{refl, sym, map, ◌∙◌}
use Rattle.std.proofs.lemmas.List.{at_drop_all}
use Rattle.clap.specs.Words.{app_of, with_rule}
use Rattle.shell_args.specs.CommandLine.{rule_for, with_rules}
use Rattle.shell_args.proofs.CommandLines.{one_step_on}
use Rattle.shell_args.proofs.argument.with_arguments.Goals as goal

pub loop-argument-preserved : goal.loop-argument-preserved
loop-argument-preserved c = (
  one_step_on (λ app left. with_rules app (map rule_for left)) (λ app argument. with_rule app (rule_for argument))
      (λ app argument left. refl) _ _ _ _ c.loop-argument-test.true c.in_ok-command.ensures.app
      ∙ c.loop-argument.invariant.0,
  c.in_ok-command.ensures.local ∙ c.loop-argument.invariant.1,
)

pub returns-clause-app : goal.returns-clause-app
returns-clause-app c =
    sym (at_drop_all (λ left. with_rules (app_of c.loop-argument.command) (map rule_for left)) _ _ c.loop-argument-test.false)
    ∙ c.loop-argument.invariant.0
