use Rattle.std.proofs.Common.{refl, sym, map, ◌∙◌}
use Rattle.std.proofs.lemmas.List.{at_drop_all}
use Rattle.clap.specs.Words.{app_of, with_subcommand}
use Rattle.shell_args.specs.CommandLine.{shape_for, with_subcommands}
use Rattle.shell_args.proofs.CommandLines.{one_step_on}
use Rattle.shell_args.proofs.subcommand.with_subcommands.Goals as goal

pub loop-subcommand-preserved : goal.loop-subcommand-preserved
loop-subcommand-preserved c =
    one_step_on (λ app left. with_subcommands app (map shape_for left)) (λ app subcommand. with_subcommand app (shape_for subcommand))
    (λ app subcommand left. refl) _ _ _ _ c.loop-subcommand-test.true c.in_ok-program.ensures
    ∙ c.loop-subcommand.invariant

pub returns : goal.returns
returns c =
    sym (at_drop_all (λ left. with_subcommands (app_of c.loop-subcommand.program) (map shape_for left)) _ _ c.loop-subcommand-test.false)
    ∙ c.loop-subcommand.invariant
