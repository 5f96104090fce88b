use Rattle.std.proofs.Common.{◌≡◌, drop, map}
use Rattle.clap.specs.Words.{app_of}
use Rattle.clap.specs.declared.builder.Command.TheViews.{out-Command}
use Rattle.shell_args.specs.CommandLine.{rule_for, with_rules}
use Rattle.shell_args.proofs.argument.with_arguments.Given as goal

-- what is left makes of the command what all makes of the one that was given
abbrev pub invariant-loop-argument : goal.invariant-loop-argument
invariant-loop-argument l =
    (with_rules (app_of l.command) (map rule_for (drop l.argument-index l.arguments))
    ≡ with_rules (app_of l.fn.command) (map rule_for l.fn.arguments))
    × ((out-Command l.command).has_globals ≡ (out-Command l.fn.command).has_globals)
