use Rattle.std.proofs.Common.{◌≡◌, drop, map}
use Rattle.clap.specs.Words.{app_of}
use Rattle.shell_args.specs.CommandLine.{shape_for, with_subcommands}
use Rattle.shell_args.proofs.subcommand.with_subcommands.Given as goal

-- what is left makes of the program what all makes of the one that was given
abbrev pub invariant-loop-subcommand : goal.invariant-loop-subcommand
invariant-loop-subcommand l =
    with_subcommands (app_of l.program) (map shape_for (drop l.subcommand-index l.subcommands))
    ≡ with_subcommands (app_of l.fn.program) (map shape_for l.fn.subcommands)
