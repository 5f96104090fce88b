use Rattle.std.proofs.lemmas.Result.{IfOk-weaker}
use Rattle.shell_args.proofs.CommandLines.{stays_local}
use Rattle.shell_args.proofs.argument.with_argument.Goals as goal

pub returns-clause-local : goal.returns-clause-local
returns-clause-local c =
    IfOk-weaker c.arg.result _ _ (λ added adds. stays_local adds c.parsed_argument.ensures.local) c.arg.ensures
