use Rattle.std.proofs.Common.{length, sym, arith}
use Rattle.std.proofs.lemmas.List.{take_all}
use Rattle.device_io.proofs.log.front_of.Goals as goal

pub returns-then-text-end-clause-front : goal.returns-then-text-end-clause-front
returns-then-text-end-clause-front c =
    (length c.args.text.now, sym (take_all (length c.args.text.now) c.args.text.now (omega arith)))
