use Rattle.std.proofs.Common.{rules}
use Rattle.std.specs.Option.{option_map}
use Rattle.std.specs.Result.{result_ok}
use Rattle.device_session.proofs.Steps.{by_answer}
use Rattle.device_session.proofs.asking.Asking.keep_answer.Goals as goal

pub invariant_of-self : goal.invariant_of-self
invariant_of-self c = by_answer _ _ (option_map (λ text. text.items) (result_ok c.args.text)) c.self.invariant (search rules)
