use Rattle.std.proofs.lemmas.Result.{on_ok_weaker}
use Rattle.policy_words.specs.Legend.{flags_text}
use Rattle.policy_words.proofs.Added.{joined}
use Rattle.policy_words.proofs.legend.add_flags.Goals as goal

pub returns : goal.returns
unfolding flags_text
returns c = record {
  ok =
      on_ok_weaker c.add_if-2.result (λ added. joined c.args.text.now.items _ _ c.in_ok-add_if.ensures.ok added)
      c.add_if-2.ensures.ok;
}
