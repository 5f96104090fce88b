use Rattle.std.proofs.lemmas.Result.{on_ok_weaker}
use Rattle.policy_expectations.specs.Words.{need_parts}
use Rattle.policy_words.proofs.Added.{joined}
use Rattle.policy_expectations.proofs.words.add_parts.Goals as goal

pub returns : goal.returns
unfolding need_parts
returns c =
    record {
      ok = on_ok_weaker c.add_if-4.result
          (λ added.
          joined c.args.text.now.items _ _ (joined c.args.text.now.items _ _ (joined c.args.text.now.items _ _ (joined c.args.text.now.items _ _ c.in_ok-add_if.ensures.ok
          c.in_ok-add_if-2.ensures.ok)
          c.in_ok-add_size.ensures.ok)
          c.in_ok-add_if-3.ensures.ok) added)
          c.add_if-4.ensures.ok;
    }
