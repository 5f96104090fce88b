use Rattle.std.proofs.lemmas.Result.{on_ok_weaker}
use Rattle.policy_expectations.specs.Lines.{side_words}
use Rattle.policy_words.proofs.Added.{joined}
use Rattle.policy_expectations.proofs.lines.add_words.Goals as goal

pub returns : goal.returns
unfolding side_words
returns c =
    record {
      ok = on_ok_weaker c.add_octets-2.result
          (λ added.
          joined c.args.text.now.items _ _ (joined c.args.text.now.items _ _ (joined c.args.text.now.items _ _ (joined c.args.text.now.items _ _ (joined c.args.text.now.items _ _ (joined c.args.text.now.items _ _ (joined c.args.text.now.items _ _ (joined c.args.text.now.items _ _ c.in_ok-add_handle_and_type.ensures.ok
          c.in_ok-add_right.ensures.ok)
          c.in_ok-add_kinds.ensures.ok)
          c.in_ok-add_today.ensures.ok)
          c.in_ok-add_if.ensures.ok)
          c.in_ok-add_verdict.ensures.ok)
          c.in_ok-add_meant.ensures.ok)
          c.in_ok-add_octets.ensures.ok) added)
          c.add_octets-2.ensures.ok;
    }
