use Rattle.std.proofs.lemmas.Result.{on_ok_weaker}
use Rattle.policy_expectations.specs.Report.{unnamed_text}
use Rattle.policy_words.proofs.Added.{joined}
use Rattle.policy_expectations.proofs.report.add_unnamed.Goals as goal

pub returns : goal.returns
unfolding unnamed_text
returns c =
    record {
      ok = on_ok_weaker c.add_octets.result
          (λ added.
          joined c.args.text.now.items _ _ c.in_ok-add_handle_and_type.ensures.ok added)
          c.add_octets.ensures.ok;
    }
