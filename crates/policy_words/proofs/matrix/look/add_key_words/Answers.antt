use Rattle.std.proofs.Common.{◌++◌}
use Rattle.std.proofs.lemmas.Result.{on_ok_weaker}
use Rattle.std.specs.Prelude.{codes}
use Rattle.policy_words.specs.Legend.{strength_text}
use Rattle.policy_words.proofs.Added.{joined}
use Rattle.policy_words.proofs.matrix.look.add_key_words.Goals as goal

pub returns : goal.returns
returns c =
    let strength = strength_text c.args.key in
    let rest = c.args.words.now in
    record {
      ok = on_ok_weaker c.add_octets-2.result
          (λ added.
          joined c.args.text.now.items (codes "       a ") (strength ++ rest) c.in_ok-add_octets.ensures.ok
          (joined c.add_octets.new.text.items strength rest c.in_ok-add_strength.ensures.ok added))
          c.add_octets-2.ensures.ok;
    }
