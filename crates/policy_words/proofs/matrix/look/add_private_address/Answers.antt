use Rattle.std.proofs.Common.{◌++◌}
use Rattle.std.proofs.lemmas.Result.{on_ok_weaker}
use Rattle.std.specs.Prelude.{codes}
use Rattle.policy_words.specs.Legend.{peer_words}
use Rattle.policy_words.proofs.Added.{joined}
use Rattle.policy_words.proofs.matrix.look.add_private_address.Goals as goal

pub returns : goal.returns
returns c =
    let words = peer_words c.args.peer.now in
    let rest = codes " is a private address, which its client changes" in
    record {
      ok = on_ok_weaker c.add_octets-2.result
          (λ added.
          joined c.args.text.now.items (codes "       ") (words ++ rest) c.in_ok-add_octets.ensures.ok
          (joined c.add_octets.new.text.items words rest c.in_ok-add_peer_words.ensures.ok added))
          c.add_octets-2.ensures.ok;
    }
