use Rattle.std.proofs.Common.{◌++◌, sym, ◌∙◌, arith}
use Rattle.le_h4.proofs.Beginning.{sized}
use Rattle.le_h4.proofs.progress.known_size.Goals as goal

pub returns-then-size-lt-MAX_PACKET_IN : goal.returns-then-size-lt-MAX_PACKET_IN
returns-then-size-lt-MAX_PACKET_IN c =
    sized (c.args.first.now ++ c.args.second.now) c.in_ok-size.size (sym c.stated_size.ensures ∙ c.in_ok-size.was)
    (omega (arith, c.if-size-lt-MAX_PACKET_IN.true))
