use Rattle.std.proofs.Common.{arith}
use Rattle.std.proofs.lemmas.Str.Pattern.{strip_prefix_char}
use Rattle.device_state.proofs.Pieces.{piece_stripped}
use Rattle.device_state.proofs.reading.piece_of.Goals as goal

pub returns : goal.returns
returns c =
    piece_stripped c.args.line.now c.strip_prefix.result
    (strip_prefix_char 124 c.args.line.now c.strip_prefix.result c.strip_prefix.ensures.cases (omega arith))
