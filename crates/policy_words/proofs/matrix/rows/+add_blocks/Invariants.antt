use Rattle.std.proofs.Common.{length}
use Rattle.policy_words.proofs.matrix.rows.+add_blocks.Given as goal

-- each block takes a column
abbrev pub decreases-add_blocks : goal.decreases-add_blocks
decreases-add_blocks l = length l.columns.now
