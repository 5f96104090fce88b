-- Fields of a writer that adds words (code only).
use Rattle.att_words.specs.declared.worded.Worded.{Worded}

-- The writer to which everything is passed on.
abbrev pub inner_of : {W : Type 0} → Worded W → W
inner_of worded = worded.writer
