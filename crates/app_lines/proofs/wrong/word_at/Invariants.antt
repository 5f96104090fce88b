use Rattle.std.proofs.Common.{◌≡◌, drop}
use denote.Text.{Utf8}
use denote.Shadow.{shadow}
use Rattle.text_words.specs.Split.{words_of}
use Rattle.app_lines.proofs.wrong.word_at.Given as goal

-- what is left of the line has the words from this place on
abbrev pub invariant-loop-index : goal.invariant-loop-index
invariant-loop-index l = shadow (Utf8 l.rest) × (words_of l.rest ≡ drop l._index (words_of l.fn.line))
