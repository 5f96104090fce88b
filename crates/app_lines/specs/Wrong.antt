-- The replies to wrong lines (this profile's own).
use Rattle.std.specs.Prelude.{ℕ, ◌++◌, ◌&&◌, nat_le, if◌then◌else◌, [], ◌∷◌, map, take, codes}
use Rattle.octet_io.specs.Number.{Octets}
use Rattle.app_lines.specs.declared.wrong.WordFault.{WordFault}
use Rattle.app_lines.specs.declared.wrong.WordFault.TheVariants.{NoCommand, NoHandle, NoConnection, NoValue, NoTime, NoType, NoNumber, TooFew, TooMany}
use Rattle.app_lines.specs.declared.wrong.TheConstants.{MOST_QUOTED}

-- The fault of a word, as text after the word.
abbrev pub words_of_fault : WordFault → Octets
words_of_fault NoCommand = codes "is no command"
words_of_fault NoHandle = codes "is no handle"
words_of_fault NoConnection = codes "is no connection"
words_of_fault NoValue = codes "is no value"
words_of_fault NoTime = codes "is no time"
words_of_fault NoType = codes "is no UUID"
words_of_fault NoNumber = codes "is no number from 1 on"
words_of_fault TooFew = codes "needs more words"
words_of_fault TooMany = codes "is a word too many"

-- A quoted word: its first octets, with a question mark for each that is not printable ASCII.
abbrev pub printable : ℕ → ℕ
printable octet = if nat_le 32 octet && nat_le octet 126 then octet else 63

abbrev pub quoted : Octets → Octets
quoted word = map printable (take MOST_QUOTED word)

unfoldable pub wrong_line : Octets → WordFault → Octets
wrong_line word fault =
    codes "bad: \"" ++ quoted word ++ codes "\" " ++ words_of_fault fault ++ 10 ∷ []
