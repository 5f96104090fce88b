-- Kinds of keys in words, sizes that follow each other as one (this profile's own).
use Rattle.std.specs.Prelude.{◌+◌, ◌==◌, ◌&&◌, Bool, false, if◌then◌else◌, List, [], ◌∷◌, ◌++◌, codes, length, Option, Some, None}
use Rattle.std.specs.Bool.{beq}
use Rattle.std.specs.Fmt.{decimal}
use Rattle.octet_io.specs.Number.{Octets}
use Rattle.att_policy.specs.declared.standing.KeyFacts.{KeyFacts}
use Rattle.policy_words.specs.Legend.{flags_text}

-- A key of one octet more, with the same properties.
abbrev pub follows : Option KeyFacts → Option KeyFacts → Bool
follows (Some last) (Some key) =
    (key.size == last.size + 1) && (beq key.authenticated last.authenticated
    && beq key.secure last.secure)
follows last key = false

abbrev pub last_size_words : KeyFacts → Option KeyFacts → Octets
last_size_words first None = []
last_size_words first (Some last) =
    if last.size == first.size then [] else codes " to " ++ decimal last.size

-- The keys from one size to another.
unfoldable pub run_words : Option KeyFacts → Option KeyFacts → Octets
run_words None last = codes "no key"
run_words (Some first) last =
    codes "key of " ++ decimal first.size ++ last_size_words first last ++ flags_text first

-- The kinds from the first one to the last one follow each other.
abbrev pub run_from : Option KeyFacts → Option KeyFacts → List (Option KeyFacts) → Octets
run_from first last [] = run_words first last
run_from first last (kind ∷ kinds) =
    if follows last kind then run_from first kind kinds
    else run_words first last ++ codes "; " ++ run_from kind kind kinds

abbrev pub runs_text : List (Option KeyFacts) → Octets
runs_text [] = []
runs_text (kind ∷ kinds) = run_from kind kind kinds

-- A part of all 41 kinds, in their order: 40 are every key, or every key but one with no key.
abbrev pub kinds_text : List (Option KeyFacts) → Octets
kinds_text [] = []
kinds_text (None ∷ kinds) =
    if length kinds == 40 then codes "everybody" else run_from None None kinds
kinds_text (Some key ∷ kinds) =
    if length kinds == 39 then codes "every key" else run_from (Some key) (Some key) kinds
