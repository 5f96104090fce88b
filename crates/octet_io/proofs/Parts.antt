-- How a text divides into what stands before the first of some octets, and what stands behind it.
use Rattle.std.proofs.Common.{◌≡◌, ℕ, ◌<◌, ◌==◌, Bool, List, [], ◌∷◌, length, Option, Some, None, refl, sym, ◌∙◌, ap, arith}
use Rattle.std.specs.Borrow.{Bor}
use Rattle.std.specs.List.{slice_split, position_or_len, before_first, after_first}
use Rattle.std.specs.Option.{MatchOption, IfSome, IfNone}
use Rattle.std.proofs.lemmas.Grind.{common_steps}
use Rattle.std.proofs.lemmas.List.Splits.{slice_split_first}

split_none : (test : ℕ → Bool) (text : List ℕ) → position_or_len test text ≡ length text → slice_split test text ≡ text ∷ []
split_none test [] none = refl
split_none test (octet ∷ text) none = grind (arith, common_steps, split_none test text)

-- what is found of a text by the first of these octets
abbrev pub IsCut : ℕ → List ℕ → Option (Bor (List ℕ) × Bor (List ℕ)) → Type 0
IsCut mark text found =
    let test : ℕ → Bool = λ octet. octet == mark in
    MatchOption found (position_or_len test text ≡ length text)
    (λ parts. (position_or_len test text < length text) × (parts.0.now ≡ before_first test text) × (parts.1.now ≡ after_first test text))

pub first_of_parts : (mark : ℕ) (text : List ℕ) (found : Option (Bor (List ℕ) × Bor (List ℕ))) → IsCut mark text found
    → IfSome found (λ parts. slice_split (λ octet. octet == mark) text ≡ parts.0.now ∷ slice_split (λ octet. octet == mark) parts.1.now)
first_of_parts mark text None is = tt
first_of_parts mark text (Some parts) is =
    slice_split_first (λ octet. octet == mark) text 0 is.0
    ∙ ap (λ (line : List ℕ). line ∷ slice_split (λ octet. octet == mark) (after_first (λ octet. octet == mark) text)) (sym is.1)
    ∙ ap (λ (rest : List ℕ). parts.0.now ∷ slice_split (λ octet. octet == mark) rest) (sym is.2)

pub only_part : (mark : ℕ) (text : List ℕ) (found : Option (Bor (List ℕ) × Bor (List ℕ))) → IsCut mark text found
    → IfNone found (slice_split (λ octet. octet == mark) text ≡ text ∷ [])
only_part mark text None is = split_none (λ octet. octet == mark) text is
only_part mark text (Some parts) is = tt
