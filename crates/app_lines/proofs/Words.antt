-- Lines of more than four words.
use Rattle.std.proofs.Common.{◌≡◌, ℕ, ◌<◌, ◌==◌, List, [], ◌∷◌, length, refl, sym, ◌∙◌, ap, arith}
use Rattle.std.proofs.lemmas.List.Splits.{length-slice_split}
use Rattle.octet_io.specs.Number.{Octets}
use Rattle.text_words.specs.Split.{words_of}
use Rattle.app_lines.specs.Command.{asked_by, miscounted}

more_words : (first second third fourth : Octets) (words : List Octets) → 0 < length words
    → asked_by (first ∷ second ∷ third ∷ fourth ∷ words) ≡ miscounted first 5
more_words first second third fourth [] some = absurd (omega (arith, some))
more_words first second third fourth (word ∷ words) some = refl

pub too_many_words : (first second third fourth line rest other more : Octets) → words_of line ≡ first ∷ words_of rest → words_of rest ≡ second ∷ words_of other
    → words_of other ≡ third ∷ words_of more → (parts : Octets) → words_of more ≡ fourth ∷ words_of parts → miscounted first 5 ≡ asked_by (words_of line)
too_many_words first second third fourth line rest other more one two three parts four =
    let some : 0 < length (words_of parts) = omega (arith, length-slice_split (λ (octet : ℕ). octet == 32) parts) in
    sym (
    ap asked_by (one ∙ ap (λ (words : List Octets). first ∷ words) (two
    ∙ ap (λ (words : List Octets). second ∷ words) (three ∙ ap (λ (words : List Octets). third ∷ words) four)))
    ∙ more_words first second third fourth (words_of parts) some)
