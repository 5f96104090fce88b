-- The pieces of lines of the table text.
use Rattle.std.proofs.Common.{◌≡◌, ℕ, ◌==◌, true, false, [], ◌∷◌, Option, Some, None, refl, sym, ap, ◌∙◌, arith}
use Rattle.std.specs.Borrow.{Bor}
use Rattle.std.specs.Prelude.{◌≢◌, MatchOption}
use Rattle.std.specs.Option.{option_map}
use Rattle.std.proofs.lemmas.Bool.Decides.{nat_tests}
use Rattle.octet_io.specs.Number.{Octets}
use Rattle.device_state.specs.StateText.{bar, piece_of}

barred : (piece : Octets) → piece_of (124 ∷ piece) ≡ Some piece
barred piece = refl

unbarred : (octet : ℕ) (piece : Octets) → ((rest : Octets) → octet ∷ piece ≢ 124 ∷ rest) → None ≡ piece_of (octet ∷ piece)
unbarred octet piece other = by (octet == bar) refl
  where
    by : (is : _) → (octet == bar) ≡ is → None ≡ piece_of (octet ∷ piece)
    by true is =
        let same : octet ≡ 124 = grind (arith, nat_tests, is) in
        absurd (other piece (ap (λ (first : ℕ). first ∷ piece) same))
    by false is = rw is refl

pub piece_stripped : (line : Octets) (r : Option (Bor Octets)) → MatchOption r ((rest : Octets) → line ≢ 124 ∷ rest) (λ x. line ≡ 124 ∷ x.now)
    → option_map (λ (piece : Bor Octets). piece.now) r ≡ piece_of line
piece_stripped line (Some piece) is = sym (ap piece_of is ∙ barred piece.now)
piece_stripped [] None other = refl
piece_stripped (octet ∷ piece) None other = unbarred octet piece other
