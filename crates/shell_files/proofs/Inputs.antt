-- Octets that are read in turn.
use Rattle.std.proofs.Common.{List, ℕ, [], ◌++◌, Option, Some, None, refl, sym, ap, ◌∙◌, append_assoc}
use Rattle.std.specs.Io.KnownBytes.{Keeps, Consumes}

-- what is read twice is read at once
pub consumes-append : (before mid left : Option (List ℕ)) (xs ys : List ℕ) → Consumes before mid xs → Consumes mid left ys → Consumes before left (xs ++ ys)
consumes-append None mid left xs ys a b = tt
consumes-append (Some h) None left xs ys a b = absurd a
consumes-append (Some h) (Some m) None xs ys a b = absurd b
consumes-append (Some h) (Some m) (Some n) xs ys a b = a ∙ ap (λ (more : List ℕ). xs ++ more) b ∙ sym (append_assoc xs ys n)

pub consumes-kept : (before mid left : Option (List ℕ)) (xs : List ℕ) → Consumes before mid xs → Keeps mid left → Consumes before left xs
consumes-kept None mid left xs a b = tt
consumes-kept (Some h) None left xs a b = absurd a
consumes-kept (Some h) (Some m) None xs a b = absurd b
consumes-kept (Some h) (Some m) (Some n) xs a b = a ∙ ap (λ (more : List ℕ). xs ++ more) (sym b)

pub consumes-nothing : (before : Option (List ℕ)) → Consumes before before []
consumes-nothing None = tt
consumes-nothing (Some h) = refl
