-- What a writer takes in turn.
use Rattle.std.proofs.Common.{ℕ, List, [], ◌++◌, Option, Some, None, arith}
use Rattle.std.specs.Io.KnownBytes.{Appends, Keeps}
use Rattle.std.proofs.lemmas.Grind.{common_steps}

-- what is appended twice is appended at once
pub appends-append : (held mid holds : Option (List ℕ)) (xs ys : List ℕ) → Appends held mid xs → Appends mid holds ys → Appends held holds (xs ++ ys)
appends-append None mid holds xs ys a b = tt
appends-append (Some h) None holds xs ys a b = absurd a
appends-append (Some h) (Some m) None xs ys a b = absurd b
appends-append (Some h) (Some m) (Some n) xs ys a b = grind (arith, common_steps)

pub appends-nothing : (held : Option (List ℕ)) → Appends held held []
appends-nothing None = tt
appends-nothing (Some h) = grind (arith, common_steps)

pub appends-kept : (held mid holds : Option (List ℕ)) (xs : List ℕ) → Appends held mid xs → Keeps mid holds → Appends held holds xs
appends-kept None mid holds xs a b = tt
appends-kept (Some h) None holds xs a b = absurd a
appends-kept (Some h) (Some m) None xs a b = absurd b
appends-kept (Some h) (Some m) (Some n) xs a b = cc (a, b)
