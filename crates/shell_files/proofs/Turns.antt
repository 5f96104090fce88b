-- The order in which files are judged.
use Rattle.std.proofs.Common.{◌≡◌, ℕ, List, Option, Some, None, rules}
use Rattle.std.specs.Prelude.{IfSome, IsOk, Result, Ok}

-- what gave a value was accepted
pub accepted : {A E : Type 0} (known : Option (List ℕ)) (read : List ℕ → Result A E) (value : A)
    → IfSome known (λ octets. read octets ≡ Ok value) → IfSome known (λ octets. IsOk (read octets))
accepted None read value is = tt
accepted (Some octets) read value is = rw is (search rules)
