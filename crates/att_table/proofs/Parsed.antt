-- What a text that does not parse names.
use Rattle.std.proofs.Common.{◌≡◌, Option, Some, None, Result, is_ok, false, refl, sym, ◌∙◌}
use Rattle.std.specs.Prelude.{IsOk, ◌↔◌}

-- where nothing is found, there is nothing
pub none_found : {A T E : Type 0} (found : Option A) (r : Result T E) → is_ok r ≡ false → IsOk r ↔ ((x : A) × (found ≡ Some x)) → found ≡ None
none_found None r err exact = refl
none_found (Some x) r err exact = cc (sym err ∙ exact.1 (x, refl))
