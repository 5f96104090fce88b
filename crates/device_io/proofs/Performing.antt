-- Calls are made one after the other.
use Rattle.std.proofs.Common.{◌≡◌, Bool, true, false, List, [], ◌∷◌, ◌++◌, refl, sym, ap, ◌∙◌, inl, inr, append_assoc, append-nil}
use Rattle.std.specs.Prelude.{Result, Ok, Err}
use Rattle.std.specs.Result.{IsErr, is_ok}
use Rattle.device_io.specs.Disk.{Call, Performs, Step, call}
use Rattle.device_io.specs.DiskCalls.{HasPerformed}

pub fails : (step : Step) (steps : List Step) (ok done : Bool) (before after : List Call) → after ≡ before ++ call step ok ∷ []
    → ok ≡ false → done ≡ false → HasPerformed (step ∷ steps) done before after
unfolding Performs
fails step steps ok done before after is failed none =
    (call step ok ∷ [], is, inl (ap (call step) failed, none, refl))

pub goes_on : (step : Step) (steps : List Step) (ok done : Bool) (before between after : List Call) → between ≡ before ++ call step ok ∷ []
    → ok ≡ true → HasPerformed steps done between after → HasPerformed (step ∷ steps) done before after
unfolding Performs
goes_on step steps ok done before between after is succeeded rest = (
  call step ok ∷ rest.0,
  rest.1 ∙ ap (λ (calls : List Call). calls ++ rest.0) is ∙ append_assoc before (call step ok ∷ []) rest.0,
  inr (ap (call step) succeeded, rest.2),
)

pub ends : (step : Step) (ok done : Bool) (before after : List Call) → after ≡ before ++ call step ok ∷ [] → done ≡ ok
    → HasPerformed (step ∷ []) done before after
unfolding Performs
ends step true done before after is same = goes_on step [] true done before after after is refl ([], sym (append-nil after), (same, refl))
ends step false done before after is same = fails step [] false done before after is refl same

pub not_ok : {T E : Type 0} (result : Result T E) → IsErr result → is_ok result ≡ false
not_ok (Ok value) is = cc is
not_ok (Err error) is = refl
