-- Parts are added to a text one after the other.
use Rattle.std.proofs.Common.{◌≡◌, Result, Ok, Err, ◌++◌, sym, ap, ◌∙◌, append_assoc}
use Rattle.std.specs.Prelude.{OnOk}
use Rattle.octet_io.specs.Number.{Octets}

-- what is added in two parts is added
pub then_added : {T E : Type 0} (result : Result T E) (old between new first rest whole : Octets) → between ≡ old ++ first → OnOk result (new ≡ between ++ rest)
    → whole ≡ first ++ rest → OnOk result (new ≡ old ++ whole)
then_added (Err fault) old between new first rest whole is added same = tt
then_added (Ok done) old between new first rest whole is added same =
    added ∙ ap (λ (front : Octets). front ++ rest) is ∙ append_assoc old first rest ∙ ap (λ (octets : Octets). old ++ octets) (sym same)
