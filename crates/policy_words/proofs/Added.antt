-- Texts that are added one after the other.
use Rattle.std.proofs.Common.{◌≡◌, ◌++◌, ◌∙◌, ap, append_assoc}
use Rattle.octet_io.specs.Number.{Octets}

-- what is added in two steps is added
pub joined : {front back : Octets} (old first second : Octets) → front ≡ old ++ first → back ≡ front ++ second
    → back ≡ old ++ (first ++ second)
joined old first second before after =
    after ∙ ap (λ (front : Octets). front ++ second) before ∙ append_assoc old first second
