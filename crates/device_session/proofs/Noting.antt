-- Handles that are noted one by one.
use Rattle.std.proofs.Common.{◌≡◌, ◌+◌, ◌<◌, ℕ, List, [], ◌∷◌, ◌++◌, drop, get_or, length, sym, ap, ◌∙◌, append_assoc}
use Rattle.std.proofs.lemmas.List.{drop_more}
use Rattle.std.proofs.lemmas.List.Sums.{fold-append}
use Rattle.device_session.specs.Missed.{with_handle, with_handles}

-- The handles so far, with those that are left, are all, and the first ones are noted.
abbrev pub IsNotedSoFar : List ℕ → List ℕ → ℕ → List ℕ → Type 0
IsNotedSoFar more before place after =
    (with_handles after (drop place more) ≡ with_handles before more)
    × ((noted : List ℕ) × (noted ++ drop place more ≡ more) × (after ≡ with_handles before noted))

pub one_noted : (more before now next : List ℕ) (place d : ℕ) → place < length more → IsNotedSoFar more before place now
    → next ≡ with_handle now (get_or more place d) → IsNotedSoFar more before (place + 1) next
one_noted more before now next place d below (all, (noted, parts, same)) then =
    let handle : ℕ = get_or more place d in
    let left : drop place more ≡ handle ∷ drop (place + 1) more = drop_more more place d below in (
      ap (λ (handles : List ℕ). with_handles handles (drop (place + 1) more)) then
          ∙ ap (λ (rest : List ℕ). with_handles now rest) (sym left) ∙ all,
      (
        noted ++ handle ∷ [],
        append_assoc noted (handle ∷ []) (drop (place + 1) more) ∙ ap (λ (rest : List ℕ). noted ++ rest) (sym left) ∙ parts,
        then ∙ ap (λ (handles : List ℕ). with_handle handles handle) same ∙ sym (fold-append with_handle before noted (handle ∷ [])),
      ),
    )
