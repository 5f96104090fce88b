-- The power fails at any moment.
use Rattle.std.proofs.Common.{◌≡◌, Bool, true, false, List, [], ◌∷◌, ◌++◌, refl, sym, subst, inl, inr}
use Rattle.std.specs.Prelude.{All}
use Rattle.std.proofs.lemmas.List.Elements.{All-append, All-cons, All-nil, Contains-get_or}
use Rattle.octet_io.specs.Number.{Octets}
use Rattle.device_io.specs.Disk.{Call, Disk, Found, IsOldOrNew, KeepsNewOnceDone, KeepsOldOrNew, Performs, Step, after_call, after_calls, after_failure, after_step, replacement}
use Rattle.device_io.specs.Disk.Step.{Unlink, Create, Write, Sync, Rename, SyncFolder}
use Rattle.device_io.specs.Disk.Found.{Text}

no-more : (front back : List Call) → front ++ back ≡ [] → front ≡ []
no-more [] back is = refl
no-more (first ∷ front) back is = cc is

failure-keeps : (disk : Disk) (step : Step) → (after_failure disk step).kept ≡ disk.kept
failure-keeps disk Unlink = refl
failure-keeps disk Create = refl
failure-keeps disk (Write text) = refl
failure-keeps disk Sync = refl
failure-keeps disk Rename = refl
failure-keeps disk SyncFolder = refl

-- P holds of all that may be found after a crash, at each point of these steps
abbrev Holds : (Found → Type 0) → List Step → Disk → Type 0
Holds P steps disk =
    (done : Bool) (front back : List Call) → Performs steps done (front ++ back) → All P (after_calls disk front).kept

holds-then : (P : Found → Type 0) (step : Step) (steps : List Step) (disk : Disk) → All P disk.kept
    → Holds P steps (after_step disk step) → Holds P (step ∷ steps) disk
unfolding Performs
holds-then P step steps disk all rest done [] back made = all
holds-then P step steps disk all rest done (first ∷ front) back (inl failed) =
    subst (λ (front : List Call). All P (after_calls disk (first ∷ front)).kept) (sym (no-more front back failed.2))
    (subst (λ (first : Call). All P (after_call disk first).kept) (sym failed.0)
    (subst (λ (kept : List Found). All P kept) (sym (failure-keeps disk step)) all))
holds-then P step steps disk all rest done (first ∷ front) back (inr succeeded) =
    subst (λ (first : Call). All P (after_calls disk (first ∷ front)).kept) (sym succeeded.0)
    (rest done front back succeeded.1)

holds-last : (P : Found → Type 0) (disk : Disk) → All P disk.kept → Holds P [] disk
unfolding Performs
holds-last P disk all done front back made =
    subst (λ (front : List Call). All P (after_calls disk front).kept) (sym (no-more front back made.1)) all

module _ (disk : Disk) (text : Octets) where
  old : All (IsOldOrNew disk text) disk.kept
  old k d below = inl (Contains-get_or disk.kept k d below)

  new : All (IsOldOrNew disk text) (Text text ∷ [])
  new = All-cons (IsOldOrNew disk text) (Text text) [] (inr refl) (All-nil (IsOldOrNew disk text))

  both : All (IsOldOrNew disk text) (disk.kept ++ Text text ∷ [])
  both = All-append (IsOldOrNew disk text) disk.kept (Text text ∷ []) old new

  pub holds : Holds (IsOldOrNew disk text) (replacement text) disk
  holds =
      let one : Disk = after_step disk Unlink in
      let two : Disk = after_step one Create in
      let three : Disk = after_step two (Write text) in
      let four : Disk = after_step three Sync in
      let five : Disk = after_step four Rename in
      let six : Disk = after_step five SyncFolder in
      holds-then (IsOldOrNew disk text) Unlink _ disk old
      (holds-then (IsOldOrNew disk text) Create _ one old
      (holds-then (IsOldOrNew disk text) (Write text) _ two old
      (holds-then (IsOldOrNew disk text) Sync _ three old
      (holds-then (IsOldOrNew disk text) Rename _ four old
      (holds-then (IsOldOrNew disk text) SyncFolder _ five both
      (holds-last (IsOldOrNew disk text) six new))))))

pub keeps_old_or_new : KeepsOldOrNew
keeps_old_or_new disk text done front back made = holds disk text done front back made

-- once all is done
abbrev Ends : (Disk → Type 0) → List Step → Disk → Type 0
Ends P steps disk = (calls : List Call) → Performs steps true calls → P (after_calls disk calls)

ends-then : (P : Disk → Type 0) (step : Step) (steps : List Step) (disk : Disk) → Ends P steps (after_step disk step) → Ends P (step ∷ steps) disk
unfolding Performs
ends-then P step steps disk rest [] made = absurd made
ends-then P step steps disk rest (first ∷ calls) (inl failed) = absurd (not-done failed.1)
  where
    not-done : ◌≡◌ {A = Bool} true false → ⊥
    not-done is = cc is
ends-then P step steps disk rest (first ∷ calls) (inr succeeded) =
    subst (λ (first : Call). P (after_calls disk (first ∷ calls))) (sym succeeded.0) (rest calls succeeded.1)

ends-last : (P : Disk → Type 0) (disk : Disk) → P disk → Ends P [] disk
unfolding Performs
ends-last P disk is calls made = subst (λ (calls : List Call). P (after_calls disk calls)) (sym made.1) is

abbrev IsNew : Octets → Disk → Type 0
IsNew text disk = (disk.file.found ≡ Text text) × (disk.kept ≡ Text text ∷ [])

pub keeps_new_once_done : KeepsNewOnceDone
keeps_new_once_done disk text =
    let one : Disk = after_step disk Unlink in
    let two : Disk = after_step one Create in
    let three : Disk = after_step two (Write text) in
    let four : Disk = after_step three Sync in
    let five : Disk = after_step four Rename in
    let six : Disk = after_step five SyncFolder in
    ends-then (IsNew text) Unlink _ disk
    (ends-then (IsNew text) Create _ one
    (ends-then (IsNew text) (Write text) _ two
    (ends-then (IsNew text) Sync _ three
    (ends-then (IsNew text) Rename _ four
    (ends-then (IsNew text) SyncFolder _ five
    (ends-last (IsNew text) six (refl, refl)))))))
