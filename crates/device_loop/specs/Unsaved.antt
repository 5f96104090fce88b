-- The connections with unsaved changes, by the notices since the last save. This profile defines
-- them.
use Rattle.std.specs.Prelude.{◌≡◌, ◌≢◌, ◌↔◌, ℕ, Bool, true, ◌==◌, ◌≤◌, not, if◌then◌else◌, List, [], ◌∷◌, ◌++◌, length, filter, fold, All, Option, Some, None}
use Rattle.std.specs.List.{list_any}
use Rattle.host_api.specs.declared.TheConstants.{MAX_SLOTS}
use Rattle.gatt_laws.specs.machine.Notice.{Notice, Disconnected, Written, Configured, Confirmed}

abbrev pub has_connection : List ℕ → ℕ → Bool
has_connection connections handle = list_any (λ connection. connection == handle) connections

abbrev pub with_connection : List ℕ → ℕ → List ℕ
with_connection connections handle =
    if has_connection connections handle then connections else connections ++ handle ∷ []

abbrev pub without_connection : List ℕ → ℕ → List ℕ
without_connection connections handle =
    filter (λ connection. not (connection == handle)) connections

-- A connection that writes changes a value or its configuration, and one that confirms changes the
-- pending Service Changed of its bond. A disconnected one gets no answer.
abbrev pub unsaved_after : List ℕ → Notice → List ℕ
unsaved_after connections (Written handle attribute) = with_connection connections handle
unsaved_after connections (Configured handle attribute bits) = with_connection connections handle
unsaved_after connections (Confirmed handle attribute) = with_connection connections handle
unsaved_after connections (Disconnected handle) = without_connection connections handle
unsaved_after connections notice = connections

abbrev pub unsaved_by : List Notice → List ℕ
unsaved_by notices = fold unsaved_after [] notices

-- The set follows the notices since the last save, unless it exceeds the connections that a host
-- may have.
abbrev pub FollowsTheNotices : List ℕ → List ℕ → Notice → Type 0
FollowsTheNotices old new notice =
    (notices : List Notice) → old ≡ unsaved_by notices
    → length (unsaved_by (notices ++ notice ∷ [])) ≤ MAX_SLOTS
    → new ≡ unsaved_by (notices ++ notice ∷ [])

abbrev pub changed_by : Notice → Option ℕ
changed_by (Written handle attribute) = Some handle
changed_by (Configured handle attribute bits) = Some handle
changed_by (Confirmed handle attribute) = Some handle
changed_by notice = None

-- The connection changed something by these notices and has not disconnected since.
pub record HasChanged (notices : List Notice) (handle : ℕ) : Type 0 where
  pub earlier : List Notice
  pub change : Notice
  pub later : List Notice
  pub parts : notices ≡ earlier ++ change ∷ later
  pub changes : changed_by change ≡ Some handle
  pub stays : All (λ notice. notice ≢ Disconnected handle) later

-- The set has exactly the connections that changed something and have not disconnected since.
abbrev pub HoldsWhoHasChanged : Type 0
HoldsWhoHasChanged =
    (notices : List Notice) (handle : ℕ)
    → (has_connection (unsaved_by notices) handle ≡ true) ↔ HasChanged notices handle
