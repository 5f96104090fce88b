-- Equality of values except hidden ones.
use Rattle.std.specs.Prelude.{◌≡◌, ◌<◌, Bool, false, ◌==◌, List, [], ◌∷◌, length, map, filter, Result, Ok, Err}
use Rattle.std.specs.List.{list_any}
use Rattle.att_numbers.specs.Types.{Handle, Values, Row}
use Rattle.att_policy.specs.Refusal.{Refusal}
use Rattle.att_attributes.specs.Attributes.{is_configuration_at}
use Rattle.att_table.specs.ConfigRow.{bits_at, with_bits}
use Rattle.att_table.specs.Table.{value_at, with_value}
use Rattle.att_policy.specs.declared.policy.Access.{Access}
use Rattle.att_policy.specs.declared.standing.Standing.{Standing}
use Rattle.att_attributes.specs.declared.attr.Attr.{Attr}
use Rattle.att_writes.specs.Applied.{Stored, after_entries}
use Rattle.att_writes.specs.Entry.{Entry}

-- All values have equal lengths, and those not hidden are equal.
pub record SameBut (hidden : Handle → Bool) (some other : Values) : Type 0 where
  pub count : length some ≡ length other
  pub lengths : (handle : Handle) → 0 < handle → length (value_at some handle)
      ≡ length (value_at other handle)
  pub shown : (handle : Handle) → 0 < handle → hidden handle ≡ false
      → value_at some handle ≡ value_at other handle

-- The rejections are equal, or the states are except for hidden values.
abbrev pub SameApplied : (Handle → Bool) → Result Stored Refusal → Result Stored Refusal → Type 0
SameApplied hidden (Ok some) (Ok other) =
    SameBut hidden some.values other.values × (some.row ≡ other.row)
SameApplied hidden (Err some) (Err other) = some ≡ other
SameApplied hidden (Ok some) (Err other) = ⊥
SameApplied hidden (Err some) (Ok other) = ⊥

abbrev pub is_touched : List Entry → Handle → Bool
is_touched entries handle = list_any (λ (entry : Entry). entry.handle == handle) entries

-- The entries changed only values and configurations with their handles.
pub record KeepsOthers (entries : List Entry) (old new : Stored) : Type 0 where
  pub count : length new.values ≡ length old.values
  pub values : (handle : Handle) → 0 < handle → is_touched entries handle ≡ false
      → value_at new.values handle ≡ value_at old.values handle
  pub row : (handle : Handle) → is_touched entries handle ≡ false → bits_at new.row handle
      ≡ bits_at old.row handle

-- The values at these handles copied into another list; below, the bits into another row.
abbrev pub values_put : List Handle → Values → Values → Values
values_put [] from into = into
values_put (handle ∷ rest) from into =
    values_put rest from (with_value into handle (value_at from handle))

abbrev pub bits_put : List Handle → Row → Row → Row
bits_put [] from into = into
bits_put (handle ∷ rest) from into =
    bits_put rest from (with_bits into handle (bits_at from handle))

-- Lengths of values, never their octets, decide which entries are rejected.
abbrev pub JudgesByLengths : Type 0
JudgesByLengths =
    (hidden : Handle → Bool) (access : Access) (attributes : List Attr) (standing : Standing)
    (entries : List Entry) (some other : Stored)
    → SameBut hidden some.values other.values → some.row ≡ other.row
    → SameApplied hidden (after_entries access attributes standing some entries)
    (after_entries access attributes standing other entries)

-- Accepted entries change nothing else.
abbrev pub LeavesOthers : Type 0
LeavesOthers =
    (access : Access) (attributes : List Attr) (standing : Standing) (entries : List Entry)
    (stored new : Stored)
    → after_entries access attributes standing stored entries ≡ Ok new
    → KeepsOthers entries stored new

-- Only the values at the entries' handles change.
abbrev pub StoresTouched : Type 0
StoresTouched =
    (access : Access) (attributes : List Attr) (standing : Standing) (entries : List Entry)
    (stored new : Stored)
    → after_entries access attributes standing stored entries ≡ Ok new
    → new.values ≡ values_put (map (λ (entry : Entry). entry.handle) entries) new.values
    stored.values

-- Only the bits of the entries' configurations change.
abbrev pub SetsTouched : Type 0
SetsTouched =
    (access : Access) (attributes : List Attr) (standing : Standing) (entries : List Entry)
    (stored new : Stored)
    → after_entries access attributes standing stored entries ≡ Ok new
    → new.row
    ≡ bits_put
    (filter (is_configuration_at attributes) (map (λ (entry : Entry). entry.handle) entries))
    new.row stored.row
