-- Handles in the order of their attribute types (this profile's own).
use Rattle.std.specs.Prelude.{◌≡◌, ◌<◌, ◌≤◌, ℕ, zero, suc, ◌+◌, Bool, true, ◌==◌, ◌&&◌, ◌||◌, nat_lt, nat_le, if◌then◌else◌, List, [], ◌∷◌, map, filter}
use Rattle.std.specs.List.{prefix_len}
use Rattle.att_numbers.specs.Types.{Handle, AttributeType}
use Rattle.att_attributes.specs.declared.type_index.Run.{Run}

abbrev pub Types : Type 0
Types = Handle → AttributeType

-- Inserts a handle before the first one whose type is not below its own.
abbrev pub put : Types → Handle → List Handle → List Handle
put type_of handle [] = handle ∷ []
put type_of handle (next ∷ rest) =
    if nat_lt (type_of next) (type_of handle) then next ∷ put type_of handle rest
    else handle ∷ next ∷ rest

-- Sorts handles by type and keeps the order within a type.
abbrev pub by_type : Types → List Handle → List Handle
by_type type_of [] = []
by_type type_of (handle ∷ rest) = put type_of handle (by_type type_of rest)

-- The number of handles at the start of an index whose type is below this one.
abbrev pub place_of : Types → List Handle → AttributeType → ℕ
place_of type_of index kind = prefix_len (λ handle. nat_lt (type_of handle) kind) index

-- The run of a type: the places of its handles in an index.
abbrev pub run_of : Types → List Handle → AttributeType → Run
run_of type_of index kind =
    record { begin = place_of type_of index kind; end = place_of type_of index (kind + 1) }

abbrev pub runs_of : Types → List Handle → List Run
runs_of type_of index = map (λ handle. run_of type_of index (type_of handle)) index

-- The number of handles at the start of a list that are below `from`.
abbrev pub place_from : List Handle → Handle → ℕ
place_from handles from = prefix_len (λ handle. nat_lt handle from) handles

-- The handles from `first` to `last`.
abbrev pub handles_within : Handle → Handle → List Handle → List Handle
handles_within first last handles =
    filter (λ handle. nat_le first handle && nat_le handle last) handles

-- The length of a list that `turns` comparisons can search.
abbrev pub reach : ℕ → ℕ
reach zero = 0
reach (suc turns) = reach turns + reach turns + 1

-- Order by type, then by handle.
abbrev pub is_before : AttributeType → Handle → AttributeType → Handle → Bool
is_before own_type own_handle kind handle =
    nat_lt own_type kind || ((own_type == kind) && nat_lt own_handle handle)

abbrev pub comes_before : Types → Handle → Handle → Bool
comes_before type_of x y = is_before (type_of x) x (type_of y) y

abbrev pub AllAfter : Types → Handle → List Handle → Type 0
AllAfter type_of x [] = Unit
AllAfter type_of x (y ∷ ys) = (comes_before type_of x y ≡ true) × AllAfter type_of x ys

abbrev pub IsOrdered : Types → List Handle → Type 0
IsOrdered type_of [] = Unit
IsOrdered type_of (x ∷ xs) = AllAfter type_of x xs × IsOrdered type_of xs

-- Each of these is above a handle.
abbrev pub AreAbove : Handle → List Handle → Type 0
AreAbove low [] = Unit
AreAbove low (x ∷ xs) = (low < x) × AreAbove low xs

abbrev pub IsAscending : List Handle → Type 0
IsAscending [] = Unit
IsAscending (x ∷ xs) = AreAbove x xs × IsAscending xs

-- Each of these is above `low` and at most `last`.
abbrev pub AllAbove : Handle → Handle → List Handle → Type 0
AllAbove low last [] = Unit
AllAbove low last (x ∷ xs) = (low < x) × (x ≤ last) × AllAbove low last xs

-- The handles up to `last`, in the order of their types.
pub record IsIndex (type_of : Types) (last : Handle) (index : List Handle) : Type 0 where
  pub within : AllAbove 0 last index
  pub ordered : IsOrdered type_of index
