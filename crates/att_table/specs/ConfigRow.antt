-- The client characteristic configurations of one client, as pairs of handle and bits (Core 5.0,
-- Vol 3 Part G, 3.3.3.3).
use Rattle.std.specs.Prelude.{◌≡◌, ℕ, ◌-◌, ◌<◌, ◌≤◌, All, Bool, true, false, ◌&&◌, ◌||◌, ◌==◌, nat_lt, if◌then◌else◌, List, [], ◌∷◌, length, filter}
use Rattle.std.specs.Int.RustNames.{bit_and}
use Rattle.std.specs.List.{list_any}
use Rattle.att_numbers.specs.Types.{Handle, Row}
use Rattle.att_attributes.specs.declared.attr.Attr.{Attr}
use Rattle.att_attributes.specs.Attributes.{configuration_bits_at, is_configuration_at, type_at}
use Rattle.att_numbers.specs.declared.limit.TheConstants.{MAX_CONFIGURATIONS}

-- The bits at a handle, 0 without an entry. (P-TAB-5)
abbrev pub bits_at : Row → Handle → ℕ
bits_at [] handle = 0
bits_at (entry ∷ row) handle = if entry.0 == handle then entry.1 else bits_at row handle

-- The row with these bits at a handle, in its entry or a new last one.
abbrev pub with_bits : Row → Handle → ℕ → Row
with_bits [] handle bits = (handle, bits) ∷ []
with_bits (entry ∷ row) handle bits =
    if entry.0 == handle then (handle, bits) ∷ row else entry ∷ with_bits row handle bits

abbrev pub has_entry : Row → Handle → Bool
has_entry row handle = list_any (λ entry. entry.0 == handle) row

-- The handle has an entry, or the row has space for one.
abbrev pub has_room : Row → Handle → Bool
has_room row handle = has_entry row handle || nat_lt (length row) MAX_CONFIGURATIONS

-- An entry has a handle and the bits of notify and indicate.
abbrev pub IsEntry : Handle × ℕ → Type 0
IsEntry entry = (0 < entry.0) × (entry.1 ≤ 3)

-- No handle has two entries.
abbrev pub HasOneEntryEach : Row → Type 0
HasOneEntryEach [] = Unit
HasOneEntryEach (entry ∷ row) = (has_entry row entry.0 ≡ false) × HasOneEntryEach row

-- Each handle of the row is a configuration.
abbrev pub IsRowOf : List Attr → Row → Type 0
IsRowOf attributes row = All (λ entry. is_configuration_at attributes entry.0 ≡ true) row

-- The handle is a configuration that may have the entry's bits.
abbrev pub is_supported : List Attr → Handle × ℕ → Bool
is_supported attributes entry =
    is_configuration_at attributes entry.0
    && (bit_and entry.1 (configuration_bits_at attributes entry.0) == entry.1)

-- A configuration keeps its meaning if its value has the same type in both tables.
abbrev pub has_its_meaning : List Attr → List Attr → Handle → Bool
has_its_meaning old new handle =
    is_configuration_at old handle && (type_at old (handle - 1) == type_at new (handle - 1))

-- The entries that remain after a table is replaced, each whole (this profile's own). (P-SUB-8)
abbrev pub kept_row : List Attr → List Attr → Row → Row
kept_row old new row =
    filter (λ entry. is_supported new entry && has_its_meaning old new entry.0) row

-- The bits at a handle after a table is replaced.
abbrev pub kept_bits : List Attr → List Attr → Handle → ℕ → ℕ
kept_bits old new handle bits =
    if is_supported new (handle, bits) && has_its_meaning old new handle then bits else 0

-- A row of these attributes has space for the configuration at a handle.
abbrev pub HasRowRoom : List Attr → Handle → Type 0
HasRowRoom attributes handle =
    is_configuration_at attributes handle ≡ true → (row : Row) → IsRowOf attributes row
    → HasOneEntryEach row → has_room row handle ≡ true
