-- What the bits of a row are, as a search finds them and as a write leaves them.
use Rattle.std.proofs.Common.{◌≡◌, ◌≢◌, ℕ, zero, suc, ◌-◌, ◌<◌, ◌≤◌, true, false, ◌==◌, [], ◌∷◌, ◌++◌, get_or, set, Some, None, if◌then◌else◌, refl, subst, arith}
use Rattle.std.specs.List.{All, position}
use Rattle.std.specs.Prelude.{slice_get}
use Rattle.std.proofs.lemmas.Bool.Decides.{nat_tests}
use Rattle.std.proofs.lemmas.Grind.{common_steps}
use Rattle.std.proofs.lemmas.List.Elements.{All-nil, All-cons, All-head, All-tail}
use Rattle.att_table.proofs.Configurations.{one_entry_each}
use Rattle.att_numbers.specs.Types.{Handle, Row}
use Rattle.att_table.specs.ConfigRow.{bits_at, with_bits, has_entry, IsEntry}

-- the bits are those of the entry at the place that is found
pub bits_at_found : (row : Row) (handle place : ℕ) (d : Handle × ℕ) → position (λ entry. entry.0 == handle) row ≡ Some place
    → bits_at row handle ≡ (get_or row place d).1
bits_at_found [] handle place d found = grind arith
bits_at_found (entry ∷ row) handle zero d found = grind (arith, common_steps)
bits_at_found (entry ∷ row) handle (suc place) d found = grind (arith, common_steps, bits_at_found row handle place d)

pub bits_at_missing : (row : Row) (handle : ℕ) → position (λ entry. entry.0 == handle) row ≡ None → bits_at row handle ≡ 0
bits_at_missing [] handle missing = refl
bits_at_missing (entry ∷ row) handle missing = grind (arith, common_steps, bits_at_missing row handle)

-- the place of an entry is found where there is one
pub has_found : (row : Row) (handle place : ℕ) → position (λ entry. entry.0 == handle) row ≡ Some place → has_entry row handle ≡ true
has_found [] handle place found = grind arith
has_found (entry ∷ row) handle place found = grind (arith, common_steps, has_found row handle (place - 1))

pub has_missing : (row : Row) (handle : ℕ) → position (λ entry. entry.0 == handle) row ≡ None → has_entry row handle ≡ false
has_missing [] handle missing = refl
has_missing (entry ∷ row) handle missing = grind (arith, common_steps, has_missing row handle)

-- to write over the entry at the handle is to set its bits
pub set_found : (row : Row) (handle bits place : ℕ) → position (λ entry. entry.0 == handle) row ≡ Some place → set row place (handle, bits)
    ≡ with_bits row handle bits
set_found [] handle bits place found = grind arith
set_found (entry ∷ row) handle bits zero found = grind (arith, common_steps)
set_found (entry ∷ row) handle bits (suc place) found = grind (arith, common_steps, set_found row handle bits place)

-- so is to append an entry where the row has none at the handle
pub append_missing : (row : Row) (handle bits : ℕ) → has_entry row handle ≡ false → row ++ (handle, bits) ∷ [] ≡ with_bits row handle bits
append_missing [] handle bits has = refl
append_missing (entry ∷ row) handle bits has = grind (arith, append_missing row handle bits)

-- the bits at a handle are bits that an entry may have
pub bits_at_le : (row : Row) (handle : ℕ) → All IsEntry row → bits_at row handle ≤ 3
bits_at_le [] handle all = omega arith
bits_at_le (entry ∷ row) handle all = grind (arith, All-head IsEntry entry row all, bits_at_le row handle (All-tail IsEntry entry row all))

-- each entry is one
pub is_entry_at : (row : Row) (place : ℕ) (entry : Handle × ℕ) → All IsEntry row → slice_get row place ≡ Some entry → IsEntry entry
is_entry_at [] place entry all at = cc at
is_entry_at (first ∷ row) zero entry all at = let same : first ≡ entry = cc at in subst IsEntry same (All-head IsEntry first row all)
is_entry_at (first ∷ row) (suc place) entry all at = is_entry_at row place entry (All-tail IsEntry first row all) at

-- the bits that were set are there
pub bits_at_written : (row : Row) (handle bits : ℕ) → bits_at (with_bits row handle bits) handle ≡ bits
bits_at_written [] handle bits = grind (arith, nat_tests)
bits_at_written (entry ∷ row) handle bits = grind (arith, nat_tests, bits_at_written row handle bits)

-- and those at every other handle stay
pub bits_at_other : (row : Row) (handle bits other : ℕ) → other ≢ handle → bits_at (with_bits row handle bits) other ≡ bits_at row other
bits_at_other [] handle bits other differs = grind (arith, nat_tests)
bits_at_other (entry ∷ row) handle bits other differs = grind (arith, nat_tests, bits_at_other row handle bits other differs)

-- the entries stay entries
pub All-with_bits : (row : Row) (handle bits : ℕ) → 0 < handle → bits ≤ 3 → All IsEntry row → All IsEntry (with_bits row handle bits)
All-with_bits [] handle bits used known all = All-cons IsEntry (handle, bits) [] (used, known) (All-nil IsEntry)
All-with_bits (entry ∷ row) handle bits used known all =
    let rest = All-tail IsEntry entry row all in
    elim (entry.0 == handle) as (λ same. All IsEntry (if same then (handle, bits) ∷ row else entry ∷ with_bits row handle bits)) [
      | true ↦ All-cons IsEntry (handle, bits) row (used, known) rest
      | false ↦ All-cons IsEntry entry (with_bits row handle bits) (All-head IsEntry entry row all) (All-with_bits row handle bits used known rest)
    ]

-- what a write leaves
pub ruleset writes = (bits_at_written, bits_at_other, All-with_bits, one_entry_each)
