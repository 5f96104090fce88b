-- What of a row stays when a table is replaced is a row of the new table, with the bits that were there.
use Rattle.std.proofs.Common.{◌≡◌, ℕ, zero, suc, ◌+◌, Bool, true, false, ◌==◌, ◌&&◌, if◌then◌else◌, List, [], ◌∷◌, ◌++◌, take, Some, refl, ap, sym, subst, ◌∙◌, arith}
use Rattle.std.specs.Prelude.{slice_get}
use Rattle.std.proofs.lemmas.Bool.Decides.{nat_tests}
use Rattle.std.specs.List.{All, filter}
use Rattle.std.proofs.lemmas.List.Elements.{All-nil, All-cons, All-filter}
use Rattle.att_numbers.specs.Types.{Handle, Row}
use Rattle.att_attributes.specs.declared.attr.Attr.{Attr}
use Rattle.att_attributes.specs.Attributes.{is_configuration_at}
use Rattle.att_table.specs.ConfigRow.{bits_at, has_entry, has_its_meaning, is_supported, kept_bits, kept_row, IsEntry, HasOneEntryEach, IsRowOf}

-- what is left out of a row adds no entry
has-filter : (test : Handle × ℕ → Bool) (row : Row) (handle : Handle) → has_entry row handle ≡ false → has_entry (filter test row) handle ≡ false
has-filter test [] handle lacks = refl
has-filter test (entry ∷ row) handle lacks =
    let later : has_entry row handle ≡ false = grind arith in
    let rest = has-filter test row handle later in
    elim (test entry) as (λ stays. has_entry (if stays then entry ∷ filter test row else filter test row) handle ≡ false) [
      | true ↦ grind (arith, rest)
      | false ↦ rest
    ]

once-filter : (test : Handle × ℕ → Bool) (row : Row) → HasOneEntryEach row → HasOneEntryEach (filter test row)
once-filter test [] once = tt
once-filter test (entry ∷ row) once =
    let rest = once-filter test row once.1 in
    elim (test entry) as (λ stays. HasOneEntryEach (if stays then entry ∷ filter test row else filter test row)) [
      | true ↦ (has-filter test row entry.0 once.0, rest)
      | false ↦ rest
    ]

row-filter : (attributes : List Attr) (test : Handle × ℕ → Bool) (row : Row)
    → IsRowOf attributes (filter (λ entry. is_supported attributes entry && test entry) row)
row-filter attributes test [] = All-nil (λ (of : Handle × ℕ). is_configuration_at attributes of.0 ≡ true)
row-filter attributes test (entry ∷ row) =
    let P = λ (of : Handle × ℕ). is_configuration_at attributes of.0 ≡ true in
    let rest = row-filter attributes test row in
    let kept = filter (λ (of : Handle × ℕ). is_supported attributes of && test of) row in
    elim (is_supported attributes entry && test entry) as (λ stays. (is_supported attributes entry && test entry) ≡ stays
    → IsRowOf attributes (if stays then entry ∷ kept else kept)) [
      | true ↦ λ passes. All-cons P entry kept (grind arith) rest
      | false ↦ λ fails. rest
    ] refl

-- an entry that stays behind others stays at their end
behind : (first entry : Handle × ℕ) (row : Row) (one more : Bool)
    → (if one then first ∷ (if more then row ++ entry ∷ [] else row) else (if more then row ++ entry ∷ [] else row))
    ≡ (if more then (if one then first ∷ row else row) ++ entry ∷ [] else (if one then first ∷ row else row))
behind first entry row true true = refl
behind first entry row true false = refl
behind first entry row false true = refl
behind first entry row false false = refl

-- what stays of one entry more
filter_next : (test : Handle × ℕ → Bool) (row : Row) (place : ℕ) (entry : Handle × ℕ) → slice_get row place ≡ Some entry
    → filter test (take (suc place) row) ≡ (if test entry then filter test (take place row) ++ entry ∷ [] else filter test (take place row))
filter_next test [] place entry at = cc at
filter_next test (first ∷ row) zero entry at = let same : first ≡ entry = cc at in ap (λ (of : Handle × ℕ). if test of then of ∷ [] else []) same
filter_next test (first ∷ row) (suc place) entry at =
    ap (λ (rest : Row). if test first then first ∷ rest else rest) (filter_next test row place entry at) ∙ behind first entry (filter test (take place row))
    (test first) (test entry)

pub kept_next : (old new : List Attr) (row : Row) (place : ℕ) (entry : Handle × ℕ) → slice_get row place ≡ Some entry
    → (if is_supported new entry && has_its_meaning old new entry.0 then kept_row old new (take place row) ++ entry ∷ [] else kept_row old new (take place row))
    ≡ kept_row old new (take (place + 1) row)
kept_next old new row place entry at =
    let next : suc place ≡ place + 1 = omega arith in
    sym (filter_next (λ (of : Handle × ℕ). is_supported new of && has_its_meaning old new of.0) row place entry at)
    ∙ ap (λ (k : ℕ). kept_row old new (take k row)) next

pub entries_of_kept : (old new : List Attr) (row : Row) → All IsEntry row → All IsEntry (kept_row old new row)
entries_of_kept old new row all = All-filter _ IsEntry row all

pub once_in_kept : (old new : List Attr) (row : Row) → HasOneEntryEach row → HasOneEntryEach (kept_row old new row)
once_in_kept old new row once = once-filter _ row once

pub row_of_kept : (old new : List Attr) (row : Row) → IsRowOf new (kept_row old new row)
row_of_kept old new row = row-filter new _ row

-- the bits that stay
none_at : (row : Row) (handle : Handle) → has_entry row handle ≡ false → bits_at row handle ≡ 0
none_at [] handle lacks = refl
none_at (entry ∷ row) handle lacks = grind (arith, nat_tests, none_at row handle)

bits-here : (test : Handle × ℕ → Bool) (row : Row) (entry : Handle × ℕ) (stays : Bool) → has_entry row entry.0 ≡ false
    → bits_at (if stays then entry ∷ filter test row else filter test row) entry.0 ≡ (if stays then entry.1 else 0)
bits-here test row entry true lacks = grind (arith, nat_tests)
bits-here test row entry false lacks = none_at (filter test row) entry.0 (has-filter test row entry.0 lacks)

bits-later : (test : Handle × ℕ → Bool) (row : Row) (entry : Handle × ℕ) (handle : Handle) (stays : Bool) → (entry.0 == handle) ≡ false
    → bits_at (if stays then entry ∷ filter test row else filter test row) handle ≡ bits_at (filter test row) handle
bits-later test row entry handle true differs = grind (arith, nat_tests)
bits-later test row entry handle false differs = refl

no-bits : (stays : Bool) → (let none : ℕ = 0 in none ≡ (if stays then none else none))
no-bits true = refl
no-bits false = refl

bits-filter : (test : Handle × ℕ → Bool) (row : Row) (handle : Handle) → HasOneEntryEach row
    → bits_at (filter test row) handle ≡ (if test (handle, bits_at row handle) then bits_at row handle else 0)
bits-filter test [] handle once = no-bits (test (handle, 0))
bits-filter test (entry ∷ row) handle once = by-handle (entry.0 == handle) refl (bits-filter test row handle once.1)
  where
    by-handle : (same : Bool) → (entry.0 == handle) ≡ same
        → bits_at (filter test row) handle ≡ (if test (handle, bits_at row handle) then bits_at row handle else 0)
        → bits_at (filter test (entry ∷ row)) handle ≡ (let bits = if same then entry.1 else bits_at row handle in if test (handle, bits) then bits else 0)
    by-handle true is later =
        let own : entry.0 ≡ handle = grind (arith, nat_tests) in
        subst (λ (h : Handle). bits_at (filter test (entry ∷ row)) h ≡ (if test (h, entry.1) then entry.1 else 0)) own
        (bits-here test row entry (test entry) once.0)
    by-handle false differs later = bits-later test row entry handle (test entry) differs ∙ later

pub bits_of_kept : (old new : List Attr) (row : Row) (handle : Handle) → HasOneEntryEach row → bits_at (kept_row old new row) handle
    ≡ kept_bits old new handle (bits_at row handle)
bits_of_kept old new row handle once = bits-filter (λ entry. is_supported new entry && has_its_meaning old new entry.0) row handle once
