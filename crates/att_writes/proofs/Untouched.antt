-- What entries do not touch stays as it was.
use Rattle.std.proofs.Common.{◌≡◌, ℕ, ◌-◌, ◌<◌, Bool, true, false, ◌==◌, if◌then◌else◌, List, [], ◌∷◌, length, Option, Some, None, Ok, refl, subst, ap, ◌∙◌, arith}
use Rattle.std.proofs.lemmas.Bool.Decides.{nat_tests}
use Rattle.std.proofs.lemmas.Grind.{common_steps}
use Rattle.std.proofs.lemmas.List.{length-set}
use Rattle.att_numbers.specs.Types.{Handle, Code, Values, Row}
use Rattle.att_policy.specs.declared.policy.Access.{Access}
use Rattle.att_policy.specs.declared.standing.Standing.{Standing}
use Rattle.att_attributes.specs.declared.attr.Attr.{Attr}
use Rattle.att_values.specs.Cell.{value_with_part}
use Rattle.att_attributes.specs.Attributes.{is_configuration_at, is_fixed_at}
use Rattle.att_table.specs.ConfigRow.{bits_at, with_bits}
use Rattle.att_table.specs.Table.{value_at, with_value}
use Rattle.att_writes.specs.Applied.{Stored, after_entry, after_entries, first_octet, unless_entry_refused}
use Rattle.att_writes.specs.Entry.{Entry}
use Rattle.att_writes.specs.Fault.{entry_fault}
use Rattle.att_writes.specs.SameBut.{KeepsOthers, is_touched}
use Rattle.att_writes.proofs.AtOnce.{fits_unless_refused}
use Rattle.att_writes.proofs.Sizes.{used}
use Rattle.octet_io.specs.Number.{Octets}

-- a value that is stored leaves the others
value_kept : (values : Values) (handle other : Handle) (value : Octets) → 0 < handle → 0 < other → (handle == other) ≡ false
    → value_at (with_value values handle value) other ≡ value_at values other
value_kept values handle other value is_used other_used differs = grind (arith, nat_tests, common_steps)

bits_kept-at : (row : Row) (entry : Handle × ℕ) (handle other bits : ℕ) (here : Bool) → (entry.0 == handle) ≡ here → (handle == other) ≡ false
    → bits_at (with_bits row handle bits) other ≡ bits_at row other
    → bits_at (if here then (handle, bits) ∷ row else entry ∷ with_bits row handle bits) other ≡ bits_at (entry ∷ row) other
bits_kept-at row entry handle other bits true is differs later =
    let same : entry.0 ≡ handle = grind (arith, nat_tests) in
    rw (differs, ap (λ of. of == other) same ∙ differs) refl
bits_kept-at row entry handle other bits false is differs later = ap (λ rest. if entry.0 == other then entry.1 else rest) later

bits_kept : (row : Row) (handle other bits : ℕ) → (handle == other) ≡ false → bits_at (with_bits row handle bits) other ≡ bits_at row other
bits_kept [] handle other bits differs = rw differs refl
bits_kept (entry ∷ row) handle other bits differs =
    bits_kept-at row entry handle other bits (entry.0 == handle) refl differs (bits_kept row handle other bits differs)

-- one entry
kept-at : (attributes : List Attr) (stored : Stored) (entry : Entry) (is : Bool) → 0 < entry.handle
    → KeepsOthers (entry ∷ []) stored
    (if is then record stored { row = with_bits stored.row entry.handle (first_octet entry.part) }
    else record stored {
      values = with_value stored.values entry.handle
          (value_with_part (is_fixed_at attributes entry.handle) (value_at stored.values entry.handle) entry.offset entry.part);
    })
kept-at attributes stored entry true is_used = record {
  count = refl;
  values = λ handle handle_used not_touched. refl;
  row = λ handle not_touched. bits_kept stored.row entry.handle handle (first_octet entry.part) (grind (arith, nat_tests, common_steps));
}
kept-at attributes stored entry false is_used = record {
  count = length-set stored.values (entry.handle - 1) _;
  values = λ handle handle_used not_touched. value_kept stored.values entry.handle handle _ is_used handle_used (grind (arith, nat_tests, common_steps));
  row = λ handle not_touched. refl;
}

first_untouched : (entry : Entry) (rest : List Entry) (handle : Handle) → is_touched (entry ∷ rest) handle ≡ false → is_touched (entry ∷ []) handle ≡ false
first_untouched entry rest handle is = grind (arith, common_steps)

rest_untouched : (entry : Entry) (rest : List Entry) (handle : Handle) → is_touched (entry ∷ rest) handle ≡ false → is_touched rest handle ≡ false
rest_untouched entry rest handle is = grind (arith, common_steps)

more-at : (access : Access) (attributes : List Attr) (standing : Standing) (stored new : Stored) (entry : Entry) (rest : List Entry) (fault : Option Code)
    → entry_fault access attributes standing (length (value_at stored.values entry.handle)) entry ≡ fault
    → unless_entry_refused entry fault (after_entries access attributes standing (after_entry attributes stored entry) rest) ≡ Ok new
    → (after_entries access attributes standing (after_entry attributes stored entry) rest ≡ Ok new
    → KeepsOthers rest (after_entry attributes stored entry) new)
    → KeepsOthers (entry ∷ rest) stored new
more-at access attributes standing stored new entry rest (Some code) judged is later = cc is
more-at access attributes standing stored new entry rest None judged is later =
    let fit = fits_unless_refused access attributes standing stored entry judged in
    let first = kept-at attributes stored entry (is_configuration_at attributes entry.handle) (used attributes entry.handle fit.exists) in
    let others = later is in
    record {
      count = others.count ∙ first.count;
      values = λ handle handle_used not_touched.
          others.values handle handle_used (rest_untouched entry rest handle not_touched)
          ∙ first.values handle handle_used (first_untouched entry rest handle not_touched);
      row = λ handle not_touched. others.row handle (rest_untouched entry rest handle not_touched)
          ∙ first.row handle (first_untouched entry rest handle not_touched);
    }

-- what is written leaves all others
pub keeps_others : (access : Access) (attributes : List Attr) (standing : Standing) (entries : List Entry) (stored new : Stored)
    → after_entries access attributes standing stored entries ≡ Ok new → KeepsOthers entries stored new
unfolding after_entries
keeps_others access attributes standing [] stored new is =
    let same : stored ≡ new = cc is in
    subst (λ of. KeepsOthers [] stored of) same (record { count = refl; values = λ handle handle_used not_touched. refl; row = λ handle not_touched. refl })
keeps_others access attributes standing (entry ∷ rest) stored new is =
    more-at access attributes standing stored new entry rest (entry_fault access attributes standing (length (value_at stored.values entry.handle)) entry) refl
    is
    (keeps_others access attributes standing rest (after_entry attributes stored entry) new)
