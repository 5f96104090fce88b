-- What is written depends on the lengths of the values that stand, and leaves all values that it does not touch.
use Rattle.std.proofs.Common.{◌≡◌, ℕ, ◌-◌, ◌<◌, ◌≤◌, Bool, true, false, ◌==◌, nat_le, if◌then◌else◌, List, [], ◌∷◌, length, Option, Some, None, Ok, refl, sym, ap, ◌∙◌, subst, arith, length-append, length-take, length-drop}
use Rattle.std.proofs.lemmas.Bool.Decides.{nat_tests}
use Rattle.std.proofs.lemmas.Grind.{common_steps}
use Rattle.std.proofs.lemmas.List.{length-set}
use Rattle.att_numbers.specs.Types.{Handle, Code, Values}
use Rattle.att_policy.specs.declared.policy.Access.{Access}
use Rattle.att_policy.specs.declared.standing.Standing.{Standing}
use Rattle.att_attributes.specs.declared.attr.Attr.{Attr}
use Rattle.att_values.specs.Cell.{value_with_part}
use Rattle.att_attributes.specs.Attributes.{is_configuration_at, is_fixed_at}
use Rattle.att_table.specs.ConfigRow.{with_bits}
use Rattle.att_table.specs.Table.{value_at, with_value}
use Rattle.att_writes.specs.Applied.{Stored, after_entry, after_entries, first_octet}
use Rattle.att_writes.specs.Entry.{Entry}
use Rattle.att_writes.specs.Fault.{entry_fault}
use Rattle.att_writes.specs.SameBut.{SameBut, SameApplied}
use Rattle.att_writes.proofs.AtOnce.{fits_unless_refused}
use Rattle.att_writes.proofs.Reached.{same_by_then}
use Rattle.att_writes.proofs.Sizes.{used, value_written}
use Rattle.octet_io.specs.Number.{Octets}

-- a value that is stored behind the end of the list changes nothing
pub behind : (values : Values) (handle : Handle) (value : Octets) → length values < handle → with_value values handle value ≡ values
behind values handle value over = grind (arith, nat_tests, common_steps)

-- the lengths of what a part leaves
patched_length : (fixed : Bool) (some other part : Octets) (offset : ℕ) → length some ≡ length other → length (value_with_part fixed some offset part)
    ≡ length (value_with_part fixed other offset part)
patched_length true some other part offset same = simp (length-append, length-take, length-drop) (omega (arith, same))
patched_length false some other part offset same = simp (length-append, length-take) (omega (arith, same))

-- the same is stored in both
either_length : (test : Bool) (x y : Octets) (some other : Octets) → length x ≡ length y → length some ≡ length other → length (if test then x else some)
    ≡ length (if test then y else other)
either_length true x y some other stored stood = stored
either_length false x y some other stored stood = stood

either_shown : (hidden : Handle → Bool) (handle at : Handle) (x y some other : Octets) (test : Bool) → (handle == at) ≡ test → (hidden handle ≡ false → x ≡ y)
    → hidden at ≡ false → some ≡ other
    → (if test then x else some) ≡ (if test then y else other)
either_shown hidden handle at x y some other true is stored shown stood = let equal : handle ≡ at = grind (arith, nat_tests) in stored (ap hidden equal ∙ shown)
either_shown hidden handle at x y some other false is stored shown stood = stood

stored_within : (hidden : Handle → Bool) (some other : Values) (handle : Handle) (value own : Octets) → 0 < handle → handle ≤ length some
    → SameBut hidden some other
    → length value ≡ length own → (hidden handle ≡ false → value ≡ own) → SameBut hidden (with_value some handle value) (with_value other handle own)
stored_within hidden some other handle value own is_used within same lengths shown =
    let there : handle ≤ length other = omega (arith, within, same.count) in
    record {
      count = length-set some (handle - 1) value ∙ same.count ∙ sym (length-set other (handle - 1) own);
      lengths = λ at at_used.
          ap length (value_written some handle at value is_used within at_used)
          ∙ either_length (handle == at) value own (value_at some at) (value_at other at) lengths (same.lengths at at_used)
          ∙ sym (ap length (value_written other handle at own is_used there at_used));
      shown = λ at at_used is.
          value_written some handle at value is_used within at_used
          ∙ either_shown hidden handle at value own (value_at some at) (value_at other at) (handle == at) refl shown is (same.shown at at_used is)
          ∙ sym (value_written other handle at own is_used there at_used);
    }

stored_both-at : (hidden : Handle → Bool) (some other : Values) (handle : Handle) (value own : Octets) (within : Bool) → nat_le handle (length some) ≡ within
    → 0 < handle → SameBut hidden some other
    → length value ≡ length own → (hidden handle ≡ false → value ≡ own) → SameBut hidden (with_value some handle value) (with_value other handle own)
stored_both-at hidden some other handle value own true is is_used same lengths shown =
    let there : handle ≤ length some = grind (arith, nat_tests) in
    stored_within hidden some other handle value own is_used there same lengths shown
stored_both-at hidden some other handle value own false is is_used same lengths shown =
    let over : length some < handle = grind (arith, nat_tests) in
    let over_too : length other < handle = omega (arith, over, same.count) in
    let before = behind some handle value over in
    let after = behind other handle own over_too in
    subst (λ values. SameBut hidden values (with_value other handle own)) (sym before) (subst (λ values. SameBut hidden some values) (sym after) same)

pub stored_both : (hidden : Handle → Bool) (some other : Values) (handle : Handle) (value own : Octets) → 0 < handle → SameBut hidden some other
    → length value ≡ length own → (hidden handle ≡ false → value ≡ own) → SameBut hidden (with_value some handle value) (with_value other handle own)
stored_both hidden some other handle value own is_used same lengths shown =
    stored_both-at hidden some other handle value own (nat_le handle (length some)) refl is_used same lengths shown

-- after one entry
entry_both-at : (hidden : Handle → Bool) (attributes : List Attr) (some other : Stored) (entry : Entry) (is : Bool) → 0 < entry.handle
    → SameBut hidden some.values other.values → some.row ≡ other.row
    → SameApplied hidden
    (Ok (if is then record some { row = with_bits some.row entry.handle (first_octet entry.part) }
    else record some {
      values = with_value some.values entry.handle
          (value_with_part (is_fixed_at attributes entry.handle) (value_at some.values entry.handle) entry.offset entry.part);
    }))
    (Ok (if is then record other { row = with_bits other.row entry.handle (first_octet entry.part) }
    else record other {
      values = with_value other.values entry.handle
          (value_with_part (is_fixed_at attributes entry.handle) (value_at other.values entry.handle) entry.offset entry.part);
    }))
entry_both-at hidden attributes some other entry true is_used same rows = (same, ap (λ row. with_bits row entry.handle (first_octet entry.part)) rows)
entry_both-at hidden attributes some other entry false is_used same rows =
    let fixed = is_fixed_at attributes entry.handle in
    let here = value_at some.values entry.handle in
    let there = value_at other.values entry.handle in (
      stored_both hidden some.values other.values entry.handle (value_with_part fixed here entry.offset entry.part)
          (value_with_part fixed there entry.offset entry.part) is_used same
          (patched_length fixed here there entry.part entry.offset (same.lengths entry.handle is_used))
          (λ shown. ap (λ value. value_with_part fixed value entry.offset entry.part) (same.shown entry.handle is_used shown)),
      rows,
    )

entry_both : (hidden : Handle → Bool) (attributes : List Attr) (some other : Stored) (entry : Entry) → 0 < entry.handle
    → SameBut hidden some.values other.values → some.row ≡ other.row
    → SameBut hidden (after_entry attributes some entry).values (after_entry attributes other entry).values
    × ((after_entry attributes some entry).row ≡ (after_entry attributes other entry).row)
entry_both hidden attributes some other entry is_used same rows =
    entry_both-at hidden attributes some other entry (is_configuration_at attributes entry.handle) is_used same rows

-- a refusal, or what is written, over values that differ in the octets of hidden ones alone
applied_both-at : (hidden : Handle → Bool) (access : Access) (attributes : List Attr) (standing : Standing) (some other : Stored) (entry : Entry)
    (rest : List Entry) (fault : Option Code)
    → entry_fault access attributes standing (length (value_at some.values entry.handle)) entry ≡ fault
    → entry_fault access attributes standing (length (value_at other.values entry.handle)) entry ≡ fault
    → (fault ≡ None → SameApplied hidden (after_entries access attributes standing (after_entry attributes some entry) rest)
    (after_entries access attributes standing (after_entry attributes other entry) rest))
    → SameApplied hidden (after_entries access attributes standing some (entry ∷ rest)) (after_entries access attributes standing other (entry ∷ rest))
unfolding after_entries
applied_both-at hidden access attributes standing some other entry rest (Some code) is was later = rw (is, was) refl
applied_both-at hidden access attributes standing some other entry rest None is was later = rw (is, was) (later refl)

pub applied_both : (hidden : Handle → Bool) (access : Access) (attributes : List Attr) (standing : Standing) (entries : List Entry) (some other : Stored)
    → SameBut hidden some.values other.values → some.row ≡ other.row
    → SameApplied hidden (after_entries access attributes standing some entries) (after_entries access attributes standing other entries)
unfolding after_entries
applied_both hidden access attributes standing [] some other same rows = (same, rows)
applied_both hidden access attributes standing (entry ∷ rest) some other same rows =
    let one = length (value_at some.values entry.handle) in
    let own = length (value_at other.values entry.handle) in
    let judged : entry_fault access attributes standing one entry ≡ entry_fault access attributes standing own entry =
    same_by_then access attributes standing one own entry (λ is_used not_own. same.lengths entry.handle is_used) in
    applied_both-at hidden access attributes standing some other entry rest (entry_fault access attributes standing own entry) judged refl
    (λ none.
    let fit = fits_unless_refused access attributes standing other entry none in
    let after = entry_both hidden attributes some other entry (used attributes entry.handle fit.exists) same rows in
    applied_both hidden access attributes standing rest (after_entry attributes some entry) (after_entry attributes other entry) after.0 after.1)
