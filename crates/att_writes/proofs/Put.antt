-- What is written is the old values with those of the touched handles stored.
use Rattle.std.proofs.Common.{◌≡◌, ℕ, ◌+◌, ◌-◌, ◌<◌, ◌≤◌, Bool, true, false, ◌==◌, ◌||◌, nat_lt, nat_le, if◌then◌else◌, List, [], ◌∷◌, length, map, Option, Some, None, Ok, refl, sym, ap, ◌∙◌, arith}
use Rattle.std.proofs.lemmas.Bool.Decides.{nat_tests}
use Rattle.std.proofs.lemmas.Grind.{common_steps}
use Rattle.std.proofs.lemmas.List.{length-set}
use Rattle.att_numbers.specs.Types.{Handle, Code, Values}
use Rattle.att_policy.specs.declared.policy.Access.{Access}
use Rattle.att_policy.specs.declared.standing.Standing.{Standing}
use Rattle.att_attributes.specs.declared.attr.Attr.{Attr}
use Rattle.att_table.specs.Table.{value_at, with_value}
use Rattle.att_writes.specs.Applied.{Stored, after_entry, after_entries, unless_entry_refused}
use Rattle.att_writes.specs.Entry.{Entry}
use Rattle.att_writes.specs.Fault.{entry_fault}
use Rattle.att_writes.specs.SameBut.{KeepsOthers, is_touched, values_put}
use Rattle.att_writes.proofs.AtOnce.{fits_unless_refused}
use Rattle.att_writes.proofs.Lengths.{behind}
use Rattle.att_writes.proofs.Sizes.{used, value_written}
use Rattle.att_writes.proofs.Untouched.{keeps_others}
use Rattle.octet_io.specs.Number.{Octets}

-- equal at each handle, equal lists
next_value : (x : Octets) (xs : Values) (n : ℕ) → value_at (x ∷ xs) (n + 1 + 1) ≡ value_at xs (n + 1)
next_value x xs n = grind (arith, nat_tests, common_steps)

same_values : (some other : Values) → length some ≡ length other → ((n : ℕ) → value_at some (n + 1) ≡ value_at other (n + 1)) → some ≡ other
same_values [] [] count same = refl
same_values [] (y ∷ ys) count same = absurd (omega (arith, count))
same_values (x ∷ xs) [] count same = absurd (omega (arith, count))
same_values (x ∷ xs) (y ∷ ys) count same =
    let first : x ≡ y = same 0 in
    let counts : length xs ≡ length ys = omega (arith, count) in
    let rest = same_values xs ys counts (λ n. sym (next_value x xs n) ∙ same (n + 1) ∙ next_value y ys n) in
    ap (λ z. z ∷ xs) first ∙ ap (λ zs. y ∷ zs) rest

-- each handle is one in use
abbrev AllUsed : List Entry → Type 0
AllUsed [] = Unit
AllUsed (entry ∷ rest) = (0 < entry.handle) × AllUsed rest

abbrev pub handles_in : List Entry → List Handle
handles_in entries = map (λ (entry : Entry). entry.handle) entries

-- one value that is stored
same_at : (from : Values) (handle at : Handle) (old : Octets) (here : Bool) → (handle == at) ≡ here → (if here then value_at from handle else old)
    ≡ (if here then value_at from at else old)
same_at from handle at old true is = let equal : handle ≡ at = grind (arith, nat_tests) in ap (value_at from) equal
same_at from handle at old false is = refl

stored-at : (from into : Values) (handle at : Handle) (within : Bool) → nat_le handle (length into) ≡ within → 0 < handle → 0 < at → at ≤ length into
    → value_at (with_value into handle (value_at from handle)) at ≡ (if handle == at then value_at from at else value_at into at)
stored-at from into handle at true is is_used at_used there =
    let fits : handle ≤ length into = grind (arith, nat_tests) in
    value_written into handle at (value_at from handle) is_used fits at_used ∙ same_at from handle at (value_at into at) (handle == at) refl
stored-at from into handle at false is is_used at_used there =
    let over : length into < handle = grind (arith, nat_tests) in
    let differs : (handle == at) ≡ false = grind (arith, nat_tests) in
    ap (λ values. value_at values at) (behind into handle (value_at from handle) over)
    ∙ sym (ap (λ here. if here then value_at from at else value_at into at) differs)

either : (first later : Bool) (new old : Octets) → (if later then new else (if first then new else old)) ≡ (if first || later then new else old)
either true true new old = refl
either true false new old = refl
either false true new old = refl
either false false new old = refl

touched_first : (entry : Entry) (rest : List Entry) (at : Handle) → ((entry.handle == at) || is_touched rest at) ≡ is_touched (entry ∷ rest) at
touched_first entry rest at = grind (arith, common_steps)

put_at : (entries : List Entry) (from into : Values) (at : Handle) → AllUsed entries → 0 < at → at ≤ length into
    → value_at (values_put (handles_in entries) from into) at ≡ (if is_touched entries at then value_at from at else value_at into at)
put_at [] from into at all at_used there = refl
put_at (entry ∷ rest) from into at all at_used there =
    let next = with_value into entry.handle (value_at from entry.handle) in
    let count : length next ≡ length into = length-set into (entry.handle - 1) (value_at from entry.handle) in
    let within : at ≤ length next = omega (arith, count, there) in
    put_at rest from next at all.1 at_used within
    ∙ ap (λ old. if is_touched rest at then value_at from at else old)
    (stored-at from into entry.handle at (nat_le entry.handle (length into)) refl all.0 at_used there)
    ∙ either (entry.handle == at) (is_touched rest at) (value_at from at) (value_at into at)
    ∙ ap (λ touched. if touched then value_at from at else value_at into at) (touched_first entry rest at)

put_count : (handles : List Handle) (from into : Values) → length (values_put handles from into) ≡ length into
put_count [] from into = refl
put_count (handle ∷ rest) from into = put_count rest from (with_value into handle (value_at from handle)) ∙ length-set into (handle - 1) (value_at from handle)

-- entries that are written are of handles in use
used-at : (access : Access) (attributes : List Attr) (standing : Standing) (stored new : Stored) (entry : Entry) (rest : List Entry) (fault : Option Code)
    → entry_fault access attributes standing (length (value_at stored.values entry.handle)) entry ≡ fault
    → unless_entry_refused entry fault (after_entries access attributes standing (after_entry attributes stored entry) rest) ≡ Ok new
    → (after_entries access attributes standing (after_entry attributes stored entry) rest ≡ Ok new → AllUsed rest)
    → AllUsed (entry ∷ rest)
used-at access attributes standing stored new entry rest (Some code) judged is later = cc is
used-at access attributes standing stored new entry rest None judged is later =
    let fit = fits_unless_refused access attributes standing stored entry judged in
    (used attributes entry.handle fit.exists, later is)

all_used : (access : Access) (attributes : List Attr) (standing : Standing) (entries : List Entry) (stored new : Stored)
    → after_entries access attributes standing stored entries ≡ Ok new → AllUsed entries
unfolding after_entries
all_used access attributes standing [] stored new is = tt
all_used access attributes standing (entry ∷ rest) stored new is =
    used-at access attributes standing stored new entry rest (entry_fault access attributes standing (length (value_at stored.values entry.handle)) entry) refl
    is
    (all_used access attributes standing rest (after_entry attributes stored entry) new)

no_value : (values : Values) (n : ℕ) → length values ≤ n → value_at values (n + 1) ≡ []
no_value values n over = grind (arith, nat_tests, common_steps)

kept_or_put : (touched : Bool) (new old : Octets) → (touched ≡ false → new ≡ old) → new ≡ (if touched then new else old)
kept_or_put true new old same = refl
kept_or_put false new old same = same refl

put-at : (entries : List Entry) (stored new : Stored) (n : ℕ) (within : Bool) → nat_lt n (length stored.values) ≡ within → AllUsed entries
    → KeepsOthers entries stored new
    → value_at new.values (n + 1) ≡ value_at (values_put (handles_in entries) new.values stored.values) (n + 1)
put-at entries stored new n true is all keeps =
    let there : n + 1 ≤ length stored.values = grind (arith, nat_tests) in
    let in_use : 0 < n + 1 = omega arith in
    kept_or_put (is_touched entries (n + 1)) (value_at new.values (n + 1)) (value_at stored.values (n + 1)) (keeps.values (n + 1) in_use)
    ∙ sym (put_at entries new.values stored.values (n + 1) all in_use there)
put-at entries stored new n false is all keeps =
    let over : length stored.values ≤ n = grind (arith, nat_tests) in
    let count = put_count (handles_in entries) new.values stored.values in
    let over_new : length new.values ≤ n = omega (arith, over, keeps.count) in
    let over_put : length (values_put (handles_in entries) new.values stored.values) ≤ n = omega (arith, over, count) in
    no_value new.values n over_new ∙ sym (no_value (values_put (handles_in entries) new.values stored.values) n over_put)

pub stored_touched : (access : Access) (attributes : List Attr) (standing : Standing) (entries : List Entry) (stored new : Stored)
    → after_entries access attributes standing stored entries ≡ Ok new → new.values ≡ values_put (handles_in entries) new.values stored.values
stored_touched access attributes standing entries stored new is =
    let keeps = keeps_others access attributes standing entries stored new is in
    let all = all_used access attributes standing entries stored new is in
    same_values new.values (values_put (handles_in entries) new.values stored.values)
    (keeps.count ∙ sym (put_count (handles_in entries) new.values stored.values))
    (λ n. put-at entries stored new n (nat_lt n (length stored.values)) refl all keeps)
