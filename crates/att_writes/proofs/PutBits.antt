-- What is written is the old row with the bits of the touched configurations set.
use Rattle.std.proofs.Common.{◌≡◌, ℕ, Bool, true, false, ◌==◌, if◌then◌else◌, List, [], ◌∷◌, length, map, filter, Option, Some, None, Ok, refl, sym, ap, ◌∙◌, arith}
use Rattle.std.proofs.lemmas.Bool.Decides.{nat_tests}
use Rattle.std.proofs.lemmas.Grind.{common_steps}
use Rattle.std.specs.List.{list_any}
use Rattle.std.proofs.lemmas.Bool.{or_from}
use Rattle.att_numbers.specs.Types.{Handle, Code, Row}
use Rattle.att_policy.specs.declared.policy.Access.{Access}
use Rattle.att_policy.specs.declared.standing.Standing.{Standing}
use Rattle.att_attributes.specs.declared.attr.Attr.{Attr}
use Rattle.att_attributes.specs.Attributes.{is_configuration_at}
use Rattle.att_table.specs.ConfigRow.{bits_at, with_bits, has_entry}
use Rattle.att_table.specs.Table.{value_at}
use Rattle.att_writes.specs.Applied.{Stored, after_entry, after_entries, first_octet, unless_entry_refused}
use Rattle.att_writes.specs.Entry.{Entry}
use Rattle.att_writes.specs.Fault.{entry_fault}
use Rattle.att_writes.specs.SameBut.{is_touched, bits_put}
use Rattle.att_writes.proofs.Untouched.{keeps_others}
use Rattle.octet_io.proofs.Choices.{or_false_left, or_false_right}

-- bits that are set twice at a handle are the last
twice-at : (row : Row) (entry : Handle × ℕ) (handle bits last : ℕ) (here : Bool) → (entry.0 == handle) ≡ here
    → with_bits (with_bits row handle bits) handle last ≡ with_bits row handle last
    → with_bits (if here then (handle, bits) ∷ row else entry ∷ with_bits row handle bits) handle last
    ≡ (if here then (handle, last) ∷ row else entry ∷ with_bits row handle last)
twice-at row entry handle bits last true is later = grind (arith, nat_tests, common_steps)
twice-at row entry handle bits last false is later = rw is (ap (λ rest. entry ∷ rest) later)

pub twice : (row : Row) (handle bits last : ℕ) → with_bits (with_bits row handle bits) handle last ≡ with_bits row handle last
twice [] handle bits last = grind (arith, nat_tests, common_steps)
twice (entry ∷ row) handle bits last = twice-at row entry handle bits last (entry.0 == handle) refl (twice row handle bits last)

-- what is set is there
bits_there-at : (row : Row) (entry : Handle × ℕ) (handle bits : ℕ) (here : Bool) → (entry.0 == handle) ≡ here → bits_at (with_bits row handle bits) handle
    ≡ bits
    → bits_at (if here then (handle, bits) ∷ row else entry ∷ with_bits row handle bits) handle ≡ bits
bits_there-at row entry handle bits true is later = grind (arith, nat_tests, common_steps)
bits_there-at row entry handle bits false is later = rw is later

bits_there : (row : Row) (handle bits : ℕ) → bits_at (with_bits row handle bits) handle ≡ bits
bits_there [] handle bits = grind (arith, nat_tests, common_steps)
bits_there (entry ∷ row) handle bits = bits_there-at row entry handle bits (entry.0 == handle) refl (bits_there row handle bits)

-- setting the bits of an entry that is there, and those of another handle, in either order
apart-at : (row : Row) (entry : Handle × ℕ) (handle bits other own : ℕ) (here there : Bool) → (entry.0 == handle) ≡ here → (entry.0 == other) ≡ there
    → (other == handle) ≡ false
    → (here ≡ false → with_bits (with_bits row other own) handle bits ≡ with_bits (with_bits row handle bits) other own)
    → with_bits (if there then (other, own) ∷ row else entry ∷ with_bits row other own) handle bits
    ≡ with_bits (if here then (handle, bits) ∷ row else entry ∷ with_bits row handle bits) other own
apart-at row entry handle bits other own true true is was differs later =
    let same : (other == handle) ≡ true = grind (arith, nat_tests) in absurd (cc (same, differs))
apart-at row entry handle bits other own true false is was differs later =
    let back : (handle == other) ≡ false = grind (arith, nat_tests) in rw (is, back) refl
apart-at row entry handle bits other own false true is was differs later = rw (differs, was) refl
apart-at row entry handle bits other own false false is was differs later = rw (is, was) (ap (λ rest. entry ∷ rest) (later refl))

rest_has : (row : Row) (entry : Handle × ℕ) (handle : Handle) → has_entry (entry ∷ row) handle ≡ true → (entry.0 == handle) ≡ false
    → has_entry row handle ≡ true
rest_has row entry handle has differs = grind (arith, common_steps)

pub apart : (row : Row) (handle bits other own : ℕ) → has_entry row handle ≡ true → (other == handle) ≡ false
    → with_bits (with_bits row other own) handle bits ≡ with_bits (with_bits row handle bits) other own
apart [] handle bits other own has differs = absurd (cc has)
apart (entry ∷ row) handle bits other own has differs =
    apart-at row entry handle bits other own (entry.0 == handle) (entry.0 == other) refl refl differs
    (λ is. apart row handle bits other own (rest_has row entry handle has is) differs)

-- an entry stays, and one that is set is there
has_set-at : (row : Row) (entry : Handle × ℕ) (handle other own : ℕ) (there : Bool) → (entry.0 == other) ≡ there
    → (has_entry row handle ≡ true → has_entry (with_bits row other own) handle ≡ true)
    → has_entry (entry ∷ row) handle ≡ true → has_entry (if there then (other, own) ∷ row else entry ∷ with_bits row other own) handle ≡ true
has_set-at row entry handle other own true is later has = grind (arith, nat_tests, common_steps)
has_set-at row entry handle other own false is later has = grind (arith, nat_tests, common_steps)

has_set : (row : Row) (handle other own : ℕ) → has_entry row handle ≡ true → has_entry (with_bits row other own) handle ≡ true
has_set [] handle other own has = absurd (cc has)
has_set (entry ∷ row) handle other own has = has_set-at row entry handle other own (entry.0 == other) refl (has_set row handle other own) has

has_own-at : (row : Row) (entry : Handle × ℕ) (handle bits : ℕ) (here : Bool) → (entry.0 == handle) ≡ here → has_entry (with_bits row handle bits) handle ≡ true
    → has_entry (if here then (handle, bits) ∷ row else entry ∷ with_bits row handle bits) handle ≡ true
has_own-at row entry handle bits true is later = grind (arith, nat_tests, common_steps)
has_own-at row entry handle bits false is later = grind (arith, nat_tests, common_steps)

pub has_own : (row : Row) (handle bits : ℕ) → has_entry (with_bits row handle bits) handle ≡ true
has_own [] handle bits = grind (arith, nat_tests, common_steps)
has_own (entry ∷ row) handle bits = has_own-at row entry handle bits (entry.0 == handle) refl (has_own row handle bits)

-- what stands at a handle that is set later does not matter
abbrev is_in : List Handle → Handle → Bool
is_in handles handle = list_any (λ other. other == handle) handles

rest_in : (first : Handle) (rest : List Handle) (handle : Handle) → is_in (first ∷ rest) handle ≡ true → (first == handle) ≡ false → is_in rest handle ≡ true
rest_in first rest handle within differs = grind (arith, common_steps)

put_same-at : (from some other : Row) (first : Handle) (rest : List Handle) (handle : Handle) (here : Bool) → (first == handle) ≡ here
    → is_in (first ∷ rest) handle ≡ true
    → has_entry some handle ≡ true → has_entry other handle ≡ true → ((bits : ℕ) → with_bits some handle bits ≡ with_bits other handle bits)
    → (is_in rest handle ≡ true → has_entry (with_bits some first (bits_at from first)) handle ≡ true
    → has_entry (with_bits other first (bits_at from first)) handle ≡ true
    → ((bits : ℕ) → with_bits (with_bits some first (bits_at from first)) handle bits ≡ with_bits (with_bits other first (bits_at from first)) handle bits)
    → bits_put rest from (with_bits some first (bits_at from first)) ≡ bits_put rest from (with_bits other first (bits_at from first)))
    → bits_put (first ∷ rest) from some ≡ bits_put (first ∷ rest) from other
put_same-at from some other first rest handle true is within has own same later =
    let equal : first ≡ handle = grind (arith, nat_tests) in
    ap (λ of. bits_put rest from (with_bits some of (bits_at from of))) equal
    ∙ ap (bits_put rest from) (same (bits_at from handle))
    ∙ sym (ap (λ of. bits_put rest from (with_bits other of (bits_at from of))) equal)
put_same-at from some other first rest handle false is within has own same later =
    let bits = bits_at from first in
    later (rest_in first rest handle within is) (has_set some handle first bits has) (has_set other handle first bits own)
    (λ last. apart some handle last first bits has is ∙ ap (λ row. with_bits row first bits) (same last) ∙ sym (apart other handle last first bits own is))

put_same : (handles : List Handle) (from some other : Row) (handle : Handle) → is_in handles handle ≡ true
    → has_entry some handle ≡ true → has_entry other handle ≡ true → ((bits : ℕ) → with_bits some handle bits ≡ with_bits other handle bits)
    → bits_put handles from some ≡ bits_put handles from other
put_same [] from some other handle within has own same = absurd (cc within)
put_same (first ∷ rest) from some other handle within has own same =
    put_same-at from some other first rest handle (first == handle) refl within has own same
    (put_same rest from (with_bits some first (bits_at from first)) (with_bits other first (bits_at from first)) handle)

-- the configurations among the handles of entries
abbrev pub configured : List Attr → List Entry → List Handle
configured attributes entries = filter (is_configuration_at attributes) (map (λ (entry : Entry). entry.handle) entries)

one_put-at : (attributes : List Attr) (entry : Entry) (rest : List Entry) (stored new : Row) (bits : ℕ) (within : Bool)
    → is_in (configured attributes rest) entry.handle ≡ within
    → (within ≡ false → bits_at new entry.handle ≡ bits)
    → bits_put (configured attributes rest) new (with_bits stored entry.handle bits)
    ≡ bits_put (configured attributes rest) new (with_bits stored entry.handle (bits_at new entry.handle))
one_put-at attributes entry rest stored new bits true is kept =
    let last = bits_at new entry.handle in
    put_same (configured attributes rest) new (with_bits stored entry.handle bits) (with_bits stored entry.handle last) entry.handle is
    (has_own stored entry.handle bits) (has_own stored entry.handle last)
    (λ of. twice stored entry.handle bits of ∙ sym (twice stored entry.handle last of))
one_put-at attributes entry rest stored new bits false is kept =
    ap (λ of. bits_put (configured attributes rest) new (with_bits stored entry.handle of)) (sym (kept refl))

not_own : (attributes : List Attr) (first handle : Handle) (same : Bool) → (first == handle) ≡ same → is_configuration_at attributes first ≡ false
    → is_configuration_at attributes handle ≡ true → same ≡ false
not_own attributes first handle true is not of = let equal : first ≡ handle = grind (arith, nat_tests) in absurd (cc (not, of, equal))
not_own attributes first handle false is not of = refl

none_touched-at : (attributes : List Attr) (first : Entry) (rest : List Entry) (handle : Handle) (own : Bool) → is_configuration_at attributes first.handle
    ≡ own → is_configuration_at attributes handle ≡ true
    → (is_in (configured attributes rest) handle ≡ false → is_touched rest handle ≡ false)
    → is_in (configured attributes (first ∷ rest)) handle ≡ false → is_touched (first ∷ rest) handle ≡ false
none_touched-at attributes first rest handle true is of later none =
    let all : configured attributes (first ∷ rest) ≡ first.handle ∷ configured attributes rest = rw is refl in
    let split : is_in (first.handle ∷ configured attributes rest) handle ≡ false = ap (λ handles. is_in handles handle) (sym all) ∙ none in
    or_from (first.handle == handle) (is_touched rest handle) (or_false_left (first.handle == handle) (is_in (configured attributes rest) handle) split)
    (later (or_false_right (first.handle == handle) (is_in (configured attributes rest) handle) split))
none_touched-at attributes first rest handle false is of later none =
    let all : configured attributes (first ∷ rest) ≡ configured attributes rest = rw is refl in
    let left : is_in (configured attributes rest) handle ≡ false = ap (λ handles. is_in handles handle) (sym all) ∙ none in
    or_from (first.handle == handle) (is_touched rest handle) (not_own attributes first.handle handle (first.handle == handle) refl is of) (later left)

none_touched : (attributes : List Attr) (entries : List Entry) (handle : Handle) → is_configuration_at attributes handle ≡ true
    → is_in (configured attributes entries) handle ≡ false → is_touched entries handle ≡ false
none_touched attributes [] handle of none = refl
none_touched attributes (first ∷ rest) handle of none =
    none_touched-at attributes first rest handle (is_configuration_at attributes first.handle) refl of (none_touched attributes rest handle of) none

-- one entry, and those after it
row-at : (access : Access) (attributes : List Attr) (standing : Standing) (stored new : Stored) (entry : Entry) (rest : List Entry) (own : Bool)
    → is_configuration_at attributes entry.handle ≡ own
    → after_entries access attributes standing (after_entry attributes stored entry) rest ≡ Ok new
    → new.row ≡ bits_put (configured attributes rest) new.row (after_entry attributes stored entry).row
    → new.row ≡ bits_put (configured attributes (entry ∷ rest)) new.row stored.row
row-at access attributes standing stored new entry rest true is written later =
    let bits = first_octet entry.part in
    let all : configured attributes (entry ∷ rest) ≡ entry.handle ∷ configured attributes rest = rw is refl in
    let after : (after_entry attributes stored entry).row ≡ with_bits stored.row entry.handle bits = rw is refl in
    later ∙ ap (bits_put (configured attributes rest) new.row) after
    ∙ one_put-at attributes entry rest stored.row new.row bits (is_in (configured attributes rest) entry.handle) refl
    (λ none.
    (keeps_others access attributes standing rest (after_entry attributes stored entry) new written).row entry.handle
    (none_touched attributes rest entry.handle is none)
    ∙ ap (λ row. bits_at row entry.handle) after ∙ bits_there stored.row entry.handle bits)
    ∙ ap (λ handles. bits_put handles new.row stored.row) (sym all)
row-at access attributes standing stored new entry rest false is written later =
    let all : configured attributes (entry ∷ rest) ≡ configured attributes rest = rw is refl in
    let after : (after_entry attributes stored entry).row ≡ stored.row = rw is refl in
    later ∙ ap (bits_put (configured attributes rest) new.row) after ∙ ap (λ handles. bits_put handles new.row stored.row) (sym all)

judged-at : (access : Access) (attributes : List Attr) (standing : Standing) (stored new : Stored) (entry : Entry) (rest : List Entry) (fault : Option Code)
    → unless_entry_refused entry fault (after_entries access attributes standing (after_entry attributes stored entry) rest) ≡ Ok new
    → (after_entries access attributes standing (after_entry attributes stored entry) rest ≡ Ok new
    → new.row ≡ bits_put (configured attributes rest) new.row (after_entry attributes stored entry).row)
    → new.row ≡ bits_put (configured attributes (entry ∷ rest)) new.row stored.row
judged-at access attributes standing stored new entry rest (Some code) is later = absurd (cc is)
judged-at access attributes standing stored new entry rest None is later =
    row-at access attributes standing stored new entry rest (is_configuration_at attributes entry.handle) refl is (later is)

pub row_touched : (access : Access) (attributes : List Attr) (standing : Standing) (entries : List Entry) (stored new : Stored)
    → after_entries access attributes standing stored entries ≡ Ok new → new.row ≡ bits_put (configured attributes entries) new.row stored.row
unfolding after_entries
row_touched access attributes standing [] stored new is = let same : stored ≡ new = cc is in sym (ap (λ (of : Stored). of.row) same)
row_touched access attributes standing (entry ∷ rest) stored new is =
    judged-at access attributes standing stored new entry rest (entry_fault access attributes standing (length (value_at stored.values entry.handle)) entry) is
    (row_touched access attributes standing rest (after_entry attributes stored entry) new)
