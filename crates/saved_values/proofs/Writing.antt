-- Lines that are added one after the other.
use Rattle.std.proofs.Common.{◌≡◌, ◌+◌, ◌-◌, ◌<◌, ◌≤◌, ◌==◌, ℕ, zero, suc, Bool, true, false, if◌then◌else◌, List, [], ◌∷◌, ◌++◌, drop, filter, length, get_or, map, take, Some, None, refl, sym, ap, subst, ◌∙◌, append_assoc, arith}
use Rattle.std.specs.Prelude.{OnOk, Option, Result, Ok, Err, slice_get, unwrap_or}
use Rattle.std.specs.List.{All}
use Rattle.std.specs.Option.{option_map, option_map_or}
use Rattle.std.proofs.lemmas.Bool.Decides.{nat_tests}
use Rattle.std.proofs.lemmas.List.{append-nil, drop_all, drop_more, map-append, take_all, take_more}
use Rattle.std.proofs.lemmas.List.Elements.{All-append, All-nil, All-cons, All-head, All-tail, filter-append}
use Rattle.octet_io.specs.Number.{Octets}
use Rattle.att_attributes.specs.declared.attr.Attr.{Attr}
use Rattle.att_attributes.specs.Attributes.{attribute_at, attributes_in, largest_at}
use Rattle.att_numbers.specs.declared.limit.TheConstants.{MAX_VALUE}
use Rattle.att_table.specs.Facts.{IsTable}
use Rattle.att_table.specs.Table.{Contents, value_at}
use Rattle.saved_values.specs.SavedValue.{value_line, IsSavedValue, IsTyped}
use Rattle.saved_values.specs.Saves.{is_saved, value_told}
use Rattle.saved_values.specs.ValuesText.{saved_lines, saved_of, value_of, values_text}
use Rattle.saved_values.specs.declared.saves.Saves.{Saves}

pub all_attributes : (attributes : List Attr) (last : ℕ) → length attributes ≤ last → attributes_in attributes 1 last ≡ attributes
all_attributes attributes last within = take_all last attributes within

-- the lines of an attribute, and behind them those of others
first_of_lines : (saves : Saves) (table initial : Contents) (attr : Attr) (rest : List Attr)
    → saved_lines saves table initial (attr ∷ rest) ≡ saved_lines saves table initial (attr ∷ []) ++ saved_lines saves table initial rest
first_of_lines saves table initial attr rest =
    elim (is_saved saves table initial attr) as
    (λ saved.
    values_text (map (value_of table) (if saved then attr ∷ filter (is_saved saves table initial) rest else filter (is_saved saves table initial) rest))
    ≡ values_text (map (value_of table) (if saved then attr ∷ [] else [])) ++ saved_lines saves table initial rest) [
      | true ↦ ap (λ (line : Octets). line ++ saved_lines saves table initial rest) (sym (append-nil (value_line (value_of table attr))))
      | false ↦ refl
    ]

-- one more, and all
pub one_added : (saves : Saves) (table initial : Contents) (all : List Attr) (old now new : Octets) (index : ℕ) (attr default : Attr) → index < length all
    → attr ≡ get_or all index default → now ++ saved_lines saves table initial (drop index all) ≡ old ++ saved_lines saves table initial all
    → new ≡ now ++ saved_lines saves table initial (attr ∷ [])
    → new ++ saved_lines saves table initial (drop (index + 1) all) ≡ old ++ saved_lines saves table initial all
one_added saves table initial all old now new index attr default below same so_far added =
    let next : drop index all ≡ attr ∷ drop (index + 1) all =
    drop_more all index default below ∙ ap (λ (first : Attr). first ∷ drop (index + 1) all) (sym same) in
    ap (λ (front : Octets). front ++ saved_lines saves table initial (drop (index + 1) all)) added
    ∙ append_assoc now (saved_lines saves table initial (attr ∷ [])) (saved_lines saves table initial (drop (index + 1) all))
    ∙ ap (λ (left : Octets). now ++ left) (sym (first_of_lines saves table initial attr (drop (index + 1) all)))
    ∙ ap (λ (left : List Attr). now ++ saved_lines saves table initial left) (sym next) ∙ so_far

pub all_added : (saves : Saves) (table initial : Contents) (all : List Attr) (old now : Octets) (index : ℕ) → length all ≤ index
    → now ++ saved_lines saves table initial (drop index all) ≡ old ++ saved_lines saves table initial all → now ≡ old ++ saved_lines saves table initial all
all_added saves table initial all old now index within so_far =
    sym (append-nil now) ∙ ap (λ (left : List Attr). now ++ saved_lines saves table initial left) (sym (drop_all index all within)) ∙ so_far

-- values of the types of a table can be written
added_of : (saves : Saves) (table initial : Contents) (xs ys : List Attr)
    → saved_of saves table initial (xs ++ ys) ≡ saved_of saves table initial xs ++ saved_of saves table initial ys
added_of saves table initial xs ys =
    ap (map (value_of table)) (filter-append (is_saved saves table initial) xs ys)
    ∙ map-append (value_of table) (filter (is_saved saves table initial) xs) (filter (is_saved saves table initial) ys)

pub one_typed : (saves : Saves) (table initial : Contents) (all : List Attr) (index : ℕ) (attr default : Attr) → index < length all
    → attr ≡ get_or all index default → All IsTyped (saved_of saves table initial (take index all)) → All IsTyped (saved_of saves table initial (attr ∷ []))
    → All IsTyped (saved_of saves table initial (take (index + 1) all))
one_typed saves table initial all index attr default below same so_far typed =
    let next : take (index + 1) all ≡ take index all ++ attr ∷ [] =
    take_more all index default below ∙ ap (λ (last : Attr). take index all ++ last ∷ []) (sym same) in
    subst (All IsTyped) (sym (ap (saved_of saves table initial) next ∙ added_of saves table initial (take index all) (attr ∷ [])))
    (All-append IsTyped (saved_of saves table initial (take index all)) (saved_of saves table initial (attr ∷ [])) so_far typed)

pub all_typed : (saves : Saves) (table initial : Contents) (all : List Attr) (index : ℕ) → length all ≤ index
    → All IsTyped (saved_of saves table initial (take index all)) → All IsTyped (saved_of saves table initial all)
all_typed saves table initial all index within so_far =
    subst (λ (attributes : List Attr). All IsTyped (saved_of saves table initial attributes)) (take_all index all within) so_far

-- the value of an attribute, if it is saved
pub saved_typed : (saves : Saves) (table initial : Contents) (attr : Attr) (saved : Bool) → is_saved saves table initial attr ≡ saved
    → (saved ≡ true → IsTyped (value_of table attr)) → All IsTyped (saved_of saves table initial (attr ∷ []))
saved_typed saves table initial attr saved is typed =
    subst (λ (test : Bool). All IsTyped (map (value_of table) (if test then attr ∷ [] else []))) (sym is) (by saved typed)
  where
    by : (saved : Bool) → (saved ≡ true → IsTyped (value_of table attr)) → All IsTyped (map (value_of table) (if saved then attr ∷ [] else []))
    by true typed = All-cons IsTyped (value_of table attr) [] (typed refl) (All-nil IsTyped)
    by false typed = All-nil IsTyped

-- no value of a table is longer than a line may have
largest_few : (attributes : List Attr) (place : ℕ) → All (λ (attr : Attr). attr.largest ≤ MAX_VALUE) attributes
    → option_map_or (λ (attr : Attr). attr.largest) (slice_get attributes place) 0 ≤ MAX_VALUE
largest_few [] place all = omega arith
largest_few (attr ∷ rest) zero all = All-head (λ (attr : Attr). attr.largest ≤ MAX_VALUE) attr rest all
largest_few (attr ∷ rest) (suc place) all = largest_few rest place (All-tail (λ (attr : Attr). attr.largest ≤ MAX_VALUE) attr rest all)

largest_at_few : (attributes : List Attr) (place : ℕ) → All (λ (attr : Attr). attr.largest ≤ MAX_VALUE) attributes
    → largest_at attributes (suc place) ≤ MAX_VALUE
largest_at_few attributes place all =
    let test : (suc place == 0) ≡ false = grind (arith, nat_tests) in
    let less : suc place - 1 ≡ place = omega arith in
    rw (test, less) (largest_few attributes place all)

told_few : (table : Contents) (handle : ℕ) → IsTable table → length (value_told table handle) ≤ MAX_VALUE
told_few table handle is = by (attribute_at table.attributes handle) refl
  where
    by : (found : Option Attr) → attribute_at table.attributes handle ≡ found
        → length (unwrap_or (option_map (λ (_ : Attr). value_at table.values handle) found) []) ≤ MAX_VALUE
    by None at = omega arith
    by (Some attr) at = placed handle at
      where
        placed : (handle : ℕ) → attribute_at table.attributes handle ≡ Some attr → length (value_at table.values handle) ≤ MAX_VALUE
        placed zero at = cc at
        placed (suc place) at =
            let most = largest_at_few table.attributes place is.largest in
            let within = is.within (suc place) (omega arith) in
            omega (arith, most, within)

pub saved_values_of : (saves : Saves) (table initial : Contents) (attributes : List Attr) → IsTable table
    → All IsTyped (saved_of saves table initial attributes) → All IsSavedValue (saved_of saves table initial attributes)
saved_values_of saves table initial attributes is typed = of (filter (is_saved saves table initial) attributes) typed
  where
    of : (chosen : List Attr) → All IsTyped (map (value_of table) chosen) → All IsSavedValue (map (value_of table) chosen)
    of [] typed = All-nil IsSavedValue
    of (attr ∷ rest) typed =
        let one = All-head IsTyped (value_of table attr) (map (value_of table) rest) typed in
        All-cons IsSavedValue (value_of table attr) (map (value_of table) rest)
        (record {
          handle = one.handle;
          kind = one.kind;
          few = omega (arith, told_few table attr.handle is);
          octets = one.octets;
        })
        (of rest (All-tail IsTyped (value_of table attr) (map (value_of table) rest) typed))

pub values_written : {A E : Type 0} (result : Result A E) (saves : Saves) (table initial : Contents) (attributes : List Attr) → IsTable table
    → OnOk result (All IsTyped (saved_of saves table initial attributes)) → OnOk result (All IsSavedValue (saved_of saves table initial attributes))
values_written (Ok done) saves table initial attributes is typed = saved_values_of saves table initial attributes is typed
values_written (Err fault) saves table initial attributes is typed = tt
