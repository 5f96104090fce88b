-- The values that are saved of a table are restored.
use Rattle.std.proofs.Common.{◌≡◌, ℕ, ◌+◌, ◌-◌, ◌<◌, ◌≤◌, ◌==◌, ◌&&◌, Bool, true, false, not, if◌then◌else◌, List, [], ◌∷◌, ◌++◌, length, filter, map, Some, None, Ok, refl, sym, ap, subst, ◌∙◌, append_assoc, arith}
use Rattle.std.specs.Prelude.{Option, Result, slice_get, unwrap_or}
use Rattle.std.specs.Fmt.{decimal}
use Rattle.std.specs.List.{All, flat_map}
use Rattle.std.specs.Option.{option_map, option_map_or}
use Rattle.std.specs.Str.{bytes_eq}
use Rattle.std.proofs.lemmas.Bool.Decides.{nat_tests}
use Rattle.std.proofs.lemmas.Fmt.{decimal_is_IsNumeral}
use Rattle.std.proofs.lemmas.List.{get_or_at, length-append, set_at}
use Rattle.std.proofs.lemmas.List.Elements.{All-nil, All-cons, All-head, All-tail}
use Rattle.std.proofs.lemmas.Option.{slice_get-get_or}
use Rattle.std.proofs.lemmas.List.Splits.{slice_split_at}
use Rattle.std.proofs.lemmas.Slice.Eq.{bytes_eq-Decides}
use Rattle.octet_io.specs.Number.{Octets}
use Rattle.toml_schema.specs.Reading.{◌>>=◌}
use Rattle.saved_values.specs.declared.restoring.BadLine.{BadLine}
use Rattle.att_numbers.specs.Types.{Values}
use Rattle.att_attributes.specs.declared.attr.Attr.{Attr}
use Rattle.att_attributes.specs.Attributes.{attribute_at, is_fixed_at, largest_at, HaveHandlesFrom}
use Rattle.att_table.specs.Facts.{IsTable}
use Rattle.att_table.specs.Table.{Contents, room_at, value_at, with_value}
use Rattle.gatt_subs.proofs.LinesBack.{HasNoFeed}
use Rattle.saved_values.specs.ReadBack.{value_after, RestoresTheTable, RestoresWhatWasSaved}
use Rattle.saved_values.specs.Restore.{length_fits, line_restored, lines_restored, value_fits, values_restored, with_restored}
use Rattle.saved_values.specs.SavedValue.{Saved, value_of_line, IsSavedValue}
use Rattle.saved_values.specs.Saves.{is_changed, is_saved, is_value_or_descriptor, is_writable, may_be_saved, value_told}
use Rattle.app_lines.specs.NoticeText.{value_text}
use Rattle.saved_values.specs.TypeText.{type_text}
use Rattle.saved_values.specs.ValuesText.{line_of, saved_of, saved_values, value_of, values_text}
use Rattle.text_words.specs.Split.{lines_of}
use Rattle.saved_values.specs.declared.saves.Saves.{Saves}
use Rattle.saved_values.specs.declared.saves.Saves.TheVariants as chosen
use Rattle.saved_values.proofs.ValuesBack.{value_back, value_ended, value_feedless, value_words}

-- lines divide at their line feeds
pub divided : (lines : List Octets) → All HasNoFeed lines → lines_of (flat_map line_of lines) ≡ lines ++ [] ∷ []
divided [] feedless = refl
divided (line ∷ lines) feedless =
    ap lines_of (append_assoc line (10 ∷ []) (flat_map line_of lines))
    ∙ slice_split_at (λ octet. octet == 10) line 10 (flat_map line_of lines) (All-head HasNoFeed line lines feedless) refl
    ∙ ap (λ (pieces : List Octets). line ∷ pieces) (divided lines (All-tail HasNoFeed line lines feedless))

lines_of_values : (values : List Saved) → values_text values ≡ flat_map line_of (map value_words values)
lines_of_values [] = refl
lines_of_values (value ∷ values) =
    ap (λ (first : Octets). first ++ values_text values) (value_ended value)
    ∙ ap (λ (rest : Octets). line_of (value_words value) ++ rest) (lines_of_values values)

values_feedless : (values : List Saved) → All IsSavedValue values → All HasNoFeed (map value_words values)
values_feedless [] good = All-nil HasNoFeed
values_feedless (value ∷ values) good =
    All-cons HasNoFeed (value_words value) (map value_words values) (value_feedless value (All-head IsSavedValue value values good))
    (values_feedless values (All-tail IsSavedValue value values good))

pieces_of_values : (values : List Saved) → All IsSavedValue values → lines_of (values_text values) ≡ map value_words values ++ [] ∷ []
pieces_of_values values good = ap lines_of (lines_of_values values) ∙ divided (map value_words values) (values_feedless values good)

-- a line of a value restores it
some_front : (front rest : Octets) → 0 < length front → 0 < length (front ++ rest)
some_front front rest some = omega (arith, some, length-append front rest)

some_words : (value : Saved) → IsSavedValue value → 0 < length (value_words value)
some_words value is =
    let numeral = decimal_is_IsNumeral value.handle (omega (arith, is.handle)) in
    some_front (decimal value.handle) (32 ∷ (type_text value.kind ++ 32 ∷ value_text value.octets)) numeral.0.0

line_back : (number : ℕ) (table : Contents) (words : Octets) (value : Saved) → 0 < length words → value_of_line words ≡ Some value
    → line_restored number table words ≡ Ok (with_restored table value, value_fits table value)
line_back number table [] value some is = absurd (omega (arith, some))
line_back number table (octet ∷ octets) value some is = rw is refl

-- the values of a table, one for each attribute
abbrev values_by : List Attr → Values → Values
values_by attributes values = map (λ (attr : Attr). value_at values attr.handle) attributes

values_listed : (front values : Values) (attributes : List Attr) → HaveHandlesFrom (length front + 1) attributes → length values ≡ length attributes
    → values_by attributes (front ++ values) ≡ values
values_listed front [] [] handles count = refl
values_listed front [] (attr ∷ rest) handles count = absurd (omega (arith, count))
values_listed front (value ∷ values) [] handles count = absurd (omega (arith, count))
values_listed front (value ∷ values) (attr ∷ rest) handles count =
    let here : value_at (front ++ value ∷ values) attr.handle ≡ value =
    get_or_at front value values [] (attr.handle - 1) (omega (arith, handles.0)) in
    let longer = length-append front (value ∷ []) in
    ap (λ (first : Octets). first ∷ values_by rest (front ++ value ∷ values)) here
    ∙ ap (λ (all : Values). value ∷ values_by rest all) (sym (append_assoc front (value ∷ []) values))
    ∙ ap (λ (later : Values). value ∷ later)
    (values_listed (front ++ value ∷ []) values rest
    (subst (λ (first : ℕ). HaveHandlesFrom first rest) (omega (arith, longer)) handles.1) (omega (arith, count)))

abbrev with_values : Contents → Values → Contents
with_values initial values = record { attributes = initial.attributes; values = values }

length_fitting : (fixed : Bool) (room count : ℕ) → (fixed ≡ true → count ≡ room) → count ≤ room → length_fits fixed room count ≡ true
length_fitting true room count exact within = let is : count ≡ room = exact refl in grind (arith, nat_tests)
length_fitting false room count exact within = grind (arith, nat_tests)

of_a_value : (choice : Saves) (attr : Attr) → may_be_saved choice attr ≡ true → is_value_or_descriptor attr.role ≡ true
of_a_value chosen.All attr may = may
of_a_value chosen.Writable attr may = by (is_value_or_descriptor attr.role) (is_writable attr.guard) may
  where
    by : (is writable : Bool) → (is && writable) ≡ true → is ≡ true
    by true writable may = refl
    by false writable may = may

at_place : (before rest : List Attr) (attr : Attr) → attr.handle ≡ length before + 1 → attribute_at (before ++ attr ∷ rest) attr.handle ≡ Some attr
at_place before rest attr handle =
    let zero_not : (attr.handle == 0) ≡ false = grind (arith, nat_tests) in
    let within : attr.handle - 1 < length (before ++ attr ∷ rest) = omega (arith, handle, length-append before (attr ∷ rest)) in
    ap (λ (none : Bool). if none then None else slice_get (before ++ attr ∷ rest) (attr.handle - 1)) zero_not
    ∙ slice_get-get_or (before ++ attr ∷ rest) (attr.handle - 1) attr within
    ∙ ap Some (get_or_at before attr rest attr (attr.handle - 1) (omega (arith, handle)))

module _ (saves : Saves) (table initial : Contents) (is : IsTable table) (was : IsTable initial) (same : table.attributes ≡ initial.attributes) where
  told_at : (attr : Attr) → attribute_at initial.attributes attr.handle ≡ Some attr → value_told table attr.handle ≡ value_at table.values attr.handle
  told_at attr at =
      ap (λ (found : Option Attr). unwrap_or (option_map (λ (_ : Attr). value_at table.values attr.handle) found) [])
      (ap (λ (attributes : List Attr). attribute_at attributes attr.handle) same ∙ at)

  changed_at : (attr : Attr) → attribute_at initial.attributes attr.handle ≡ Some attr
      → is_changed table initial attr.handle ≡ not (bytes_eq (value_at initial.values attr.handle) (value_told table attr.handle))
  changed_at attr at =
      ap (λ (found : Option Attr).
      option_map_or (λ (value : Octets). not (bytes_eq value (value_told table attr.handle)))
      (option_map (λ (_ : Attr). value_at initial.values attr.handle) found) true) at

  -- a value of the table fits in its place
  fitting : (attr : Attr) (values : Values) → attribute_at initial.attributes attr.handle ≡ Some attr → 0 < attr.handle
      → value_at values attr.handle ≡ value_at initial.values attr.handle → may_be_saved saves attr ≡ true
      → value_fits (with_values initial values) (value_of table attr) ≡ true
  fitting attr values at used unchanged may =
      let handle = attr.handle in
      let largest : largest_at table.attributes handle ≡ largest_at initial.attributes handle =
      ap (λ (attributes : List Attr). largest_at attributes handle) same in
      let fixed : is_fixed_at initial.attributes handle ≡ attr.fixed = ap (λ (found : Option Attr). option_map_or (λ (a : Attr). a.fixed) found false) at in
      let also : is_fixed_at table.attributes handle ≡ attr.fixed = ap (λ (attributes : List Attr). is_fixed_at attributes handle) same ∙ fixed in
      let told : length (value_told table handle) ≡ length (value_at table.values handle) = ap length (told_at attr at) in
      let room : room_at (with_values initial values) handle ≡ largest_at initial.attributes handle = room_by (is_fixed_at initial.attributes handle) refl in
      let exact : attr.fixed ≡ true → length (value_told table handle) ≡ room_at (with_values initial values) handle =
      (λ yes_fixed. told ∙ is.fixed handle (also ∙ yes_fixed) ∙ largest ∙ sym room) in
      let kind : (attr.kind == attr.kind) ≡ true = grind (arith, nat_tests) in
      let fits_length =
      length_fitting attr.fixed (room_at (with_values initial values) handle) (length (value_told table handle)) exact
      (omega (arith, told, room, largest, is.within handle used)) in
      ap (λ (found : Option Attr).
      option_map_or (λ (a : Attr).
      (a.kind == attr.kind) && (is_value_or_descriptor a.role && length_fits a.fixed (room_at (with_values initial values) handle) (length (value_told table handle))))
      found false) at
      ∙ ap (λ (test : Bool).
      test
      && (is_value_or_descriptor attr.role && length_fits attr.fixed (room_at (with_values initial values) handle) (length (value_told table handle)))) kind
      ∙ ap (λ (test : Bool). test && length_fits attr.fixed (room_at (with_values initial values) handle) (length (value_told table handle)))
      (of_a_value saves attr may)
      ∙ fits_length
    where
      room_by : (fixed : Bool) → is_fixed_at initial.attributes attr.handle ≡ fixed
          → (if fixed then length (value_at values attr.handle) else largest_at initial.attributes attr.handle) ≡ largest_at initial.attributes attr.handle
      room_by true is_fixed = ap length unchanged ∙ was.fixed attr.handle is_fixed
      room_by false is_fixed = refl

  -- what stands at a place in the end: the value that is told, if it is saved
  after_saved : (attr : Attr) (may changed : Bool) → attribute_at initial.attributes attr.handle ≡ Some attr
      → may_be_saved saves attr ≡ may → is_changed table initial attr.handle ≡ changed
      → (if may && changed then value_told table attr.handle else value_at initial.values attr.handle) ≡ value_after saves table initial attr
  after_saved attr true true at may changed =
      told_at attr at
      ∙ ap (λ (test : Bool). if test then value_at table.values attr.handle else value_at initial.values attr.handle) (sym may)
  after_saved attr false changed at may differs =
      ap (λ (test : Bool). if test then value_at table.values attr.handle else value_at initial.values attr.handle) (sym may)
  after_saved attr true false at may changed =
      let equal : value_at initial.values attr.handle ≡ value_told table attr.handle =
      (bytes_eq-Decides (value_at initial.values attr.handle) (value_told table attr.handle)).0
      (not_not (bytes_eq (value_at initial.values attr.handle) (value_told table attr.handle)) (sym (changed_at attr at) ∙ changed)) in
      equal ∙ told_at attr at
      ∙ ap (λ (test : Bool). if test then value_at table.values attr.handle else value_at initial.values attr.handle) (sym may)
    where
      not_not : (test : Bool) → not test ≡ false → test ≡ true
      not_not true is = refl
      not_not false is = sym is

  abbrev saved_in : List Attr → Bool → Attr → List Saved
  saved_in rest saved attr =
      map (value_of table) (if saved then attr ∷ filter (is_saved saves table initial) rest else filter (is_saved saves table initial) rest)

  abbrev lines : List Saved → List Octets
  lines values = map value_words values ++ [] ∷ []

  abbrev Restores : ℕ → Values → List Saved → Values → Type 0
  Restores number values saved after =
      lines_restored number (with_values initial values) 0 (lines saved) ≡ Ok (with_values initial after, 0)

  abbrev old : Attr → Octets
  old attr = value_at initial.values attr.handle

  abbrev later : List Attr → Values
  later rest = values_by rest initial.values

  -- one attribute, and then the others
  with_others : (number : ℕ) (rest : List Attr) (attr : Attr) (front : Values)
      → Restores number ((front ++ value_after saves table initial attr ∷ []) ++ later rest) (saved_of saves table initial rest)
      ((front ++ value_after saves table initial attr ∷ []) ++ map (value_after saves table initial) rest)
      → Restores number (front ++ value_after saves table initial attr ∷ later rest) (saved_of saves table initial rest)
      (front ++ value_after saves table initial attr ∷ map (value_after saves table initial) rest)
  with_others number rest attr front restored =
      ap (λ (values : Values). lines_restored number (with_values initial values) 0 (lines (saved_of saves table initial rest)))
      (sym (append_assoc front (value_after saves table initial attr ∷ []) (later rest)))
      ∙ restored
      ∙ ap (λ (values : Values). Ok (with_values initial values, 0))
      (append_assoc front (value_after saves table initial attr ∷ []) (map (value_after saves table initial) rest))

  one_restored : (number : ℕ) (rest : List Attr) (attr : Attr) (front : Values) (may changed : Bool) → attribute_at initial.attributes attr.handle ≡ Some attr
      → attr.handle ≡ length front + 1 → may_be_saved saves attr ≡ may → is_changed table initial attr.handle ≡ changed
      → All IsSavedValue (saved_in rest (may && changed) attr)
      → ((number : ℕ) → All IsSavedValue (saved_of saves table initial rest)
      → Restores number (front ++ value_after saves table initial attr ∷ later rest) (saved_of saves table initial rest)
      (front ++ value_after saves table initial attr ∷ map (value_after saves table initial) rest))
      → Restores number (front ++ old attr ∷ later rest) (saved_in rest (may && changed) attr)
      (front ++ value_after saves table initial attr ∷ map (value_after saves table initial) rest)
  one_restored number rest attr front true true at handle may changed good next =
      let value = value_of table attr in
      let is_value = All-head IsSavedValue value (saved_of saves table initial rest) good in
      let place : value_at (front ++ old attr ∷ later rest) attr.handle ≡ old attr =
      get_or_at front (old attr) (later rest) [] (attr.handle - 1) (omega (arith, handle)) in
      let fits : value_fits (with_values initial (front ++ old attr ∷ later rest)) value ≡ true =
      fitting attr (front ++ old attr ∷ later rest) at (omega (arith, handle)) place may in
      ap (λ (read : Result (Contents × Bool) BadLine).
      read >>= (λ (next : Contents × Bool). lines_restored (number + 1) next.0 (if next.1 then 0 else 0 + 1) (lines (saved_of saves table initial rest))))
      (line_back number (with_values initial (front ++ old attr ∷ later rest)) (value_words value) value (some_words value is_value)
      (value_back value is_value))
      ∙ ap (λ (fits : Bool).
      lines_restored (number + 1)
      (if fits then with_values initial (with_value (front ++ old attr ∷ later rest) attr.handle value.octets)
      else with_values initial (front ++ old attr ∷ later rest))
      (if fits then 0 else 0 + 1) (lines (saved_of saves table initial rest))) fits
      ∙ ap (λ (values : Values). lines_restored (number + 1) (with_values initial values) 0 (lines (saved_of saves table initial rest)))
      (set_at front (old attr) (later rest) value.octets (attr.handle - 1) (omega (arith, handle))
      ∙ ap (λ (first : Octets). front ++ first ∷ later rest) (after_saved attr true true at may changed))
      ∙ next (number + 1) (All-tail IsSavedValue value (saved_of saves table initial rest) good)
  one_restored number rest attr front true false at handle may changed good next =
      ap (λ (first : Octets). lines_restored number (with_values initial (front ++ first ∷ later rest)) 0 (lines (saved_of saves table initial rest)))
      (after_saved attr true false at may changed)
      ∙ next number good
  one_restored number rest attr front false changed at handle may differs good next =
      ap (λ (first : Octets). lines_restored number (with_values initial (front ++ first ∷ later rest)) 0 (lines (saved_of saves table initial rest)))
      (after_saved attr false changed at may differs)
      ∙ next number good

  restored_from : (number : ℕ) (before rest : List Attr) (front : Values) → before ++ rest ≡ initial.attributes → length front ≡ length before
      → HaveHandlesFrom (length before + 1) rest → All IsSavedValue (saved_of saves table initial rest)
      → Restores number (front ++ later rest) (saved_of saves table initial rest) (front ++ map (value_after saves table initial) rest)
  restored_from number before [] front all count handles good = refl
  restored_from number before (attr ∷ rest) front all count handles good =
      one_restored number rest attr front (may_be_saved saves attr) (is_changed table initial attr.handle)
      (ap (λ (attributes : List Attr). attribute_at attributes attr.handle) (sym all) ∙ at_place before rest attr handles.0)
      (omega (arith, handles.0, count)) refl refl good
      (λ number good. with_others number rest attr front
      (restored_from number (before ++ attr ∷ []) rest (front ++ value_after saves table initial attr ∷ []) (append_assoc before (attr ∷ []) rest ∙ all)
      (omega (arith, count, length-append front (value_after saves table initial attr ∷ []), length-append before (attr ∷ [])))
      (subst (λ (first : ℕ). HaveHandlesFrom first rest) (omega (arith, length-append before (attr ∷ []))) handles.1) good))

-- the text restores the table
pub restores : (saves : Saves) (table initial : Contents) (text : Octets) → IsTable table → All IsSavedValue (saved_values saves table initial)
    → text ≡ values_text (saved_values saves table initial) → RestoresWhatWasSaved saves table initial text
unfolding values_restored
restores saves table initial text is good written was same =
    ap (λ (text : Octets). lines_restored 1 initial 0 (lines_of text)) written
    ∙ ap (lines_restored 1 initial 0) (pieces_of_values (saved_values saves table initial) good)
    ∙ ap (λ (attributes : List Attr). lines_restored 1 initial 0 (map value_words (saved_of saves table initial attributes) ++ [] ∷ [])) same
    ∙ ap (λ (values : Values).
    lines_restored 1 (with_values initial values) 0 (map value_words (saved_of saves table initial initial.attributes) ++ [] ∷ []))
    (sym (values_listed [] initial.values initial.attributes was.handles was.one_value_each))
    ∙ restored_from saves table initial is was same 1 [] initial.attributes [] refl refl was.handles
    (subst (λ (attributes : List Attr). All IsSavedValue (saved_of saves table initial attributes)) same good)

-- if nothing else has changed, that is the table
unsaved : (saves : Saves) (table initial : Contents) (attr : Attr) (may : Bool) → may_be_saved saves attr ≡ may
    → (may_be_saved saves attr ≡ false → value_at table.values attr.handle ≡ value_at initial.values attr.handle)
    → value_after saves table initial attr ≡ value_at table.values attr.handle
unsaved saves table initial attr true may other =
    ap (λ (test : Bool). if test then value_at table.values attr.handle else value_at initial.values attr.handle) may
unsaved saves table initial attr false may other =
    ap (λ (test : Bool). if test then value_at table.values attr.handle else value_at initial.values attr.handle) may ∙ sym (other may)

all_unsaved : (saves : Saves) (table initial : Contents) (attributes : List Attr)
    → All (λ (attr : Attr). may_be_saved saves attr ≡ false → value_at table.values attr.handle ≡ value_at initial.values attr.handle) attributes
    → map (value_after saves table initial) attributes ≡ values_by attributes table.values
all_unsaved saves table initial [] others = refl
all_unsaved saves table initial (attr ∷ rest) others =
    ap (λ (first : Octets). first ∷ map (value_after saves table initial) rest)
    (unsaved saves table initial attr (may_be_saved saves attr) refl
    (All-head (λ (attr : Attr). may_be_saved saves attr ≡ false → value_at table.values attr.handle ≡ value_at initial.values attr.handle) attr rest others))
    ∙ ap (λ (later : Values). value_at table.values attr.handle ∷ later)
    (all_unsaved saves table initial rest
    (All-tail (λ (attr : Attr). may_be_saved saves attr ≡ false → value_at table.values attr.handle ≡ value_at initial.values attr.handle) attr rest others))

pub restores_whole : (saves : Saves) (table initial : Contents) (text : Octets) → IsTable table → All IsSavedValue (saved_values saves table initial)
    → text ≡ values_text (saved_values saves table initial) → RestoresTheTable saves table initial text
restores_whole saves table initial text is good written was differs =
    restores saves table initial text is good written was differs.attributes
    ∙ ap (λ (values : Values). Ok (with_values initial values, 0))
    (all_unsaved saves table initial initial.attributes differs.others
    ∙ ap (λ (attributes : List Attr). values_by attributes table.values) (sym differs.attributes)
    ∙ values_listed [] table.values table.attributes is.handles is.one_value_each)
    ∙ ap (λ (attributes : List Attr). Ok (with_attributes attributes, 0)) (sym differs.attributes)
  where
    with_attributes : List Attr → Contents
    with_attributes attributes = record { attributes = attributes; values = table.values }
