-- What several kinds of keys in a column have.
use Rattle.std.proofs.Common.{◌≡◌, ℕ, Bool, true, false, ◌==◌, ◌&&◌, ◌||◌, List, [], ◌∷◌, ◌++◌, Option, Some, None, All, refl, sym, ap, ◌∙◌, arith, if◌then◌else◌}
use Rattle.std.specs.Prelude.{not}
use Rattle.std.specs.Bool.{beq}
use Rattle.std.specs.List.{flat_map, list_all, list_any}
use Rattle.std.proofs.lemmas.Bool.Decides.{nat_tests}
use Rattle.std.proofs.lemmas.List.Folds.{list_any-append}
use Rattle.std.proofs.lemmas.List.Elements.{All-nil, All-cons}
use Rattle.att_numbers.specs.Types.{Handle}
use Rattle.att_policy.specs.declared.standing.KeyFacts.{KeyFacts}
use Rattle.att_attributes.specs.declared.attr.Attr.{Attr}
use Rattle.policy_rights.specs.declared.rights.Right.{Right}
use Rattle.policy_rights.specs.Columns.{same_column, same_facts}
use Rattle.policy_rights.specs.Held.{has_equal_rights, has_same_rights, is_equal_at, is_used, kinds_that_differ, may_with, with_kind, with_kinds}
use Rattle.policy_words.specs.declared.cell.Rights.{Rights}
use Rattle.policy_words.specs.declared.columns.Column.{Column}
use Rattle.policy_words.specs.Cell.{always_of, cell_text, cell_with, is_once, once_of, rights_where}
use Rattle.policy_words.specs.Columns.{kind_if_equal, kinds_of_column, matrix_columns, named_from, named_kinds, next_name}
use Rattle.policy_words.specs.matrix.Shared.{HasSameCell, NamesEachKind, SharesCells, is_named_kind}

and_left : (one other : Bool) → one && other ≡ true → one ≡ true
and_left true other is = refl
and_left false other is = is

and_right : (one other : Bool) → one && other ≡ true → other ≡ true
and_right true other is = is
and_right false other is = cc is

and_true : (one other : Bool) → one ≡ true → other ≡ true → one && other ≡ true
and_true true other is is_other = is_other
and_true false other is is_other = is

or_true : (test : Bool) → test || true ≡ true
or_true true = refl
or_true false = refl

same_size : (one other : ℕ) → (one == other) ≡ true → one ≡ other
same_size one other is = grind (arith, nat_tests, is)

same_flag : (one other : Bool) → beq one other ≡ true → one ≡ other
same_flag true true is = refl
same_flag true false is = cc is
same_flag false true is = cc is
same_flag false false is = refl

flag_itself : (flag : Bool) → beq flag flag ≡ true
flag_itself true = refl
flag_itself false = refl

same_key : (one other : KeyFacts) → same_facts one other ≡ true → one ≡ other
same_key one other is =
    let size : one.size ≡ other.size = same_size one.size other.size (and_left _ _ is) in
    let flags = and_right (one.size == other.size) _ is in
    let authenticated : one.authenticated ≡ other.authenticated = same_flag _ _ (and_left (beq one.authenticated other.authenticated) _ flags) in
    let secure : one.secure ≡ other.secure = same_flag _ _ (and_right (beq one.authenticated other.authenticated) _ flags) in
    λ i. record { size = size i; authenticated = authenticated i; secure = secure i }

same_kind : (one other : Option KeyFacts) → same_column one other ≡ true → one ≡ other
same_kind None None is = refl
same_kind None (Some other) is = cc is
same_kind (Some one) None is = cc is
same_kind (Some one) (Some other) is = ap (λ (key : KeyFacts). Some key) (same_key one other is)

size_itself : (size : ℕ) → (size == size) ≡ true
size_itself size = grind (arith, nat_tests)

kind_itself : (kind : Option KeyFacts) → same_column kind kind ≡ true
kind_itself None = refl
kind_itself (Some key) =
    and_true (key.size == key.size) _ (size_itself key.size)
    (and_true (beq key.authenticated key.authenticated) _ (flag_itself key.authenticated) (flag_itself key.secure))

in_first : {X : Type 0} (test : X → Bool) (one other : List X) → list_any test one ≡ true → list_any test (one ++ other) ≡ true
in_first test one other is = list_any-append test one other ∙ ap (λ (it : Bool). it || list_any test other) is

in_second : {X : Type 0} (test : X → Bool) (one other : List X) → list_any test other ≡ true → list_any test (one ++ other) ≡ true
in_second test one other is =
    list_any-append test one other ∙ ap (λ (it : Bool). list_any test one || it) is ∙ or_true (list_any test one)

-- a kind has the rights of itself
rights_itself : (attributes : List Attr) (kind : Option KeyFacts) (is_authorized : Bool) (handle : Handle)
    → has_same_rights attributes kind kind is_authorized handle ≡ true
rights_itself attributes kind is_authorized handle =
    let may = λ (right : Right). may_with attributes kind is_authorized handle right in
    and_true _ _ (flag_itself (may Right.Read))
    (and_true _ _ (flag_itself (may Right.Write))
    (and_true _ _ (flag_itself (may Right.Command))
    (and_true _ _ (flag_itself (may Right.Notify))
    (and_true _ _ (flag_itself (may Right.Indicate)) (flag_itself (may Right.Subscribe))))))

row_itself : (attributes : List Attr) (kind : Option KeyFacts) (attr : Attr) → is_equal_at attributes kind kind attr ≡ true
row_itself attributes kind attr =
    ap (λ (it : Bool). not (is_used attr.role) || it)
    (and_true _ _ (rights_itself attributes kind false attr.handle) (rights_itself attributes kind true attr.handle))
    ∙ or_true (not (is_used attr.role))

rows_itself : (attributes rows : List Attr) (kind : Option KeyFacts) → list_all (is_equal_at attributes kind kind) rows ≡ true
rows_itself attributes [] kind = refl
rows_itself attributes (row ∷ rows) kind = and_true _ _ (row_itself attributes kind row) (rows_itself attributes rows kind)

-- a first one stays
stays_by : (test : Option KeyFacts → Bool) (had : Bool) (firsts : List (Option KeyFacts)) (kind : Option KeyFacts)
    → list_any test firsts ≡ true → list_any test (if had then firsts else firsts ++ kind ∷ []) ≡ true
stays_by test true firsts kind is = is
stays_by test false firsts kind is = in_first test firsts (kind ∷ []) is

stays : (test : Option KeyFacts → Bool) (attributes : List Attr) (firsts kinds : List (Option KeyFacts))
    → list_any test firsts ≡ true → list_any test (with_kinds attributes firsts kinds) ≡ true
stays test attributes firsts [] is = is
stays test attributes firsts (kind ∷ kinds) is =
    stays test attributes (with_kind attributes firsts kind) kinds
    (stays_by test (list_any (has_equal_rights attributes kind) firsts) firsts kind is)

-- a kind has the rights of a first one
taken_by : (attributes : List Attr) (had : Bool) (firsts : List (Option KeyFacts)) (kind : Option KeyFacts)
    → list_any (has_equal_rights attributes kind) firsts ≡ had
    → list_any (has_equal_rights attributes kind) (if had then firsts else firsts ++ kind ∷ []) ≡ true
taken_by attributes true firsts kind is = is
taken_by attributes false firsts kind is =
    in_second (has_equal_rights attributes kind) firsts (kind ∷ [])
    (ap (λ (it : Bool). it || false) (rows_itself attributes attributes kind))

taken_one : (attributes : List Attr) (firsts kinds : List (Option KeyFacts)) (kind other : Option KeyFacts) (test : Bool)
    → same_column kind other ≡ test
    → (test ≡ false → list_any (has_equal_rights attributes kind) (with_kinds attributes (with_kind attributes firsts other) kinds) ≡ true)
    → list_any (has_equal_rights attributes kind) (with_kinds attributes (with_kind attributes firsts other) kinds) ≡ true
taken_one attributes firsts kinds kind other true is later =
    ap (λ (it : Option KeyFacts). list_any (has_equal_rights attributes kind) (with_kinds attributes (with_kind attributes firsts it) kinds))
    (sym (same_kind kind other is))
    ∙ stays (has_equal_rights attributes kind) attributes (with_kind attributes firsts kind) kinds
    (taken_by attributes (list_any (has_equal_rights attributes kind) firsts) firsts kind refl)
taken_one attributes firsts kinds kind other false is later = later refl

taken : (attributes : List Attr) (firsts kinds : List (Option KeyFacts)) (kind : Option KeyFacts)
    → list_any (same_column kind) kinds ≡ true
    → list_any (has_equal_rights attributes kind) (with_kinds attributes firsts kinds) ≡ true
taken attributes firsts [] kind among = cc among
taken attributes firsts (other ∷ kinds) kind among =
    taken_one attributes firsts kinds kind other (same_column kind other) refl
    (λ differs. taken attributes (with_kind attributes firsts other) kinds kind
    (sym (ap (λ (it : Bool). it || list_any (same_column kind) kinds) differs) ∙ among))

-- names change no kind
abbrev has_kind : (Option KeyFacts → Bool) → Column → Bool
has_kind test column = test column.key

with_names : (test : Option KeyFacts → Bool) (name : ℕ) (kinds : List (Option KeyFacts))
    → list_any (has_kind test) (named_from name kinds) ≡ list_any test kinds
with_names test name [] = refl
with_names test name (kind ∷ kinds) = ap (λ (it : Bool). test kind || it) (with_names test (next_name name) kinds)

-- a kind with the rights of a column is named with it
in_column_one : (attributes : List Attr) (column : Column) (kind other : Option KeyFacts) (rest : List Column) (test : Bool)
    → has_equal_rights attributes kind column.key ≡ true → same_column kind other ≡ test
    → (test ≡ false → list_any (is_named_kind kind) rest ≡ true)
    → list_any (is_named_kind kind) (kind_if_equal attributes column other ++ rest) ≡ true
in_column_one attributes column kind other rest true equal is later =
    ap (λ (it : Option KeyFacts). list_any (is_named_kind kind) (kind_if_equal attributes column it ++ rest)) (sym (same_kind kind other is))
    ∙ ap (λ (it : Bool). list_any (is_named_kind kind) ((if it then (record { name = column.name; key = kind }) ∷ [] else []) ++ rest)) equal
    ∙ ap (λ (it : Bool). it || list_any (is_named_kind kind) rest) (kind_itself kind)
in_column_one attributes column kind other rest false equal is later =
    in_second (is_named_kind kind) (kind_if_equal attributes column other) rest (later refl)

in_column : (attributes : List Attr) (column : Column) (kinds : List (Option KeyFacts)) (kind : Option KeyFacts)
    → has_equal_rights attributes kind column.key ≡ true → list_any (same_column kind) kinds ≡ true
    → list_any (is_named_kind kind) (kinds_of_column attributes kinds column) ≡ true
in_column attributes column [] kind equal among = cc among
in_column attributes column (other ∷ kinds) kind equal among =
    in_column_one attributes column kind other (kinds_of_column attributes kinds column) (same_column kind other) equal refl
    (λ differs. in_column attributes column kinds kind equal
    (sym (ap (λ (it : Bool). it || list_any (same_column kind) kinds) differs) ∙ among))

in_columns_one : (attributes : List Attr) (column : Column) (kinds : List (Option KeyFacts)) (kind : Option KeyFacts) (rest : List Column) (test : Bool)
    → list_any (same_column kind) kinds ≡ true → has_equal_rights attributes kind column.key ≡ test
    → (test ≡ false → list_any (is_named_kind kind) rest ≡ true)
    → list_any (is_named_kind kind) (kinds_of_column attributes kinds column ++ rest) ≡ true
in_columns_one attributes column kinds kind rest true among equal later =
    in_first (is_named_kind kind) (kinds_of_column attributes kinds column) rest (in_column attributes column kinds kind equal among)
in_columns_one attributes column kinds kind rest false among equal later =
    in_second (is_named_kind kind) (kinds_of_column attributes kinds column) rest (later refl)

in_columns : (attributes : List Attr) (kinds : List (Option KeyFacts)) (kind : Option KeyFacts) (columns : List Column)
    → list_any (same_column kind) kinds ≡ true → list_any (has_kind (has_equal_rights attributes kind)) columns ≡ true
    → list_any (is_named_kind kind) (named_kinds attributes kinds columns) ≡ true
in_columns attributes kinds kind [] among has = cc has
in_columns attributes kinds kind (column ∷ columns) among has =
    in_columns_one attributes column kinds kind (named_kinds attributes kinds columns) (has_equal_rights attributes kind column.key) among refl
    (λ differs. in_columns attributes kinds kind columns among
    (sym (ap (λ (it : Bool). it || list_any (has_kind (has_equal_rights attributes kind)) columns) differs) ∙ has))

pub names_each_kind : NamesEachKind
names_each_kind attributes kinds kind among =
    in_columns attributes kinds kind (matrix_columns attributes kinds) among
    (with_names (has_equal_rights attributes kind) 65 (kinds_that_differ attributes kinds) ∙ taken attributes [] kinds kind among)

-- equal rights are the same ones
by_same : (one other : Right → Bool)
    → beq (one Right.Read) (other Right.Read)
    && (beq (one Right.Write) (other Right.Write)
    && (beq (one Right.Command) (other Right.Command)
    && (beq (one Right.Notify) (other Right.Notify)
    && (beq (one Right.Indicate) (other Right.Indicate) && beq (one Right.Subscribe) (other Right.Subscribe))))) ≡ true
    → (right : Right) → one right ≡ other right
by_same one other is Right.Read = same_flag _ _ (and_left _ _ is)
by_same one other is Right.Write = same_flag _ _ (and_left _ _ (and_right (beq (one Right.Read) (other Right.Read)) _ is))
by_same one other is Right.Command =
    same_flag _ _ (and_left _ _ (and_right (beq (one Right.Write) (other Right.Write)) _ (and_right (beq (one Right.Read) (other Right.Read)) _ is)))
by_same one other is Right.Notify =
    same_flag _ _
    (and_left _ _
    (and_right (beq (one Right.Command) (other Right.Command)) _
    (and_right (beq (one Right.Write) (other Right.Write)) _ (and_right (beq (one Right.Read) (other Right.Read)) _ is))))
by_same one other is Right.Indicate =
    same_flag _ _
    (and_left _ _
    (and_right (beq (one Right.Notify) (other Right.Notify)) _
    (and_right (beq (one Right.Command) (other Right.Command)) _
    (and_right (beq (one Right.Write) (other Right.Write)) _ (and_right (beq (one Right.Read) (other Right.Read)) _ is)))))
by_same one other is Right.Subscribe =
    same_flag _ _
    (and_right (beq (one Right.Indicate) (other Right.Indicate)) _
    (and_right (beq (one Right.Notify) (other Right.Notify)) _
    (and_right (beq (one Right.Command) (other Right.Command)) _
    (and_right (beq (one Right.Write) (other Right.Write)) _ (and_right (beq (one Right.Read) (other Right.Read)) _ is)))))

same_where : (one other : Right → Bool) → ((right : Right) → one right ≡ other right) → rights_where one ≡ rights_where other
same_where one other same = λ i. record {
  read = same Right.Read i;
  write = same Right.Write i;
  command = same Right.Command i;
  notify = same Right.Notify i;
  indicate = same Right.Indicate i;
  subscribe = same Right.Subscribe i;
}

same_cell : (attributes : List Attr) (handle : Handle) (one other : Option KeyFacts)
    → has_same_rights attributes one other false handle ≡ true → has_same_rights attributes one other true handle ≡ true
    → cell_text attributes handle one ≡ cell_text attributes handle other
same_cell attributes handle one other without with =
    let before = by_same (λ right. may_with attributes one false handle right) (λ right. may_with attributes other false handle right) without in
    let once = by_same (λ right. may_with attributes one true handle right) (λ right. may_with attributes other true handle right) with in
    let always : always_of attributes handle one ≡ always_of attributes handle other =
    same_where (λ right. may_with attributes one false handle right) (λ right. may_with attributes other false handle right) before in
    let later : once_of attributes handle one ≡ once_of attributes handle other =
    same_where (is_once attributes handle one) (is_once attributes handle other) (λ right i. once right i && not (before right i)) in
    λ i. cell_with (always i) (later i)

row_cell : (attributes : List Attr) (one other : Option KeyFacts) (attr : Attr) (used : Bool) → is_used attr.role ≡ used
    → not used || (has_same_rights attributes one other false attr.handle && has_same_rights attributes one other true attr.handle) ≡ true
    → used ≡ true → cell_text attributes attr.handle one ≡ cell_text attributes attr.handle other
row_cell attributes one other attr true is equal used =
    same_cell attributes attr.handle one other (and_left _ _ equal)
    (and_right (has_same_rights attributes one other false attr.handle) _ equal)
row_cell attributes one other attr false is equal used = cc used

rows_cells : (attributes rows : List Attr) (one other : Option KeyFacts) → list_all (is_equal_at attributes one other) rows ≡ true
    → All (HasSameCell attributes one other) rows
rows_cells attributes [] one other equal = All-nil (HasSameCell attributes one other)
rows_cells attributes (row ∷ rows) one other equal =
    All-cons (HasSameCell attributes one other) row rows
    (λ used. row_cell attributes one other row (is_used row.role) refl (and_left _ _ equal) used)
    (rows_cells attributes rows one other (and_right (is_equal_at attributes one other row) _ equal))

pub shares_cells : SharesCells
shares_cells attributes one other equal = rows_cells attributes attributes one other equal
