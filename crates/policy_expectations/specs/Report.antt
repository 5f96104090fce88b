-- The differences in words (this profile's own).
use Rattle.std.specs.Prelude.{ℕ, ◌==◌, if◌then◌else◌, List, [], ◌∷◌, ◌++◌, codes, Option}
use Rattle.std.specs.Fmt.{decimal}
use Rattle.std.specs.List.{flat_map}
use Rattle.octet_io.specs.Number.{Octets}
use Rattle.att_numbers.specs.AttributeType.{type_octets}
use Rattle.att_numbers.specs.Types.{AttributeType, Handle}
use Rattle.att_policy.specs.declared.standing.KeyFacts.{KeyFacts}
use Rattle.att_attributes.specs.declared.attr.Attr.{Attr}
use Rattle.le_security.specs.declared.entry.Entry.{Entry}
use Rattle.policy_rights.specs.Columns.{columns_among}
use Rattle.policy_rights.specs.Kinds.{every_kind}
use Rattle.policy_words.specs.TypeText.{handle_and_type, type_text}
use Rattle.policy_expectations.specs.declared.difference.Difference.{Difference}
use Rattle.policy_expectations.specs.declared.difference.Difference.TheVariants.{Use, Unnamed, NamesNothing}
use Rattle.policy_expectations.specs.Lines.{differing_text}

unfoldable pub unnamed_text : Handle → AttributeType → Octets
unnamed_text handle kind =
    handle_and_type handle kind ++ codes ": it can be used, but no expectation names it"

unfoldable pub names_nothing_text : ℕ → AttributeType → Octets
names_nothing_text place kind =
    codes "       expectation " ++ decimal place ++ codes ", " ++ type_text (type_octets kind)
    ++ codes ": it names no attribute"

abbrev pub with_line_feed : Octets → Octets
with_line_feed words = words ++ 10 ∷ []

abbrev pub difference_text : List Attr → List (Option KeyFacts) → List (Option KeyFacts)
    → Difference → Octets
difference_text attributes kinds columns (Use found) =
    differing_text attributes kinds columns found
difference_text attributes kinds columns (Unnamed handle kind) =
    with_line_feed (unnamed_text handle kind)
difference_text attributes kinds columns (NamesNothing place kind) =
    with_line_feed (names_nothing_text place kind)

-- The clients of which it holds.
abbrev pub reach_words : Octets
reach_words = codes ", for clients with every kind of key and without one."

abbrev pub hold_words : ℕ → Octets
hold_words count =
    if count == 0
    then codes "There are no expectations, and nobody can use a value or a descriptor."
    else if count == 1 then codes "1 expectation holds" ++ reach_words
    else decimal count ++ codes " expectations hold" ++ reach_words

abbrev pub all_hold_text : ℕ → Octets
all_hold_text count = hold_words count ++ 10 ∷ []

-- Lines for each difference, or one line if there is none.
abbrev pub report_text : List Attr → List Entry → ℕ → List Difference → Octets
report_text attributes keys count [] = all_hold_text count
report_text attributes keys count (difference ∷ differences) =
    flat_map (difference_text attributes every_kind (columns_among keys))
    (difference ∷ differences)
