-- The lines of a right that is not as it is meant (this profile's own).
use Rattle.std.specs.Prelude.{◌==◌, Bool, true, false, ◌&&◌, not, if◌then◌else◌, is_some, length, List, [], ◌∷◌, ◌++◌, codes, Option}
use Rattle.std.specs.Bool.{beq}
use Rattle.std.specs.List.{filter, list_any}
use Rattle.octet_io.specs.Number.{Octets}
use Rattle.att_policy.specs.declared.standing.KeyFacts.{KeyFacts}
use Rattle.att_attributes.specs.declared.attr.Attr.{Attr}
use Rattle.policy_rights.specs.Columns.{same_column}
use Rattle.policy_rights.specs.Held.{may_with}
use Rattle.policy_words.specs.Kinds.{kinds_text}
use Rattle.policy_words.specs.Legend.{words_if}
use Rattle.policy_words.specs.TypeText.{handle_and_type}
use Rattle.policy_expectations.specs.declared.difference.Differing.{Differing}
use Rattle.policy_expectations.specs.declared.lines.Side.{Side}
use Rattle.policy_expectations.specs.Differences.{differs}
use Rattle.policy_expectations.specs.Words.{meant_text, right_word, verdict_words}

-- A link with this key differs if it is authorized or not, as the side says.
abbrev pub differs_so : List Attr → Differing → Bool → Option KeyFacts → Bool
differs_so attributes found is_authorized key =
    differs attributes found.meant found.handle found.right is_authorized key

-- A key is on the side of its first link that differs: the one that is not authorized, or the one
-- that is.
abbrev pub is_on_side : List Attr → Differing → Side → Option KeyFacts → Bool
is_on_side attributes found side key =
    (differs_so attributes found side.is_authorized key
    && not (side.is_authorized && differs_so attributes found false key))
    && beq (may_with attributes key side.is_authorized found.handle found.right) side.is_permitted

abbrev pub kind_if : Bool → Option KeyFacts → List (Option KeyFacts)
kind_if true key = key ∷ []
kind_if false key = []

abbrev pub kinds_on : List Attr → List (Option KeyFacts) → Differing → Side
    → List (Option KeyFacts)
kinds_on attributes kinds found side = filter (is_on_side attributes found side) kinds

-- Those of the kinds that are in the key file.
abbrev pub is_today : List (Option KeyFacts) → Option KeyFacts → Bool
is_today columns key = is_some key && list_any (same_column key) columns

abbrev pub named_today : List (Option KeyFacts) → Octets
named_today [] = []
named_today (key ∷ kinds) = codes " (today: " ++ kinds_text (key ∷ kinds) ++ codes ")"

-- They are not named if a line is about everybody: 40 kinds and no key.
abbrev pub today_text : List (Option KeyFacts) → List (Option KeyFacts) → Octets
today_text columns kinds =
    if length kinds == 41 then [] else named_today (filter (is_today columns) kinds)

unfoldable pub side_words : List (Option KeyFacts) → Differing → Side → List (Option KeyFacts)
    → Octets
side_words columns found side kinds =
    handle_and_type found.handle found.kind ++ right_word found.right ++ kinds_text kinds
    ++ today_text columns kinds
    ++ words_if side.is_authorized (codes ", once authorized,")
    ++ verdict_words side.is_permitted ++ meant_text found.meant ++ codes " is meant" ++ 10 ∷ []

-- A line for the kinds on a side, if there are any.
abbrev pub side_line : List (Option KeyFacts) → Differing → Side → List (Option KeyFacts)
    → Octets
side_line columns found side [] = []
side_line columns found side (key ∷ kinds) = side_words columns found side (key ∷ kinds)

abbrev pub side_text : List Attr → List (Option KeyFacts) → List (Option KeyFacts) → Differing
    → Side → Octets
side_text attributes kinds columns found side =
    side_line columns found side (kinds_on attributes kinds found side)

abbrev pub side_of : Bool → Bool → Side
side_of is_authorized is_permitted =
    record { is_authorized = is_authorized; is_permitted = is_permitted }

-- At most four lines.
unfoldable pub differing_text : List Attr → List (Option KeyFacts) → List (Option KeyFacts)
    → Differing → Octets
differing_text attributes kinds columns found =
    side_text attributes kinds columns found (side_of false true)
    ++ side_text attributes kinds columns found (side_of false false)
    ++ side_text attributes kinds columns found (side_of true true)
    ++ side_text attributes kinds columns found (side_of true false)
