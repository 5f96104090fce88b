-- The differences of two tables, a line each (this profile's own).
use Rattle.std.specs.Prelude.{ℕ, ◌-◌, ◌==◌, ◌&&◌, ◌||◌, not, if◌then◌else◌, Bool, true, false, List, [], ◌∷◌, ◌++◌, Option, Some, None, codes}
use Rattle.std.specs.Fmt.{decimal}
use Rattle.std.specs.List.{flat_map, list_any}
use Rattle.octet_io.specs.Number.{Octets}
use Rattle.att_numbers.specs.Types.{AttributeType, Handle}
use Rattle.att_policy.specs.declared.standing.KeyFacts.{KeyFacts}
use Rattle.att_attributes.specs.declared.attr.Attr.{Attr}
use Rattle.att_attributes.specs.Attributes.{configuration_bits_at, is_configuration, type_at}
use Rattle.att_table.specs.ConfigRow.{has_its_meaning, is_supported}
use Rattle.le_security.specs.declared.entry.Entry.{Entry}
use Rattle.policy_rights.specs.declared.rights.Right.{Right}
use Rattle.policy_rights.specs.Columns.{same_column}
use Rattle.policy_rights.specs.Held.{may_with}
use Rattle.policy_words.specs.TypeText.{handle_and_type}
use Rattle.policy_words.specs.Cell.{cell_with}
use Rattle.policy_words.specs.Kinds.{kinds_text}
use Rattle.policy_words.specs.Legend.{key_text, peer_words}
use Rattle.policy_words.specs.declared.columns.Column.{Column}
use Rattle.policy_words.specs.compare.Gains.{gains_by_key, has_gain, is_first, kinds_like, pair_gains}
use Rattle.policy_words.specs.compare.Pairing.{other_handle}
use Rattle.policy_words.specs.declared.compare.gaining.Gain.{Gain}
use Rattle.att_policy.specs.declared.guard.TheConstants.{INDICATION}
use Rattle.policy_rights.specs.declared.rights.TheConstants.{NOTIFICATION}
use Rattle.policy_words.specs.declared.compare.pairing.Pair.{Pair}

-- The names of the columns that are among some kinds of keys.
abbrev pub letter_text : List (Option KeyFacts) → Column → Octets
letter_text kinds column =
    if list_any (same_column column.key) kinds then 32 ∷ column.name ∷ [] else []

abbrev pub after_space : Octets → Octets
after_space [] = []
after_space (octet ∷ octets) = 32 ∷ octet ∷ octets

abbrev pub letters_text : List Column → List (Option KeyFacts) → Octets
letters_text columns kinds = after_space (flat_map (letter_text kinds) columns)

-- The kinds of keys in words, and the names of their columns.
unfoldable pub whose_text : List Column → List (Option KeyFacts) → Octets
whose_text columns kinds =
    codes "  " ++ kinds_text kinds ++ letters_text columns kinds ++ 10 ∷ []

-- One line has all kinds of keys with the same gains: the handle, the type and the letters.
unfoldable pub gain_text : Attr → List Column → List Gain → Gain → Octets
gain_text attr columns gains gain =
    handle_and_type attr.handle attr.kind ++ codes "  " ++ cell_with gain.always gain.once
    ++ whose_text columns (kinds_like gain gains)

abbrev pub gain_line : Attr → List Column → List Gain → Gain → Octets
gain_line attr columns gains gain =
    if has_gain gain && is_first gains gain then gain_text attr columns gains gain else []

abbrev pub gain_lines : Attr → List Column → List Gain → Octets
gain_lines attr columns gains = flat_map (gain_line attr columns gains) gains

abbrev pub pair_lines :
    List Attr → List Attr → List (Option KeyFacts) → List Column → Pair → Octets
pair_lines attributes others kinds columns pair =
    gain_lines pair.attr columns (pair_gains attributes others kinds pair)

-- The keys by which peers gain rights.
unfoldable pub gaining_key_line : List Entry → List Attr → Entry → Octets
gaining_key_line keys attributes entry =
    if gains_by_key keys attributes entry
    then codes "       " ++ peer_words entry.peer ++ codes ": " ++ key_text (Some entry.key.facts)
    ++ 10 ∷ []
    else []

-- An attribute that had another handle.
unfoldable pub moved_text : Attr → Option Handle → Octets
moved_text attr None = []
moved_text attr (Some handle) =
    if handle == attr.handle then []
    else handle_and_type attr.handle attr.kind ++ codes " was " ++ decimal handle ++ 10 ∷ []

abbrev pub moved_line : List Pair → List Pair → Pair → Octets
moved_line pairs others pair = moved_text pair.attr (other_handle pairs others pair)

-- An attribute that the other table does not have.
unfoldable pub alone_text : Attr → Option Handle → Octets
alone_text attr (Some handle) = []
alone_text attr None = handle_and_type attr.handle attr.kind ++ 10 ∷ []

abbrev pub alone_line : List Pair → List Pair → Pair → Octets
alone_line pairs others pair = alone_text pair.attr (other_handle pairs others pair)

-- A subscription to all that its value permits is kept if a table is replaced by another.
abbrev pub is_kept : List Attr → List Attr → Handle → Bool
is_kept attributes others handle =
    is_supported others (handle, configuration_bits_at attributes handle)
    && has_its_meaning attributes others handle

-- The value of a configuration whose subscriptions are dropped.
unfoldable pub dropped_line : List Attr → List Attr → Attr → Octets
dropped_line attributes others attr =
    if is_configuration attr.role && not (is_kept attributes others attr.handle)
    then handle_and_type (attr.handle - 1) (type_at attributes (attr.handle - 1)) ++ 10 ∷ [] else []

-- A subscription by this bit is kept if a table is replaced by another.
abbrev pub keeps_bit : List Attr → List Attr → Handle → ℕ → Bool
keeps_bit attributes others handle bit =
    is_supported attributes (handle, bit)
    && (is_supported others (handle, bit) && has_its_meaning attributes others handle)

-- With such a key a client may subscribe to a value in one table, and not in the other.
abbrev pub is_closed_to : List Attr → List Attr → Handle → Option KeyFacts → Bool → Bool
is_closed_to attributes others value key is_authorized =
    may_with attributes key is_authorized value Right.Subscribe
    && not (may_with others key is_authorized value Right.Subscribe)

-- It is sent the value all the same if it has subscribed before.
abbrev pub is_still_sent : List Attr → List Attr → Handle → Option KeyFacts → Bool → Bool
is_still_sent attributes others handle key is_authorized =
    (keeps_bit attributes others handle NOTIFICATION
    && may_with others key is_authorized (handle - 1) Right.Notify)
    || (keeps_bit attributes others handle INDICATION
    && may_with others key is_authorized (handle - 1) Right.Indicate)

abbrev pub lasts_with : List Attr → List Attr → Handle → Option KeyFacts → Bool → Bool
lasts_with attributes others handle key is_authorized =
    is_closed_to attributes others (handle - 1) key is_authorized
    && is_still_sent attributes others handle key is_authorized

abbrev pub lasts : List Attr → List Attr → Handle → Option KeyFacts → Bool
lasts attributes others handle key =
    lasts_with attributes others handle key false || lasts_with attributes others handle key true

abbrev pub kind_if_lasting :
    List Attr → List Attr → Handle → Option KeyFacts → List (Option KeyFacts)
kind_if_lasting attributes others handle key =
    if lasts attributes others handle key then key ∷ [] else []

abbrev pub lasting_kinds :
    List Attr → List Attr → List (Option KeyFacts) → Handle → List (Option KeyFacts)
lasting_kinds attributes others kinds handle =
    flat_map (kind_if_lasting attributes others handle) kinds

unfoldable pub lasting_text :
    Handle → AttributeType → List Column → List (Option KeyFacts) → Octets
lasting_text value kind columns [] = []
lasting_text value kind columns (key ∷ keys) =
    handle_and_type value kind ++ whose_text columns (key ∷ keys)

-- The value of a configuration whose subscriptions last although the other table closes them.
abbrev pub lasting_line :
    List Attr → List Attr → List (Option KeyFacts) → List Column → Attr → Octets
lasting_line attributes others kinds columns attr =
    if is_configuration attr.role
    then lasting_text (attr.handle - 1) (type_at attributes (attr.handle - 1)) columns
    (lasting_kinds attributes others kinds attr.handle)
    else []
