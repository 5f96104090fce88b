-- The rights that a table gives and another one does not (this profile's own).
use Rattle.std.specs.Prelude.{◌&&◌, ◌||◌, Bool, true, false, not, if◌then◌else◌, List, [], ◌∷◌, Option, Some, None}
use Rattle.std.specs.List.{find, flat_map, list_any}
use Rattle.std.specs.Bool.{beq}
use Rattle.std.specs.Option.{option_map_or}
use Rattle.att_numbers.specs.Types.{Handle}
use Rattle.att_policy.specs.declared.standing.KeyFacts.{KeyFacts}
use Rattle.att_attributes.specs.declared.attr.Attr.{Attr}
use Rattle.att_table.specs.Table.{Contents}
use Rattle.le_hci.specs.declared.peer.Peer.{Peer}
use Rattle.le_security.specs.Entry.{same_peer}
use Rattle.le_security.specs.declared.entry.Entry.{Entry}
use Rattle.policy_rights.specs.declared.rights.Right.{Right}
use Rattle.policy_rights.specs.Columns.{same_column}
use Rattle.policy_rights.specs.Held.{is_used, may_with}
use Rattle.policy_rights.specs.Kinds.{every_kind}
use Rattle.policy_words.specs.Cell.{rights_where}
use Rattle.policy_words.specs.declared.cell.Rights.{Rights}
use Rattle.policy_words.specs.compare.Before.{before_of, has, rights_of}
use Rattle.policy_words.specs.compare.Pairing.{pairs_of}
use Rattle.policy_words.specs.declared.compare.before.Held.{Held}
use Rattle.policy_words.specs.declared.compare.gaining.Gain.{Gain}
use Rattle.policy_words.specs.declared.compare.pairing.Pair.{Pair}

-- The attribute at a handle gives a right that a link with such a key may have lacked.
abbrev pub is_gained : List Attr → Handle → Held → Bool → Right → Bool
is_gained attributes handle held is_authorized right =
    may_with attributes held.key is_authorized handle right
    && not (has (rights_of held is_authorized) right)

abbrev pub is_gained_once : List Attr → Handle → Held → Right → Bool
is_gained_once attributes handle held right =
    is_gained attributes handle held true right
    && not (is_gained attributes handle held false right)

-- The rights that a link gains without an authorization, and those that it gains only with one.
abbrev pub gained_always : List Attr → Handle → Held → Rights
gained_always attributes handle held = rights_where (is_gained attributes handle held false)

abbrev pub gained_once : List Attr → Handle → Held → Rights
gained_once attributes handle held = rights_where (is_gained_once attributes handle held)

abbrev pub gain_of : List Attr → Handle → Held → Gain
gain_of attributes handle held =
    record {
      key = held.key;
      always = gained_always attributes handle held;
      once = gained_once attributes handle held;
    }

abbrev pub one_gain : List Attr → Handle → Held → List Gain
one_gain attributes handle held = gain_of attributes handle held ∷ []

abbrev pub gains_of : List Attr → Handle → List Held → List Gain
gains_of attributes handle before = flat_map (one_gain attributes handle) before

-- One gain for each of some kinds of keys.
abbrev pub pair_gains : List Attr → List Attr → List (Option KeyFacts) → Pair → List Gain
pair_gains attributes others kinds pair =
    gains_of attributes pair.attr.handle (before_of others kinds pair.there pair.attr.kind)

abbrev pub has_any_right : Rights → Bool
has_any_right rights =
    rights.read
    || (rights.write
    || (rights.command || (rights.notify || (rights.indicate || rights.subscribe))))

abbrev pub has_gain : Gain → Bool
has_gain gain = has_any_right gain.always || has_any_right gain.once

abbrev pub opens_at : List Attr → List Attr → List (Option KeyFacts) → Pair → Bool
opens_at attributes others kinds pair = list_any has_gain (pair_gains attributes others kinds pair)

-- Kinds of keys with the same gains.
abbrev pub same_rights : Rights → Rights → Bool
same_rights one other =
    beq one.read other.read
    && (beq one.write other.write && (beq one.command other.command
    && (beq one.notify other.notify && (beq one.indicate other.indicate
    && beq one.subscribe other.subscribe))))

abbrev pub same_gain : Gain → Gain → Bool
same_gain one other = same_rights one.always other.always && same_rights one.once other.once

abbrev pub kind_if_same : Gain → Gain → List (Option KeyFacts)
kind_if_same gain other = if same_gain gain other then other.key ∷ [] else []

abbrev pub kinds_like : Gain → List Gain → List (Option KeyFacts)
kinds_like gain gains = flat_map (kind_if_same gain) gains

-- No kind before this one has the same gains.
abbrev pub is_first : List Gain → Gain → Bool
is_first gains gain =
    option_map_or (λ (first : Gain). same_column first.key gain.key)
    (find (same_gain gain) gains) false

-- The kinds of a peer's links: no key, and its keys of a key file.
abbrev pub kind_of_peer : Peer → Entry → List (Option KeyFacts)
kind_of_peer peer entry =
    if same_peer entry.peer peer then Some entry.key.facts ∷ [] else []

abbrev pub kinds_of_peer : List Entry → Peer → List (Option KeyFacts)
kinds_of_peer keys peer = None ∷ flat_map (kind_of_peer peer) keys

abbrev pub permits : List Attr → Handle → Bool → Right → Option KeyFacts → Bool
permits attributes handle is_authorized right key =
    may_with attributes key is_authorized handle right

-- A key permits a use that none of some kinds permits.
abbrev pub exceeds :
    List Attr → List (Option KeyFacts) → Option KeyFacts → Handle → Bool → Right → Bool
exceeds attributes kinds key handle is_authorized right =
    permits attributes handle is_authorized right key
    && not (list_any (permits attributes handle is_authorized right) kinds)

abbrev pub exceeds_by :
    List Attr → List (Option KeyFacts) → Option KeyFacts → Handle → Bool → Bool
exceeds_by attributes kinds key handle is_authorized =
    exceeds attributes kinds key handle is_authorized Right.Read
    || (exceeds attributes kinds key handle is_authorized Right.Write
    || (exceeds attributes kinds key handle is_authorized Right.Command
    || (exceeds attributes kinds key handle is_authorized Right.Notify
    || (exceeds attributes kinds key handle is_authorized Right.Indicate
    || exceeds attributes kinds key handle is_authorized Right.Subscribe))))

abbrev pub exceeds_at : List Attr → List (Option KeyFacts) → Option KeyFacts → Attr → Bool
exceeds_at attributes kinds key attr =
    is_used attr.role
    && (exceeds_by attributes kinds key attr.handle false
    || exceeds_by attributes kinds key attr.handle true)

abbrev pub exceeds_all : List Attr → List (Option KeyFacts) → Option KeyFacts → Bool
exceeds_all attributes kinds key = list_any (exceeds_at attributes kinds key) attributes

-- The key of an entry permits its peer a use that no link of it was permitted by the other keys.
abbrev pub gains_by_key : List Entry → List Attr → Entry → Bool
gains_by_key keys attributes entry =
    exceeds_all attributes (kinds_of_peer keys entry.peer) (Some entry.key.facts)

-- A new table and key file give a right that the old ones do not, to a link with any kind of key
-- that there can be.
abbrev pub opens : Contents → List Entry → Contents → List Entry → Bool
opens table keys other other_keys =
    list_any (opens_at table.attributes other.attributes every_kind) (pairs_of table other)
    || list_any (gains_by_key other_keys table.attributes) keys
