-- The rights that links surely had in another table (this profile's own).
use Rattle.std.specs.Prelude.{◌≡◌, ◌==◌, ◌&&◌, Bool, true, false, is_none, if◌then◌else◌, List, [], ◌∷◌, Option, Some, None}
use Rattle.std.specs.List.{flat_map, list_all}
use Rattle.att_numbers.specs.Types.{AttributeType, Handle}
use Rattle.att_policy.specs.declared.standing.KeyFacts.{KeyFacts}
use Rattle.att_attributes.specs.declared.attr.Attr.{Attr}
use Rattle.policy_rights.specs.declared.rights.Right.{Right}
use Rattle.policy_rights.specs.Held.{is_used, may_with}
use Rattle.policy_words.specs.Cell.{rights_where}
use Rattle.policy_words.specs.declared.cell.Rights.{Rights}
use Rattle.policy_words.specs.declared.compare.before.Held.{Held}
use Rattle.policy_words.specs.declared.compare.pairing.Pair.{Pair}

-- The attributes that may correspond: the one that surely does, else all of the type.
abbrev pub handle_of_type : AttributeType → Attr → List Handle
handle_of_type kind attr =
    if is_used attr.role && (attr.kind == kind) then attr.handle ∷ [] else []

abbrev pub partners_by : Option Handle → AttributeType → List Attr → List Handle
partners_by (Some handle) kind others = handle ∷ []
partners_by None kind others = flat_map (handle_of_type kind) others

abbrev pub partners_of : List Attr → Pair → List Handle
partners_of others pair = partners_by pair.there pair.attr.kind others

-- A link surely had a right if each of them gave it. An attribute of a type that the other table
-- lacks is new: nobody had a right to it.
abbrev pub gave : List Attr → Option KeyFacts → Bool → Right → Handle → Bool
gave others key is_authorized right handle = may_with others key is_authorized handle right

abbrev pub had : List Attr → List Handle → Option KeyFacts → Bool → Right → Bool
had others [] key is_authorized right = false
had others (first ∷ rest) key is_authorized right =
    list_all (gave others key is_authorized right) (first ∷ rest)

-- All rights that links with such a key surely had.
abbrev pub held_of : List Attr → List Handle → Option KeyFacts → Held
held_of others partners key =
    record {
      key = key;
      always = rights_where (had others partners key false);
      authorized = rights_where (had others partners key true);
    }

abbrev pub one_held : List Attr → List Handle → Option KeyFacts → List Held
one_held others partners key = held_of others partners key ∷ []

abbrev pub before_of :
    List Attr → List (Option KeyFacts) → Option Handle → AttributeType → List Held
before_of others kinds there kind =
    flat_map (one_held others (partners_by there kind others)) kinds

abbrev pub has : Rights → Right → Bool
has rights Right.Read = rights.read
has rights Right.Write = rights.write
has rights Right.Command = rights.command
has rights Right.Notify = rights.notify
has rights Right.Indicate = rights.indicate
has rights Right.Subscribe = rights.subscribe

abbrev pub rights_of : Held → Bool → Rights
rights_of held false = held.always
rights_of held true = held.authorized

-- The list is what links had to each uncertain attribute of a type, if a type is named.
abbrev pub IsHeldFor :
    List Attr → List (Option KeyFacts) → Option AttributeType → List Held → Type 0
IsHeldFor others kinds None held = Unit {0}
IsHeldFor others kinds (Some kind) held = held ≡ before_of others kinds None kind

abbrev pub is_held_for : Option AttributeType → Pair → Bool
is_held_for None pair = false
is_held_for (Some kind) pair = is_none pair.there && (kind == pair.attr.kind)

abbrev pub loose_type_by : Option Handle → AttributeType → Option AttributeType
loose_type_by (Some handle) kind = None
loose_type_by None kind = Some kind

-- The type of an uncertain attribute.
abbrev pub loose_type : Pair → Option AttributeType
loose_type pair = loose_type_by pair.there pair.attr.kind
