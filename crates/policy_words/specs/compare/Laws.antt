-- The meaning of an answer that nothing is opened (this profile's own).
use Rattle.std.specs.Prelude.{◌≡◌, ◌≢◌, ◌≤◌, true, All, List, [], Option, Some, None}
use Rattle.att_numbers.specs.Types.{Handle}
use Rattle.att_policy.specs.declared.standing.KeyFacts.{KeyFacts}
use Rattle.att_policy.specs.declared.standing.Standing.{Standing}
use Rattle.att_attributes.specs.declared.attr.Attr.{Attr}
use Rattle.policy_rights.specs.declared.rights.Right.{Right}
use Rattle.policy_rights.specs.Rights.{may_of}
use Rattle.policy_words.specs.compare.Before.{partners_of}
use Rattle.policy_words.specs.declared.compare.pairing.Pair.{Pair}

-- A key has 7 to 16 octets (Core 5.0, Vol 3 Part H, 2.3.4).
abbrev pub IsKey : Option KeyFacts → Type 0
IsKey None = Unit {0}
IsKey (Some key) = (7 ≤ key.size) × (key.size ≤ 16)

-- There is an attribute that corresponds, and each that may correspond gave the right.
abbrev pub WasPermitted : List Attr → List Handle → Standing → Right → Type 0
WasPermitted others partners standing right =
    (partners ≢ []) × All (λ handle. may_of others standing handle right ≡ true) partners

-- Each connection that may use an attribute might use so what corresponds to it.
abbrev pub PermitsNoMore : List Attr → List Attr → Pair → Type 0
PermitsNoMore attributes others pair =
    (standing : Standing) (right : Right) → IsKey standing.key
    → may_of attributes standing pair.attr.handle right ≡ true
    → WasPermitted others (partners_of others pair) standing right
