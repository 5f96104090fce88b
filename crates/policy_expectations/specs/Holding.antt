-- The meaning of an expectation for all connections (this profile's own).
use Rattle.std.specs.Prelude.{◌≡◌, ◌≢◌, ◌≤◌, true, List, [], Option, IfSome}
use Rattle.std.specs.List.{All}
use Rattle.att_numbers.specs.Types.{Handle}
use Rattle.att_policy.specs.declared.guard.Need.{Need}
use Rattle.att_policy.specs.declared.standing.KeyFacts.{KeyFacts}
use Rattle.att_policy.specs.declared.standing.Standing.{Standing}
use Rattle.att_attributes.specs.declared.attr.Attr.{Attr}
use Rattle.att_table.specs.Table.{Contents}
use Rattle.policy_rights.specs.declared.rights.Right.{Right}
use Rattle.policy_rights.specs.Rights.{may_of}
use Rattle.policy_rights.specs.Held.{is_used}
use Rattle.policy_expectations.specs.declared.expectation.Expectation.{Expectation}
use Rattle.policy_expectations.specs.Differences.{all_named, is_among_named}
use Rattle.policy_expectations.specs.Meant.{is_meant, meant_for}
use Rattle.policy_expectations.specs.Named.{attributes_named_by}

-- A key has 7 to 16 octets (Core 5.0, Vol 3 Part H, 2.3.4).
pub record HasKeySize (key : KeyFacts) : Type 0 where
  pub least : 7 ≤ key.size
  pub most : key.size ≤ 16

abbrev pub HasPossibleKey : Standing → Type 0
HasPossibleKey standing = IfSome standing.key HasKeySize

-- Each connection has the right exactly if it meets the need.
abbrev pub IsAsMeant : List Attr → Option Need → Handle → Right → Type 0
IsAsMeant attributes meant handle right =
    (standing : Standing) → HasPossibleKey standing
    → may_of attributes standing handle right ≡ is_meant meant standing

abbrev pub IsUsedAsMeant : List Attr → Expectation → Attr → Type 0
IsUsedAsMeant attributes expected attr =
    (right : Right) → IsAsMeant attributes (meant_for expected right) attr.handle right

-- An expectation names an attribute, and each one that it names is used exactly as it states.
pub record Holds (table : Contents) (expected : Expectation) : Type 0 where
  pub names : attributes_named_by table expected ≢ []
  pub as_meant : All (IsUsedAsMeant table.attributes expected) (attributes_named_by table expected)

-- A value or a descriptor that a connection may use is named.
abbrev pub IsNamedIfUsed : List Attr → List Attr → Attr → Type 0
IsNamedIfUsed attributes named attr =
    is_used attr.role ≡ true
    → (standing : Standing) (right : Right) → HasPossibleKey standing
    → may_of attributes standing attr.handle right ≡ true
    → is_among_named named attr.handle ≡ true

-- Each expectation holds, and each attribute that can be used is named by one.
pub record AllHold (table : Contents) (expectations : List Expectation) : Type 0 where
  pub each : All (Holds table) expectations
  pub named : All (IsNamedIfUsed table.attributes (all_named table expectations))
      table.attributes
