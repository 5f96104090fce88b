-- The differences between what is meant and what a table permits (this profile's own).
use Rattle.std.specs.Prelude.{◌==◌, ◌&&◌, ◌||◌, Bool, true, false, not, if◌then◌else◌, List, [], ◌∷◌, ◌++◌, Option}
use Rattle.std.specs.Bool.{beq}
use Rattle.std.specs.List.{flat_map, list_any}
use Rattle.att_numbers.specs.Types.{Handle}
use Rattle.att_policy.specs.declared.guard.Need.{Need}
use Rattle.att_policy.specs.declared.standing.KeyFacts.{KeyFacts}
use Rattle.att_attributes.specs.declared.attr.Attr.{Attr}
use Rattle.att_table.specs.Table.{Contents}
use Rattle.policy_rights.specs.declared.rights.Right.{Right}
use Rattle.policy_rights.specs.Held.{is_used, may_use, may_with}
use Rattle.policy_rights.specs.Kinds.{every_kind}
use Rattle.policy_rights.specs.Rights.{standing_with_key}
use Rattle.policy_expectations.specs.declared.difference.Difference.{Difference}
use Rattle.policy_expectations.specs.declared.difference.Difference.TheVariants.{Use, Unnamed, NamesNothing}
use Rattle.policy_expectations.specs.declared.expectation.Expectation.{Expectation}
use Rattle.policy_expectations.specs.Meant.{is_meant, meant_for}
use Rattle.policy_expectations.specs.Named.{attributes_named_by}

-- A link with this key or none, authorized or not, has a right that it is not meant to have, or has
-- not one that it is meant to have.
abbrev pub differs : List Attr → Option Need → Handle → Right → Bool → Option KeyFacts → Bool
differs attributes meant handle right is_authorized key =
    not
    (beq (may_with attributes key is_authorized handle right)
    (is_meant meant (standing_with_key key is_authorized)))

-- The same of a link that is authorized or not.
abbrev pub kind_differs : List Attr → Option Need → Handle → Right → Option KeyFacts → Bool
kind_differs attributes meant handle right key =
    differs attributes meant handle right false key
    || differs attributes meant handle right true key

abbrev pub right_differs : List Attr → List (Option KeyFacts) → Option Need → Handle → Right → Bool
right_differs attributes kinds meant handle right =
    list_any (kind_differs attributes meant handle right) kinds

-- A right of an attribute, if it is not as it is meant.
abbrev pub right_differences : List Attr → List (Option KeyFacts) → Option Need → Attr → Right
    → List Difference
right_differences attributes kinds meant attr right =
    if right_differs attributes kinds meant attr.handle right
    then Use
    (record { handle = attr.handle; kind = attr.kind; right = right; meant = meant })
    ∷ []
    else []

abbrev pub expected_differences : List Attr → List (Option KeyFacts) → Expectation → Attr → Right
    → List Difference
expected_differences attributes kinds expected attr right =
    right_differences attributes kinds (meant_for expected right) attr right

unfoldable pub attribute_differences : List Attr → List (Option KeyFacts) → Expectation → Attr
    → List Difference
attribute_differences attributes kinds expected attr =
    expected_differences attributes kinds expected attr Right.Read
    ++ expected_differences attributes kinds expected attr Right.Write
    ++ expected_differences attributes kinds expected attr Right.Command
    ++ expected_differences attributes kinds expected attr Right.Notify
    ++ expected_differences attributes kinds expected attr Right.Indicate
    ++ expected_differences attributes kinds expected attr Right.Subscribe

-- Each attribute that an expectation names, or the expectation itself if it names none.
abbrev pub named_differences : List Attr → List (Option KeyFacts) → Expectation → List Attr
    → List Difference
named_differences attributes kinds expected [] =
    NamesNothing expected.place expected.characteristic ∷ []
named_differences attributes kinds expected (attr ∷ rest) =
    flat_map (attribute_differences attributes kinds expected) (attr ∷ rest)

abbrev pub expectation_differences : Contents → List (Option KeyFacts) → Expectation
    → List Difference
expectation_differences table kinds expected =
    named_differences table.attributes kinds expected (attributes_named_by table expected)

-- A value or a descriptor that somebody may use, but that no expectation names.
abbrev pub is_used_by_some_kind : List Attr → List (Option KeyFacts) → Attr → Bool
is_used_by_some_kind attributes kinds attr =
    is_used attr.role && list_any (may_use attributes attr.handle) kinds

abbrev pub is_among_named : List Attr → Handle → Bool
is_among_named named handle = list_any (λ (attr : Attr). attr.handle == handle) named

abbrev pub is_unnamed : List Attr → List (Option KeyFacts) → List Attr → Attr → Bool
is_unnamed attributes kinds named attr =
    is_used_by_some_kind attributes kinds attr && not (is_among_named named attr.handle)

abbrev pub unnamed_differences : List Attr → List (Option KeyFacts) → List Attr → Attr
    → List Difference
unnamed_differences attributes kinds named attr =
    if is_unnamed attributes kinds named attr then Unnamed attr.handle attr.kind ∷ [] else []

abbrev pub all_named : Contents → List Expectation → List Attr
all_named table expectations = flat_map (attributes_named_by table) expectations

-- In the order of the expectations, and then in that of handles.
abbrev pub differences_for : Contents → List (Option KeyFacts) → List Expectation
    → List Difference
differences_for table kinds expectations =
    flat_map (expectation_differences table kinds) expectations
    ++ flat_map (unnamed_differences table.attributes kinds (all_named table expectations))
    table.attributes

-- For each key that there can be, and for none.
abbrev pub differences_of : Contents → List Expectation → List Difference
differences_of table expectations = differences_for table every_kind expectations
