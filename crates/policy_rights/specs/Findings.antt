-- The findings in a table, for its author (this profile's own).
use Rattle.std.specs.Prelude.{ℕ, ◌==◌, ◌&&◌, ◌||◌, Bool, true, false, not, if◌then◌else◌, nat_lt, is_none, is_some, List, [], ◌∷◌, ◌++◌, length, slice_index, Option, Some, None}
use Rattle.std.specs.List.{flat_map, list_all, list_any}
use Rattle.att_numbers.specs.Types.{Handle}
use Rattle.att_policy.specs.declared.guard.Need.{Need}
use Rattle.att_policy.specs.declared.standing.KeyFacts.{KeyFacts}
use Rattle.att_policy.specs.Need.{needs_authentication_of}
use Rattle.att_attributes.specs.declared.attr.Attr.{Attr}
use Rattle.att_attributes.specs.declared.attr.Role.{Role}
use Rattle.att_attributes.specs.declared.attr.Role.TheVariants.{Declaration, Value, Configuration, Descriptor}
use Rattle.att_attributes.specs.Attributes.{attribute_at, is_value}
use Rattle.att_attributes.specs.Group.{group_end_at, is_service_type}
use Rattle.att_table.specs.Changer.{changer_of}
use Rattle.att_table.specs.Table.{Contents}
use Rattle.le_hci.specs.declared.peer.Peer.{Peer}
use Rattle.le_hci.specs.declared.peer.TheConstants.{RANDOM_ADDRESS}
use Rattle.le_security.specs.declared.entry.Entry.{Entry}
use Rattle.policy_rights.specs.declared.finding.Finding.{Finding}
use Rattle.policy_rights.specs.declared.finding.Finding.TheVariants.{OpenWrite, ShortKey, EasyWrite, IdleReadRule, IdleWriteRule, ForgedAddress, NoSubscriber, LastingSubscription, EasySubscription, NoProperty, Unused, EmptyService, NoServiceChanged, IdleKey, NoKeyMatters, ShortestKey, PrivateAddress}
use Rattle.policy_rights.specs.Columns.{same_facts}
use Rattle.policy_rights.specs.Held.{adds_nothing, least_short_size, may_follow, may_use, may_write}
use Rattle.policy_rights.specs.Needs.{asks_less, asks_more, has_idle_read_rule, has_idle_write_rule, has_no_property, is_notified_or_indicated, is_subscription_forgeable, subscription_need, trusts_an_address}

abbrev pub note : Bool → Finding → List Finding
note true finding = finding ∷ []
note false finding = []

-- The shortest key that may write, if a short one may.
abbrev pub short_key_note : Handle → Option ℕ → List Finding
short_key_note handle (Some size) = ShortKey handle size ∷ []
short_key_note handle None = []

abbrev pub short_key_findings : List Attr → List (Option KeyFacts) → Attr → List Finding
short_key_findings attributes columns attr =
    if needs_authentication_of attr.guard.write
    then short_key_note attr.handle (least_short_size attributes attr.handle columns)
    else []

-- The findings from the rules of an attribute.
unfoldable pub rule_findings : List Attr → Attr → List Finding
rule_findings attributes attr =
    note (asks_less attr.guard) (EasyWrite attr.handle)
    ++ note (has_idle_read_rule attr.guard) (IdleReadRule attr.handle)
    ++ note (has_idle_write_rule attr.guard) (IdleWriteRule attr.handle)
    ++ note
    (trusts_an_address attr.guard || is_subscription_forgeable attributes attr.handle)
    (ForgedAddress attr.handle)

-- A client that has subscribed is sent the value for as long as it meets the needs of reading.
abbrev pub subscription_findings : Attr → Option Need → List Finding
subscription_findings attr None = []
subscription_findings attr (Some need) =
    note (asks_more need attr.guard.read) (LastingSubscription attr.handle)
    ++ note (asks_more attr.guard.read need) (EasySubscription attr.handle)

-- There is a key, and neither one nor none passes the test.
abbrev pub is_for_no_key : (Option KeyFacts → Bool) → List (Option KeyFacts) → Bool
is_for_no_key test columns = nat_lt 1 (length columns) && not (list_any test columns)

-- A value that is sent to nobody, or to others than may subscribe.
unfoldable pub announced_findings : List Attr → List (Option KeyFacts) → Attr → List Finding
announced_findings attributes columns attr =
    if is_notified_or_indicated attr.guard.properties
    then note (is_for_no_key (may_follow attributes attr.handle) columns) (NoSubscriber attr.handle)
    ++ subscription_findings attr (subscription_need attributes attr.handle)
    else []

abbrev pub unused_findings : List Attr → List (Option KeyFacts) → Attr → List Finding
unused_findings attributes columns attr =
    if has_no_property attr.guard.properties then NoProperty attr.handle ∷ []
    else note (is_for_no_key (may_use attributes attr.handle) columns) (Unused attr.handle)

unfoldable pub used_findings : List Attr → List (Option KeyFacts) → Attr → List Finding
used_findings attributes columns attr =
    note (may_write attributes None false attr.handle) (OpenWrite attr.handle)
    ++ short_key_findings attributes columns attr
    ++ rule_findings attributes attr
    ++ announced_findings attributes columns attr
    ++ unused_findings attributes columns attr

-- The group of the attribute at a handle has no other attribute.
abbrev pub ends_at_once : List Attr → Handle → Bool
ends_at_once attributes handle =
    is_some (attribute_at attributes handle) && (group_end_at attributes handle == handle)

abbrev pub service_findings : List Attr → Attr → List Finding
service_findings attributes attr =
    note (is_service_type attr.kind && ends_at_once attributes attr.handle)
    (EmptyService attr.handle)

abbrev pub findings_by : Role → List Attr → List (Option KeyFacts) → Attr → List Finding
findings_by Declaration attributes columns attr = service_findings attributes attr
findings_by Value attributes columns attr = used_findings attributes columns attr
findings_by Configuration attributes columns attr = []
findings_by Descriptor attributes columns attr = used_findings attributes columns attr

abbrev pub attribute_findings : List Attr → List (Option KeyFacts) → Attr → List Finding
attribute_findings attributes columns attr = findings_by attr.role attributes columns attr

-- A key that gives no right, if another one does.
abbrev pub idle_key : List Attr → Option KeyFacts → List Finding
idle_key attributes None = []
idle_key attributes (Some key) = note (adds_nothing attributes (Some key)) (IdleKey key)

abbrev pub key_findings : List Attr → List (Option KeyFacts) → List Finding
key_findings attributes columns =
    if list_all (adds_nothing attributes) columns
    then note (nat_lt 1 (length columns)) NoKeyMatters
    else flat_map (idle_key attributes) columns

-- Each other kind of key has more octets.
abbrev pub is_shorter : KeyFacts → Option KeyFacts → Bool
is_shorter key None = true
is_shorter key (Some other) = same_facts key other || nat_lt key.size other.size

-- There is no key, this kind, and at least one other kind.
abbrev pub is_shortest_kind : List (Option KeyFacts) → KeyFacts → Bool
is_shortest_kind columns key = nat_lt 2 (length columns) && list_all (is_shorter key) columns

abbrev pub shortest_key : List (Option KeyFacts) → Option KeyFacts → List Finding
shortest_key columns None = []
shortest_key columns (Some key) = note (is_shortest_kind columns key) (ShortestKey key)

abbrev pub has_subscribers : Attr → Bool
has_subscribers attr = is_value attr.role && is_notified_or_indicated attr.guard.properties

-- Clients that subscribe remember handles, and only Service Changed has them forget these (Core
-- 5.0, Vol 3 Part G, 2.5.2).
abbrev pub table_findings : Contents → List Finding
table_findings table =
    note (is_none (changer_of table) && list_any has_subscribers table.attributes)
    NoServiceChanged

-- The two most significant bits of a static random address are ones; a private one changes (Core
-- 5.0, Vol 6 Part B, 1.3.2).
abbrev pub is_private : Peer → Bool
is_private peer = (peer.kind == RANDOM_ADDRESS) && nat_lt (slice_index peer.address 5) 192

abbrev pub private_finding : Peer → List Finding
private_finding peer = note (is_private peer) (PrivateAddress peer)

abbrev pub address_findings : Entry → List Finding
address_findings entry = private_finding entry.peer

-- In the order of handles, then those of the table and of the keys.
abbrev pub findings_of : Contents → List Entry → List (Option KeyFacts) → List Finding
findings_of table keys columns =
    flat_map (attribute_findings table.attributes columns) table.attributes
    ++ table_findings table ++ key_findings table.attributes columns
    ++ flat_map (shortest_key columns) columns ++ flat_map address_findings keys
