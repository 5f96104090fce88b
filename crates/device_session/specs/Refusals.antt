-- The refusals of rights that a device logs, and how many there were of each (this profile's own).
use Rattle.std.specs.Prelude.{◌≡◌, ℕ, ◌+◌, ◌-◌, ◌<◌, ◌%◌, ◌^◌, ◌==◌, ◌&&◌, ◌||◌, ◌++◌, All, Bool, true, false, if◌then◌else◌, is_some, List, [], ◌∷◌, filter, fold, length, min, nat_lt, not, unwrap_or, Option, Some, None}
use Rattle.std.specs.List.{list_any, sum_by}
use Rattle.std.specs.Option.{option_map, option_map_or}
use Rattle.octet_io.specs.Number.{Octets, from_two}
use Rattle.att_numbers.specs.declared.error_code.TheConstants.{INSUFFICIENT_AUTHENTICATION, INSUFFICIENT_AUTHORIZATION, INSUFFICIENT_ENCRYPTION, INSUFFICIENT_ENCRYPTION_KEY_SIZE, READ_NOT_PERMITTED, WRITE_NOT_PERMITTED}
use Rattle.att_numbers.specs.declared.opcode.TheConstants.{ERROR_RESPONSE, EXECUTE_WRITE_REQUEST, PREPARE_WRITE_REQUEST, WRITE_REQUEST}
use Rattle.le_h4.specs.declared.indicator.TheConstants.{ACL}
use Rattle.app_lines.specs.Names.{handle_of, name_of}
use Rattle.app_lines.specs.declared.names.Named.{Named}
use Rattle.device_session.specs.declared.refusals.Refusal.{Refusal}
use Rattle.device_session.specs.declared.refusals.SentRefusal.{SentRefusal}
use Rattle.device_session.specs.declared.refusals.Tally.{Tally}
use Rattle.device_session.specs.declared.refusals.TheConstants.{DATA_SIZE, ATT_CHANNEL, PDU_SIZE, MOST_TALLIES, MOST_KINDS}

-- The error codes of a right that is missing (Core 5.0, Vol 3 Part F, 3.4.1.1).
abbrev pub is_code_of_rights : ℕ → Bool
is_code_of_rights code =
    code == READ_NOT_PERMITTED || code == WRITE_NOT_PERMITTED
    || code == INSUFFICIENT_AUTHENTICATION || code == INSUFFICIENT_AUTHORIZATION
    || code == INSUFFICIENT_ENCRYPTION_KEY_SIZE || code == INSUFFICIENT_ENCRYPTION

-- The requests to write (3.4.5 and 3.4.6). All others read.
abbrev pub asks_to_write : ℕ → Bool
asks_to_write request =
    request == WRITE_REQUEST || request == PREPARE_WRITE_REQUEST
    || request == EXECUTE_WRITE_REQUEST

-- The refusal of a right by a PDU of the Attribute Protocol: an Error Response (3.4.1.1).
abbrev pub refusal_by : Octets → Option Refusal
refusal_by (opcode ∷ request ∷ attribute_low ∷ attribute_high ∷ code ∷ []) =
    if opcode == ERROR_RESPONSE && is_code_of_rights code
    then Some
    (record {
      is_write = asks_to_write request;
      attribute = from_two attribute_low attribute_high;
      code = code;
    })
    else None
refusal_by _ = None

abbrev pub is_att_data : ℕ → ℕ → ℕ → ℕ → Bool
is_att_data indicator size pdu channel =
    indicator == ACL && size == DATA_SIZE && pdu == PDU_SIZE && channel == ATT_CHANNEL

-- The refusal of a right by a packet: ACL data with one PDU on the channel of the Attribute
-- Protocol (Vol 2 Part E, 5.4.2, and Vol 3 Part A, 3.1). The handle has the lower 12 bits of its
-- field.
abbrev pub right_refused_by : Octets → Option SentRefusal
right_refused_by
    (indicator ∷ low ∷ high ∷ size_low ∷ size_high ∷ pdu_low ∷ pdu_high ∷ channel_low ∷ channel_high
    ∷ pdu) =
    if is_att_data indicator (from_two size_low size_high) (from_two pdu_low pdu_high)
    (from_two channel_low channel_high)
    then option_map
    (λ refusal. record { handle = from_two low high % 2 ^ 12; refusal = refusal })
    (refusal_by pdu)
    else None
right_refused_by _ = None

-- The name of the connection with a handle: a current one, or one that had it before the turn, or
-- 0 for one that both began and ended in the turn.
abbrev pub refused_connection : ℕ → List Named → List Named → ℕ
refused_connection handle named before =
    unwrap_or (name_of handle named) (unwrap_or (name_of handle before) 0)

abbrev pub is_same_operation : Bool → Bool → Bool
is_same_operation one other = if one then other else not other

abbrev pub is_same_refusal : Refusal → Refusal → Bool
is_same_refusal one other =
    is_same_operation one.is_write other.is_write && one.attribute == other.attribute
    && one.code == other.code

-- The refusals beyond those that are counted one by one are of one kind, `None`.
abbrev pub is_same_kind : Option Refusal → Option Refusal → Bool
is_same_kind (Some one) (Some other) = is_same_refusal one other
is_same_kind None None = true
is_same_kind one other = false

abbrev pub counts_kind : ℕ → Option Refusal → Tally → Bool
counts_kind connection kind tally =
    tally.connection == connection && is_same_kind tally.refusal kind

abbrev pub has_tally : ℕ → Option Refusal → List Tally → Bool
has_tally connection kind tallies = list_any (counts_kind connection kind) tallies

-- The number of refusals of a kind, at most 2^64 - 1.
abbrev pub plus_tally : ℕ → Option Refusal → ℕ → Tally → ℕ
plus_tally connection kind count tally =
    if counts_kind connection kind tally then min (count + tally.count) (2 ^ 64 - 1) else count

abbrev pub count_of_kind : ℕ → Option Refusal → List Tally → ℕ
count_of_kind connection kind tallies = fold (plus_tally connection kind) 0 tallies

abbrev pub without_kind : ℕ → Option Refusal → List Tally → List Tally
without_kind connection kind tallies =
    filter (λ tally. not (counts_kind connection kind tally)) tallies

-- A tally of one more refusal of a kind. It is the last one.
abbrev pub one_more : ℕ → Option Refusal → List Tally → Tally
one_more connection kind tallies = record {
  connection = connection;
  refusal = kind;
  count = min (count_of_kind connection kind tallies + 1) (2 ^ 64 - 1);
}

abbrev pub with_one_more : ℕ → Option Refusal → List Tally → List Tally
with_one_more connection kind tallies =
    if nat_lt (length (without_kind connection kind tallies)) MOST_TALLIES
    then without_kind connection kind tallies ++ one_more connection kind tallies ∷ []
    else without_kind connection kind tallies

abbrev pub is_tally_of : ℕ → Tally → Bool
is_tally_of connection tally = tally.connection == connection

-- A connection has at most `MOST_KINDS` tallies of one refusal each, as far as there is space.
abbrev pub may_have_tally : ℕ → List Tally → Bool
may_have_tally connection tallies =
    nat_lt (length (filter (is_tally_of connection) tallies)) MOST_KINDS
    && nat_lt (length tallies) MOST_TALLIES

-- A refusal that the connection has not had yet. It has a line in the log at once.
abbrev pub is_first_refusal : ℕ → Refusal → List Tally → Bool
is_first_refusal connection refusal tallies =
    not (has_tally connection (Some refusal) tallies) && may_have_tally connection tallies

abbrev pub kind_of_refusal : ℕ → Refusal → List Tally → Option Refusal
kind_of_refusal connection refusal tallies =
    if has_tally connection (Some refusal) tallies || may_have_tally connection tallies
    then Some refusal
    else None

abbrev pub after_refusal : ℕ → Refusal → List Tally → List Tally
after_refusal connection refusal tallies =
    with_one_more connection (kind_of_refusal connection refusal tallies) tallies

-- The tallies after a packet was sent, by the names of the connections now and before the turn.
abbrev pub tallies_after_packet : List Named → List Named → Octets → List Tally → List Tally
tallies_after_packet named before packet tallies =
    option_map_or
    (λ (sent : SentRefusal).
    after_refusal (refused_connection sent.handle named before) sent.refusal tallies)
    (right_refused_by packet) tallies

-- The connection has not ended: it has one of these names.
abbrev pub is_current : List Named → Tally → Bool
is_current named tally = is_some (handle_of tally.connection named)

abbrev pub current_tallies : List Named → List Tally → List Tally
current_tallies named tallies = filter (is_current named) tallies

-- The tallies of connections that have ended. Their numbers are logged.
abbrev pub ended_tallies : List Named → List Tally → List Tally
ended_tallies named tallies = filter (λ tally. not (is_current named tally)) tallies

-- A right is refused to a connection, or only the connections with these names go on.
pub data RefusalEvent : Type 0 where
  Refuses : (connection : ℕ) (refusal : Refusal) → RefusalEvent
  Remains : (named : List Named) → RefusalEvent

abbrev pub tallies_after : List Tally → RefusalEvent → List Tally
tallies_after tallies (Refuses connection refusal) = after_refusal connection refusal tallies
tallies_after tallies (Remains named) = current_tallies named tallies

abbrev pub tallies_of : List RefusalEvent → List Tally
tallies_of events = fold tallies_after [] events

abbrev pub goes_on_by : ℕ → RefusalEvent → Bool
goes_on_by connection (Refuses other refusal) = true
goes_on_by connection (Remains named) = is_some (handle_of connection named)

-- Until its connection ends, a refusal that was logged is not logged again.
abbrev pub LogsFirstOnce : Type 0
LogsFirstOnce =
    (before : List RefusalEvent) (connection : ℕ) (refusal : Refusal) (later : List RefusalEvent)
    → is_first_refusal connection refusal (tallies_of before) ≡ true
    → All (λ event. goes_on_by connection event ≡ true) later
    → is_first_refusal connection refusal
    (tallies_of (before ++ Refuses connection refusal ∷ later))
    ≡ false

-- The refusals to a connection since its last end.
abbrev pub refusals_after : ℕ → ℕ → RefusalEvent → ℕ
refusals_after connection count (Refuses other refusal) =
    if other == connection then count + 1 else count
refusals_after connection count (Remains named) =
    if is_some (handle_of connection named) then count else 0

abbrev pub refusals_to : ℕ → List RefusalEvent → ℕ
refusals_to connection events = fold (refusals_after connection) 0 events

-- The sum of the numbers of a connection.
abbrev pub sum_to : ℕ → List Tally → ℕ
sum_to connection tallies =
    sum_by (λ (tally : Tally). tally.count) (filter (is_tally_of connection) tallies)

-- One more tally fits, and no number is at its end.
abbrev pub HasSpaceForOne : List Tally → Type 0
HasSpaceForOne tallies =
    (length tallies < MOST_TALLIES)
    × (sum_by (λ (tally : Tally). tally.count) tallies < 2 ^ 64 - 1)

unfoldable pub HasSpaceFor : List Tally → List RefusalEvent → Type 0
HasSpaceFor tallies [] = Unit {0}
HasSpaceFor tallies (event ∷ events) =
    HasSpaceForOne tallies × HasSpaceFor (tallies_after tallies event) events

-- While there is space: the numbers of a connection are those of the refusals to it.
abbrev pub CountsEach : Type 0
CountsEach =
    (events : List RefusalEvent) (connection : ℕ) → HasSpaceFor [] events
    → sum_to connection (tallies_of events) ≡ refusals_to connection events
