-- The octets that wait for an application (this profile's own). Times are in milliseconds.
use Rattle.std.specs.Prelude.{◌≡◌, ℕ, ◌+◌, ◌-◌, ◌^◌, ◌==◌, ◌<◌, ◌≤◌, ◌&&◌, ◌++◌, Bool, true, false, if◌then◌else◌, List, [], ◌∷◌, drop, fold, length, min, nat_le, nat_lt, unwrap_or, Option, Some, None}
use Rattle.std.specs.Option.{option_map}
use Rattle.octet_io.specs.Number.{Octets}
use Rattle.device_session.specs.declared.outgoing.Outgoing.{Outgoing}
use Rattle.device_session.specs.declared.outgoing.Outgoing.TheVariants.{Open, Deaf}
use Rattle.device_io.specs.declared.outbound.TheConstants.{MOST_WAITING}
use Rattle.device_session.specs.declared.outgoing.TheConstants.{MANY}

abbrev pub empty : Outgoing
empty = Open (record { octets = []; limit = MOST_WAITING }) None

abbrev pub octets_of : Outgoing → Octets
octets_of (Open outbox stalled) = outbox.octets
octets_of Deaf = []

abbrev pub is_deaf : Outgoing → Bool
is_deaf Deaf = true
is_deaf outgoing = false

abbrev pub is_full : Outgoing → Bool
is_full outgoing = nat_lt MANY (length (octets_of outgoing))

abbrev pub has_room : Outgoing → Bool
has_room (Open outbox stalled) = nat_lt (length outbox.octets) MANY
has_room Deaf = false

abbrev pub is_emptied : Outgoing → Bool
is_emptied outgoing = length (octets_of outgoing) == 0

abbrev pub fits : Outgoing → Octets → Bool
fits (Open outbox stalled) text = nat_le (length outbox.octets + length text) outbox.limit
fits Deaf text = true

abbrev pub with_text : Outgoing → Octets → Outgoing
with_text (Open outbox stalled) text =
    Open (record outbox { octets = outbox.octets ++ text }) stalled
with_text Deaf text = Deaf

abbrev pub after_sent : Outgoing → ℕ → Outgoing
after_sent (Open outbox stalled) count =
    Open (record outbox { octets = drop count outbox.octets }) None
after_sent Deaf count = Deaf

-- The time since when many octets wait, if they do.
abbrev pub stalled_at : Bool → Option ℕ → ℕ → Option ℕ
stalled_at full stalled now = if full then Some (unwrap_or stalled now) else None

abbrev pub watched : Outgoing → ℕ → Outgoing
watched (Open outbox stalled) now =
    Open outbox (stalled_at (nat_lt MANY (length outbox.octets)) stalled now)
watched Deaf now = Deaf

-- Many octets wait, and none was accepted for this long.
abbrev pub is_slow : ℕ → Outgoing → ℕ → Bool
is_slow slow (Open outbox stalled) now =
    nat_lt MANY (length outbox.octets) && nat_le slow (now - unwrap_or stalled now)
is_slow slow Deaf now = false

abbrev pub due : ℕ → Outgoing → Option ℕ
due slow (Open outbox stalled) =
    option_map (λ since. min (since + slow) (2 ^ 64 - 1)) stalled
due slow Deaf = None

-- A text is queued, octets are accepted at a time, or the output is watched at a time.
pub data Departure : Type 0 where
  Queued : (text : Octets) → Departure
  Sent : (count now : ℕ) → Departure
  Watched : (now : ℕ) → Departure

-- An output, and the time at which it last accepted octets, or else of its beginning.
pub record Sending : Type 0 where
  pub outgoing : Outgoing
  pub accepted : ℕ

abbrev pub with_departure : Sending → Departure → Sending
with_departure sending (Queued text) =
    record sending { outgoing = with_text sending.outgoing text }
with_departure sending (Sent count now) =
    record { outgoing = after_sent sending.outgoing count; accepted = now }
with_departure sending (Watched now) =
    record sending { outgoing = watched sending.outgoing now }

abbrev pub sending_from : ℕ → List Departure → Sending
sending_from born departures =
    fold with_departure (record { outgoing = empty; accepted = born }) departures

-- No time is before the one of an earlier departure.
unfoldable pub AreInOrder : ℕ → List Departure → Type 0
AreInOrder before [] = Unit {0}
AreInOrder before (Queued text ∷ later) = AreInOrder before later
AreInOrder before (Sent count now ∷ later) = (before ≤ now) × AreInOrder now later
AreInOrder before (Watched now ∷ later) = (before ≤ now) × AreInOrder now later

-- An application that has accepted octets within the time limit is not slow.
abbrev pub SparesReaders : Type 0
SparesReaders =
    (slow born : ℕ) (departures : List Departure) (now : ℕ) → 0 < slow
    → AreInOrder born departures
    → is_slow slow (sending_from born departures).outgoing now ≡ true
    → (sending_from born departures).accepted + slow ≤ now
