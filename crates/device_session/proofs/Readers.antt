-- An application that reads is not cut off.
use Rattle.std.proofs.Common.{◌≡◌, ℕ, ◌+◌, ◌-◌, ◌<◌, ◌≤◌, Bool, true, false, List, [], ◌∷◌, length, Option, Some, None, arith}
use Rattle.std.specs.Prelude.{fold, nat_le, nat_lt, ◌&&◌}
use Rattle.std.proofs.lemmas.Bool.{leb-true}
use Rattle.app_lines.specs.Outbox.{Waiting}
use Rattle.device_session.specs.declared.outgoing.Outgoing.{Outgoing}
use Rattle.device_session.specs.declared.outgoing.Outgoing.TheVariants.{Open, Deaf}
use Rattle.device_session.specs.declared.outgoing.TheConstants.{MANY}
use Rattle.device_session.specs.Outgoing.{AreInOrder, Departure, Sending, SparesReaders, empty, is_slow, sending_from, stalled_at, watched, with_departure, with_text}
use Rattle.device_session.specs.Outgoing.Departure.{Queued, Sent, Watched}

-- it has accepted nothing since it is stalled
abbrev pub Since : Outgoing → ℕ → Type 0
Since (Open outbox (Some since)) accepted = accepted ≤ since
Since (Open outbox None) accepted = Unit {0}
Since Deaf accepted = Unit {0}

since-watched : (outbox : Waiting) (full : Bool) (stalled : Option ℕ) (accepted now : ℕ) → accepted ≤ now → Since (Open outbox stalled) accepted
    → Since (Open outbox (stalled_at full stalled now)) accepted
since-watched outbox true (Some since) accepted now before kept = kept
since-watched outbox true None accepted now before kept = before
since-watched outbox false stalled accepted now before kept = tt

since-kept : (outgoing : Outgoing) (accepted now : ℕ) → accepted ≤ now → Since outgoing accepted → Since (watched outgoing now) accepted
since-kept (Open outbox stalled) accepted now before kept = since-watched outbox (nat_lt MANY (length outbox.octets)) stalled accepted now before kept
since-kept Deaf accepted now before kept = tt

queued-kept : (outgoing : Outgoing) (accepted : ℕ) (text : List ℕ) → Since outgoing accepted → Since (with_text outgoing text) accepted
queued-kept (Open outbox (Some since)) accepted text kept = kept
queued-kept (Open outbox None) accepted text kept = tt
queued-kept Deaf accepted text kept = tt

sent-kept : (outgoing : Outgoing) (accepted count now : ℕ) → Since (with_departure (record { outgoing = outgoing; accepted = accepted }) (Sent count now)).outgoing now
sent-kept (Open outbox stalled) accepted count now = tt
sent-kept Deaf accepted count now = tt

keeps : (sending : Sending) (departures : List Departure) (before : ℕ) → sending.accepted ≤ before → AreInOrder before departures
    → Since sending.outgoing sending.accepted
    → let last : Sending = fold with_departure sending departures in Since last.outgoing last.accepted
unfolding AreInOrder
keeps sending [] before early order kept = kept
keeps sending (Queued text ∷ later) before early order kept =
    keeps (with_departure sending (Queued text)) later before early order (queued-kept sending.outgoing sending.accepted text kept)
keeps sending (Sent count now ∷ later) before early order kept =
    keeps (with_departure sending (Sent count now)) later now (omega arith) order.1 (sent-kept sending.outgoing sending.accepted count now)
keeps sending (Watched now ∷ later) before early order kept =
    let so_far : sending.accepted ≤ now = omega (arith, early, order.0) in
    keeps (with_departure sending (Watched now)) later now so_far order.1 (since-kept sending.outgoing sending.accepted now so_far kept)

both : (one two : Bool) → one && two ≡ true → two ≡ true
both true two is = is
both false two is = cc is

slow-since : (slow : ℕ) (outgoing : Outgoing) (accepted now : ℕ) → 0 < slow → Since outgoing accepted → is_slow slow outgoing now ≡ true
    → accepted + slow ≤ now
slow-since slow (Open outbox (Some since)) accepted now some kept is =
    omega (arith, some, kept, leb-true slow (now - since) (both (nat_lt MANY (length outbox.octets)) (nat_le slow (now - since)) is))
slow-since slow (Open outbox None) accepted now some kept is =
    absurd (omega (arith, some, leb-true slow (now - now) (both (nat_lt MANY (length outbox.octets)) (nat_le slow (now - now)) is)))
slow-since slow Deaf accepted now some kept is = cc is

pub spares_readers : SparesReaders
spares_readers slow born departures now some order is =
    let last : Sending = sending_from born departures in
    slow-since slow last.outgoing last.accepted now some
    (keeps (record { outgoing = empty; accepted = born }) departures born (omega arith) order tt) is
