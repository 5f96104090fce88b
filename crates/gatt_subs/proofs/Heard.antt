-- Nothing is told but what may be heard, and nothing is indicated but what waits.
use Rattle.std.proofs.Common.{◌≡◌, Bool, true, false, ◌&&◌, if◌then◌else◌, List, [], ◌∷◌, Option, Some, None, refl, sym, ap, ◌∙◌}
use Rattle.std.specs.Prelude.{not, nat_lt, is_some}
use Rattle.std.specs.Option.{option_map}
use Rattle.std.proofs.lemmas.Bool.{and_parts}
use Rattle.att_numbers.specs.Types.{Handle, Row}
use Rattle.att_policy.specs.declared.standing.Standing.{Standing}
use Rattle.att_attributes.specs.declared.attr.Attr.{Attr}
use Rattle.gatt_subs.specs.Hearing.{is_indicated, may_hear_at, wants_indications}
use Rattle.gatt_subs.specs.HeardOnly.{NotifiesOnlyWhatIsHeard, IsHeard, IndicatesOnlyWhatIsHeard, IndicatesOnlyWhatWaits}
use Rattle.gatt_subs.specs.Indications.{Indications, Milliseconds, first_handle, from_due, hears, may_indicate, rest_of, unconfirmed_since, with_handle}
use Rattle.gatt_subs.specs.declared.pending.Unconfirmed.{Unconfirmed}
use Rattle.octet_io.proofs.Choices.{and_with_false}

not_heard : (pending : Indications) (attributes : List Attr) (row : Row) (standing : Standing) (handle : Handle) → may_hear_at attributes row standing handle
    ≡ false
    → hears pending attributes row standing handle ≡ false
not_heard pending attributes row standing handle silent = ap (λ may. not pending.timed_out && may) silent ∙ and_with_false (not pending.timed_out)

pub raises_only_what_is_heard : NotifiesOnlyWhatIsHeard
raises_only_what_is_heard pending attributes row standing handle silent =
    let deaf = not_heard pending attributes row standing handle silent in
    record {
      unchanged = ap (λ heard. if heard && wants_indications row handle then record pending { waiting = with_handle pending.waiting handle } else pending) deaf;
      silent = λ backlog. ap (λ heard. heard && not (wants_indications row handle) && nat_lt backlog 8) deaf;
    }

-- the first that is due is due
first_here : (is_due : Handle → Bool) (next handle : Handle) (rest : List Handle) (due : Bool)
    → (first_handle (from_due is_due rest) ≡ Some handle → is_due handle ≡ true)
    → is_due next ≡ due → first_handle (if due then next ∷ rest else from_due is_due rest) ≡ Some handle → is_due handle ≡ true
first_here is_due next handle rest true later is found = let same : next ≡ handle = cc found in sym (ap is_due same) ∙ is
first_here is_due next handle rest false later is found = later found

first_is_due : (is_due : Handle → Bool) (waiting : List Handle) (handle : Handle) → first_handle (from_due is_due waiting) ≡ Some handle → is_due handle ≡ true
first_is_due is_due [] handle found = cc found
first_is_due is_due (next ∷ rest) handle found = first_here is_due next handle rest (is_due next) (first_is_due is_due rest handle) refl found

pub releases_only_what_is_heard : IndicatesOnlyWhatIsHeard
releases_only_what_is_heard pending attributes row standing backlog handle = released (may_indicate pending backlog)
  where
    released : (may : Bool) → (if may then first_handle (from_due (is_indicated attributes row standing) pending.waiting) else None) ≡ Some handle
        → IsHeard attributes row standing handle
    released true found =
        let due = first_is_due (is_indicated attributes row standing) pending.waiting handle found in
        let facts = and_parts (may_hear_at attributes row standing handle) (wants_indications row handle) due in
        record { may = facts.0; wanted = facts.1 }
    released false found = cc found

-- where none is unconfirmed
none_there : (unconfirmed : Option Unconfirmed) (in_time has_room : Bool) → not (is_some unconfirmed) && in_time && has_room ≡ true → unconfirmed ≡ None
none_there None in_time has_room may = refl
none_there (Some one) in_time has_room may = cc may

pub releases_only_what_waits : IndicatesOnlyWhatWaits
releases_only_what_waits pending attributes row standing backlog none =
    record { unchanged = λ now. unchanged now (may_indicate pending backlog) refl; silent = silent (may_indicate pending backlog) }
  where
    is_due : Handle → Bool
    is_due = is_indicated attributes row standing

    silent : (may : Bool) → (if may then first_handle (from_due is_due pending.waiting) else None) ≡ None
    silent true = ap (λ waiting. first_handle (from_due is_due waiting)) none
    silent false = refl

    unchanged : (now : Milliseconds) (may : Bool) → may_indicate pending backlog ≡ may
        → (if may
        then record pending {
          waiting = rest_of (from_due is_due pending.waiting);
          unconfirmed = option_map (unconfirmed_since now)
              (first_handle (from_due is_due pending.waiting));
        } else pending) ≡ pending
    unchanged now true is =
        let absent = none_there pending.unconfirmed (not pending.timed_out) (nat_lt backlog 8) is in
        let waits = ap (λ waiting. rest_of (from_due is_due waiting)) none ∙ sym none in
        let confirmed = ap (λ waiting. option_map (unconfirmed_since now) (first_handle (from_due is_due waiting))) none ∙ sym absent in
        λ i. record { waiting = waits i; unconfirmed = confirmed i; timed_out = pending.timed_out }
    unchanged now false is = refl

pub ruleset only_what_is_heard = (raises_only_what_is_heard, releases_only_what_is_heard, releases_only_what_waits)
