-- A hearer is sent each value that it may hear, or the value waits, or it is skipped.
use Rattle.std.proofs.Common.{◌≡◌, ℕ, Bool, true, false, List, [], ◌∷◌, ◌++◌, Some, None}
use Rattle.std.proofs.Common.{refl, sym, ap, subst, ◌∙◌, append_assoc}
use Rattle.std.specs.Prelude.{◌==◌, ◌&&◌, ◌||◌, not, nat_lt, if◌then◌else◌}
use Rattle.std.specs.Option.{option_map, option_to_list}
use Rattle.std.proofs.lemmas.Bool.{eqb-true, eq-eqb, or_left, or_right}
use Rattle.std.proofs.lemmas.List.Folds.{list_any-append}
use Rattle.att_numbers.specs.Types.{Handle, Values}
use Rattle.att_attributes.specs.declared.attr.Attr.{Attr}
use Rattle.att_pdu.specs.Response.{Response}
use Rattle.gatt_laws.specs.laws.MayBeHeard.{handle_told, handles_told}
use Rattle.gatt_laws.specs.laws.Skipped.{is_among, is_accounted_for, AccountsForEachValue}
use Rattle.gatt_laws.specs.machine.Heard.{Heard, heard_when_notifying, heard_when_indicating, hearer_after, after_responses}
use Rattle.gatt_laws.specs.machine.Heard.{heard_in_turn, is_skipped, skipped_in_turn}
use Rattle.gatt_subs.specs.declared.pending.TheConstants.{MAX_BACKLOG}
use Rattle.gatt_subs.specs.Hearing.{may_hear_at, wants_indications, is_indicated}
use Rattle.gatt_subs.specs.Indications.{Indications, hears, may_indicate, with_handle, is_waiting}
use Rattle.gatt_subs.specs.Indications.{from_due, first_handle, rest_of, indicated_handle, unconfirmed_since, after_indicate}
use Rattle.gatt_subs.specs.Told.{Hearer, notification_of, indication_of, pending_after_notify}

-- Disjunctions.

-- Lists of handles.

among-first : (one other : List Handle) (handle : Handle) → is_among handle one ≡ true → is_among handle (one ++ other) ≡ true
among-first one other handle is =
    list_any-append (λ at. at == handle) one other ∙ or_left (is_among handle one) (is_among handle other) is

among-second : (one other : List Handle) (handle : Handle) → is_among handle other ≡ true → is_among handle (one ++ other) ≡ true
among-second one other handle is =
    list_any-append (λ at. at == handle) one other ∙ or_right (is_among handle one) (is_among handle other) is

alone-among : (handle : Handle) → is_among handle (handle ∷ []) ≡ true
alone-among handle = (λ i. eq-eqb handle handle refl i || false)

-- the handles of some responses and of more
told-append : (responses more : List Response) → handles_told (responses ++ more) ≡ handles_told responses ++ handles_told more
told-append [] more = refl
told-append (response ∷ responses) more =
    ap (λ (later : List Handle). handle_told response ++ later) (told-append responses more)
    ∙ sym (append_assoc (handle_told response) (handles_told responses) (handles_told more))

told-first : (responses more : List Response) (handle : Handle) → is_among handle (handles_told responses) ≡ true
    → is_among handle (handles_told (responses ++ more)) ≡ true
told-first responses more handle is =
    ap (is_among handle) (told-append responses more)
    ∙ among-first (handles_told responses) (handles_told more) handle is

told-second : (responses more : List Response) (handle : Handle) → is_among handle (handles_told more) ≡ true
    → is_among handle (handles_told (responses ++ more)) ≡ true
told-second responses more handle is =
    ap (is_among handle) (told-append responses more)
    ∙ among-second (handles_told responses) (handles_told more) handle is

either-more : (one other third more further : Bool) → (one ≡ true → more ≡ true) → (third ≡ true → further ≡ true)
    → ((one || other) || third) ≡ true → ((more || other) || further) ≡ true
either-more true other third more further becomes too is = or_left (more || other) further (or_left more other (becomes refl))
either-more false true third more further becomes too is = or_left (more || true) further (or_right more true refl)
either-more false false third more further becomes too is = or_right (more || false) further (too is)

-- One value, and a hearer that may hear it.

or-more : (one other more : Bool) → (one ≡ true → more ≡ true) → (one || other) ≡ true → (more || other) ≡ true
or-more true other more becomes is = or_left more other (becomes refl)
or-more false other more becomes is = or_right more other is

module _ (attributes : List Attr) (values : Values) (now : ℕ) (handle : Handle) where
  abbrev IsSentOrWaits : Heard → Type 0
  IsSentOrWaits heard = (is_among handle (handles_told heard.responses) || is_among handle heard.pending.waiting) ≡ true

  more-sent : (responses : List Response) (heard : Heard) → IsSentOrWaits heard → IsSentOrWaits (after_responses responses heard)
  more-sent responses heard is =
      or-more (is_among handle (handles_told heard.responses)) (is_among handle heard.pending.waiting)
      (is_among handle (handles_told (responses ++ heard.responses)))
      (told-second responses heard.responses handle) is

  -- A value that waits and is due is not one of those before the first that is due.
  from-due-has : (is_due : Handle → Bool) (waiting : List Handle) → is_due handle ≡ true → is_among handle waiting ≡ true
      → is_among handle (from_due is_due waiting) ≡ true
  from-due-has is_due [] due is = cc is
  from-due-has is_due (first ∷ rest) due is = by-first (is_due first) refl (from-due-has is_due rest due)
    where
      not-first : (same : Bool) → (first == handle) ≡ same → is_due first ≡ false → (same || is_among handle rest) ≡ true
          → is_among handle rest ≡ true
      not-first true same undue is =
          let its = sym (ap is_due (eqb-true first handle same)) ∙ undue in
          cc (due, its)
      not-first false same undue is = is

      by-first : (first_due : Bool) → is_due first ≡ first_due
          → (is_among handle rest ≡ true → is_among handle (from_due is_due rest) ≡ true)
          → is_among handle (if first_due then first ∷ rest else from_due is_due rest) ≡ true
      by-first true first_is later = is
      by-first false first_is later = later (not-first (first == handle) refl first_is is)

  first-or-rest : (mtu : ℕ) (due : List Handle) → is_among handle due ≡ true
      → (is_among handle (handles_told (option_to_list (option_map (λ of. indication_of values of mtu) (first_handle due))))
      || is_among handle (rest_of due)) ≡ true
  first-or-rest mtu [] is = cc is
  first-or-rest mtu (first ∷ rest) is = by-first (first == handle) is
    where
      by-first : (same : Bool) → (same || is_among handle rest) ≡ true → ((same || false) || is_among handle rest) ≡ true
      by-first true either = refl
      by-first false either = either

  -- So it is indicated at the end of an event, or still waits.
  module _ (hearer : Hearer) (live : hearer.live ≡ true) (may : may_hear_at attributes hearer.row hearer.standing handle ≡ true)
      (wants : wants_indications hearer.row handle ≡ true) (waits : is_among handle hearer.pending.waiting ≡ true) where
    abbrev due-then : List Handle
    due-then = from_due (is_indicated attributes hearer.row hearer.standing) hearer.pending.waiting

    indicated-if : (room : Bool)
        → (is_among handle (handles_told (option_to_list (option_map (λ of. indication_of values of hearer.mtu)
        (if room then first_handle due-then else None))))
        || is_among handle (if room then rest_of due-then else hearer.pending.waiting)) ≡ true
    indicated-if true =
        first-or-rest hearer.mtu due-then
        (from-due-has (is_indicated attributes hearer.row hearer.standing) hearer.pending.waiting (λ i. may i && wants i) waits)
    indicated-if false = waits

    waiting-if : (room : Bool)
        → (if room then record hearer.pending {
          waiting = rest_of due-then;
          unconfirmed = option_map (unconfirmed_since now) (first_handle due-then);
        } else hearer.pending).waiting
        ≡ (if room then rest_of due-then else hearer.pending.waiting)
    waiting-if true = refl
    waiting-if false = refl

    indicates : IsSentOrWaits (heard_when_indicating attributes values hearer now)
    indicates =
        let room : Bool = may_indicate hearer.pending hearer.backlog in
        ap (λ (lives : Bool). is_among handle (handles_told (option_to_list
        (if lives then option_map (λ of. indication_of values of hearer.mtu)
        (indicated_handle hearer.pending attributes hearer.row hearer.standing hearer.backlog) else None)))
        || is_among handle (if lives
        then after_indicate hearer.pending attributes hearer.row hearer.standing hearer.backlog now
        else hearer.pending).waiting) live
        ∙ ap (λ (waiting : List Handle). is_among handle (handles_told (option_to_list
        (option_map (λ of. indication_of values of hearer.mtu) (if room then first_handle due-then else None))))
        || is_among handle waiting) (waiting-if room)
        ∙ indicated-if room

  -- A value still waits after another is notified.
  keeps-waiting : (pending : Indications) (other : Handle) (live waits there : Bool) → is_among handle pending.waiting ≡ true
      → is_among handle (if live then (if waits
      then record pending { waiting = if there then pending.waiting else pending.waiting ++ other ∷ [] } else pending)
      else pending).waiting ≡ true
  keeps-waiting pending other true true true is = is
  keeps-waiting pending other true true false is = among-first pending.waiting (other ∷ []) handle is
  keeps-waiting pending other true false there is = is
  keeps-waiting pending other false waits there is = is

  waits-on : (hearer : Hearer) (handles : List Handle) → hearer.live ≡ true
      → may_hear_at attributes hearer.row hearer.standing handle ≡ true
      → wants_indications hearer.row handle ≡ true → is_among handle hearer.pending.waiting ≡ true
      → IsSentOrWaits (heard_in_turn attributes values hearer now handles)
  waits-on hearer [] live may wants waits = indicates hearer live may wants waits
  waits-on hearer (other ∷ handles) live may wants waits =
      let first : Heard = heard_when_notifying attributes values hearer other in
      let after : Hearer = hearer_after hearer first in
      more-sent first.responses (heard_in_turn attributes values after now handles)
      (waits-on after handles live may wants (keeps-waiting hearer.pending other hearer.live
      (hears hearer.pending attributes hearer.row hearer.standing other && wants_indications hearer.row other)
      (is_waiting hearer.pending.waiting other) waits))

  -- The value itself is notified.
  module _ (hearer : Hearer) (live : hearer.live ≡ true) (on_time : hearer.pending.timed_out ≡ false)
      (may : may_hear_at attributes hearer.row hearer.standing handle ≡ true) where
    added : (there : Bool) → is_waiting hearer.pending.waiting handle ≡ there
        → is_among handle (if there then hearer.pending.waiting else hearer.pending.waiting ++ handle ∷ []) ≡ true
    added true is = is
    added false is = among-second hearer.pending.waiting (handle ∷ []) handle (alone-among handle)

    begins-to-wait : wants_indications hearer.row handle ≡ true
        → is_among handle (heard_when_notifying attributes values hearer handle).pending.waiting ≡ true
    begins-to-wait wants =
        (λ i. is_among handle (if live i then (if (not (on_time i) && may i) && wants i
        then record hearer.pending { waiting = with_handle hearer.pending.waiting handle } else hearer.pending)
        else hearer.pending).waiting)
        ∙ added (is_waiting hearer.pending.waiting handle) refl

    is-notified : wants_indications hearer.row handle ≡ false → nat_lt hearer.backlog MAX_BACKLOG ≡ true
        → is_among handle (handles_told (heard_when_notifying attributes values hearer handle).responses) ≡ true
    is-notified wants few =
        (λ i. is_among handle (handles_told (option_to_list
        (if live i && ((not (on_time i) && may i) && not (wants i) && few i)
        then Some (notification_of values handle hearer.mtu) else None))))
        ∙ alone-among handle

    is-skipped : wants_indications hearer.row handle ≡ false → nat_lt hearer.backlog MAX_BACKLOG ≡ false
        → is_skipped attributes hearer handle ≡ true
    is-skipped wants few = λ i. live i && (not (on_time i) && may i) && not (wants i) && not (few i)

    accounted-here : (handles : List Handle) (wants few : Bool) → wants_indications hearer.row handle ≡ wants
        → nat_lt hearer.backlog MAX_BACKLOG ≡ few
        → is_accounted_for attributes values hearer now (handle ∷ handles) handle ≡ true
    accounted-here handles true few wants is_few =
        let first : Heard = heard_when_notifying attributes values hearer handle in
        let after : Hearer = hearer_after hearer first in
        let heard : Heard = heard_in_turn attributes values after now handles in
        let sent : Bool = is_among handle (handles_told (first.responses ++ heard.responses)) in
        let waits : Bool = is_among handle heard.pending.waiting in
        or_left (sent || (wants_indications hearer.row handle && waits))
        (is_among handle (skipped_in_turn attributes values hearer (handle ∷ handles)))
        (ap (λ (is : Bool). sent || (is && waits)) wants
        ∙ more-sent first.responses heard (waits-on after handles live may wants (begins-to-wait wants)))
    accounted-here handles false true wants is_few =
        let first : Heard = heard_when_notifying attributes values hearer handle in
        let heard : Heard = heard_in_turn attributes values (hearer_after hearer first) now handles in
        let sent : Bool = is_among handle (handles_told (first.responses ++ heard.responses)) in
        let waits : Bool = wants_indications hearer.row handle && is_among handle heard.pending.waiting in
        or_left (sent || waits) (is_among handle (skipped_in_turn attributes values hearer (handle ∷ handles)))
        (or_left sent waits
        (told-first first.responses heard.responses handle (is-notified wants is_few)))
    accounted-here handles false false wants is_few =
        let first : Heard = heard_when_notifying attributes values hearer handle in
        let after : Hearer = hearer_after hearer first in
        let heard : Heard = heard_in_turn attributes values hearer now (handle ∷ handles) in
        or_right (is_among handle (handles_told heard.responses)
        || (wants_indications hearer.row handle && is_among handle heard.pending.waiting))
        (is_among handle (skipped_in_turn attributes values hearer (handle ∷ handles)))
        (ap (λ (skips : Bool). is_among handle ((if skips then handle ∷ [] else [])
        ++ skipped_in_turn attributes values after handles)) (is-skipped wants is_few)
        ∙ or_left (handle == handle) (is_among handle (skipped_in_turn attributes values after handles))
        (eq-eqb handle handle refl))

-- A hearer that is not timed out still is not when a value is notified.
same-timer : (pending : Indications) (waiting : List Handle) (live waits : Bool)
    → (if live then (if waits then record pending { waiting = waiting } else pending) else pending).timed_out ≡ pending.timed_out
same-timer pending waiting true true = refl
same-timer pending waiting true false = refl
same-timer pending waiting false waits = refl

pub still-on-time : (attributes : List Attr) (hearer : Hearer) (handle : Handle)
    → (pending_after_notify attributes hearer handle).timed_out ≡ hearer.pending.timed_out
still-on-time attributes hearer handle =
    same-timer hearer.pending (with_handle hearer.pending.waiting handle) hearer.live
    (hears hearer.pending attributes hearer.row hearer.standing handle && wants_indications hearer.row handle)

module _ (attributes : List Attr) (values : Values) (hearer : Hearer) (now : ℕ) (other : Handle) (handles : List Handle)
    (handle : Handle) (live : hearer.live ≡ true) (on_time : hearer.pending.timed_out ≡ false)
    (may : may_hear_at attributes hearer.row hearer.standing handle ≡ true) where
  abbrev first : Heard
  first = heard_when_notifying attributes values hearer other

  abbrev after : Hearer
  after = hearer_after hearer first

  abbrev heard : Heard
  heard = heard_in_turn attributes values after now handles

  more-accounted : is_accounted_for attributes values after now handles handle ≡ true
      → is_accounted_for attributes values hearer now (other ∷ handles) handle ≡ true
  more-accounted is =
      either-more (is_among handle (handles_told heard.responses))
      (wants_indications hearer.row handle && is_among handle heard.pending.waiting)
      (is_among handle (skipped_in_turn attributes values after handles))
      (is_among handle (handles_told (first.responses ++ heard.responses)))
      (is_among handle (skipped_in_turn attributes values hearer (other ∷ handles)))
      (told-second first.responses heard.responses handle)
      (among-second (if is_skipped attributes hearer other then other ∷ [] else [])
      (skipped_in_turn attributes values after handles) handle) is

  here-or-later : (same : Bool) → (other == handle) ≡ same → (same || is_among handle handles) ≡ true
      → (is_among handle handles ≡ true → is_accounted_for attributes values after now handles handle ≡ true)
      → is_accounted_for attributes values hearer now (other ∷ handles) handle ≡ true
  here-or-later true same among later =
      subst (λ (of : Handle). is_accounted_for attributes values hearer now (of ∷ handles) handle ≡ true)
      (sym (eqb-true other handle same))
      (accounted-here attributes values now handle hearer live on_time may handles
      (wants_indications hearer.row handle) (nat_lt hearer.backlog MAX_BACKLOG) refl refl)
  here-or-later false differs among later = more-accounted (later among)

pub accounts_for_each_value : AccountsForEachValue
accounts_for_each_value attributes values hearer now [] handle live on_time among may = cc among
accounts_for_each_value attributes values hearer now (other ∷ handles) handle live on_time among may =
    here-or-later attributes values hearer now other handles handle live on_time may (other == handle) refl among
    (λ later. accounts_for_each_value attributes values
    (hearer_after hearer (heard_when_notifying attributes values hearer other)) now handles handle live
    (still-on-time attributes hearer other ∙ on_time) later may)
