-- Writes of what waits, one after another.
use Rattle.std.proofs.Common.{◌≡◌, inl, inr, ℕ, ◌+◌, ◌==◌, Bool, true, false, Option, Some, None, refl, sym, ap, subst, ◌∙◌}
use Rattle.std.specs.Prelude.{if◌then◌else◌, unwrap_or}
use Rattle.std.proofs.lemmas.Bool.{eq-eqb}
use Rattle.std.proofs.lemmas.List.{drop-drop}
use Rattle.device_session.specs.declared.holder.Holder.{Holder}
use Rattle.device_session.specs.declared.outgoing.Outgoing.{Outgoing}
use Rattle.device_session.specs.declared.outgoing.Outgoing.TheVariants.{Open, Deaf}
use Rattle.device_session.specs.declared.seat.Seat.{Seat}
use Rattle.device_session.specs.declared.seat.Seat.TheVariants.{Free, Taken}
use Rattle.device_session.specs.Application.{IsFlushed, IsSent, IsWritten, written}
use Rattle.device_session.specs.Application.Writing.{Accepts, Nothing, Refuses}
use Rattle.device_session.specs.Holder.{deafened, if_holder, offered, sent}
use Rattle.device_session.specs.Outgoing.{after_sent}
use Rattle.device_session.specs.Seats.{Seats, after_offer, after_refusal, after_sending, id_of_holder, on_holder, with_holder, with_seat}

twice : (outgoing : Outgoing) (one two : ℕ) → after_sent (after_sent outgoing one) two ≡ after_sent outgoing (one + two)
twice (Open outbox stalled) one two = ap (λ octets. Open (record outbox { octets = octets }) None) (drop-drop two one outbox.octets)
twice Deaf one two = refl

-- two changes of the same connection, which keep its number
module _ (id : ℕ) (first second both : Holder → Holder) (same : (holder : Holder) → (first holder).id ≡ holder.id)
    (joined : (holder : Holder) → second (first holder) ≡ both holder) where
  on-holder : (holder : Holder) → if_holder id second (if_holder id first holder) ≡ if_holder id both holder
  on-holder holder = by (holder.id == id) refl
    where
      by : (is : Bool) → (holder.id == id) ≡ is
          → if_holder id second (if is then first holder else holder) ≡ (if is then both holder else holder)
      by true is =
          ap (λ (test : Bool). if test then second (first holder) else first holder) (ap (λ (one : ℕ). one == id) (same holder) ∙ is) ∙ joined holder
      by false is = ap (λ (test : Bool). if test then second holder else holder) is

  on-seat : (seat : Seat) → on_holder (if_holder id second) (on_holder (if_holder id first) seat) ≡ on_holder (if_holder id both) seat
  on-seat (Free all_read) = refl
  on-seat (Taken holder) = ap Taken (on-holder holder)

  joins : (seats : Seats) → with_holder (if_holder id second) (with_holder (if_holder id first) seats) ≡ with_holder (if_holder id both) seats
  joins seats = ap (λ (seat : Seat). with_seat seat seats) (on-seat seats.seat)

sent-twice : (one two : ℕ) (holder : Holder) → sent two (sent one holder) ≡ sent (one + two) holder
sent-twice one two holder = ap (λ (outgoing : Outgoing). record holder { outgoing = outgoing }) (twice holder.outgoing one two)

pub sent_more : (id : ℕ) (first next last : Seats) → IsSent id first next → IsSent id next last → IsSent id first last
sent_more id first next last (inl same) more = subst (λ (next : Seats). IsSent id next last) same more
sent_more id first next last (inr sends) (inl same) = inr (sends.0, same ∙ sends.1)
sent_more id first next last (inr sends) (inr more) = inr (
  sends.0 + more.0,
  more.1 ∙ ap (after_sending id more.0) sends.1
      ∙ joins id (sent sends.0) (sent more.0) (sent (sends.0 + more.0)) (λ holder. refl) (sent-twice sends.0 more.0) first,
)

pub written_by : (id : ℕ) (before after last : Seats) → IsSent id before after → last ≡ after_offer id after → IsWritten id before last
written_by id before after last (inl same) is = (Nothing, is ∙ ap (after_offer id) same)
written_by id before after last (inr sends) is = (
  Accepts sends.0,
  is ∙ ap (after_offer id) sends.1
      ∙ joins id (sent sends.0) offered (λ holder. offered (sent sends.0 holder)) (λ holder. refl) (λ holder. refl) before,
)

pub deafened_by : (id : ℕ) (before after last : Seats) → IsSent id before after → last ≡ after_refusal id after → IsWritten id before last
deafened_by id before after last (inl same) is = (Refuses, is ∙ ap (after_refusal id) same)
deafened_by id before after last (inr sends) is = (
  Refuses,
  is ∙ ap (after_refusal id) sends.1 ∙ joins id (sent sends.0) deafened deafened (λ holder. refl) (λ holder. refl) before,
)

-- the connection of the application is the one that is written to
to-holder : (id : ℕ) (change : Holder → Holder) (seat : Seat) → id_of_holder seat ≡ Some id
    → on_holder (if_holder id change) seat ≡ on_holder change seat
to-holder id change (Free all_read) is = refl
to-holder id change (Taken holder) is =
    ap Taken (ap (λ (test : Bool). if test then change holder else holder) (eq-eqb holder.id id (some-is is)))
  where
    some-is : Some holder.id ≡ Some id → holder.id ≡ id
    some-is is = ap (λ (one : Option ℕ). unwrap_or one id) is

pub flushed_by : (id : ℕ) (before after : Seats) → id_of_holder before.seat ≡ Some id → IsWritten id before after → IsFlushed before after
flushed_by id before after is (writing, same) =
    (writing, same ∙ ap (λ (seat : Seat). with_seat seat before) (to-holder id (written writing) before.seat is))

-- nobody is there
pub flushed_nobody : (before after : Seats) → id_of_holder before.seat ≡ None → after ≡ before → IsFlushed before after
flushed_nobody before after none same = (Nothing, same ∙ sym (ap (λ (seat : Seat). with_seat seat before) (free before.seat none)))
  where
    free : (seat : Seat) → id_of_holder seat ≡ None → on_holder offered seat ≡ seat
    free (Free all_read) is = refl
    free (Taken holder) is = cc is

-- its socket is gone
pub flushed_away : (id : ℕ) (before after : Seats) → id_of_holder before.seat ≡ Some id → after ≡ after_refusal id before → IsFlushed before after
flushed_away id before after is same = flushed_by id before after is (Refuses, same)
