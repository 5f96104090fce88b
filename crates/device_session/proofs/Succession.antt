-- Who gets the seat.
use Rattle.std.proofs.Common.{◌≡◌, inl, inr, ℕ, ◌-◌, Bool, true, false, [], ◌∷◌, Option, Some, None, refl, sym, ap, subst, ◌∙◌, arith}
use Rattle.std.specs.Prelude.{◌&&◌, if◌then◌else◌, is_some, not}
use Rattle.device_session.specs.declared.askers.Asker.{Asker}
use Rattle.device_session.specs.declared.askers.Asker.TheVariants as asker
use Rattle.device_session.specs.declared.holder.Holder.{Holder}
use Rattle.device_session.specs.declared.seat.Next.{Next}
use Rattle.device_session.specs.declared.seat.Seat.{Seat}
use Rattle.device_session.specs.declared.seat.Seat.TheVariants.{Free, Taken}
use Rattle.device_session.specs.declared.visitor.Visit.{Visit}
use Rattle.device_session.specs.declared.visitor.Visit.TheVariants.{Stays, Reads, Asks, Comes, Leaves}
use Rattle.device_session.specs.declared.visitor.Visitor.{Visitor}
use Rattle.device_session.specs.Holder.{deafened, has_line, if_holder, is_gone, after_holder_read, offered, queued, read, sent, watched_at, welcomed, with_arrival}
use Rattle.device_session.specs.Incoming.{Reading, arrivals_of}
use Rattle.device_session.specs.Incoming.Arrival.{Ready, Taken as Took}
use Rattle.device_session.specs.Laws.{ComesAlone, GoesOn, IsSame, ServesInTurn, StaysOrLeaves, WaitsOn}
use Rattle.device_session.specs.Laws.Event.{Knocks, Comes as Connects, Arrives, Readies, Sends, Offers, Refuses, Attends, Fills, Watches, Tells, Answers, Chooses, Asks as Takes, Welcomes, Ends, Holds, Releases}
use Rattle.device_session.specs.Seats.{Seats, accepts, after_attending, after_claim, after_end, after_visit, chosen_in, comes, counted_down, ended, given, has_next, has_next_line, is_coming, is_full_in, is_given, is_slow_in, left_by, left_seat, may_come, on_holder, read_or_left, seated, seating, visit_in, with_seat, with_taken}
use Rattle.device_session.specs.Visitor.{visitor_at}

same-holder : (holder : Holder) → IsSame holder holder
same-holder holder = record { id = refl; slow = refl; arrivals = []; sends_more = refl }

seat-stays : (seat : Seat) → StaysOrLeaves seat seat
seat-stays (Free all_read) = refl
seat-stays (Taken holder) = inl (holder, refl, same-holder holder)

next-stays : (next : Option Next) → WaitsOn next next
next-stays None = refl
next-stays (Some next) = (next.last_reads, refl, omega arith, omega arith)

-- the application stays, and so does the next one
stays : (seats : Seats) → GoesOn seats seats
stays seats = inl (record { seat = seat-stays seats.seat; next = next-stays seats.next })

-- it changes at most
abbrev Keeps : (Holder → Holder) → Type 0
Keeps change = (holder : Holder) → IsSame holder (change holder)

on : (change : Holder → Holder) → Keeps change → (seat : Seat) → StaysOrLeaves seat (on_holder change seat)
on change keeps (Free all_read) = refl
on change keeps (Taken holder) = inl (change holder, refl, keeps holder)

changes : (change : Holder → Holder) → Keeps change → (seats after : Seats) → after.seat ≡ on_holder change seats.seat
    → after.next ≡ seats.next → GoesOn seats after
changes change keeps seats after seat next = inl (record {
  seat = subst (StaysOrLeaves seats.seat) (sym seat) (on change keeps seats.seat);
  next = subst (WaitsOn seats.next) (sym next) (next-stays seats.next);
})

if-id : (id : ℕ) (change : Holder → Holder) → Keeps change → Keeps (if_holder id change)
if-id id change keeps holder = test _
  where
    test : (is : Bool) → IsSame holder (if is then change holder else holder)
    test true = keeps holder
    test false = same-holder holder

deafens : Keeps deafened
deafens holder = record { id = refl; slow = refl; arrivals = Ready ∷ []; sends_more = refl }

reads : (reading : Reading) → Keeps (read reading)
reads reading holder = test (has_line holder)
  where
    test : (line : Bool) → IsSame holder (if line then holder else after_holder_read reading holder)
    test true = same-holder holder
    test false = record { id = refl; slow = refl; arrivals = arrivals_of reading; sends_more = refl }

leaves : (seat : Seat) → StaysOrLeaves seat (ended seat)
leaves (Free all_read) = refl
leaves (Taken holder) = inr (false, refl)

ends : (seats : Seats) → GoesOn seats (after_end seats)
ends seats = inl (record { seat = leaves seats.seat; next = next-stays seats.next })

gives : (seats : Seats) (next : Option Next) → seats.next ≡ next → is_given seats.seat next ≡ true → GoesOn seats (given next seats)
gives seats None waits is = stays seats
gives seats (Some next) waits is = inr (record {
  one = next;
  waits = waits;
  over = ap (is_given seats.seat) waits ∙ is;
  seat = refl;
  next = refl;
})

fills : (seats : Seats) → GoesOn seats (read_or_left seats)
fills seats = inl (record { seat = left seats.seat seats.next; next = counted seats.seat seats.next })
  where
    left : (seat : Seat) (next : Option Next) → StaysOrLeaves seat (left_seat seat next)
    left (Free all_read) next = refl
    left (Taken holder) (Some next) = seat-stays (Taken holder)
    left (Taken holder) None = gone (is_gone holder)
      where
        gone : (is : Bool) → StaysOrLeaves (Taken holder) (if is then left_by holder else Taken holder)
        gone true = inr (_, refl)
        gone false = seat-stays (Taken holder)

    counted : (seat : Seat) (next : Option Next) → WaitsOn next (counted_down seat next)
    counted (Free all_read) next = next-stays next
    counted (Taken holder) None = refl
    counted (Taken holder) (Some next) = line (has_line holder)
      where
        line : (is : Bool) → WaitsOn (Some next) (if is then Some next else Some (record next { last_reads = next.last_reads - 1 }))
        line true = next-stays (Some next)
        line false = (next.last_reads - 1, refl, omega arith, omega arith)

-- a visit
module _ (seats : Seats) (now : ℕ) where
  claims : (coming : Bool) → coming && may_come seats ≡ false → coming ≡ true → after_claim seats ≡ seats
  claims coming off is = by (has_next seats) seats.visitor refl refl (sym (ap (λ (coming : Bool). coming && may_come seats) is) ∙ off)
    where
      by : (next : Bool) (visitor : Option Visitor) → has_next seats ≡ next → seats.visitor ≡ visitor
          → not (has_next seats) && is_some seats.visitor ≡ false → after_claim seats ≡ seats
      by true visitor is-next is-visitor off = ap (λ (next : Bool). if next then seats else seating seats.visitor seats) is-next
      by false None is-next is-visitor off =
          ap (λ (next : Bool). if next then seats else seating seats.visitor seats) is-next
          ∙ ap (λ (visitor : Option Visitor). seating visitor seats) is-visitor
      by false (Some visitor) is-next is-visitor off =
          cc (sym (ap (λ (next : Bool). not next && is_some seats.visitor) is-next
          ∙ ap (λ (visitor : Option Visitor). is_some visitor) is-visitor) ∙ off)

  visits : (visit : Visit) → is_coming visit && may_come seats ≡ false → GoesOn seats (after_visit visit seats)
  visits Comes off = subst (GoesOn seats) (sym (claims true off refl)) (stays seats)
  visits Leaves off = inl (record { seat = seat-stays seats.seat; next = next-stays seats.next })
  visits Stays off = stays seats
  visits Reads off = stays seats
  visits Asks off = stays seats

  -- one that comes
  comes-only : (visit : Visit) → is_coming visit ≡ true → visit ≡ Comes
  comes-only Comes is = refl
  comes-only Stays is = cc is
  comes-only Reads is = cc is
  comes-only Asks is = cc is
  comes-only Leaves is = cc is

  both : (one two : Bool) → one && two ≡ true → (one ≡ true) × (two ≡ true)
  both true true is = (refl, refl)
  both true false is = cc is
  both false two is = cc is

  not-true : (next : Bool) → not next ≡ true → next ≡ false
  not-true false is = refl
  not-true true is = cc is

  some : (visitor : Option Visitor) → is_some visitor ≡ true → (one : Visitor) × (visitor ≡ Some one)
  some (Some one) is = (one, refl)
  some None is = cc is

  pub comes_as : comes seats now ≡ true
      → (visit_in seats now ≡ Comes) × (has_next seats ≡ false) × ((one : Visitor) × (seats.visitor ≡ Some one))
  comes_as is =
      let tests = both (is_coming (visit_in seats now)) (may_come seats) is in
      let may = both (not (has_next seats)) (is_some seats.visitor) tests.1 in
      (comes-only (visit_in seats now) tests.0, not-true (has_next seats) may.0, some seats.visitor may.1)

  pub comes_to : comes seats now ≡ true
      → (one : Visitor) × (seats.visitor ≡ Some one) × (has_next seats ≡ false) × (visit_in seats now ≡ Comes)
      × (after_attending now seats ≡ seated one seats)
  comes_to is =
      let found = comes_as is in (
        found.2.0,
        found.2.1,
        found.1,
        found.0,
        ap (λ (visit : Visit). after_visit visit seats) found.0
            ∙ ap (λ (next : Bool). if next then seats else seating seats.visitor seats) found.1
            ∙ ap (λ (visitor : Option Visitor). seating visitor seats) found.2.1,
      )

chosen : (seats : Seats) (held : Bool) (askers : _) → GoesOn seats (if held then seats else record seats { askers = askers })
chosen seats true askers = stays seats
chosen seats false askers = inl (record { seat = seat-stays seats.seat; next = next-stays seats.next })

takes : (seats : Seats) (line : Bool) (who : Asker) → GoesOn seats (if line then with_taken who seats else seats)
takes seats false who = stays seats
takes seats true asker.Application =
    changes (with_arrival Took) (λ holder. record { id = refl; slow = refl; arrivals = Took ∷ []; sends_more = refl }) seats _ refl refl
takes seats true asker.Visitor = inl (record { seat = seat-stays seats.seat; next = next-stays seats.next })

comes-in : (seats : Seats) (visitor : Visitor) (free : Bool) → GoesOn seats (if free then record seats { visitor = Some visitor } else seats)
comes-in seats visitor true = inl (record { seat = seat-stays seats.seat; next = next-stays seats.next })
comes-in seats visitor false = stays seats

keeps-output : (change : Holder → Holder) → ((holder : Holder) → (change holder).incoming ≡ holder.incoming)
    → ((holder : Holder) → (change holder).id ≡ holder.id) → ((holder : Holder) → (change holder).slow ≡ holder.slow) → Keeps change
keeps-output change incoming id slow holder = record { id = id holder; slow = slow holder; arrivals = []; sends_more = incoming holder }

watches : (now : ℕ) (seats : Seats) (slow : Bool)
    → GoesOn seats (with_seat (if slow then ended seats.seat else on_holder (watched_at now) seats.seat) seats)
watches now seats true = ends seats
watches now seats false = changes (watched_at now) (keeps-output (watched_at now) (λ holder. refl) (λ holder. refl) (λ holder. refl)) seats _ refl refl

fill : (seats : Seats) (held giving full : Bool) → is_given seats.seat seats.next ≡ giving
    → GoesOn seats (if held then seats else if giving then given seats.next seats else if full then seats else read_or_left seats)
fill seats true giving full is = stays seats
fill seats false true full is = gives seats seats.next refl is
fill seats false false true is = stays seats
fill seats false false false is = fills seats

pub serves_in_turn : ServesInTurn
serves_in_turn seats Knocks off = inl (record { seat = seat-stays seats.seat; next = next-stays seats.next })
serves_in_turn seats (Connects id remote now) off = comes-in seats (visitor_at id remote now) (accepts seats)
serves_in_turn seats (Arrives id reading) off = changes (if_holder id (read reading)) (if-id id (read reading) (reads reading)) seats _ refl refl
serves_in_turn seats Readies off =
    changes (with_arrival Ready) (λ holder. record { id = refl; slow = refl; arrivals = Ready ∷ []; sends_more = refl }) seats _ refl refl
serves_in_turn seats (Sends id count) off =
    changes (if_holder id (sent count)) (if-id id (sent count) (keeps-output (sent count) (λ holder. refl) (λ holder. refl) (λ holder. refl)))
    seats _ refl refl
serves_in_turn seats (Offers id) off =
    changes (if_holder id offered) (if-id id offered (keeps-output offered (λ holder. refl) (λ holder. refl) (λ holder. refl))) seats _ refl refl
serves_in_turn seats (Refuses id) off = changes (if_holder id deafened) (if-id id deafened deafens) seats _ refl refl
serves_in_turn seats (Attends now) off = visits seats now (visit_in seats now) off
serves_in_turn seats Fills off = fill seats seats.is_held (is_given seats.seat seats.next) (is_full_in seats) refl
serves_in_turn seats (Watches now) off = watches now seats (is_slow_in seats now)
serves_in_turn seats (Tells text true) off =
    changes (queued text) (keeps-output (queued text) (λ holder. refl) (λ holder. refl) (λ holder. refl)) seats _ refl refl
serves_in_turn seats (Tells text false) off = ends seats
serves_in_turn seats (Answers accepted) off = inl (record { seat = seat-stays seats.seat; next = next-stays seats.next })
serves_in_turn seats (Chooses now) off = chosen seats seats.is_held (chosen_in seats now)
serves_in_turn seats Takes off = takes seats (has_next_line seats) seats.askers.asker
serves_in_turn seats Welcomes off = changes welcomed (keeps-output welcomed (λ holder. refl) (λ holder. refl) (λ holder. refl)) seats _ refl refl
serves_in_turn seats Ends off = ends seats
serves_in_turn seats Holds off = inl (record { seat = seat-stays seats.seat; next = next-stays seats.next })
serves_in_turn seats Releases off = inl (record { seat = seat-stays seats.seat; next = next-stays seats.next })

pub comes_alone : ComesAlone
comes_alone seats (Attends now) is =
    let to = comes_to seats now is in (
      to.0,
      record {
        visits = to.1;
        waits_alone = to.2;
        seat = to.4;
        leaves = ap (λ (after : Seats). after.visitor) to.4;
      },
    )
comes_alone seats Knocks is = cc is
comes_alone seats (Connects id remote now) is = cc is
comes_alone seats (Arrives id reading) is = cc is
comes_alone seats Readies is = cc is
comes_alone seats (Sends id count) is = cc is
comes_alone seats (Offers id) is = cc is
comes_alone seats (Refuses id) is = cc is
comes_alone seats Fills is = cc is
comes_alone seats (Watches now) is = cc is
comes_alone seats (Tells text fits) is = cc is
comes_alone seats (Answers accepted) is = cc is
comes_alone seats (Chooses now) is = cc is
comes_alone seats Takes is = cc is
comes_alone seats Welcomes is = cc is
comes_alone seats Ends is = cc is
comes_alone seats Holds is = cc is
comes_alone seats Releases is = cc is
