-- The phones are told what they have heard, by calls of the controller that do nothing else.
use Rattle.std.proofs.Common.{◌≡◌, ℕ, zero, suc, ◌<◌, ◌≤◌, Bool, true, false, List, [], ◌∷◌, ◌++◌, take, drop, slice_index_or, slice_set, refl, sym, ap, ◌∙◌, append_assoc, append-nil, arith}
use Rattle.std.specs.Prelude.{◌==◌, nat_lt, if◌then◌else◌}
use Rattle.std.proofs.lemmas.Bool.{eqb-true, eqb-false, le-ltb, lt-ltb, ltb-false, ltb-true}
use Rattle.octet_io.specs.Number.{Octets}
use Rattle.sim_controller.specs.Acts as by_phone
use Rattle.sim_controller.specs.Calls.{SimulatedCall, Hears, Tells, after_calls, given_by_call, given_in_calls}
use Rattle.sim_controller.specs.declared.told.Told.{Told}
use Rattle.sim_controller.specs.Hearing.{frames_heard_by, frames_heard_in}
use Rattle.sim_controller.specs.Phone.{Phone, absent_phone, phone_after_hearing, after_telling}
use Rattle.sim_controller.specs.Simulated.{Simulated, phone_at, with_phone}
use Rattle.gatt_commands.proofs.Telling.{heard_then, phone_set, phone_still, phone_told, set_twice}
use Rattle.gatt_commands.specs.Lines.{told_phone, with_told_phone, with_told_phones}
use Rattle.gatt_commands.specs.Loop.{acts_by, acts_in, nothing_heard, packets_taken, printed_of, taken_by}
use Rattle.gatt_commands.specs.Runs.{simulated}

-- what further calls of the controller take, give, do and have heard
pub record Adds (calls later : List SimulatedCall) (taken : List Octets) (told : List Told) (acts : List by_phone.SimulatedAct) (heard : ℕ → List Octets) : Type
    0 where
  pub taken_then : packets_taken simulated later ≡ packets_taken simulated calls ++ taken
  pub given_then : given_in_calls simulated later ≡ given_in_calls simulated calls ++ told
  pub acts_then : acts_in later ≡ acts_in calls ++ acts
  pub heard_so : (phone : ℕ) → frames_heard_in simulated phone later ≡ frames_heard_in simulated phone calls ++ heard phone

abbrev hears-by : List SimulatedCall → SimulatedCall → ℕ → List Octets
hears-by calls call phone = frames_heard_by (after_calls simulated calls) phone call

pub adds_one : (calls : List SimulatedCall) (call : SimulatedCall)
    → Adds calls (call ∷ calls) (taken_by (after_calls simulated calls) call) (given_by_call (after_calls simulated calls) call) (acts_by call)
    (hears-by calls call)
adds_one calls call = record { taken_then = refl; given_then = refl; acts_then = refl; heard_so = λ phone. refl }

pub adds_none : (calls : List SimulatedCall) → Adds calls calls [] [] [] nothing_heard
adds_none calls = record {
  taken_then = sym (append-nil (packets_taken simulated calls));
  given_then = sym (append-nil (given_in_calls simulated calls));
  acts_then = sym (append-nil (acts_in calls));
  heard_so = λ phone. sym (append-nil (frames_heard_in simulated phone calls));
}

further : {X : Type 0} (first second third more rest : List X) → second ≡ first ++ more → third ≡ second ++ rest → third ≡ first ++ (more ++ rest)
further first second third more rest one two = two ∙ ap (λ xs. xs ++ rest) one ∙ append_assoc first more rest

adds-both : (calls middle later : List SimulatedCall) (taken taken' : List Octets) (told told' : List Told) (acts acts' : List by_phone.SimulatedAct)
    (heard heard' : ℕ → List Octets)
    → Adds calls middle taken told acts heard → Adds middle later taken' told' acts' heard'
    → Adds calls later (taken ++ taken') (told ++ told') (acts ++ acts') (λ phone. heard phone ++ heard' phone)
adds-both calls middle later taken taken' told told' acts acts' heard heard' one two = record {
  taken_then =
      further (packets_taken simulated calls) (packets_taken simulated middle) (packets_taken simulated later) taken taken' one.taken_then two.taken_then;
  given_then =
      further (given_in_calls simulated calls) (given_in_calls simulated middle) (given_in_calls simulated later) told told' one.given_then two.given_then;
  acts_then = further (acts_in calls) (acts_in middle) (acts_in later) acts acts' one.acts_then two.acts_then;
  heard_so = λ phone.
      further (frames_heard_in simulated phone calls) (frames_heard_in simulated phone middle) (frames_heard_in simulated phone later)
      (heard phone) (heard' phone) (one.heard_so phone) (two.heard_so phone);
}

-- calls that have phones hear, and nothing else
abbrev pub AddsHeard : List SimulatedCall → List SimulatedCall → (ℕ → List Octets) → Type 0
AddsHeard calls later heard = Adds calls later [] [] [] heard

heard-alike : (calls later : List SimulatedCall) (heard heard' : ℕ → List Octets) → AddsHeard calls later heard → ((phone : ℕ) → heard phone ≡ heard' phone)
    → AddsHeard calls later heard'
heard-alike calls later heard heard' adds same = record {
  taken_then = adds.taken_then;
  given_then = adds.given_then;
  acts_then = adds.acts_then;
  heard_so = λ phone. adds.heard_so phone ∙ ap (λ (frames : List Octets). frames_heard_in simulated phone calls ++ frames) (same phone);
}

-- a phone hears all that waits
abbrev hears-all : ℕ → List Octets → List SimulatedCall → List SimulatedCall
hears-all place [] calls = calls
hears-all place (frame ∷ frames) calls = hears-all place frames (Hears place ∷ calls)

abbrev heard-at : ℕ → List Octets → ℕ → List Octets
heard-at place frames phone = if place == phone then frames else []

abbrev no-frames : List Octets
no-frames = []

neither : (b : Bool) → no-frames ≡ (if b then no-frames else no-frames)
neither true = refl
neither false = refl

first-heard : (place phone : ℕ) (sim : Simulated) (frame : Octets) (frames : List Octets) → (phone_at sim place).heard ≡ frame ∷ frames
    → frames_heard_by sim phone (Hears place) ++ heard-at place frames phone ≡ heard-at place (frame ∷ frames) phone
first-heard place phone sim frame frames is = pick (place == phone) refl
  where
    pick : (b : Bool) → (place == phone) ≡ b
        → (if b then take 1 (phone_at sim phone).heard else []) ++ (if b then frames else []) ≡ (if b then frame ∷ frames else [])
    pick true e =
        let same : place ≡ phone = eqb-true place phone e in
        let waits : (phone_at sim phone).heard ≡ frame ∷ frames = ap (λ (n : ℕ). (phone_at sim n).heard) (sym same) ∙ is in
        ap (λ (heard : List Octets). take 1 heard ++ frames) waits
    pick false e = refl

abbrev all-heard : Phone → Phone
all-heard phone = record phone { heard = [] }

record HasHeard (place : ℕ) (frames : List Octets) (calls : List SimulatedCall) : Type 0 where
  adds : AddsHeard calls (hears-all place frames calls) (heard-at place frames)
  then_so : after_calls simulated (hears-all place frames calls) ≡ with_phone (after_calls simulated calls) place
      (all-heard (phone_at (after_calls simulated calls) place))

has-heard : (place : ℕ) (frames : List Octets) (calls : List SimulatedCall) → (phone_at (after_calls simulated calls) place).heard ≡ frames
    → HasHeard place frames calls
has-heard place [] calls is =
    let old : Simulated = after_calls simulated calls in
    record {
      adds = heard-alike calls calls nothing_heard (heard-at place []) (adds_none calls) (λ phone. neither (place == phone));
      then_so =
          ap (λ (phones : List Phone). record old { phones = phones }) (sym (phone_set old.phones place))
          ∙ ap (λ (heard : List Octets). with_phone old place (record (phone_at old place) { heard = heard })) is;
    }
has-heard place (frame ∷ frames) calls is =
    let old : Simulated = after_calls simulated calls in
    let now : phone_at (after_calls simulated (Hears place ∷ calls)) place ≡ phone_after_hearing (phone_at old place) = heard_then old.phones place in
    let left : (phone_at (after_calls simulated (Hears place ∷ calls)) place).heard ≡ frames =
    ap (λ (phone : Phone). phone.heard) now ∙ ap (λ (heard : List Octets). drop 1 heard) is in
    let rest = has-heard place frames (Hears place ∷ calls) left in
    record {
      adds =
          heard-alike calls (hears-all place (frame ∷ frames) calls) (λ phone. hears-by calls (Hears place) phone ++ heard-at place frames phone)
          (heard-at place (frame ∷ frames))
          (adds-both calls (Hears place ∷ calls) (hears-all place frames (Hears place ∷ calls)) [] [] [] [] [] [] (hears-by calls (Hears place))
          (heard-at place frames)
          (adds_one calls (Hears place)) rest.adds)
          (λ phone. first-heard place phone old frame frames is);
      then_so =
          rest.then_so
          ∙ ap (λ (phone : Phone). with_phone (after_calls simulated (Hears place ∷ calls)) place (all-heard phone)) now
          ∙ ap (λ (phones : List Phone). record old { phones = phones })
          (set_twice old.phones place (phone_after_hearing (phone_at old place)) (all-heard (phone_at old place)));
    }

-- and then the end of its connection is told
all-heard-then : (phones : List Phone) (place : ℕ)
    → slice_index_or (slice_set phones place (all-heard (slice_index_or phones place absent_phone))) place absent_phone
    ≡ all-heard (slice_index_or phones place absent_phone)
all-heard-then [] place = refl
all-heard-then (phone ∷ phones) zero = refl
all-heard-then (phone ∷ phones) (suc place) = all-heard-then phones place

record HasToldOf (place : ℕ) (calls later : List SimulatedCall) : Type 0 where
  adds : AddsHeard calls later (heard-at place (phone_at (after_calls simulated calls) place).heard)
  then_so : after_calls simulated later ≡ with_told_phone (after_calls simulated calls) place

tells-of : (place : ℕ) (calls : List SimulatedCall)
    → HasToldOf place calls (Tells place ∷ hears-all place (phone_at (after_calls simulated calls) place).heard calls)
tells-of place calls =
    let old : Simulated = after_calls simulated calls in
    let frames : List Octets = (phone_at old place).heard in
    let heard : List SimulatedCall = hears-all place frames calls in
    let has = has-heard place frames calls refl in
    let now : phone_at (with_phone old place (all-heard (phone_at old place))) place ≡ all-heard (phone_at old place) = all-heard-then old.phones place in
    record {
      adds =
          heard-alike calls (Tells place ∷ heard) (λ phone. heard-at place frames phone ++ []) (heard-at place frames)
          (adds-both calls heard (Tells place ∷ heard) [] [] [] [] [] [] (heard-at place frames) (hears-by heard (Tells place)) has.adds
          (adds_one heard (Tells place)))
          (λ phone. append-nil (heard-at place frames phone));
      then_so =
          ap (λ (sim : Simulated). with_phone sim place (after_telling (phone_at sim place))) has.then_so
          ∙ ap (λ (phone : Phone). with_phone (with_phone old place (all-heard (phone_at old place))) place (after_telling phone)) now
          ∙ ap (λ (phones : List Phone). record old { phones = phones })
          (set_twice old.phones place (all-heard (phone_at old place)) (told_phone (phone_at old place)));
    }

-- one phone after another
past : (count phone : ℕ) → count ≤ phone → (count ≡ phone → ⊥) → suc count ≤ phone
past count phone least differs = pick (nat_lt count phone) refl
  where
    pick : (b : Bool) → nat_lt count phone ≡ b → suc count ≤ phone
    pick true e = ltb-true count phone e
    pick false e =
        let most : phone ≤ count = ltb-false count phone e in
        absurd (differs (omega (arith, least, most)))

next-heard : (count phone : ℕ) (frames : ℕ → List Octets)
    → (if nat_lt phone count then frames phone else []) ++ (if count == phone then frames count else [])
    ≡ (if nat_lt phone (suc count) then frames phone else [])
next-heard count phone frames = pick (nat_lt phone count) (count == phone) refl refl
  where
    pick : (b c : Bool) → nat_lt phone count ≡ b → (count == phone) ≡ c
        → (if b then frames phone else []) ++ (if c then frames count else []) ≡ (if nat_lt phone (suc count) then frames phone else [])
    pick true true e f =
        let below : phone < count = ltb-true phone count e in
        let same : count ≡ phone = eqb-true count phone f in
        absurd (omega (arith, below, same))
    pick true false e f =
        let below : phone < count = ltb-true phone count e in
        let more : nat_lt phone (suc count) ≡ true = lt-ltb phone (suc count) (omega (arith, below)) in
        append-nil (frames phone) ∙ sym (ap (λ (b : Bool). if b then frames phone else []) more)
    pick false true e f =
        let same : count ≡ phone = eqb-true count phone f in
        let more : nat_lt phone (suc count) ≡ true = lt-ltb phone (suc count) (omega (arith, same)) in
        ap frames same ∙ sym (ap (λ (b : Bool). if b then frames phone else []) more)
    pick false false e f =
        sym (ap (λ (b : Bool). if b then frames phone else [])
        (le-ltb phone (suc count) (past count phone (ltb-false phone count e) (eqb-false count phone f))))

pub record HasToldAll (count : ℕ) (calls : List SimulatedCall) : Type 0 where
  pub later : List SimulatedCall
  pub adds : AddsHeard calls later (printed_of count (after_calls simulated calls))
  pub then_so : after_calls simulated later ≡ with_told_phones (after_calls simulated calls) count

pub tells_all : (count : ℕ) (calls : List SimulatedCall) → HasToldAll count calls
tells_all zero calls = record {
  later = calls;
  adds = heard-alike calls calls nothing_heard (printed_of 0 (after_calls simulated calls)) (adds_none calls)
      (λ phone. sym (ap (λ (b : Bool). if b then (phone_at (after_calls simulated calls) phone).heard else []) (le-ltb phone 0 (omega arith))));
  then_so = refl;
}
tells_all (suc count) calls =
    let old : Simulated = after_calls simulated calls in
    let so_far = tells_all count calls in
    let middle : Simulated = after_calls simulated so_far.later in
    let next : List SimulatedCall = Tells count ∷ hears-all count (phone_at middle count).heard so_far.later in
    let told = tells-of count so_far.later in
    let still : (phone_at middle count).heard ≡ (phone_at old count).heard =
    ap (λ (sim : Simulated). (phone_at sim count).heard) so_far.then_so ∙ ap (λ (phone : Phone). phone.heard) (phone_still count old.phones) in
    record {
      later = next;
      adds =
          heard-alike calls next (λ phone. printed_of count old phone ++ heard-at count (phone_at middle count).heard phone) (printed_of (suc count) old)
          (adds-both calls so_far.later next [] [] [] [] [] [] (printed_of count old) (heard-at count (phone_at middle count).heard) so_far.adds told.adds)
          (λ phone.
          ap (λ (heard : List Octets). printed_of count old phone ++ heard-at count heard phone) still
          ∙ next-heard count phone (λ (n : ℕ). (phone_at old n).heard));
      then_so =
          told.then_so ∙ ap (λ (sim : Simulated). with_told_phone sim count) so_far.then_so
          ∙ ap (λ (phones : List Phone). record old { phones = phones }) (phone_told count old.phones);
    }
