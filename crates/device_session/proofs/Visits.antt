-- The next action of a visitor.
use Rattle.std.proofs.Common.{not, ◌≡◌, ◌≢◌, ◌⊎◌, inl, inr, ℕ, ◌<◌, ◌≤◌, Bool, true, false, List, [], ◌∷◌, ◌++◌, length, refl, sym, ap, ◌∙◌, arith}
use Rattle.std.specs.Prelude.{nat_le, ◌&&◌, ◌==◌}
use Rattle.std.specs.List.{flat_map}
use Rattle.std.proofs.lemmas.Bool.{eqb-true, leb-true, le-leb}
use Rattle.octet_io.specs.Number.{Octets}
use Rattle.app_lines.specs.Inbox.{found_in, line_in}
use Rattle.app_lines.specs.declared.inbox.Found.{Found}
use Rattle.app_lines.specs.declared.inbox.Found.TheVariants.{Line, Nothing, TooLong}
use Rattle.device_session.specs.declared.asked.LineKind.{LineKind}
use Rattle.device_session.specs.declared.asked.LineKind.TheVariants.{Claim, Call, Question, Wrong}
use Rattle.device_session.specs.declared.incoming.Incoming.{Incoming}
use Rattle.device_session.specs.declared.incoming.Input.{Input}
use Rattle.device_session.specs.declared.incoming.Input.TheVariants.{Readable, Quiet, Ended}
use Rattle.device_session.specs.declared.visitor.Visit.TheVariants.{Stays, Reads, Comes}
use Rattle.device_session.specs.declared.visitor.Visitor.{Visitor}
use Rattle.device_session.specs.Incoming.{Arrival, is_nothing, received}
use Rattle.device_session.specs.Lines.{kind_of_line}
use Rattle.device_session.specs.Visitor.{BeginsWith, ClaimsRightly, EndsInTime, LeavesInTime, WakesInTime, by_found, by_input, by_kind, due_after, is_nothing_found, is_quiet, visit_of, visitor_after}
use Rattle.device_session.proofs.Feeds.{with_feed}
use Rattle.device_session.proofs.Lines.{Told, all_told}

-- a read needs an input without a line
reads-nothing : (found : Found) (visitor : Visitor) (now : ℕ) (free : Bool) → by_found found visitor now free ≡ Reads → found ≡ Nothing
reads-nothing Line visitor now free is = absurd (kind (kind_of_line (line_in visitor.incoming.inbox)) free is)
  where
    kind : (kind : LineKind) (free : Bool) → by_kind kind free ≢ Reads
    kind Claim free is = cc is
    kind Call true is = cc is
    kind Call false is = cc is
    kind Question free is = cc is
    kind Wrong free is = cc is
reads-nothing TooLong visitor now free is = cc is
reads-nothing Nothing visitor now free is = refl

pub reads_without_a_line : (visitor : Visitor) (now : ℕ) (free : Bool) → visit_of visitor now free ≡ Reads → found_in visitor.incoming.inbox ≡ Nothing
reads_without_a_line visitor now free is = reads-nothing (found_in visitor.incoming.inbox) visitor now free is

-- nothing came of it
nothing-came : (incoming : Incoming) (came : Octets) (lines : List Octets) → Told incoming came lines → is_nothing incoming ≡ true → came ≡ []
nothing-came incoming came lines told is =
    let tests = both incoming.is_silent (length incoming.inbox == 0) is in
    told.whole ∙ ap (λ (lines : List Octets). flat_map with_feed lines ++ incoming.inbox) (told.silent tests.0)
    ∙ none incoming.inbox (eqb-true (length incoming.inbox) 0 tests.1)
  where
    both : (one two : Bool) → one && two ≡ true → (one ≡ true) × (two ≡ true)
    both true true is = (refl, refl)
    both true false is = cc is
    both false two is = cc is

    none : (octets : Octets) → length octets ≡ 0 → octets ≡ []
    none [] is = refl
    none (octet ∷ octets) is = absurd (omega (arith, is))

comes-late : (input : Input) (nothing late : Bool) → by_input input nothing late ≡ Comes → (nothing ≡ true) × (late ≡ true)
comes-late Ended nothing late is = cc is
comes-late Readable true true is = cc is
comes-late Readable true false is = cc is
comes-late Readable false true is = cc is
comes-late Readable false false is = cc is
comes-late Quiet true true is = (refl, refl)
comes-late Quiet true false is = cc is
comes-late Quiet false true is = cc is
comes-late Quiet false false is = cc is

module _ (id : ℕ) (remote : Bool) (born : ℕ) (arrivals : List Arrival) (now : ℕ) where
  abbrev inbox : Octets
  inbox = (received arrivals).incoming.inbox

  abbrev Rightly : Bool → Type 0
  Rightly free =
      BeginsWith Claim (received arrivals).incoming.inbox
      ⊎ ((free ≡ true) × BeginsWith Call (received arrivals).incoming.inbox)
      ⊎ (((received arrivals).came ≡ []) × (due_after born ≤ now))

  by-line : (kind : LineKind) (free : Bool) → found_in (received arrivals).incoming.inbox ≡ Line
      → kind_of_line (line_in (received arrivals).incoming.inbox) ≡ kind → by_kind kind free ≡ Comes → Rightly free
  by-line Claim free found kind is = inl (found, kind)
  by-line Call true found kind is = inr (inl (refl, (found, kind)))
  by-line Call false found kind is = cc is
  by-line Question free found kind is = cc is
  by-line Wrong free found kind is = cc is

  comes : (found : Found) (free : Bool) → found_in (received arrivals).incoming.inbox ≡ found
      → by_found found (visitor_after id remote born arrivals) now free ≡ Comes → Rightly free
  comes Line free found is = by-line (kind_of_line (line_in (received arrivals).incoming.inbox)) free found refl is
  comes TooLong free found is = cc is
  comes Nothing free found is =
      let tests = comes-late (received arrivals).incoming.input (is_nothing (received arrivals).incoming) (nat_le (due_after born) now) is in
      inr (inr (
        nothing-came (received arrivals).incoming (received arrivals).came (received arrivals).lines (all_told arrivals) tests.0,
        leb-true (due_after born) now tests.1,
      ))

pub claims_rightly : ClaimsRightly
claims_rightly id remote born arrivals now free is = comes id remote born arrivals now (found_in (received arrivals).incoming.inbox) free refl is

-- in time
late-ends : (input : Input) (nothing : Bool) → (by_input input nothing true ≢ Stays) × (by_input input nothing true ≡ Reads → nothing ≡ true)
late-ends Ended nothing = (λ is. cc is, λ is. cc is)
late-ends Readable true = (λ is. cc is, λ is. refl)
late-ends Readable false = (λ is. cc is, λ is. cc is)
late-ends Quiet true = (λ is. cc is, λ is. refl)
late-ends Quiet false = (λ is. cc is, λ is. cc is)

line-ends : (kind : LineKind) (free : Bool) → (by_kind kind free ≢ Stays) × (by_kind kind free ≢ Reads)
line-ends Claim free = (λ is. cc is, λ is. cc is)
line-ends Call true = (λ is. cc is, λ is. cc is)
line-ends Call false = (λ is. cc is, λ is. cc is)
line-ends Question free = (λ is. cc is, λ is. cc is)
line-ends Wrong free = (λ is. cc is, λ is. cc is)

module _ (id : ℕ) (remote : Bool) (born : ℕ) (arrivals : List Arrival) (now : ℕ) (free : Bool) where
  ends : (found : Found) (late : Bool) → late ≡ true → nat_le (due_after born) now ≡ late
      → EndsInTime (by_found found (visitor_after id remote born arrivals) now free) (received arrivals).came
  ends Line late is test =
      let ends = line-ends (kind_of_line (line_in (received arrivals).incoming.inbox)) free in
      record { ends = ends.0; reads_no_more = λ reads. absurd (ends.1 reads) }
  ends TooLong late is test = record { ends = λ is. cc is; reads_no_more = λ is. cc is }
  ends Nothing late is test =
      let incoming : Incoming = (received arrivals).incoming in
      let at : by_input incoming.input (is_nothing incoming) (nat_le (due_after born) now) ≡ by_input incoming.input (is_nothing incoming) true =
      ap (by_input incoming.input (is_nothing incoming)) (test ∙ is) in
      let ends = late-ends incoming.input (is_nothing incoming) in
      record {
        ends = λ stays. ends.0 (sym at ∙ stays);
        reads_no_more = λ reads. nothing-came incoming (received arrivals).came (received arrivals).lines (all_told arrivals) (ends.1 (sym at ∙ reads));
      }

pub leaves_in_time : LeavesInTime
leaves_in_time id remote born arrivals now free late =
    ends id remote born arrivals now free (found_in (received arrivals).incoming.inbox) (nat_le (due_after born) now) (le-leb (due_after born) now late) refl

-- until its time is over
not-late : (due now : ℕ) (test : Bool) → nat_le due now ≡ test → now < due → test ≡ false
not-late due now true is before = absurd (omega (arith, leb-true due now is, before))
not-late due now false is before = refl

quiet-stays : (input : Input) (nothing : Bool) → is_quiet input ≡ true → by_input input nothing false ≡ Stays
quiet-stays Quiet true is = refl
quiet-stays Quiet false is = refl
quiet-stays Readable nothing is = cc is
quiet-stays Ended nothing is = cc is

others-act : (input : Input) (nothing late : Bool) → not (is_quiet input && true) ≡ true → by_input input nothing late ≢ Stays
others-act Quiet nothing late is stays = cc is
others-act Readable true true is stays = cc stays
others-act Readable true false is stays = cc stays
others-act Readable false true is stays = cc stays
others-act Readable false false is stays = cc stays
others-act Ended nothing late is stays = cc stays

module _ (visitor : Visitor) (now : ℕ) (free : Bool) where
  acts : (found : Found) → not (is_quiet visitor.incoming.input && is_nothing_found found) ≡ true → by_found found visitor now free ≢ Stays
  acts Line is stays = (line-ends (kind_of_line (line_in visitor.incoming.inbox)) free).0 stays
  acts TooLong is stays = cc stays
  acts Nothing is stays = others-act visitor.incoming.input (is_nothing visitor.incoming) (nat_le visitor.due now) is stays

  both-true : (one two : Bool) → not (one && two) ≡ false → (one ≡ true) × (two ≡ true)
  both-true true true is = (refl, refl)
  both-true true false is = cc is
  both-true false two is = cc is

  waits : (found : Found) → not (is_quiet visitor.incoming.input && is_nothing_found found) ≡ false → now < visitor.due
      → by_found found visitor now free ≡ Stays
  waits found is before =
      let tests = both-true (is_quiet visitor.incoming.input) (is_nothing_found found) is in
      none found tests.1
      (ap (by_input visitor.incoming.input (is_nothing visitor.incoming)) (not-late visitor.due now (nat_le visitor.due now) refl before)
      ∙ quiet-stays visitor.incoming.input (is_nothing visitor.incoming) tests.0)
    where
      none : (found : Found) → is_nothing_found found ≡ true
          → by_input visitor.incoming.input (is_nothing visitor.incoming) (nat_le visitor.due now) ≡ Stays → by_found found visitor now free ≡ Stays
      none Nothing is stays = stays
      none Line is stays = cc is
      none TooLong is stays = cc is

pub wakes_in_time : WakesInTime
wakes_in_time visitor now free = (acts visitor now free (found_in visitor.incoming.inbox), waits visitor now free (found_in visitor.incoming.inbox))
