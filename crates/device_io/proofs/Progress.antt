-- A controller that makes progress is not given up.
use Rattle.std.proofs.Common.{◌≡◌, ℕ, min, Bool, true, false, List, [], ◌∷◌, drop, length, not, Option, Some, None, refl, ap, ◌∙◌, arith}
use Rattle.std.specs.Prelude.{◌==◌, ◌&&◌, ◌||◌, if◌then◌else◌, fold, nat_le}
use Rattle.std.proofs.lemmas.Bool.{eq-eqb, eqb-true, leb-false, leb-true}
use Rattle.std.proofs.lemmas.List.{length-drop}
use Rattle.octet_io.specs.Number.{Octets}
use Rattle.device_io.specs.declared.served.Fault.{Fault}
use Rattle.device_io.specs.declared.served.Fault.TheVariants.{TooMuch}
use Rattle.device_io.specs.declared.served.Progress.{Progress}
use Rattle.device_io.specs.declared.served.Progress.TheVariants.{New, Begun, Initialised}
use Rattle.device_io.specs.ControllerLaws.{Event, Progressing, SparesProgress, is_slow, is_waited_for, progress_after, with_event}
use Rattle.device_io.specs.ControllerLaws.Event.{Readies, Reads, Judges, Writes, Flushes, Announces, Initialises, LosesIt, Notes, Finishes, Tries}
use Rattle.device_io.specs.Outbound.{after_accepted, is_empty, stalled_since}
use Rattle.device_io.specs.Patience.{given_up_at, wait_end}
use Rattle.device_io.specs.Served.{Served, after_acceptance, after_queuing, announced_in, begun_at, has_room_for, is_late, lapse_of, served_at, served_due, with_fault}
use Rattle.device_io.specs.Served.Sending.{Accepts, Fails, Refuses}

-- since it has accepted no octets that wait
abbrev Moved : Served → ℕ → Type 0
Moved served moved = is_waited_for served ≡ true → served.outbound.since ≡ moved

queued-since : (empty zero : Bool) (since now moved : ℕ) → (not empty ≡ true → since ≡ moved)
    → (if zero then (if empty then now else since) else now) ≡ (if not (not empty) || not zero then now else moved)
queued-since true true since now moved kept = refl
queued-since true false since now moved kept = refl
queued-since false true since now moved kept = kept refl
queued-since false false since now moved kept = refl

same-since : (empty : Bool) (since now moved : ℕ) → (not empty ≡ true → since ≡ moved) → not empty ≡ true
    → since ≡ (if not (not empty) || false then now else moved)
same-since true since now moved kept waits = cc waits
same-since false since now moved kept waits = kept refl

write-moved : (fits : Bool) (served : Served) (octets : Octets) (now count moved : ℕ) → Moved served moved
    → Moved (if fits then after_acceptance count now (after_queuing octets now served) else with_fault TooMuch served)
    (if not (is_waited_for served) || (fits && not (count == 0)) then now else moved)
write-moved true served octets now count moved kept waits = queued-since (is_empty served.outbound) (count == 0) served.outbound.since now moved kept
write-moved false served octets now count moved kept waits = same-since (is_empty served.outbound) served.outbound.since now moved kept waits

refused-moved : (fits : Bool) (served : Served) (now moved : ℕ) → Moved served moved
    → Moved served (if not (is_waited_for served) || (fits && false) then now else moved)
refused-moved true served now moved kept waits = same-since (is_empty served.outbound) served.outbound.since now moved kept waits
refused-moved false served now moved kept waits = same-since (is_empty served.outbound) served.outbound.since now moved kept waits

drained : (octets : Octets) (count : ℕ) → (length octets == 0) ≡ true → (length (drop count octets) == 0) ≡ true
drained octets count is = eq-eqb (length (drop count octets)) 0 (omega (arith, length-drop count octets, eqb-true (length octets) 0 is))

accepted-since : (empty zero later : Bool) (since now moved : ℕ) → (not empty ≡ true → since ≡ moved) → (empty ≡ true → later ≡ true) → not later ≡ true
    → (if zero then since else now) ≡ (if not (not empty) || not zero then now else moved)
accepted-since true zero true since now moved kept stays waits = cc waits
accepted-since true zero false since now moved kept stays waits = cc (stays refl)
accepted-since false true later since now moved kept stays waits = kept refl
accepted-since false false later since now moved kept stays waits = refl

flush-moved : (served : Served) (now count moved : ℕ) → Moved served moved
    → Moved (after_acceptance count now served) (if not (is_waited_for served) || not (count == 0) then now else moved)
flush-moved served now count moved kept waits =
    accepted-since (is_empty served.outbound) (count == 0) (is_empty (after_accepted served.outbound count now)) served.outbound.since now moved kept
    (drained served.outbound.outbox.octets count) waits

judged-moved : (late : Bool) (fault : Fault) (served : Served) (moved : ℕ) → Moved served moved → Moved (if late then with_fault fault served else served) moved
judged-moved true fault served moved kept = kept
judged-moved false fault served moved kept = kept

step-moved : (patience : ℕ) (progressing : Progressing) (event : Event) → Moved progressing.served progressing.moved
    → Moved (with_event patience progressing event).served (with_event patience progressing event).moved
step-moved patience progressing (Readies ends) kept = kept
step-moved patience progressing (Reads room read) kept = kept
step-moved patience progressing (Judges now) kept =
    judged-moved (is_late (served_due patience progressing.served) now) (lapse_of progressing.served.progress) progressing.served progressing.moved kept
step-moved patience progressing (Writes octets now (Accepts count)) kept =
    write-moved (has_room_for octets progressing.served) progressing.served octets now count progressing.moved kept
step-moved patience progressing (Writes octets now (Fails count)) kept =
    write-moved (has_room_for octets progressing.served) progressing.served octets now count progressing.moved kept
step-moved patience progressing (Writes octets now Refuses) kept =
    refused-moved (has_room_for octets progressing.served) progressing.served now progressing.moved kept
step-moved patience progressing (Flushes now (Accepts count)) kept = flush-moved progressing.served now count progressing.moved kept
step-moved patience progressing (Flushes now (Fails count)) kept = flush-moved progressing.served now count progressing.moved kept
step-moved patience progressing (Flushes now Refuses) kept =
    same-since (is_empty progressing.served.outbound) progressing.served.outbound.since now progressing.moved kept
step-moved patience progressing Announces kept = kept
step-moved patience progressing Initialises kept = kept
step-moved patience progressing LosesIt kept = kept
step-moved patience progressing (Notes connects held now) kept = kept
step-moved patience progressing (Finishes now failure) kept = kept
step-moved patience progressing (Tries now attempt) kept = kept

-- since it was reached
abbrev begun : ℕ → Bool → Option ℕ
begun reached initialised = if initialised then None else Some reached

abbrev Begins : ℕ → Progressing → Type 0
Begins reached progressing = begun_at progressing.served.progress ≡ begun reached progressing.is_initialised

or-false : (one : Bool) → one ≡ (one || false)
or-false true = refl
or-false false = refl

goes-on : (reached : ℕ) (served : Served) (one : Bool) → begun_at served.progress ≡ begun reached one → begun_at served.progress ≡ begun reached (one || false)
goes-on reached served one kept = kept ∙ ap (begun reached) (or-false one)

write-goes-on : (fits : Bool) (served : Served) (octets : Octets) (now count : ℕ)
    → begun_at (if fits then after_acceptance count now (after_queuing octets now served) else with_fault TooMuch served).progress ≡ begun_at served.progress
write-goes-on true served octets now count = refl
write-goes-on false served octets now count = refl

judged-goes-on : (late : Bool) (fault : Fault) (served : Served) → begun_at (if late then with_fault fault served else served).progress ≡ begun_at served.progress
judged-goes-on true fault served = refl
judged-goes-on false fault served = refl

announced-goes-on : (progress : Progress) → begun_at (announced_in progress) ≡ begun_at progress
announced-goes-on (New reached) = refl
announced-goes-on (Begun reached) = refl
announced-goes-on Initialised = refl

or-true : (one : Bool) → true ≡ (one || true)
or-true true = refl
or-true false = refl

step-begins : (patience reached : ℕ) (progressing : Progressing) (event : Event) → Begins reached progressing
    → Begins reached (with_event patience progressing event)
step-begins patience reached progressing (Readies ends) kept = goes-on reached progressing.served progressing.is_initialised kept
step-begins patience reached progressing (Reads room read) kept = goes-on reached progressing.served progressing.is_initialised kept
step-begins patience reached progressing (Judges now) kept =
    judged-goes-on (is_late (served_due patience progressing.served) now) (lapse_of progressing.served.progress) progressing.served
    ∙ goes-on reached progressing.served progressing.is_initialised kept
step-begins patience reached progressing (Writes octets now (Accepts count)) kept =
    write-goes-on (has_room_for octets progressing.served) progressing.served octets now count
    ∙ goes-on reached progressing.served progressing.is_initialised kept
step-begins patience reached progressing (Writes octets now (Fails count)) kept =
    write-goes-on (has_room_for octets progressing.served) progressing.served octets now count
    ∙ goes-on reached progressing.served progressing.is_initialised kept
step-begins patience reached progressing (Writes octets now Refuses) kept = goes-on reached progressing.served progressing.is_initialised kept
step-begins patience reached progressing (Flushes now (Accepts count)) kept = goes-on reached progressing.served progressing.is_initialised kept
step-begins patience reached progressing (Flushes now (Fails count)) kept = goes-on reached progressing.served progressing.is_initialised kept
step-begins patience reached progressing (Flushes now Refuses) kept = goes-on reached progressing.served progressing.is_initialised kept
step-begins patience reached progressing Announces kept =
    announced-goes-on progressing.served.progress ∙ goes-on reached progressing.served progressing.is_initialised kept
step-begins patience reached progressing Initialises kept = ap (begun reached) (or-true progressing.is_initialised)
step-begins patience reached progressing LosesIt kept = goes-on reached progressing.served progressing.is_initialised kept
step-begins patience reached progressing (Notes connects held now) kept = goes-on reached progressing.served progressing.is_initialised kept
step-begins patience reached progressing (Finishes now failure) kept = goes-on reached progressing.served progressing.is_initialised kept
step-begins patience reached progressing (Tries now attempt) kept = goes-on reached progressing.served progressing.is_initialised kept

abbrev Keeps : ℕ → Progressing → Type 0
Keeps reached progressing = Moved progressing.served progressing.moved × Begins reached progressing

keeps : (patience reached : ℕ) (progressing : Progressing) (events : List Event) → Keeps reached progressing
    → Keeps reached (fold (with_event patience) progressing events)
keeps patience reached progressing [] kept = kept
keeps patience reached progressing (event ∷ events) kept =
    keeps patience reached (with_event patience progressing event) events
    (step-moved patience progressing event kept.0, step-begins patience reached progressing event kept.1)

-- the first of two limits
le-min : (one two now : ℕ) (first second both : Bool) → nat_le one now ≡ first → nat_le two now ≡ second → nat_le (min one two) now ≡ both
    → both ≡ (first || second)
le-min one two now true second true is-first is-second is-both = refl
le-min one two now true second false is-first is-second is-both =
    absurd (omega (arith, leb-true one now is-first, leb-false (min one two) now is-both))
le-min one two now false true true is-first is-second is-both = refl
le-min one two now false true false is-first is-second is-both =
    absurd (omega (arith, leb-true two now is-second, leb-false (min one two) now is-both))
le-min one two now false false false is-first is-second is-both = refl
le-min one two now false false true is-first is-second is-both =
    absurd (omega (arith, leb-false one now is-first, leb-false two now is-second, leb-true (min one two) now is-both))

late : (empty initialised : Bool) (since reached patience now : ℕ)
    → is_late (given_up_at patience ((if empty then None else Some since) ∷ begun reached initialised ∷ [])) now
    ≡ ((not empty && nat_le (wait_end patience since) now) || (not initialised && nat_le (wait_end patience reached) now))
unfolding given_up_at
late true true since reached patience now = refl
late true false since reached patience now = refl
late false true since reached patience now = or-false (nat_le (wait_end patience since) now)
late false false since reached patience now =
    le-min (wait_end patience since) (wait_end patience reached) now
    (nat_le (wait_end patience since) now) (nat_le (wait_end patience reached) now)
    (nat_le (min (wait_end patience since) (wait_end patience reached)) now) refl refl refl

stalled : (empty : Bool) (since moved patience now : ℕ) → (not empty ≡ true → since ≡ moved)
    → (not empty && nat_le (wait_end patience since) now) ≡ (not empty && nat_le (wait_end patience moved) now)
stalled true since moved patience now kept = refl
stalled false since moved patience now kept = ap (λ (since : ℕ). nat_le (wait_end patience since) now) (kept refl)

spared : (patience reached now : ℕ) (progressing : Progressing) → Keeps reached progressing
    → is_late (served_due patience progressing.served) now ≡ is_slow patience reached progressing now
spared patience reached now progressing kept =
    ap (λ (begun : Option ℕ). is_late (given_up_at patience (stalled_since progressing.served.outbound ∷ begun ∷ [])) now) kept.1
    ∙ late (is_empty progressing.served.outbound) progressing.is_initialised progressing.served.outbound.since reached patience now
    ∙ ap (λ (stalls : Bool). stalls || (not progressing.is_initialised && nat_le (wait_end patience reached) now))
    (stalled (is_empty progressing.served.outbound) progressing.served.outbound.since progressing.moved patience now kept.0)

pub spares_progress : SparesProgress
spares_progress patience reached events now =
    spared patience reached now (progress_after patience reached events)
    (keeps patience reached (record { served = served_at reached; is_initialised = false; moved = reached }) events (λ waits. cc waits, refl))
