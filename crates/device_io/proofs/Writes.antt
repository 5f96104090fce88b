-- Writes of what waits for a controller, one after another.
use Rattle.std.proofs.Common.{◌≡◌, ℕ, ◌+◌, Bool, true, false, refl, sym, ap, ◌∙◌, arith}
use Rattle.std.specs.Prelude.{◌==◌, ◌&&◌, if◌then◌else◌}
use Rattle.std.proofs.lemmas.Bool.{eqb-true, eqb-false}
use Rattle.std.proofs.lemmas.List.{drop-drop}
use Rattle.device_io.specs.declared.outbound.Outbound.{Outbound}
use Rattle.device_io.specs.Outbound.{after_accepted}
use Rattle.octet_io.specs.Number.{Octets}
use Rattle.device_io.specs.Served.{IsAccepted, IsDrained, IsWritten, Served, after_acceptance, after_queuing, has_room_for, with_fault}
use Rattle.device_io.specs.Served.Sending.{Accepts, Fails}
use Rattle.device_io.specs.declared.served.Fault.TheVariants.{TooMuch}

sum-is-zero : (one two : ℕ) (first second both : Bool) → (one == 0) ≡ first → (two == 0) ≡ second → (one + two == 0) ≡ both → both ≡ (second && first)
sum-is-zero one two true true true is-first is-second is-both = refl
sum-is-zero one two true true false is-first is-second is-both =
    absurd (eqb-false (one + two) 0 is-both (omega (arith, eqb-true one 0 is-first, eqb-true two 0 is-second)))
sum-is-zero one two false second false is-first is-second is-both = either second
  where
    either : (second : Bool) → false ≡ (second && false)
    either true = refl
    either false = refl
sum-is-zero one two true false false is-first is-second is-both = refl
sum-is-zero one two false second true is-first is-second is-both =
    absurd (eqb-false one 0 is-first (omega (arith, eqb-true (one + two) 0 is-both)))
sum-is-zero one two true false true is-first is-second is-both =
    absurd (eqb-false two 0 is-second (omega (arith, eqb-true (one + two) 0 is-both)))

since : (one two : Bool) (before now : ℕ)
    → (if two then (if one then before else now) else now) ≡ (if two && one then before else now)
since true true before now = refl
since true false before now = refl
since false true before now = refl
since false false before now = refl

pub accepted_twice : (outbound : Outbound) (one two now : ℕ)
    → after_accepted (after_accepted outbound one now) two now ≡ after_accepted outbound (one + two) now
accepted_twice outbound one two now = λ i. record {
  outbox = record outbound.outbox { octets = drop-drop two one outbound.outbox.octets i };
  since =
      (since (one == 0) (two == 0) outbound.since now
      ∙ ap (λ (both : Bool). if both then outbound.since else now)
      (sym (sum-is-zero one two (one == 0) (two == 0) (one + two == 0) refl refl refl))) i;
}

pub drained_more : (now : ℕ) (first next : Outbound) (count : ℕ) → IsDrained now first next
    → IsDrained now first (after_accepted next count now)
drained_more now first next count drained =
    (drained.0 + count, ap (λ (next : Outbound). after_accepted next count now) drained.1 ∙ accepted_twice first drained.0 count now)

pub drained_not : (now : ℕ) (outbound : Outbound) → IsDrained now outbound outbound
drained_not now outbound = (0, refl)

pub written_by : (octets : Octets) (now : ℕ) (before after : Served) (taken : Bool) → has_room_for octets before ≡ true
    → IsAccepted now (after_queuing octets now before) after → IsWritten octets now before after taken
written_by octets now before after taken fits accepted = by taken
  where
    queued : after ≡ (if has_room_for octets before then after_acceptance accepted.0 now (after_queuing octets now before) else with_fault TooMuch before)
    queued =
        accepted.1
        ∙ sym (ap (λ (fits : Bool). if fits then after_acceptance accepted.0 now (after_queuing octets now before) else with_fault TooMuch before) fits)

    by : (taken : Bool) → IsWritten octets now before after taken
    by true = (Accepts accepted.0, sym fits, queued)
    by false = (Fails accepted.0, refl, queued)
