-- The clock and the controller take turns with other input.
use Rattle.std.proofs.Common.{◌≡◌, ℕ, ◌<◌, ◌≤◌, Bool, true, false, List, [], ◌∷◌, Some, None, refl, sym, ap, ◌∙◌, arith}
use Rattle.std.specs.Prelude.{◌&&◌, fold, if◌then◌else◌, nat_le, not}
use Rattle.std.proofs.lemmas.Bool.{leb-false}
use Rattle.std.proofs.lemmas.Option.{same_Some}
use Rattle.device_session.specs.declared.turns.Turns.{Turns}
use Rattle.device_session.specs.Turns.{ReadsInTurn, SparesOthers, TicksIncrease, after_reading, after_tick, after_unreadable}

ticked : (turns : Turns) (now first : ℕ) (test : Bool) → nat_le now turns.time ≡ test → (if test then None else Some now) ≡ Some first
    → (turns.time < first) × (first ≡ (if test then record turns { is_current = true } else record turns { time = now; is_told = true; is_current = true }).time)
ticked turns now first true is some = cc some
ticked turns now first false is some =
    let same : now ≡ first = same_Some now first some in (omega (arith, leb-false now turns.time is, same), sym same)

no-less : (turns : Turns) (now : ℕ) (test : Bool) → nat_le now turns.time ≡ test
    → turns.time ≤ (if test then record turns { is_current = true } else record turns { time = now; is_told = true; is_current = true }).time
no-less turns now true is = omega arith
no-less turns now false is = omega (arith, leb-false now turns.time is)

never-back : (turns : Turns) (times : List ℕ) → turns.time ≤ (fold after_tick turns times).time
never-back turns [] = omega arith
never-back turns (now ∷ times) = omega (arith, no-less turns now (nat_le now turns.time) refl, never-back (after_tick turns now) times)

pub ticks_increase : TicksIncrease
ticks_increase turns now later first second times is is' =
    let one = ticked turns now first (nat_le now turns.time) refl is in
    let after : Turns = fold after_tick (after_tick turns now) times in
    let other = ticked after later second (nat_le later after.time) refl is' in
    omega (arith, one.1, never-back (after_tick turns now) times, other.0)

-- the controller
stays-unread : (turns : Turns) (others : List Bool) → turns.was_read ≡ false → (fold after_unreadable turns others).was_read ≡ false
stays-unread turns [] is = is
stays-unread turns (other ∷ others) is = stays-unread (after_unreadable turns other) others refl

pub reads_in_turn : ReadsInTurn
reads_in_turn turns other later unreadable is =
    ap (λ was. true && not (was && later)) (stays-unread (after_reading turns true other) unreadable is)

never : (test : Bool) → test && false ≡ false
never true = refl
never false = refl

pub spares_others : SparesOthers
spares_others turns readable other later is = ap (λ was. later && not (was && true)) is ∙ never later
