-- The host gets octets and lines only at a time that was read after the last work of the device.
use Rattle.std.proofs.Common.{◌≡◌, ℕ, ◌<◌, ◌≤◌, Bool, true, false, List, [], ◌∷◌, ◌++◌, Some, None, refl, sym, ap, ◌∙◌, arith}
use Rattle.std.specs.Prelude.{fold, if◌then◌else◌, is_some, nat_le}
use Rattle.std.proofs.lemmas.Bool.{leb-false, leb-true}
use Rattle.device_session.specs.declared.turns.Turns.{Turns}
use Rattle.device_session.specs.Turns.{Clocked, IsAfterWork, JudgesAfterWork, NeverGoesBack, ClockStep, after_tick, after_turn, after_work, clock_at_start, tick_at, tick_in, with_clock_step}
use Rattle.device_session.specs.Turns.ClockStep.{Turn, Work}

record Sound (clocked : Clocked) : Type 0 where
  told : clocked.turns.is_told ≡ true → clocked.worked ≤ clocked.turns.time
  current : clocked.turns.is_current ≡ true → clocked.worked ≤ clocked.turns.time
  past : clocked.worked ≤ clocked.now

module _ (turns : Turns) (worked last now : ℕ) (sound : Sound (record { turns = turns; worked = worked; now = last })) (later : last ≤ now) where
  abbrev Left : Turns → Type 0
  Left after = Sound (record { turns = after; worked = worked; now = now })

  by-clock : (early : Bool) → nat_le now turns.time ≡ early → turns.is_told ≡ false
      → Left (if early then record turns { is_current = true } else record turns { time = now; is_told = true; is_current = true })
  by-clock true is untold =
      record {
        told = λ told. absurd (cc (sym told ∙ untold));
        current = λ current. omega (arith, sound.past, later, leb-true now turns.time is);
        past = omega (arith, sound.past, later);
      }
  by-clock false is untold =
      record {
        told = λ told. omega (arith, sound.past, later);
        current = λ current. omega (arith, sound.past, later);
        past = omega (arith, sound.past, later);
      }

  by-turn : (told : Bool) → turns.is_told ≡ told → Left (if told then record turns { is_told = false } else after_tick turns now)
  by-turn true is = record { told = λ told. absurd (cc told); current = sound.current; past = omega (arith, sound.past, later) }
  by-turn false is = by-clock (nat_le now turns.time) refl is

  first-by-clock : (early : Bool) → nat_le now turns.time ≡ early → is_some (if early then None else Some now) ≡ false
      → worked ≤ (if early then record turns { is_current = true } else record turns { time = now; is_told = true; is_current = true }).time
  first-by-clock true is none = omega (arith, sound.past, later, leb-true now turns.time is)
  first-by-clock false is none = absurd (cc none)

  first-by : (told : Bool) → turns.is_told ≡ told → is_some (if told then None else tick_at turns now) ≡ false
      → worked ≤ (if told then record turns { is_told = false } else after_tick turns now).time
  first-by true is none = sound.told is
  first-by false is none = first-by-clock (nat_le now turns.time) refl none

step-keeps : (clocked : Clocked) (step : ClockStep) → Sound clocked → (later : clocked.now ≤ (with_clock_step clocked step).now) → Sound (with_clock_step clocked step)
step-keeps clocked (Turn now) sound later =
    by-turn clocked.turns clocked.worked clocked.now now (record { told = sound.told; current = sound.current; past = sound.past }) later clocked.turns.is_told refl
step-keeps clocked (Work now) sound later = record { told = λ told. absurd (cc told); current = λ current. absurd (cc current); past = omega arith }

judges : (clocked : Clocked) (steps : List ClockStep) (now : ℕ) → Sound clocked → NeverGoesBack clocked.now (steps ++ Turn now ∷ []) → IsAfterWork (fold with_clock_step clocked steps) now
unfolding NeverGoesBack
judges clocked [] now sound later =
    record {
      first = first-by clocked.turns clocked.worked clocked.now now (record { told = sound.told; current = sound.current; past = sound.past }) later.0 clocked.turns.is_told refl;
      further = sound.current;
    }
judges clocked (Turn at ∷ steps) now sound later = judges (with_clock_step clocked (Turn at)) steps now (step-keeps clocked (Turn at) sound later.0) later.1
judges clocked (Work at ∷ steps) now sound later = judges (with_clock_step clocked (Work at)) steps now (step-keeps clocked (Work at) sound later.0) later.1

pub judges_after_work : JudgesAfterWork
judges_after_work steps now later =
    judges clock_at_start steps now (record { told = λ told. absurd (cc told); current = λ current. absurd (cc current); past = omega arith }) later
