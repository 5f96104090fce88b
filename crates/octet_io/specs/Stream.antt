-- Octets written to a sink, and the counters of sources and sinks, which become `None` on overflow.
use Rattle.std.specs.Prelude.{◌≡◌, ℕ, ◌+◌, ◌<◌, ◌++◌, ◌==◌, ◌&&◌, nat_lt, Bool, true, false, ⊤, MatchResult, Option, Some, None, Result, Ok, Err}
use Rattle.std.specs.Io.KnownBytes.{Appends}
use Rattle.octet_io.specs.Number.{Octets}

-- The largest value of a 64-bit counter.
abbrev pub largest_count : ℕ
largest_count = 18446744073709551615

abbrev pub CountsNone : Option ℕ → Option ℕ → Type 0
CountsNone (Some before) (Some now) = now ≡ before
CountsNone None None = ⊤
CountsNone _ _ = ⊥

abbrev pub CountsOne : Option ℕ → Option ℕ → Type 0
CountsOne (Some before) (Some now) = now ≡ before + 1
CountsOne (Some before) None = before ≡ largest_count
CountsOne None None = ⊤
CountsOne None (Some now) = ⊥

abbrev pub CountsIf : Bool → Option ℕ → Option ℕ → Type 0
CountsIf true before now = CountsOne before now
CountsIf false before now = CountsNone before now

abbrev pub CountsMany : ℕ → Option ℕ → Option ℕ → Type 0
CountsMany more (Some before) (Some now) = now ≡ before + more
CountsMany more (Some before) None = largest_count < before + more
CountsMany more None None = ⊤
CountsMany more None (Some now) = ⊥

-- A read found the end if it returned nothing although the buffer has space.
abbrev pub finds_end : {E : Type 0} → Result ℕ E → ℕ → Bool
finds_end (Ok count) room = (count == 0) && nat_lt 0 room
finds_end (Err why) room = false

-- Only an error raises the failure counter.
abbrev pub CountsFailure : {T E : Type 0} → Option ℕ → Option ℕ → Result T E → Type 0
CountsFailure before now result =
    MatchResult result (λ _. CountsNone before now) (λ _. CountsOne before now)

-- A prefix of these octets was written.
pub record WritesFront (octets : Octets) (held holds : Option Octets) : Type 0 where
  pub written : Octets
  pub appended : Appends held holds written
  pub left : Octets
  pub parts : octets ≡ written ++ left
