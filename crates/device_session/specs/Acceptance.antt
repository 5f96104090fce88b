-- The delay before an application is accepted again after a failure (this profile's own). Times are
-- in milliseconds.
use Rattle.std.specs.Prelude.{ℕ, ◌+◌, ◌-◌, ◌^◌, ◌&&◌, Bool, true, false, min, nat_le, not, Some, None}
use Rattle.std.specs.Option.{option_map_or}
use Rattle.device_session.specs.declared.acceptance.Acceptance.{Acceptance}
use Rattle.device_session.specs.declared.acceptance.TheConstants.{ACCEPT_TIME}

abbrev pub accepting : Acceptance
accepting = record { retry = None; is_failing = false }

-- After a failure, an application is accepted once the delay is over, whether one connects or not.
abbrev pub accepts_at : Acceptance → Bool → ℕ → Bool
accepts_at acceptance connects now =
    option_map_or (λ retry. nat_le retry now) acceptance.retry connects

abbrev pub after_success : Acceptance → Bool → Acceptance
after_success acceptance accepted = record {
  retry = None;
  is_failing = acceptance.is_failing && not accepted;
}

abbrev pub after_failure : ℕ → Acceptance
after_failure now = record {
  retry = Some (min (now + ACCEPT_TIME) (2 ^ 64 - 1));
  is_failing = true;
}
