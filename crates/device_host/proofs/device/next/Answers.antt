use Rattle.std.proofs.Common.{◌≡◌, ℕ, Option, refl, subst}
use Rattle.std.specs.Prelude.{IfSome}
use Rattle.gatt_laws.specs.machine.Calls.{TickCall}
use Rattle.device_loop.specs.Happenings.{Asked, Happened}
use Rattle.device_session.specs.Turns.{after_turn}
use Rattle.device_host.proofs.device.next.Goals as goal

-- the time that the clock says is the one that the host gets
abbrev is-tick : ℕ → Option ℕ → Type 0
is-tick time ticked = IfSome ticked (λ other. Happened (Asked (TickCall time)) ≡ Happened (Asked (TickCall other)))

pub returns-in-Some : goal.returns-in-Some
returns-in-Some g c =
    let turn = c.in-Some.ensures.turn in
    record {
      clock = (
        turn.0,
        subst (is-tick c.in-Some.now) turn.1 refl,
        ((after_turn c.args.session.now.turns turn.0).was_read, turn.2),
      );
    }
