use Rattle.std.proofs.Common.{ℕ, ◌==◌, Some, ap, sym, ◌∙◌, arith}
use Rattle.std.specs.List.{position}
use Rattle.host_connections.proofs.Found.{holding_there}
use Rattle.host_connections.proofs.Noted.{noted_found}
use Rattle.host_connections.proofs.handles.Handles.find_noted.Goals as goal

pub returns-in-Some-clause-place : goal.returns-in-Some-clause-place
returns-in-Some-clause-place c =
    noted_found c.args.slots.now c.args.self.now.noted c.requires.noted c.args.handle c.ranges.handle.fits c.in-Some.place
    (sym (c.in-Some.ensures ∙ ap (λ (it : ℕ). position (λ (noted : ℕ). noted == it) c.args.self.now.noted) c.from.ensures))
    (omega (arith, c.if-place-slots.true))

pub returns-in-Some-clause-there : goal.returns-in-Some-clause-there
returns-in-Some-clause-there c = holding_there c.args.slots.now c.args.handle (Some c.in-Some.place) (returns-in-Some-clause-place c)
