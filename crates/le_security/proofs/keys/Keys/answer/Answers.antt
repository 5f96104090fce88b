use Rattle.le_security.proofs.keys.Keys.answer.Goals as goal

pub returns-in_err-entry-clause-only_one : goal.returns-in_err-entry-clause-only_one
returns-in_err-entry-clause-only_one c =
    rw (← c.self.view_is) (c.self.invariant.once c.args.peer.now c.args.random_number c.args.diversifier)

pub returns-clause-only_one : goal.returns-clause-only_one
returns-clause-only_one c =
    rw (← c.self.view_is) (c.self.invariant.once c.args.peer.now c.args.random_number c.args.diversifier)
