use Rattle.std.proofs.Common.{[], ◌∷◌}
use Rattle.gatt_host.specs.Calls.{call_of}
use Rattle.gatt_laws.specs.machine.Input.{ACall}
use Rattle.gihandop_c.specs.Boundary.{AnswersCall, OpenedRefines, TellsItem}
use Rattle.gihandop_c.specs.Statuses.{WaitsForOutput}
use Rattle.gihandop_c.proofs.Carried.{carried, carried_before}
use Rattle.gihandop_c.proofs.exports.asking.ask.Goals as goal

pub returns-clause-takes : goal.returns-clause-takes
returns-clause-takes c = λ asked.
    carried (OpenedRefines (ACall (call_of c.args.call) ∷ []) []) c.args.host.now.host c.in-Some.open.now c.call.new.opened c.in-Some.ensures.host
    (c.call.ensures.takes asked)

pub returns-clause-tells : goal.returns-clause-tells
returns-clause-tells c = λ asked.
    carried (TellsItem (ACall (call_of c.args.call))) c.args.host.now.host c.in-Some.open.now c.call.new.opened c.in-Some.ensures.host
    (c.call.ensures.tells asked)

pub returns-clause-answers : goal.returns-clause-answers
returns-clause-answers c = λ asked.
    carried_before (AnswersCall (call_of c.args.call) c.call.result) c.args.host.now.host c.in-Some.open.now c.in-Some.ensures.host
    (c.call.ensures.answers asked)

pub returns-clause-owes : goal.returns-clause-owes
returns-clause-owes c =
    carried_before (WaitsForOutput c.call.result) c.args.host.now.host c.in-Some.open.now c.in-Some.ensures.host c.call.ensures.owes
