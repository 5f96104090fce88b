use Rattle.std.proofs.Common.{[], ◌∷◌}
use Rattle.gatt_laws.specs.machine.Input.{ATable}
use Rattle.gihandop_c.specs.Boundary.{AnswersTable, OpenedRefines, TellsItem}
use Rattle.gihandop_c.specs.Statuses.{WaitsForOutput}
use Rattle.gihandop_c.proofs.Carried.{carried, carried_before}
use Rattle.gihandop_c.proofs.exports.asking.gh_replace.Goals as goal

pub returns-clause-takes : goal.returns-clause-takes
returns-clause-takes c = λ contents read below asked.
    carried (OpenedRefines (ATable contents ∷ []) []) c.args.host.now.host c.in-Some.open.now c.replace_by.new.opened c.in-Some.ensures.host
    (c.replace_by.ensures.takes contents read below asked)

pub returns-clause-tells : goal.returns-clause-tells
returns-clause-tells c = λ contents read below asked.
    carried (TellsItem (ATable contents)) c.args.host.now.host c.in-Some.open.now c.replace_by.new.opened c.in-Some.ensures.host
    (c.replace_by.ensures.tells contents read below asked)

pub returns-clause-answers : goal.returns-clause-answers
returns-clause-answers c = λ contents read enough asked.
    carried_before (AnswersTable contents c.replace_by.result) c.args.host.now.host c.in-Some.open.now c.in-Some.ensures.host
    (c.replace_by.ensures.answers contents read enough asked)

pub returns-clause-owes : goal.returns-clause-owes
returns-clause-owes c =
    carried_before (WaitsForOutput c.replace_by.result) c.args.host.now.host c.in-Some.open.now c.in-Some.ensures.host c.replace_by.ensures.owes
