use Rattle.std.proofs.Common.{◌∙◌, ap}
use Rattle.gihandop_c.specs.Boundary.{call_status}
use Rattle.gihandop_c.proofs.asking.replace.Goals as goal

pub returns-in-Ok-clause-answers : goal.returns-in-Ok-clause-answers
returns-in-Ok-clause-answers c = λ asked start input sent refines going.
    ap call_status (c.in-Ok.ensures.refused start input sent refines going)

pub returns-in-Err-clause-answers : goal.returns-in-Err-clause-answers
returns-in-Err-clause-answers c = λ asked start input sent refines going.
    c.of_refusal.ensures.status ∙ ap call_status (c.in-Err.ensures.refused start input sent refines going)
