use Rattle.std.proofs.Common.{[], ◌∙◌, ap, subst, sym}
use Rattle.std.proofs.Math.Seq.{take-length}
use Rattle.gatt_host.specs.Feeding.{octet_items}
use Rattle.gatt_host.specs.HostModel.{Refines}
use Rattle.gatt_laws.specs.machine.Input.{run}
use Rattle.gatt_laws.specs.machine.Notice.{notices_in}
use Rattle.octet_io.specs.Number.{Octets}
use Rattle.gihandop_c.proofs.stream.take.Goals as goal

-- where the host stops, all the octets are said to be taken in
pub returns-in-Err-clause-takes : goal.returns-in-Err-clause-takes
returns-in-Err-clause-takes c = λ going.
    subst (λ (taken : Octets). Refines (octet_items taken) [] c.args.opened.now.host c.take.new.self)
    (sym (take-length c.args.octets.now)) (c.in-Err.ensures.takes going)

pub returns-in-Ok-clause-tells : goal.returns-in-Ok-clause-tells
returns-in-Ok-clause-tells c = λ taken start input sent refines going. c.in-Ok.ensures.told start input sent refines going

pub returns-in-Err-clause-tells : goal.returns-in-Err-clause-tells
returns-in-Err-clause-tells c = λ stopped start input sent refines going.
    c.in-Err.ensures.told start input sent refines going
    ∙ ap (λ (taken : Octets). notices_in (run start input) (octet_items taken)) (sym (take-length c.args.octets.now))
