use Rattle.std.proofs.Common.{◌≡◌, drop}
use Rattle.std.specs.Prelude.{slice_get}
use Rattle.att_table.specs.file.Service.{earlier_services}
use Rattle.att_table.proofs.file.include.service_at.Given as goal

abbrev pub invariant-attributes : goal.invariant-attributes
invariant-attributes l =
    slice_get (earlier_services (drop l.place l.attributes)) l.left ≡ slice_get (earlier_services l.attributes) l.position
