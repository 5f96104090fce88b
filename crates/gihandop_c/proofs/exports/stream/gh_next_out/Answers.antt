use Rattle.std.proofs.Common.{[], ◌∷◌, take}
use Rattle.gihandop_c.specs.Boundary.{OpenedRefines}
use Rattle.gihandop_c.proofs.Carried.{carried}
use Rattle.gihandop_c.proofs.exports.stream.gh_next_out.Goals as goal

pub returns-clause-some : goal.returns-clause-some
returns-clause-some c = λ done.
    carried (OpenedRefines [] (take c.next_out.new.count c.next_out.new.out ∷ [])) c.args.host.now.host c.in-Some.open.now c.next_out.new.opened
    c.in-Some.ensures.host (c.next_out.ensures.some done)
