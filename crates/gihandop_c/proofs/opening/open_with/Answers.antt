use Rattle.std.proofs.Common.{◌∙◌, refl, ap}
use Rattle.gatt_host.specs.Opening.{is_configured}
use Rattle.gihandop_c.proofs.Refusals.{config_accepted}
use Rattle.gihandop_c.proofs.opening.open_with.Goals as goal

-- a host that is opened has a configuration within its limits
pub returns-in-Ok-new-clause-accepted : goal.returns-in-Ok-new-clause-accepted
returns-in-Ok-new-clause-accepted c = λ done.
    config_accepted c.args.config.now (c.in-Some.ensures.readable refl)
    (λ is. cc (c.in-Ok.ensures.config.1 (ap is_configured c.in-Some.ensures.config ∙ is)))
