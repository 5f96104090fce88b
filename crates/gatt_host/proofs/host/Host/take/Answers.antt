use Rattle.std.proofs.Common.{Err, refl}
use Rattle.gatt_host.proofs.model.Stands.{past_none, past_stop}
use Rattle.gatt_host.proofs.Promises.{continues_apart, continues_by_the_policy}
use Rattle.gatt_host.specs.contracts.host.Host.{the_view}
use Rattle.gatt_host.specs.Feeding.{items_taken}
use Rattle.gatt_host.proofs.host.Host.take.Goals as goal

pub returns-in-Some-clause-takes : goal.returns-in-Some-clause-takes
returns-in-Some-clause-takes c = past_stop (the_view c.self.inside) c.args.self.now c.self.view_is c.in-Some.fault c.in-Some.is

pub returns-in-Some-clause-not_own : goal.returns-in-Some-clause-not_own
returns-in-Some-clause-not_own c = past_stop (the_view c.self.inside) c.args.self.now c.self.view_is c.in-Some.fault c.in-Some.is

pub returns-in-Some-clause-policy : goal.returns-in-Some-clause-policy
returns-in-Some-clause-policy c =
    continues_by_the_policy (items_taken c.args.octets.now (Err c.in-Some.fault)) c.args.self.now c.args.self.now (λ some. refl) (returns-in-Some-clause-takes c)

pub returns-in-Some-clause-apart : goal.returns-in-Some-clause-apart
returns-in-Some-clause-apart c =
    continues_apart (items_taken c.args.octets.now (Err c.in-Some.fault)) c.args.self.now c.args.self.now (λ some. refl) (returns-in-Some-clause-takes c)

pub returns-clause-stopped : goal.returns-clause-stopped
returns-clause-stopped c = past_none (the_view c.self.inside) c.args.self.now c.self.view_is c.in_default.is

pub returns-clause-policy : goal.returns-clause-policy
returns-clause-policy c =
    continues_by_the_policy (items_taken c.args.octets.now c.take.result) _ _ (returns-clause-stopped c) (λ none. c.take.ensures.refines)

pub returns-clause-apart : goal.returns-clause-apart
returns-clause-apart c =
    continues_apart (items_taken c.args.octets.now c.take.result) _ _ (returns-clause-stopped c) (λ none. c.take.ensures.refines)
