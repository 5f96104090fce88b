use Rattle.std.proofs.Common.{◌<◌, length, refl, set, subst, sym, ap}
use Rattle.host_connections.proofs.AtPlace.{there_at}
use Rattle.host_connections.specs.Slots.{SlotStates}
use Rattle.host_connections.proofs.slots.Slots.at.Goals as goal

pub returns : goal.returns
returns c =
    let slots = c.self.inside.slots.items in
    let place = c.args.place in
    let within : place < length slots = subst (λ (it : SlotStates). place < length it) (sym c.self.view_is) c.requires in (
      (refl, λ left. ap (λ (it : SlotStates). set it place left) c.self.view_is),
      record {
        writes_back = tt;
        value = there_at slots c.args.self.now c.self.view_is place c.index_mut.result.now within c.index_mut.ensures.value;
      },
    )
