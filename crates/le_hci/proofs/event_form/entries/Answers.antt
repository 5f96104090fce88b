use Rattle.std.proofs.Common.{ap, ◌∙◌}
use Rattle.le_hci.specs.Event.{completed_entries}
use Rattle.le_hci.proofs.CompletedEntries.{looked_up}
use Rattle.le_hci.proofs.event_form.entries.Goals as goal

pub returns : goal.returns
returns c =
    looked_up _ _ _ _ c.as_chunks.ensures.front c.as_chunks.ensures.front_len c.get.ensures.lookup
    ∙ ap (λ count. completed_entries count c.args.octets.now) c.from.ensures
