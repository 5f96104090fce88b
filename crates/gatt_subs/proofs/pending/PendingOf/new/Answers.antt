use Rattle.gatt_subs.proofs.Heard.{releases_only_what_is_heard}
use Rattle.gatt_subs.proofs.Undisclosed.{tells_only_what_is_heard}
use Rattle.gatt_subs.proofs.pending.PendingOf.new.Goals as goal

pub returns-clause-released : goal.returns-clause-released
returns-clause-released g c = releases_only_what_is_heard

pub returns-clause-undisclosed : goal.returns-clause-undisclosed
returns-clause-undisclosed g c = tells_only_what_is_heard
