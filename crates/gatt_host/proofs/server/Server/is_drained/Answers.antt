use Rattle.std.proofs.Common.{sym}
use Rattle.std.proofs.lemmas.Bool.{OnFalse_at}
use Rattle.gatt_host.proofs.server.Server.is_drained.Goals as goal

pub returns-then-not-may_owe : goal.returns-then-not-may_owe
returns-then-not-may_owe c = sym (OnFalse_at c.if-not-may_owe.true c.may_owe.ensures)
