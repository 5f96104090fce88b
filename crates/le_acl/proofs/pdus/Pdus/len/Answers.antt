use Rattle.std.proofs.Common.{length, sym, ◌∙◌, ap}
use Rattle.le_acl.specs.Pdus.{Queued}
use Rattle.le_acl.proofs.Rings.{count_is}
use Rattle.le_acl.proofs.pdus.Pdus.len.Goals as goal

pub returns-clause-count : goal.returns-clause-count
returns-clause-count c = sym (count_is _ _ _ _ c.self.invariant) ∙ ap (λ (q : Queued). length q.pdus) c.self.view_is
