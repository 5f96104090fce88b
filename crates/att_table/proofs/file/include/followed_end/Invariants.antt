use Rattle.std.proofs.Common.{◌≡◌, drop}
use Rattle.att_table.specs.file.Service.{followed_end}
use Rattle.att_table.proofs.file.include.followed_end.Given as goal

abbrev pub invariant-rest : goal.invariant-rest
invariant-rest l = followed_end l.last (drop l.attr-index l.rest) ≡ followed_end l.handle l.rest
