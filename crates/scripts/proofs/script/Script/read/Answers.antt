use Rattle.std.proofs.Common.{}
use Rattle.scripts.proofs.Named.{phones_named}
use Rattle.scripts.proofs.script.Script.read.Goals as goal

pub returns-clause-phones : goal.returns-clause-phones
returns-clause-phones c = phones_named c.args.has_next c.args.text.now c.read_lines.result c.read_lines.ensures
