use Rattle.std.proofs.Common.{◌≡◌, ◌++◌, drop, map}
use Rattle.app_lines.specs.Wrong.{printable}
use Rattle.app_lines.proofs.wrong.add_printable.Given as goal

-- what stands and what is left are all
abbrev pub invariant-loop-octet : goal.invariant-loop-octet
invariant-loop-octet l = l.text.items ++ map printable (drop l.octet-index l.octets) ≡ l.fn.text.items ++ map printable l.fn.octets
