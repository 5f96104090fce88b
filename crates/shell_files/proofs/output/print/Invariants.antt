use Rattle.shell_files.proofs.Printing.{HasPrinted}
use Rattle.shell_files.proofs.output.print.Given as goal

-- what is no longer to be written is printed
abbrev pub invariant-loop-write : goal.invariant-loop-write
invariant-loop-write g l = HasPrinted l.fn.text l.rest (g.W.Write.contents l.fn.writer) (g.W.Write.contents l.writer)
