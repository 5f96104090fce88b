-- A store that writes subscriptions, as contracts see it (code only).
use Rattle.shell_files.specs.declared.rows_out.RowsOut.{RowsOut}

abbrev pub rows_writer : {W : Type 0} → RowsOut W → W
rows_writer out = out.writer
