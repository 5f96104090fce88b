use Rattle.std.specs.Prelude.{is_some}
use Rattle.shell_files.specs.KeyFile.{keys_in}
use Rattle.shell_files.specs.RowsFile.{rows_in}
use Rattle.shell_files.specs.TableFile.{table_in}
use Rattle.gatt_commands.proofs.RunEnds.{or_more}
use Rattle.gatt_commands.proofs.RunFaults.{no_keys, no_next, no_rows, no_table, run_at_all}
use Rattle.shell_files.proofs.Turns.{accepted}
use Rattle.gatt_commands.proofs.RunOrders.{script_accepted, script_refused}
use Rattle.gatt_commands.proofs.run.run_script.Goals as goal
use Rattle.gatt_commands.proofs.Loop.{closes_the_loop}
use Rattle.gatt_commands.proofs.Unshown.{shows_nothing_unasked}

pub returns-clause-table : goal.returns-clause-table
returns-clause-table g c = λ number is beside. absurd (no_table c.run_files.result number c.run_files.ensures.faults is)

pub returns-clause-next : goal.returns-clause-next
returns-clause-next g c = λ number is beside. absurd (no_next c.run_files.result number c.run_files.ensures.faults is)

pub returns-clause-keys : goal.returns-clause-keys
returns-clause-keys g c = λ number is beside. absurd (no_keys c.run_files.result number c.run_files.ensures.faults is)

pub returns-clause-rows : goal.returns-clause-rows
returns-clause-rows g c = λ number is beside. absurd (no_rows c.run_files.result number c.run_files.ensures.faults is)

pub returns-in_err-rows-clause-table_first : goal.returns-in_err-rows-clause-table_first
returns-in_err-rows-clause-table_first g c = λ past. accepted (g.T.Read.remaining c.args.table.now) table_in c.in_ok-table.table c.in_ok-table.ensures.table

pub returns-clause-table_first : goal.returns-clause-table_first
returns-clause-table_first g c = λ past. accepted (g.T.Read.remaining c.args.table.now) table_in c.in_ok-table.table c.in_ok-table.ensures.table

pub returns-clause-keys_third : goal.returns-clause-keys_third
returns-clause-keys_third g c = λ past. accepted (g.K.Read.remaining c.args.keys.now) keys_in c.in_ok-keys.keys c.in_ok-keys.ensures.keys

pub returns-clause-rows_fourth : goal.returns-clause-rows_fourth
returns-clause-rows_fourth g c = λ past. accepted (g.R.Read.remaining c.args.rows.now) rows_in c.in_ok-rows.rows c.in_ok-rows.ensures.rows

pub returns-clause-script : goal.returns-clause-script
returns-clause-script g c = λ line is.
    script_refused (g.S.Read.remaining c.args.script.now) (is_some c.in_ok-next.next) (is_some c.args.next.now) line
    c.in_ok-next.ensures.some (c.run_files.ensures.script line is)

pub returns-clause-script_last : goal.returns-clause-script_last
returns-clause-script_last g c = λ past.
    script_accepted (g.S.Read.remaining c.args.script.now) (is_some c.in_ok-next.next) (is_some c.args.next.now)
    c.in_ok-next.ensures.some (c.run_files.ensures.script_last past)

pub returns-clause-runs : goal.returns-clause-runs
returns-clause-runs g c = λ past. record {
  table = c.in_ok-table.table;
  next = c.in_ok-next.next;
  keys = c.in_ok-keys.keys;
  rows = c.in_ok-rows.rows;
  has_table = c.in_ok-table.ensures.table;
  has_next = c.in_ok-next.ensures.next;
  has_keys = c.in_ok-keys.ensures.keys;
  has_rows = c.in_ok-rows.ensures.rows;
  runs = c.run_files.ensures.runs past;
}

pub returns-clause-unbegun : goal.returns-clause-unbegun
returns-clause-unbegun g c = or_more
    (λ runs. record {
      table = c.in_ok-table.table;
      next = c.in_ok-next.next;
      keys = c.in_ok-keys.keys;
      rows = c.in_ok-rows.rows;
      has_table = c.in_ok-table.ensures.table;
      has_next = c.in_ok-next.ensures.next;
      has_keys = c.in_ok-keys.ensures.keys;
      has_rows = c.in_ok-rows.ensures.rows;
      runs = runs;
    })
    c.run_files.ensures.unbegun

pub returns-clause-faults : goal.returns-clause-faults
returns-clause-faults g c = run_at_all c.run_files.result c.run_files.ensures.faults

pub returns-clause-unasked : goal.returns-clause-unasked
returns-clause-unasked g c = shows_nothing_unasked

pub returns-in_err-keys-clause-unasked : goal.returns-in_err-keys-clause-unasked
returns-in_err-keys-clause-unasked g c = shows_nothing_unasked

pub returns-in_err-next-clause-unasked : goal.returns-in_err-next-clause-unasked
returns-in_err-next-clause-unasked g c = shows_nothing_unasked

pub returns-in_err-rows-clause-unasked : goal.returns-in_err-rows-clause-unasked
returns-in_err-rows-clause-unasked g c = shows_nothing_unasked

pub returns-in_err-table-clause-unasked : goal.returns-in_err-table-clause-unasked
returns-in_err-table-clause-unasked g c = shows_nothing_unasked

pub returns-clause-closed : goal.returns-clause-closed
returns-clause-closed g c = closes_the_loop

pub returns-in_err-keys-clause-closed : goal.returns-in_err-keys-clause-closed
returns-in_err-keys-clause-closed g c = closes_the_loop

pub returns-in_err-next-clause-closed : goal.returns-in_err-next-clause-closed
returns-in_err-next-clause-closed g c = closes_the_loop

pub returns-in_err-rows-clause-closed : goal.returns-in_err-rows-clause-closed
returns-in_err-rows-clause-closed g c = closes_the_loop

pub returns-in_err-table-clause-closed : goal.returns-in_err-table-clause-closed
returns-in_err-table-clause-closed g c = closes_the_loop
