use Rattle.std.proofs.lemmas.Result.{on_ok_weaker}
use Rattle.shell_files.proofs.check.check_files.Goals as goal

pub returns-clause-ok : goal.returns-clause-ok
returns-clause-ok g c = on_ok_weaker c.print_counts.result
    (λ printed. record {
      table = c.in_ok-table.table;
      keys = c.in_ok-keys.keys;
      has_table = c.in_ok-table.ensures.table;
      has_keys = c.in_ok-keys.ensures.keys;
      printed = printed;
    })
    c.print_counts.ensures.ok
