use Rattle.std.proofs.Common.{◌≡◌, subst}
use Rattle.std.proofs.lemmas.Result.{on_ok_weaker}
use Rattle.std.specs.Io.KnownBytes.{Appends}
use Rattle.octet_io.specs.Number.{Octets}
use Rattle.policy_commands.specs.Show.{IsShown}
use Rattle.shell_files.specs.TableFile.{table_in}
use Rattle.shell_files.proofs.Turns.{accepted}
use Rattle.policy_commands.proofs.show.show_files.Goals as goal

pub returns-clause-ok : goal.returns-clause-ok
returns-clause-ok g c =
    on_ok_weaker c.print.result
    (λ printed. record {
      table = c.in_ok-table.table;
      has_table = c.in_ok-table.ensures.table;
      keys = c.in_ok-keys.keys;
      has_keys = c.in_ok-keys.ensures.keys;
      text = c.add_view.new.text.items;
      shown =
          subst (λ (old : Octets). IsShown c.args.view c.in_ok-table.table c.in_ok-keys.keys old c.add_view.new.text.items) c.new-text.ensures.items
          c.in_ok-add_view.ensures.ok;
      printed = subst (Appends (g.W.Write.contents c.args.writer.now) (g.W.Write.contents c.print.new.writer)) c.as_slice.ensures.value printed;
    })
    c.print.ensures.ok

pub returns-clause-table_first : goal.returns-clause-table_first
returns-clause-table_first g c = λ past. accepted (g.T.Read.remaining c.args.table.now) table_in c.in_ok-table.table c.in_ok-table.ensures.table
