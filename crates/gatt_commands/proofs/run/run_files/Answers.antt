use Rattle.std.proofs.Common.{◌≡◌}
use Rattle.std.specs.Prelude.{is_some, IsOk, Err}
use Rattle.scripts.specs.declared.script_fault.ScriptFault.TheVariants.{BadLine}
use Rattle.shell_files.specs.ScriptFile.{script_in}
use Rattle.gatt_commands.proofs.RunEnds.{or_more}
use Rattle.gatt_commands.proofs.RunOrders.{known_all, runs_all}
use Rattle.gatt_commands.proofs.run.run_files.Goals as goal

pub returns-clause-runs : goal.returns-clause-runs
returns-clause-runs g c = λ past.
    runs_all c.run_text.result c.args.shows c.args.rx_mtu c.args.table c.args.next c.args.keys c.args.rows (g.S.Read.remaining c.args.script.now)
    c.in_ok-octets.octets.items c.as_slice-text.result.now _ _ _ _ c.in_ok-octets.ensures.all c.as_slice-text.ensures.value (c.run_text.ensures.runs past)

pub returns-clause-unbegun : goal.returns-clause-unbegun
returns-clause-unbegun g c = or_more
    (λ runs. runs_all c.run_text.result c.args.shows c.args.rx_mtu c.args.table c.args.next c.args.keys c.args.rows (g.S.Read.remaining c.args.script.now)
    c.in_ok-octets.octets.items c.as_slice-text.result.now _ _ _ _ c.in_ok-octets.ensures.all c.as_slice-text.ensures.value runs)
    c.run_text.ensures.unbegun

pub returns-clause-script : goal.returns-clause-script
returns-clause-script g c = λ line is.
    known_all (g.S.Read.remaining c.args.script.now) c.in_ok-octets.octets.items c.as_slice-text.result.now
    (λ octets. script_in (is_some c.args.next) octets ≡ Err (BadLine line)) c.in_ok-octets.ensures.all c.as_slice-text.ensures.value
    (c.run_text.ensures.script line is)

pub returns-clause-script_last : goal.returns-clause-script_last
returns-clause-script_last g c = λ past.
    known_all (g.S.Read.remaining c.args.script.now) c.in_ok-octets.octets.items c.as_slice-text.result.now
    (λ octets. IsOk (script_in (is_some c.args.next) octets)) c.in_ok-octets.ensures.all c.as_slice-text.ensures.value
    (c.run_text.ensures.script_last past)
