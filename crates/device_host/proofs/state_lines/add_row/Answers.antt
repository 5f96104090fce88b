use Rattle.device_host.specs.Answers.{entry_line}
use Rattle.device_host.proofs.Added.{one_added}
use Rattle.device_host.proofs.state_lines.add_row.Goals as goal

pub loop-place-preserved : goal.loop-place-preserved
loop-place-preserved c =
    one_added (entry_line c.args.name) c.args.row.now c.args.text.now.items c.loop-place.text.items c.add_entry.new.text.items
    c.loop-place.place c.entry.result c.entry.ensures.entry c.loop-place.invariant c.in_ok-add_entry.ensures.ok
