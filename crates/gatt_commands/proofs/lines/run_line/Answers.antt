use Rattle.std.proofs.Common.{length, refl}
use Rattle.gatt_commands.proofs.Running.{ends_exchanging, ends_noting, ends_printing, keeps_all, runs_line}
use Rattle.gatt_commands.proofs.Unshown.{shown_where}
use Rattle.gatt_commands.specs.Exchange.{pair_of}
use Rattle.gatt_commands.proofs.lines.run_line.Goals as goal

pub print_line-requires-clause-named : goal.print_line-requires-clause-named
print_line-requires-clause-named g c = c.do_act-refused.ensures.named (length c.args.names.now) c.requires.named

pub returns-in_err-exchange-clause-ends : goal.returns-in_err-exchange-clause-ends
returns-in_err-exchange-clause-ends g c =
    ends_exchanging c.args.notices c.args.names.now c.args.act.now c.do_act-refused.result c.do_act-refused.new.notes
    c.args.stage.now c.do_act-refused.new.stage
    (record c.do_act-refused.new.stage { host = c.exchange.new.host; sim = c.exchange.new.sim }) _ _
    (record { begun = c.new-notes.result; fresh = c.new-notes.ensures.begun; does = c.do_act-refused.ensures.does; noted = c.do_act-refused.ensures.noted })
    c.from_residual.result c.in_err-exchange.field-0.0 c.from_residual.ensures.1 c.in_err-exchange.ensures.faults
    (record {
      last = c.exchange.new.notes;
      exchanges = c.in_err-exchange.ensures.exchanges;
      next = refl;
      kept = keeps_all (g.W.Write.contents c.args.writer.now);
    })

pub returns-then-notes-clause-ends : goal.returns-then-notes-clause-ends
returns-then-notes-clause-ends g c =
    let shown =
    shown_where c.args.notices c.args.act.now c.args.stage.now.next c.do_act-refused.result c.new-notes.result c.do_act-refused.new.notes
    (pair_of c.do_act-refused.new.stage.host c.do_act-refused.new.stage.sim c.do_act-refused.new.notes)
    (pair_of c.exchange.new.host c.exchange.new.sim c.exchange.new.notes) c.new-notes.ensures.begun c.do_act-refused.ensures.noted refl
    c.in_ok-exchange.ensures.exchanges c.if-notes.true
    in
    ends_noting c.args.notices c.args.names.now c.args.act.now c.do_act-refused.result c.do_act-refused.new.notes
    c.args.stage.now c.do_act-refused.new.stage
    (record c.do_act-refused.new.stage { host = c.exchange.new.host; sim = c.exchange.new.sim }) _ _
    (record { begun = c.new-notes.result; fresh = c.new-notes.ensures.begun; does = c.do_act-refused.ensures.does; noted = c.do_act-refused.ensures.noted })
    (record {
      shown = shown;
      last = c.exchange.new.notes;
      exchanges = c.in_ok-exchange.ensures.exchanges;
      refused = c.if-notes.true;
      next = refl;
      kept = keeps_all (g.W.Write.contents c.args.writer.now);
    })

pub returns-clause-runs : goal.returns-clause-runs
returns-clause-runs g c =
    runs_line c.args.notices c.args.names.now c.args.act.now c.do_act-refused.result c.do_act-refused.new.notes
    c.args.stage.now c.do_act-refused.new.stage
    (record c.do_act-refused.new.stage { host = c.exchange.new.host; sim = c.print_line.new.sim }) _ _
    (record { begun = c.new-notes.result; fresh = c.new-notes.ensures.begun; does = c.do_act-refused.ensures.does; noted = c.do_act-refused.ensures.noted })
    c.print_line.result c.exchange.new.sim c.exchange.new.notes c.in_ok-exchange.ensures.exchanges c.if-notes.false refl
    c.print_line.ensures.ok c.print_line.ensures.told

pub returns-clause-ends : goal.returns-clause-ends
returns-clause-ends g c =
    ends_printing c.args.notices c.args.names.now c.args.act.now c.do_act-refused.result c.do_act-refused.new.notes
    c.args.stage.now c.do_act-refused.new.stage
    (record c.do_act-refused.new.stage { host = c.exchange.new.host; sim = c.print_line.new.sim }) _ _
    (record { begun = c.new-notes.result; fresh = c.new-notes.ensures.begun; does = c.do_act-refused.ensures.does; noted = c.do_act-refused.ensures.noted })
    c.print_line.result c.exchange.new.sim c.exchange.new.notes c.in_ok-exchange.ensures.exchanges refl c.print_line.ensures.faults c.print_line.ensures.front
