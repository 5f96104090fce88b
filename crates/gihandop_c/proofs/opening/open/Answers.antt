use Rattle.std.proofs.Common.{◌∙◌}
use Rattle.gihandop_c.proofs.Accepted.{opened_status, opened_with}
use Rattle.gihandop_c.proofs.Carried.{same_ok}
use Rattle.gihandop_c.proofs.opening.open.Goals as goal
use Rattle.att_table.specs.file.TableFile.{table_in}

pub returns-clause-opened : goal.returns-clause-opened
returns-clause-opened c =
    opened_with c.args.table.now c.args.keys.now c.args.rows.now c.args.values.now c.args.config.now
    c.in_ok-served.served c.restore_values.new.table c.in_ok-keys.keys c.in_ok-rows.rows c.in_ok-count.count
    c.in_ok-served.ensures.first c.in_ok-keys.ensures.keys c.in_ok-rows.ensures.rows c.in_ok-count.ensures.restored _ c.in_ok-opened.ensures.opened
    c.in_ok-opened.ensures.going
    (c.in_ok-opened.ensures.initial
    ∙ same_ok (table_in c.args.table.now) c.in_ok-served.initial c.in_ok-served.served c.in_ok-served.ensures.second c.in_ok-served.ensures.first)

pub returns-clause-accepted : goal.returns-clause-accepted
returns-clause-accepted c = λ done.
    opened_status c.args.table.now c.args.keys.now c.args.rows.now c.args.values.now c.args.config.now
    c.in_ok-served.served c.restore_values.new.table c.in_ok-keys.keys c.in_ok-rows.rows c.in_ok-count.count
    c.in_ok-served.ensures.first c.in_ok-keys.ensures.keys c.in_ok-rows.ensures.rows c.in_ok-count.ensures.restored (c.in_ok-opened.ensures.accepted done)
