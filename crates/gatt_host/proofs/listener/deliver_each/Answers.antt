use Rattle.std.proofs.Common.{◌≡◌, ◌∷◌, map, ap, sym, ◌∙◌}
use Rattle.att_table.specs.Table.{Contents}
use Rattle.gatt_host.proofs.listener.deliver_each.Goals as goal
use Rattle.gatt_host.proofs.model.Hearing.{told_one}
use Rattle.gatt_host.proofs.model.Received.{lent_received}
use Rattle.gatt_host.specs.Notices.{received_from}
use Rattle.gatt_host.specs.Telling.{received_told}
use Rattle.gatt_laws.specs.machine.Notice.{Received, received_with}

pub loop-notice-preserved : goal.loop-notice-preserved
loop-notice-preserved g c =
    let old = c.loop-notice.notice-iterator in
    let new = c.next.new.self in
    let same : new.table ≡ old.table = c.in-Some.ensures.steps.2 in
    let first : map (received_with old.table) old.notices ≡ received_from c.in-Some.notice ∷ map (received_with new.table) new.notices =
    ap (map (received_with old.table)) c.in-Some.ensures.steps.0
    ∙ ap (λ (received : Received). received ∷ map (received_with old.table) new.notices)
    (sym (lent_received old.table c.in-Some.notice c.in-Some.ensures.steps.1))
    ∙ ap (λ (table : Contents). received_from c.in-Some.notice ∷ map (received_with table) new.notices) (sym same) in
    record {
      told = told_one (received_told c.args.host.now) (map (received_with old.table) old.notices) (received_from c.in-Some.notice)
          (map (received_with new.table) new.notices) (g.L.Listener.heard c.args.listener.now) (g.L.Listener.heard c.loop-notice.listener)
          (g.L.Listener.heard c.hear.new.self) c.loop-notice.invariant.told first c.hear.ensures.heard;
      table = same ∙ c.loop-notice.invariant.table;
    }
