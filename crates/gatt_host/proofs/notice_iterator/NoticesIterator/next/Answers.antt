use Rattle.std.proofs.Common.{◌≡◌, [], length, Option, refl, sym, ap, subst, ◌∙◌, arith}
use Rattle.gatt_host.proofs.notice_iterator.NoticesIterator.next.Goals as goal
use Rattle.gatt_host.proofs.owing.Untold.{none_left, one_left}
use Rattle.host_api.specs.declared.notice.Notice.{Notice as Lent}
use Rattle.gatt_host.specs.Notices.{HasTheValue, notice_of}
use Rattle.gatt_host.specs.Telling.{GivesTheFirst, Untold, notices_told}
use Rattle.att_table.specs.Table.{Contents}

pub returns-in_err-notice-clause-steps : goal.returns-in_err-notice-clause-steps
returns-in_err-notice-clause-steps c =
    let untold : Untold = c.args.self.now in
    let nothing : untold.notices ≡ [] =
    sym (ap (λ (untold : Untold). untold.notices) c.self.view_is)
    ∙ none_left (notices_told c.self.inside.host.now) c.self.inside.given (sym c.in_err-notice.ensures.notice) in
    subst (λ (result : Option Lent). GivesTheFirst untold result untold) (sym c.from_residual.ensures) (nothing, refl)

pub returns-clause-steps : goal.returns-clause-steps
returns-clause-steps c =
    let table : c.self.inside.host.now.server.table ≡ c.args.self.now.table = ap (λ (untold : Untold). untold.table) c.self.view_is in (
      sym (ap (λ (untold : Untold). untold.notices) c.self.view_is)
          ∙ one_left (notices_told c.self.inside.host.now) c.self.inside.given (notice_of c.in_ok-notice.notice) (sym c.in_ok-notice.ensures.notice),
      subst (λ (table : Contents). HasTheValue table c.in_ok-notice.notice) table c.in_ok-notice.ensures.value,
      table,
    )

pub returns-clause-goes : goal.returns-clause-goes
returns-clause-goes c =
    let count = ap length (returns-clause-steps c).0 in
    record { on = λ finite. (tt, tt, omega (arith, count)); keeps = tt; rests = λ finite. tt }
