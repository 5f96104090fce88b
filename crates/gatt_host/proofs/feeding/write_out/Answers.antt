use Rattle.std.proofs.Common.{◌≡◌, [], None, Option, refl, sym, subst, ◌∙◌, rules}
use Rattle.gatt_host.proofs.model.Due.{due_where_drained, ok_where}
use Rattle.gatt_host.proofs.model.Owed.{feeds_from, no_fault_where, reached_fed}
use Rattle.gatt_host.specs.contracts.host.Host.{the_view}
use Rattle.gatt_host.specs.Feeding.{Feeds}
use Rattle.gatt_host.specs.HostModel.{HostModel}
use Rattle.octet_io.specs.Number.{Octets}
use Rattle.gatt_host.proofs.feeding.write_out.Goals as goal

pub invariant_of-host : goal.invariant_of-host
invariant_of-host g c =
    let old : HostModel = the_view c.host.inside in
    let new : HostModel = record old { server = c.write_owed-written.new.server; fault = c.err-host-inside.result } in
    let before : Option Octets = g.W.Sink.contents c.args.out.now in
    let after : Option Octets = g.W.Sink.contents c.write_owed-written.new.out in
    let none : old.fault ≡ None = subst (λ (host : HostModel). host.fault ≡ None) (sym c.host.view_is) c.requires in
    reached_fed [] old new before after new.fault c.host.invariant
    (feeds_from old new before after _ none c.err-host-inside.ensures.value (c.write_owed-written.ensures.feeds old.frames old.stream) refl refl)

pub returns-then-is_err-clause-feeds : goal.returns-then-is_err-clause-feeds
returns-then-is_err-clause-feeds g c =
    let old : HostModel = the_view c.host.inside in
    let new : HostModel = record old { server = c.write_owed-written.new.server; fault = c.err-host-inside.result } in
    let before : Option Octets = g.W.Sink.contents c.args.out.now in
    let after : Option Octets = g.W.Sink.contents c.write_owed-written.new.out in
    let none : old.fault ≡ None = subst (λ (host : HostModel). host.fault ≡ None) (sym c.host.view_is) c.requires in
    subst (λ (host : HostModel). Feeds [] host new before after new.fault) c.host.view_is
    (feeds_from old new before after _ none c.err-host-inside.ensures.value (c.write_owed-written.ensures.feeds old.frames old.stream) refl refl)

pub invariant_of-host-else-is_err : goal.invariant_of-host-else-is_err
invariant_of-host-else-is_err g c =
    let old : HostModel = the_view c.host.inside in
    let new : HostModel = record old { server = c.write_owed-written.new.server } in
    let before : Option Octets = g.W.Sink.contents c.args.out.now in
    let after : Option Octets = g.W.Sink.contents c.write_owed-written.new.out in
    let none : old.fault ≡ None = subst (λ (host : HostModel). host.fault ≡ None) (sym c.host.view_is) c.requires in
    let same = none ∙ sym (no_fault_where c.write_owed-written.result (sym c.is_err.ensures.value ∙ c.if-is_err.false)) in
    reached_fed [] old new before after new.fault c.host.invariant
    (feeds_from old new before after _ none same (c.write_owed-written.ensures.feeds old.frames old.stream) refl refl)

pub returns-else-is_err-clause-feeds : goal.returns-else-is_err-clause-feeds
returns-else-is_err-clause-feeds g c =
    let old : HostModel = the_view c.host.inside in
    let new : HostModel = record old { server = c.write_owed-written.new.server } in
    let before : Option Octets = g.W.Sink.contents c.args.out.now in
    let after : Option Octets = g.W.Sink.contents c.write_owed-written.new.out in
    let none : old.fault ≡ None = subst (λ (host : HostModel). host.fault ≡ None) (sym c.host.view_is) c.requires in
    let same = none ∙ sym (no_fault_where c.write_owed-written.result (sym c.is_err.ensures.value ∙ c.if-is_err.false)) in
    subst (λ (host : HostModel). Feeds [] host new before after new.fault) c.host.view_is
    (feeds_from old new before after _ none same (c.write_owed-written.ensures.feeds old.frames old.stream) refl refl)

pub returns-then-is_err-clause-settles : goal.returns-then-is_err-clause-settles
returns-then-is_err-clause-settles g c = record {
  out = search rules;
  due = search rules;
  failures = search rules;
}

pub returns-else-is_err-clause-settles : goal.returns-else-is_err-clause-settles
returns-else-is_err-clause-settles g c = record {
  out = search rules;
  due = due_where_drained _ _ (c.write_owed-written.ensures.out (ok_where c.write_owed-written.result (sym c.is_err.ensures.value ∙ c.if-is_err.false)));
  failures = search rules;
}
