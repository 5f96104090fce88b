use Rattle.std.proofs.Common.{ap, Err, inl, inr, refl, rules, subst, true, ◌≡◌, ◌∙◌}
use Rattle.std.proofs.lemmas.Result.{err_from_is_err_and}
use Rattle.gatt_commands.proofs.Exchanging.{gives_next, hands_refused}
use Rattle.shell_files.specs.declared.fault.ShellFault.{ShellFault}
use Rattle.gatt_commands.specs.Exchange.{ControllerGives, HostTakes, pair_of}
use Rattle.gatt_host.specs.HostModel.{HostModel, all_out}
use Rattle.gatt_commands.proofs.exchange.hand_over.Goals as goal

pub returns-in_err-give_controller-clause-hands : goal.returns-in_err-give_controller-clause-hands
returns-in_err-give_controller-clause-hands c =
    let failed = err_from_is_err_and c.from_residual.result c.from_residual.ensures.1 in
    hands_refused c.as_slice.result.now (pair_of c.args.host.now c.args.sim.now c.args.notes.now)
    (pair_of c.next_out.new.self c.give_controller.new.sim c.args.notes.now) c.in_err-give_controller.field-0.0
    c.from_residual.result (failed.1 ∙ ap (λ (fault : ShellFault). Err fault) failed.2)
    (gives_next c.args.host.now c.next_out.new.self c.next_out.new.out.items c.as_slice.result.now c.as_slice.ensures.value
    c.if-next_out.ensures.some c.if-next_out.ensures.refines c.if-next_out.ensures.no_fault)
    c.in_err-give_controller.ensures.answers

pub returns-then-next_out-clause-hands : goal.returns-then-next_out-clause-hands
returns-then-next_out-clause-hands c = inl (record {
  packet = c.as_slice.result.now;
  gives =
      gives_next c.args.host.now c.next_out.new.self c.next_out.new.out.items c.as_slice.result.now c.as_slice.ensures.value
      c.if-next_out.ensures.some c.if-next_out.ensures.refines c.if-next_out.ensures.no_fault;
  takes = c.in_ok-give_controller.ensures.answers;
  same = refl;
})

pub returns-then-next_to_host-clause-hands : goal.returns-then-next_to_host-clause-hands
returns-then-next_to_host-clause-hands c =
    let out : all_out c.args.host.now ≡ true = search rules in
    let gives : ControllerGives c.as_slice-then-next_to_host.result.now c.args.sim.now c.next_to_host.new.self = search rules in
    inr (record {
      packet = c.as_slice-then-next_to_host.result.now;
      out = out;
      gives = gives;
      takes =
          subst (λ (host : HostModel). HostTakes c.as_slice-then-next_to_host.result.now host c.give_host.new.host) c.if-next_out.ensures.unchanged
          c.in_ok-give_host.ensures.answers;
      noted = c.in_ok-give_host.ensures.noted;
    })
