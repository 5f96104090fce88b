use Rattle.std.proofs.Common.{sym, subst}
use Rattle.std.specs.Prelude.{if◌then◌else◌}
use Rattle.gatt_host.proofs.model.Driving.{none_refused, one_refused}
use Rattle.gatt_host.specs.Calls.{call_of}
use Rattle.gatt_host.specs.declared.driving.Input.{Input}
use Rattle.gatt_host.specs.Feeding.{CountsRefused, input_items}
use Rattle.gatt_host.proofs.driving.take_input.Goals as goal

pub returns-in_ok-feed_to-in-Bytes-clause-refused : goal.returns-in_ok-feed_to-in-Bytes-clause-refused
returns-in_ok-feed_to-in-Bytes-clause-refused g c =
    subst (λ (input : Input). CountsRefused 0 (input_items input) c.args.host.now) (sym c.in-Bytes.is) (none_refused c.in-Bytes.octets.now c.args.host.now)

pub returns-in_ok-do_call-in-Call-clause-refused : goal.returns-in_ok-do_call-in-Call-clause-refused
returns-in_ok-do_call-in-Call-clause-refused g c =
    subst (λ (input : Input). CountsRefused (if c.is_err.result then 1 else 0) (input_items input) c.args.host.now) (sym c.in-Call.is)
    (one_refused (call_of c.in-Call.call) c.args.host.now c.in_ok-do_call-in-Call.field-0 c.is_err.result c.requires.none c.is_err.ensures.value
    (λ start input sent is none. c.in_ok-do_call-in-Call.ensures.refused start input sent is))
