use Rattle.gatt_commands.proofs.acts.do_act.Goals as goal

pub returns-in-Authorize-clause-named : goal.returns-in-Authorize-clause-named
returns-in-Authorize-clause-named c = λ count below. c.call.ensures.named count

pub returns-in-Update-clause-named : goal.returns-in-Update-clause-named
returns-in-Update-clause-named c = λ count below. c.call-in-Update.ensures.named count

pub returns-in-Tick-clause-named : goal.returns-in-Tick-clause-named
returns-in-Tick-clause-named c = λ count below. c.call-in-Tick.ensures.named count

pub returns-in-Replace-clause-named : goal.returns-in-Replace-clause-named
returns-in-Replace-clause-named c = λ count below. c.replace.ensures.named count
