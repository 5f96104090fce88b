-- The events of sources.
use Rattle.std.proofs.Common.{ℕ, ap}
use Rattle.std.specs.Prelude.{◌==◌, if◌then◌else◌}
use Rattle.mio.specs.declared.event.event.Event.{Event}
use Rattle.device_io.specs.Poller.{CountsForItsSource, with_source}
use Rattle.device_io.specs.declared.poller.Ready.{Ready}
use Rattle.device_io.specs.declared.poller.Source.TheVariants.{Controller, FullController, NewController, Controllers, Application, Applications}

abbrev by_token : Ready → Event → ℕ → Ready
by_token ready event token =
    if token == 0 then with_source Controller event ready
    else if token == 1 then with_source Controllers event ready
    else if token == 2 then with_source Application event ready
    else with_source Applications event ready

pub counts_for_its_source : CountsForItsSource
counts_for_its_source Controller ready event is = ap (by_token ready event) is
counts_for_its_source FullController ready event is = ap (by_token ready event) is
counts_for_its_source NewController ready event is = ap (by_token ready event) is
counts_for_its_source Controllers ready event is = ap (by_token ready event) is
counts_for_its_source Application ready event is = ap (by_token ready event) is
counts_for_its_source Applications ready event is = ap (by_token ready event) is
