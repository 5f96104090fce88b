-- How the logic stores the calls that were made.
use Rattle.std.specs.Prelude.{◌≡◌, ◌⊎◌, Bool, List, refl}
use Rattle.std.proofs.Common.{inl, inr}
use Rattle.std.specs.Coded.{Coded, code_by, coded_bool, coded_list, coded_ℕ, coded×, coded⊎}
use base.Stored.{coded_unit}
use Rattle.octet_io.specs.Number.{Octets}
use Rattle.device_io.specs.Disk.{Call, Step, Unlink, Create, Write, Sync, Rename, SyncFolder}

abbrev Steps : Type 0
Steps = Unit {0} ⊎ (Unit {0} ⊎ (Octets ⊎ (Unit {0} ⊎ (Unit {0} ⊎ Unit {0}))))

abbrev of_step : Step → Steps
of_step Unlink = inl tt
of_step Create = inr (inl tt)
of_step (Write text) = inr (inr (inl text))
of_step Sync = inr (inr (inr (inl tt)))
of_step Rename = inr (inr (inr (inr (inl tt))))
of_step SyncFolder = inr (inr (inr (inr (inr tt))))

abbrev to_step : Steps → Step
to_step (inl _) = Unlink
to_step (inr (inl _)) = Create
to_step (inr (inr (inl text))) = Write text
to_step (inr (inr (inr (inl _)))) = Sync
to_step (inr (inr (inr (inr (inl _))))) = Rename
to_step (inr (inr (inr (inr (inr _))))) = SyncFolder

pub step_back : (step : Step) → to_step (of_step step) ≡ step
step_back Unlink = refl
step_back Create = refl
step_back (Write text) = refl
step_back Sync = refl
step_back Rename = refl
step_back SyncFolder = refl

abbrev coded_step : Coded Step
coded_step =
    code_by Steps
    (coded⊎ coded_unit
    (coded⊎ coded_unit
    (coded⊎ (coded_list coded_ℕ) (coded⊎ coded_unit (coded⊎ coded_unit coded_unit)))))
    of_step to_step step_back

abbrev of_call : Call → Step × Bool
of_call call = (call.step, call.done)

abbrev to_call : Step × Bool → Call
to_call both = record { step = both.0; done = both.1 }

pub call_back : (call : Call) → to_call (of_call call) ≡ call
call_back call = refl

abbrev pub coded_calls : Coded (List Call)
coded_calls =
    coded_list (code_by (Step × Bool) (coded× coded_step coded_bool) of_call to_call call_back)
