-- The fault by which a host says why it refuses a call says just that.
use Rattle.std.proofs.Common.{◌≡◌, refl}
use Rattle.host_api.specs.declared.app.AppFault.{AppFault}
use Rattle.host_api.specs.declared.app.AppFault.TheVariants.{NoSuchHandle, NotAValue, BadLength, NoSuchConnection, TimeWentBack, Stopped, NoServiceChanged}
use Rattle.gatt_host.specs.Calls.{fault_of_refused, refused_of}

pub fault_of_its_refusal : (fault : AppFault) → fault_of_refused (refused_of fault) ≡ fault
fault_of_its_refusal NoSuchHandle = refl
fault_of_its_refusal NotAValue = refl
fault_of_its_refusal BadLength = refl
fault_of_its_refusal NoSuchConnection = refl
fault_of_its_refusal TimeWentBack = refl
fault_of_its_refusal Stopped = refl
fault_of_its_refusal NoServiceChanged = refl
