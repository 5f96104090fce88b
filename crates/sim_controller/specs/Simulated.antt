-- A simulated controller as one value (this profile's own).
use Rattle.std.specs.Prelude.{◌≡◌, ℕ, ◌+◌, ◌≤◌, nat_lt, Bool, false, List, [], ◌++◌, length, replicate, slice_index_or, slice_set, is_some, Option, Some, None, Result, Ok, Err, OnOk, OnErr}
use Rattle.circular_buffer.specs.Buffer.{Buffer}
use Rattle.le_acl.specs.declared.sender.TheConstants.{MAX_ACL_LEN}
use Rattle.sim_controller.specs.declared.config.SimConfig.{SimConfig}
use Rattle.sim_controller.specs.declared.fault.SimFault.{SimFault}
use Rattle.sim_controller.specs.declared.handle.TheConstants.{PHONES}
use Rattle.sim_controller.specs.declared.told.Told.{Told}
use Rattle.sim_controller.specs.declared.waiting.TheConstants.{MAX_PACKETS}
use Rattle.sim_controller.specs.Phone.{Phone, absent_phone}

pub record Simulated : Type 0 where
  pub config : SimConfig
  pub advertising : Bool
  pub waiting : List Told
  pub phones : List Phone

abbrev pub simulated_at_start : SimConfig → Simulated
simulated_at_start config =
    record {
      config = config;
      advertising = false;
      waiting = [];
      phones = replicate PHONES absent_phone;
    }

abbrev pub phone_at : Simulated → ℕ → Phone
phone_at old phone = slice_index_or old.phones phone absent_phone

abbrev pub is_here : Simulated → ℕ → Bool
is_here old phone = is_some (phone_at old phone).link

abbrev pub with_phone : Simulated → ℕ → Phone → Simulated
with_phone old phone new = record old { phones = slice_set old.phones phone new }

abbrev pub with_told : Simulated → List Told → Simulated
with_told old told = record old { waiting = old.waiting ++ told }

abbrev pub is_too_much : Simulated → List Told → Bool
is_too_much old told = nat_lt MAX_PACKETS (length old.waiting + length told)

abbrev pub refusal : Option SimFault → Result (Unit {0}) SimFault
refusal None = Ok tt
refusal (Some fault) = Err fault

-- A call with a fault returns it and changes nothing.
pub record IsDone (fault : Option SimFault) (after old new : Simulated)
    (result : Result (Unit {0}) SimFault) : Type 0 where
  pub exact : result ≡ refusal fault
  pub done : OnOk result (new ≡ after)
  pub unchanged : OnErr result (new ≡ old)

abbrev pub simulated_of : SimConfig → Bool → List Told → List Phone → Simulated
simulated_of config advertising waiting phones =
    record { config = config; advertising = advertising; waiting = waiting; phones = phones }

-- The queue of packets is within its limit.
pub record IsSimulated (config : SimConfig) (waiting : Buffer Told) (phones : List Phone) : Type 0
  where
    pub cut_least : 1 ≤ config.cut
    pub cut_most : config.cut ≤ MAX_ACL_LEN
    pub room : waiting.capacity ≡ MAX_PACKETS
    pub within : length waiting.items ≤ MAX_PACKETS
    pub count : length phones ≡ PHONES
