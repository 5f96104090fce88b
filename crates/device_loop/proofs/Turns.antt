-- What a turn is served, under other names, and what waits then.
use Rattle.std.proofs.Common.{◌≡◌, ℕ, List, Option, Some, None, Result, refl, sym, subst, ◌∙◌}
use Rattle.std.specs.Option.{option_map}
use Rattle.device_loop.specs.declared.outside.Saving.{Saving}
use Rattle.device_loop.specs.declared.serving.End.{End}
use Rattle.device_loop.specs.Happenings.{HistoryEntry}
use Rattle.device_loop.specs.Outside.{octets_to_send}
use Rattle.device_loop.specs.Serving.{Known, ServesDevice, known}
use Rattle.gatt_host.specs.declared.host_fault.HostFault.{HostFault}
use Rattle.gatt_host.specs.HostModel.{HostModel}
use Rattle.gatt_laws.specs.machine.Calls.{Call}
use Rattle.gatt_laws.specs.machine.Notice.{Received}
use Rattle.octet_io.specs.Number.{Octets}

pub serves_as : (result : Result End HostFault) (turns : ℕ) (old new : HostModel) (come : Known) (octets other_octets : Option Octets)
    (calls other_calls : Option (List Call))
    (history : Option (List HistoryEntry)) (before after : Option Octets) (heard hears hearing : Option (List Received)) → other_octets ≡ octets
    → other_calls ≡ calls → hearing ≡ hears
    → ServesDevice result turns old new come (known octets calls history) before after heard hears
    → ServesDevice result turns old new come (known other_octets other_calls history) before after heard hearing
serves_as result turns old new come octets other_octets calls other_calls history before after heard hears hearing same_octets same_calls same_hearing serves =
    subst (λ (it : Option Octets). ServesDevice result turns old new come (known it other_calls history) before after heard hearing) (sym same_octets)
    (subst (λ (it : Option (List Call)). ServesDevice result turns old new come (known octets it history) before after heard hearing) (sym same_calls)
    (subst (λ (it : Option (List Received)). ServesDevice result turns old new come (known octets calls history) before after heard it)
    (sym same_hearing) serves))

-- what waits once some of it is withheld is what waited before, without that
pub waits_unsaved : (saving : Saving) (before : Option Octets) (waiting : Octets) (after : Option Octets) → after ≡ option_map (octets_to_send saving) before
    → after ≡ Some waiting
    → (octets : Octets) × (before ≡ Some octets) × (waiting ≡ octets_to_send saving octets)
waits_unsaved saving None waiting after withheld waits = absurd (cc (withheld, waits))
waits_unsaved saving (Some octets) waiting after withheld waits =
    let same : Some (octets_to_send saving octets) ≡ Some waiting = sym withheld ∙ waits in
    let is : waiting ≡ octets_to_send saving octets = cc same in
    (octets, refl, is)
