-- What is told of an item, where a host stands in a run.
use Rattle.std.proofs.Common.{◌≡◌, Bool, true, false, List, [], Option, None, Result, Ok, Err, refl, sym, ap, ◌∙◌}
use Rattle.std.specs.Prelude.{is_some, if◌then◌else◌, IsOk}
use Rattle.std.specs.Result.{result_err}
use Rattle.std.specs.Option.{option_map_or}
use Rattle.gatt_host.proofs.model.Items.{no_fault}
use Rattle.gatt_host.specs.declared.host_fault.HostFault.{HostFault}
use Rattle.gatt_host.specs.ServerState.{without_notices}
use Rattle.gatt_host.specs.Notices.{last_notices}
use Rattle.gatt_host.specs.RunRefinement.{ServerRefinesRun}
use Rattle.gatt_host.specs.Telling.{noticed_in, notices_told}
use Rattle.gatt_host.specs.HostModel.{RefinesRun, HostModel}
use Rattle.gatt_laws.specs.machine.Event.{Event}
use Rattle.gatt_laws.specs.machine.Input.{APacket, Run, Item}
use Rattle.gatt_laws.specs.machine.ItemEvents.{event_if, event_of_packet, event_taken}
use Rattle.gatt_laws.specs.machine.Notice.{noticed, notices_of}
use Rattle.gatt_laws.specs.machine.Packets.{Fault, Fragments, packet_event}
use Rattle.gatt_laws.specs.machine.State.{State}
use Rattle.le_h4.specs.Division.{is_long}
use Rattle.le_h4.specs.Packet.{Packet}
use Rattle.octet_io.specs.Number.{Octets}

pub result_told : {E : Type 0} (state : State) (result : Result Event E) → noticed_in state result ≡ option_map_or (noticed state) (event_if result) []
result_told state (Ok event) = refl
result_told state (Err fault) = refl

-- an item that means the event of a result
pub told_in_run : {E : Type 0} (item : Item) (run : Run) (sent : List Octets) (old new : HostModel) → old.fault ≡ None
    → (result : Result Event E) → event_taken run.intake item ≡ event_if result → new.fault ≡ None → RefinesRun run sent old
    → (ServerRefinesRun run sent old.server old.frames → last_notices new.server ≡ noticed_in run.intake.state result)
    → notices_told new ≡ notices_of run item
told_in_run item run sent old new none result means same is told =
    ap (λ (fault : Option HostFault). if is_some fault then [] else last_notices new.server) same
    ∙ told is.refines ∙ result_told run.intake.state result
    ∙ ap (λ (event : Option Event). option_map_or (noticed run.intake.state) event []) (sym means)
    ∙ ap (λ (fault : Option Fault). option_map_or (noticed run.intake.state) (if is_some fault then None else event_taken run.intake item) [])
    (sym (no_fault run sent old none is))

pub ok_where : {A E : Type 0} (result : Result A E) → result_err result ≡ None → IsOk result
ok_where (Ok done) none = refl
ok_where (Err fault) none = cc none

-- a packet that is too long means none
pub not_long : (state : State) (fragments : Fragments) (packet : Packet) → is_long packet ≡ false
    → event_of_packet state fragments packet ≡ event_if (packet_event state fragments packet)
not_long state fragments packet short =
    ap (λ (long : Bool). if long then None else event_if (packet_event state fragments packet)) short

pub long_told : (packet : Packet) (run : Run) (old new : HostModel) → is_long packet ≡ true → new.fault ≡ None
    → new ≡ record old { server = without_notices old.server } → notices_told new ≡ notices_of run (APacket packet)
long_told packet run old new long still same =
    ap (λ (fault : Option HostFault). if is_some fault then [] else last_notices new.server) still
    ∙ ap (λ (host : HostModel). last_notices host.server) same
    ∙ no-event (is_some run.intake.fault) (event_of_packet run.intake.state run.intake.fragments packet)
    (ap (λ (long : Bool). if long then None else event_if (packet_event run.intake.state run.intake.fragments packet)) long)
  where
    no-event : (stopped : Bool) (found : Option Event) → found ≡ None
        → [] ≡ option_map_or (noticed run.intake.state) (if stopped then None else found) []
    no-event true found none = refl
    no-event false found none = sym (ap (λ (event : Option Event). option_map_or (noticed run.intake.state) event []) none)
