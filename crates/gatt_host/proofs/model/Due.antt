-- A host of which all is out owes nothing, and still does not where it stops.
use Rattle.std.proofs.Common.{◌≡◌, ◌||◌, true, false, Option, Some, None, Result, Ok, Err, refl, sym, ap, subst, ◌∙◌}
use Rattle.std.specs.Prelude.{is_err, is_some, IsOk, IfSome}
use Rattle.gatt_host.proofs.owing.Nexts.{clash}
use Rattle.gatt_host.proofs.meaning.Drained.{all_sent}
use Rattle.gatt_host.proofs.model.Items.{drained_where}
use Rattle.gatt_host.specs.declared.host_fault.HostFault.{HostFault}
use Rattle.gatt_host.specs.declared.host_fault.HostFault.TheVariants as stop
use Rattle.gatt_host.specs.Feeding.{IsAllOut, WritesAllThatIsDue, is_of_feeding}
use Rattle.gatt_host.specs.GoingOut.{is_drained}
use Rattle.gatt_host.specs.ServerState.{ServerState, open_slots, without_notices}
use Rattle.gatt_host.specs.HostModel.{HostModel, all_out, is_own_fault}
use Rattle.gatt_laws.specs.machine.Input.{run}

-- by the fault that stands
due-by : (fault : Option HostFault) (host : HostModel) → IsAllOut host → WritesAllThatIsDue fault host
due-by None host out = out
due-by (Some (stop.Desync indicator)) host out = out
due-by (Some (stop.BadEvent code)) host out = out
due-by (Some (stop.Init why)) host out = out
due-by (Some (stop.Hardware code)) host out = out
due-by (Some stop.Read) host out = out
due-by (Some stop.Write) host out = tt
due-by (Some stop.Turns) host out = out

-- one that holds what it held when all was out
pub due_where_held : (old new : HostModel) (fault : Option HostFault) → old.fault ≡ None → all_out old ≡ true → new.server ≡ old.server
    → WritesAllThatIsDue fault new
due_where_held old new fault none out same =
    due-by fault new (λ start input sent is.
    all_sent (run start input) sent new.server new.frames is.refines
    (subst (λ (server : ServerState). is_drained server.controller (open_slots server) ≡ true) (sym same) (drained_where old none out)))

pub due_where_out : (host : HostModel) → host.fault ≡ None → all_out host ≡ true → WritesAllThatIsDue host.fault host
due_where_out host none out = due_where_held host host host.fault none out (λ i. host.server)

-- by what is held
pub due_where_drained : (host : HostModel) (fault : Option HostFault) → is_drained host.server.controller (open_slots host.server) ≡ true
    → WritesAllThatIsDue fault host
due_where_drained host fault drained =
    due-by fault host (λ start input sent is. all_sent (run start input) sent host.server host.frames is.refines drained)

-- of which nothing is told any more
pub due_in_silence : (old new : HostModel) (fault : Option HostFault) → old.fault ≡ None → all_out old ≡ true → new.server ≡ without_notices old.server
    → WritesAllThatIsDue fault new
due_in_silence old new fault none out same =
    due_where_drained new fault
    (subst (λ (server : ServerState). is_drained server.controller (open_slots server) ≡ true) (sym same) (drained_where old none out))

-- a call that is no failure is well
pub ok_where : {T E : Type 0} (result : Result T E) → is_err result ≡ false → IsOk result
ok_where (Ok x) works = refl
ok_where (Err e) works = absurd (clash (sym works))

-- one that has stopped has nothing pending
pub out_where_stopped : (host : HostModel) (fault : HostFault) → host.fault ≡ Some fault → all_out host ≡ true
out_where_stopped host fault is =
    ap (λ (found : Option HostFault). is_some found || is_drained host.server.controller (open_slots host.server)) is

-- the fault of a feeding
pub feeding_where : (found : Option HostFault) (fault : HostFault) → found ≡ Some fault → is_of_feeding fault ≡ true
    → IfSome found (λ (fault : HostFault). is_of_feeding fault ≡ true)
feeding_where found fault is comes =
    subst (λ (found : Option HostFault). IfSome found (λ (fault : HostFault). is_of_feeding fault ≡ true)) (sym is) comes

pub feeding_at : (found : Option HostFault) (fault : HostFault) → found ≡ Some fault
    → IfSome found (λ (fault : HostFault). is_of_feeding fault ≡ true) → is_of_feeding fault ≡ true
feeding_at found fault is comes = subst (λ (found : Option HostFault). IfSome found (λ (fault : HostFault). is_of_feeding fault ≡ true)) is comes

pub feeding_going : (found : Option HostFault) → found ≡ None → IfSome found (λ (fault : HostFault). is_of_feeding fault ≡ true)
feeding_going found none = subst (λ (found : Option HostFault). IfSome found (λ (fault : HostFault). is_of_feeding fault ≡ true)) (sym none) tt

pub feeding_by_run : (fault : HostFault) → is_own_fault fault ≡ false → is_of_feeding fault ≡ true
feeding_by_run (stop.Desync indicator) other = refl
feeding_by_run (stop.BadEvent code) other = refl
feeding_by_run (stop.Init why) other = refl
feeding_by_run (stop.Hardware code) other = refl
feeding_by_run stop.Read other = absurd (clash (sym other))
feeding_by_run stop.Write other = absurd (clash (sym other))
feeding_by_run stop.Turns other = absurd (clash (sym other))

-- one of which nothing is told any more still has nothing pending
pub out_in_silence : (old new : HostModel) → old.fault ≡ None → new.fault ≡ None → all_out old ≡ true → new.server ≡ without_notices old.server
    → all_out new ≡ true
out_in_silence old new none still out same =
    ap (λ (found : Option HostFault). is_some found || is_drained new.server.controller (open_slots new.server)) still
    ∙ subst (λ (server : ServerState). is_drained server.controller (open_slots server) ≡ true) (sym same) (drained_where old none out)
