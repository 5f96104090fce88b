-- What goes out of all that a host holds, in the midst of any frames and any stream.
use Rattle.std.proofs.Common.{◌≡◌, true, false, List, [], ◌∷◌, Option, Some, None, Result, Ok, Err, refl, sym, subst, ◌∙◌}
use Rattle.std.specs.Prelude.{is_err, is_some}
use Rattle.std.specs.Result.{result_err}
use Rattle.std.proofs.lemmas.Bool.{not-false}
use Rattle.gatt_host.proofs.owing.Nexts.{clash}
use Rattle.gatt_host.proofs.model.Items.{reached_by}
use Rattle.gatt_host.proofs.model.Out.{goes_out, goes_where_not_out}
use Rattle.gatt_host.specs.declared.host_fault.HostFault.{HostFault}
use Rattle.gatt_host.specs.declared.host_fault.HostFault.TheVariants as stop
use Rattle.gatt_host.specs.Feeding.{Feeds}
use Rattle.gatt_host.specs.GoingOut.{is_drained}
use Rattle.gatt_host.specs.ServerState.{ServerState, after_out, next_packet_out, open_slots}
use Rattle.gatt_host.specs.Meaning.{IncomingFrames}
use Rattle.gatt_host.specs.HostModel.{IsStateOfOne, IsReached, Refines, HostModel, going}
use Rattle.gatt_laws.specs.machine.Input.{Item}
use Rattle.le_h4.specs.Deframer.{Deframing}
use Rattle.octet_io.specs.Number.{Octets}

-- a packet goes out
module _ (server new : ServerState) (octets : Octets) (next : next_packet_out server ≡ Some octets) (is_after : new ≡ after_out server) where
  pub leads_going : (frames : IncomingFrames) (stream : Deframing) → Refines [] (octets ∷ []) (going server frames stream) (going new frames stream)
  leads_going frames stream = goes_out (going server frames stream) (going new frames stream) octets next is_after refl refl refl

  pub held_then : IsStateOfOne server → IsStateOfOne new
  held_then by =
      (by.0, by.1, reached_by [] (octets ∷ []) (going server by.0 by.1) (going new by.0 by.1) by.2 (leads_going by.0 by.1))

-- nothing does
pub drained_then : (server : ServerState) → IsStateOfOne server → is_some (next_packet_out server) ≡ false → is_drained server.controller (open_slots server)
    ≡ true
drained_then server by none =
    not-false (is_drained server.controller (open_slots server)) (sym (goes_where_not_out (going server by.0 by.1) by.2 refl) ∙ none)

-- a host that goes on, and its parts
pub is_going : (host : HostModel) → host.fault ≡ None → going host.server host.frames host.stream ≡ host
is_going host none = λ i. record host { fault = sym none i }

pub feeds_from : (old new : HostModel) (before after : Option Octets) (fault : Option HostFault) → old.fault ≡ None → new.fault ≡ fault
    → Feeds [] (going old.server old.frames old.stream) (record (going new.server old.frames old.stream) { fault = fault }) before after fault
    → new.frames ≡ old.frames → new.stream ≡ old.stream → Feeds [] old new before after new.fault
feeds_from old new before after fault none same feeds frames stream =
    let led : HostModel = record (going new.server old.frames old.stream) { fault = fault } in
    subst (λ (why : Option HostFault). Feeds [] old new before after why) (sym same)
    (subst (λ (host : HostModel). Feeds [] host new before after fault) (is_going old none)
    (subst (λ (host : HostModel). Feeds [] (going old.server old.frames old.stream) host before after fault)
    (λ i. record led { frames = sym frames i; stream = sym stream i; fault = sym same i }) feeds))

-- wherever octets and calls lead, some start and some input do
pub reached_fed : (items : List Item) (old new : HostModel) (before after : Option Octets) (fault : Option HostFault) → IsReached old
    → Feeds items old new before after fault → IsReached new
reached_fed items old new before after None reached feeds = reached_by items feeds.packets old new reached feeds.refines
reached_fed items old new before after (Some (stop.Desync indicator)) reached feeds = reached_by items feeds.packets old new reached feeds.refines
reached_fed items old new before after (Some (stop.BadEvent code)) reached feeds = reached_by items feeds.packets old new reached feeds.refines
reached_fed items old new before after (Some (stop.Init why)) reached feeds = reached_by items feeds.packets old new reached feeds.refines
reached_fed items old new before after (Some (stop.Hardware code)) reached feeds = reached_by items feeds.packets old new reached feeds.refines
reached_fed items old new before after (Some stop.Read) reached feeds = reached_by items feeds.packets old new reached feeds.refines
reached_fed items old new before after (Some stop.Turns) reached feeds = reached_by items feeds.packets old new reached feeds.refines
reached_fed items old new before after (Some stop.Write) reached feeds = reached_by feeds.taken feeds.packets old new reached feeds.refines

-- a call that went well answers no fault
pub no_fault_where : {T E : Type 0} (result : Result T E) → is_err result ≡ false → result_err result ≡ None
no_fault_where (Ok x) went = refl
no_fault_where (Err e) went = absurd (clash (sym went))
