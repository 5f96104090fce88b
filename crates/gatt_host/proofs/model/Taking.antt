-- What a deframer says of the octets that it took.
use Rattle.std.proofs.Common.{◌≡◌, ℕ, Bool, true, false, List, [], ◌∷◌, ◌++◌, take, Option, Some, None, Result, Err, refl, sym, ap, subst, ◌∙◌}
use Rattle.std.specs.Prelude.{IfSome, IsSome, IsTrue, is_some, ◌↔◌}
use Rattle.std.specs.Option.{option_to_list}
use Rattle.gatt_host.proofs.owing.Nexts.{clash, is_none_where}
use Rattle.gatt_host.proofs.model.Octets.{octets_lost}
use Rattle.gatt_host.proofs.model.StreamTold.{lost_told}
use Rattle.gatt_host.specs.Answers.{lost_fault}
use Rattle.gatt_host.specs.declared.host_fault.HostFault.{HostFault}
use Rattle.gatt_host.specs.declared.host_fault.HostFault.TheVariants as stop
use Rattle.gatt_host.specs.Feeding.{octet_items}
use Rattle.gatt_host.specs.Telling.{TellsOfAll}
use Rattle.gatt_host.specs.HostModel.{Refines, HostModel}
use Rattle.le_h4.specs.declared.deframer.Fed.{Fed}
use Rattle.le_h4.specs.declared.deframer.H4Fault.{H4Fault}
use Rattle.le_h4.specs.declared.deframer.H4Fault.TheVariants as lost
use Rattle.le_h4.specs.declared.packet.WholePacket.{WholePacket}
use Rattle.le_h4.specs.Deframer.{Deframing, lost_at, marks, still}
use Rattle.le_h4.specs.Division.{before, lost as lost_at_once, unfinished}
use Rattle.le_h4.specs.Packet.{Packet, packet_of_ref}
use Rattle.octet_io.specs.Number.{Octets}

abbrev failing : H4Fault → Result Fed H4Fault
failing fault = Err fault

-- octets that begin no packet
pub lost_leads : (old : HostModel) (octets : Octets) (stream : Deframing) (fault : H4Fault) → old.fault ≡ None
    → ((indicator : ℕ) → (failing fault ≡ Err (lost.Desync indicator)) ↔ (still old.stream octets ≡ lost_at_once indicator))
    → ((indicator : ℕ) → failing fault ≡ Err (lost.Desync indicator) → stream ≡ lost_at indicator)
    → Refines (octet_items octets) [] old (record old { stream = stream; fault = Some (lost_fault fault) })
lost_leads old octets stream (lost.Desync indicator) none divides lies =
    subst (λ (slot_state : Deframing). Refines (octet_items octets) [] old (record old { stream = slot_state; fault = Some (stop.Desync indicator) }))
    (sym (lies indicator refl))
    (octets_lost old octets indicator none ((divides indicator).0 refl))

-- nor do they tell anything
pub lost_silent : (old new : HostModel) (octets : Octets) (fault : H4Fault) (why : HostFault) → new.fault ≡ Some why
    → ((indicator : ℕ) → (failing fault ≡ Err (lost.Desync indicator)) ↔ (still old.stream octets ≡ lost_at_once indicator))
    → TellsOfAll (octet_items octets) old new
lost_silent old new octets (lost.Desync indicator) why stopped divides = lost_told old new octets indicator why stopped ((divides indicator).0 refl)

-- no packet is marked
pub none_marked : {A : Type 0} (packet : Bool) (marked : Option A) → packet ≡ false → (IsTrue packet ↔ IsSome marked) → marked ≡ None
none_marked packet None lacks marks = refl
none_marked packet (Some found) lacks marks = cc (lacks, marks.1 refl)

-- so many octets end this packet, whether it is lent or marked
pub record EndsPacket (old : Deframing) (octets : Octets) (new : Deframing) (used : ℕ) (packet : Packet) : Type 0 where
  pub divided : (rest : Octets) → still old (take used octets ++ rest) ≡ before (packet ∷ []) (still new rest)
  pub last : still new [] ≡ unfinished

module _ (lent : Option WholePacket) (old new : Deframing) (octets : Octets) (result : WholePacket) where
  pub packet_lent : is_some lent ≡ true → new ≡ old
      → IfSome lent (λ (host : WholePacket). (rest : Octets) → still old (take host.used octets ++ rest)
      ≡ before (packet_of_ref host.packet ∷ []) (still old rest))
      → IfSome lent (λ (host : WholePacket). still old [] ≡ unfinished)
      → IfSome lent (λ (host : WholePacket). packet_of_ref result.packet ≡ packet_of_ref host.packet)
      → IfSome lent (λ (host : WholePacket). result.used ≡ host.used)
      → EndsPacket old octets new result.used (packet_of_ref result.packet)
  packet_lent there same = by lent there
    where
      by : (lent : Option WholePacket) → is_some lent ≡ true
          → IfSome lent (λ (host : WholePacket). (rest : Octets) → still old (take host.used octets ++ rest)
          ≡ before (packet_of_ref host.packet ∷ []) (still old rest))
          → IfSome lent (λ (host : WholePacket). still old [] ≡ unfinished)
          → IfSome lent (λ (host : WholePacket). packet_of_ref result.packet ≡ packet_of_ref host.packet)
          → IfSome lent (λ (host : WholePacket). result.used ≡ host.used)
          → EndsPacket old octets new result.used (packet_of_ref result.packet)
      by None there divided last is_packet is_used = absurd (clash there)
      by (Some host) there divided last is_packet is_used =
          subst (λ (at : Deframing). EndsPacket old octets at result.used (packet_of_ref result.packet)) (sym same)
          (subst (λ (used : ℕ). EndsPacket old octets old used (packet_of_ref result.packet)) (sym is_used)
          (subst (λ (packet : Packet). EndsPacket old octets old host.used packet) (sym is_packet) (record { divided = divided; last = last })))

  pub packet_marked : (at : Deframing) (fed used : ℕ) → is_some lent ≡ false → new ≡ at
      → ((rest : Octets) → still old (take fed octets ++ rest) ≡ before (marks at) (still at rest)) → still at [] ≡ unfinished
      → (lent ≡ None → new.marked ≡ Some (packet_of_ref result.packet)) → (lent ≡ None → result.used ≡ used) → used ≡ fed
      → EndsPacket old octets new result.used (packet_of_ref result.packet)
  packet_marked at fed used lacks same divided last is_packet is_used is_fed =
      let none : lent ≡ None = is_none_where lent lacks in
      let found : marks at ≡ packet_of_ref result.packet ∷ [] = ap (λ (d : Deframing). marks d) (sym same) ∙ ap option_to_list (is_packet none) in
      subst (λ (count : ℕ). EndsPacket old octets new count (packet_of_ref result.packet)) (sym (is_used none ∙ is_fed))
      (subst (λ (d : Deframing). EndsPacket old octets d fed (packet_of_ref result.packet)) (sym same)
      (record { divided = λ rest. divided rest ∙ ap (λ (packets : List Packet). before packets (still at rest)) found; last = last }))
