-- A confirmation is answered by nothing, so one is never kept from being served for want of room.
use Rattle.std.proofs.Common.{◌≡◌, ℕ, Bool, true, false, [], ◌∷◌, Option, Some, None, refl, sym, ap, subst}
use Rattle.std.specs.Prelude.{◌&&◌, nat_le, if◌then◌else◌, Ok, Err, IfSome}
use Rattle.std.proofs.lemmas.Bool.{eqb-true}
use Rattle.att_numbers.specs.declared.opcode.TheConstants.{HANDLE_VALUE_CONFIRMATION}
use Rattle.att_pdu.specs.declared.grammar.PduFault.TheVariants.{Ignored}
use Rattle.att_pdu.specs.Form.{form_of}
use Rattle.att_pdu.specs.Grammar.{fault_of, is_due, request_of}
use Rattle.att_pdu.specs.Request.{ConfirmationPdu}
use Rattle.gatt_conn.specs.Answer.{is_confirmation}
use Rattle.host_connections.specs.SlotState.{SlotState}
use Rattle.host_connections.specs.Request.{confirmed_of}
use Rattle.gatt_subs.specs.Indications.{confirmed_handle}
use Rattle.octet_io.specs.Number.{Octets}

confirmation-due : (mtu : ℕ) → is_due (request_of (HANDLE_VALUE_CONFIRMATION ∷ []) mtu) ≡ false
unfolding form_of fault_of
confirmation-due mtu = elim (nat_le 1 mtu) as (λ (fits : Bool). is_due (if fits then Ok ConfirmationPdu else Err Ignored) ≡ false) [
  | true ↦ refl
  | false ↦ refl
]

not-due : (pdu : Octets) (mtu : ℕ) → is_confirmation pdu ≡ true → is_due (request_of pdu mtu) ≡ false
not-due [] mtu is = cc is
not-due (opcode ∷ []) mtu is =
    subst (λ (opcode : ℕ). is_due (request_of (opcode ∷ []) mtu) ≡ false) (sym (eqb-true opcode HANDLE_VALUE_CONFIRMATION is)) (confirmation-due mtu)
not-due (opcode ∷ octet ∷ octets) mtu is = cc is

-- a PDU to which an answer is due confirms nothing
pub confirms_nothing : (pdu : Octets) (mtu : ℕ) (more : Bool) → (is_due (request_of pdu mtu) && more) ≡ true → (slot : Option SlotState)
    → IfSome slot (λ slot_state. None ≡ confirmed_of pdu slot_state)
confirms_nothing pdu mtu more due None = tt
confirms_nothing pdu mtu more due (Some slot_state) =
    elim (is_confirmation pdu) as (λ (is : Bool). is_confirmation pdu ≡ is → None ≡ (if is then confirmed_handle slot_state.pending else None)) [
      | true ↦ λ is. absurd (cc (due, ap (λ (due : Bool). due && more) (not-due pdu mtu is)))
      | false ↦ λ not. refl
    ] refl
