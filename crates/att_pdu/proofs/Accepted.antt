-- Nothing in the grammar is refused.
use Rattle.std.proofs.Common.{◌≡◌, ℕ, ◌%◌, ◌≤◌, length, Some, Ok, arith, ap}
use Rattle.std.proofs.lemmas.Bool.Decides.{nat_tests}
use Rattle.std.proofs.lemmas.Grind.{common_steps}
use Rattle.att_pdu.specs.declared.request.ExecuteFlags.TheVariants.{Cancel, Write}
use Rattle.std.specs.List.{flat_map}
use Rattle.att_pdu.specs.declared.uuid.Uuid.{Uuid}
use Rattle.att_pdu.specs.declared.uuid.Uuid.TheVariants.{Short, Long}
use Rattle.att_pdu.proofs.Handles.{handles_read, handles_twice}
use Rattle.att_pdu.proofs.LongUuid.{long_read}
use Rattle.octet_io.specs.Number.{two_octets}
use Rattle.att_pdu.specs.Uuid.{uuid_octets, uuid_form, HasUuidOctets}
use Rattle.att_pdu.specs.Request.{Asked, ExchangeMtuRequest, FindInformationRequest, FindByTypeValueRequest, ReadByTypeRequest, ReadRequest, ReadBlobRequest, ReadMultipleRequest, ReadByGroupTypeRequest, WriteRequest, PrepareWriteRequest, ExecuteWriteRequest, ConfirmationPdu, WriteCommandPdu, spelled, HasOctetFields}
use Rattle.att_pdu.specs.Form.{form_of}
use Rattle.att_pdu.specs.Grammar.{request_of}

uuid_read : (type : Uuid) → HasUuidOctets type → uuid_form (uuid_octets type) ≡ Some type
uuid_read (Short short) fits = ap (λ n. Some (Short n)) (omega arith)
uuid_read (Long long) fits = ap (λ n. Some (Long n)) (long_read long fits)

pub accepted : (request : Asked) (mtu : ℕ) → HasOctetFields request → length (spelled request) ≤ mtu → request_of (spelled request) mtu ≡ Ok request
unfolding form_of
accepted (ExchangeMtuRequest client_rx_mtu) mtu fields fits = grind (arith, common_steps)
accepted (FindInformationRequest first last) mtu fields fits = grind (arith, common_steps)
accepted (FindByTypeValueRequest first last type value) mtu fields fits = grind (arith, common_steps)
accepted (ReadByTypeRequest first last type) mtu fields fits = grind (arith, common_steps, uuid_read type fields.2)
accepted (ReadRequest handle) mtu fields fits = grind (arith, common_steps)
accepted (ReadBlobRequest handle offset) mtu fields fits = grind (arith, common_steps)
accepted (ReadMultipleRequest handles) mtu fields fits =
    let twice = handles_twice handles in
    let even : length (flat_map two_octets handles) % 2 ≡ 0 = omega arith in
    grind (arith, nat_tests, common_steps, even, twice, handles_read handles fields.0)
accepted (ReadByGroupTypeRequest first last type) mtu fields fits = grind (arith, common_steps, uuid_read type fields.2)
accepted (WriteRequest handle value) mtu fields fits = grind (arith, common_steps)
accepted (PrepareWriteRequest handle offset part) mtu fields fits = grind (arith, common_steps)
accepted (ExecuteWriteRequest Cancel) mtu fields fits = grind (arith, common_steps)
accepted (ExecuteWriteRequest Write) mtu fields fits = grind (arith, common_steps)
accepted ConfirmationPdu mtu fields fits = grind (arith, common_steps)
accepted (WriteCommandPdu handle value) mtu fields fits = grind (arith, common_steps)
