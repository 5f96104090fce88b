-- The names of error codes (Core 5.2, Vol 3 Part F, 3.4.1.1, Table 3.3; Core Specification
-- Supplement, Part B, 1.2).
use Rattle.std.specs.Prelude.{ℕ, ◌==◌, if◌then◌else◌, List, Some, None, Option, codes}
use Rattle.att_numbers.specs.Types.{Code}
use Rattle.att_numbers.specs.declared.error_code.TheConstants.{INVALID_HANDLE, READ_NOT_PERMITTED, WRITE_NOT_PERMITTED, INVALID_PDU, INSUFFICIENT_AUTHENTICATION, REQUEST_NOT_SUPPORTED, INVALID_OFFSET, INSUFFICIENT_AUTHORIZATION, PREPARE_QUEUE_FULL, ATTRIBUTE_NOT_FOUND, INSUFFICIENT_ENCRYPTION_KEY_SIZE, INVALID_ATTRIBUTE_VALUE_LENGTH, INSUFFICIENT_ENCRYPTION, UNSUPPORTED_GROUP_TYPE, OUT_OF_RANGE}

abbrev pub error_name : Code → Option (List ℕ)
error_name code =
    if code == INVALID_HANDLE then Some (codes "Invalid Handle")
    else if code == READ_NOT_PERMITTED then Some (codes "Read Not Permitted")
    else if code == WRITE_NOT_PERMITTED then Some (codes "Write Not Permitted")
    else if code == INVALID_PDU then Some (codes "Invalid PDU")
    else if code == INSUFFICIENT_AUTHENTICATION then Some (codes "Insufficient Authentication")
    else if code == REQUEST_NOT_SUPPORTED then Some (codes "Request Not Supported")
    else if code == INVALID_OFFSET then Some (codes "Invalid Offset")
    else if code == INSUFFICIENT_AUTHORIZATION then Some (codes "Insufficient Authorization")
    else if code == PREPARE_QUEUE_FULL then Some (codes "Prepare Queue Full")
    else if code == ATTRIBUTE_NOT_FOUND then Some (codes "Attribute Not Found")
    else if code == 11 then Some (codes "Attribute Not Long")
    else if code == INSUFFICIENT_ENCRYPTION_KEY_SIZE
    then Some (codes "Insufficient Encryption Key Size")
    else if code == INVALID_ATTRIBUTE_VALUE_LENGTH
    then Some (codes "Invalid Attribute Value Length")
    else if code == 14 then Some (codes "Unlikely Error")
    else if code == INSUFFICIENT_ENCRYPTION then Some (codes "Insufficient Encryption")
    else if code == UNSUPPORTED_GROUP_TYPE then Some (codes "Unsupported Group Type")
    else if code == 17 then Some (codes "Insufficient Resources")
    else if code == 18 then Some (codes "Database Out Of Sync")
    else if code == 19 then Some (codes "Value Not Allowed")
    else if code == 252 then Some (codes "Write Request Rejected")
    else if code == 253
    then Some (codes "Client Characteristic Configuration Descriptor Improperly Configured")
    else if code == 254 then Some (codes "Procedure Already in Progress")
    else if code == OUT_OF_RANGE then Some (codes "Out of Range")
    else None
