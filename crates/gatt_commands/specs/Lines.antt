-- The printed outcome of a script's lines (this profile's own).
use Rattle.std.specs.Prelude.{ℕ, zero, suc, ◌<◌, ◌==◌, ◌++◌, if◌then◌else◌, List, [], ◌∷◌, codes, slice_index_or, Option, None, Result, Ok, Err}
use Rattle.std.specs.Fmt.{decimal}
use Rattle.std.specs.List.{flat_map}
use Rattle.std.specs.Option.{option_map_or}
use Rattle.le_l2cap.specs.declared.channel.TheConstants.{LE_SIGNALLING, SECURITY_MANAGER}
use Rattle.le_l2cap.specs.declared.frame.Skip.{Skip}
use Rattle.le_l2cap.specs.Frame.{BasicFrame, frame_of}
use Rattle.sim_controller.specs.Phone.{Phone}
use Rattle.sim_controller.specs.Simulated.{Simulated, phone_at, with_phone}
use Rattle.hex.specs.Hex.{encode_lower}
use Rattle.gatt_commands.specs.declared.refused.Refused.{Refused}
use Rattle.gatt_commands.specs.declared.refused.Refused.TheVariants.{Call, Act}
use Rattle.octet_io.specs.Number.{Octets}

-- A refused act names one of `count` clients.
abbrev pub IsOfPhone : ℕ → Refused → Type 0
IsOfPhone count (Call number) = Unit {0}
IsOfPhone count (Act phone number) = phone < count

abbrev pub line_feed : Octets
line_feed = 10 ∷ []

-- The channel of LE signalling or the Security Manager precedes the payload.
abbrev pub sign_of : ℕ → Octets
sign_of channel =
    if channel == LE_SIGNALLING then codes " >5 "
    else if channel == SECURITY_MANAGER then codes " >6 "
    else codes " > "

abbrev pub frame_line : Octets → BasicFrame → Octets
frame_line name frame = name ++ sign_of frame.cid ++ encode_lower frame.payload ++ line_feed

-- Octets that are no frame are skipped.
abbrev pub frame_line_if : Octets → Result BasicFrame Skip → Octets
frame_line_if name (Ok frame) = frame_line name frame
frame_line_if name (Err skip) = []

abbrev pub heard_line : Octets → Octets → Octets
heard_line name octets = frame_line_if name (frame_of octets)

-- The host ended the connection.
abbrev pub ended_line : Octets → ℕ → Octets
ended_line name reason = name ++ codes " ended " ++ encode_lower (reason ∷ []) ++ line_feed

-- The received frames precede the end of the connection.
abbrev pub heard_lines : Octets → List Octets → Octets
heard_lines name heard = flat_map (heard_line name) heard

abbrev pub ended_text : Octets → Option ℕ → Octets
ended_text name ended = option_map_or (ended_line name) ended []

abbrev pub phone_text : Octets → Phone → Octets
phone_text name phone = heard_lines name phone.heard ++ ended_text name phone.ended

-- A printed client has nothing left to print.
abbrev pub told_phone : Phone → Phone
told_phone phone = record phone { heard = []; ended = None }

abbrev pub with_told_phone : Simulated → ℕ → Simulated
with_told_phone old phone = with_phone old phone (told_phone (phone_at old phone))

-- Clients with names, in order.
abbrev pub phones_text : List Octets → List Phone → Octets
phones_text [] phones = []
phones_text (name ∷ names) [] = []
phones_text (name ∷ names) (phone ∷ phones) = phone_text name phone ++ phones_text names phones

abbrev pub told_phones : ℕ → List Phone → List Phone
told_phones zero phones = phones
told_phones (suc count) [] = []
told_phones (suc count) (phone ∷ phones) = told_phone phone ∷ told_phones count phones

abbrev pub with_told_phones : Simulated → ℕ → Simulated
with_told_phones old count = record old { phones = told_phones count old.phones }

-- The number is that of the fault.
abbrev pub refused_line : List Octets → Refused → Octets
refused_line names (Call number) = codes "fault " ++ decimal number ++ line_feed
refused_line names (Act phone number) =
    slice_index_or names phone [] ++ codes " refused " ++ decimal number ++ line_feed

-- The refusal precedes the clients.
abbrev pub refused_text : List Octets → Option Refused → Octets
refused_text names refused = option_map_or (refused_line names) refused []

abbrev pub outcome_text : List Octets → Option Refused → List Phone → Octets
outcome_text names refused phones = refused_text names refused ++ phones_text names phones
