-- The lines that `att` prints for an input of Attribute PDUs, one a line, of one connection.
use Rattle.std.specs.Prelude.{ℕ, ◌+◌, ◌==◌, Bool, false, is_none, nat_lt, if◌then◌else◌, List, [], ◌∷◌, ◌++◌, length, filter_map, Option, Some, None, Result}
use Rattle.std.specs.List.{list_any, flat_map, slice_split}
use Rattle.std.specs.Result.{result_ok, result_unwrap_or}
use Rattle.hex.specs.Hex.{decode_of, encode_lower}
use Rattle.shell_files.specs.declared.fault.ShellFault.{ShellFault}
use Rattle.shell_files.specs.declared.fault.ShellFault.TheVariants.{Table, NotHex, Unreadable, Unwritten, Memory}
use Rattle.att_numbers.specs.Types.{Row}
use Rattle.att_pdu.specs.Grammar.{request_of}
use Rattle.att_pdu.specs.Response.{Response, sent}
use Rattle.att_table.specs.declared.examples.TheConstants.{DOOR}
use Rattle.att_table.specs.declared.table_fault.TableFault.{TableFault}
use Rattle.att_table.specs.Table.{Contents}
use Rattle.att_table.specs.file.TableFile.{table_read, no_attributes}
use Rattle.gatt_conn.specs.Answer.{Question, answer_to, stored_by, conn_after}
use Rattle.gatt_conn.specs.Connection.{Bearer, new_connection}
use Rattle.gatt_conn.specs.declared.conn.TheConstants.{RX_MTU}
use Rattle.octet_io.specs.Number.{Octets}
use Rattle.shell_files.specs.declared.session.TheConstants.{MAX_DIGITS}

-- The last line may be blank.
abbrev pub lines_of_input : Octets → List Octets
lines_of_input input = slice_split (λ octet. octet == 10) input

-- Hexadecimal digits spell a PDU, if a line may have that many.
abbrev pub pdu_of : Octets → Option Octets
pdu_of digits = if nat_lt MAX_DIGITS (length digits) then None else result_ok (decode_of digits)

abbrev pub pdu_in : Octets → Option Octets
pdu_in [] = None
pdu_in (digit ∷ digits) = pdu_of (digit ∷ digits)

-- A bad line is neither blank nor a PDU in hexadecimal.
abbrev pub is_bad : Octets → Bool
is_bad [] = false
is_bad (digit ∷ digits) = is_none (pdu_of (digit ∷ digits))

abbrev pub good_lines : List Octets → List Octets
good_lines [] = []
good_lines (line ∷ lines) = if is_bad line then [] else line ∷ good_lines lines

-- The number of the first bad line, counted from this number.
abbrev pub bad_line_from : ℕ → List Octets → Option ℕ
bad_line_from number lines = if list_any is_bad lines then Some (number + length (good_lines lines))
    else None

abbrev pub bad_line_of : Octets → Option ℕ
bad_line_of input = bad_line_from 1 (lines_of_input input)

-- A table, its one connection, and the configurations of the client.
pub record Server : Type 0 where
  pub table : Contents
  pub row : Row
  pub conn : Bearer

abbrev pub server_with : Contents → Row → Bearer → Server
server_with table row conn = record { table = table; row = row; conn = conn }

-- A PDU as a request; then its response, if any, and the server afterwards.
abbrev pub question_to : Server → Octets → Question
question_to server pdu = request_of pdu server.conn.mtu

abbrev pub answer_from : Server → Octets → Option Response
answer_from server pdu = answer_to server.table server.row server.conn (question_to server pdu)

abbrev pub server_after : Server → Octets → Server
server_after server pdu =
    let asked = question_to server pdu in
    let stored = stored_by server.table server.row server.conn asked in
    record {
      table = record server.table { values = stored.values };
      row = stored.row;
      conn = conn_after server.table.attributes server.conn asked;
    }

abbrev pub answers_from : Server → List Octets → List (Option Response)
answers_from server [] = []
answers_from server (pdu ∷ pdus) =
    answer_from server pdu ∷ answers_from (server_after server pdu) pdus

-- A response is printed in hexadecimal, and none as a hyphen.
abbrev pub printed_answer : Option Response → Octets
printed_answer None = 45 ∷ 10 ∷ []
printed_answer (Some answer) = encode_lower (sent answer) ++ 10 ∷ []

abbrev pub door_read : Result Contents TableFault
door_read = table_read DOOR.now

unfoldable pub door : Contents
door = result_unwrap_or door_read no_attributes

abbrev pub door_server : Server
door_server = record { table = door; row = []; conn = new_connection RX_MTU }

-- The responses to the PDUs before the first bad line.
abbrev pub printed_by : Server → List Octets → Octets
printed_by server lines =
    flat_map printed_answer (answers_from server (filter_map pdu_in (good_lines lines)))

unfoldable pub printed_for : Octets → Octets
printed_for input = printed_by door_server (lines_of_input input)

abbrev pub IsAttFault : ShellFault → Type 0
IsAttFault (Table _) = Unit {0}
IsAttFault Memory = Unit {0}
IsAttFault Unreadable = Unit {0}
IsAttFault Unwritten = Unit {0}
IsAttFault (NotHex _) = Unit {0}
IsAttFault _ = ⊥
