-- The transcript of a connection, newest first, which alone decides its ATT_MTU and queue.
use Rattle.std.specs.Prelude.{◌≡◌, Bool, true, false, if◌then◌else◌, is_some, List, [], ◌∷◌, ◌++◌, Option, Some, None, Ok}
use Rattle.std.specs.Option.{option_or, option_map_or}
use Rattle.att_numbers.specs.Types.{Mtu, Row}
use Rattle.att_pdu.specs.Grammar.{request_of}
use Rattle.att_pdu.specs.Request.{ExchangeMtuRequest, PrepareWriteRequest, ExecuteWriteRequest}
use Rattle.att_pdu.specs.Response.{Response, ExchangeMtuResponse, PrepareWriteResponse}
use Rattle.att_policy.specs.declared.standing.Standing.{Standing}
use Rattle.att_table.specs.Table.{Contents}
use Rattle.att_writes.specs.Entry.{Entry}
use Rattle.gatt_conn.specs.Answer.{Question, entry_at, answer_to, conn_after}
use Rattle.gatt_conn.specs.Connection.{Bearer, new_connection, mtu_between}
use Rattle.octet_io.specs.Number.{Octets}
use Rattle.att_pdu.specs.declared.pdu_buf.TheConstants.{MIN_MTU}

-- A PDU with its response, or the server's clearing of the queue.
pub data Said : Type 0 where
  Answered : (asked : Question) (answer : Option Response) → Said
  Dropped : Said

-- The response to an exchange, and below, to an accepted part.
abbrev pub is_exchange : Option Response → Bool
is_exchange (Some (ExchangeMtuResponse server_rx_mtu)) = true
is_exchange _ = false

abbrev pub is_acceptance : Option Response → Bool
is_acceptance (Some (PrepareWriteResponse handle offset part)) = true
is_acceptance _ = false

-- The client's MTU of an Exchange MTU Request.
abbrev pub exchange_asked : Question → Option Mtu
exchange_asked (Ok (ExchangeMtuRequest client_rx_mtu)) = Some client_rx_mtu
exchange_asked _ = None

abbrev pub exchanged_by : Said → Option Mtu
exchanged_by (Answered asked answer) = if is_exchange answer then exchange_asked asked else None
exchanged_by Dropped = None

-- The client's MTU of the first exchange.
abbrev pub first_exchange : List Said → Option Mtu
first_exchange [] = None
first_exchange (said ∷ earlier) = option_or (first_exchange earlier) (exchanged_by said)

-- The ATT_MTU of a connection to a server with this MTU. (P-ATT-1)
abbrev pub mtu_in : Mtu → List Said → Mtu
mtu_in rx_mtu all =
    option_map_or (λ client_rx_mtu. mtu_between client_rx_mtu rx_mtu) (first_exchange all) MIN_MTU

-- The part of a Prepare Write Request.
abbrev pub part_asked : Question → List Entry
part_asked (Ok (PrepareWriteRequest handle offset part)) = entry_at handle offset part ∷ []
part_asked _ = []

abbrev pub part_by : Said → List Entry
part_by (Answered asked answer) = if is_acceptance answer then part_asked asked else []
part_by Dropped = []

-- A well-formed Execute Write Request ends the queue, whether it writes or is rejected.
abbrev pub asks_execution : Question → Bool
asks_execution (Ok (ExecuteWriteRequest flags)) = true
asks_execution _ = false

abbrev pub is_end : Said → Bool
is_end (Answered asked answer) = asks_execution asked
is_end Dropped = true

-- The accepted parts since the last end.
abbrev pub prepared_in : List Said → List Entry
prepared_in [] = []
prepared_in (said ∷ earlier) = if is_end said then [] else prepared_in earlier ++ part_by said

-- The connection matches its transcript.
pub record Follows (conn : Bearer) (all : List Said) : Type 0 where
  pub mtu : conn.mtu ≡ mtu_in conn.rx_mtu all
  pub exchanged : conn.exchanged ≡ is_some (first_exchange all)
  pub queue : conn.queue ≡ prepared_in all

-- A PDU with the table and row of that moment, a new security state, or a cleared queue.
pub data BearerAct : Type 0 where
  Sends : (table : Contents) (row : Row) (pdu : Octets) → BearerAct
  Stands : (standing : Standing) → BearerAct
  Cancels : BearerAct

abbrev pub after_act : Bearer → BearerAct → Bearer
after_act conn (Sends table row pdu) = conn_after table.attributes conn (request_of pdu conn.mtu)
after_act conn (Stands standing) = record conn { standing = standing }
after_act conn Cancels = record conn { queue = [] }

abbrev pub said_by : Bearer → BearerAct → List Said
said_by conn (Sends table row pdu) =
    let asked = request_of pdu conn.mtu in Answered asked (answer_to table row conn asked) ∷ []
said_by conn (Stands standing) = []
said_by conn Cancels = Dropped ∷ []

-- The connection after a list of events, newest first.
abbrev pub after_acts : Bearer → List BearerAct → Bearer
after_acts conn [] = conn
after_acts conn (act ∷ earlier) = after_act (after_acts conn earlier) act

abbrev pub said_in : Bearer → List BearerAct → List Said
said_in conn [] = []
said_in conn (act ∷ earlier) = said_by (after_acts conn earlier) act ++ said_in conn earlier

-- Whatever happens to a connection and the table, the connection matches its transcript.
abbrev pub TranscriptTells : Type 0
TranscriptTells = (rx_mtu : Mtu) (acts : List BearerAct) →
    Follows (after_acts (new_connection rx_mtu) acts) (said_in (new_connection rx_mtu) acts)
