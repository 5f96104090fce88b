-- State machines in which connections share what each has by itself, and the laws of the promise that each breaks.
use Rattle.std.proofs.Common.{◌≡◌, ℕ, ◌+◌, ◌-◌, ◌==◌, if◌then◌else◌, List, [], ◌∷◌, length, Option, Some, None, refl, sym, ap, ◌∙◌}
use Rattle.std.specs.Prelude.{min, sum_by}
use Rattle.std.specs.Option.{option_map_or}
use Rattle.att_pdu.specs.Form.{form_of}
use Rattle.att_reads.specs.Answer.{value_answer}
use Rattle.gatt_conn.specs.Transcript.{prepared_in}
use Rattle.gatt_laws.proofs.examples.Tables.{phone}
use Rattle.gatt_laws.specs.laws.View.{Happens, shown}
use Rattle.gatt_laws.specs.machine.Controller.{commands_due}
use Rattle.gatt_laws.specs.machine.Event.{Ordinal, Own, Event, Asks, Of}
use Rattle.gatt_laws.specs.machine.Heard.{after_hearing}
use Rattle.gatt_laws.specs.machine.ConnectionState.{fresh_connection, prepared_of}
use Rattle.gatt_laws.specs.machine.SharedState.{fragment_size_of}
use Rattle.gatt_laws.specs.machine.State.{State, before_commands, change_of}
use Rattle.gatt_laws.specs.machine.Effect.{live_effect}
use Rattle.gatt_theorems.proofs.examples.Laws.{DoesTheSameToWhoSeesTheSameBy, IsKnownBy, LeavesOthersPreparedBy, Machine, Share, giving, packets_by, step_of}
use Rattle.gatt_theorems.proofs.examples.Refusals.{two}
use Rattle.le_acl.specs.Packets.{Pdu, pieces, total}
use Rattle.le_hci.specs.declared.buffers.Buffers.{Buffers}

-- One queue of prepared writes for all connections: what one of them sends counts as sent by each.
one_queue : Machine
one_queue state (Of ordinal own) =
    let new = before_commands state (Of ordinal own) in
    record new { connections = λ other. record (new.connections other) { said = (new.connections ordinal).said } }
one_queue state event = before_commands state event

prepares : Own
prepares = Asks (0x16 ∷ 0x15 ∷ 0x00 ∷ 0x00 ∷ 0x00 ∷ 0x41 ∷ [])

others_prepared : prepared_of ((step_of one_queue two (Of 0 prepares)).connections 1) ≡ record { handle = 21; offset = 0; part = 0x41 ∷ [] } ∷ []
unfolding one_queue prepares change_of live_effect after_hearing commands_due form_of
others_prepared = refl

one_queue_breaks_leaves_prepared : LeavesOthersPreparedBy one_queue → ⊥
one_queue_breaks_leaves_prepared leaves = cc (sym others_prepared ∙ ap prepared_in (leaves two 0 1 prepares refl))

-- One pool of credit: a connection may have every packet of the controller that no other connection has.
abbrev held_by : State → Ordinal → Option Ordinal → ℕ
held_by state ordinal None = 0
held_by state ordinal (Some other) = if other == ordinal then 0 else (state.connections other).given - (state.connections other).done

abbrev from_a_pool : Share
from_a_pool state ordinal =
    let connection = state.connections ordinal in
    min (total (fragment_size_of state.shared.buffers) connection.pdus)
    (connection.done + (option_map_or (λ (buffers : Buffers). buffers.packets) state.shared.buffers 0 - sum_by (held_by state ordinal) state.slots))

-- a controller that takes two packets, and another connection that has these PDUs of one packet each there
abbrev buffers : Buffers
buffers = record { length = 27; packets = 2 }

abbrev holding : List Pdu → State
holding pdus = record two {
  shared = record two.shared { buffers = Some buffers };
  connections =
      λ ordinal. record (fresh_connection ordinal phone) { pdus = if ordinal == 1 then pdus else []; given = if ordinal == 1 then length pdus else 0 };
}

abbrev write_response : Pdu
write_response = (4, 0x13 ∷ [])

abbrev none_held : State
none_held = holding []

abbrev both_held : State
both_held = holding (write_response ∷ write_response ∷ [])

abbrev reads : Event
reads = Of 0 (Asks (0x0A ∷ 0x03 ∷ 0x00 ∷ []))

known_none : IsKnownBy from_a_pool (Some buffers) phone 0 none_held
known_none = record { peers = λ there. refl; told = λ there. refl; absent = λ is. cc is; released = λ free. refl; given = λ live. refl }

known_both : IsKnownBy from_a_pool (Some buffers) phone 0 both_held
known_both = record { peers = λ there. refl; told = λ there. refl; absent = λ is. cc is; released = λ free. refl; given = λ live. refl }

known_none_then : IsKnownBy from_a_pool (Some buffers) phone 0 (step_of (giving from_a_pool) none_held reads)
unfolding change_of live_effect after_hearing commands_due form_of value_answer pieces
known_none_then = record { peers = λ there. refl; told = λ there. refl; absent = λ is. cc is; released = λ free. refl; given = λ live. refl }

known_both_then : IsKnownBy from_a_pool (Some buffers) phone 0 (step_of (giving from_a_pool) both_held reads)
unfolding change_of live_effect after_hearing commands_due form_of value_answer pieces
known_both_then = record { peers = λ there. refl; told = λ there. refl; absent = λ is. cc is; released = λ free. refl; given = λ live. refl }

pool_differs : packets_by (giving from_a_pool) 0 none_held reads ≡ packets_by (giving from_a_pool) 0 both_held reads → ⊥
unfolding change_of live_effect after_hearing commands_due form_of value_answer pieces
pool_differs is = cc is

pool_breaks_sees_the_same : DoesTheSameToWhoSeesTheSameBy from_a_pool → ⊥
unfolding shown
pool_breaks_sees_the_same does =
    pool_differs (does (Some buffers) phone 0 0 none_held both_held reads reads (Happens (Asks (0x0A ∷ 0x03 ∷ 0x00 ∷ [])))
    known_none known_none_then known_both known_both_then refl refl refl).packets
