-- Authorization up to a moment.
use Rattle.std.specs.Prelude.{◌≡◌, refl, [], ◌∷◌, ◌++◌}
use Rattle.gatt_laws.proofs.examples.Runs.{stream, completed, asks, asks_on, told, update, authorize, tick, sent_to, enable}
use Rattle.gatt_laws.proofs.examples.Tables.{post, phone}
use Rattle.gatt_laws.specs.machine.Controller.{commands_due}
use Rattle.gatt_laws.specs.machine.Heard.{after_hearing}
use Rattle.gatt_laws.specs.machine.Input.{run, after_item}
use Rattle.gatt_laws.specs.machine.Packets.{packet_event}
use Rattle.gatt_laws.specs.machine.State.{step, change_of, out}
use Rattle.gatt_laws.specs.machine.Effect.{live_effect}
use Rattle.le_acl.specs.Frame.{frame_at}
use Rattle.le_acl.specs.Packets.{pieces}
use Rattle.att_pdu.specs.Form.{form_of}
use Rattle.att_writes.specs.Applied.{after_entries}
use Rattle.att_reads.specs.Answer.{value_answer}

-- a value that needs authorization is read before the moment, and not at it
until_a_moment : sent_to post 2 4 phone
    (authorize 1000 ++ stream (asks_on (0x0A ∷ 0x03 ∷ 0x00 ∷ [])) ++ tick 999 ++ stream (asks_on (0x0A ∷ 0x03 ∷ 0x00 ∷ [])) ++ tick 1000
    ++ stream (asks_on (0x0A ∷ 0x03 ∷ 0x00 ∷ [])) ++ authorize 1000 ++ stream (asks_on (0x0A ∷ 0x03 ∷ 0x00 ∷ [])))
    ≡ enable ∷ told (0x0B ∷ 0x00 ∷ []) ∷ told (0x0B ∷ 0x00 ∷ []) ∷ told (0x01 ∷ 0x0A ∷ 0x03 ∷ 0x00 ∷ 0x08 ∷ []) ∷ told (0x01 ∷ 0x0A ∷ 0x03 ∷ 0x00 ∷ 0x08 ∷ [])
    ∷ []
unfolding run after_item packet_event step change_of live_effect after_hearing commands_due out frame_at form_of pieces after_entries value_answer
until_a_moment = refl

-- and heard of before it; what waits then is not told any more
heard_until : sent_to post 2 4 phone
    (authorize 1000 ++ stream (asks_on (0x12 ∷ 0x04 ∷ 0x00 ∷ 0x02 ∷ 0x00 ∷ [])) ++ update 3 (0x01 ∷ []) ++ stream (completed 1) ++ update 3 (0x02 ∷ [])
    ++ tick 1000 ++ stream (asks (0x1E ∷ [])) ++ authorize 2000 ++ update 3 (0x03 ∷ []))
    ≡ enable ∷ told (0x13 ∷ []) ∷ told (0x1D ∷ 0x03 ∷ 0x00 ∷ 0x01 ∷ []) ∷ told (0x1D ∷ 0x03 ∷ 0x00 ∷ 0x03 ∷ []) ∷ []
unfolding run after_item packet_event step change_of live_effect after_hearing commands_due out frame_at form_of pieces after_entries value_answer
heard_until = refl

-- a withdrawn authorization ends what is heard, and a new one begins it
withdrawn : sent_to post 2 4 phone
    (authorize 18446744073709551615 ++ stream (asks_on (0x12 ∷ 0x04 ∷ 0x00 ∷ 0x01 ∷ 0x00 ∷ [])) ++ update 3 (0x01 ∷ []) ++ stream (completed 1) ++ authorize 0
    ++ update 3 (0x02 ∷ []) ++ authorize 18446744073709551615 ++ update 3 (0x03 ∷ []))
    ≡ enable ∷ told (0x13 ∷ []) ∷ told (0x1B ∷ 0x03 ∷ 0x00 ∷ 0x01 ∷ []) ∷ told (0x1B ∷ 0x03 ∷ 0x00 ∷ 0x03 ∷ []) ∷ []
unfolding run after_item packet_event step change_of live_effect after_hearing commands_due out frame_at form_of pieces after_entries value_answer
withdrawn = refl
