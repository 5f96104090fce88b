-- Requests and their answers, in one packet and in several.
use Rattle.std.specs.Prelude.{◌≡◌, refl, [], ◌∷◌, ◌++◌}
use Rattle.gatt_laws.proofs.examples.Runs.{stream, completed, asks_on, told, sent_to, enable}
use Rattle.gatt_laws.proofs.examples.Tables.{door, phone}
use Rattle.gatt_laws.specs.machine.Controller.{commands_due}
use Rattle.gatt_laws.specs.machine.Heard.{after_hearing}
use Rattle.gatt_laws.specs.machine.Input.{run, after_item}
use Rattle.gatt_laws.specs.machine.Packets.{packet_event}
use Rattle.gatt_laws.specs.machine.State.{step, change_of, out}
use Rattle.gatt_laws.specs.machine.Effect.{live_effect}
use Rattle.le_acl.specs.Frame.{frame_at}
use Rattle.le_acl.specs.Packets.{pieces}
use Rattle.att_pdu.specs.Form.{form_of}
use Rattle.att_writes.specs.Applied.{after_entries}
use Rattle.att_reads.specs.Answer.{value_answer}

-- a Read Request is answered
read : sent_to door 2 4 phone
    (stream (asks_on (0x0A ∷ 0x03 ∷ 0x00 ∷ [])))
    ≡ enable ∷ told (0x0B ∷ 0x4C ∷ 0x6F ∷ 0x63 ∷ 0x6B ∷ []) ∷ []
unfolding run after_item packet_event step change_of live_effect after_hearing commands_due out frame_at form_of pieces after_entries value_answer
read = refl

-- one that comes in three fragments
read_in_three : sent_to door 2 4 phone
    (stream (0x02 ∷ 0x40 ∷ 0x20 ∷ 0x01 ∷ 0x00 ∷ 0x03 ∷ []) ++ stream (0x02 ∷ 0x40 ∷ 0x10 ∷ 0x03 ∷ 0x00 ∷ 0x00 ∷ 0x04 ∷ 0x00 ∷ [])
    ++ stream (0x02 ∷ 0x40 ∷ 0x10 ∷ 0x03 ∷ 0x00 ∷ 0x0A ∷ 0x03 ∷ 0x00 ∷ []))
    ≡ enable ∷ told (0x0B ∷ 0x4C ∷ 0x6F ∷ 0x63 ∷ 0x6B ∷ []) ∷ []
unfolding run after_item packet_event step change_of live_effect after_hearing commands_due out frame_at form_of pieces after_entries value_answer
read_in_three = refl

-- a new beginning drops what is unfinished
begun_again : sent_to door 2 4 phone
    (stream (0x02 ∷ 0x40 ∷ 0x20 ∷ 0x01 ∷ 0x00 ∷ 0x03 ∷ []) ++ stream (0x02 ∷ 0x40 ∷ 0x10 ∷ 0x03 ∷ 0x00 ∷ 0x00 ∷ 0x04 ∷ 0x00 ∷ [])
    ++ stream (0x02 ∷ 0x40 ∷ 0x20 ∷ 0x01 ∷ 0x00 ∷ 0x03 ∷ []) ++ stream (0x02 ∷ 0x40 ∷ 0x10 ∷ 0x03 ∷ 0x00 ∷ 0x00 ∷ 0x04 ∷ 0x00 ∷ [])
    ++ stream (0x02 ∷ 0x40 ∷ 0x10 ∷ 0x03 ∷ 0x00 ∷ 0x0A ∷ 0x03 ∷ 0x00 ∷ []))
    ≡ enable ∷ told (0x0B ∷ 0x4C ∷ 0x6F ∷ 0x63 ∷ 0x6B ∷ []) ∷ []
unfolding run after_item packet_event step change_of live_effect after_hearing commands_due out frame_at form_of pieces after_entries value_answer
begun_again = refl

-- a continuation of nothing is ignored
not_begun : sent_to door 2 4 phone
    (stream (0x02 ∷ 0x40 ∷ 0x10 ∷ 0x07 ∷ 0x00 ∷ 0x03 ∷ 0x00 ∷ 0x04 ∷ 0x00 ∷ 0x0A ∷ 0x03 ∷ 0x00 ∷ []))
    ≡ enable ∷ []
unfolding run after_item packet_event step change_of live_effect after_hearing commands_due out frame_at form_of pieces after_entries value_answer
not_begun = refl

-- what is sent on the channels of signalling and pairing is rejected
other_channels : sent_to door 2 4 phone
    (stream (0x02 ∷ 0x40 ∷ 0x20 ∷ 0x0B ∷ 0x00 ∷ 0x07 ∷ 0x00 ∷ 0x06 ∷ 0x00 ∷ 0x01 ∷ 0x03 ∷ 0x00 ∷ 0x01 ∷ 0x10 ∷ 0x00 ∷ 0x00 ∷ []) ++ stream (completed 1)
    ++ stream (0x02 ∷ 0x40 ∷ 0x20 ∷ 0x10 ∷ 0x00 ∷ 0x0C ∷ 0x00 ∷ 0x05 ∷ 0x00 ∷ 0x12 ∷ 0x09 ∷ 0x08 ∷ 0x00 ∷ 0x00 ∷ 0x00 ∷ 0x00 ∷ 0x00 ∷ 0x00 ∷ 0x00 ∷ 0x00 ∷ 0x00
    ∷ []))
    ≡ enable ∷ (0x02 ∷ 0x40 ∷ 0x00 ∷ 0x06 ∷ 0x00 ∷ 0x02 ∷ 0x00 ∷ 0x06 ∷ 0x00 ∷ 0x05 ∷ 0x05 ∷ [])
    ∷ (0x02 ∷ 0x40 ∷ 0x00 ∷ 0x0A ∷ 0x00 ∷ 0x06 ∷ 0x00 ∷ 0x05 ∷ 0x00 ∷ 0x01 ∷ 0x09 ∷ 0x02 ∷ 0x00 ∷ 0x00 ∷ 0x00 ∷ []) ∷ []
unfolding run after_item packet_event step change_of live_effect after_hearing commands_due out frame_at form_of pieces after_entries value_answer
other_channels = refl
