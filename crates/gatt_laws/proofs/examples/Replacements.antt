-- A table is replaced while connections and bonds stand.
use Rattle.std.specs.Prelude.{◌≡◌, refl, [], ◌∷◌, ◌++◌}
use Rattle.gatt_laws.proofs.examples.Runs.{stream, connected, disconnected, encrypted_with, completed, command_complete, asks, asks_on, told, update, sent_to, enable}
use Rattle.gatt_laws.proofs.examples.Tables.{door, porch, new_porch, phone, tablet, tablet_key}
use Rattle.gatt_laws.specs.machine.Controller.{commands_due}
use Rattle.gatt_laws.specs.machine.Heard.{after_hearing}
use Rattle.gatt_laws.specs.machine.Input.{ATable, run, after_item}
use Rattle.gatt_laws.specs.machine.Packets.{packet_event}
use Rattle.gatt_laws.specs.machine.State.{step, change_of, out}
use Rattle.gatt_laws.specs.machine.Effect.{live_effect}
use Rattle.le_acl.specs.Frame.{frame_at}
use Rattle.le_acl.specs.Packets.{pieces}
use Rattle.att_pdu.specs.Form.{form_of}
use Rattle.att_writes.specs.Applied.{after_entries}
use Rattle.att_reads.specs.Answer.{value_answer}

-- a connection is told; what it prepared is dropped, and so is its configuration of a value that is of another type now
replaced : sent_to porch 2 4 phone
    (stream (asks_on (0x12 ∷ 0x04 ∷ 0x00 ∷ 0x02 ∷ 0x00 ∷ [])) ++ stream (asks_on (0x12 ∷ 0x08 ∷ 0x00 ∷ 0x01 ∷ 0x00 ∷ [])) ++ update 7 (0x01 ∷ [])
    ++ stream (completed 1) ++ stream (asks_on (0x16 ∷ 0x0A ∷ 0x00 ∷ 0x00 ∷ 0x00 ∷ 0x61 ∷ [])) ++ (ATable new_porch ∷ []) ++ stream (completed 1)
    ++ stream (asks (0x1E ∷ [])) ++ stream (asks_on (0x18 ∷ 0x01 ∷ [])) ++ stream (asks_on (0x0A ∷ 0x0A ∷ 0x00 ∷ [])) ++ update 7 (0x02 ∷ [])
    ++ stream (asks_on (0x0A ∷ 0x08 ∷ 0x00 ∷ [])) ++ stream (asks_on (0x0A ∷ 0x04 ∷ 0x00 ∷ [])))
    ≡ enable ∷ told (0x13 ∷ []) ∷ told (0x13 ∷ []) ∷ told (0x1B ∷ 0x07 ∷ 0x00 ∷ 0x01 ∷ []) ∷ told (0x17 ∷ 0x0A ∷ 0x00 ∷ 0x00 ∷ 0x00 ∷ 0x61 ∷ [])
    ∷ told (0x1D ∷ 0x03 ∷ 0x00 ∷ 0x01 ∷ 0x00 ∷ 0xFF ∷ 0xFF ∷ []) ∷ told (0x19 ∷ []) ∷ told (0x0B ∷ []) ∷ told (0x0B ∷ 0x00 ∷ 0x00 ∷ [])
    ∷ told (0x0B ∷ 0x02 ∷ 0x00 ∷ []) ∷ []
unfolding run after_item packet_event step change_of live_effect after_hearing commands_due out frame_at form_of pieces after_entries value_answer
replaced = refl

-- a bonded peer that was away is told once its link is encrypted, at each return until it confirms
owed : sent_to porch 2 4 tablet
    (stream (command_complete 0x200A) ++ stream (encrypted_with 0x01) ++ stream (asks_on (0x12 ∷ 0x04 ∷ 0x00 ∷ 0x02 ∷ 0x00 ∷ [])) ++ stream disconnected
    ++ (ATable new_porch ∷ []) ++ stream (connected tablet) ++ stream (command_complete 0x200A) ++ stream (encrypted_with 0x01) ++ stream (completed 1)
    ++ stream disconnected ++ stream (connected tablet) ++ stream (command_complete 0x200A) ++ stream (encrypted_with 0x01) ++ stream (completed 1)
    ++ stream (asks (0x1E ∷ [])) ++ stream disconnected ++ stream (connected tablet) ++ stream (command_complete 0x200A) ++ stream (encrypted_with 0x01))
    ≡ enable ∷ (0x01 ∷ 0x1A ∷ 0x20 ∷ 0x12 ∷ 0x40 ∷ 0x00 ∷ tablet_key) ∷ told (0x13 ∷ []) ∷ enable ∷ (0x01 ∷ 0x1A ∷ 0x20 ∷ 0x12 ∷ 0x40 ∷ 0x00 ∷ tablet_key)
    ∷ told (0x1D ∷ 0x03 ∷ 0x00 ∷ 0x01 ∷ 0x00 ∷ 0xFF ∷ 0xFF ∷ []) ∷ enable ∷ (0x01 ∷ 0x1A ∷ 0x20 ∷ 0x12 ∷ 0x40 ∷ 0x00 ∷ tablet_key)
    ∷ told (0x1D ∷ 0x03 ∷ 0x00 ∷ 0x01 ∷ 0x00 ∷ 0xFF ∷ 0xFF ∷ []) ∷ enable ∷ (0x01 ∷ 0x1A ∷ 0x20 ∷ 0x12 ∷ 0x40 ∷ 0x00 ∷ tablet_key) ∷ []
unfolding run after_item packet_event step change_of live_effect after_hearing commands_due out frame_at form_of pieces after_entries value_answer
owed = refl

-- a table without a value that tells of changes replaces none
refused : sent_to door 2 4 phone
    ((ATable porch ∷ []) ++ stream (asks_on (0x0A ∷ 0x03 ∷ 0x00 ∷ [])))
    ≡ enable ∷ told (0x0B ∷ 0x4C ∷ 0x6F ∷ 0x63 ∷ 0x6B ∷ []) ∷ []
unfolding run after_item packet_event step change_of live_effect after_hearing commands_due out frame_at form_of pieces after_entries value_answer
refused = refl
