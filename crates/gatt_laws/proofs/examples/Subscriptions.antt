-- Who hears of a value, and when.
use Rattle.std.specs.Prelude.{◌≡◌, refl, ℕ, List, [], ◌∷◌, ◌++◌, replicate, Option, Some, None}
use Rattle.std.specs.List.{flat_map}
use Rattle.gatt_laws.proofs.examples.Runs.{stream, connected, disconnected, encrypted_with, completed, command_complete, asks, asks_on, told, update, end_connection, tick, sent_to, enable, disconnect}
use Rattle.gatt_laws.proofs.examples.Tables.{door, bell, phone, tablet, owner, tablet_key}
use Rattle.gatt_laws.specs.machine.Controller.{commands_due}
use Rattle.gatt_laws.specs.machine.Heard.{after_hearing}
use Rattle.gatt_laws.specs.machine.Input.{run, after_item}
use Rattle.gatt_laws.specs.machine.Packets.{packet_event}
use Rattle.gatt_laws.specs.machine.State.{step, change_of, out}
use Rattle.gatt_laws.specs.machine.Effect.{live_effect}
use Rattle.le_acl.specs.Frame.{frame_at}
use Rattle.le_acl.specs.Packets.{pieces}
use Rattle.att_pdu.specs.Form.{form_of}
use Rattle.att_writes.specs.Applied.{after_entries}
use Rattle.att_reads.specs.Answer.{value_answer}

-- a bonded owner hears of a value only while its link is encrypted, and its configuration lasts
bonded : sent_to door 2 4 owner
    (stream (command_complete 0x200A) ++ stream (asks_on (0x12 ∷ 0x0B ∷ 0x00 ∷ 0x01 ∷ 0x00 ∷ [])) ++ stream (encrypted_with 0x02)
    ++ stream (asks_on (0x12 ∷ 0x0B ∷ 0x00 ∷ 0x01 ∷ 0x00 ∷ [])) ++ update 10 (0x01 ∷ []) ++ stream (completed 1) ++ stream disconnected
    ++ stream (command_complete 0x200A) ++ stream (connected owner) ++ stream (command_complete 0x200A) ++ update 10 (0x02 ∷ []) ++ stream (encrypted_with 0x02)
    ++ update 10 (0x03 ∷ []))
    ≡ enable ∷ told (0x01 ∷ 0x12 ∷ 0x0B ∷ 0x00 ∷ 0x0F ∷ []) ∷ (0x01 ∷ 0x1A ∷ 0x20 ∷ 0x12 ∷ 0x40 ∷ 0x00 ∷ Rattle.std.specs.Prelude.reverse tablet_key)
    ∷ told (0x13 ∷ []) ∷ told (0x1B ∷ 0x0A ∷ 0x00 ∷ 0x01 ∷ []) ∷ enable
    ∷ (0x01 ∷ 0x1A ∷ 0x20 ∷ 0x12 ∷ 0x40 ∷ 0x00 ∷ Rattle.std.specs.Prelude.reverse tablet_key) ∷ told (0x1B ∷ 0x0A ∷ 0x00 ∷ 0x03 ∷ []) ∷ []
unfolding run after_item packet_event step change_of live_effect after_hearing commands_due out frame_at form_of pieces after_entries value_answer
bonded = refl

-- what is configured without encryption is of the connection alone, and not of the bond
own_row : sent_to door 2 4 tablet
    (stream (command_complete 0x200A) ++ stream (asks_on (0x12 ∷ 0x07 ∷ 0x00 ∷ 0x01 ∷ 0x00 ∷ [])) ++ update 6 (0x41 ∷ []) ++ stream (completed 1)
    ++ stream (encrypted_with 0x01) ++ update 6 (0x42 ∷ []) ++ stream (asks_on (0x0A ∷ 0x07 ∷ 0x00 ∷ [])))
    ≡ enable ∷ told (0x13 ∷ []) ∷ told (0x1B ∷ 0x06 ∷ 0x00 ∷ 0x41 ∷ []) ∷ (0x01 ∷ 0x1A ∷ 0x20 ∷ 0x12 ∷ 0x40 ∷ 0x00 ∷ tablet_key)
    ∷ told (0x0B ∷ 0x00 ∷ 0x00 ∷ []) ∷ []
unfolding run after_item packet_event step change_of live_effect after_hearing commands_due out frame_at form_of pieces after_entries value_answer
own_row = refl

-- a connection that the application ends hears of nothing more, and nothing that waited for it goes out
ended : sent_to door 2 4 phone
    (stream (command_complete 0x200A) ++ stream (asks_on (0x12 ∷ 0x07 ∷ 0x00 ∷ 0x01 ∷ 0x00 ∷ [])) ++ update 6 (0x01 ∷ []) ++ update 6 (0x02 ∷ [])
    ++ update 6 (0x03 ∷ []) ++ end_connection ++ update 6 (0x04 ∷ []) ++ stream (completed 2))
    ≡ enable ∷ told (0x13 ∷ []) ∷ told (0x1B ∷ 0x06 ∷ 0x00 ∷ 0x01 ∷ []) ∷ told (0x1B ∷ 0x06 ∷ 0x00 ∷ 0x02 ∷ []) ∷ disconnect 0x13 ∷ []
unfolding run after_item packet_event step change_of live_effect after_hearing commands_due out frame_at form_of pieces after_entries value_answer
ended = refl

-- one indication at a time, with the value of its indication; one that is not confirmed for 30 seconds is the last, and requests are still answered
indications : sent_to bell 2 4 phone
    (stream (asks_on (0x12 ∷ 0x04 ∷ 0x00 ∷ 0x03 ∷ 0x00 ∷ [])) ++ update 3 (0x01 ∷ []) ++ stream (completed 1) ++ update 3 (0x02 ∷ []) ++ update 3 (0x03 ∷ [])
    ++ stream (asks (0x1E ∷ [])) ++ stream (completed 1) ++ tick 29999 ++ tick 30000 ++ update 3 (0x04 ∷ []) ++ stream (asks_on (0x0A ∷ 0x03 ∷ 0x00 ∷ [])))
    ≡ enable ∷ told (0x13 ∷ []) ∷ told (0x1D ∷ 0x03 ∷ 0x00 ∷ 0x01 ∷ []) ∷ told (0x1D ∷ 0x03 ∷ 0x00 ∷ 0x03 ∷ []) ∷ told (0x0B ∷ 0x04 ∷ []) ∷ []
unfolding run after_item packet_event step change_of live_effect after_hearing commands_due out frame_at form_of pieces after_entries value_answer
indications = refl
