-- Keys and encryption.
use Rattle.std.specs.Prelude.{◌≡◌, refl, [], ◌∷◌, ◌++◌}
use Rattle.gatt_laws.proofs.examples.Runs.{stream, key_asked, encryption, encrypted_with, completed, command_complete, asks, asks_on, told, sent_to, enable, disconnect}
use Rattle.gatt_laws.proofs.examples.Tables.{door, tablet, tablet_key}
use Rattle.gatt_laws.specs.machine.Controller.{commands_due}
use Rattle.gatt_laws.specs.machine.Heard.{after_hearing}
use Rattle.gatt_laws.specs.machine.Input.{run, after_item}
use Rattle.gatt_laws.specs.machine.Packets.{packet_event}
use Rattle.gatt_laws.specs.machine.State.{step, change_of, out}
use Rattle.gatt_laws.specs.machine.Effect.{live_effect}
use Rattle.le_acl.specs.Frame.{frame_at}
use Rattle.le_acl.specs.Packets.{pieces}
use Rattle.att_pdu.specs.Form.{form_of}
use Rattle.att_writes.specs.Applied.{after_entries}
use Rattle.att_reads.specs.Answer.{value_answer}

-- a request for a key is answered from the keys
key : sent_to door 2 4 tablet
    (stream (command_complete 0x200A) ++ stream (key_asked 0x01))
    ≡ enable ∷ (0x01 ∷ 0x1A ∷ 0x20 ∷ 0x12 ∷ 0x40 ∷ 0x00 ∷ tablet_key) ∷ []
unfolding run after_item packet_event step change_of live_effect after_hearing commands_due out frame_at form_of pieces after_entries value_answer
key = refl

-- one that names no key is answered that there is none, and the link then has none
no_key : sent_to door 2 4 tablet
    (stream (command_complete 0x200A) ++ stream (key_asked 0x03) ++ stream (command_complete 0x201B) ++ stream (encryption 0x01)
    ++ stream (asks_on (0x0A ∷ 0x0A ∷ 0x00 ∷ [])))
    ≡ enable ∷ (0x01 ∷ 0x1B ∷ 0x20 ∷ 0x02 ∷ 0x40 ∷ 0x00 ∷ []) ∷ told (0x01 ∷ 0x0A ∷ 0x0A ∷ 0x00 ∷ 0x0F ∷ []) ∷ []
unfolding run after_item packet_event step change_of live_effect after_hearing commands_due out frame_at form_of pieces after_entries value_answer
no_key = refl

-- an encrypted link reads what needs it
encrypted : sent_to door 2 4 tablet
    (stream (command_complete 0x200A) ++ stream (asks_on (0x0A ∷ 0x0A ∷ 0x00 ∷ [])) ++ stream (encrypted_with 0x01)
    ++ stream (asks_on (0x0A ∷ 0x0A ∷ 0x00 ∷ [])))
    ≡ enable ∷ told (0x01 ∷ 0x0A ∷ 0x0A ∷ 0x00 ∷ 0x0F ∷ []) ∷ (0x01 ∷ 0x1A ∷ 0x20 ∷ 0x12 ∷ 0x40 ∷ 0x00 ∷ tablet_key) ∷ told (0x0B ∷ 0x00 ∷ []) ∷ []
unfolding run after_item packet_event step change_of live_effect after_hearing commands_due out frame_at form_of pieces after_entries value_answer
encrypted = refl

-- where encryption is lost, nothing that is queued goes out, and the connection is ended
lost : sent_to door 4 4 tablet
    (stream (command_complete 0x200A) ++ stream (encrypted_with 0x01) ++ stream (asks (0x0A ∷ 0x03 ∷ 0x00 ∷ [])) ++ stream (asks (0x0A ∷ 0x03 ∷ 0x00 ∷ []))
    ++ stream (encryption 0x00) ++ stream (completed 1))
    ≡ enable ∷ (0x01 ∷ 0x1A ∷ 0x20 ∷ 0x12 ∷ 0x40 ∷ 0x00 ∷ tablet_key) ∷ told (0x0B ∷ 0x4C ∷ 0x6F ∷ 0x63 ∷ 0x6B ∷ []) ∷ disconnect 0x05 ∷ []
unfolding run after_item packet_event step change_of live_effect after_hearing commands_due out frame_at form_of pieces after_entries value_answer
lost = refl
