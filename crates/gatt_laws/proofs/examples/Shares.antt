-- How many packets of a connection go out, and what becomes of the others.
use Rattle.std.specs.Prelude.{◌≡◌, refl, [], ◌∷◌, ◌++◌, replicate}
use Rattle.std.specs.List.{flat_map}
use Rattle.gatt_laws.proofs.examples.Runs.{stream, completed, asks, asks_on, told, update, sent_to, enable, disconnect}
use Rattle.gatt_laws.proofs.examples.Tables.{door, phone}
use Rattle.gatt_laws.specs.machine.Controller.{commands_due}
use Rattle.gatt_laws.specs.machine.Heard.{after_hearing}
use Rattle.gatt_laws.specs.machine.Input.{run, after_item}
use Rattle.gatt_laws.specs.machine.Packets.{packet_event}
use Rattle.gatt_laws.specs.machine.State.{step, change_of, out}
use Rattle.gatt_laws.specs.machine.Effect.{live_effect}
use Rattle.le_acl.specs.Frame.{frame_at}
use Rattle.le_acl.specs.Packets.{pieces}
use Rattle.att_pdu.specs.Form.{form_of}
use Rattle.att_writes.specs.Applied.{after_entries}
use Rattle.att_reads.specs.Answer.{value_answer}

-- two slots and four packets: a share of two. Three notifications, the third after a packet is completed; more completions than packets count for those
two_of_three : sent_to door 2 4 phone
    (stream (asks_on (0x12 ∷ 0x07 ∷ 0x00 ∷ 0x01 ∷ 0x00 ∷ [])) ++ update 6 (0x01 ∷ []) ++ update 6 (0x02 ∷ []) ++ update 6 (0x03 ∷ []) ++ stream (completed 1)
    ++ stream (completed 9) ++ update 6 (0x04 ∷ []) ++ update 6 (0x05 ∷ []) ++ update 6 (0x06 ∷ []))
    ≡ enable ∷ told (0x13 ∷ []) ∷ told (0x1B ∷ 0x06 ∷ 0x00 ∷ 0x01 ∷ []) ∷ told (0x1B ∷ 0x06 ∷ 0x00 ∷ 0x02 ∷ []) ∷ told (0x1B ∷ 0x06 ∷ 0x00 ∷ 0x03 ∷ [])
    ∷ told (0x1B ∷ 0x06 ∷ 0x00 ∷ 0x04 ∷ []) ∷ told (0x1B ∷ 0x06 ∷ 0x00 ∷ 0x05 ∷ []) ∷ []
unfolding run after_item packet_event step change_of live_effect after_hearing commands_due out frame_at form_of pieces after_entries value_answer
two_of_three = refl

-- with none completed two go out and eight are queued, and the eleventh is skipped
eight_queued : sent_to door 2 4 phone
    (stream (asks_on (0x12 ∷ 0x07 ∷ 0x00 ∷ 0x01 ∷ 0x00 ∷ [])) ++ update 6 (0x01 ∷ []) ++ update 6 (0x02 ∷ []) ++ update 6 (0x03 ∷ []) ++ update 6 (0x04 ∷ [])
    ++ update 6 (0x05 ∷ []) ++ update 6 (0x06 ∷ []) ++ update 6 (0x07 ∷ []) ++ update 6 (0x08 ∷ []) ++ update 6 (0x09 ∷ []) ++ update 6 (0x0A ∷ [])
    ++ update 6 (0x0B ∷ []) ++ stream (completed 2) ++ stream (completed 2) ++ stream (completed 2) ++ stream (completed 2) ++ stream (completed 2))
    ≡ enable ∷ told (0x13 ∷ []) ∷ told (0x1B ∷ 0x06 ∷ 0x00 ∷ 0x01 ∷ []) ∷ told (0x1B ∷ 0x06 ∷ 0x00 ∷ 0x02 ∷ []) ∷ told (0x1B ∷ 0x06 ∷ 0x00 ∷ 0x03 ∷ [])
    ∷ told (0x1B ∷ 0x06 ∷ 0x00 ∷ 0x04 ∷ []) ∷ told (0x1B ∷ 0x06 ∷ 0x00 ∷ 0x05 ∷ []) ∷ told (0x1B ∷ 0x06 ∷ 0x00 ∷ 0x06 ∷ [])
    ∷ told (0x1B ∷ 0x06 ∷ 0x00 ∷ 0x07 ∷ []) ∷ told (0x1B ∷ 0x06 ∷ 0x00 ∷ 0x08 ∷ []) ∷ told (0x1B ∷ 0x06 ∷ 0x00 ∷ 0x09 ∷ [])
    ∷ told (0x1B ∷ 0x06 ∷ 0x00 ∷ 0x0A ∷ []) ∷ []
unfolding run after_item packet_event step change_of live_effect after_hearing commands_due out frame_at form_of pieces after_entries value_answer
eight_queued = refl

-- one slot and one packet: the first answer goes out and sixteen are queued; where there is no room for the next, the connection is ended
full : sent_to door 1 1 phone
    (flat_map (λ pdu. stream (asks pdu)) (replicate 18 (0x0A ∷ 0x03 ∷ 0x00 ∷ [])))
    ≡ told (0x0B ∷ 0x4C ∷ 0x6F ∷ 0x63 ∷ 0x6B ∷ []) ∷ disconnect 0x13 ∷ []
unfolding run after_item packet_event step change_of live_effect after_hearing commands_due out frame_at form_of pieces after_entries value_answer
full = refl
