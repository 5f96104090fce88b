-- The entries of a history that a note adds (this profile's own).
use Rattle.std.specs.Prelude.{List, [], ◌∷◌}
use Rattle.octet_io.specs.Number.{Octets}
use Rattle.device_loop.specs.declared.outside.Sending.{Sending}
use Rattle.device_loop.specs.declared.outside.Sending.TheVariants as sending
use Rattle.device_loop.specs.Happenings.{HistoryEntry, Waited, Answered, Unsent, Broken, Told, next_entry, saved_state}
use Rattle.device_loop.specs.Outside.{saving_entry, sent_entries}
use Rattle.gatt_host.specs.Asked.{refusal_in_result}
use Rattle.device_loop.specs.declared.history.Note.{Note}
use Rattle.device_loop.specs.declared.history.Note.TheVariants as note

abbrev pub entries_sent : Sending → Octets → List HistoryEntry
entries_sent sending.Done octets = sent_entries octets
entries_sent sending.Waits octets = Unsent octets ∷ []
entries_sent sending.Failed octets = Broken octets ∷ []

abbrev pub entries_of : Note → List HistoryEntry
entries_of (note.Waited deadline next) = Waited deadline ∷ next_entry next ∷ []
entries_of (note.Answered answer) = Answered (refusal_in_result answer) ∷ []
entries_of (note.Saved saving host) = saving_entry saving.now (saved_state host.now.server) ∷ []
entries_of note.Told = Told ∷ []
entries_of (note.Sent octets sending) = entries_sent sending octets.now
