-- The history of saving and sending, which this profile defines.
use Rattle.std.specs.Prelude.{◌≡◌, List, [], ◌∷◌, ◌++◌, Option}
use Rattle.octet_io.specs.Number.{Octets}
use Rattle.device_loop.specs.declared.outside.Saving.{Saving}
use Rattle.device_loop.specs.declared.outside.Saving.TheVariants as saving
use Rattle.device_loop.specs.declared.outside.Sending.{Sending}
use Rattle.device_loop.specs.declared.outside.Sending.TheVariants as sending
use Rattle.device_loop.specs.Happenings.{HistoryEntry, Saved, Unsaved, SavedState, Sent, Unsent, Broken, Records}
use Rattle.device_loop.specs.Withholding.{without_data_for}

abbrev pub saving_entry : Saving → SavedState → HistoryEntry
saving_entry saving.Saved state = Saved state
saving_entry (saving.Unsaved connections) state = Unsaved state connections.items

-- The waiting octets without the data for connections with unsaved changes.
abbrev pub octets_to_send : Saving → Octets → Octets
octets_to_send saving.Saved octets = octets
octets_to_send (saving.Unsaved connections) octets = without_data_for connections.items octets

abbrev pub sent_entries : Octets → List HistoryEntry
sent_entries [] = []
sent_entries (octet ∷ octets) = Sent (octet ∷ octets) ∷ []

-- A prefix of these octets was sent before a failure, and nothing else.
pub record SendsAFront (octets : Octets) (before after : Option (List HistoryEntry)) : Type 0 where
  pub sent : Octets
  pub left : Octets
  pub parts : octets ≡ sent ++ left
  pub records : Records (sent_entries sent ++ Broken left ∷ []) before after

abbrev pub Sends : Sending → Octets → Option (List HistoryEntry) → Option (List HistoryEntry)
    → Type 0
Sends sending.Done octets before after = Records (sent_entries octets) before after
Sends sending.Waits octets before after = Records (Unsent octets ∷ []) before after
Sends sending.Failed octets before after = SendsAFront octets before after

-- The octets that still wait after sending.
abbrev pub waits_after : Sending → Octets → Octets
waits_after sending.Done octets = []
waits_after sending.Waits octets = octets
waits_after sending.Failed octets = octets
