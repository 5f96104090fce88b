-- Whatever is recorded of a turn, the state was saved right before the application was told, and nothing was sent that has to be withheld.
use Rattle.std.specs.Prelude.{◌||◌, IsSome}
use Rattle.std.proofs.Common.{◌≡◌, ℕ, Bool, true, false, List, [], ◌∷◌, ◌++◌, Option, Some, None, Result, Ok, Err, refl, sym, ap, subst, ◌∙◌, ◌⊎◌, inl, inr, append-nil, append_assoc}
use Rattle.std.proofs.lemmas.Bool.{false≢true, or_right}
use Rattle.device_loop.proofs.Happened.{records_none, records_then}
use Rattle.device_loop.proofs.Packets.{no_data_left}
use Rattle.device_loop.specs.declared.outside.Saving.{Saving}
use Rattle.device_loop.specs.declared.outside.Saving.TheVariants as saving
use Rattle.device_loop.specs.declared.outside.Sending.{Sending}
use Rattle.device_loop.specs.declared.outside.Sending.TheVariants as sending
use Rattle.device_loop.specs.declared.serving.End.{End}
use Rattle.device_loop.specs.declared.serving.End.TheVariants as end
use Rattle.device_loop.specs.declared.turn.Turn.{Turn}
use Rattle.device_loop.specs.Happenings.{DeviceInput, Came, Asked, HistoryEntry, Waited, Happened, Answered, Ended, Failed, Saved, Unsaved, SavedState, Sent, Unsent, Broken, Told, Records, items_in, input_items_of, saved_state}
use Rattle.device_loop.specs.Outside.{Sends, octets_to_send, saving_entry, sent_entries}
use Rattle.device_loop.specs.Serving.{Known, ServesDevice, all_entries, entries_recorded, entries_recorded_of, last_entries}
use Rattle.device_loop.specs.Turn.{AllowsSending, EndsSaved, EndsWithOutcome, IsOutcome, KeepsTheOrder, SavedFirst, StaysInOrder, TakesATurn}
use Rattle.gatt_host.specs.declared.host_fault.HostFault.{HostFault}
use Rattle.gatt_host.specs.HostModel.{RefinesRun, HostModel}
use Rattle.gatt_laws.specs.machine.Input.{Run, Item, after_items, run}
use Rattle.gatt_laws.specs.machine.Notice.{Received}
use Rattle.gatt_laws.specs.machine.Start.{Start}
use Rattle.octet_io.specs.Number.{Octets}

-- one place in two lists, one behind the other, is in the first or in the second
abbrev SplitsAt : List HistoryEntry → List HistoryEntry → List HistoryEntry → HistoryEntry → List HistoryEntry → Type 0
SplitsAt xs ys first entry rest =
    ((later : List HistoryEntry) × (xs ≡ first ++ entry ∷ later)) ⊎ ((between : List HistoryEntry) × (first ≡ xs ++ between) × (ys ≡ between ++ entry ∷ rest))

one_further : (x y : HistoryEntry) (xs ys first : List HistoryEntry) (entry : HistoryEntry) (rest : List HistoryEntry) → x ≡ y → SplitsAt xs ys first entry rest
    → SplitsAt (x ∷ xs) ys (y ∷ first) entry rest
one_further x y xs ys first entry rest same (inl found) = inl (found.0, λ i. same i ∷ found.1 i)
one_further x y xs ys first entry rest same (inr found) = inr (found.0, λ i. sym same i ∷ found.1 i, found.2)

splits_at : (xs ys first : List HistoryEntry) (entry : HistoryEntry) (rest : List HistoryEntry) → xs ++ ys ≡ first ++ entry ∷ rest
    → SplitsAt xs ys first entry rest
splits_at [] ys first entry rest is = inr (first, refl, is)
splits_at (x ∷ xs) ys [] entry rest is =
    let same : x ≡ entry = cc in
    inl (xs, λ i. same i ∷ xs)
splits_at (x ∷ xs) ys (y ∷ first) entry rest is =
    let same : x ≡ y = cc in
    let behind : xs ++ ys ≡ first ++ entry ∷ rest = cc in
    one_further x y xs ys first entry rest same (splits_at xs ys first entry rest behind)

-- whether the application was told, or octets were sent
abbrev is_settled : HistoryEntry → Bool
is_settled (Sent octets) = true
is_settled Told = true
is_settled (Waited deadline) = false
is_settled (Happened happening) = false
is_settled (Answered refusal) = false
is_settled Ended = false
is_settled Failed = false
is_settled (Saved state) = false
is_settled (Unsaved state connections) = false
is_settled (Unsent octets) = false
is_settled (Broken left) = false

abbrev has_settled : List HistoryEntry → Bool
has_settled [] = false
has_settled (entry ∷ entries) = is_settled entry || has_settled entries

settled_there : (first : List HistoryEntry) (entry : HistoryEntry) (rest : List HistoryEntry) → is_settled entry ≡ true
    → has_settled (first ++ entry ∷ rest) ≡ true
settled_there [] entry rest is = ap (λ (it : Bool). it || has_settled rest) is
settled_there (other ∷ first) entry rest is = or_right (is_settled other) _ (settled_there first entry rest is)

-- by what happens nobody is told, and nothing is sent
turn_unsettled : (at : Run) (happening : DeviceInput) (entries : List HistoryEntry) → has_settled entries ≡ false
    → has_settled (entries_recorded_of at happening ++ entries) ≡ false
turn_unsettled at (Came octets) entries none = none
turn_unsettled at (Asked call) entries none = none

turns_unsettled : (at : Run) (happened : List DeviceInput) (entries : List HistoryEntry) → has_settled entries ≡ false
    → has_settled (entries_recorded at happened ++ entries) ≡ false
turns_unsettled at [] entries none = none
turns_unsettled at (happening ∷ happened) entries none =
    let next : Run = after_items at (input_items_of happening) in
    subst (λ (all : List HistoryEntry). has_settled all ≡ false) (sym (append_assoc (entries_recorded_of at happening) (entries_recorded next happened) entries))
    (turn_unsettled at happening (entries_recorded next happened ++ entries) (turns_unsettled next happened entries none))

last_unsettled : (at : Run) (result : Result End HostFault) → has_settled (last_entries at result) ≡ false
last_unsettled at (Ok end.Ended) = refl
last_unsettled at (Ok end.Failed) = refl
last_unsettled at (Ok end.Turns) = refl
last_unsettled at (Err fault) = refl

all_unsettled : (at : Run) (happened : List DeviceInput) (result : Result End HostFault) → has_settled (all_entries at happened result) ≡ false
all_unsettled at happened result =
    turns_unsettled at happened (last_entries (after_items at (items_in happened)) result) (last_unsettled (after_items at (items_in happened)) result)

saving_unsettled : (saving : Saving) (state : SavedState) → is_settled (saving_entry saving state) ≡ false
saving_unsettled saving.Saved state = refl
saving_unsettled (saving.Unsaved connections) state = refl

outcome_of : (saving : Saving) (state : SavedState) → IsOutcome (saving_entry saving state)
outcome_of saving.Saved state = tt
outcome_of (saving.Unsaved connections) state = tt

never_there : (tail between : List HistoryEntry) (entry : HistoryEntry) (rest : List HistoryEntry) → is_settled entry ≡ true → has_settled tail ≡ false
    → tail ≡ between ++ entry ∷ rest → ⊥
never_there tail between entry rest settled none is = false≢true (sym none ∙ ap has_settled is ∙ settled_there between entry rest settled)

not_there : (one other : HistoryEntry) → is_settled one ≡ false → is_settled other ≡ true → one ≡ other → ⊥
not_there one other none settled is = false≢true (sym none ∙ ap is_settled is ∙ settled)

-- behind the outcome of saving the application was told once, and then octets were sent once, or not at all
told_behind : (saving : HistoryEntry) (sent : Octets) (tail between rest : List HistoryEntry) → is_settled saving ≡ false → has_settled tail ≡ false
    → saving ∷ Told ∷ (sent_entries sent ++ tail) ≡ between ++ Told ∷ rest → between ≡ saving ∷ []
told_behind saving sent tail [] rest none silent is =
    let same : saving ≡ Told = cc in
    absurd (not_there saving Told none refl same)
told_behind saving sent tail (entry ∷ []) rest none silent is =
    let same : saving ≡ entry = cc in
    λ i. sym same i ∷ []
told_behind saving [] tail (entry ∷ other ∷ between) rest none silent is =
    let behind : tail ≡ between ++ Told ∷ rest = cc in
    absurd (never_there tail between Told rest refl silent behind)
told_behind saving (octet ∷ sent) tail (entry ∷ other ∷ []) rest none silent is =
    let same : Sent (octet ∷ sent) ≡ Told = cc in
    absurd (cc same)
told_behind saving (octet ∷ sent) tail (entry ∷ other ∷ third ∷ between) rest none silent is =
    let behind : tail ≡ between ++ Told ∷ rest = cc in
    absurd (never_there tail between Told rest refl silent behind)

sent_behind : (saving : HistoryEntry) (sent : Octets) (tail between : List HistoryEntry) (octets : Octets) (rest : List HistoryEntry)
    → is_settled saving ≡ false → has_settled tail ≡ false
    → saving ∷ Told ∷ (sent_entries sent ++ tail) ≡ between ++ Sent octets ∷ rest → (between ≡ saving ∷ Told ∷ []) × (sent ≡ octets)
sent_behind saving sent tail [] octets rest none silent is =
    let same : saving ≡ Sent octets = cc in
    absurd (not_there saving (Sent octets) none refl same)
sent_behind saving sent tail (entry ∷ []) octets rest none silent is =
    let same : Told ≡ Sent octets = cc in
    absurd (cc same)
sent_behind saving [] tail (entry ∷ other ∷ between) octets rest none silent is =
    let behind : tail ≡ between ++ Sent octets ∷ rest = cc in
    absurd (never_there tail between (Sent octets) rest refl silent behind)
sent_behind saving (octet ∷ sent) tail (entry ∷ other ∷ []) octets rest none silent is =
    let first : saving ≡ entry = cc in
    let second : Told ≡ other = cc in
    let sends : octet ∷ sent ≡ octets = cc in
    (λ i. sym first i ∷ sym second i ∷ [], sends)
sent_behind saving (octet ∷ sent) tail (entry ∷ other ∷ third ∷ between) octets rest none silent is =
    let behind : tail ≡ between ++ Sent octets ∷ rest = cc in
    absurd (never_there tail between (Sent octets) rest refl silent behind)

module _ (before turn : List HistoryEntry) (saving : Saving) (state : SavedState) (sent : Octets) (tail : List HistoryEntry) (none : has_settled turn ≡ false)
    (silent : has_settled tail ≡ false) (allowed : AllowsSending (saving_entry saving state) sent) (order : SavedFirst before) where
  abbrev behind : List HistoryEntry
  behind = saving_entry saving state ∷ Told ∷ (sent_entries sent ++ tail)

  -- what begins behind all events of the turn
  begun : (first between found more : List HistoryEntry) → first ≡ before ++ between → between ≡ turn ++ found → found ≡ more → first ≡ (before ++ turn) ++ more
  begun first between found more at follows is =
      at
      ∙ ap (λ (it : List HistoryEntry). before ++ it) (follows ∙ ap (λ (it : List HistoryEntry). turn ++ it) is)
      ∙ sym (append_assoc before turn more)

  sent_in_turn : (first between rest : List HistoryEntry) (octets : Octets) → first ≡ before ++ between → SplitsAt turn behind between (Sent octets) rest
      → EndsSaved first octets
  sent_in_turn first between rest octets at (inl found) = absurd (never_there turn between (Sent octets) found.0 refl none found.1)
  sent_in_turn first between rest octets at (inr found) =
      let placed = sent_behind (saving_entry saving state) sent tail found.0 octets rest (saving_unsettled saving state) silent found.2 in
      record {
        earlier = before ++ turn;
        last = saving_entry saving state;
        parts = begun first between found.0 (saving_entry saving state ∷ Told ∷ []) at found.1 placed.0;
        allows = subst (AllowsSending (saving_entry saving state)) placed.1 allowed;
      }

  told_in_turn : (first between rest : List HistoryEntry) → first ≡ before ++ between → SplitsAt turn behind between Told rest → EndsWithOutcome first
  told_in_turn first between rest at (inl found) = absurd (never_there turn between Told found.0 refl none found.1)
  told_in_turn first between rest at (inr found) = record {
    earlier = before ++ turn;
    last = saving_entry saving state;
    parts = begun first between found.0 (saving_entry saving state ∷ []) at found.1
        (told_behind (saving_entry saving state) sent tail found.0 rest (saving_unsettled saving state) silent found.2);
    outcome = outcome_of saving state;
  }

  sent_in_all : (first rest : List HistoryEntry) (octets : Octets) → SplitsAt before (turn ++ behind) first (Sent octets) rest → EndsSaved first octets
  sent_in_all first rest octets (inl found) = order.sent first found.0 octets found.1
  sent_in_all first rest octets (inr found) =
      sent_in_turn first found.0 rest octets found.1 (splits_at turn behind found.0 (Sent octets) rest found.2)

  told_in_all : (first rest : List HistoryEntry) → SplitsAt before (turn ++ behind) first Told rest → EndsWithOutcome first
  told_in_all first rest (inl found) = order.told first found.0 found.1
  told_in_all first rest (inr found) = told_in_turn first found.0 rest found.1 (splits_at turn behind found.0 Told rest found.2)

  stays : SavedFirst (before ++ (turn ++ behind))
  stays = record {
    told = λ first rest is. told_in_all first rest (splits_at before (turn ++ behind) first Told rest is);
    sent = λ first rest octets is. sent_in_all first rest octets (splits_at before (turn ++ behind) first (Sent octets) rest is);
  }

stays_in_order : (turn : List HistoryEntry) (saving : Saving) (state : SavedState) (sent : Octets) (tail : List HistoryEntry)
    (before after : Option (List HistoryEntry))
    → has_settled turn ≡ false → has_settled tail ≡ false → AllowsSending (saving_entry saving state) sent
    → Records (turn ++ (saving_entry saving state ∷ Told ∷ (sent_entries sent ++ tail))) before after → KeepsTheOrder before after
stays_in_order turn saving state sent tail None after none silent allowed records = tt
stays_in_order turn saving state sent tail (Some before) None none silent allowed records = records
stays_in_order turn saving state sent tail (Some before) (Some after) none silent allowed records = λ order.
    subst SavedFirst (sym records) (stays before turn saving state sent tail none silent allowed order)

-- where nobody is told and nothing is sent, the order stays
sent_before : (before entries : List HistoryEntry) → has_settled entries ≡ false → SavedFirst before → (first rest : List HistoryEntry) (octets : Octets)
    → SplitsAt before entries first (Sent octets) rest → EndsSaved first octets
sent_before before entries none order first rest octets (inl found) = order.sent first found.0 octets found.1
sent_before before entries none order first rest octets (inr found) = absurd (never_there entries found.0 (Sent octets) rest refl none found.2)

told_before : (before entries : List HistoryEntry) → has_settled entries ≡ false → SavedFirst before → (first rest : List HistoryEntry)
    → SplitsAt before entries first Told rest → EndsWithOutcome first
told_before before entries none order first rest (inl found) = order.told first found.0 found.1
told_before before entries none order first rest (inr found) = absurd (never_there entries found.0 Told rest refl none found.2)

unsettled_in_order : (entries : List HistoryEntry) (before after : Option (List HistoryEntry)) → has_settled entries ≡ false → Records entries before after
    → KeepsTheOrder before after
unsettled_in_order entries None after none records = tt
unsettled_in_order entries (Some before) None none records = records
unsettled_in_order entries (Some before) (Some after) none records = λ order.
    subst SavedFirst (sym records) (record {
      told = λ first rest is. told_before before entries none order first rest (splits_at before entries first Told rest is);
      sent = λ first rest octets is. sent_before before entries none order first rest octets (splits_at before entries first (Sent octets) rest is);
    })

-- events keep the order, whether the host had stopped or not
events_in_order : (result : Result End HostFault) (turns : ℕ) (old new : HostModel) (come comes : Known) (before after : Option Octets)
    (heard hears : Option (List Received)) (start : Start) (input : List Item) (gone : List Octets)
    → RefinesRun (run start input) gone old → (old.fault ≡ None → ServesDevice result turns old new come comes before after heard hears)
    → (IsSome old.fault → comes.history ≡ come.history) → (found : Option HostFault) → old.fault ≡ found → KeepsTheOrder come.history comes.history
events_in_order result turns old new come comes before after heard hears start input gone is serves stopped None refines =
    let served = serves refines in
    unsettled_in_order (all_entries (run start input) served.happened result) come.history comes.history (all_unsettled (run start input) served.happened result)
    (served.records start input gone is)
events_in_order result turns old new come comes before after heard hears start input gone is serves stopped (Some fault) refines =
    unsettled_in_order [] come.history comes.history refl
    (subst (λ (it : Option (List HistoryEntry)). Records [] come.history it) (sym (stopped (subst IsSome (sym refines) refl))) (records_none come.history))

pub events_ordered : (result : Result End HostFault) (turns : ℕ) (old new : HostModel) (come comes : Known) (before after : Option Octets)
    (heard hears : Option (List Received)) → (old.fault ≡ None → ServesDevice result turns old new come comes before after heard hears)
    → (IsSome old.fault → comes.history ≡ come.history) → StaysInOrder old come.history comes.history
events_ordered result turns old new come comes before after heard hears serves stopped start input gone is =
    events_in_order result turns old new come comes before after heard hears start input gone is serves stopped old.fault refl

-- a front of what is to be sent has no data that has to be withheld
allows_front : (saving : Saving) (state : SavedState) (waiting sent left : Octets) → octets_to_send saving waiting ≡ sent ++ left
    → AllowsSending (saving_entry saving state) sent
allows_front saving.Saved state waiting sent left parts = tt
allows_front (saving.Unsaved connections) state waiting sent left parts = λ handle among. no_data_left connections.items handle waiting sent left among parts

-- and so for each way in which octets are sent
module _ (state : SavedState) (turn : Turn) (entries : List HistoryEntry) (none : has_settled entries ≡ false) (before recorded saved told : Option (List HistoryEntry))
    (served : Records entries before recorded) (saves : Records (saving_entry turn.saving state ∷ []) recorded saved) (tells : Records (Told ∷ []) saved told)
    (waiting : Octets) where
  sent_in_order : (sent left : Octets) (tail : List HistoryEntry) (after : Option (List HistoryEntry)) → octets_to_send turn.saving waiting ≡ sent ++ left
      → has_settled tail ≡ false
      → Records (sent_entries sent ++ tail) told after → KeepsTheOrder before after
  sent_in_order sent left tail after parts silent sends =
      stays_in_order entries turn.saving state sent tail before after none silent (allows_front turn.saving state waiting sent left parts)
      (records_then entries (saving_entry turn.saving state ∷ Told ∷ (sent_entries sent ++ tail)) before recorded after served
      (records_then (saving_entry turn.saving state ∷ []) (Told ∷ (sent_entries sent ++ tail)) recorded saved after saves
      (records_then (Told ∷ []) (sent_entries sent ++ tail) saved told after tells sends)))

  in_order : (sending : Sending) (after : Option (List HistoryEntry)) → Sends sending (octets_to_send turn.saving waiting) told after
      → KeepsTheOrder before after
  in_order sending.Done after sends =
      let octets : Octets = octets_to_send turn.saving waiting in
      sent_in_order octets [] [] after (sym (append-nil octets)) refl
      (subst (λ (it : List HistoryEntry). Records it told after) (sym (append-nil (sent_entries octets))) sends)
  in_order sending.Waits after sends =
      let octets : Octets = octets_to_send turn.saving waiting in
      sent_in_order [] octets (Unsent octets ∷ []) after refl refl sends
  in_order sending.Failed after sends = sent_in_order sends.sent sends.left (Broken sends.left ∷ []) after sends.parts refl sends.records

-- a turn keeps the order, whether the host had stopped or not
keeps_order : (turn : Turn) (old new : HostModel) (come comes : Known) (before after : Option Octets) (heard hears : Option (List Received)) (start : Start)
    (input : List Item) (gone : List Octets)
    → RefinesRun (run start input) gone old → TakesATurn turn old new come comes before after heard hears → (found : Option HostFault) → old.fault ≡ found
    → KeepsTheOrder come.history comes.history
keeps_order turn old new come comes before after heard hears start input gone is takes None refines =
    let serves = takes.serves refines in
    in_order (saved_state new.server) turn (all_entries (run start input) serves.happened turn.served)
    (all_unsettled (run start input) serves.happened turn.served)
    come.history takes.recorded takes.settles.saved takes.settles.told (serves.records start input gone is) takes.settles.saves takes.settles.tells
    takes.settles.sends.waiting turn.sending comes.history takes.settles.sends.sends
keeps_order turn old new come comes before after heard hears start input gone is takes (Some fault) refines =
    let nothing = takes.stopped (subst IsSome (sym refines) refl) in
    in_order (saved_state new.server) turn [] refl come.history takes.recorded takes.settles.saved takes.settles.told
    (subst (λ (it : Option (List HistoryEntry)). Records [] come.history it) (sym (ap (λ (it : Known). it.history) nothing.happens))
    (records_none come.history))
    takes.settles.saves takes.settles.tells takes.settles.sends.waiting turn.sending comes.history takes.settles.sends.sends

pub stays_ordered : (turn : Turn) (old new : HostModel) (come comes : Known) (before after : Option Octets) (heard hears : Option (List Received))
    → TakesATurn turn old new come comes before after heard hears → StaysInOrder old come.history comes.history
stays_ordered turn old new come comes before after heard hears takes start input gone is =
    keeps_order turn old new come comes before after heard hears start input gone is takes old.fault refl
