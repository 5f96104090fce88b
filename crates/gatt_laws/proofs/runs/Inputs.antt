-- A run is that of the input before, and then the last item; and what has gone out stays, and is what the events bring.
use Rattle.std.proofs.Common.{◌≡◌, refl, sym, ◌∙◌, ap, List, [], ◌∷◌, ◌++◌, append_assoc, Option, Some, None}
use Rattle.std.specs.Option.{option_to_list}
use Rattle.std.proofs.lemmas.List.{append-nil}
use Rattle.gatt_laws.proofs.runs.ItemEvents.{means_its_event}
use Rattle.gatt_laws.specs.laws.Laws.{ExtendsWhatIsSent, ContinuesItsRun, KeepsWhatIsSent}
use Rattle.gatt_laws.specs.laws.Runs.{events_in, events_of, out_in, HasSentByEvents}
use Rattle.gatt_laws.specs.machine.Event.{Event}
use Rattle.gatt_laws.specs.machine.Input.{Item, Run, after_item, after_items, run_at_start, run}
use Rattle.gatt_laws.specs.machine.ItemEvents.{after_if, event_at, out_if}
use Rattle.gatt_laws.specs.machine.State.{State}
use Rattle.octet_io.specs.Number.{Octets}

pub items_append : (old : Run) (items more : List Item) → after_items old (items ++ more) ≡ after_items (after_items old items) more
items_append old [] more = refl
items_append old (item ∷ items) more = items_append (after_item old item) items more

pub continues : ContinuesItsRun
unfolding run
continues start input item = items_append (run_at_start start) input (item ∷ [])

-- nothing more has gone out, or something has behind it
goes-nowhere : (old : Run) → ExtendsWhatIsSent old old
goes-nowhere old = ([], sym (append-nil old.sent))

goes-then : (old mid new : Run) → ExtendsWhatIsSent old mid → ExtendsWhatIsSent mid new → ExtendsWhatIsSent old new
goes-then old mid new first then_on =
    (first.0 ++ then_on.0, then_on.1 ∙ ap (λ (sent : List Octets). sent ++ then_on.0) first.1 ∙ append_assoc old.sent first.0 then_on.0)

goes-item : (old : Run) (item : Item) → ExtendsWhatIsSent old (after_item old item)
goes-item old item = (out_if old.intake.state (event_at old.intake item), (means_its_event old item).sent)

pub goes_items : (old : Run) (items : List Item) → ExtendsWhatIsSent old (after_items old items)
goes_items old [] = goes-nowhere old
goes_items old (item ∷ items) =
    goes-then old (after_item old item) (after_items (after_item old item) items) (goes-item old item) (goes_items (after_item old item) items)

pub keeps_what_is_gone : KeepsWhatIsSent
unfolding run
keeps_what_is_gone start input more =
    let goes = goes_items (run start input) more in
    (goes.0, ap (λ (new : Run). new.sent) (items_append (run_at_start start) input more) ∙ goes.1)

-- What has gone out is what the events bring.
then-out : (state : State) (event : Option Event) (events : List Event) → out_in state (option_to_list event ++ events) ≡ out_if state event
    ++ out_in (after_if state event) events
then-out state None events = refl
then-out state (Some event) events = refl

gone-by : (old : Run) (items : List Item) → (after_items old items).sent ≡ old.sent ++ out_in old.intake.state (events_in old items)
gone-by old [] = sym (append-nil old.sent)
gone-by old (item ∷ items) =
    let new : Run = after_item old item in
    let event : Option Event = event_at old.intake item in
    let does = means_its_event old item in
    gone-by new items
    ∙ ap (λ (sent : List Octets). sent ++ out_in new.intake.state (events_in new items)) does.sent
    ∙ ap (λ (state : State). (old.sent ++ out_if old.intake.state event) ++ out_in state (events_in new items)) does.state
    ∙ append_assoc old.sent (out_if old.intake.state event) (out_in (after_if old.intake.state event) (events_in new items))
    ∙ ap (λ (later : List Octets). old.sent ++ later) (sym (then-out old.intake.state event (events_in new items)))

pub has_gone_by_events : HasSentByEvents
unfolding run events_of
has_gone_by_events start input = gone-by (run_at_start start) input
