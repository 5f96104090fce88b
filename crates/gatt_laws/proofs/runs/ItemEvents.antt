-- What an item does is what its event does, which is meant in the state; and it means the same where the same is known.
use Rattle.std.proofs.Common.{◌≡◌, Bool, true, false, [], ◌∷◌, ◌++◌, append-nil, Option, Some, None, refl, sym, ap, ◌∙◌}
use Rattle.std.specs.Prelude.{Result, Ok, Err, is_some, if◌then◌else◌}
use Rattle.att_table.specs.Table.{Contents}
use Rattle.gatt_laws.proofs.runs.Meant.{MeantIfAny, call_meant, packet_meant, replacement_meant}
use Rattle.gatt_laws.specs.laws.Possible.{IsFine, IsMeant}
use Rattle.gatt_laws.specs.machine.Calls.{Call, call_event, call_meaning, replacement_event, replacement_meaning}
use Rattle.gatt_laws.specs.machine.Context.{context_of}
use Rattle.gatt_laws.specs.machine.Event.{Event}
use Rattle.gatt_laws.specs.machine.Input.{Item, AnOctet, APacket, ACall, ATable, TheEnd, Intake, Run, after_result, packet_taken, after_packet, with_unfinished, run_after_first, taken, unless_stopped, after_item}
use Rattle.gatt_laws.specs.machine.ItemEvents.{event_if, event_of_packet, event_of_first, event_taken, event_at, DoesAs, MeansItsEvent}
use Rattle.gatt_laws.specs.machine.Packets.{Fault, Desync, Fragments, arrival, arrival_of, recombinations_of, packet_event, packet_meaning, with_arrival}
use Rattle.gatt_laws.specs.machine.State.{State}
use Rattle.le_acl.specs.Fragment.{fragment_of}
use Rattle.le_h4.specs.Division.{is_long}
use Rattle.le_h4.specs.Packet.{Packet, AclPacket, EventPacket, ScoPacket, First, FirstPacket, NoneYet, NoPacket, first_of}
use Rattle.octet_io.specs.Number.{Octets}

-- An item does what its event does.

nothing-done : (old new : Run) → new.intake.state ≡ old.intake.state → new.sent ≡ old.sent → DoesAs old new None
nothing-done old new state sent = record { state = state; sent = sent ∙ sym (append-nil old.sent) }

module _ (run : Run) where
  abbrev before : State
  before = run.intake.state

  result-means : {E : Type 0} (result : Result Event E) → DoesAs run (after_result run result) (event_if result)
  result-means (Ok event) = record { state = refl; sent = refl }
  result-means (Err fault) = nothing-done run run refl refl

  packet-means : (octets : Octets) (packet : Packet) (result : Result Event Fault)
      → DoesAs run (packet_taken (with_unfinished run octets) packet result) (event_if result)
  packet-means octets packet (Ok event) = record { state = refl; sent = refl }
  packet-means octets packet (Err fault) = nothing-done run (packet_taken (with_unfinished run octets) packet (Err fault)) refl refl

  first-means : (octets : Octets) (first : First) → DoesAs run (run_after_first run octets first) (event_of_first before run.intake.fragments first)
  first-means octets (FirstPacket packet rest) =
      elim (is_long packet) as (λ (long : Bool). DoesAs run (if long then with_unfinished run rest else after_packet (with_unfinished run rest) packet)
      (if long then None else event_if (packet_event before run.intake.fragments packet))) [
        | true ↦ nothing-done run (with_unfinished run rest) refl refl
        | false ↦ packet-means rest packet (packet_event before run.intake.fragments packet)
      ]
  first-means octets NoneYet = nothing-done run (run_after_first run octets NoneYet) refl refl
  first-means octets (NoPacket indicator) = nothing-done run (run_after_first run octets (NoPacket indicator)) refl refl

  taken-means : (item : Item) → DoesAs run (taken run item) (event_taken run.intake item)
  taken-means (AnOctet octet) = first-means (run.intake.unfinished ++ octet ∷ []) (first_of (run.intake.unfinished ++ octet ∷ []))
  taken-means (APacket packet) = first-means [] (FirstPacket packet run.intake.unfinished)
  taken-means (ACall call) = result-means (call_event before call)
  taken-means (ATable table) = result-means (replacement_event before table)
  taken-means TheEnd = nothing-done run (taken run TheEnd) refl refl

  unless-means : (fault : Option Fault) (new : Run) (event : Option Event) → DoesAs run new event
      → DoesAs run (unless_stopped fault run new) (if is_some fault then None else event)
  unless-means (Some fault) new event means = nothing-done run run refl refl
  unless-means None new event means = means

pub means_its_event : MeansItsEvent
unfolding after_item
means_its_event run item = unless-means run run.intake.fault (taken run item) (event_taken run.intake item) (taken-means run item)

-- And it is meant in the state.
module _ (Fine : Contents → Type 0) where
  abbrev pub MeantIfSome : State → Option Event → Type 0
  MeantIfSome state None = Unit
  MeantIfSome state (Some event) = IsMeant Fine state event

  result-meant : {E : Type 0} (state : State) (result : Result Event E) → MeantIfAny Fine state result → MeantIfSome state (event_if result)
  result-meant state (Ok event) meant = meant
  result-meant state (Err fault) meant = tt

  unless-meant : (state : State) (test : Bool) (found : Option Event) → MeantIfSome state found → MeantIfSome state (if test then None else found)
  unless-meant state true found meant = tt
  unless-meant state false found meant = meant

  of-packet : (state : State) (fragments : Fragments) (packet : Packet) → MeantIfSome state (event_of_packet state fragments packet)
  of-packet state fragments packet =
      unless-meant state (is_long packet) (event_if (packet_event state fragments packet))
      (result-meant state (packet_event state fragments packet) (packet_meant Fine state fragments packet))

  of-first : (state : State) (fragments : Fragments) (first : First) → MeantIfSome state (event_of_first state fragments first)
  of-first state fragments (FirstPacket packet rest) = of-packet state fragments packet
  of-first state fragments NoneYet = tt
  of-first state fragments (NoPacket indicator) = tt

  taken-meant : (intake : Intake) (item : Item) → IsFine Fine item → MeantIfSome intake.state (event_taken intake item)
  taken-meant intake (AnOctet octet) fine = of-first intake.state intake.fragments (first_of (intake.unfinished ++ octet ∷ []))
  taken-meant intake (APacket packet) fine = of-packet intake.state intake.fragments packet
  taken-meant intake (ACall call) fine = result-meant intake.state (call_event intake.state call) (call_meant Fine intake.state call)
  taken-meant intake (ATable table) fine =
      result-meant intake.state (replacement_event intake.state table) (replacement_meant Fine intake.state table fine)
  taken-meant intake TheEnd fine = tt

  pub item_meant : (intake : Intake) (item : Item) → IsFine Fine item → MeantIfSome intake.state (event_at intake item)
  item_meant intake item fine = unless-meant intake.state (is_some intake.fault) (event_taken intake item) (taken-meant intake item fine)

-- any table will do
pub any_table : (item : Item) → IsFine (λ table. Unit) item
any_table (AnOctet octet) = tt
any_table item = tt

-- An item means the same where the same is known.

-- what an intake keeps beside the state
pub record Kept : Type 0 where
  pub unfinished : Octets
  pub fragments : Fragments
  pub fault : Option Fault

abbrev pub kept : Run → Kept
kept run = record { unfinished = run.intake.unfinished; fragments = run.intake.fragments; fault = run.intake.fault }

module _ (one other : Run) (looks : context_of one.intake.state ≡ context_of other.intake.state) where
  packets-same : (fragments its : Fragments) → fragments ≡ its → (packet : Packet)
      → packet_event one.intake.state fragments packet ≡ packet_event other.intake.state its packet
  unfolding packet_event
  packets-same fragments its same packet = λ i. packet_meaning (looks i) (recombinations_of (same i)) packet

  arrivals-same : (packet : Packet) → arrival one.intake.state packet ≡ arrival other.intake.state packet
  arrivals-same (AclPacket handle boundary broadcast octets) = λ i. arrival_of ((looks i).serving handle) (fragment_of boundary broadcast octets)
  arrivals-same (EventPacket octets) = refl
  arrivals-same ScoPacket = refl

  calls-same : (call : Call) → call_event one.intake.state call ≡ call_event other.intake.state call
  calls-same call = λ i. call_meaning (looks i) call

  replacements-same : (table : Contents) → replacement_event one.intake.state table ≡ replacement_event other.intake.state table
  replacements-same table = λ i. replacement_meaning (looks i) table

  module _ (same : kept one ≡ kept other) where
    first-same : (first : First) → event_of_first one.intake.state one.intake.fragments first ≡ event_of_first other.intake.state other.intake.fragments first
    first-same (FirstPacket packet rest) =
        ap (λ (r : Result Event Fault). if is_long packet then None else event_if r)
        (packets-same one.intake.fragments other.intake.fragments (ap (λ (k : Kept). k.fragments) same) packet)
    first-same NoneYet = refl
    first-same (NoPacket indicator) = refl

    events-taken : (item : Item) → event_taken one.intake item ≡ event_taken other.intake item
    events-taken (AnOctet octet) =
        ap (λ (k : Kept). event_of_first one.intake.state one.intake.fragments (first_of (k.unfinished ++ octet ∷ []))) same
        ∙ first-same (first_of (other.intake.unfinished ++ octet ∷ []))
    events-taken (APacket packet) = first-same (FirstPacket packet [])
    events-taken (ACall call) = ap event_if (calls-same call)
    events-taken (ATable table) = ap event_if (replacements-same table)
    events-taken TheEnd = refl

    -- an item means the same event
    pub same_events : (item : Item) → event_at one.intake item ≡ event_at other.intake item
    same_events item =
        let events = events-taken item in
        λ i. if is_some (same i).fault then None else events i

    -- and leaves the same
    packet-kept : (octets : Octets) (packet : Packet) (result : Result Event Fault)
        → kept (packet_taken (with_unfinished one octets) packet result) ≡ kept (packet_taken (with_unfinished other octets) packet result)
    packet-kept octets packet (Ok event) =
        let arrivals = arrivals-same packet in
        λ i. record { unfinished = octets; fragments = with_arrival (same i).fragments (arrivals i); fault = (same i).fault }
    packet-kept octets packet (Err fault) = λ i. record { unfinished = octets; fragments = (same i).fragments; fault = Some fault }

    packets-kept : (octets : Octets) (packet : Packet) → kept (after_packet (with_unfinished one octets) packet)
        ≡ kept (after_packet (with_unfinished other octets) packet)
    packets-kept octets packet =
        packet-kept octets packet (packet_event one.intake.state one.intake.fragments packet)
        ∙ ap (λ (r : Result Event Fault). kept (packet_taken (with_unfinished other octets) packet r))
        (packets-same one.intake.fragments other.intake.fragments (ap (λ (k : Kept). k.fragments) same) packet)

    first-kept : (octets : Octets) (first : First) → kept (run_after_first one octets first) ≡ kept (run_after_first other octets first)
    first-kept octets (FirstPacket packet rest) =
        elim (is_long packet) as (λ (long : Bool). kept (if long then with_unfinished one rest else after_packet (with_unfinished one rest) packet)
        ≡ kept (if long then with_unfinished other rest else after_packet (with_unfinished other rest) packet)) [
          | true ↦ λ i. record (same i) { unfinished = rest }
          | false ↦ packets-kept rest packet
        ]
    first-kept octets NoneYet = λ i. record (same i) { unfinished = octets }
    first-kept octets (NoPacket indicator) = λ i. record (same i) { fault = Some (Desync indicator) }

    result-kept : {E : Type 0} (result its : Result Event E) → result ≡ its → kept (after_result one result) ≡ kept (after_result other its)
    result-kept (Ok event) (Ok too) equal = same
    result-kept (Err fault) (Err too) equal = same
    result-kept (Ok event) (Err too) equal = same
    result-kept (Err fault) (Ok too) equal = same

    pub taken_kept : (item : Item) → kept (taken one item) ≡ kept (taken other item)
    taken_kept (AnOctet octet) =
        first-kept (one.intake.unfinished ++ octet ∷ []) (first_of (one.intake.unfinished ++ octet ∷ []))
        ∙ ap (λ (k : Kept). let octets = k.unfinished ++ octet ∷ [] in kept (run_after_first other octets (first_of octets))) same
    taken_kept (APacket packet) =
        first-kept [] (FirstPacket packet one.intake.unfinished)
        ∙ ap (λ (k : Kept). kept (run_after_first other [] (FirstPacket packet k.unfinished))) same
    taken_kept (ACall call) = result-kept (call_event one.intake.state call) (call_event other.intake.state call) (calls-same call)
    taken_kept (ATable table) = result-kept (replacement_event one.intake.state table) (replacement_event other.intake.state table) (replacements-same table)
    taken_kept TheEnd = λ i. record (same i) { unfinished = [] }

    pub unless_kept : (new too : Run) (fault its : Option Fault) → fault ≡ its → kept new ≡ kept too → kept (unless_stopped fault one new)
        ≡ kept (unless_stopped its other too)
    unless_kept new too (Some fault) (Some its) equal later = same
    unless_kept new too None None equal later = later
    unless_kept new too (Some fault) None equal later = cc equal
    unless_kept new too None (Some its) equal later = cc equal

    pub item_kept : (item : Item) → kept (after_item one item) ≡ kept (after_item other item)
    unfolding after_item
    item_kept item = unless_kept (taken one item) (taken other item) one.intake.fault other.intake.fault (ap (λ (k : Kept). k.fault) same) (taken_kept item)

-- a table that is handed in leaves all of that
pub table_kept : (run : Run) (table : Contents) → kept (after_item run (ATable table)) ≡ kept run
unfolding after_item
table_kept run table = unless-table run.intake.fault (replacement_event run.intake.state table)
  where
    result-table : {E : Type 0} (result : Result Event E) → kept (after_result run result) ≡ kept run
    result-table (Ok event) = refl
    result-table (Err fault) = refl

    unless-table : {E : Type 0} (fault : Option Fault) (result : Result Event E) → kept (unless_stopped fault run (after_result run result)) ≡ kept run
    unless-table (Some fault) result = refl
    unless-table None result = result-table result
