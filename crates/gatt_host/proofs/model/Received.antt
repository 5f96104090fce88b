-- What a listener receives of what a host took in last, wherever the host was.
use Rattle.std.proofs.Common.{◌≡◌, ℕ, false, List, [], ◌∷◌, ◌++◌, map, take, Option, Some, None, refl, sym, ap, ◌∙◌, append-nil}
use Rattle.std.specs.Prelude.{if◌then◌else◌}
use Rattle.std.specs.Option.{option_map_or}
use Rattle.gatt_host.proofs.model.Items.{no_fault}
use Rattle.host_api.specs.declared.notice.Notice.{Notice as Lent}
use Rattle.host_api.specs.declared.notice.Notice.TheVariants as lent
use Rattle.gatt_host.specs.Notices.{HasTheValue, notice_of, received_from}
use Rattle.gatt_host.specs.Feeding.{IsUpToAPacket, TakesUpToAPacket, octet_items}
use Rattle.gatt_host.specs.HostModel.{Refines, RefinesRun, HostModel}
use Rattle.gatt_host.specs.Telling.{TellsOf, TellsOfAll, notices_told, received_told}
use Rattle.gatt_laws.proofs.runs.Inputs.{items_append}
use Rattle.gatt_laws.proofs.runs.ItemEvents.{means_its_event}
use Rattle.gatt_laws.proofs.notices.StreamNotices.{AreKept, all_kept, receives_of_the_division, tells_of_the_division}
use Rattle.gatt_laws.proofs.runs.Streams.{takes_the_division}
use Rattle.gatt_laws.proofs.runs.Unfinished.{leaves_less_than_a_packet}
use Rattle.gatt_laws.specs.machine.Event.{Event}
use Rattle.gatt_laws.specs.machine.Input.{Run, Item, APacket, after_item, after_items, after_packet, run, run_at_start, unless_stopped}
use Rattle.gatt_laws.specs.machine.ItemEvents.{after_if, event_at}
use Rattle.gatt_laws.specs.machine.Notice.{Notice, Received, Written, noticed, notices_in, notices_of, received_in, received_of, received_of_event, received_with}
use Rattle.gatt_laws.specs.machine.Packets.{Fault}
use Rattle.gatt_laws.specs.machine.Start.{Start}
use Rattle.gatt_laws.specs.machine.State.{State}
use Rattle.gatt_laws.specs.laws.Laws.{after_packets}
use Rattle.le_h4.specs.Division.{Division, End, Unfinished, Lost, division, is_long}
use Rattle.att_table.specs.Table.{Contents}
use Rattle.le_h4.specs.Packet.{Packet, NoneYet, first_of}
use Rattle.octet_io.specs.Number.{Octets}

-- a notice that lends the octets of a table
pub lent_received : (table : Contents) (notice : Lent) → HasTheValue table notice → received_from notice ≡ received_with table (notice_of notice)
lent_received table (lent.Connected handle peer) has = refl
lent_received table (lent.Disconnected handle) has = refl
lent_received table (lent.Secured handle facts) has = refl
lent_received table (lent.Unsecured handle) has = refl
lent_received table (lent.Written handle attribute value) has =
    ap (λ (octets : Octets). record { notice = Written handle attribute; value = octets }) has
lent_received table (lent.Configured handle attribute bits) has = refl
lent_received table (lent.Confirmed handle attribute) has = refl
lent_received table (lent.TimedOut handle) has = refl
lent_received table (lent.Ending handle reason) has = refl
lent_received table (lent.Skipped handle attribute) has = refl

-- the notices of an item, with the values after it
of-event : (state : State) (event : Option Event)
    → option_map_or (received_of_event state) event []
    ≡ map (received_with (after_if state event).shared.table) (option_map_or (noticed state) event [])
of-event state None = refl
of-event state (Some event) = refl

item-received : (run : Run) (item : Item)
    → received_of run item ≡ map (received_with (after_item run item).intake.state.shared.table) (notices_of run item)
item-received run item =
    of-event run.intake.state (event_at run.intake item)
    ∙ ap (λ (state : State). map (received_with state.shared.table) (notices_of run item)) (sym (means_its_event run item).state)

-- no notice, and so nothing is received
no-notices : (first : List Notice) (rest : List Notice) → first ++ rest ≡ [] → (first ≡ []) × (rest ≡ [])
no-notices [] rest none = (refl, none)
no-notices (notice ∷ first) rest none = (cc none, cc none)

none_received : (run : Run) (items : List Item) → notices_in run items ≡ [] → received_in run items ≡ []
none_received run [] none = refl
none_received run (item ∷ items) none =
    let both = no-notices (notices_of run item) (notices_in (after_item run item) items) none in
    ap (λ (received : List Received). received ++ received_in (after_item run item) items)
    (item-received run item
    ∙ ap (map (received_with (after_item run item).intake.state.shared.table)) both.0)
    ∙ none_received (after_item run item) items both.1

-- a packet that is not too long, and then the end of the octets
after-one : (run : Run) (packet : Packet) (end : End) → run.intake.fault ≡ None → is_long packet ≡ false
    → (after_packets run (packet ∷ []) end).intake.state ≡ (after_item run (APacket packet)).intake.state
unfolding after_item
after-one run packet end none short =
    ends (after_packet run packet) (after_packet run packet).intake.fault end
    ∙ (λ i. (unless_stopped (sym none i) run (if (sym short i) then run else after_packet run packet)).intake.state)
  where
    ends : (new : Run) (fault : Option Fault) (end : End)
        → (unless_stopped fault new (after_packets new [] end)).intake.state ≡ new.intake.state
    ends new (Some fault) end = refl
    ends new None Unfinished = refl
    ends new None (Lost indicator) = refl

-- octets that end at most one packet

module _ (run : Run) (octets : Octets) (none : run.intake.fault ≡ None) (part : first_of run.intake.unfinished ≡ NoneYet) where
  abbrev divided : Division
  divided = division (run.intake.unfinished ++ octets)

  by-packets : (packets : List Packet) → divided.packets ≡ packets → AreKept packets → (count : ℕ) (all : Octets) → IsUpToAPacket all count packets
      → received_in run (octet_items octets)
      ≡ map (received_with (after_items run (octet_items octets)).intake.state.shared.table) (notices_in run (octet_items octets))
  by-packets [] is kept count all up_to =
      receives_of_the_division run octets none part
      ∙ ap (λ (packets : List Packet). received_in run (map APacket packets)) is
      ∙ ap (map (received_with (after_items run (octet_items octets)).intake.state.shared.table))
      (sym (tells_of_the_division run octets none part ∙ ap (λ (packets : List Packet). notices_in run (map APacket packets)) is))
  by-packets (packet ∷ packets) is kept count all up_to =
      let only : divided.packets ≡ packet ∷ [] = is ∙ ap (λ (packets : List Packet). packet ∷ packets) up_to in
      let state : (after_items run (octet_items octets)).intake.state ≡ (after_item run (APacket packet)).intake.state =
      ap (λ (run : Run). run.intake.state) (takes_the_division run octets none part)
      ∙ ap (λ (packets : List Packet). (after_packets run packets divided.end).intake.state) only
      ∙ after-one run packet divided.end none kept.0 in
      receives_of_the_division run octets none part
      ∙ ap (λ (packets : List Packet). received_in run (map APacket packets)) only
      ∙ append-nil (received_of run (APacket packet))
      ∙ item-received run (APacket packet)
      ∙ ap (λ (state : State). map (received_with state.shared.table) (notices_of run (APacket packet))) (sym state)
      ∙ ap (map (received_with (after_items run (octet_items octets)).intake.state.shared.table))
      (sym (tells_of_the_division run octets none part
      ∙ ap (λ (packets : List Packet). notices_in run (map APacket packets)) only ∙ append-nil (notices_of run (APacket packet))))

-- a listener receives what these items bring
abbrev pub ReceivesOfAll : List Item → HostModel → HostModel → Type 0
ReceivesOfAll items old new = (start : Start) (input : List Item) (sent : List Octets) → RefinesRun (run start input) sent old
    → received_told new ≡ received_in (run start input) items

-- by the table that the host has then
table-held : (items : List Item) (packets : List Octets) (old new : HostModel) → Refines items packets old new
    → (start : Start) (input : List Item) (sent : List Octets) → RefinesRun (run start input) sent old
    → new.server.table ≡ (after_items (run start input) items).intake.state.shared.table
unfolding run
table-held items packets old new refines start input sent is =
    (refines start input sent is).refines.refines.table
    ∙ ap (λ (run : Run). run.intake.state.shared.table) (items_append (run_at_start start) input items)

pub octets_received : (all : Octets) (used : ℕ) (old new : HostModel) → old.fault ≡ None
    → Refines (octet_items (take used all)) [] old new → TellsOfAll (octet_items (take used all)) old new → TakesUpToAPacket all used old
    → ReceivesOfAll (octet_items (take used all)) old new
octets_received all used old new none refines tells up_to start input sent is =
    let at : Run = run start input in
    let octets : Octets = take used all in
    let no_why = no_fault at sent old none is in
    ap (λ (notices : List Notice). map (received_with new.server.table) notices) (tells start input sent is none)
    ∙ ap (λ (table : Contents). map (received_with table) (notices_in at (octet_items octets)))
    (table-held (octet_items octets) [] old new refines start input sent is)
    ∙ sym (by-packets at octets no_why (leaves_less_than_a_packet start input) (division (at.intake.unfinished ++ octets)).packets refl
    (all_kept (at.intake.unfinished ++ octets)) used all (up_to start input sent is none))

-- a host that stops at them
pub stopped_received : (items : List Item) (old new : HostModel) → old.fault ≡ None → TellsOfAll items old new → notices_told new ≡ []
    → ReceivesOfAll items old new
stopped_received items old new none tells silent start input sent is =
    ap (λ (notices : List Notice). map (received_with new.server.table) notices) silent
    ∙ sym (none_received (run start input) items (sym (tells start input sent is none) ∙ silent))

-- a call, which may be refused
pub call_received : (item : Item) (packets : List Octets) (old new : HostModel) → old.fault ≡ None → new.fault ≡ None
    → Refines (item ∷ []) packets old new → TellsOf item old new → ReceivesOfAll (item ∷ []) old new
call_received item packets old new none still refines tells start input sent is =
    let at : Run = run start input in
    ap (λ (notices : List Notice). map (received_with new.server.table) notices) (tells start input sent is none still)
    ∙ ap (λ (table : Contents). map (received_with table) (notices_of at item)) (table-held (item ∷ []) packets old new refines start input sent is)
    ∙ sym (item-received at item) ∙ sym (append-nil (received_of at item))
