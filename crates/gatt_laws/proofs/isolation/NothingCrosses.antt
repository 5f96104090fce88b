-- Two starts and inputs that agree for a peer give the same packets to its connections.
use Rattle.std.proofs.Common.{◌≡◌, Bool, true, false, ◌==◌, ◌&&◌, List, [], ◌∷◌, ◌++◌, Option, Some, None, refl, sym, ap, subst, ◌∙◌}
use Rattle.std.specs.Prelude.{is_some, if◌then◌else◌, Ok, Err}
use Rattle.att_numbers.specs.Types.{Handle}
use Rattle.att_attributes.specs.Attributes.{HaveHandlesFrom}
use Rattle.att_table.specs.Changer.{changer_of}
use Rattle.att_table.specs.Facts.{IsTable}
use Rattle.att_table.specs.Table.{Contents}
use Rattle.gatt_laws.proofs.runs.Always.{always, any_tables}
use Rattle.gatt_laws.proofs.isolation.ChangersAlike.{tables_same}
use Rattle.gatt_laws.proofs.runs.ItemEvents.{means_its_event, kept, same_events, item_kept, table_kept}
use Rattle.gatt_laws.proofs.invariants.Settled.{stays_settled, is_always_settled}
use Rattle.gatt_laws.proofs.isolation.AlikeHearing.{commands_alike}
use Rattle.gatt_laws.specs.laws.Alike.{Alike, Hides}
use Rattle.gatt_laws.specs.machine.Calls.{Refused, NoServiceChanged, same_changer}
use Rattle.gatt_laws.specs.machine.Context.{context_of, ordinal_where}
use Rattle.gatt_laws.specs.machine.Controller.{has_free}
use Rattle.gatt_laws.specs.machine.Event.{Ordinal, Event, Replaced}
use Rattle.gatt_laws.specs.machine.Input.{Item, AnOctet, APacket, ACall, ATable, TheEnd, Run, after_item, after_items, run_at_start, run}
use Rattle.gatt_laws.specs.machine.ItemEvents.{event_if, event_at, after_if}
use Rattle.gatt_laws.specs.laws.NothingCrosses.{Agree, is_replaced, hidden_while, StartsAgree, ItemsAgree, InputsAgree, SparedIf, SparedIn, packets_given_by, NothingCrosses, LeavesConnectionsTheSame}
use Rattle.gatt_laws.specs.machine.ConnectionState.{is_live}
use Rattle.gatt_laws.specs.laws.Possible.{AllTables}
use Rattle.gatt_laws.specs.laws.Settled.{IsSettled}
use Rattle.gatt_laws.specs.machine.Start.{Start, before_first_command}
use Rattle.gatt_laws.specs.machine.State.{State, step}
use Rattle.gatt_laws.specs.laws.TwoWorlds.{SameTable}
use Rattle.le_hci.specs.declared.peer.Peer.{Peer}
use Rattle.gatt_laws.proofs.isolation.HiddenItems.{AfterBoth, after-both, after-same, alike-more, given-next, given_if, hides-unknown, later-unknown, now-unknown}

-- All that is so of two runs on their way.
record Together (peer : Peer) (one other : Run) (items : List Item) : Type 0 where
  settled : IsSettled one.intake.state
  alike : Alike peer (hidden_while peer one items) one.intake.state other.intake.state
  same : kept one ≡ kept other

-- a connection that is found is found alike by what is not erased of each
looks-same : (peer : Peer) (hidden : Handle → Bool) (one other : State) → Alike peer hidden one other → context_of one ≡ context_of other
looks-same peer hidden one other alike =
    let shared = alike.shared in
    let others = alike.others in
    let slots = alike.slots in
    let next = alike.next in
    let controller = alike.controller in
    λ i. record {
      controller = controller i;
      attributes = (shared i).table.attributes;
      changer = (shared i).changer;
      time = (shared i).time;
      serving = λ handle. ordinal_where (λ ordinal. is_live (others ordinal i).mark && (others ordinal i).handle == handle) (slots i);
      holding = λ handle. ordinal_where (λ ordinal. (others ordinal i).handle == handle) (slots i);
      next_free = if has_free (slots i) then Some (next i) else None;
    }

settled-then : (run : Run) (item : Item) → IsSettled run.intake.state → IsSettled (after_item run item).intake.state
settled-then run item settled = always (λ table. Unit) IsSettled stays_settled run (item ∷ []) (any_tables (item ∷ [])) settled

-- an item that is no replacement
module _ (peer : Peer) (ordinal : Ordinal) (one other : Run) (item : Item) (items : List Item) (together : Together peer one other (item ∷ items)) where
  abbrev hidden : Handle → Bool
  hidden = hidden_while peer one (item ∷ items)

  abbrev hidden_then : Handle → Bool
  hidden_then = hidden_while peer (after_item one item) items

  hides-now : Hides peer hidden one.intake.state
  hides-now = hides-unknown peer hidden one.intake.state together.settled (now-unknown peer one (item ∷ items))

  hides-then : Hides peer hidden_then (after_item one item).intake.state
  hides-then =
      hides-unknown peer hidden_then (after_item one item).intake.state (settled-then one item together.settled) (now-unknown peer (after_item one item) items)

  looks : context_of one.intake.state ≡ context_of other.intake.state
  looks = looks-same peer hidden one.intake.state other.intake.state together.alike

  record Next (its : Item) : Type 0 where
    after : Together peer (after_item one item) (after_item other its) items
    given : given_if peer ordinal one.intake.state (event_at one.intake item) ≡ given_if peer ordinal other.intake.state (event_at other.intake its)

  next-by : (its : Item) → AfterBoth peer hidden_then one.intake.state other.intake.state (event_at one.intake item) (event_at other.intake its)
      → kept (after_item one item) ≡ kept (after_item other its) → Next its
  next-by its both same =
      let state = (means_its_event one item).state in
      let state_too = (means_its_event other its).state in
      record {
        after = record {
          settled = settled-then one item together.settled;
          alike = subst (λ (s : State). Alike peer hidden_then s (after_item other its).intake.state) (sym state)
              (subst (λ (s : State). Alike peer hidden_then (after_if one.intake.state (event_at one.intake item)) s) (sym state_too) both.alike);
          same = same;
        };
        given = both.given ordinal;
      }

  next-same : is_replaced one.intake item ≡ false → SparedIf peer one.intake.state (event_at one.intake item)
      → SparedIf peer other.intake.state (event_at other.intake item) → Next item
  next-same stays spared spared_too =
      let wider : (handle : Handle) → hidden handle ≡ true → hidden_then handle ≡ true = λ handle is. later-unknown peer one item items handle stays is in
      let then_hides : Hides peer hidden (after_if one.intake.state (event_at one.intake item)) =
      subst (Hides peer hidden) (means_its_event one item).state (λ at live mine handle is. hides-then at live mine handle (wider handle is)) in
      let both = after-same peer hidden one.intake.state other.intake.state (event_at one.intake item) (event_at other.intake item)
      (same_events one other looks together.same item) together.alike hides-now then_hides spared spared_too in
      next-by item (record {
        alike = alike-more peer hidden hidden_then (after_if one.intake.state (event_at one.intake item))
            (after_if other.intake.state (event_at other.intake item)) wider both.alike;
        given = both.given;
      }) (item_kept one other looks together.same item)

  -- a replacement, by tables that differ in what is hidden from then on
  replaced-by : (stop test : Bool) (table : Contents)
      → is_some (if stop then None else event_if {E = Refused} (if test then Ok (Replaced table) else Err NoServiceChanged)) ≡ true → (stop ≡ false)
      × (test ≡ true)
  replaced-by false true table is = (refl, refl)
  replaced-by false false table is = cc is
  replaced-by true test table is = cc is

  replacement : (stop test : Bool) (table : Contents) → stop ≡ false → test ≡ true
      → (if stop then None else event_if {E = Refused} (if test then Ok (Replaced table) else Err NoServiceChanged)) ≡ Some (Replaced table)
  replacement false true table goes is = refl
  replacement false false table goes is = cc is
  replacement true test table goes is = cc goes

  next-replaced : (table its : Contents) → item ≡ ATable table → SameTable hidden_then table its → is_replaced one.intake (ATable table) ≡ true
      → SparedIf peer one.intake.state (event_at one.intake item) → SparedIf peer other.intake.state (event_at other.intake (ATable its)) → Next (ATable its)
  next-replaced table its is tables replaced spared spared_too =
      let facts = replaced-by (is_some one.intake.fault) (same_changer one.intake.state.shared.changer (changer_of table)) table replaced in
      let same = together.same in
      let changer = tables.changer in
      let events : event_at one.intake item ≡ Some (Replaced table) =
      ap (event_at one.intake) is ∙ replacement (is_some one.intake.fault) (same_changer one.intake.state.shared.changer (changer_of table)) table facts.0
      facts.1 in
      let events_too : event_at other.intake (ATable its) ≡ Some (Replaced its) =
      replacement (is_some other.intake.fault) (same_changer other.intake.state.shared.changer (changer_of its)) its
      (sym (λ i. is_some (same i).fault) ∙ facts.0) (sym (λ i. same_changer (looks i).changer (changer i)) ∙ facts.1) in
      let then_hides : Hides peer hidden_then (step one.intake.state (Replaced table)) =
      subst (Hides peer hidden_then) ((means_its_event one item).state ∙ ap (after_if one.intake.state) events) hides-then in
      let both : AfterBoth peer hidden_then one.intake.state other.intake.state (Some (Replaced table)) (Some (Replaced its)) =
      after-both peer hidden hidden_then one.intake.state other.intake.state (Replaced table) (Replaced its) together.alike
      (record { its = its; is = refl; same = tables }) hides-now then_hides tt tt in
      next-by (ATable its)
      (subst (λ (e : Option Event). AfterBoth peer hidden_then one.intake.state other.intake.state e (event_at other.intake (ATable its))) (sym events)
      (subst (λ (e : Option Event). AfterBoth peer hidden_then one.intake.state other.intake.state (Some (Replaced table)) e) (sym events_too) both))
      (ap (λ (x : Item). kept (after_item one x)) is ∙ table_kept one table ∙ same ∙ sym (table_kept other its))

  next-equal : (its : Item) → item ≡ its → is_replaced one.intake item ≡ false → SparedIf peer one.intake.state (event_at one.intake item)
      → SparedIf peer other.intake.state (event_at other.intake its) → Next its
  next-equal its equal stays spared spared_too =
      subst Next equal (next-same stays spared (subst (λ (x : Item). SparedIf peer other.intake.state (event_at other.intake x)) (sym equal) spared_too))

-- any item, where each table that is handed in has its handles
abbrev pub HasHandles : Contents → Type 0
HasHandles table = HaveHandlesFrom 1 table.attributes

next-table : (peer : Peer) (ordinal : Ordinal) (one other : Run) (table : Contents) (items : List Item)
    (together : Together peer one other (ATable table ∷ items)) (its : Item)
    → (replaced : Bool) → is_replaced one.intake (ATable table) ≡ replaced → HasHandles table
    → ItemsAgree (hidden_while peer (after_item one (ATable table)) items) replaced (ATable table) its
    → SparedIf peer one.intake.state (event_at one.intake (ATable table))
    → SparedIf peer other.intake.state (event_at other.intake its) → Next peer ordinal one other (ATable table) items together its
next-table peer ordinal one other table items together its true is fine agree spared spared_too =
    subst (Next peer ordinal one other (ATable table) items together) (sym agree.is)
    (next-replaced peer ordinal one other (ATable table) items together table agree.its refl
    (tables_same (hidden_while peer (after_item one (ATable table)) items) table agree.its fine agree.agree) is spared
    (subst (λ (x : Item). SparedIf peer other.intake.state (event_at other.intake x)) agree.is spared_too))
next-table peer ordinal one other table items together its false is fine agree spared spared_too =
    next-equal peer ordinal one other (ATable table) items together its agree is spared spared_too

next-item : (peer : Peer) (ordinal : Ordinal) (one other : Run) (item : Item) (items : List Item) (together : Together peer one other (item ∷ items))
    (its : Item)
    → AllTables HasHandles (item ∷ items) → ItemsAgree (hidden_while peer (after_item one item) items) (is_replaced one.intake item) item its
    → SparedIf peer one.intake.state (event_at one.intake item) → SparedIf peer other.intake.state (event_at other.intake its)
    → Next peer ordinal one other item items together its
next-item peer ordinal one other (ATable table) items together its tables agree spared spared_too =
    next-table peer ordinal one other table items together its (is_replaced one.intake (ATable table)) refl tables.0 agree spared spared_too
next-item peer ordinal one other item items together its tables agree spared spared_too =
    next-equal peer ordinal one other item items together its agree refl spared spared_too

other-tables : (item : Item) (items : List Item) → AllTables HasHandles (item ∷ items) → AllTables HasHandles items
other-tables (ATable table) items tables = tables.1
other-tables item items tables = tables

given-same : (peer : Peer) (ordinal : Ordinal) (items others : List Item) (one other : Run) → Together peer one other items → AllTables HasHandles items
    → InputsAgree peer one items others → SparedIn peer one items → SparedIn peer other others → packets_given_by peer ordinal one items
    ≡ packets_given_by peer ordinal other others
given-same peer ordinal [] [] one other together tables agree spared spared_too = refl
given-same peer ordinal (item ∷ items) [] one other together tables agree spared spared_too = absurd agree
given-same peer ordinal [] (its ∷ others) one other together tables agree spared spared_too = absurd agree
given-same peer ordinal (item ∷ items) (its ∷ others) one other together tables agree spared spared_too =
    let next = next-item peer ordinal one other item items together its tables agree.0 spared.0 spared_too.0 in
    let first = next.given in
    let later =
    given-same peer ordinal items others (after_item one item) (after_item other its) next.after (other-tables item items tables) agree.1 spared.1
    spared_too.1 in
    given-next peer ordinal one item items ∙ (λ i. first i ++ later i) ∙ sym (given-next peer ordinal other its others)

together-then : (peer : Peer) (items others : List Item) (one other : Run) → Together peer one other items → AllTables HasHandles items
    → InputsAgree peer one items others → SparedIn peer one items → SparedIn peer other others
    → Together peer (after_items one items) (after_items other others) []
together-then peer [] [] one other together tables agree spared spared_too = together
together-then peer (item ∷ items) [] one other together tables agree spared spared_too = absurd agree
together-then peer [] (its ∷ others) one other together tables agree spared spared_too = absurd agree
together-then peer (item ∷ items) (its ∷ others) one other together tables agree spared spared_too =
    let next = next-item peer 0 one other item items together its tables agree.0 spared.0 spared_too.0 in
    together-then peer items others (after_item one item) (after_item other its) next.after (other-tables item items tables) agree.1 spared.1 spared_too.1

-- at first
starts-alike : (peer : Peer) (hidden : Handle → Bool) (one other : Start) → HasHandles one.table → StartsAgree hidden one other
    → Alike peer hidden (before_first_command one) (before_first_command other)
starts-alike peer hidden one other fine agree =
    let tables = tables_same hidden one.table other.table fine agree.table in
    let attributes = tables.attributes in
    let changer = tables.changer in
    let far : Start = record one { table = other.table } in
    subst (λ (s : Start). Alike peer hidden (before_first_command one) (before_first_command s)) agree.rest (record {
      shared = λ i. record {
        table = record { attributes = attributes i; values = other.table.values };
        changer = changer i;
        keys = one.keys;
        slots = one.slots;
        rx_mtu = one.rx_mtu;
        time = 0;
        buffers = None;
      };
      values = tables.values;
      bonds = refl;
      owed = refl;
      own = λ ordinal mine. refl;
      others = λ ordinal. refl;
      slots = refl;
      next = refl;
      controller = refl;
    })

settled-start : (start : Start) → IsSettled (run_at_start start).intake.state
unfolding run
settled-start start = is_always_settled start []

together-at-first : (peer : Peer) (one other : Start) (input : List Item) → HasHandles one.table
    → StartsAgree (hidden_while peer (run_at_start one) input) one other
    → Together peer (run_at_start one) (run_at_start other) input
together-at-first peer one other input handles agree = record {
  settled = settled-start one;
  alike = commands_alike peer (hidden_while peer (run_at_start one) input) (before_first_command one) (before_first_command other)
      (starts-alike peer (hidden_while peer (run_at_start one) input) one other handles agree);
  same = refl;
}

pub crosses_nowhere : (peer : Peer) (one other : Start) (input its : List Item) → HasHandles one.table → AllTables HasHandles input
    → Agree peer one other input its
    → SparedIn peer (run_at_start one) input → SparedIn peer (run_at_start other) its → (ordinal : Ordinal)
    → packets_given_by peer ordinal (run_at_start one) input ≡ packets_given_by peer ordinal (run_at_start other) its
crosses_nowhere peer one other input its handles tables agree spared spared_too ordinal =
    given-same peer ordinal input its (run_at_start one) (run_at_start other) (together-at-first peer one other input handles agree.starts)
    tables agree.inputs spared spared_too

all-handles : (items : List Item) → AllTables IsTable items → AllTables HasHandles items
all-handles [] tables = tt
all-handles (AnOctet octet ∷ items) tables = all-handles items tables
all-handles (APacket packet ∷ items) tables = all-handles items tables
all-handles (ACall call ∷ items) tables = all-handles items tables
all-handles (ATable table ∷ items) tables = (tables.0.handles, all-handles items tables.1)
all-handles (TheEnd ∷ items) tables = all-handles items tables

pub nothing_crosses : NothingCrosses
nothing_crosses peer one other input its is tables agree spared spared_too ordinal =
    crosses_nowhere peer one other input its is.handles (all-handles input tables) agree spared spared_too ordinal

pub leaves_connections_the_same : LeavesConnectionsTheSame
unfolding run
leaves_connections_the_same peer one other input its is tables agree spared spared_too =
    let end = together-then peer input its (run_at_start one) (run_at_start other) (together-at-first peer one other input is.handles agree.starts)
    (all-handles input tables) agree.inputs spared spared_too in
    end.alike.own
