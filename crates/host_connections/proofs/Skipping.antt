-- Which values are skipped, by how many PDUs are queued: none while few are, and none for a connection that may hear of none.
use Rattle.std.proofs.Common.{◌≡◌, ◌≢◌, ℕ, zero, suc, ◌+◌, ◌*◌, ◌<◌, ◌≤◌, Bool, true, false, List, [], ◌∷◌, ◌++◌, length, map, drop, get_or, Option, Some, None, refl, sym, ap, subst, ◌∙◌, arith, append_assoc, length-append}
use Rattle.std.specs.Prelude.{◌==◌, ◌&&◌, ◌||◌, if◌then◌else◌, is_some, not, nat_lt}
use Rattle.std.specs.Option.{option_to_list}
use Rattle.std.proofs.lemmas.Bool.{and_right}
use Rattle.std.proofs.lemmas.Bool.Decides.{nat_tests}
use Rattle.std.proofs.lemmas.List.{length-map}
use Rattle.att_numbers.specs.Types.{Handle, Mtu, Row, Values}
use Rattle.att_policy.specs.declared.standing.Standing.{Standing}
use Rattle.att_attributes.specs.declared.attr.Attr.{Attr}
use Rattle.att_table.specs.Table.{Contents}
use Rattle.gatt_laws.specs.machine.Heard.{skipped_in_turn}
use Rattle.host_connections.proofs.Found.{clash}
use Rattle.host_connections.proofs.Quiet.{none_in_force, unasked}
use Rattle.gatt_conn.specs.Connection.{Bearer}
use Rattle.gatt_laws.specs.machine.ConnectionState.{KeyReply}
use Rattle.host_connections.specs.declared.skipped.Skipped.{Skipped}
use Rattle.host_connections.specs.declared.slot.Use.{Use}
use Rattle.host_connections.specs.declared.slot.Use.TheVariants.{Live}
use Rattle.host_connections.specs.Hearing.{HearerFacts, delivery_of, hearer_facts_of, row_by_key, slot_hearer}
use Rattle.host_connections.specs.Places.{may_listen, Covers, IsFirstPlace}
use Rattle.host_connections.specs.declared.places.Due.TheVariants.{Value}
use Rattle.host_api.specs.declared.TheConstants.{MAX_SLOTS}
use Rattle.host_connections.proofs.Uncovered.{unmarked_idle}
use Rattle.std.specs.Int.{bit_at}
use Rattle.std.proofs.lemmas.Nat.Bits.{bit_at-zero}
use Rattle.host_connections.specs.Skips.{skips_among, skip_of, skips_by, skips_from, slot_skips, all_skipped, wants_notification}
use Rattle.host_connections.specs.SlotState.{SlotState, standing_with}
use Rattle.host_connections.specs.Slots.{SlotStates, handles_for, is_in, is_own_place, slot_state_at}
use Rattle.host_connections.specs.Use.{slot_state_where}
use Rattle.gatt_subs.specs.declared.pending.TheConstants.{MAX_BACKLOG}
use Rattle.gatt_subs.specs.declared.pending.Unconfirmed.{Unconfirmed}
use Rattle.gatt_subs.specs.Hearing.{may_hear_at, wants_indications}
use Rattle.gatt_subs.specs.Indications.{Indications, with_handle}
use Rattle.gatt_subs.specs.Rows.{Subscriptions, row_of}
use Rattle.gatt_subs.specs.Told.{Hearer, notification_of}
use Rattle.le_acl.specs.Sending.{Sending}
use Rattle.le_hci.specs.declared.peer.Peer.{Peer}
use Rattle.le_security.specs.Link.{Linking}

-- of a connection that serves the values in their turn are those by how many PDUs are queued: what waits does not matter
module _ (attributes : List Attr) (values : Values) (row : Row) (standing : Standing) (mtu : Mtu) (unconfirmed : Option Unconfirmed) (timed_out : Bool) where
  abbrev pending-with : List Handle → Indications
  pending-with waiting = record { waiting = waiting; unconfirmed = unconfirmed; timed_out = timed_out }

  abbrev hearer-with : List Handle → ℕ → Hearer
  hearer-with waiting backlog = record { live = true; standing = standing; row = row; mtu = mtu; backlog = backlog; pending = pending-with waiting }

  -- a value in its turn, by whether it is heard, whether it is to be indicated, and whether few PDUs are queued
  abbrev turn : Bool → Bool → Bool → List Handle → ℕ → Handle → List Handle → List Handle
  turn heard indicated few waiting backlog handle handles =
      (if heard && not indicated && not few then handle ∷ [] else [])
      ++ skipped_in_turn attributes values (record {
        live = true;
        standing = standing;
        row = row;
        mtu = mtu;
        backlog = backlog + length (option_to_list (if heard && not indicated && few then Some (notification_of values handle mtu) else None));
        pending = if heard && indicated then record (pending-with waiting) { waiting = with_handle waiting handle } else pending-with waiting;
      }) handles

  abbrev turn-by : Bool → Bool → Bool → (Handle → Bool) → ℕ → Handle → List Handle → List Handle
  turn-by heard indicated few wants backlog handle handles =
      if heard && not indicated then (if few then skips_by wants (backlog + 1) handles else handle ∷ skips_by wants backlog handles)
      else skips_by wants backlog handles

  in-turn : (first : List Handle) (waiting : List Handle) (backlog : ℕ) (handles : List Handle)
      → skipped_in_turn attributes values (hearer-with waiting backlog) handles
      ≡ skips_by (wants_notification attributes (pending-with first) row standing) backlog handles
  in-turn first waiting backlog [] = refl
  in-turn first waiting backlog (handle ∷ handles) =
      by (not timed_out && may_hear_at attributes row standing handle) (wants_indications row handle) (nat_lt backlog MAX_BACKLOG)
      (λ waiting backlog. in-turn first waiting backlog handles)
    where
      wants : Handle → Bool
      wants = wants_notification attributes (pending-with first) row standing

      same : backlog + 0 ≡ backlog
      same = omega arith

      by : (heard indicated few : Bool) → ((waiting : List Handle) (backlog : ℕ) → skipped_in_turn attributes values (hearer-with waiting backlog) handles
          ≡ skips_by wants backlog handles)
          → turn heard indicated few waiting backlog handle handles ≡ turn-by heard indicated few wants backlog handle handles
      by true true few later =
          ap (λ (n : ℕ). skipped_in_turn attributes values (hearer-with (with_handle waiting handle) n) handles) same
          ∙ later (with_handle waiting handle) backlog
      by true false true later = later waiting (backlog + 1)
      by true false false later =
          ap (λ (n : ℕ). handle ∷ skipped_in_turn attributes values (hearer-with waiting n) handles) same
          ∙ ap (λ (rest : List Handle). handle ∷ rest) (later waiting backlog)
      by false indicated few later =
          ap (λ (n : ℕ). skipped_in_turn attributes values (hearer-with waiting n) handles) same
          ∙ later waiting backlog

pub skipped_by : (attributes : List Attr) (values : Values) (row : Row) (standing : Standing) (mtu : Mtu) (backlog : ℕ) (pending : Indications)
    (handles : List Handle)
    → skipped_in_turn attributes values (record { live = true; standing = standing; row = row; mtu = mtu; backlog = backlog; pending = pending }) handles
    ≡ skips_by (wants_notification attributes pending row standing) backlog handles
skipped_by attributes values row standing mtu backlog pending handles =
    in-turn attributes values row standing mtu pending.unconfirmed pending.timed_out pending.waiting pending.waiting backlog handles

-- while few PDUs are queued, none is skipped
few-test : (backlog : ℕ) → backlog < MAX_BACKLOG → nat_lt backlog MAX_BACKLOG ≡ true
few-test backlog few = grind (arith, nat_tests, few)

pub none_skipped : (wants : Handle → Bool) (backlog : ℕ) (handles : List Handle) → backlog + length handles ≤ MAX_BACKLOG → skips_by wants backlog handles ≡ []
none_skipped wants backlog [] few = refl
none_skipped wants backlog (handle ∷ handles) few =
    ap (λ (is : Bool). if wants handle then (if is then skips_by wants (backlog + 1) handles else handle ∷ skips_by wants backlog handles) else skips_by wants
    backlog handles)
    (few-test backlog (omega (arith, few)))
    ∙ elim (wants handle) as (λ (wanted : Bool). (if wanted then skips_by wants (backlog + 1) handles else skips_by wants backlog handles) ≡ []) [
      | true ↦ none_skipped wants (backlog + 1) handles (omega (arith, few))
      | false ↦ none_skipped wants backlog handles (omega (arith, few))
    ]

-- and no more than there are
few-of : (wants : Handle → Bool) (wanted few : Bool) (backlog : ℕ) (handle : Handle) (handles : List Handle)
    → length (skips_by wants (backlog + 1) handles) ≤ length handles → length (skips_by wants backlog handles) ≤ length handles
    → length (if wanted then (if few then skips_by wants (backlog + 1) handles else handle ∷ skips_by wants backlog handles) else skips_by wants backlog
    handles) ≤ suc (length handles)
few-of wants true true backlog handle handles sent not = omega (arith, sent)
few-of wants true false backlog handle handles sent not = omega (arith, not)
few-of wants false few backlog handle handles sent not = omega (arith, not)

pub few_skipped : (wants : Handle → Bool) (backlog : ℕ) (handles : List Handle) → length (skips_by wants backlog handles) ≤ length handles
few_skipped wants backlog [] = omega arith
few_skipped wants backlog (handle ∷ handles) =
    few-of wants (wants handle) (nat_lt backlog MAX_BACKLOG) backlog handle handles (few_skipped wants (backlog + 1) handles)
    (few_skipped wants backlog handles)

-- value by value
abbrev pub skips_behind : (Handle → Bool) → Bool → Bool → ℕ → Handle → List Handle → List Handle
skips_behind wants wanted few backlog handle handles =
    if wanted then (if few then skips_by wants (backlog + 1) handles else handle ∷ skips_by wants backlog handles) else skips_by wants backlog handles

skips-next : (wants : Handle → Bool) (backlog index : ℕ) (handles : List Handle) → index < length handles
    → skips_by wants backlog (drop index handles)
    ≡ skips_behind wants (wants (get_or handles index 0)) (nat_lt backlog MAX_BACKLOG) backlog (get_or handles index 0) (drop (suc index) handles)
skips-next wants backlog index [] within = absurd (omega (arith, within))
skips-next wants backlog zero (handle ∷ handles) within = refl
skips-next wants backlog (suc index) (handle ∷ handles) within = skips-next wants backlog index handles (omega (arith, within))

pub skips_next : (wants : Handle → Bool) (backlog index : ℕ) (handles : List Handle) → index < length handles
    → skips_by wants backlog (drop index handles)
    ≡ skips_behind wants (wants (get_or handles index 0)) (nat_lt backlog MAX_BACKLOG) backlog (get_or handles index 0) (drop (index + 1) handles)
skips_next wants backlog index handles within =
    let one : suc index ≡ index + 1 = omega arith in
    skips-next wants backlog index handles within
    ∙ ap (λ (count : ℕ). skips_behind wants (wants (get_or handles index 0)) (nat_lt backlog MAX_BACKLOG) backlog (get_or handles index 0) (drop count handles))
    one

-- so that there is room for each
module _ (wants : Handle → Bool) (backlog index : ℕ) (handles : List Handle) (within : index < length handles) (skip : Handle → Skipped)
    (noted whole : List Skipped)
    (so_far : noted ++ map skip (skips_by wants backlog (drop index handles)) ≡ whole) where
  abbrev next : Handle
  next = get_or handles index 0

  abbrev behind : Bool → Bool → List Handle
  behind wanted few = skips_behind wants wanted few backlog next (drop (index + 1) handles)

  turned : (wanted few : Bool) → wants next ≡ wanted → nat_lt backlog MAX_BACKLOG ≡ few → noted ++ map skip (behind wanted few) ≡ whole
  turned wanted few is so =
      ap (λ (rest : List Handle). noted ++ map skip rest) (sym (skips_next wants backlog index handles within ∙ (λ i. behind (is i) (so i)))) ∙ so_far

  full-test : MAX_BACKLOG ≤ backlog → nat_lt backlog MAX_BACKLOG ≡ false
  full-test full = grind (arith, nat_tests, full)

  pub room_for_skipped : (most : ℕ) → wants next ≡ true → MAX_BACKLOG ≤ backlog → length whole ≤ most → length noted < most
  room_for_skipped most is full few =
      let rest : List Skipped = map skip (skips_by wants backlog (drop (index + 1) handles)) in
      let all : length (noted ++ skip next ∷ rest) ≡ length whole = ap (λ (it : List Skipped). length it) (turned true false is (full-test full)) in
      omega (arith, all, few, length-append noted (skip next ∷ rest))

-- of a slot whose connection serves
pub skips_where_live : (table : Contents) (now : ℕ) (rows : Subscriptions) (handles : List Handle) (used : Use) (handle : ℕ) (peer : Peer) (key_known : Bool)
    (until : ℕ) (row : Row) (link : Linking)
    (conn : Bearer) (pending : Indications) (sender : Sending) (reply : Option KeyReply) (reason : Option ℕ) → used ≡ Live
    → slot_skips table now rows handles (slot_state_where used handle peer key_known until row link conn pending sender reply reason)
    ≡ map (skip_of handle) (skips_by (wants_notification table.attributes pending (row_by_key (is_some link.key) (row_of rows peer) row)
    (standing_with link key_known until now))
    (length sender.outgoing.queue) handles)
skips_where_live table now rows handles used handle peer key_known until row link conn pending sender reply reason is =
    ap (λ (it : Use). slot_skips table now rows handles (slot_state_where it handle peer key_known until row link conn pending sender reply reason)) is
    ∙ ap (λ (skipped : List Handle). map (skip_of handle) skipped)
    (skipped_by table.attributes table.values (row_by_key (is_some link.key) (row_of rows peer) row)
    (standing_with link key_known until now) conn.mtu (length sender.outgoing.queue) pending handles)

-- of any slot no more are skipped than are notified to its connection
if-live : (live : Bool) (most : ℕ) (skips : List Skipped) → length skips ≤ most → length (if live then skips else []) ≤ most
if-live true most skips few = few
if-live false most skips few = omega arith

pub few_of_slot : (table : Contents) (now : ℕ) (rows : Subscriptions) (handles : List Handle) (slot : Option SlotState)
    → length (slot_skips table now rows handles slot) ≤ length handles
few_of_slot table now rows handles None = omega arith
few_of_slot table now rows handles (Some slot_state) =
    let ear : HearerFacts = hearer_facts_of now (row_of rows slot_state.peer) slot_state in
    let backlog : ℕ = length slot_state.outgoing.queue in
    let skipped : List Handle = skipped_in_turn table.attributes table.values (slot_hearer ear (delivery_of slot_state)) handles in
    let wants : Handle → Bool = wants_notification table.attributes slot_state.pending ear.row ear.standing in
    let is : length skipped ≡ length (skips_by wants backlog handles) =
    ap (λ (it : List Handle). length it) (skipped_by table.attributes table.values ear.row ear.standing ear.mtu backlog slot_state.pending handles) in
    if-live slot_state.live (length handles) (map (skip_of slot_state.handle) skipped)
    (omega (arith, few_skipped wants backlog handles, is, length-map skipped (skip_of slot_state.handle)))

-- slot by slot
pub few_from : (skips : ℕ → Option SlotState → List Skipped) (most start : ℕ) (slots : SlotStates)
    → ((place : ℕ) (slot : Option SlotState) → length (skips place slot) ≤ most)
    → length (skips_from start skips slots) ≤ length slots * most
few_from skips most start [] few = omega arith
few_from skips most start (slot ∷ slots) few =
    let product : suc (length slots) * most ≡ length slots * most + most = search arith in
    omega (arith, product, few start slot, few_from skips most (start + 1) slots few, length-append (skips start slot) (skips_from (start + 1) skips slots))

pub few_for : (table : Contents) (now : ℕ) (rows : Subscriptions) (own : Option ℕ) (here handles : List Handle) (most : ℕ) → length here ≤ most
    → length handles ≤ most
    → (place : ℕ) (slot : Option SlotState) → length (slot_skips table now rows (handles_for own here handles place) slot) ≤ most
few_for table now rows own here handles most few_here few place slot =
    elim (is_own_place own place) as (λ (is : Bool). length (slot_skips table now rows (if is then here else handles) slot) ≤ most) [
      | true ↦ omega (arith, few_of_slot table now rows here slot, few_here)
      | false ↦ omega (arith, few_of_slot table now rows handles slot, few)
    ]

-- none is skipped that is not to be sent: a connection that may not listen misses none
none-wanted : (wants : Handle → Bool) (backlog : ℕ) (handles : List Handle) → ((handle : Handle) → wants handle ≡ false) → skips_by wants backlog handles ≡ []
none-wanted wants backlog [] none = refl
none-wanted wants backlog (handle ∷ handles) none =
    ap (λ (wanted : Bool). skips_behind wants wanted (nat_lt backlog MAX_BACKLOG) backlog handle handles) (none handle) ∙ none-wanted wants backlog handles none

no-values : (table : Contents) (now : ℕ) (rows : Subscriptions) (slot : Option SlotState) → slot_skips table now rows [] slot ≡ []
no-values table now rows None = refl
no-values table now rows (Some slot_state) =
    elim slot_state.live as (λ (live : Bool). (if live then nothing else nothing) ≡ nothing) [
      | true ↦ refl
      | false ↦ refl
    ]
  where
    nothing : List Skipped
    nothing = []

pub deaf_skips : (table : Contents) (now : ℕ) (rows : Subscriptions) (handles : List Handle) (slot : Option SlotState) → may_listen slot ≡ false
    → slot_skips table now rows handles slot ≡ []
deaf_skips table now rows handles None deaf = refl
deaf_skips table now rows handles (Some slot_state) deaf =
    let ear : HearerFacts = hearer_facts_of now (row_of rows slot_state.peer) slot_state in
    let backlog : ℕ = length slot_state.outgoing.queue in
    let skipped : List Skipped = map (skip_of slot_state.handle)
    (skipped_in_turn table.attributes table.values (slot_hearer ear (delivery_of slot_state)) handles) in
    elim slot_state.live as (λ (live : Bool). (live && (is_some slot_state.link.key || not (length slot_state.row == 0))) ≡ false
    → (if live then skipped else []) ≡ []) [
      | true ↦ λ none.
          ap (λ (it : List Handle). map (skip_of slot_state.handle) it)
          (skipped_by table.attributes table.values ear.row ear.standing ear.mtu backlog slot_state.pending handles
          ∙ none-wanted (wants_notification table.attributes slot_state.pending ear.row ear.standing) backlog handles
          (λ handle. ap (λ (heard : Bool). heard && not (wants_indications ear.row handle))
          (and_right (not slot_state.pending.timed_out) (may_hear_at table.attributes ear.row ear.standing handle)
          (ap (λ (row : Row). may_hear_at table.attributes row ear.standing handle) (none_in_force (row_of rows slot_state.peer) slot_state none)
          ∙ unasked table.attributes ear.standing handle))))
      | false ↦ λ none. refl
    ] deaf

none-from : (skips : ℕ → Option SlotState → List Skipped) (start : ℕ) (slots : SlotStates)
    → ((place : ℕ) → skips (start + place) (slot_state_at slots place) ≡ []) → skips_from start skips slots ≡ []
none-from skips start [] none = refl
none-from skips start (slot ∷ slots) none =
    let here : start ≡ start + 0 = omega arith in
    ap (λ (first : List Skipped). first ++ skips_from (start + 1) skips slots) (ap (λ (at : ℕ). skips at slot) here ∙ none zero)
    ∙ none-from skips (start + 1) slots (λ place. next place ∙ none (suc place))
  where
    next : (place : ℕ) → skips (start + 1 + place) (slot_state_at slots place) ≡ skips (start + suc place) (slot_state_at slots place)
    next place = let same : start + 1 + place ≡ start + suc place = omega arith in ap (λ (at : ℕ). skips at (slot_state_at slots place)) same

module _ (table : Contents) (now : ℕ) (rows : Subscriptions) (own : Option ℕ) where
  -- so if no other connection may listen, nor does one miss anything if nothing is notified
  pub nobody_misses : (handles : List Handle) (slots : SlotStates)
      → ((place : ℕ) → may_listen (slot_state_at slots place) ≡ true → is_own_place own place ≡ true)
      → all_skipped table now rows own [] handles slots ≡ []
  nobody_misses handles slots only =
      none-from (λ place slot. slot_skips table now rows (handles_for own [] handles place) slot) 0 slots
      (λ place. at place (slot_state_at slots place) (only place))
    where
      misses : (place : ℕ) (slot : Option SlotState) → (may_listen slot ≡ true → is_own_place own place ≡ true)
          → (is : Bool) → is_own_place own place ≡ is → slot_skips table now rows (if is then [] else handles) slot ≡ []
      misses place slot only true is = no-values table now rows slot
      misses place slot only false is = deaf_skips table now rows handles slot (deaf (may_listen slot) refl)
        where
          deaf : (so : Bool) → may_listen slot ≡ so → may_listen slot ≡ false
          deaf true so = clash (only so) is
          deaf false so = so

      at : (place : ℕ) (slot : Option SlotState) → (may_listen slot ≡ true → is_own_place own place ≡ true)
          → slot_skips table now rows (handles_for own [] handles (0 + place)) slot ≡ []
      at place slot only =
          let first : 0 + place ≡ place = omega arith in
          ap (λ (it : ℕ). slot_skips table now rows (handles_for own [] handles it) slot) first
          ∙ misses place slot only (is_own_place own place) refl

  pub nothing_is_missed : (slots : SlotStates) → all_skipped table now rows own [] [] slots ≡ []
  nothing_is_missed slots =
      none-from (λ place slot. slot_skips table now rows (handles_for own [] [] place) slot) 0 slots
      (λ place. ap (λ (handles : List Handle). slot_skips table now rows handles (slot_state_at slots place)) (none (is_own_place own (0 + place)))
      ∙ no-values table now rows (slot_state_at slots place))
    where
      no-handles : List Handle
      no-handles = []

      none : (is : Bool) → (if is then no-handles else no-handles) ≡ no-handles
      none true = refl
      none false = refl

-- slot by slot, of those whose places are in a set
shifted : (skips : ℕ → Option SlotState → List Skipped) (start place : ℕ) (slot : Option SlotState) → skips (start + suc place) slot
    ≡ skips (start + 1 + place) slot
shifted skips start place slot = let same : start + suc place ≡ start + 1 + place = omega arith in ap (λ (at : ℕ). skips at slot) same

here : (skips : ℕ → Option SlotState → List Skipped) (start : ℕ) (slot : Option SlotState) → skips start slot ≡ skips (start + 0) slot
here skips start slot = let same : start ≡ start + 0 = omega arith in ap (λ (at : ℕ). skips at slot) same

alike-from : (one other : ℕ → Option SlotState → List Skipped) (start : ℕ) (slots : SlotStates)
    → ((place : ℕ) → place < length slots → one (start + place) (slot_state_at slots place) ≡ other (start + place) (slot_state_at slots place))
    → skips_from start one slots ≡ skips_from start other slots
alike-from one other start [] same = refl
alike-from one other start (slot ∷ slots) same =
    λ i. (here one start slot ∙ same zero (omega arith) ∙ sym (here other start slot)) i
    ++ alike-from one other (start + 1) slots (λ place within.
    sym (shifted one start place (slot_state_at slots place)) ∙ same (suc place) (omega (arith, within))
    ∙ shifted other start place (slot_state_at slots place)) i

-- the first of them, and the rest
first-from : (one rest : ℕ → Option SlotState → List Skipped) (start place : ℕ) (slots : SlotStates) → place < length slots
    → ((other : ℕ) → other < place → one (start + other) (slot_state_at slots other) ≡ [])
    → rest (start + place) (slot_state_at slots place) ≡ []
    → ((other : ℕ) → other < length slots → other ≢ place → rest (start + other) (slot_state_at slots other) ≡ one (start + other) (slot_state_at slots other))
    → skips_from start one slots ≡ one (start + place) (slot_state_at slots place) ++ skips_from start rest slots
first-from one rest start place [] within before gone others = absurd (omega (arith, within))
first-from one rest start zero (slot ∷ slots) within before gone others =
    (λ i. here one start slot i ++ alike-from one rest (start + 1) slots (λ other there.
    sym (shifted one start other (slot_state_at slots other)) ∙ sym (others (suc other) (omega (arith, there)) (omega arith))
    ∙ shifted rest start other (slot_state_at slots other)) i)
    ∙ ap (λ (it : List Skipped). one (start + 0) slot ++ (it ++ skips_from (start + 1) rest slots)) (sym (here rest start slot ∙ gone))
first-from one rest start (suc place) (slot ∷ slots) within before gone others =
    ap (λ (it : List Skipped). it ++ skips_from (start + 1) one slots) (here one start slot ∙ before zero (omega arith))
    ∙ first-from one rest (start + 1) place slots (omega (arith, within))
    (λ other less. sym (shifted one start other (slot_state_at slots other)) ∙ before (suc other) (omega (arith, less)))
    (sym (shifted rest start place (slot_state_at slots place)) ∙ gone)
    (λ other there apart. sym (shifted rest start other (slot_state_at slots other)) ∙ others (suc other) (omega (arith, there)) (omega (arith, apart))
    ∙ shifted one start other (slot_state_at slots other))
    ∙ ap (λ (it : List Skipped). it ++ skips_from (start + 1) rest slots) (sym (shifted one start place (slot_state_at slots place)))
    ∙ ap (λ (it : List Skipped). one (start + suc place) (slot_state_at slots place) ++ (it ++ skips_from (start + 1) rest slots))
    (sym (here rest start slot ∙ others zero (omega arith) (omega arith) ∙ before zero (omega arith)))

abbrev pub skips_in : (ℕ → Option SlotState → List Skipped) → ℕ → SlotStates → List Skipped
skips_in skips places slots = skips_from 0 (λ place slot. if is_in places place then skips place slot else []) slots

abbrev if-in : Bool → List Skipped → List Skipped
if-in is those = if is then those else []

module _ (skips : ℕ → Option SlotState → List Skipped) (left rest place : ℕ) (slots : SlotStates) (noted whole : List Skipped) (few : length slots ≤ MAX_SLOTS)
    (first : IsFirstPlace left place)
    (removed : bit_at rest place ≡ 0) (others : (other : ℕ) → other < MAX_SLOTS → other ≢ place → bit_at rest other ≡ bit_at left other)
    (so_far : noted ++ skips_in skips left slots ≡ whole) where
  abbrev by-bit : ℕ → ℕ → Option SlotState → List Skipped
  by-bit bit at slot = if-in (bit == 1) (skips at slot)

  abbrev in-set : ℕ → ℕ → Option SlotState → List Skipped
  in-set places at slot = by-bit (bit_at places at) at slot

  zero-at : (at : ℕ) → 0 + at ≡ at
  zero-at at = omega arith

  -- a fact of a place, as the pass over the slots has it
  at-zero : (places at : ℕ) (slot : Option SlotState) (those : List Skipped) → in-set places at slot ≡ those → in-set places (0 + at) slot ≡ those
  at-zero places at slot those is = ap (λ (it : ℕ). in-set places it slot) (zero-at at) ∙ is

  split : place < length slots → skips_in skips left slots ≡ skips place (slot_state_at slots place) ++ skips_in skips rest slots
  split within =
      let slot : Option SlotState = slot_state_at slots place in
      first-from (in-set left) (in-set rest) 0 place slots within
      (λ other less. at-zero left other (slot_state_at slots other) []
      (ap (λ (bit : ℕ). by-bit bit other (slot_state_at slots other)) (first.before other less)))
      (at-zero rest place slot [] (ap (λ (bit : ℕ). by-bit bit place slot) removed))
      (λ other there apart. at-zero rest other (slot_state_at slots other) (in-set left (0 + other) (slot_state_at slots other))
      (ap (λ (bit : ℕ). by-bit bit other (slot_state_at slots other)) (others other (omega (arith, there, few)) apart)
      ∙ sym (at-zero left other (slot_state_at slots other) (in-set left other (slot_state_at slots other)) refl)))
      ∙ ap (λ (it : List Skipped). it ++ skips_in skips rest slots)
      (at-zero left place slot (skips place slot) (ap (λ (bit : ℕ). by-bit bit place slot) first.within))

  pub notes_at : place < length slots → (noted ++ skips place (slot_state_at slots place)) ++ skips_in skips rest slots ≡ whole
  notes_at within =
      append_assoc noted (skips place (slot_state_at slots place)) (skips_in skips rest slots)
      ∙ ap (λ (it : List Skipped). noted ++ it) (sym (split within)) ∙ so_far

  pub notes_past : length slots ≤ place → noted ++ skips_in skips rest slots ≡ whole
  notes_past beyond =
      ap (λ (it : List Skipped). noted ++ it) (alike-from (in-set rest) (in-set left) 0 slots (λ other there.
      at-zero rest other (slot_state_at slots other) (in-set left (0 + other) (slot_state_at slots other))
      (ap (λ (bit : ℕ). by-bit bit other (slot_state_at slots other)) (others other (omega (arith, there, few)) (omega (arith, there, beyond)))
      ∙ sym (at-zero left other (slot_state_at slots other) (in-set left other (slot_state_at slots other)) refl))))
      ∙ so_far

  pub room_at : (most : ℕ) → place < length slots → whole ≡ skips_from 0 skips slots → ((at : ℕ) (slot : Option SlotState) → length (skips at slot) ≤ most)
      → length noted + length (skips place (slot_state_at slots place)) ≤ length slots * most
  room_at most within is each =
      let here-too : List Skipped = skips place (slot_state_at slots place) in
      let later : List Skipped = skips_in skips rest slots in
      let count : length ((noted ++ here-too) ++ later) ≡ length (skips_from 0 skips slots) = ap (λ (it : List Skipped). length it) (notes_at within ∙ is) in
      omega (arith, count, length-append (noted ++ here-too) later, length-append noted here-too, few_from skips most 0 slots each)

pub none_left : (skips : ℕ → Option SlotState → List Skipped) (left : ℕ) (slots : SlotStates) → left ≡ 0 → skips_in skips left slots ≡ []
none_left skips left slots empty =
    none-from (λ place slot. if is_in left place then skips place slot else []) 0 slots
    (λ place. ap (λ (bits : ℕ). if is_in bits (0 + place) then skips (0 + place) (slot_state_at slots place) else []) empty
    ∙ ap (λ (bit : ℕ). if bit == 1 then skips (0 + place) (slot_state_at slots place) else []) (bit_at-zero (0 + place)))

-- those miss all that is missed that may listen
pub listeners_miss : (table : Contents) (now : ℕ) (rows : Subscriptions) (own : Option ℕ) (these those : List Handle) (places : ℕ) (slots : SlotStates)
    → Covers Value places slots
    → skips_in (λ place slot. slot_skips table now rows (handles_for own these those place) slot) places slots
    ≡ all_skipped table now rows own these those slots
listeners_miss table now rows own these those places slots covers =
    alike-from (λ place slot. if-in (is_in places place) (skips place slot)) skips 0 slots (λ place within.
    let first : 0 + place ≡ place = omega arith in
    subst (λ (at : ℕ). if-in (is_in places at) (skips at (slot_state_at slots place)) ≡ skips at (slot_state_at slots place)) (sym first)
    (by place (is_in places place) refl))
  where
    skips : ℕ → Option SlotState → List Skipped
    skips place slot = slot_skips table now rows (handles_for own these those place) slot

    by : (place : ℕ) (is : Bool) → is_in places place ≡ is → if-in is (skips place (slot_state_at slots place)) ≡ skips place (slot_state_at slots place)
    by place true is = refl
    by place false is = sym (deaf_skips table now rows (handles_for own these those place) (slot_state_at slots place)
        (unmarked_idle Value places slots place covers is))

-- a value of which nobody may hear is skipped for nobody
silent-slot : (table : Contents) (now : ℕ) (rows : Subscriptions) (handle : Handle)
    → ((row : Row) (standing : Standing) → may_hear_at table.attributes row standing handle ≡ false)
    → (slot : Option SlotState) → slot_skips table now rows (handle ∷ []) slot ≡ []
silent-slot table now rows handle silent None = refl
silent-slot table now rows handle silent (Some slot_state) =
    let ear : HearerFacts = hearer_facts_of now (row_of rows slot_state.peer) slot_state in
    let backlog : ℕ = length slot_state.outgoing.queue in
    let wants : Handle → Bool = wants_notification table.attributes slot_state.pending ear.row ear.standing in
    let unwanted : wants handle ≡ false =
    ap (λ (heard : Bool). heard && not (wants_indications ear.row handle))
    (and_right (not slot_state.pending.timed_out) (may_hear_at table.attributes ear.row ear.standing handle) (silent ear.row ear.standing)) in
    let skipped : List Handle = skipped_in_turn table.attributes table.values (slot_hearer ear (delivery_of slot_state)) (handle ∷ []) in
    let none : map (skip_of slot_state.handle) skipped ≡ [] =
    ap (λ (it : List Handle). map (skip_of slot_state.handle) it)
    (skipped_by table.attributes table.values ear.row ear.standing ear.mtu backlog slot_state.pending (handle ∷ [])
    ∙ ap (λ (wanted : Bool). skips_behind wants wanted (nat_lt backlog MAX_BACKLOG) backlog handle []) unwanted) in
    elim slot_state.live as (λ (live : Bool). (if live then map (skip_of slot_state.handle) skipped else []) ≡ []) [
      | true ↦ none
      | false ↦ refl
    ]

pub silent_skips : (table : Contents) (now : ℕ) (rows : Subscriptions) (places : ℕ) (handle : Handle) (slots : SlotStates)
    → ((row : Row) (standing : Standing) → may_hear_at table.attributes row standing handle ≡ false)
    → skips_among table now rows places (handle ∷ []) slots ≡ []
silent_skips table now rows places handle slots silent =
    none-from (λ place slot. if is_in places place then slot_skips table now rows (handle ∷ []) slot else []) 0 slots
    (λ place. by (is_in places (0 + place)) (slot_state_at slots place))
  where
    by : (is : Bool) (slot : Option SlotState) → (if is then slot_skips table now rows (handle ∷ []) slot else []) ≡ []
    by true slot = silent-slot table now rows handle silent slot
    by false slot = refl

-- one value is skipped for a connection once at most
pub one_at_most : (table : Contents) (now : ℕ) (rows : Subscriptions) (places : ℕ) (handle : Handle) (slots : SlotStates)
    → length (skips_among table now rows places (handle ∷ []) slots) ≤ length slots
one_at_most table now rows places handle slots =
    let few = few_from (λ place slot. if is_in places place then slot_skips table now rows (handle ∷ []) slot else []) 1 0 slots
    (λ place slot. by (is_in places place) slot) in
    let once : length slots * 1 ≡ length slots = omega arith in
    omega (arith, few, once)
  where
    by : (is : Bool) (slot : Option SlotState) → length (if is then slot_skips table now rows (handle ∷ []) slot else []) ≤ 1
    by true slot = let few = few_of_slot table now rows (handle ∷ []) slot in omega (arith, few)
    by false slot = omega arith

-- of one value: those miss all that is missed that may listen, but for the one that it happened to
module _ (table : Contents) (now : ℕ) (rows : Subscriptions) (own : Option ℕ) (theirs listening : ℕ) (handle : Handle) (slots : SlotStates)
    (covers : Covers Value listening slots)
    (own_theirs : (place : ℕ) → place < MAX_SLOTS → is_own_place own place ≡ true → bit_at theirs place ≡ 0)
    (others_theirs : (place : ℕ) → place < MAX_SLOTS → is_own_place own place ≡ false → bit_at theirs place ≡ bit_at listening place) where
  abbrev missed-by : Bool → ℕ → List Skipped
  missed-by is place = slot_skips table now rows (if is then [] else handle ∷ []) (slot_state_at slots place)

  abbrev noted-by : ℕ → ℕ → List Skipped
  noted-by bit place = if bit == 1 then slot_skips table now rows (handle ∷ []) (slot_state_at slots place) else []

  theirs-missed : (place : ℕ) (in-it : Bool) → is_in listening place ≡ in-it
      → (if in-it then slot_skips table now rows (handle ∷ []) (slot_state_at slots place) else [])
      ≡ slot_skips table now rows (handle ∷ []) (slot_state_at slots place)
  theirs-missed place true is = refl
  theirs-missed place false is =
      sym (deaf_skips table now rows (handle ∷ []) (slot_state_at slots place) (unmarked_idle Value listening slots place covers is))

  missed-at : (place : ℕ) → place < MAX_SLOTS → (is : Bool) → is_own_place own place ≡ is → noted-by (bit_at theirs place) place ≡ missed-by is place
  missed-at place few true is =
      ap (λ (bit : ℕ). noted-by bit place) (own_theirs place few is) ∙ sym (no-values table now rows (slot_state_at slots place))
  missed-at place few false is =
      ap (λ (bit : ℕ). noted-by bit place) (others_theirs place few is) ∙ theirs-missed place (is_in listening place) refl

  pub others_miss : length slots ≤ MAX_SLOTS
      → skips_among table now rows theirs (handle ∷ []) slots ≡ all_skipped table now rows own [] (handle ∷ []) slots
  others_miss few =
      alike-from (λ place slot. if is_in theirs place then slot_skips table now rows (handle ∷ []) slot else [])
      (λ place slot. slot_skips table now rows (handles_for own [] (handle ∷ []) place) slot) 0 slots (λ place within.
      let first : 0 + place ≡ place = omega arith in
      subst (λ (at : ℕ). (if is_in theirs at then slot_skips table now rows (handle ∷ []) (slot_state_at slots place) else [])
      ≡ slot_skips table now rows (handles_for own [] (handle ∷ []) at) (slot_state_at slots place)) (sym first)
      (missed-at place (omega (arith, within, few)) (is_own_place own place) refl))
