-- Values are notified one by one for all connections: the same as if each connection heard all of them in its turn.
use Rattle.std.proofs.Common.{◌≡◌, ℕ, zero, suc, ◌+◌, ◌<◌, ◌≤◌, ◌==◌, Bool, true, false, if◌then◌else◌, List, [], ◌∷◌, length, Option, Some, None, refl, sym, ap, subst, ◌∙◌, arith}
use Rattle.std.specs.Int.{bit_at}
use Rattle.std.proofs.lemmas.Bool.{cases_lt}
use Rattle.std.proofs.Math.Logic.{⊎_elim}
use Rattle.att_numbers.specs.Types.{Handle, Row}
use Rattle.att_policy.specs.declared.standing.Standing.{Standing}
use Rattle.att_table.specs.Table.{Contents}
use Rattle.host_connections.specs.SlotState.{SlotState}
use Rattle.host_connections.specs.Places.{may_listen, Covers}
use Rattle.host_connections.specs.Slots.{SlotStates, all_heard, all_notified, all_notified_in_turn, handles_for, slot_heard, heard_from, is_in, is_own_place, slot_state_at, slot_notified_at, slot_notified}
use Rattle.host_connections.specs.declared.places.Due.TheVariants.{Indication, Value}
use Rattle.host_api.specs.declared.TheConstants.{MAX_SLOTS}
use Rattle.host_connections.proofs.Found.{clash, past}
use Rattle.host_connections.proofs.Uncovered.{unmarked_idle}
use Rattle.host_connections.proofs.Quiet.{nothing_raised, quiet_slot, unlistening}
use Rattle.gatt_subs.specs.Hearing.{may_hear_at}
use Rattle.gatt_subs.specs.Rows.{Subscriptions}

-- what happens to each slot, one thing behind the other
pub together : (later first : ℕ → Option SlotState → Option SlotState) (start : ℕ) (slots : SlotStates)
    → heard_from start later (heard_from start first slots) ≡ heard_from start (λ place slot. later place (first place slot)) slots
together later first start [] = refl
together later first start (slot ∷ slots) = ap (λ (rest : SlotStates). later start (first start slot) ∷ rest) (together later first (start + 1) slots)

pub nothing : (start : ℕ) (slots : SlotStates) → heard_from start (λ place slot. slot) slots ≡ slots
nothing start [] = refl
nothing start (slot ∷ slots) = ap (λ (rest : SlotStates). slot ∷ rest) (nothing (start + 1) slots)

pub alike : (one other : ℕ → Option SlotState → Option SlotState) (slots : SlotStates)
    → ((place : ℕ) (slot : Option SlotState) → one place slot ≡ other place slot)
    → heard_from 0 one slots ≡ heard_from 0 other slots
alike one other slots same = λ i. heard_from 0 (λ place slot. same place slot i) slots

-- the same where the slots that are there hear the same
pub alike-there : (one other : ℕ → Option SlotState → Option SlotState) (start : ℕ) (slots : SlotStates)
    → ((place : ℕ) → one (start + place) (slot_state_at slots place) ≡ other (start + place) (slot_state_at slots place)) → heard_from start one slots
    ≡ heard_from start other slots
alike-there one other start [] same = refl
alike-there one other start (slot ∷ slots) same =
    let here : start ≡ start + 0 = omega arith in
    λ i. (ap (λ (at : ℕ). one at slot) here ∙ same zero ∙ ap (λ (at : ℕ). other at slot) (sym here)) i
    ∷ alike-there one other (start + 1) slots (λ place. next one place ∙ same (suc place) ∙ sym (next other place)) i
  where
    next : (hear : ℕ → Option SlotState → Option SlotState) (place : ℕ) → hear (start + 1 + place) (slot_state_at slots place)
        ≡ hear (start + suc place) (slot_state_at slots place)
    next hear place = let same : start + 1 + place ≡ start + suc place = omega arith in ap (λ (at : ℕ). hear at (slot_state_at slots place)) same

either : (test : Bool) (slot : Option SlotState) → (if test then slot else slot) ≡ slot
either true slot = refl
either false slot = refl

module _ (table : Contents) (now : ℕ) (rows : Subscriptions) where
  -- for one connection
  abbrev raised : List Handle → Option SlotState → Option SlotState
  raised [] slot = slot
  raised (handle ∷ handles) slot = raised handles (slot_notified table now rows handle slot)

  next-heard : (handle : Handle) (handles : List Handle) (slot : Option SlotState)
      → slot_heard table now rows (handle ∷ handles) slot ≡ slot_heard table now rows handles (slot_notified table now rows handle slot)
  next-heard handle handles None = refl
  next-heard handle handles (Some slot_state) =
      elim slot_state.live as (λ (live : Bool). let it : Option SlotState = Some (record slot_state { live = live }) in
      slot_heard table now rows (handle ∷ handles) it ≡ slot_heard table now rows handles (slot_notified table now rows handle it)) [
        | true ↦ refl
        | false ↦ refl
      ]

  heard-in-turn : (handles : List Handle) (slot : Option SlotState) → slot_heard table now rows handles slot
      ≡ slot_heard table now rows [] (raised handles slot)
  heard-in-turn [] slot = refl
  heard-in-turn (handle ∷ handles) slot = next-heard handle handles slot ∙ heard-in-turn handles (slot_notified table now rows handle slot)

  -- one that may not listen hears of no value
  pub unlistened : (handles : List Handle) (slot : Option SlotState) → may_listen slot ≡ false → slot_heard table now rows handles slot
      ≡ slot_heard table now rows [] slot
  unlistened [] slot deaf = refl
  unlistened (handle ∷ handles) slot deaf =
      next-heard handle handles slot
      ∙ ap (λ (it : Option SlotState). slot_heard table now rows handles it) (unlistening table now rows handle slot deaf)
      ∙ unlistened handles slot deaf

  raised-none : (handles : List Handle) → raised handles None ≡ None
  raised-none [] = refl
  raised-none (handle ∷ handles) = raised-none handles

  -- for those of a set
  abbrev raised-if : Bool → List Handle → Option SlotState → Option SlotState
  raised-if among handles slot = if among then raised handles slot else slot

  abbrev raised-where : ℕ → List Handle → ℕ → Option SlotState → Option SlotState
  raised-where places handles place slot = raised-if (is_in places place) handles slot

  in-turn : (places : ℕ) (handles : List Handle) (slots : SlotStates)
      → all_notified_in_turn table now rows places handles slots ≡ heard_from 0 (raised-where places handles) slots
  in-turn places [] slots = sym (alike (raised-where places []) (λ place slot. slot) slots (λ place slot. either (is_in places place) slot) ∙ nothing 0 slots)
  in-turn places (handle ∷ handles) slots =
      in-turn places handles (all_notified table now rows places handle slots)
      ∙ together (raised-where places handles) (slot_notified_at table now rows places handle) 0 slots
      ∙ alike (λ place slot. raised-where places handles place (slot_notified_at table now rows places handle place slot))
      (raised-where places (handle ∷ handles)) slots
      (λ place slot. both place slot)
    where
      both : (place : ℕ) (slot : Option SlotState) → raised-where places handles place (slot_notified_at table now rows places handle place slot)
          ≡ raised-where places (handle ∷ handles) place slot
      both place slot = elim (is_in places place) as (λ (among : Bool).
          (if among then raised handles (if among then slot_notified table now rows handle slot else slot)
          else (if among then slot_notified table now rows handle slot else slot))
          ≡ (if among then raised handles (slot_notified table now rows handle slot) else slot)) [
            | true ↦ refl
            | false ↦ refl
          ]

  -- of a value of which nobody may hear
  pub nobody_hears : (places : ℕ) (handle : Handle) (slots : SlotStates)
      → ((row : Row) (standing : Standing) → may_hear_at table.attributes row standing handle ≡ false)
      → slots ≡ all_notified table now rows places handle slots
  nobody_hears places handle slots silent =
      sym (alike (slot_notified_at table now rows places handle) (λ place slot. slot) slots (λ place slot. same (is_in places place) slot) ∙ nothing 0 slots)
    where
      same : (among : Bool) (slot : Option SlotState) → (if among then slot_notified table now rows handle slot else slot) ≡ slot
      same true slot = nothing_raised table now rows handle silent slot
      same false slot = refl

  -- what is due of what waits is heard by all, if those hear it that are marked
  pub waiting_heard : (places : ℕ) (slots : SlotStates) → Covers Indication places slots
      → heard_from 0 (λ place slot. if is_in places place then slot_heard table now rows [] slot else slot) slots ≡ all_heard table now rows None [] [] slots
  waiting_heard places slots covers =
      alike-there (λ place slot. if is_in places place then slot_heard table now rows [] slot else slot)
      (λ place slot. slot_heard table now rows (handles_for None [] [] place) slot) 0 slots
      (λ place. let first : 0 + place ≡ place = omega arith in
      ap (λ (it : ℕ). if is_in places it then slot_heard table now rows [] (slot_state_at slots place) else slot_state_at slots place) first
      ∙ by place (is_in places place) refl)
    where
      by : (place : ℕ) (is : Bool) → is_in places place ≡ is
          → (if is then slot_heard table now rows [] (slot_state_at slots place) else slot_state_at slots place)
          ≡ slot_heard table now rows [] (slot_state_at slots place)
      by place true is = refl
      by place false is = sym (quiet_slot table now rows (slot_state_at slots place) (unmarked_idle Indication places slots place covers is))

  -- for all of them
  module _ (own : Option ℕ) where
    -- of the set of those that may listen, `mine` has the connection that it happened to, and `theirs` the others
    module _ (mine theirs listening : ℕ) (here handles : List Handle) (slots : SlotStates) (covers : Covers Value listening slots)
        (own_mine : (place : ℕ) → place < MAX_SLOTS → is_own_place own place ≡ true → bit_at mine place ≡ 1)
        (others_mine : (place : ℕ) → place < MAX_SLOTS → is_own_place own place ≡ false → bit_at mine place ≡ 0)
        (own_theirs : (place : ℕ) → place < MAX_SLOTS → is_own_place own place ≡ true → bit_at theirs place ≡ 0)
        (others_theirs : (place : ℕ) → place < MAX_SLOTS → is_own_place own place ≡ false → bit_at theirs place ≡ bit_at listening place) where
      abbrev raised-by : ℕ → ℕ → Option SlotState → Option SlotState
      raised-by my their slot = slot_heard table now rows [] (raised-if (their == 1) handles (raised-if (my == 1) here slot))

      abbrev heard-by : Bool → Option SlotState → Option SlotState
      heard-by is slot = slot_heard table now rows (if is then here else handles) slot

      theirs-heard : (place : ℕ) (in-it : Bool) → is_in listening place ≡ in-it
          → slot_heard table now rows [] (raised-if in-it handles (slot_state_at slots place)) ≡ slot_heard table now rows handles (slot_state_at slots place)
      theirs-heard place true is = sym (heard-in-turn handles (slot_state_at slots place))
      theirs-heard place false is = sym (unlistened handles (slot_state_at slots place) (deaf (may_listen (slot_state_at slots place)) refl))
        where
          deaf : (so : Bool) → may_listen (slot_state_at slots place) ≡ so → may_listen (slot_state_at slots place) ≡ false
          deaf true so = clash (ap (λ (bit : ℕ). bit == 1) (covers place so)) is
          deaf false so = so

      each-within : (place : ℕ) → place < MAX_SLOTS → (is : Bool) → is_own_place own place ≡ is
          → raised-by (bit_at mine place) (bit_at theirs place) (slot_state_at slots place) ≡ heard-by (is_own_place own place) (slot_state_at slots place)
      each-within place few true is =
          (λ i. raised-by (own_mine place few is i) (own_theirs place few is i) (slot_state_at slots place))
          ∙ sym (heard-in-turn here (slot_state_at slots place))
          ∙ ap (λ (so : Bool). heard-by so (slot_state_at slots place)) (sym is)
      each-within place few false is =
          (λ i. raised-by (others_mine place few is i) (others_theirs place few is i) (slot_state_at slots place))
          ∙ theirs-heard place (is_in listening place) refl
          ∙ ap (λ (so : Bool). heard-by so (slot_state_at slots place)) (sym is)

      nobody-there : (my their : Bool) (is : Bool) → slot_heard table now rows [] (raised-if their handles (raised-if my here None)) ≡ heard-by is None
      nobody-there my their is = ap (λ (it : Option SlotState). slot_heard table now rows [] it)
          (ap (raised-if their handles) (none my here) ∙ none their handles)
        where
          none : (among : Bool) (values : List Handle) → raised-if among values None ≡ None
          none true values = raised-none values
          none false values = refl

      each : length slots ≤ MAX_SLOTS → (place : ℕ)
          → slot_heard table now rows [] (raised-where theirs handles (0 + place) (raised-where mine here (0 + place) (slot_state_at slots place)))
          ≡ slot_heard table now rows (handles_for own here handles (0 + place)) (slot_state_at slots place)
      each few place =
          let first : 0 + place ≡ place = omega arith in
          subst (λ (at : ℕ). raised-by (bit_at mine at) (bit_at theirs at) (slot_state_at slots place)
          ≡ heard-by (is_own_place own at) (slot_state_at slots place)) (sym first)
          (⊎_elim (λ within. each-within place within (is_own_place own place) refl)
          (λ beyond. subst (λ (it : Option SlotState). raised-by (bit_at mine place) (bit_at theirs place) it ≡ heard-by (is_own_place own place) it)
          (sym (past slots place (omega (arith, few, beyond)))) (nobody-there (bit_at mine place == 1) (bit_at theirs place == 1) (is_own_place own place)))
          (cases_lt place MAX_SLOTS))

      pub all_in_turn : length slots ≤ MAX_SLOTS
          → all_heard table now rows None [] [] (all_notified_in_turn table now rows theirs handles (all_notified_in_turn table now rows mine here slots))
          ≡ all_heard table now rows own here handles slots
      all_in_turn few =
          let first : ℕ → Option SlotState → Option SlotState = raised-where mine here in
          let second : ℕ → Option SlotState → Option SlotState = raised-where theirs handles in
          let released : ℕ → Option SlotState → Option SlotState = λ place slot. slot_heard table now rows [] slot in
          ap (heard_from 0 released) (in-turn theirs handles (all_notified_in_turn table now rows mine here slots)
          ∙ ap (heard_from 0 second) (in-turn mine here slots) ∙ together second first 0 slots)
          ∙ together released (λ place slot. second place (first place slot)) 0 slots
          ∙ alike-there (λ place slot. released place (second place (first place slot)))
          (λ place slot. slot_heard table now rows (handles_for own here handles place) slot) 0 slots
          (each few)

    -- where no other connection may listen, what is notified changes nothing
    pub nobody_listens : (handles : List Handle) (slots : SlotStates)
        → ((place : ℕ) → may_listen (slot_state_at slots place) ≡ true → is_own_place own place ≡ true)
        → all_heard table now rows own [] handles slots ≡ all_heard table now rows None [] [] slots
    nobody_listens handles slots only =
        alike-there (λ place slot. slot_heard table now rows (handles_for own [] handles place) slot) (λ place slot. slot_heard table now rows [] slot) 0 slots
        (λ place. at place (slot_state_at slots place) (only place))
      where
        hears : (place : ℕ) (slot : Option SlotState) → (may_listen slot ≡ true → is_own_place own place ≡ true)
            → (is : Bool) → is_own_place own place ≡ is → slot_heard table now rows (if is then [] else handles) slot ≡ slot_heard table now rows [] slot
        hears place slot only true is = refl
        hears place slot only false is = unlistened handles slot (deaf (may_listen slot) refl)
          where
            deaf : (so : Bool) → may_listen slot ≡ so → may_listen slot ≡ false
            deaf true so = clash (only so) is
            deaf false so = so

        at : (place : ℕ) (slot : Option SlotState) → (may_listen slot ≡ true → is_own_place own place ≡ true)
            → slot_heard table now rows (handles_for own [] handles (0 + place)) slot ≡ slot_heard table now rows [] slot
        at place slot only =
            let first : 0 + place ≡ place = omega arith in
            ap (λ (it : ℕ). slot_heard table now rows (handles_for own [] handles it) slot) first
            ∙ hears place slot only (is_own_place own place) refl

    -- nor does it where nothing is notified
    pub nothing_is_raised : (slots : SlotStates) → all_heard table now rows own [] [] slots ≡ all_heard table now rows None [] [] slots
    nothing_is_raised slots =
        alike (λ place slot. slot_heard table now rows (handles_for own [] [] place) slot) (λ place slot. slot_heard table now rows [] slot) slots
        (λ place slot. ap (λ (handles : List Handle). slot_heard table now rows handles slot) (none (is_own_place own place)))
      where
        nothing-raised : List Handle
        nothing-raised = []

        none : (is : Bool) → (if is then nothing-raised else nothing-raised) ≡ nothing-raised
        none true = refl
        none false = refl
