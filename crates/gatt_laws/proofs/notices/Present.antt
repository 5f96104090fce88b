-- A listener knows who is there.
use Rattle.std.proofs.Common.{◌≡◌, ℕ, zero, suc, Bool, true, false, List, [], ◌∷◌, map, Option}
use Rattle.std.proofs.Common.{Some, None}
use Rattle.std.proofs.Common.{refl, sym, ap, ◌∙◌}
use Rattle.std.specs.Prelude.{◌++◌, ◌==◌, ◌||◌, replicate, if◌then◌else◌}
use Rattle.std.specs.List.{flat_map}
use Rattle.std.specs.Option.{option_map, option_to_list}
use Rattle.std.proofs.lemmas.Bool.{eqb-true, eq-eqb, or_right}
use Rattle.att_numbers.specs.Types.{Handle, Row}
use Rattle.att_attributes.specs.declared.attr.Attr.{Attr}
use Rattle.att_attributes.specs.Attributes.{is_configuration_at}
use Rattle.att_policy.specs.declared.standing.KeyFacts.{KeyFacts}
use Rattle.att_table.specs.ConfigRow.{bits_at}
use Rattle.gatt_conn.specs.Answer.{is_confirmation}
use Rattle.gatt_laws.proofs.runs.Named.{IsNamedAs}
use Rattle.gatt_laws.specs.machine.Context.{ordinal_where}
use Rattle.gatt_laws.specs.machine.Controller.{Slots, has_free, with_taken, with_freed}
use Rattle.gatt_laws.specs.machine.Event.{Ordinal, Own, Encrypted, Refreshed, Asks}
use Rattle.gatt_laws.specs.machine.Notice.{Notice, Secured, Written}
use Rattle.gatt_laws.specs.machine.Notice.{Configured, Confirmed, TimedOut, Ending, are_same_facts}
use Rattle.gatt_laws.specs.machine.Notice.{link_told, write_told, confirmation_told, end_told, live_told}
use Rattle.gatt_laws.specs.machine.Notice.{late_told, slot_told}
use Rattle.gatt_laws.specs.machine.ConnectionState.{ConnectionState, fresh_connection, is_live, key_of, row_in_force}
use Rattle.gatt_laws.specs.laws.Present.{Present, present_after, present_in}
use Rattle.gatt_laws.specs.machine.SharedState.{SharedState}
use Rattle.gatt_laws.specs.laws.Settled.{has_slot}
use Rattle.gatt_laws.specs.machine.State.{State, slots_when_ready}
use Rattle.gatt_laws.specs.machine.Effect.{Effect, handles_written}
use Rattle.gatt_subs.specs.declared.pending.Unconfirmed.{Unconfirmed}
use Rattle.le_acl.specs.Shares.{usable}
use Rattle.le_hci.specs.declared.init.Init.{Init}
use Rattle.le_hci.specs.declared.init.Init.TheVariants.{Ready}
use Rattle.le_hci.specs.declared.peer.Peer.{Peer}

-- Notices of neither a connection that comes nor one that goes leave who is there.

abbrev pub AreOthers : List Notice → Type 0
AreOthers notices = (present : Present) → present_in present notices ≡ present

pub present_both : (present : Present) (one other : List Notice)
    → present_in present (one ++ other) ≡ present_in (present_in present one) other
present_both present [] other = refl
present_both present (notice ∷ one) other = present_both (present_after present notice) one other

both-others : (one other : List Notice) → AreOthers one → AreOthers other → AreOthers (one ++ other)
both-others one other first second present =
    present_both present one other
    ∙ ap (λ (of : Present). present_in of other) (first present) ∙ second present

either-others : (one other : List Notice) (test : Bool) → AreOthers one → AreOthers other
    → AreOthers (if test then one else other)
either-others one other true first second = first
either-others one other false first second = second

link-others : (handle : ℕ) (old new : Option KeyFacts) → AreOthers (link_told handle old new)
link-others handle None None = λ present. refl
link-others handle None (Some new) = λ present. refl
link-others handle (Some old) None = λ present. refl
link-others handle (Some old) (Some new) =
    either-others [] (Secured handle new ∷ []) (are_same_facts old new) (λ present. refl)
    (λ present. refl)

write-other : (row : Row) (handle : ℕ) (attribute : Handle) (configuration : Bool)
    (present : Present)
    → present_after present
    (if configuration then Configured handle attribute (bits_at row attribute)
    else Written handle attribute) ≡ present
write-other row handle attribute true present = refl
write-other row handle attribute false present = refl

writes-others : (attributes : List Attr) (row : Row) (handle : ℕ) (handles : List Handle)
    → AreOthers (map (write_told attributes row handle) handles)
writes-others attributes row handle [] present = refl
writes-others attributes row handle (attribute ∷ rest) present =
    ap (λ (of : Present). present_in of (map (write_told attributes row handle) rest))
    (write-other row handle attribute (is_configuration_at attributes attribute) present)
    ∙ writes-others attributes row handle rest present

confirmation-others : (handle : ℕ) (unconfirmed : Option Unconfirmed)
    → AreOthers (confirmation_told handle unconfirmed)
confirmation-others handle None = λ present. refl
confirmation-others handle (Some unconfirmed) =
    either-others [] (Confirmed handle unconfirmed.handle ∷ []) unconfirmed.outdated
    (λ present. refl)
    (λ present. refl)

reason-others : (handle : ℕ) (reason : Option ℕ)
    → AreOthers (map (Ending handle) (option_to_list reason))
reason-others handle None present = refl
reason-others handle (Some reason) present = refl

end-others : (handle : ℕ) (new : ConnectionState) → AreOthers (end_told handle new)
end-others handle new =
    either-others [] (map (Ending handle) (option_to_list new.reason)) (is_live new.mark)
    (λ present. refl)
    (reason-others handle new.reason)

live-others : (shared : SharedState) (bond : Row) (connection : ConnectionState) (own : Own) (effect : Effect)
    → AreOthers (live_told shared bond connection own effect)
live-others shared bond connection (Asks pdu) effect =
    both-others (map (write_told shared.table.attributes (row_in_force effect.bond effect.connection) connection.handle)
    (handles_written shared bond connection (Asks pdu)))
    (if is_confirmation pdu then confirmation_told connection.handle connection.pending.unconfirmed else [])
    (writes-others shared.table.attributes (row_in_force effect.bond effect.connection) connection.handle
    (handles_written shared bond connection (Asks pdu)))
    (either-others (confirmation_told connection.handle connection.pending.unconfirmed) [] (is_confirmation pdu)
    (confirmation-others connection.handle connection.pending.unconfirmed) (λ present. refl))
live-others shared bond connection (Encrypted status enabled) effect =
    link-others connection.handle (key_of connection) (key_of effect.connection)
live-others shared bond connection (Refreshed status) effect =
    link-others connection.handle (key_of connection) (key_of effect.connection)
live-others shared bond connection own effect = λ present. refl

pub if-live-others : (shared : SharedState) (bond : Row) (connection : ConnectionState) (own : Own) (effect : Effect)
    → AreOthers (if is_live connection.mark
    then live_told shared bond connection own effect ++ end_told connection.handle effect.connection else [])
if-live-others shared bond connection own effect =
    either-others (live_told shared bond connection own effect ++ end_told connection.handle effect.connection) []
    (is_live connection.mark)
    (both-others (live_told shared bond connection own effect) (end_told connection.handle effect.connection)
    (live-others shared bond connection own effect) (end-others connection.handle effect.connection)) (λ present. refl)

pub slots-others : (state : State) (time : ℕ) (slots : Slots)
    → AreOthers (flat_map (slot_told state time) slots)
slots-others state time [] = λ present. refl
slots-others state time (None ∷ slots) = slots-others state time slots
slots-others state time (Some ordinal ∷ slots) =
    let connection : ConnectionState = state.connections ordinal in
    both-others (late_told time connection) (flat_map (slot_told state time) slots)
    (either-others (TimedOut connection.handle ∷ []) [] _ (λ present. refl) (λ present. refl))
    (slots-others state time slots)

-- Who is found at a handle.

abbrev pub Parts : Type 0
Parts = Ordinal → ConnectionState

abbrev pub found_at : Parts → Slots → ℕ → Option Ordinal
found_at parts slots handle = ordinal_where (λ ordinal. (parts ordinal).handle == handle) slots

abbrev pub peer_at : Parts → Slots → ℕ → Option Peer
peer_at parts slots handle = option_map (λ ordinal. (parts ordinal).peer)
    (found_at parts slots handle)

-- the first slot, or one of the others
peer-first : (parts : Parts) (ordinal : Ordinal) (slots : Slots) (handle : ℕ)
    → peer_at parts (Some ordinal ∷ slots) handle
    ≡ (if (parts ordinal).handle == handle then Some (parts ordinal).peer
    else peer_at parts slots handle)
peer-first parts ordinal slots handle =
    elim ((parts ordinal).handle == handle) as (λ (is : Bool).
    option_map (λ one. (parts one).peer) (if is then Some ordinal else found_at parts slots handle)
    ≡ (if is then Some (parts ordinal).peer
    else peer_at parts slots handle)) [ true ↦ refl | false ↦ refl ]

-- connections that keep their names are found as they were
pub same-peers : (old new : Parts) (slots : Slots) (handle : ℕ)
    → ((ordinal : Ordinal) → has_slot ordinal slots ≡ true → IsNamedAs (old ordinal) (new ordinal))
    → peer_at new slots handle ≡ peer_at old slots handle
same-peers old new [] handle named = refl
same-peers old new (None ∷ slots) handle named = same-peers old new slots handle named
same-peers old new (Some ordinal ∷ slots) handle named =
    let own = named ordinal
    (ap (λ (same : Bool). same || has_slot ordinal slots) (eq-eqb ordinal ordinal refl)) in
    let others = same-peers old new slots handle
    (λ one has. named one (or_right (ordinal == one) _ has)) in
    peer-first new ordinal slots handle
    ∙ (λ i. if own.handle i == handle then Some (own.peer i) else others i)
    ∙ sym (peer-first old ordinal slots handle)

-- no connection that has a slot has a handle that is not in use
pub none-has : (parts : Parts) (slots : Slots) (handle : ℕ) (ordinal : Ordinal)
    → found_at parts slots handle ≡ None → has_slot ordinal slots ≡ true
    → ((parts ordinal).handle == handle) ≡ false
none-has parts [] handle ordinal none has = cc has
none-has parts (None ∷ slots) handle ordinal none has = none-has parts slots handle ordinal none has
none-has parts (Some one ∷ slots) handle ordinal none has =
    first-or-other ((parts one).handle == handle) (one == ordinal) refl refl none has
    (none-has parts slots handle ordinal)
  where
    first-or-other : (is same : Bool) → ((parts one).handle == handle) ≡ is → (one == ordinal)
        ≡ same
        → (if is then Some one else found_at parts slots handle) ≡ None
        → (same || has_slot ordinal slots) ≡ true
        → (found_at parts slots handle ≡ None → has_slot ordinal slots ≡ true
        → ((parts ordinal).handle == handle) ≡ false)
        → ((parts ordinal).handle == handle) ≡ false
    first-or-other true same is this none has later = cc none
    first-or-other false true is this none has later =
        ap (λ (of : Ordinal). (parts of).handle == handle) (sym (eqb-true one ordinal this)) ∙ is
    first-or-other false false is this none has later = later none has

-- a connection takes a slot
module _ (old new : Parts) (at : Ordinal) (handle : ℕ) (peer : Peer)
    (is : IsNamedAs (fresh_connection handle peer) (new at)) where
  -- an earlier slot is of another handle
  later-one : (one other is_new : Bool) (own : Peer) (rest : Option Peer)
      → (is_new ≡ true → one ≡ false)
      → (if one then Some own else if is_new then Some peer else rest)
      ≡ (if is_new then Some peer else if one then Some own else rest)
  later-one true other true own rest apart = let never = apart refl in cc never
  later-one true other false own rest apart = refl
  later-one false other true own rest apart = refl
  later-one false other false own rest apart = refl

  pub taken-peers : (slots : Slots) (asked : ℕ) → has_free slots ≡ true
      → found_at old slots handle ≡ None
      → ((ordinal : Ordinal) → has_slot ordinal slots ≡ true
      → IsNamedAs (old ordinal) (new ordinal))
      → peer_at new (with_taken at slots) asked
      ≡ (if handle == asked then Some peer else peer_at old slots asked)
  taken-peers [] asked free unused named = cc free
  taken-peers (None ∷ slots) asked free unused named =
      let others = same-peers old new slots asked named in
      peer-first new at slots asked
      ∙ (λ i. if is.handle i == asked then Some (is.peer i) else others i)
  taken-peers (Some ordinal ∷ slots) asked free unused named =
      let here : has_slot ordinal (Some ordinal ∷ slots) ≡ true =
      ap (λ (same : Bool). same || has_slot ordinal slots) (eq-eqb ordinal ordinal refl) in
      let own = named ordinal here in
      let differs : ((old ordinal).handle == handle)
      ≡ false = none-has old (Some ordinal ∷ slots) handle ordinal unused here in
      let rest_unused : found_at old slots handle ≡ None =
      ap (λ (same : Bool). if same then Some ordinal else found_at old slots handle) (sym differs)
      ∙ unused in
      let later = taken-peers slots asked free rest_unused
      (λ one has. named one (or_right (ordinal == one) _ has)) in
      peer-first new ordinal (with_taken at slots) asked
      ∙ (λ i. if own.handle i == asked then Some (own.peer i) else later i)
      ∙ later-one ((old ordinal).handle == asked) true (handle == asked) (old ordinal).peer
      (peer_at old slots asked)
      (λ same. ap (λ (of : ℕ). (old ordinal).handle == of) (sym (eqb-true handle asked same))
      ∙ differs)
      ∙ ap (λ (of : Option Peer). if handle == asked then Some peer else of)
      (sym (peer-first old ordinal slots asked))

-- a connection frees its slot
abbrev no-peer : Option Peer
no-peer = None

module _ (old new : Parts) (at : Ordinal) where
  abbrev pub sent : ℕ
  sent = (old at).handle

  freed-one : (asked : ℕ) (ordinal : Ordinal) (slots : Slots) (same : Bool) → (ordinal == at) ≡ same
      → ((old ordinal).handle ≡ sent → ordinal ≡ at)
      → (same ≡ false → IsNamedAs (old ordinal) (new ordinal))
      → peer_at new (with_freed at slots) asked
      ≡ (if sent == asked then None else peer_at old slots asked)
      → peer_at new ((if same then None else Some ordinal) ∷ with_freed at slots) asked
      ≡ (if sent == asked then None else if (old ordinal).handle == asked then Some
      (old ordinal).peer else peer_at old slots asked)
  freed-one asked ordinal slots true is alone named later =
      later ∙ own-or-not (sent == asked) refl
    where
      own-or-not : (own : Bool) → (sent == asked) ≡ own
          → (if own then None else peer_at old slots asked)
          ≡ (if own then None else if (old ordinal).handle == asked then Some (old ordinal).peer
          else peer_at old slots asked)
      own-or-not true own = refl
      own-or-not false own =
          let other : ((old ordinal).handle == asked) ≡ false =
          ap (λ (one : Ordinal). (old one).handle == asked) (eqb-true ordinal at is) ∙ own in
          ap (λ (of : Bool). if of then Some (old ordinal).peer else peer_at old slots asked)
          (sym other)
  freed-one asked ordinal slots false is alone named later =
      let own = named refl in
      peer-first new ordinal (with_freed at slots) asked
      ∙ (λ i. if own.handle i == asked then Some (own.peer i) else later i)
      ∙ apart ((old ordinal).handle == asked) (sent == asked) refl refl
    where
      apart : (one other : Bool) → ((old ordinal).handle == asked) ≡ one → (sent == asked) ≡ other
          → (if one then Some (old ordinal).peer else if other then None
          else peer_at old slots asked)
          ≡ (if other then None else if one then Some (old ordinal).peer
          else peer_at old slots asked)
      apart true true first second =
          let equal : (old ordinal).handle ≡ sent =
          eqb-true (old ordinal).handle asked first ∙ sym (eqb-true sent asked second) in
          let same : (ordinal == at) ≡ true = eq-eqb ordinal at (alone equal) in
          absurd (cc (same, is))
      apart true false first second = refl
      apart false true first second = refl
      apart false false first second = refl

  pub freed-peers : (slots : Slots) (asked : ℕ)
      → ((ordinal : Ordinal) → has_slot ordinal slots ≡ true → (old ordinal).handle ≡ sent
      → ordinal ≡ at)
      → ((ordinal : Ordinal) → (ordinal == at) ≡ false → IsNamedAs (old ordinal) (new ordinal))
      → peer_at new (with_freed at slots) asked
      ≡ (if sent == asked then None else peer_at old slots asked)
  freed-peers [] asked alone named =
      elim (sent == asked) as (λ (is : Bool). no-peer
      ≡ (if is then no-peer else no-peer)) [ true ↦ refl | false ↦ refl ]
  freed-peers (None ∷ slots) asked alone named = freed-peers slots asked alone named
  freed-peers (Some ordinal ∷ slots) asked alone named =
      let here : has_slot ordinal (Some ordinal ∷ slots) ≡ true =
      ap (λ (same : Bool). same || has_slot ordinal slots) (eq-eqb ordinal ordinal refl) in
      freed-one asked ordinal slots (ordinal == at) refl (alone ordinal here) (named ordinal)
      (freed-peers slots asked (λ one has. alone one (or_right (ordinal == one) _ has)) named)
      ∙ ap (λ (of : Option Peer). if sent == asked then None else of)
      (sym (peer-first old ordinal slots asked))

-- and where it has none, nothing is freed
pub freed-none : (at : Ordinal) (slots : Slots) → has_slot at slots ≡ false → with_freed at slots
    ≡ slots
freed-none at [] lacks = refl
freed-none at (None ∷ slots) lacks = ap (λ (of : Slots). None ∷ of) (freed-none at slots lacks)
freed-none at (Some ordinal ∷ slots) lacks =
    by-first (ordinal == at) lacks (freed-none at slots)
  where
    by-first : (same : Bool) → (same || has_slot at slots) ≡ false
        → (has_slot at slots ≡ false → with_freed at slots ≡ slots)
        → (if same then None else Some ordinal) ∷ with_freed at slots ≡ Some ordinal ∷ slots
    by-first true lacks later = cc lacks
    by-first false lacks later = ap (λ (of : Slots). Some ordinal ∷ of) (later lacks)

-- initialisation makes free slots
free-peers : (parts : Parts) (count handle : ℕ) → peer_at parts (replicate count None) handle ≡ None
free-peers parts zero handle = refl
free-peers parts (suc count) handle = free-peers parts count handle

pub init-peers : (parts : Parts) (count : ℕ) (init : Init) (slots : Slots) (handle : ℕ) → slots ≡ []
    → peer_at parts (slots_when_ready count init slots) handle ≡ peer_at parts slots handle
init-peers parts count (Ready length packets) slots handle none =
    free-peers parts (usable count packets) handle
    ∙ ap (λ (of : Slots). peer_at parts of handle) (sym none)
init-peers parts count init slots handle none = refl
