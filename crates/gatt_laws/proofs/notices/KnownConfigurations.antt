-- What a listener knows of configurations after some notices.
use Rattle.std.proofs.Common.{◌≡◌, ℕ, Bool, true, false, List, [], ◌∷◌, Option, Some, None}
use Rattle.std.proofs.Common.{refl, sym, ap, ◌∙◌}
use Rattle.std.specs.Prelude.{◌==◌, ◌&&◌, ◌||◌, not, is_some, All, fold, if◌then◌else◌}
use Rattle.std.specs.List.{list_any}
use Rattle.std.specs.Option.{option_map}
use Rattle.std.proofs.lemmas.Bool.{eqb-true, eq-eqb, or_right}
use Rattle.std.proofs.lemmas.List.Elements.{All-head, All-tail}
use Rattle.att_numbers.specs.Types.{Handle, Row}
use Rattle.att_policy.specs.declared.standing.KeyFacts.{KeyFacts}
use Rattle.att_table.specs.ConfigRow.{bits_at}
use Rattle.gatt_laws.proofs.notices.ConfiguringNotices.{is_configured_notice, is_link_notice}
use Rattle.gatt_laws.proofs.notices.KnownKeys.{IsAlone, connects, has-slot, set-or-kept}
use Rattle.gatt_laws.proofs.notices.Present.{Parts, found_at}
use Rattle.gatt_laws.specs.laws.KnownConfigurations.{Known, is_peer_of, known_after_notice}
use Rattle.gatt_laws.specs.laws.KnownKeys.{KnownKeys, known_keys_after, AreKeysKnown}
use Rattle.gatt_laws.specs.laws.OwnWrites.{row_of_connection}
use Rattle.gatt_laws.specs.laws.Present.{Present, present_in, peers_in, IsKnowing}
use Rattle.gatt_laws.specs.laws.RowNotices.{tells_bits}
use Rattle.gatt_laws.specs.laws.Settled.{has_slot}
use Rattle.gatt_laws.specs.laws.ToldIsSo.{IsSo}
use Rattle.gatt_laws.specs.machine.ConnectionState.{ConnectionState, is_there, key_of}
use Rattle.gatt_laws.specs.machine.Context.{holding}
use Rattle.gatt_laws.specs.machine.Controller.{Slots}
use Rattle.gatt_laws.specs.machine.Event.{Ordinal}
use Rattle.gatt_laws.specs.machine.Notice.{Notice, Connected, Disconnected, Secured, Unsecured, Configured}
use Rattle.gatt_laws.specs.machine.State.{State}
use Rattle.le_hci.specs.declared.peer.Peer.{Peer}
use Rattle.le_security.proofs.Peers.{equal_peers}
use Rattle.le_security.specs.Entry.{same_peer}

-- A connection that is there is the one that is found at its handle.

found-at : (parts : Parts) (slots : Slots) (ordinal : Ordinal) → has_slot ordinal slots ≡ true
    → ((other : Ordinal) → has_slot other slots ≡ true → (parts other).handle ≡ (parts ordinal).handle → other ≡ ordinal)
    → found_at parts slots (parts ordinal).handle ≡ Some ordinal
found-at parts [] ordinal has alone = cc has
found-at parts (None ∷ slots) ordinal has alone = found-at parts slots ordinal has alone
found-at parts (Some one ∷ slots) ordinal has alone =
    by-first ((parts one).handle == (parts ordinal).handle) (one == ordinal) refl refl has
    (λ has_one. found-at parts slots ordinal has_one (λ other later. alone other (or_right (one == other) _ later)))
  where
    by-first : (same is : Bool) → ((parts one).handle == (parts ordinal).handle) ≡ same → (one == ordinal) ≡ is
        → (is || has_slot ordinal slots) ≡ true
        → (has_slot ordinal slots ≡ true → found_at parts slots (parts ordinal).handle ≡ Some ordinal)
        → (if same then Some one else found_at parts slots (parts ordinal).handle) ≡ Some ordinal
    by-first true is same this has_one later =
        ap Some (alone one (ap (λ (of : Bool). of || has_slot one slots) (eq-eqb one one refl))
        (eqb-true (parts one).handle (parts ordinal).handle same))
    by-first false true same this has_one later =
        let equal : ((parts one).handle == (parts ordinal).handle) ≡ true =
        eq-eqb (parts one).handle (parts ordinal).handle
        (ap (λ (of : Ordinal). (parts of).handle) (eqb-true one ordinal this)) in
        absurd (cc (equal, same))
    by-first false false same this has_one later = later has_one

pub held : (state : State) (ordinal : Ordinal) → IsKnowing state → is_there (state.connections ordinal).mark ≡ true
    → holding state (state.connections ordinal).handle ≡ Some ordinal
held state ordinal is there =
    let has = has-slot state ordinal is.settled there in
    found-at state.connections state.slots ordinal has (λ other has_too same. is.handles other ordinal has_too has same)

pub present-at : (state : State) (present : Present) (ordinal : Ordinal) → IsKnowing state → present ≡ peers_in state
    → is_there (state.connections ordinal).mark ≡ true
    → present (state.connections ordinal).handle ≡ Some (state.connections ordinal).peer
present-at state present ordinal is right there =
    ap (λ (of : Present). of (state.connections ordinal).handle) right
    ∙ ap (option_map (λ (one : Ordinal). (state.connections one).peer)) (held state ordinal is there)

-- one whose link has a key is there
keyed-there : (state : State) (ordinal : Ordinal) → IsKnowing state → is_some (key_of (state.connections ordinal)) ≡ true
    → is_there (state.connections ordinal).mark ≡ true
keyed-there state ordinal is keyed =
    elim (has_slot ordinal state.slots) as (λ (has : Bool). has_slot ordinal state.slots ≡ has
    → is_there (state.connections ordinal).mark ≡ true) [
      | true ↦ λ has. is.placed.there ordinal has
      | false ↦ λ lacks.
          let none : is_some (key_of (state.connections ordinal)) ≡ false =
          ap (λ (connection : ConnectionState). is_some (key_of connection)) (is.settled.absent ordinal lacks) in
          absurd (cc (none, keyed))
    ] refl

-- What is known after notices, part by part.

pub fold-present : (notices : List Notice) (known : Known)
    → (fold known_after_notice known notices).present ≡ present_in known.present notices
fold-present [] known = refl
fold-present (notice ∷ rest) known = fold-present rest (known_after_notice known notice)

pub fold-keys : (notices : List Notice) (known : Known)
    → (fold known_after_notice known notices).keys ≡ fold known_keys_after known.keys notices
fold-keys [] known = refl
fold-keys (notice ∷ rest) known = fold-keys rest (known_after_notice known notice)

abbrev pub HasNoLink : List Notice → Type 0
HasNoLink notices = list_any is_link_notice notices ≡ false

abbrev pub HasNoConfiguration : List Notice → Type 0
HasNoConfiguration notices = list_any is_configured_notice notices ≡ false

pub same-present : (notices : List Notice) (present : Present) → HasNoLink notices → present_in present notices ≡ present
same-present [] present none = refl
same-present (Connected handle peer ∷ rest) present none = cc none
same-present (Disconnected handle ∷ rest) present none = cc none
same-present (Secured handle facts ∷ rest) present none = cc none
same-present (Unsecured handle ∷ rest) present none = cc none
same-present (notice ∷ rest) present none = same-present rest present none

pub same-keys : (notices : List Notice) (keys : KnownKeys) → HasNoLink notices → fold known_keys_after keys notices ≡ keys
same-keys [] keys none = refl
same-keys (Connected handle peer ∷ rest) keys none = cc none
same-keys (Disconnected handle ∷ rest) keys none = cc none
same-keys (Secured handle facts ∷ rest) keys none = cc none
same-keys (Unsecured handle ∷ rest) keys none = cc none
same-keys (notice ∷ rest) keys none = same-keys rest keys none

pub same-bonds : (notices : List Notice) (known : Known) (peer : Peer) (attribute : Handle) → HasNoConfiguration notices
    → (fold known_after_notice known notices).bonds peer attribute ≡ known.bonds peer attribute
same-bonds [] known peer attribute none = refl
same-bonds (Configured handle at bits ∷ rest) known peer attribute none = cc none
same-bonds (notice ∷ rest) known peer attribute none =
    same-bonds rest (known_after_notice known notice) peer attribute none

-- The bits of its own that a connection has.
module _ (new : State) (ordinal : Ordinal) (alone : IsAlone new ordinal) (attribute : Handle) where
  abbrev handle : ℕ
  handle = (new.connections ordinal).handle

  abbrev key : Option KeyFacts
  key = key_of (new.connections ordinal)

  abbrev own : ℕ
  own = bits_at (new.connections ordinal).row attribute

  -- where nothing is configured, it has them still, or has just connected
  pub own-unconfigured : (notices : List Notice) (known : Known) → All (IsSo new) notices → HasNoConfiguration notices
      → (list_any (connects handle) notices ≡ false → known.own handle attribute ≡ own)
      → (fold known_after_notice known notices).own handle attribute ≡ own
  own-unconfigured [] known are none keeps = keeps refl
  own-unconfigured (Connected other peer ∷ rest) known are none keeps =
      let is = All-head (IsSo new) (Connected other peer) rest are in
      own-unconfigured rest (known_after_notice known (Connected other peer))
      (All-tail (IsSo new) (Connected other peer) rest are) none
      (set-or-kept 0 (known.own handle attribute) own (other == handle) (list_any (connects handle) rest)
      (λ same.
      ap (λ (row : Row). bits_at row attribute) (sym is.holds.row)
      ∙ ap (λ (one : Ordinal). bits_at (new.connections one).row attribute)
      (alone is.ordinal is.there (is.named ∙ eqb-true other handle same))) keeps)
  own-unconfigured (Configured other at bits ∷ rest) known are none keeps = cc none
  own-unconfigured (notice ∷ rest) known are none keeps =
      own-unconfigured rest (known_after_notice known notice) (All-tail (IsSo new) notice rest are) none keeps

  abbrev pub OwnUntold : List Notice → Type 0
  OwnUntold notices = is_some key ≡ false → list_any (tells_bits handle attribute) notices ≡ false

  -- a configuration sets them while the link has no key
  configured-own : (known : Known) (other at bits : ℕ) (rest : List Notice) → IsSo new (Configured other at bits)
      → known.keys handle ≡ key
      → (OwnUntold (Configured other at bits ∷ rest) → known.own handle attribute ≡ own) → OwnUntold rest
      → (here keyed same : Bool) → (other == handle) ≡ here → is_some (known.keys other) ≡ keyed
      → (at == attribute) ≡ same
      → (if here && not keyed && same then bits else known.own handle attribute) ≡ own
  configured-own known other at bits rest is keys keeps later true false true is_here is_keyed is_same =
      let unkeyed : is_some key ≡ false =
      (λ i. is_some (sym keys i))
      ∙ ap (λ (of : ℕ). is_some (known.keys of)) (sym (eqb-true other handle is_here)) ∙ is_keyed in
      sym is.holds
      ∙ ap (λ (one : Ordinal). bits_at (row_of_connection new one) at)
      (alone is.ordinal is.there (is.named ∙ eqb-true other handle is_here))
      ∙ ap (λ (of : Bool). bits_at (if of then new.bonds (new.connections ordinal).peer
      else (new.connections ordinal).row) at) unkeyed
      ∙ ap (bits_at (new.connections ordinal).row) (eqb-true at attribute is_same)
  configured-own known other at bits rest is keys keeps later true true same is_here is_keyed is_same =
      let keyed : is_some key ≡ true =
      (λ i. is_some (sym keys i))
      ∙ ap (λ (of : ℕ). is_some (known.keys of)) (sym (eqb-true other handle is_here)) ∙ is_keyed in
      keeps (λ unkeyed. absurd (cc (keyed, unkeyed)))
  configured-own known other at bits rest is keys keeps later true false false is_here is_keyed is_same =
      keeps (λ unkeyed. (λ i. (is_here i && is_same i) || list_any (tells_bits handle attribute) rest)
      ∙ later unkeyed)
  configured-own known other at bits rest is keys keeps later false keyed same is_here is_keyed is_same =
      keeps (λ unkeyed. (λ i. (is_here i && (at == attribute)) || list_any (tells_bits handle attribute) rest)
      ∙ later unkeyed)

  pub own-configured : (notices : List Notice) (known : Known) → All (IsSo new) notices → HasNoLink notices
      → known.keys handle ≡ key → (OwnUntold notices → known.own handle attribute ≡ own)
      → (fold known_after_notice known notices).own handle attribute ≡ own
  own-configured [] known are none keys keeps = keeps (λ unkeyed. refl)
  own-configured (Connected other peer ∷ rest) known are none keys keeps = cc none
  own-configured (Disconnected other ∷ rest) known are none keys keeps = cc none
  own-configured (Secured other facts ∷ rest) known are none keys keeps = cc none
  own-configured (Unsecured other ∷ rest) known are none keys keeps = cc none
  own-configured (Configured other at bits ∷ rest) known are none keys keeps =
      own-configured rest (known_after_notice known (Configured other at bits))
      (All-tail (IsSo new) (Configured other at bits) rest are) none keys
      (λ later. configured-own known other at bits rest (All-head (IsSo new) (Configured other at bits) rest are)
      keys keeps later (other == handle) (is_some (known.keys other)) (at == attribute) refl refl refl)
  own-configured (notice ∷ rest) known are none keys keeps =
      own-configured rest (known_after_notice known notice) (All-tail (IsSo new) notice rest are) none keys keeps

-- The bits of the bond of a peer.
module _ (new : State) (knowing : IsKnowing new) (peer : Peer) (attribute : Handle) where
  abbrev bits_of_bond : ℕ
  bits_of_bond = bits_at (new.bonds peer) attribute

  abbrev pub BondUntold : List Notice → Type 0
  BondUntold notices = (ordinal : Ordinal) → same_peer peer (new.connections ordinal).peer ≡ true
      → is_some (key_of (new.connections ordinal)) ≡ true
      → list_any (tells_bits (new.connections ordinal).handle attribute) notices ≡ false

  module _ (known : Known) (keys : AreKeysKnown new known.keys) (present : known.present ≡ peers_in new)
      (other at bits : ℕ) (rest : List Notice) where
    -- a configuration of a connection of the peer whose link has a key is of another attribute
    another : ((is_some (known.keys other) ≡ true) → is_peer_of peer (known.present other) ≡ true
        → (at == attribute) ≡ false)
        → BondUntold rest → BondUntold (Configured other at bits ∷ rest)
    another differs later ordinal its keyed =
        let of : ℕ = (new.connections ordinal).handle in
        elim (other == of) as (λ (here : Bool). (other == of) ≡ here
        → ((here && (at == attribute)) || list_any (tells_bits of attribute) rest) ≡ false) [
          | true ↦ λ here.
              let there = keyed-there new ordinal knowing keyed in
              let same : other ≡ of = eqb-true other of here in
              let is_keyed : is_some (known.keys other) ≡ true =
              ap (λ (one : ℕ). is_some (known.keys one)) same
              ∙ ap (λ (found : Option KeyFacts). is_some found) (keys ordinal there) ∙ keyed in
              let is_its : is_peer_of peer (known.present other) ≡ true =
              ap (λ (one : ℕ). is_peer_of peer (known.present one)) same
              ∙ ap (is_peer_of peer) (present-at new known.present ordinal knowing present there) ∙ its in
              let different = differs is_keyed is_its in
              (λ i. different i || list_any (tells_bits of attribute) rest) ∙ later ordinal its keyed
          | false ↦ λ elsewhere. later ordinal its keyed
        ] refl

    configured-bond : IsSo new (Configured other at bits)
        → (BondUntold (Configured other at bits ∷ rest) → known.bonds peer attribute ≡ bits_of_bond) → BondUntold rest
        → (keyed its same : Bool) → is_some (known.keys other) ≡ keyed → is_peer_of peer (known.present other) ≡ its
        → (at == attribute) ≡ same
        → (if keyed && its && same then bits else known.bonds peer attribute) ≡ bits_of_bond
    configured-bond is keeps later true true true is_keyed is_its is_same =
        let connection : ConnectionState = new.connections is.ordinal in
        let has_key : is_some (key_of connection) ≡ true =
        (λ i. is_some (sym (keys is.ordinal is.there) i))
        ∙ ap (λ (of : ℕ). is_some (known.keys of)) is.named ∙ is_keyed in
        let of_peer : same_peer peer connection.peer ≡ true =
        ap (is_peer_of peer) (sym (present-at new known.present is.ordinal knowing present is.there))
        ∙ ap (λ (of : ℕ). is_peer_of peer (known.present of)) is.named ∙ is_its in
        sym is.holds
        ∙ ap (λ (of : Bool). bits_at (if of then new.bonds connection.peer else connection.row) at) has_key
        ∙ ap (λ (of : Peer). bits_at (new.bonds of) at) (sym (equal_peers peer connection.peer of_peer))
        ∙ ap (bits_at (new.bonds peer)) (eqb-true at attribute is_same)
    configured-bond is keeps later true true false is_keyed is_its is_same =
        keeps (another (λ keyed its. is_same) later)
    configured-bond is keeps later true false same is_keyed is_its is_same =
        keeps (another (λ keyed its. absurd (cc (is_its, its))) later)
    configured-bond is keeps later false its same is_keyed is_its is_same =
        keeps (another (λ keyed of. absurd (cc (is_keyed, keyed))) later)

  pub bonds-configured : (notices : List Notice) (known : Known) → All (IsSo new) notices → HasNoLink notices
      → AreKeysKnown new known.keys → known.present ≡ peers_in new
      → (BondUntold notices → known.bonds peer attribute ≡ bits_of_bond)
      → (fold known_after_notice known notices).bonds peer attribute ≡ bits_of_bond
  bonds-configured [] known are none keys present keeps = keeps (λ ordinal its keyed. refl)
  bonds-configured (Connected other of ∷ rest) known are none keys present keeps = cc none
  bonds-configured (Disconnected other ∷ rest) known are none keys present keeps = cc none
  bonds-configured (Secured other facts ∷ rest) known are none keys present keeps = cc none
  bonds-configured (Unsecured other ∷ rest) known are none keys present keeps = cc none
  bonds-configured (Configured other at bits ∷ rest) known are none keys present keeps =
      bonds-configured rest (known_after_notice known (Configured other at bits))
      (All-tail (IsSo new) (Configured other at bits) rest are) none keys present
      (λ later. configured-bond known keys present other at bits rest
      (All-head (IsSo new) (Configured other at bits) rest are) keeps later
      (is_some (known.keys other)) (is_peer_of peer (known.present other)) (at == attribute) refl refl refl)
  bonds-configured (notice ∷ rest) known are none keys present keeps =
      bonds-configured rest (known_after_notice known notice) (All-tail (IsSo new) notice rest are) none keys present
      keeps
