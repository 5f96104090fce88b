-- What is fitted to a table.
use Rattle.std.proofs.Common.{◌≡◌, ℕ, ◌+◌, ◌-◌, ◌<◌, ◌≤◌, true, false, if◌then◌else◌, List, [], ◌∷◌, ◌++◌, length, get_or, take, drop, map, filter, Option, Some, None, refl, ap, sym, ◌∙◌, arith}
use Rattle.std.specs.Int.RustNames.{bit_and}
use Rattle.std.proofs.lemmas.Nat.{and_le_r}
use Rattle.std.proofs.lemmas.Bool.Decides.{nat_tests}
use Rattle.std.proofs.lemmas.Grind.{common_steps}
use Rattle.std.specs.Option.{option_map, option_map_or}
use Rattle.std.proofs.lemmas.List.{at_drop_more, map_more}
use Rattle.std.proofs.lemmas.Option.{slice_get-get_or, slice_get_within, get_or_from_slice_get}
use Rattle.std.specs.Prelude.{slice_get}
use Rattle.std.proofs.lemmas.Bool.{and_parts}
use Rattle.att_numbers.specs.Types.{Handle, Row}
use Rattle.att_policy.specs.declared.guard.Properties.{Properties}
use Rattle.att_policy.specs.declared.guard.TheConstants.Properties.{NOTIFY, INDICATE}
use Rattle.att_policy.specs.Policy.{configuration_bits_of, has_property}
use Rattle.att_attributes.specs.declared.attr.Attr.{Attr}
use Rattle.att_attributes.specs.Attributes.{attribute_at, is_configuration_at, configuration_bits_at}
use Rattle.att_table.specs.ConfigRow.{with_bits, is_supported}
use Rattle.le_hci.specs.declared.peer.Peer.{Peer}
use Rattle.le_security.specs.declared.entry.Entry.{Entry}
use Rattle.le_security.specs.Entry.{same_peer}
use Rattle.le_security.specs.Keys.{peer_at}
use Rattle.gatt_subs.specs.declared.bond.Bond.{Bond}
use Rattle.gatt_subs.specs.declared.row_entry.RowEntry.{RowEntry}
use Rattle.gatt_subs.specs.Fit.{peers_with, with_peer, with_entries}
use Rattle.gatt_subs.specs.Rows.{row_in}

-- bits that are supported are bits of a configuration
pub supported_configuration : (attributes : List Attr) (handle bits : ℕ) → is_supported attributes (handle, bits) ≡ true → is_configuration_at attributes handle
    ≡ true
supported_configuration attributes handle bits is = (and_parts (is_configuration_at attributes handle) _ is).0

configuration_handle : (attributes : List Attr) (handle : ℕ) → is_configuration_at attributes handle ≡ true → 0 < handle
configuration_handle attributes handle is = grind (arith, common_steps, nat_tests)

pub supported_handle : (attributes : List Attr) (handle bits : ℕ) → is_supported attributes (handle, bits) ≡ true → 0 < handle
supported_handle attributes handle bits is = configuration_handle attributes handle (supported_configuration attributes handle bits is)

few_in : (properties : Properties) → configuration_bits_of properties ≤ 3
few_in properties =
    elim (has_property properties NOTIFY) as (λ notifies. (if notifies then 1 else 0) + (if has_property properties INDICATE then 2 else 0) ≤ 3) [
      | true ↦ elim (has_property properties INDICATE) as (λ indicates. 1 + (if indicates then 2 else 0) ≤ 3) [ true ↦ omega arith | false ↦ omega arith ]
      | false ↦ elim (has_property properties INDICATE) as (λ indicates. 0 + (if indicates then 2 else 0) ≤ 3) [ true ↦ omega arith | false ↦ omega arith ]
    ]

few_of : (found : Option Attr) → option_map_or (λ (attr : Attr). configuration_bits_of attr.guard.properties) found 0 ≤ 3
few_of None = omega arith
few_of (Some attr) = few_in attr.guard.properties

few_bits : (attributes : List Attr) (handle : ℕ) → configuration_bits_at attributes handle ≤ 3
few_bits attributes handle = few_of (attribute_at attributes (handle - 1))

pub supported_bits : (attributes : List Attr) (handle bits : ℕ) → is_supported attributes (handle, bits) ≡ true → bits ≤ 3
supported_bits attributes handle bits is =
    let same : bit_and bits (configuration_bits_at attributes handle) ≡ bits =
    grind (arith, nat_tests, (and_parts (is_configuration_at attributes handle) _ is).1) in
    omega (arith, and_le_r bits (configuration_bits_at attributes handle), few_bits attributes handle)

pub ruleset supports = (supported_configuration, supported_handle, supported_bits)

-- a step of the loops that fit rows
fits_more : (attributes : List Attr) (row entries : Row) (i : ℕ) (d : Handle × ℕ) → i < length entries
    → with_entries (if is_supported attributes (get_or entries i d) then with_bits row (get_or entries i d).0 (get_or entries i d).1 else row)
    (filter (is_supported attributes) (drop (i + 1) entries))
    ≡ with_entries row (filter (is_supported attributes) (drop i entries))
fits_more attributes row entries i d within =
    let entry = get_or entries i d in
    let rest = filter (is_supported attributes) (drop (i + 1) entries) in
    elim (is_supported attributes entry) as (λ is. with_entries (if is then with_bits row entry.0 entry.1 else row) rest
    ≡ with_entries row (if is then entry ∷ rest else rest)) [
      | true ↦ refl
      | false ↦ refl
    ]
    ∙ sym (at_drop_more (λ (left : Row). with_entries row (filter (is_supported attributes) left)) entries i d within)

pub fits_next : (attributes : List Attr) (row entries : Row) (place : ℕ) (entry : Handle × ℕ) → slice_get entries place ≡ Some entry
    → with_entries (if is_supported attributes entry then with_bits row entry.0 entry.1 else row) (filter (is_supported attributes) (drop (place + 1) entries))
    ≡ with_entries row (filter (is_supported attributes) (drop place entries))
fits_next attributes row entries place entry at =
    let rest = filter (is_supported attributes) (drop (place + 1) entries) in
    ap (λ (of : Handle × ℕ). with_entries (if is_supported attributes of then with_bits row of.0 of.1 else row) rest)
    (sym (get_or_from_slice_get entries place entry entry at))
    ∙ fits_more attributes row entries place entry (slice_get_within entries place entry at)

-- the same of what was read: entries of other peers are passed over
pub fits_entry : (attributes : List Attr) (row : Row) (entries : List RowEntry) (peer : Peer) (i : ℕ) (d : RowEntry) → i < length entries
    → same_peer (get_or entries i d).peer peer ≡ true
    → with_entries (if is_supported attributes ((get_or entries i d).handle, (get_or entries i d).bits)
    then with_bits row (get_or entries i d).handle (get_or entries i d).bits else row)
    (filter (is_supported attributes) (row_in (drop (i + 1) entries) peer))
    ≡ with_entries row (filter (is_supported attributes) (row_in (drop i entries) peer))
fits_entry attributes row entries peer i d within own =
    let entry = get_or entries i d in
    let rest = filter (is_supported attributes) (row_in (drop (i + 1) entries) peer) in
    let pair : Handle × ℕ = (entry.handle, entry.bits) in
    let step : with_entries (if is_supported attributes pair then with_bits row entry.handle entry.bits else row) rest
    ≡ with_entries row (filter (is_supported attributes) (pair ∷ row_in (drop (i + 1) entries) peer)) =
    elim (is_supported attributes pair) as (λ is. with_entries (if is then with_bits row entry.handle entry.bits else row) rest
    ≡ with_entries row (if is then pair ∷ rest else rest)) [
      | true ↦ refl
      | false ↦ refl
    ] in
    let others = filter (λ (other : RowEntry). same_peer other.peer peer) (drop (i + 1) entries) in
    step
    ∙ sym (ap
    (λ same.
    with_entries row (filter (is_supported attributes) (map (λ (entry : RowEntry). (entry.handle, entry.bits)) (if same then entry ∷ others else others)))) own)
    ∙ sym (at_drop_more (λ (left : List RowEntry). with_entries row (filter (is_supported attributes) (row_in left peer))) entries i d within)

pub passes_entry : (attributes : List Attr) (row : Row) (entries : List RowEntry) (peer : Peer) (i : ℕ) (d : RowEntry) → i < length entries
    → same_peer (get_or entries i d).peer peer ≡ false
    → with_entries row (filter (is_supported attributes) (row_in (drop (i + 1) entries) peer))
    ≡ with_entries row (filter (is_supported attributes) (row_in (drop i entries) peer))
passes_entry attributes row entries peer i d within other =
    let entry = get_or entries i d in
    let others = filter (λ (other : RowEntry). same_peer other.peer peer) (drop (i + 1) entries) in
    sym (ap (λ same.
    with_entries row (filter (is_supported attributes) (map (λ (entry : RowEntry). (entry.handle, entry.bits)) (if same then entry ∷ others else others))))
    other)
    ∙ sym (at_drop_more (λ (left : List RowEntry). with_entries row (filter (is_supported attributes) (row_in left peer))) entries i d within)

-- a step of the loop over keys
pub peers_more : (keys : List Entry) (peers : List Peer) (at : ℕ) (found : Option Peer) → found ≡ peer_at keys at → at < length keys
    → peers_with (option_map_or (with_peer peers) found peers) (drop (at + 1) keys) ≡ peers_with peers (drop at keys)
peers_more [] peers at found is within = absurd (omega arith)
peers_more (key ∷ keys) peers at found is within =
    let there = is ∙ ap (option_map (λ (key : Entry). key.peer)) (slice_get-get_or (key ∷ keys) at key within) in
    ap (λ (found : Option Peer). peers_with (option_map_or (with_peer peers) found peers) (drop (at + 1) (key ∷ keys))) there
    ∙ sym (at_drop_more (λ (left : List Entry). peers_with peers left) (key ∷ keys) at key within)

-- a step of the loop that fits bonds
pub mapped_more : (f : Peer → Bond) (peers : List Peer) (i : ℕ) (d : Peer) (bonds new : List Bond) (bond : Bond) → i < length peers
    → bonds ≡ map f (take i peers) → bond ≡ f (get_or peers i d) → new ≡ bonds ++ bond ∷ [] → new ≡ map f (take (i + 1) peers)
mapped_more f peers i d bonds new bond within so_far is pushed =
    pushed ∙ (λ j. so_far j ++ is j ∷ []) ∙ sym (map_more f peers i d within)
