-- What fitted rows say can be written as a rows file.
use Rattle.std.proofs.Common.{◌≡◌, ◌≢◌, ℕ, suc, ◌+◌, ◌*◌, ◌<◌, ◌≤◌, ◌==◌, Bool, true, false, if◌then◌else◌, List, [], ◌∷◌, ◌++◌, length, refl, sym, ap, subst, ◌∙◌, arith}
use Rattle.std.specs.List.{All}
use Rattle.std.proofs.lemmas.Bool.{eq-eqb, or_parts}
use Rattle.std.proofs.lemmas.Bool.Decides.{nat_tests}
use Rattle.std.proofs.lemmas.List.{append-nil, length-append}
use Rattle.std.proofs.lemmas.List.Elements.{All-append, All-nil, All-cons, All-head, All-tail}
use Rattle.att_numbers.specs.Types.{Handle, Row}
use Rattle.att_table.specs.ConfigRow.{has_entry, IsEntry, HasOneEntryEach}
use Rattle.le_hci.specs.declared.peer.Peer.{Peer}
use Rattle.gatt_subs.specs.declared.bond.Bond.{Bond}
use Rattle.gatt_subs.specs.declared.row_entry.RowEntry.{RowEntry}
use Rattle.gatt_subs.specs.InOrder.{in_order}
use Rattle.gatt_subs.specs.ReadBack.{Climbs, IsBondOfAFile, IsConfigured, IsNamed, IsOfAFile, FittedCanBeWritten}
use Rattle.gatt_subs.specs.RowEntry.{order_of, rank_of}
use Rattle.gatt_subs.specs.Rows.{Subscriptions}
use Rattle.gatt_subs.specs.RowsText.{bond_entries, entries_of, entries_with, owed_peers}
use Rattle.gatt_subs.specs.Unfitted.{WrittenRows}
use Rattle.gatt_subs.proofs.RowsRead.{all_in_order, clash, climbs_in_order, length_in_order, place_then}

-- entries of one peer, at other handles than those of a row that is to come
record AreEntriesOf (peer : Peer) (row : Row) (entries : List RowEntry) : Type 0 where
  good : All IsConfigured entries
  own : All (λ (entry : RowEntry). entry.peer ≡ peer) entries
  climbs : Climbs order_of entries
  others : All (λ (entry : RowEntry). has_entry row entry.handle ≡ false) entries

later : (handle bits : ℕ) (row : Row) (entries : List RowEntry) → All (λ (entry : RowEntry). has_entry ((handle, bits) ∷ row) entry.handle ≡ false) entries
    → All (λ (entry : RowEntry). has_entry row entry.handle ≡ false) entries
later handle bits row [] others = All-nil (λ (entry : RowEntry). has_entry row entry.handle ≡ false)
later handle bits row (entry ∷ entries) others =
    All-cons (λ (entry : RowEntry). has_entry row entry.handle ≡ false) entry entries
    (or_parts (handle == entry.handle) (has_entry row entry.handle)
    (All-head (λ (entry : RowEntry). has_entry ((handle, bits) ∷ row) entry.handle ≡ false) entry entries others)).1
    (later handle bits row entries (All-tail (λ (entry : RowEntry). has_entry ((handle, bits) ∷ row) entry.handle ≡ false) entry entries others))

apart : (peer : Peer) (handle bits : ℕ) (row : Row) (entries : List RowEntry) → handle < 65536 → All IsConfigured entries
    → All (λ (entry : RowEntry). has_entry ((handle, bits) ∷ row) entry.handle ≡ false) entries
    → All (λ (other : RowEntry). order_of other ≢ order_of (record { peer = peer; handle = handle; bits = bits })) entries
apart peer handle bits row [] small good others =
    All-nil (λ (other : RowEntry). order_of other ≢ order_of (record { peer = peer; handle = handle; bits = bits }))
apart peer handle bits row (entry ∷ entries) small good others =
    let differs =
    or_parts (handle == entry.handle) (has_entry row entry.handle)
    (All-head (λ (entry : RowEntry). has_entry ((handle, bits) ∷ row) entry.handle ≡ false) entry entries others) in
    All-cons (λ (other : RowEntry). order_of other ≢ order_of (record { peer = peer; handle = handle; bits = bits })) entry entries
    (λ same.
    let parts = place_then (rank_of entry.peer) (rank_of peer) entry.handle handle (All-head IsConfigured entry entries good).handle small same in
    clash (sym (eq-eqb handle entry.handle (sym parts.1)) ∙ differs.0))
    (apart peer handle bits row entries small (All-tail IsConfigured entry entries good)
    (All-tail (λ (entry : RowEntry). has_entry ((handle, bits) ∷ row) entry.handle ≡ false) entry entries others))

-- one entry of the row more
one_more : (peer : Peer) (handle bits : ℕ) (row : Row) (entries : List RowEntry) → IsNamed peer → 0 < handle → handle < 65536 → bits ≤ 3
    → has_entry row handle ≡ false
    → (none : Bool) → (bits == 0) ≡ none → AreEntriesOf peer ((handle, bits) ∷ row) entries
    → AreEntriesOf peer row (if none then entries else in_order order_of (record { peer = peer; handle = handle; bits = bits }) entries)
one_more peer handle bits row entries named some small few once true is are = record {
  good = are.good;
  own = are.own;
  climbs = are.climbs;
  others = later handle bits row entries are.others;
}
one_more peer handle bits row entries named some small few once false is are =
    let entry : RowEntry = record { peer = peer; handle = handle; bits = bits } in
    let set : 1 ≤ bits = grind (arith, nat_tests, is) in
    record {
      good = all_in_order order_of IsConfigured entry entries (record { peer = named; from_one = some; handle = small; some = set; bits = few }) are.good;
      own = all_in_order order_of (λ (entry : RowEntry). entry.peer ≡ peer) entry entries refl are.own;
      climbs = climbs_in_order order_of entry entries are.climbs (apart peer handle bits row entries small are.good are.others);
      others = all_in_order order_of (λ (entry : RowEntry). has_entry row entry.handle ≡ false) entry entries once (later handle bits row entries are.others);
    }

-- all entries of the row
row_entries : (peer : Peer) (row : Row) (entries : List RowEntry) → IsNamed peer → All IsEntry row → All (λ (entry : Handle × ℕ). entry.0 < 65536) row
    → HasOneEntryEach row
    → AreEntriesOf peer row entries → AreEntriesOf peer [] (entries_with entries peer row)
row_entries peer [] entries named all small once are = are
row_entries peer ((handle, bits) ∷ row) entries named all small once are =
    let first : IsEntry (handle, bits) = All-head IsEntry (handle, bits) row all in
    row_entries peer row (if bits == 0 then entries else in_order order_of (record { peer = peer; handle = handle; bits = bits }) entries) named
    (All-tail IsEntry (handle, bits) row all) (All-tail (λ (entry : Handle × ℕ). entry.0 < 65536) (handle, bits) row small) once.1
    (one_more peer handle bits row entries named first.0 (All-head (λ (entry : Handle × ℕ). entry.0 < 65536) (handle, bits) row small) first.1 once.0
    (bits == 0) refl are)

as_many : (peer : Peer) (row : Row) (entries : List RowEntry) → length (entries_with entries peer row) ≤ length entries + length row
as_many peer [] entries = omega arith
as_many peer ((handle, bits) ∷ row) entries =
    elim (bits == 0) as
    (λ none. length (entries_with (if none then entries else in_order order_of (record { peer = peer; handle = handle; bits = bits }) entries) peer row)
    ≤ length entries + suc (length row)) [
      | true ↦ let most = as_many peer row entries in omega (arith, most)
      | false ↦
          let entry : RowEntry = record { peer = peer; handle = handle; bits = bits } in
          let most = as_many peer row (in_order order_of entry entries) in
          omega (arith, most, length_in_order order_of entry entries)
    ]

no_entries : (peer : Peer) (row : Row) → AreEntriesOf peer row []
no_entries peer row = record {
  good = All-nil IsConfigured;
  own = All-nil (λ (entry : RowEntry). entry.peer ≡ peer);
  climbs = tt;
  others = All-nil (λ (entry : RowEntry). has_entry row entry.handle ≡ false);
}

of_bond : (peer : Peer) (bond : Bond) → IsNamed peer → IsBondOfAFile bond → AreEntriesOf peer [] (entries_of peer bond.row)
of_bond peer bond named is = row_entries peer bond.row [] named is.entries is.handles is.once (no_entries peer bond.row)

-- lists that climb, one above the other
climbs_append : {X : Type 0} (order : X → ℕ) (most : ℕ) (xs ys : List X) → Climbs order xs → Climbs order ys → All (λ x. order x ≤ most) xs
    → All (λ y. most < order y) ys
    → Climbs order (xs ++ ys)
climbs_append order most [] ys low high below above = high
climbs_append {X} order most (x ∷ xs) ys low high below above =
    let here : order x ≤ most = All-head (λ x. order x ≤ most) x xs below in (
      All-append (λ y. order x < order y) xs ys low.0 (all_higher ys above here),
      climbs_append order most xs ys low.1 high (All-tail (λ x. order x ≤ most) x xs below) above,
    )
  where
    all_higher : (ys : List X) → All (λ y. most < order y) ys → order x ≤ most → All (λ y. order x < order y) ys
    all_higher [] above here = All-nil (λ y. order x < order y)
    all_higher (y ∷ ys) above here =
        let higher : most < order y = All-head (λ y. most < order y) y ys above in
        All-cons (λ y. order x < order y) y ys (omega (arith, here, higher)) (all_higher ys (All-tail (λ y. most < order y) y ys above) here)

-- the entries of one peer stand within its place
within : (peer : Peer) (entries : List RowEntry) → All IsConfigured entries → All (λ (entry : RowEntry). entry.peer ≡ peer) entries
    → All (λ (entry : RowEntry). order_of entry ≤ rank_of peer * 65536 + 65535) entries
within peer [] good own = All-nil (λ (entry : RowEntry). order_of entry ≤ rank_of peer * 65536 + 65535)
within peer (entry ∷ entries) good own =
    let rank : rank_of entry.peer ≡ rank_of peer = ap rank_of (All-head (λ (entry : RowEntry). entry.peer ≡ peer) entry entries own) in
    let handle : entry.handle < 65536 = (All-head IsConfigured entry entries good).handle in
    All-cons (λ (entry : RowEntry). order_of entry ≤ rank_of peer * 65536 + 65535) entry entries (omega (arith, rank, handle))
    (within peer entries (All-tail IsConfigured entry entries good) (All-tail (λ (entry : RowEntry). entry.peer ≡ peer) entry entries own))

above : (less : ℕ) (peer : Peer) (entries : List RowEntry) → less < rank_of peer → All (λ (entry : RowEntry). entry.peer ≡ peer) entries
    → All (λ (entry : RowEntry). less * 65536 + 65535 < order_of entry) entries
above less peer [] lt own = All-nil (λ (entry : RowEntry). less * 65536 + 65535 < order_of entry)
above less peer (entry ∷ entries) lt own =
    let rank : rank_of entry.peer ≡ rank_of peer = ap rank_of (All-head (λ (entry : RowEntry). entry.peer ≡ peer) entry entries own) in
    All-cons (λ (entry : RowEntry). less * 65536 + 65535 < order_of entry) entry entries (omega (arith, rank, lt))
    (above less peer entries lt (All-tail (λ (entry : RowEntry). entry.peer ≡ peer) entry entries own))

-- the entries of all peers
all_above : (less : ℕ) (peers : List Peer) (bonds : List Bond) → All IsNamed peers → All IsBondOfAFile bonds → All (λ peer. less < rank_of peer) peers
    → All (λ (entry : RowEntry). less * 65536 + 65535 < order_of entry) (bond_entries peers bonds)
all_above less [] bonds named good higher = All-nil (λ (entry : RowEntry). less * 65536 + 65535 < order_of entry)
all_above less (peer ∷ peers) [] named good higher = All-nil (λ (entry : RowEntry). less * 65536 + 65535 < order_of entry)
all_above less (peer ∷ peers) (bond ∷ bonds) named good higher =
    All-append (λ (entry : RowEntry). less * 65536 + 65535 < order_of entry) (entries_of peer bond.row) (bond_entries peers bonds)
    (above less peer (entries_of peer bond.row) (All-head (λ peer. less < rank_of peer) peer peers higher)
    (of_bond peer bond (All-head IsNamed peer peers named) (All-head IsBondOfAFile bond bonds good)).own)
    (all_above less peers bonds (All-tail IsNamed peer peers named) (All-tail IsBondOfAFile bond bonds good)
    (All-tail (λ peer. less < rank_of peer) peer peers higher))

record AreEntries (peers : List Peer) (entries : List RowEntry) : Type 0 where
  good : All IsConfigured entries
  climbs : Climbs order_of entries
  few : length entries ≤ 64 * length peers

of_bonds : (peers : List Peer) (bonds : List Bond) → All IsNamed peers → Climbs rank_of peers → All IsBondOfAFile bonds
    → AreEntries peers (bond_entries peers bonds)
of_bonds [] bonds named climbs good = record { good = All-nil IsConfigured; climbs = tt; few = omega arith }
of_bonds (peer ∷ peers) [] named climbs good = record { good = All-nil IsConfigured; climbs = tt; few = omega arith }
of_bonds (peer ∷ peers) (bond ∷ bonds) named climbs good =
    let bond_good : IsBondOfAFile bond = All-head IsBondOfAFile bond bonds good in
    let first = of_bond peer bond (All-head IsNamed peer peers named) bond_good in
    let rest = of_bonds peers bonds (All-tail IsNamed peer peers named) climbs.1 (All-tail IsBondOfAFile bond bonds good) in
    record {
      good = All-append IsConfigured (entries_of peer bond.row) (bond_entries peers bonds) first.good rest.good;
      climbs = climbs_append order_of (rank_of peer * 65536 + 65535) (entries_of peer bond.row) (bond_entries peers bonds) first.climbs rest.climbs
          (within peer (entries_of peer bond.row) first.good first.own)
          (all_above (rank_of peer) peers bonds (All-tail IsNamed peer peers named) (All-tail IsBondOfAFile bond bonds good) climbs.0);
      few = omega (arith, rest.few, bond_good.few, as_many peer bond.row [], length-append (entries_of peer bond.row) (bond_entries peers bonds));
    }

-- who is owed
all_owed : (P : Peer → Type 0) (peers : List Peer) (bonds : List Bond) → All P peers → All P (owed_peers peers bonds)
all_owed P [] bonds all = All-nil P
all_owed P (peer ∷ peers) [] all = All-nil P
all_owed P (peer ∷ peers) (bond ∷ bonds) all =
    elim bond.owed as (λ owed. All P (if owed then peer ∷ owed_peers peers bonds else owed_peers peers bonds)) [
      | true ↦ All-cons P peer (owed_peers peers bonds) (All-head P peer peers all) (all_owed P peers bonds (All-tail P peer peers all))
      | false ↦ all_owed P peers bonds (All-tail P peer peers all)
    ]

owed_climb : (peers : List Peer) (bonds : List Bond) → Climbs rank_of peers → Climbs rank_of (owed_peers peers bonds)
owed_climb [] bonds climbs = tt
owed_climb (peer ∷ peers) [] climbs = tt
owed_climb (peer ∷ peers) (bond ∷ bonds) climbs =
    elim bond.owed as (λ owed. Climbs rank_of (if owed then peer ∷ owed_peers peers bonds else owed_peers peers bonds)) [
      | true ↦ (all_owed (λ other. rank_of peer < rank_of other) peers bonds climbs.0, owed_climb peers bonds climbs.1)
      | false ↦ owed_climb peers bonds climbs.1
    ]

few_owed : (peers : List Peer) (bonds : List Bond) → length (owed_peers peers bonds) ≤ length peers
few_owed [] bonds = omega arith
few_owed (peer ∷ peers) [] = omega arith
few_owed (peer ∷ peers) (bond ∷ bonds) =
    elim bond.owed as (λ owed. length (if owed then peer ∷ owed_peers peers bonds else owed_peers peers bonds) ≤ suc (length peers)) [
      | true ↦ let few = few_owed peers bonds in omega (arith, few)
      | false ↦ let few = few_owed peers bonds in omega (arith, few)
    ]

pub fitted_can_be_written : (rows : Subscriptions) → FittedCanBeWritten rows
fitted_can_be_written rows is =
    let entries = of_bonds rows.peers rows.bonds is.peers is.climbs is.bonds in
    let fitted : IsOfAFile (record { entries = bond_entries rows.peers rows.bonds ++ []; owed = owed_peers rows.peers rows.bonds ++ [] }) =
    subst IsOfAFile
    (λ i. record { entries = sym (append-nil (bond_entries rows.peers rows.bonds)) i; owed = sym (append-nil (owed_peers rows.peers rows.bonds)) i })
    (record {
      entries = entries.good;
      owed = all_owed IsNamed rows.peers rows.bonds is.peers;
      climbs = entries.climbs;
      owed_climb = owed_climb rows.peers rows.bonds is.climbs;
      few = omega (arith, entries.few, is.few);
      owed_few = omega (arith, few_owed rows.peers rows.bonds, is.few);
    }) in
    subst (λ (unfitted : WrittenRows).
    IsOfAFile (record { entries = bond_entries rows.peers rows.bonds ++ unfitted.entries; owed = owed_peers rows.peers rows.bonds ++ unfitted.owed }))
    (sym is.unfitted) fitted
