-- What a sink takes in turn.
use Rattle.std.proofs.Common.{◌≡◌, ℕ, ◌+◌, true, false, if◌then◌else◌, List, [], ◌∷◌, ◌++◌, ◌<◌, length, get_or, drop, Option, refl, sym, ap, subst, ◌∙◌}
use Rattle.std.specs.Prelude.{Result, Ok, Err, IsOk, OnOk, OnErr}
use Rattle.std.specs.List.{flat_map}
use Rattle.std.specs.Io.KnownBytes.{Appends}
use Rattle.std.proofs.KnownBytes.{Appends-trans}
use Rattle.std.proofs.lemmas.List.{append-nil, at_drop_more}
use Rattle.octet_io.specs.Number.{Octets}
use Rattle.octet_io.proofs.Writing.{HasWritten, breaks_off, written_more, written_none}
use Rattle.octet_io.specs.Stream.{WritesFront}
use Rattle.std.proofs.lemmas.List.Concat.{flat_map-append}
use Rattle.le_hci.specs.declared.peer.Peer.{Peer}
use Rattle.gatt_subs.specs.declared.bond.Bond.{Bond}
use Rattle.gatt_subs.specs.declared.row_entry.RowEntry.{RowEntry}
use Rattle.gatt_subs.specs.RowsText.{bond_entries, entries_of, entry_line, owed_line, owed_peers, text_by_parts, rows_text}
use Rattle.gatt_subs.specs.Rows.{Subscriptions}

-- lines that are written one after the other
pub lines_more : {X : Type 0} (line : X → Octets) (xs : List X) (i : ℕ) (d : X) (octets : Octets) (held mid holds : Option Octets) → i < length xs
    → octets ≡ line (get_or xs i d) → HasWritten (flat_map line xs) (flat_map line (drop i xs)) held mid → Appends mid holds octets
    → HasWritten (flat_map line xs) (flat_map line (drop (i + 1) xs)) held holds
lines_more line xs i d octets held mid holds within is so_far appended =
    written_more (flat_map line xs) (line (get_or xs i d)) (flat_map line (drop (i + 1) xs)) held mid holds
    (subst (λ (rest : Octets). HasWritten (flat_map line xs) rest held mid) (at_drop_more (flat_map line) xs i d within) so_far)
    (subst (Appends mid holds) is appended)

pub line_breaks_off : {X : Type 0} (line : X → Octets) (xs : List X) (i : ℕ) (d : X) (octets : Octets) (held mid holds : Option Octets) → i < length xs
    → octets ≡ line (get_or xs i d) → HasWritten (flat_map line xs) (flat_map line (drop i xs)) held mid → WritesFront octets mid holds
    → WritesFront (flat_map line xs) held holds
line_breaks_off line xs i d octets held mid holds within is so_far front =
    breaks_off (flat_map line xs) (line (get_or xs i d)) (flat_map line (drop (i + 1) xs)) held mid holds
    (subst (λ (rest : Octets). HasWritten (flat_map line xs) rest held mid) (at_drop_more (flat_map line) xs i d within) so_far)
    (subst (λ (octets : Octets). WritesFront octets mid holds) is front)

pub on_err : {T E : Type 0} (result : Result T E) (P : Type 0) → P → OnErr result P
on_err (Ok x) P p = tt
on_err (Err e) P p = p

pub on_ok_is : {T E : Type 0} (result : Result T E) (P : Type 0) → IsOk result → OnOk result P → P
on_ok_is (Ok x) P ok p = p
on_ok_is (Err e) P ok p = cc ok

-- the lines of bonds, from a place on
bonds_break : (peers : List Peer) (bonds : List Bond) (i : ℕ) (d : Peer) (e : Bond) (entries : List RowEntry) → i < length peers → i < length bonds
    → entries ≡ entries_of (get_or peers i d) (get_or bonds i e).row
    → flat_map entry_line (bond_entries (drop i peers) (drop i bonds))
    ≡ flat_map entry_line entries ++ flat_map entry_line (bond_entries (drop (i + 1) peers) (drop (i + 1) bonds))
bonds_break peers bonds i d e entries within within' is =
    at_drop_more (λ (left : List Peer). flat_map entry_line (bond_entries left (drop i bonds))) peers i d within
    ∙ at_drop_more (λ (left : List Bond). flat_map entry_line (bond_entries (get_or peers i d ∷ drop (i + 1) peers) left)) bonds i e within'
    ∙ flat_map-append entry_line (entries_of (get_or peers i d) (get_or bonds i e).row) (bond_entries (drop (i + 1) peers) (drop (i + 1) bonds))
    ∙ sym (ap (λ (entries : List RowEntry). flat_map entry_line entries ++ flat_map entry_line (bond_entries (drop (i + 1) peers) (drop (i + 1) bonds))) is)

pub bonds_more : (peers : List Peer) (bonds : List Bond) (i : ℕ) (d : Peer) (e : Bond) (entries : List RowEntry) (held mid holds : Option Octets)
    → i < length peers → i < length bonds
    → entries ≡ entries_of (get_or peers i d) (get_or bonds i e).row
    → HasWritten (flat_map entry_line (bond_entries peers bonds)) (flat_map entry_line (bond_entries (drop i peers) (drop i bonds))) held mid
    → Appends mid holds (flat_map entry_line entries)
    → HasWritten (flat_map entry_line (bond_entries peers bonds)) (flat_map entry_line (bond_entries (drop (i + 1) peers) (drop (i + 1) bonds))) held holds
bonds_more peers bonds i d e entries held mid holds within within' is so_far appended =
    written_more (flat_map entry_line (bond_entries peers bonds)) (flat_map entry_line entries)
    (flat_map entry_line (bond_entries (drop (i + 1) peers) (drop (i + 1) bonds))) held mid holds
    (subst (λ (rest : Octets). HasWritten (flat_map entry_line (bond_entries peers bonds)) rest held mid)
    (bonds_break peers bonds i d e entries within within' is) so_far)
    appended

pub bonds_break_off : (peers : List Peer) (bonds : List Bond) (i : ℕ) (d : Peer) (e : Bond) (entries : List RowEntry) (held mid holds : Option Octets)
    → i < length peers → i < length bonds
    → entries ≡ entries_of (get_or peers i d) (get_or bonds i e).row
    → HasWritten (flat_map entry_line (bond_entries peers bonds)) (flat_map entry_line (bond_entries (drop i peers) (drop i bonds))) held mid
    → WritesFront (flat_map entry_line entries) mid holds → WritesFront (flat_map entry_line (bond_entries peers bonds)) held holds
bonds_break_off peers bonds i d e entries held mid holds within within' is so_far front =
    breaks_off (flat_map entry_line (bond_entries peers bonds)) (flat_map entry_line entries)
    (flat_map entry_line (bond_entries (drop (i + 1) peers) (drop (i + 1) bonds))) held mid holds
    (subst (λ (rest : Octets). HasWritten (flat_map entry_line (bond_entries peers bonds)) rest held mid)
    (bonds_break peers bonds i d e entries within within' is) so_far)
    front

-- the same of who is owed
owed_from : (peers : List Peer) (bonds : List Bond) (i : ℕ) (d : Peer) (e : Bond) → i < length peers → i < length bonds
    → flat_map owed_line (owed_peers (drop i peers) (drop i bonds))
    ≡ (if (get_or bonds i e).owed then owed_line (get_or peers i d) else []) ++ flat_map owed_line (owed_peers (drop (i + 1) peers) (drop (i + 1) bonds))
owed_from peers bonds i d e within within' =
    at_drop_more (λ (left : List Peer). flat_map owed_line (owed_peers left (drop i bonds))) peers i d within
    ∙ at_drop_more (λ (left : List Bond). flat_map owed_line (owed_peers (get_or peers i d ∷ drop (i + 1) peers) left)) bonds i e within'
    ∙ (
    let peer = get_or peers i d in
    let rest = owed_peers (drop (i + 1) peers) (drop (i + 1) bonds) in
    elim ((get_or bonds i e).owed) as (λ owed. flat_map owed_line (if owed then peer ∷ rest else rest) ≡ (if owed then owed_line peer else [])
    ++ flat_map owed_line rest) [
      | true ↦ refl
      | false ↦ refl
    ])

pub owed_more : (peers : List Peer) (bonds : List Bond) (i : ℕ) (d : Peer) (e : Bond) (held mid holds : Option Octets) → i < length peers → i < length bonds
    → HasWritten (flat_map owed_line (owed_peers peers bonds)) (flat_map owed_line (owed_peers (drop i peers) (drop i bonds))) held mid
    → Appends mid holds (if (get_or bonds i e).owed then owed_line (get_or peers i d) else [])
    → HasWritten (flat_map owed_line (owed_peers peers bonds)) (flat_map owed_line (owed_peers (drop (i + 1) peers) (drop (i + 1) bonds))) held holds
owed_more peers bonds i d e held mid holds within within' so_far appended =
    written_more (flat_map owed_line (owed_peers peers bonds)) (if (get_or bonds i e).owed then owed_line (get_or peers i d) else [])
    (flat_map owed_line (owed_peers (drop (i + 1) peers) (drop (i + 1) bonds))) held mid holds
    (subst (λ (rest : Octets). HasWritten (flat_map owed_line (owed_peers peers bonds)) rest held mid) (owed_from peers bonds i d e within within') so_far)
    appended

pub owed_break_off : (peers : List Peer) (bonds : List Bond) (i : ℕ) (d : Peer) (e : Bond) (held mid holds : Option Octets) → i < length peers
    → i < length bonds
    → HasWritten (flat_map owed_line (owed_peers peers bonds)) (flat_map owed_line (owed_peers (drop i peers) (drop i bonds))) held mid
    → WritesFront (if (get_or bonds i e).owed then owed_line (get_or peers i d) else []) mid holds
    → WritesFront (flat_map owed_line (owed_peers peers bonds)) held holds
owed_break_off peers bonds i d e held mid holds within within' so_far front =
    breaks_off (flat_map owed_line (owed_peers peers bonds)) (if (get_or bonds i e).owed then owed_line (get_or peers i d) else [])
    (flat_map owed_line (owed_peers (drop (i + 1) peers) (drop (i + 1) bonds))) held mid holds
    (subst (λ (rest : Octets). HasWritten (flat_map owed_line (owed_peers peers bonds)) rest held mid) (owed_from peers bonds i d e within within') so_far)
    front

-- the text by what rows consist of
pub text_of_parts : (rows : Subscriptions) → text_by_parts rows.peers rows.bonds rows.unfitted ≡ rows_text rows
unfolding rows_text
text_of_parts rows = refl

-- of two texts, one behind the other, the first breaks off
pub first_breaks_off : (first second : Octets) (held holds : Option Octets) → WritesFront first held holds → WritesFront (first ++ second) held holds
first_breaks_off first second held holds front =
    breaks_off (first ++ second) first second held held holds (written_none (first ++ second) held) front

-- or the second, unless both are written
pub second_breaks_off : {T E : Type 0} (result : Result T E) (first second : Octets) (held mid holds : Option Octets)
    → Appends held mid first → OnErr result (WritesFront second mid holds) → OnErr result (WritesFront (first ++ second) held holds)
second_breaks_off (Ok x) first second held mid holds is front = tt
second_breaks_off (Err e) first second held mid holds is front =
    breaks_off (first ++ second) second [] held mid holds
    (subst (λ (rest : Octets). HasWritten (first ++ second) rest held mid) (sym (append-nil second))
    (written_more (first ++ second) first second held held mid (written_none (first ++ second) held) is))
    front

pub both_written : {T E : Type 0} (result : Result T E) (first second : Octets) (held mid holds : Option Octets)
    → Appends held mid first → OnOk result (Appends mid holds second) → OnOk result (Appends held holds (first ++ second))
both_written (Ok x) first second held mid holds is written = Appends-trans held mid holds first second is written
both_written (Err e) first second held mid holds is written = tt

-- the same of lines, which stand for lists
pub first_lines_break_off : {X : Type 0} (line : X → Octets) (xs ys : List X) (held holds : Option Octets)
    → WritesFront (flat_map line xs) held holds → WritesFront (flat_map line (xs ++ ys)) held holds
first_lines_break_off line xs ys held holds front =
    subst (λ (text : Octets). WritesFront text held holds) (sym (flat_map-append line xs ys))
    (first_breaks_off (flat_map line xs) (flat_map line ys) held holds front)

pub second_lines_break_off : {T E : Type 0} (result : Result T E) {X : Type 0} (line : X → Octets) (xs ys : List X) (held mid holds : Option Octets)
    → Appends held mid (flat_map line xs) → OnErr result (WritesFront (flat_map line ys) mid holds)
    → OnErr result (WritesFront (flat_map line (xs ++ ys)) held holds)
second_lines_break_off result line xs ys held mid holds is front =
    subst (λ (text : Octets). OnErr result (WritesFront text held holds)) (sym (flat_map-append line xs ys))
    (second_breaks_off result (flat_map line xs) (flat_map line ys) held mid holds is front)

pub both_lines_written : {T E : Type 0} (result : Result T E) {X : Type 0} (line : X → Octets) (xs ys : List X) (held mid holds : Option Octets)
    → Appends held mid (flat_map line xs) → OnOk result (Appends mid holds (flat_map line ys)) → OnOk result (Appends held holds (flat_map line (xs ++ ys)))
both_lines_written result line xs ys held mid holds is written =
    subst (λ (text : Octets). OnOk result (Appends held holds text)) (sym (flat_map-append line xs ys))
    (both_written result (flat_map line xs) (flat_map line ys) held mid holds is written)
