-- The entries and peers of bonds from a place on.
use Rattle.std.proofs.Common.{◌≡◌, ℕ, ◌+◌, Bool, true, false, if◌then◌else◌, List, [], ◌∷◌, ◌++◌, ◌<◌, length, get_or, drop, sym, ap, ◌∙◌}
use Rattle.std.proofs.lemmas.List.{at_drop_more, append_assoc}
use Rattle.le_hci.specs.declared.peer.Peer.{Peer}
use Rattle.gatt_subs.specs.declared.bond.Bond.{Bond}
use Rattle.gatt_subs.specs.declared.row_entry.RowEntry.{RowEntry}
use Rattle.gatt_subs.specs.RowsText.{bond_entries, entries_of, owed_peers}

pub entries_more : (peers : List Peer) (bonds : List Bond) (i : ℕ) (d : Peer) (e : Bond) (old added new all : List RowEntry)
    → i < length peers → i < length bonds → added ≡ entries_of (get_or peers i d) (get_or bonds i e).row → new ≡ old ++ added
    → old ++ bond_entries (drop i peers) (drop i bonds) ≡ all → new ++ bond_entries (drop (i + 1) peers) (drop (i + 1) bonds) ≡ all
entries_more peers bonds i d e old added new all within within' is pushed so_far =
    let rest = bond_entries (drop (i + 1) peers) (drop (i + 1) bonds) in
    ap (λ entries. entries ++ rest) (pushed ∙ ap (λ more. old ++ more) is)
    ∙ append_assoc old (entries_of (get_or peers i d) (get_or bonds i e).row) rest
    ∙ sym (ap (λ left. old ++ left)
    (at_drop_more (λ (left : List Peer). bond_entries left (drop i bonds)) peers i d within
    ∙ at_drop_more (λ (left : List Bond). bond_entries (get_or peers i d ∷ drop (i + 1) peers) left) bonds i e within'))
    ∙ so_far

if_pushed : (owed : Bool) (peer : Peer) (old rest : List Peer)
    → (old ++ (if owed then peer ∷ [] else [])) ++ rest ≡ old ++ (if owed then peer ∷ rest else rest)
if_pushed true peer old rest = append_assoc old (peer ∷ []) rest
if_pushed false peer old rest = append_assoc old [] rest

pub owed_more : (peers : List Peer) (bonds : List Bond) (i : ℕ) (d : Peer) (e : Bond) (old new all : List Peer)
    → i < length peers → i < length bonds → new ≡ old ++ (if (get_or bonds i e).owed then get_or peers i d ∷ [] else [])
    → old ++ owed_peers (drop i peers) (drop i bonds) ≡ all → new ++ owed_peers (drop (i + 1) peers) (drop (i + 1) bonds) ≡ all
owed_more peers bonds i d e old new all within within' pushed so_far =
    let rest = owed_peers (drop (i + 1) peers) (drop (i + 1) bonds) in
    ap (λ owed. owed ++ rest) pushed
    ∙ if_pushed (get_or bonds i e).owed (get_or peers i d) old rest
    ∙ sym (ap (λ left. old ++ left)
    (at_drop_more (λ (left : List Peer). owed_peers left (drop i bonds)) peers i d within
    ∙ at_drop_more (λ (left : List Bond). owed_peers (get_or peers i d ∷ drop (i + 1) peers) left) bonds i e within'))
    ∙ so_far
