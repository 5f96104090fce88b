-- What rows are written as is read as the same.
use Rattle.std.proofs.Common.{◌≡◌, ℕ, ◌+◌, ◌<◌, ◌≤◌, ◌==◌, Bool, true, false, ◌&&◌, nat_lt, List, [], ◌∷◌, ◌++◌, length, Some, refl, sym, ap, subst, ◌∙◌, append_assoc, arith}
use Rattle.std.specs.Prelude.{Result, Ok}
use Rattle.std.specs.Fmt.{decimal}
use Rattle.std.specs.List.{All, flat_map}
use Rattle.std.proofs.lemmas.Bool.Decides.{nat_tests}
use Rattle.std.proofs.lemmas.List.{append-nil, length-append}
use Rattle.std.proofs.lemmas.List.Elements.{All-cons, All-head, All-nil, All-tail}
use Rattle.std.proofs.lemmas.List.Splits.{slice_split_at}
use Rattle.octet_io.specs.Number.{Octets}
use Rattle.toml_schema.specs.Reading.{◌>>=◌}
use Rattle.le_hci.specs.declared.peer.Peer.{Peer}
use Rattle.le_security.specs.Entry.{same_peer}
use Rattle.le_security.proofs.Peers.{equal_peers}
use Rattle.gatt_subs.specs.declared.row_entry.RowEntry.{RowEntry}
use Rattle.gatt_subs.specs.declared.rows_fault.RowsFault.{RowsFault}
use Rattle.gatt_subs.specs.declared.rows_line.Line.{Line}
use Rattle.gatt_subs.specs.declared.rows_line.Line.TheVariants.{Entry, Owed}
use Rattle.gatt_subs.specs.InOrder.{in_order}
use Rattle.gatt_subs.specs.ReadBack.{Climbs, IsConfigured, IsNamed, ReadsBack}
use Rattle.gatt_subs.specs.RowEntry.{is_at, order_of, rank_of}
use Rattle.gatt_subs.specs.Rows.{Subscriptions}
use Rattle.gatt_subs.specs.RowsLine.{rows_line_of}
use Rattle.gatt_subs.specs.RowsText.{address_text, configured, entry_line, owed_in, owed_line, rows_text}
use Rattle.gatt_subs.specs.Unfitted.{WrittenRows, has_row_entry, has_peer, rows_read, rows_with_line, rows_with_lines, rows_with_said}
use Rattle.text_words.specs.Split.{lines_of}
use Rattle.gatt_subs.proofs.LinesBack.{HasNoFeed, entry_back, entry_ended, entry_feedless, entry_words, owed_back, owed_ended, owed_feedless, owed_words}

-- what comes after all others stands at the end
at_end : {X : Type 0} (order : X → ℕ) (x : X) (xs : List X) → All (λ y. order y < order x) xs → in_order order x xs ≡ xs ++ x ∷ []
at_end order x [] before = refl
at_end order x (y ∷ ys) before =
    let later : nat_lt (order x) (order y) ≡ false = grind (arith, nat_tests, All-head (λ y. order y < order x) y ys before) in
    rw later (ap (λ rest. y ∷ rest) (at_end order x ys (All-tail (λ y. order y < order x) y ys before)))

-- each element of a list that climbs comes after those in front of it
in_the_middle : {X : Type 0} (P : X → Type 0) (xs : List X) (x : X) (ys : List X) → All P (xs ++ x ∷ ys) → P x
in_the_middle P [] x ys all = All-head P x ys all
in_the_middle P (first ∷ xs) x ys all = in_the_middle P xs x ys (All-tail P first (xs ++ x ∷ ys) all)

in_front : {X : Type 0} (order : X → ℕ) (xs : List X) (x : X) (ys : List X) → Climbs order (xs ++ x ∷ ys) → All (λ y. order y < order x) xs
in_front order [] x ys climbs = All-nil (λ y. order y < order x)
in_front order (first ∷ xs) x ys climbs =
    All-cons (λ y. order y < order x) first xs (in_the_middle (λ y. order first < order y) xs x ys climbs.0) (in_front order xs x ys climbs.1)

-- an entry that comes after all others is none of them
is_other : (entry other : RowEntry) → order_of other < order_of entry → is_at entry.peer entry.handle other ≡ false
is_other entry other less = by (is_at entry.peer entry.handle other) refl
  where
    same : (same handle : Bool) → same_peer other.peer entry.peer ≡ same → (other.handle == entry.handle) ≡ handle → (same && handle) ≡ true → ⊥
    same true true peers handles both =
        let one : rank_of other.peer ≡ rank_of entry.peer = ap rank_of (equal_peers other.peer entry.peer peers) in
        grind (arith, nat_tests, less, one, handles)
    same true false peers handles both = cc both
    same false handle peers handles both = cc both

    by : (is : Bool) → is_at entry.peer entry.handle other ≡ is → is_at entry.peer entry.handle other ≡ false
    by false is = is
    by true is = absurd (same (same_peer other.peer entry.peer) (other.handle == entry.handle) refl refl is)

is_new : (entry : RowEntry) (entries : List RowEntry) → All (λ other. order_of other < order_of entry) entries → has_row_entry entries entry.peer entry.handle
    ≡ false
is_new entry [] less = refl
is_new entry (other ∷ entries) less =
    rw (is_other entry other (All-head (λ other. order_of other < order_of entry) other entries less))
    (is_new entry entries (All-tail (λ other. order_of other < order_of entry) other entries less))

is_other_peer : (peer other : Peer) → rank_of other < rank_of peer → same_peer other peer ≡ false
is_other_peer peer other less = by (same_peer other peer) refl
  where
    by : (is : Bool) → same_peer other peer ≡ is → same_peer other peer ≡ false
    by false is = is
    by true is = let one : rank_of other ≡ rank_of peer = ap rank_of (equal_peers other peer is) in absurd (omega (arith, less, one))

is_new_peer : (peer : Peer) (peers : List Peer) → All (λ other. rank_of other < rank_of peer) peers → has_peer peers peer ≡ false
is_new_peer peer [] less = refl
is_new_peer peer (other ∷ peers) less =
    rw (is_other_peer peer other (All-head (λ other. rank_of other < rank_of peer) other peers less))
    (is_new_peer peer peers (All-tail (λ other. rank_of other < rank_of peer) other peers less))

-- a line that says something adds it
said_line : (number : ℕ) (written : WrittenRows) (line : Octets) (said : Line) → 0 < length line → rows_line_of line ≡ Some said
    → rows_with_line number written line ≡ rows_with_said number written said
said_line number written [] said some is = absurd (omega (arith, some))
said_line number written (octet ∷ octets) said some is = rw is refl

abbrev writing : List RowEntry → List Peer → WrittenRows
writing entries owed = record { entries = entries; owed = owed }

entry_added : (number : ℕ) (seen : List RowEntry) (entry : RowEntry) → All (λ other. order_of other < order_of entry) seen → length seen < 4096
    → rows_with_said number (writing seen []) (Entry entry) ≡ Ok (writing (seen ++ entry ∷ []) [])
entry_added number seen entry less few =
    let room : nat_lt (length seen) 4096 ≡ true = grind (arith, nat_tests) in
    rw (is_new entry seen less, room, at_end order_of entry seen less) refl

owed_added : (number : ℕ) (entries : List RowEntry) (seen : List Peer) (peer : Peer) → All (λ other. rank_of other < rank_of peer) seen → length seen < 64
    → rows_with_said number (writing entries seen) (Owed peer) ≡ Ok (writing entries (seen ++ peer ∷ []))
owed_added number entries seen peer less few =
    let room : nat_lt (length seen) 64 ≡ true = grind (arith, nat_tests) in
    rw (is_new_peer peer seen less, room, at_end rank_of peer seen less) refl

-- the text of an entry and of what follows divides behind its line feed
divided : (words rest : Octets) → HasNoFeed words → lines_of (words ++ 10 ∷ rest) ≡ words ∷ lines_of rest
divided words rest feedless = slice_split_at (λ octet. octet == 10) words 10 rest feedless refl

first_divided : (line words rest tail : Octets) → line ≡ words ++ 10 ∷ [] → HasNoFeed words
    → lines_of ((line ++ rest) ++ tail) ≡ words ∷ lines_of (rest ++ tail)
first_divided line words rest tail is feedless =
    ap (λ (line : Octets). lines_of ((line ++ rest) ++ tail)) is
    ∙ ap lines_of (append_assoc (words ++ 10 ∷ []) rest tail ∙ append_assoc words (10 ∷ []) (rest ++ tail))
    ∙ divided words (rest ++ tail) feedless

-- lines that are written one after the other are taken in one after the other
module _ (X : Type 0) (line : X → Octets) (words : X → Octets) (with_all : List X → WrittenRows) (Fits : List X → X → Type 0) (Good : X → Type 0)
    (line_is : (x : X) → line x ≡ words x ++ 10 ∷ []) (feedless : (x : X) → Good x → HasNoFeed (words x))
    (added : (number : ℕ) (seen : List X) (x : X) → Good x → Fits seen x → rows_with_line number (with_all seen) (words x) ≡ Ok (with_all (seen ++ x ∷ [])))
  where
    abbrev pub AllFit : List X → List X → Type 0
    AllFit seen [] = Unit
    AllFit seen (x ∷ rest) = Good x × Fits seen x × AllFit (seen ++ x ∷ []) rest

    pub taken_in : (number : ℕ) (seen rest : List X) (tail : Octets) → AllFit seen rest
        → rows_with_lines number (with_all seen) (lines_of (flat_map line rest ++ tail)) ≡ rows_with_lines (number + length rest) (with_all (seen ++ rest))
        (lines_of tail)
    taken_in number seen [] tail fit =
        ap (λ (all : List X). rows_with_lines number (with_all all) (lines_of tail)) (sym (append-nil seen))
        ∙ ap (λ (at : ℕ). rows_with_lines at (with_all (seen ++ [])) (lines_of tail)) (omega arith)
    taken_in number seen (x ∷ rest) tail fit =
        ap (λ (lines : List Octets). rows_with_lines number (with_all seen) lines)
        (first_divided (line x) (words x) (flat_map line rest) tail (line_is x) (feedless x fit.0))
        ∙ ap (λ (next : Result WrittenRows RowsFault). next >>= (λ written. rows_with_lines (number + 1) written (lines_of (flat_map line rest ++ tail))))
        (added number seen x fit.0 fit.1)
        ∙ taken_in (number + 1) (seen ++ x ∷ []) rest tail fit.2
        ∙ ap (λ (all : List X). rows_with_lines ((number + 1) + length rest) (with_all all) (lines_of tail)) (append_assoc seen (x ∷ []) rest)
        ∙ ap (λ (at : ℕ). rows_with_lines at (with_all (seen ++ x ∷ rest)) (lines_of tail)) (omega arith)

-- what stands behind all that was taken in, where there may be one more
pub record Follows (X : Type 0) (order : X → ℕ) (most : ℕ) (seen : List X) (x : X) : Type 0 where
  pub before : All (λ y. order y < order x) seen
  pub few : length seen < most

entry_some : (entry : RowEntry) → 0 < length (entry_words entry)
entry_some entry =
    omega (arith, length-append (decimal entry.peer.kind) (32 ∷ (address_text entry.peer.address ++ 32 ∷ (decimal entry.handle ++ 32 ∷ decimal entry.bits))))

entry_line_added : (number : ℕ) (seen : List RowEntry) (entry : RowEntry) → IsConfigured entry → Follows RowEntry order_of 4096 seen entry
    → rows_with_line number (writing seen []) (entry_words entry) ≡ Ok (writing (seen ++ entry ∷ []) [])
entry_line_added number seen entry good follows =
    said_line number (writing seen []) (entry_words entry) (Entry entry) (entry_some entry) (entry_back entry good)
    ∙ entry_added number seen entry follows.before follows.few

owed_line_added : (entries : List RowEntry) (number : ℕ) (seen : List Peer) (peer : Peer) → IsNamed peer → Follows Peer rank_of 64 seen peer
    → rows_with_line number (writing entries seen) (owed_words peer) ≡ Ok (writing entries (seen ++ peer ∷ []))
owed_line_added entries number seen peer good follows =
    said_line number (writing entries seen) (owed_words peer) (Owed peer) (omega arith) (owed_back peer good)
    ∙ owed_added number entries seen peer follows.before follows.few

module _ (X : Type 0) (line : X → Octets) (words : X → Octets) (with_all : List X → WrittenRows) (order : X → ℕ) (most : ℕ) (Good : X → Type 0)
    (line_is : (x : X) → line x ≡ words x ++ 10 ∷ []) (feedless : (x : X) → Good x → HasNoFeed (words x))
    (added : (number : ℕ) (seen : List X) (x : X) → Good x → Follows X order most seen x → rows_with_line number (with_all seen) (words x)
    ≡ Ok (with_all (seen ++ x ∷ []))) where
  all_fit : (seen rest : List X) → All Good rest → Climbs order (seen ++ rest) → length (seen ++ rest) ≤ most
      → AllFit X line words with_all (Follows X order most) Good line_is feedless added seen rest
  all_fit seen [] good climbs few = tt
  all_fit seen (x ∷ rest) good climbs few =
      let again : (seen ++ x ∷ []) ++ rest ≡ seen ++ x ∷ rest = append_assoc seen (x ∷ []) rest in (
        All-head Good x rest good,
        record { before = in_front order seen x rest climbs; few = omega (arith, few, length-append seen (x ∷ rest)) },
        all_fit (seen ++ x ∷ []) rest (All-tail Good x rest good) (subst (Climbs order) (sym again) climbs)
            (subst (λ (all : List X). length all ≤ most) (sym again) few),
      )

  pub all_taken_in : (number : ℕ) (all : List X) (tail : Octets) → All Good all → Climbs order all → length all ≤ most
      → rows_with_lines number (with_all []) (lines_of (flat_map line all ++ tail)) ≡ rows_with_lines (number + length all) (with_all all)
      (lines_of tail)
  all_taken_in number all tail good climbs few =
      taken_in X line words with_all (Follows X order most) Good line_is feedless added number [] all tail (all_fit [] all good climbs few)

pub reads_back : (rows : Subscriptions) → ReadsBack rows
unfolding rows_read rows_text
reads_back rows is =
    all_taken_in RowEntry entry_line entry_words (λ entries. writing entries []) order_of 4096 IsConfigured entry_ended entry_feedless entry_line_added
    1 (configured rows) (flat_map owed_line (owed_in rows)) is.entries is.climbs is.few
    ∙ ap (λ (text : Octets). rows_with_lines (1 + length (configured rows)) (writing (configured rows) []) (lines_of text))
    (sym (append-nil (flat_map owed_line (owed_in rows))))
    ∙ all_taken_in Peer owed_line owed_words (writing (configured rows)) rank_of 64 IsNamed owed_ended owed_feedless (owed_line_added (configured rows))
    (1 + length (configured rows)) (owed_in rows) [] is.owed is.owed_climb is.owed_few
