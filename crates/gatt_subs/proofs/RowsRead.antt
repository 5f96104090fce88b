-- What a rows file says can be written as one.
use Rattle.std.proofs.Common.{◌≡◌, ◌≢◌, ℕ, suc, ◌+◌, ◌*◌, ◌<◌, ◌≤◌, ◌==◌, Bool, true, false, ◌&&◌, not, nat_lt, if◌then◌else◌, List, [], ◌∷◌, length, slice_index, Option, Some, None, refl, sym, ap, subst, ◌∙◌, arith}
use Rattle.std.specs.Prelude.{Result, Ok, Err, IfOk}
use Rattle.std.specs.List.{All}
use Rattle.std.proofs.lemmas.Bool.{eq-eqb, or_parts}
use Rattle.std.proofs.lemmas.Bool.Decides.{nat_tests}
use Rattle.std.proofs.lemmas.List.Elements.{All-nil, All-cons, All-head, All-tail, All-get_or}
use Rattle.octet_io.specs.Number.{Octets}
use Rattle.toml_schema.specs.Reading.{◌>>=◌, unless, require}
use Rattle.le_hci.specs.declared.peer.Peer.{Peer}
use Rattle.le_security.specs.Entry.{same_peer}
use Rattle.le_security.proofs.Peers.{same_as_itself}
use Rattle.gatt_subs.specs.declared.row_entry.RowEntry.{RowEntry}
use Rattle.gatt_subs.specs.declared.rows_fault.RowsFault.{RowsFault}
use Rattle.gatt_subs.specs.declared.rows_fault.RowsFault.TheVariants.{BadLine, OutOfMemory, Twice, TooMany}
use Rattle.gatt_subs.specs.declared.rows_line.Line.{Line}
use Rattle.gatt_subs.specs.declared.rows_line.Line.TheVariants.{Entry, Owed}
use Rattle.gatt_subs.specs.InOrder.{in_order}
use Rattle.gatt_subs.specs.ReadBack.{Climbs, IsConfigured, IsNamed, IsOfAFile, written_by}
use Rattle.gatt_subs.specs.Rows.{Subscriptions, subscriptions_read, unfitted_rows}
use Rattle.octet_io.specs.Memory.{Gives}
use Rattle.gatt_subs.specs.RowEntry.{is_at, order_of, rank_of}
use Rattle.gatt_subs.specs.RowsLine.{rows_line_of}
use Rattle.gatt_subs.specs.Unfitted.{WrittenRows, has_row_entry, has_peer, nothing_written, rows_read, rows_with_line, rows_with_lines, rows_with_said}
use Rattle.text_words.specs.Split.{lines_of}
use Rattle.gatt_subs.proofs.LinesRead.{CanBeWritten, line_read}

-- peers that stand at the same place are one
pub octet_then : (x y a b : ℕ) → x < 256 → y < 256 → x + 256 * a ≡ y + 256 * b → (x ≡ y) × (a ≡ b)
octet_then x y a b small small' same = (omega (arith, small, small', same), omega (arith, small, small', same))

pub place_then : (x y a b : ℕ) → a < 65536 → b < 65536 → x * 65536 + a ≡ y * 65536 + b → (x ≡ y) × (a ≡ b)
place_then x y a b small small' same = (omega (arith, small, small', same), omega (arith, small, small', same))

abbrev seven : ℕ → ℕ → ℕ → ℕ → ℕ → ℕ → ℕ → ℕ
seven a b c d e f k = a + 256 * (b + 256 * (c + 256 * (d + 256 * (e + 256 * (f + 256 * k)))))

regrouped : (kind a b c d e f : ℕ)
    → a + b * 256 + c * 65536 + d * 16777216 + e * 4294967296 + f * 1099511627776 + kind * 281474976710656 + 0 * 72057594037927936 ≡ seven a b c d e f kind
regrouped kind a b c d e f = omega arith

rank_is : (kind a b c d e f : ℕ) → rank_of (record { kind = kind; address = a ∷ b ∷ c ∷ d ∷ e ∷ f ∷ [] }) ≡ seven a b c d e f kind
unfolding rank_of
rank_is kind a b c d e f = regrouped kind a b c d e f

six_of : (address : Octets) → length address ≡ 6
    → address ≡ slice_index address 0 ∷ slice_index address 1 ∷ slice_index address 2 ∷ slice_index address 3 ∷ slice_index address 4 ∷ slice_index address 5
    ∷ []
six_of (a ∷ b ∷ c ∷ d ∷ e ∷ f ∷ []) six = refl
six_of [] six = absurd (omega (arith, six))
six_of (a ∷ []) six = absurd (omega (arith, six))
six_of (a ∷ b ∷ []) six = absurd (omega (arith, six))
six_of (a ∷ b ∷ c ∷ []) six = absurd (omega (arith, six))
six_of (a ∷ b ∷ c ∷ d ∷ []) six = absurd (omega (arith, six))
six_of (a ∷ b ∷ c ∷ d ∷ e ∷ []) six = absurd (omega (arith, six))
six_of (a ∷ b ∷ c ∷ d ∷ e ∷ f ∷ g ∷ more) six = absurd (omega (arith, six))

rank_of_six : (peer : Peer) → IsNamed peer
    → rank_of peer ≡ seven (slice_index peer.address 0) (slice_index peer.address 1) (slice_index peer.address 2) (slice_index peer.address 3)
    (slice_index peer.address 4) (slice_index peer.address 5) peer.kind
rank_of_six peer is =
    ap (λ (address : Octets). rank_of (record { kind = peer.kind; address = address })) (six_of peer.address is.address)
    ∙ rank_is peer.kind (slice_index peer.address 0) (slice_index peer.address 1) (slice_index peer.address 2) (slice_index peer.address 3)
    (slice_index peer.address 4) (slice_index peer.address 5)

small_at : (peer : Peer) (i : ℕ) → IsNamed peer → i < 6 → slice_index peer.address i < 256
small_at peer i is within = All-get_or (λ octet. octet < 256) peer.address i 0 (omega (arith, within, is.address)) is.octets

pub one_peer : (one other : Peer) → IsNamed one → IsNamed other → rank_of one ≡ rank_of other → one ≡ other
one_peer one other is is' same =
    let all = sym (rank_of_six one is) ∙ same ∙ rank_of_six other is' in
    let first = octet_then _ _ _ _ (small_at one 0 is (omega arith)) (small_at other 0 is' (omega arith)) all in
    let second = octet_then _ _ _ _ (small_at one 1 is (omega arith)) (small_at other 1 is' (omega arith)) first.1 in
    let third = octet_then _ _ _ _ (small_at one 2 is (omega arith)) (small_at other 2 is' (omega arith)) second.1 in
    let fourth = octet_then _ _ _ _ (small_at one 3 is (omega arith)) (small_at other 3 is' (omega arith)) third.1 in
    let fifth = octet_then _ _ _ _ (small_at one 4 is (omega arith)) (small_at other 4 is' (omega arith)) fourth.1 in
    let sixth = octet_then _ _ _ _ (small_at one 5 is (omega arith)) (small_at other 5 is' (omega arith)) fifth.1 in
    let address : one.address ≡ other.address =
    six_of one.address is.address ∙ (λ i. first.0 i ∷ second.0 i ∷ third.0 i ∷ fourth.0 i ∷ fifth.0 i ∷ sixth.0 i ∷ []) ∙ sym (six_of other.address is'.address)
    in
    λ i. record { kind = sixth.1 i; address = address i }

-- a list that climbs, with one more that is none of its elements
pub all_in_order : {X : Type 0} (order : X → ℕ) (P : X → Type 0) (x : X) (xs : List X) → P x → All P xs → All P (in_order order x xs)
all_in_order order P x [] p all = All-cons P x [] p (All-nil P)
all_in_order order P x (y ∷ ys) p all =
    elim (nat_lt (order x) (order y)) as (λ before. All P (if before then x ∷ y ∷ ys else y ∷ in_order order x ys)) [
      | true ↦ All-cons P x (y ∷ ys) p all
      | false ↦ All-cons P y (in_order order x ys) (All-head P y ys all) (all_in_order order P x ys p (All-tail P y ys all))
    ]

pub length_in_order : {X : Type 0} (order : X → ℕ) (x : X) (xs : List X) → length (in_order order x xs) ≡ suc (length xs)
length_in_order order x [] = refl
length_in_order order x (y ∷ ys) =
    elim (nat_lt (order x) (order y)) as (λ before. length (if before then x ∷ y ∷ ys else y ∷ in_order order x ys) ≡ suc (suc (length ys))) [
      | true ↦ refl
      | false ↦ ap (λ (count : ℕ). suc count) (length_in_order order x ys)
    ]

all_above : {X : Type 0} (order : X → ℕ) (less least : ℕ) (xs : List X) → less < least → All (λ y. least < order y) xs → All (λ y. less < order y) xs
all_above order less least [] lt all = All-nil (λ y. less < order y)
all_above order less least (y ∷ ys) lt all =
    let here : least < order y = All-head (λ y. least < order y) y ys all in
    All-cons (λ y. less < order y) y ys (omega (arith, lt, here)) (all_above order less least ys lt (All-tail (λ y. least < order y) y ys all))

pub climbs_in_order : {X : Type 0} (order : X → ℕ) (x : X) (xs : List X) → Climbs order xs → All (λ y. order y ≢ order x) xs
    → Climbs order (in_order order x xs)
climbs_in_order order x [] climbs apart = (All-nil (λ y. order x < order y), tt)
climbs_in_order {X} order x (y ∷ ys) climbs apart =
    elim (nat_lt (order x) (order y)) as (λ before. nat_lt (order x) (order y) ≡ before → Climbs order (if before then x ∷ y ∷ ys else y ∷ in_order order x ys)) [
      | true ↦ λ before.
          let lt : order x < order y = grind (arith, nat_tests, before) in
          (All-cons (λ z. order x < order z) y ys lt (all_above order (order x) (order y) ys lt climbs.0), climbs)
      | false ↦ λ behind.
          let other : order y ≢ order x = All-head (λ y. order y ≢ order x) y ys apart in
          let le : order y ≤ order x = grind (arith, nat_tests, behind) in
          let lt : order y < order x = omega (arith, le, other) in
          (all_in_order order (λ z. order y < order z) x ys lt climbs.0, climbs_in_order order x ys climbs.1 (All-tail (λ y. order y ≢ order x) y ys apart))
    ] refl

-- an entry of the same place is the same peer's at the same handle
is_there : (entry other : RowEntry) → IsConfigured entry → IsConfigured other → order_of other ≡ order_of entry → is_at entry.peer entry.handle other ≡ true
is_there entry other good good' same =
    let parts = place_then (rank_of other.peer) (rank_of entry.peer) other.handle entry.handle good'.handle good.handle same in
    let peer : other.peer ≡ entry.peer = one_peer other.peer entry.peer good'.peer good.peer parts.0 in
    let same_one : same_peer other.peer entry.peer ≡ true = subst (λ (peer : Peer). same_peer other.peer peer ≡ true) peer (same_as_itself other.peer) in
    ap (λ (one : Bool). one && (other.handle == entry.handle)) same_one ∙ eq-eqb other.handle entry.handle parts.1

pub clash : true ≡ false → ⊥
clash is = cc is

entries_apart : (entry : RowEntry) (entries : List RowEntry) → IsConfigured entry → All IsConfigured entries → has_row_entry entries entry.peer entry.handle
    ≡ false
    → All (λ other. order_of other ≢ order_of entry) entries
entries_apart entry [] good all none = All-nil (λ other. order_of other ≢ order_of entry)
entries_apart entry (other ∷ entries) good all none =
    let apart = or_parts (is_at entry.peer entry.handle other) (has_row_entry entries entry.peer entry.handle) none in
    All-cons (λ other. order_of other ≢ order_of entry) other entries
    (λ same. clash (sym (is_there entry other good (All-head IsConfigured other entries all) same) ∙ apart.0))
    (entries_apart entry entries good (All-tail IsConfigured other entries all) apart.1)

peers_apart : (peer : Peer) (peers : List Peer) → IsNamed peer → All IsNamed peers → has_peer peers peer ≡ false
    → All (λ other. rank_of other ≢ rank_of peer) peers
peers_apart peer [] good all none = All-nil (λ other. rank_of other ≢ rank_of peer)
peers_apart peer (other ∷ peers) good all none =
    let apart = or_parts (same_peer other peer) (has_peer peers peer) none in
    All-cons (λ other. rank_of other ≢ rank_of peer) other peers
    (λ same. let one : other ≡ peer = one_peer other peer (All-head IsNamed other peers all) good same in
    clash (sym (subst (λ (peer : Peer). same_peer other peer ≡ true) one (same_as_itself other)) ∙ apart.0))
    (peers_apart peer peers good (All-tail IsNamed other peers all) apart.1)

-- one line more
abbrev Stays : Result WrittenRows RowsFault → Type 0
Stays read = IfOk read IsOfAFile

entry_if : (number : ℕ) (written : WrittenRows) (entry : RowEntry) (has room : Bool) → has_row_entry written.entries entry.peer entry.handle ≡ has
    → nat_lt (length written.entries) 4096 ≡ room → IsOfAFile written → IsConfigured entry
    → Stays (unless (not has) (Twice number) >>=
    (λ _. unless room TooMany >>= (λ _. Ok (record written { entries = in_order order_of entry written.entries }))))
entry_if number written entry true room has few is good = tt
entry_if number written entry false false has few is good = tt
entry_if number written entry false true has few is good =
    let below : length written.entries < 4096 = grind (arith, nat_tests, few) in
    record {
      entries = all_in_order order_of IsConfigured entry written.entries good is.entries;
      owed = is.owed;
      climbs = climbs_in_order order_of entry written.entries is.climbs (entries_apart entry written.entries good is.entries has);
      owed_climb = is.owed_climb;
      few = omega (arith, below, length_in_order order_of entry written.entries);
      owed_few = is.owed_few;
    }

owed_if : (number : ℕ) (written : WrittenRows) (peer : Peer) (has room : Bool) → has_peer written.owed peer ≡ has
    → nat_lt (length written.owed) 64 ≡ room → IsOfAFile written → IsNamed peer
    → Stays (unless (not has) (Twice number) >>= (λ _. unless room TooMany >>= (λ _. Ok (record written { owed = in_order rank_of peer written.owed }))))
owed_if number written peer true room has few is good = tt
owed_if number written peer false false has few is good = tt
owed_if number written peer false true has few is good =
    let below : length written.owed < 64 = grind (arith, nat_tests, few) in
    record {
      entries = is.entries;
      owed = all_in_order rank_of IsNamed peer written.owed good is.owed;
      climbs = is.climbs;
      owed_climb = climbs_in_order rank_of peer written.owed is.owed_climb (peers_apart peer written.owed good is.owed has);
      few = is.few;
      owed_few = omega (arith, below, length_in_order rank_of peer written.owed);
    }

said_stays : (number : ℕ) (written : WrittenRows) (said : Line) → IsOfAFile written → CanBeWritten said → Stays (rows_with_said number written said)
said_stays number written (Entry entry) is good =
    entry_if number written entry (has_row_entry written.entries entry.peer entry.handle) (nat_lt (length written.entries) 4096) refl refl is good
said_stays number written (Owed peer) is good = owed_if number written peer (has_peer written.owed peer) (nat_lt (length written.owed) 64) refl refl is good

line_stays : (number : ℕ) (written : WrittenRows) (line : Octets) → IsOfAFile written → Stays (rows_with_line number written line)
line_stays number written [] is = is
line_stays number written (octet ∷ octets) is = by (rows_line_of (octet ∷ octets)) refl
  where
    by : (said : Option Line) → rows_line_of (octet ∷ octets) ≡ said → Stays (require said (BadLine number) >>= (λ said. rows_with_said number written said))
    by None none = tt
    by (Some said) reads = said_stays number written said is (line_read (octet ∷ octets) said reads)

lines_stay : (number : ℕ) (written : WrittenRows) (lines : List Octets) → IsOfAFile written → Stays (rows_with_lines number written lines)
lines_stay number written [] is = is
lines_stay number written (line ∷ lines) is =
    by (rows_with_line number written line) (line_stays number written line is) (λ next stays. lines_stay (number + 1) next lines stays)
  where
    by : (next : Result WrittenRows RowsFault) → Stays next → ((next : WrittenRows) → IsOfAFile next → Stays (rows_with_lines (number + 1) next lines))
        → Stays (next >>= (λ next. rows_with_lines (number + 1) next lines))
    by (Err fault) stays later = tt
    by (Ok next) stays later = later next stays

rows_of_a_file : (text : Octets) → IfOk (rows_read text) IsOfAFile
unfolding rows_read
rows_of_a_file text = lines_stay 1 nothing_written (lines_of text) (record {
  entries = All-nil IsConfigured;
  owed = All-nil IsNamed;
  climbs = tt;
  owed_climb = tt;
  few = omega arith;
  owed_few = omega arith;
})

same_rows : (x y : Subscriptions) → ◌≡◌ {A = Result Subscriptions RowsFault} (Ok x) (Ok y) → x ≡ y
same_rows x y is = cc is

-- so the text of what is read can be read again
pub read_can_be_written : (text : Octets) (result : Result Subscriptions RowsFault) → Gives OutOfMemory (subscriptions_read text) result
    → IfOk result (λ rows. IsOfAFile (written_by rows))
read_can_be_written text (Err fault) gives = tt
read_can_be_written text (Ok rows) gives = by (rows_read text) refl gives
  where
    by : (read : Result WrittenRows RowsFault) → rows_read text ≡ read → (read >>= (λ written. Ok (unfitted_rows written))) ≡ Ok rows
        → IsOfAFile (written_by rows)
    by (Err fault) is reads = cc reads
    by (Ok written) is reads =
        subst (λ (rows : Subscriptions). IsOfAFile (written_by rows)) (same_rows (unfitted_rows written) rows reads)
        (subst (λ (read : Result WrittenRows RowsFault). IfOk read IsOfAFile) is (rows_of_a_file text))
