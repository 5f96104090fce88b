-- Octets as fields, and octet by octet.
use Rattle.std.proofs.Common.{◌≡◌, ℕ, ◌<◌, ◌≤◌, List, [], ◌∷◌, length, take, drop, refl, sym, ◌∙◌, ap, arith, inl, inr}
use Rattle.std.specs.Prelude.{◌+◌, Option, Some, None}
use Rattle.std.specs.Option.{option_map, option_and_then}
use Rattle.std.proofs.lemmas.Bool.{le-leb, lt-leb, cases_lt}
use Rattle.std.proofs.lemmas.List.{length-drop}
use Rattle.octet_io.specs.Number.{from_two}
use Rattle.le_hci.specs.Event.{Reported, ConnectionComplete, LongTermKeyRequest, handle_of, fields, connection_complete_of, connection_complete, key_request_of, long_term_key_request}

abbrev all_of : List ℕ → ℕ
all_of [] = 0
all_of (size ∷ sizes) = size + all_of sizes

fields-short : (sizes octets : List ℕ) → length octets < all_of sizes → fields sizes octets ≡ None
fields-short [] octets h = absurd (omega arith)
fields-short (size ∷ sizes) octets h = elim (cases_lt (length octets) size) [
  | inl few ↦ rw (lt-leb size (length octets) few) refl
  | inr enough ↦ rw (le-leb size (length octets) enough)
      (ap (option_map (λ (others : List (List ℕ)). take size octets ∷ others)) (fields-short sizes (drop size octets) (omega (arith, length-drop size octets))))
]

more : (size : ℕ) (sizes octets : List ℕ) (others : List (List ℕ)) → size ≤ length octets → fields sizes (drop size octets) ≡ Some others
    → fields (size ∷ sizes) octets ≡ Some (take size octets ∷ others)
more size sizes octets others h is =
    rw (le-leb size (length octets) h) (ap (option_map (λ (others : List (List ℕ)). take size octets ∷ others)) is)

-- the forms that have fields of six and of eight octets
abbrev pub connection_by : List ℕ → Option Reported
connection_by (s ∷ lo ∷ hi ∷ role ∷ kind ∷ a ∷ b ∷ c ∷ d ∷ e ∷ f ∷ i ∷ j ∷ k ∷ l ∷ m ∷ n ∷ accuracy ∷ rest) =
    Some (ConnectionComplete s (handle_of lo hi) role (record { kind = kind; address = a ∷ b ∷ c ∷ d ∷ e ∷ f ∷ [] })
    (from_two i j) (from_two k l) (from_two m n) accuracy)
connection_by _ = None

abbrev pub request_by : List ℕ → Option Reported
request_by (lo ∷ hi ∷ a ∷ b ∷ c ∷ d ∷ e ∷ f ∷ g ∷ h ∷ i ∷ j ∷ rest) =
    Some (LongTermKeyRequest (handle_of lo hi) (a ∷ b ∷ c ∷ d ∷ e ∷ f ∷ g ∷ h ∷ []) (from_two i j))
request_by _ = None

connection-short : (octets : List ℕ) → length octets < 18 → connection_by octets ≡ None
connection-short (s ∷ lo ∷ hi ∷ role ∷ kind ∷ a ∷ b ∷ c ∷ d ∷ e ∷ f ∷ i ∷ j ∷ k ∷ l ∷ m ∷ n ∷ accuracy ∷ rest) h = absurd (omega arith)
connection-short _ h = refl

request-short : (octets : List ℕ) → length octets < 12 → request_by octets ≡ None
request-short (lo ∷ hi ∷ a ∷ b ∷ c ∷ d ∷ e ∷ f ∷ g ∷ h ∷ i ∷ j ∷ rest) few = absurd (omega arith)
request-short _ few = refl

connection-long : (octets : List ℕ) → 18 ≤ length octets → connection_complete octets ≡ connection_by octets
connection-long (s ∷ lo ∷ hi ∷ role ∷ kind ∷ a ∷ b ∷ c ∷ d ∷ e ∷ f ∷ i ∷ j ∷ k ∷ l ∷ m ∷ n ∷ accuracy ∷ rest) h =
    let accuracies : List ℕ = accuracy ∷ rest in
    let timeouts : List ℕ = m ∷ n ∷ accuracies in
    let latencies : List ℕ = k ∷ l ∷ timeouts in
    let intervals : List ℕ = i ∷ j ∷ latencies in
    let addresses : List ℕ = a ∷ b ∷ c ∷ d ∷ e ∷ f ∷ intervals in
    let kinds : List ℕ = kind ∷ addresses in
    let roles : List ℕ = role ∷ kinds in
    let handles : List ℕ = lo ∷ hi ∷ roles in
    ap (option_and_then connection_complete_of)
    (more 1 (2 ∷ 1 ∷ 1 ∷ 6 ∷ 2 ∷ 2 ∷ 2 ∷ 1 ∷ []) (s ∷ handles) _ (omega arith)
    (more 2 (1 ∷ 1 ∷ 6 ∷ 2 ∷ 2 ∷ 2 ∷ 1 ∷ []) handles _ (omega arith)
    (more 1 (1 ∷ 6 ∷ 2 ∷ 2 ∷ 2 ∷ 1 ∷ []) roles _ (omega arith)
    (more 1 (6 ∷ 2 ∷ 2 ∷ 2 ∷ 1 ∷ []) kinds _ (omega arith)
    (more 6 (2 ∷ 2 ∷ 2 ∷ 1 ∷ []) addresses _ (omega arith)
    (more 2 (2 ∷ 2 ∷ 1 ∷ []) intervals _ (omega arith)
    (more 2 (2 ∷ 1 ∷ []) latencies _ (omega arith)
    (more 2 (1 ∷ []) timeouts _ (omega arith)
    (more 1 [] accuracies [] (omega arith) refl)))))))))
connection-long _ h = absurd (omega arith)

request-long : (octets : List ℕ) → 12 ≤ length octets → long_term_key_request octets ≡ request_by octets
request-long (lo ∷ hi ∷ a ∷ b ∷ c ∷ d ∷ e ∷ f ∷ g ∷ h ∷ i ∷ j ∷ rest) enough =
    let diversifiers : List ℕ = i ∷ j ∷ rest in
    let numbers : List ℕ = a ∷ b ∷ c ∷ d ∷ e ∷ f ∷ g ∷ h ∷ diversifiers in
    ap (option_and_then key_request_of)
    (more 2 (8 ∷ 2 ∷ []) (lo ∷ hi ∷ numbers) _ (omega arith) (more 8 (2 ∷ []) numbers _ (omega arith) (more 2 [] diversifiers [] (omega arith) refl)))
request-long _ enough = absurd (omega arith)

pub connection_is : (octets : List ℕ) → connection_complete octets ≡ connection_by octets
connection_is octets = elim (cases_lt (length octets) 18) [
  | inl few ↦
      ap (option_and_then connection_complete_of) (fields-short (1 ∷ 2 ∷ 1 ∷ 1 ∷ 6 ∷ 2 ∷ 2 ∷ 2 ∷ 1 ∷ []) octets (omega arith))
      ∙ sym (connection-short octets few)
  | inr enough ↦ connection-long octets enough
]

pub request_is : (octets : List ℕ) → long_term_key_request octets ≡ request_by octets
request_is octets = elim (cases_lt (length octets) 12) [
  | inl few ↦ ap (option_and_then key_request_of) (fields-short (2 ∷ 8 ∷ 2 ∷ []) octets (omega arith)) ∙ sym (request-short octets few)
  | inr enough ↦ request-long octets enough
]
