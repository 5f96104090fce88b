-- A division goes on packet by packet.
use Rattle.std.proofs.Common.{◌≡◌, ℕ, suc, zero, ◌+◌, ◌-◌, ◌<◌, ◌≤◌, List, [], ◌∷◌, ◌++◌, length, take, drop, Bool, false, refl, sym, ◌∙◌, ap, arith, inl, inr}
use Rattle.std.specs.Prelude.{cond}
use Rattle.std.proofs.lemmas.Bool.{le-leb, lt-leb, lt-ltb, cases_lt}
use Rattle.std.proofs.lemmas.List.{drop-append-le, drop_all, length-append, length-drop, length-take-le}
use Rattle.std.proofs.Math.Seq.{drop-append-add}
use Rattle.le_h4.specs.Packet.{Packet, First, FirstPacket, NoneYet, NoPacket, first_of, with_data, acl_packet}
use Rattle.le_h4.specs.Division.{Division, unfinished, lost, is_long, before, after_first, division_within, division, division_past}
use Rattle.le_h4.proofs.Firsts.{first_append-packet, first_append-none, first_shorter, with_data-whole, with_data-part}

-- only what follows the first packet is divided on
after_first-same : (first : First) (f g : List ℕ → Division)
    → ((packet : Packet) (rest : List ℕ) → first ≡ FirstPacket packet rest → f rest ≡ g rest) → after_first first f ≡ after_first first g
after_first-same (FirstPacket packet rest) f g same =
    ap (λ (d : Division). cond (is_long packet) d (before (packet ∷ []) d)) (same packet rest refl)
after_first-same NoneYet f g same = refl
after_first-same (NoPacket indicator) f g same = refl

-- any count that is large enough gives the same division
within_enough : (n m : ℕ) (octets : List ℕ) → length octets ≤ n → length octets ≤ m → division_within n octets ≡ division_within m octets
unfolding division_within
within_enough zero zero octets h k = refl
within_enough zero (suc m) [] h k = refl
within_enough zero (suc m) (x ∷ xs) h k = absurd (omega arith)
within_enough (suc n) zero [] h k = refl
within_enough (suc n) zero (x ∷ xs) h k = absurd (omega arith)
within_enough (suc n) (suc m) octets h k =
    after_first-same (first_of octets) (division_within n) (division_within m)
    (λ packet rest is. within_enough n m rest (omega (arith, first_shorter octets rest packet is)) (omega (arith, first_shorter octets rest packet is)))

pub division_first : (octets : List ℕ) → division octets ≡ after_first (first_of octets) division
unfolding division division_within
division_first [] = refl
division_first (x ∷ xs) =
    after_first-same (first_of (x ∷ xs)) (division_within (length xs)) division
    (λ packet rest is. within_enough (length xs) (length rest) rest (omega (arith, first_shorter (x ∷ xs) rest packet is)) (omega arith))

pub division-nothing : division [] ≡ unfinished
division-nothing = division_first []

pub division-part : (octets : List ℕ) → first_of octets ≡ NoneYet → division octets ≡ unfinished
division-part octets is = division_first octets ∙ ap (λ (first : First). after_first first division) is

pub division-lost : (octets rest : List ℕ) (indicator : ℕ) → first_of octets ≡ NoPacket indicator → division (octets ++ rest) ≡ lost indicator
division-lost octets rest indicator is =
    division_first (octets ++ rest) ∙ ap (λ (first : First). after_first first division) (first_append-none octets rest indicator is)

pub division-packet : (octets rest : List ℕ) (packet : Packet) → first_of octets ≡ FirstPacket packet [] → is_long packet ≡ false
    → division (octets ++ rest) ≡ before (packet ∷ []) (division rest)
division-packet octets rest packet is short =
    division_first (octets ++ rest)
    ∙ ap (λ (first : First). after_first first division) (first_append-packet octets rest [] packet is)
    ∙ ap (λ (long : Bool). cond long (division rest) (before (packet ∷ []) (division rest))) short

-- past no octets
pub past_none : (octets : List ℕ) → division_past 0 octets ≡ division octets
past_none octets = rw (le-leb 0 (length octets) (omega arith)) refl

pub past_some : (count : ℕ) (octets : List ℕ) → count ≤ length octets → division_past count octets ≡ division (drop count octets)
past_some count octets h = rw (le-leb count (length octets) h) refl

pub past_part : (count : ℕ) (octets : List ℕ) → length octets < count → division_past count octets ≡ unfinished
past_part count octets h = rw (lt-leb count (length octets) h) refl

drop_past : (n : ℕ) (xs ys : List ℕ) → length xs ≤ n → drop n (xs ++ ys) ≡ drop (n - length xs) ys
drop_past n xs ys h =
    let e : n ≡ length xs + (n - length xs) = omega arith in
    ap (λ (m : ℕ). drop m (xs ++ ys)) e ∙ drop-append-add xs ys (n - length xs)

-- octets that are there are passed over
pub past_more : (count : ℕ) (octets rest : List ℕ)
    → division_past count (octets ++ rest) ≡ division_past (count - length octets) (drop count octets ++ rest)
past_more count octets rest = elim (cases_lt (length octets) count) [
  | inl some_left ↦
      elim (cases_lt (length (octets ++ rest)) count) [
        | inl part ↦
            past_part count (octets ++ rest) part
            ∙ sym (past_part (count - length octets) (drop count octets ++ rest)
            (omega (arith, length-append octets rest, length-append (drop count octets) rest, length-drop count octets)))
        | inr enough ↦
            past_some count (octets ++ rest) enough
            ∙ ap division (drop_past count octets rest (omega arith))
            ∙ sym (rw (drop_all count octets (omega arith)) (past_some (count - length octets) rest (omega (arith, length-append octets rest))))
      ]
  | inr all_there ↦
      past_some count (octets ++ rest) (omega (arith, length-append octets rest))
      ∙ ap division (drop-append-le count octets rest all_there)
      ∙ (let e : count - length octets ≡ 0 = omega arith in rw e (sym (past_none (drop count octets ++ rest))))
]

-- a long ACL packet is as if it were not there
pub long_data : (field size : ℕ) (octets more : List ℕ) → 1024 < size → length octets < size
    → after_first (with_data (acl_packet field) size (octets ++ more)) division ≡ division_past (size - length octets) more
long_data field size octets more long part = elim (cases_lt (length (octets ++ more)) size) [
  | inl short ↦
      ap (λ (first : First). after_first first division) (with_data-part (acl_packet field) size (octets ++ more) short)
      ∙ sym (past_part (size - length octets) more (omega (arith, length-append octets more)))
  | inr enough ↦
      ap (λ (first : First). after_first first division) (with_data-whole (acl_packet field) size (octets ++ more) enough)
      ∙ rw (lt-ltb 1024 (length (take size (octets ++ more))) (omega (arith, length-take-le size (octets ++ more) enough)))
      (ap division (drop_past size octets more (omega arith))
      ∙ sym (past_some (size - length octets) more (omega (arith, length-append octets more))))
]
