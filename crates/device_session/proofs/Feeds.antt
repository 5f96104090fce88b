-- Lines and their line feeds.
use Rattle.std.proofs.Common.{◌≡◌, ℕ, ◌+◌, ◌<◌, ◌≤◌, Bool, true, false, List, [], ◌∷◌, ◌++◌, length, take, drop, get_or, Some, None, refl, sym, ap, subst, ◌∙◌, arith, append_assoc, length-take}
use Rattle.std.specs.Prelude.{All, nat_lt, cond, if◌then◌else◌}
use Rattle.std.specs.List.{after_first, flat_map, position, position_or_len}
use Rattle.std.proofs.lemmas.Bool.{eqb-true, ltb-false, le-leb}
use Rattle.std.proofs.lemmas.List.{drop_more, take-append-drop, get_or-take}
use Rattle.std.proofs.lemmas.List.Elements.{All-from_get_or, All-head, All-tail}
use Rattle.std.proofs.lemmas.List.Quantifiers.{position-Some}
use Rattle.std.proofs.lemmas.List.Splits.{slice_split_at}
use Rattle.octet_io.specs.Number.{Octets}
use Rattle.app_lines.specs.Inbox.{found_in, is_feed, joined_if_fits, line_in}
use Rattle.app_lines.specs.declared.inbox.Found.{Found}
use Rattle.app_lines.specs.declared.inbox.Found.TheVariants.{Line, Nothing, TooLong}
use Rattle.app_lines.specs.declared.inbox.TheConstants.{LONGEST, ROOM}
use Rattle.device_session.specs.declared.incoming.TheConstants.{MOST_READ}
use Rattle.device_session.specs.Incoming.{lines_of}

abbrev pub with_feed : Octets → Octets
with_feed line = line ++ 10 ∷ []

abbrev pub IsOneLine : Octets → Type 0
IsOneLine line = All (λ octet. is_feed octet ≡ false) line

abbrev by_tests : Bool → Bool → Found
by_tests long short = if long then TooLong else if short then Line else Nothing

ends : (long short : Bool) → by_tests long short ≡ Line → short ≡ true
ends true short is = cc is
ends false true is = refl
ends false false is = cc is

no-end : (long short : Bool) → by_tests long short ≡ Nothing → (long ≡ false) × (short ≡ false)
no-end true short is = cc is
no-end false true is = cc is
no-end false false is = (refl, refl)

-- the place of the line feed that ends a line
module _ (octets : Octets) where
  place : ℕ
  place = position_or_len is_feed octets

  found-at : found_in octets ≡ Line → position is_feed octets ≡ Some (position_or_len is_feed octets)
  found-at is =
      ap (λ (short : Bool). cond short (Some (position_or_len is_feed octets)) None)
      (ends (nat_lt LONGEST (position_or_len is_feed octets)) (nat_lt (position_or_len is_feed octets) (length octets)) is)

  pub line_parts : found_in octets ≡ Line → octets ≡ with_feed (line_in octets) ++ after_first is_feed octets
  line_parts is =
      let at : ℕ = position_or_len is_feed octets in
      let found = position-Some is_feed octets at 0 (found-at is) in
      sym (take-append-drop at octets)
      ∙ ap (λ (rest : Octets). take at octets ++ rest)
      (drop_more octets at 0 found.0 ∙ ap (λ (octet : ℕ). octet ∷ drop (at + 1) octets) (eqb-true (get_or octets at 0) 10 found.1))
      ∙ sym (append_assoc (take at octets) (10 ∷ []) (drop (at + 1) octets))

  pub one_line : found_in octets ≡ Line → IsOneLine (line_in octets)
  one_line is =
      let at : ℕ = position_or_len is_feed octets in
      let found = position-Some is_feed octets at 0 (found-at is) in
      All-from_get_or (λ octet. is_feed octet ≡ false) (take at octets) 0
      (λ i below. let inside : i < at = omega (arith, below, length-take at octets) in
      subst (λ (octet : ℕ). is_feed octet ≡ false) (sym (get_or-take at octets i 0 inside)) (found.2 i inside))

  -- an input without a line is short
  pub short : found_in octets ≡ Nothing → length octets ≤ LONGEST
  short is =
      let tests = no-end (nat_lt LONGEST (position_or_len is_feed octets)) (nat_lt (position_or_len is_feed octets) (length octets)) is in
      omega (arith, ltb-false LONGEST (position_or_len is_feed octets) tests.0, ltb-false (position_or_len is_feed octets) (length octets) tests.1)

  pub fits : (more : Octets) → found_in octets ≡ Nothing → length more ≤ MOST_READ → joined_if_fits octets more ≡ octets ++ more
  fits more is few =
      ap (λ (test : Bool). if test then octets ++ more else octets)
      (le-leb (length octets + length more) ROOM (omega (arith, short is, few)))

pub lines_then : (lines : List Octets) (rest : Octets) → All IsOneLine lines
    → lines ++ lines_of rest ≡ lines_of (flat_map with_feed lines ++ rest)
lines_then [] rest each = refl
lines_then (line ∷ lines) rest each =
    ap (λ (more : List Octets). line ∷ more) (lines_then lines rest (All-tail IsOneLine line lines each))
    ∙ sym (slice_split_at is_feed line 10 (flat_map with_feed lines ++ rest) (All-head IsOneLine line lines each) refl)
    ∙ ap lines_of (sym (append_assoc line (10 ∷ []) (flat_map with_feed lines ++ rest))
    ∙ sym (append_assoc (with_feed line) (flat_map with_feed lines) rest))
