-- What a sink takes in turn, and what is counted.
use Rattle.std.proofs.Common.{◌≡◌, ℕ, ◌+◌, arith, [], ◌++◌, take, drop, Option, Some, None, refl, sym, ap, subst, ◌∙◌, append_assoc}
use Rattle.std.proofs.KnownBytes.{Appends-nil, Appends-trans}
use Rattle.std.proofs.lemmas.List.{take-append-drop}
use Rattle.std.specs.Io.KnownBytes.{Appends}
use Rattle.octet_io.specs.Number.{Octets}
use Rattle.octet_io.specs.Stream.{CountsMany, CountsNone, CountsOne, WritesFront}

-- of a text all but the rest is written
pub record HasWritten (text rest : Octets) (held holds : Option Octets) : Type 0 where
  pub written : Octets
  pub appended : Appends held holds written
  pub parts : text ≡ written ++ rest

pub written_none : (text : Octets) (held : Option Octets) → HasWritten text text held held
written_none text held = record { written = []; appended = Appends-nil held; parts = refl }

-- more of it is written
pub written_more : (text piece rest : Octets) (held mid holds : Option Octets)
    → HasWritten text (piece ++ rest) held mid → Appends mid holds piece → HasWritten text rest held holds
written_more text piece rest held mid holds so_far appended = record {
  written = so_far.written ++ piece;
  appended = Appends-trans held mid holds so_far.written piece so_far.appended appended;
  parts = so_far.parts ∙ sym (append_assoc so_far.written piece rest);
}

pub written_count : (text rest : Octets) (count : ℕ) (held mid holds : Option Octets)
    → HasWritten text rest held mid → Appends mid holds (take count rest) → HasWritten text (drop count rest) held holds
written_count text rest count held mid holds so_far appended =
    written_more text (take count rest) (drop count rest) held mid holds
    (subst (λ (rest : Octets). HasWritten text rest held mid) (sym (take-append-drop count rest)) so_far) appended

-- a piece breaks off
pub breaks_off : (text piece rest : Octets) (held mid holds : Option Octets)
    → HasWritten text (piece ++ rest) held mid → WritesFront piece mid holds → WritesFront text held holds
breaks_off text piece rest held mid holds so_far front = record {
  written = so_far.written ++ front.written;
  appended = Appends-trans held mid holds so_far.written front.written so_far.appended front.appended;
  left = front.left ++ rest;
  parts =
      so_far.parts
      ∙ ap (λ (octets : Octets). so_far.written ++ (octets ++ rest)) front.parts
      ∙ ap (λ (octets : Octets). so_far.written ++ octets) (append_assoc front.written front.left rest)
      ∙ sym (append_assoc so_far.written front.written (front.left ++ rest));
}

-- what is counted one after the other
pub counts_none : (before mid now : Option ℕ) → CountsNone before mid → CountsNone mid now → CountsNone before now
counts_none (Some b) (Some m) (Some n) first second = second ∙ first
counts_none None None None first second = tt
counts_none None None (Some n) first second = absurd second
counts_none None (Some m) now first second = absurd first
counts_none (Some b) None now first second = absurd first
counts_none (Some b) (Some m) None first second = absurd second

pub counts_one : (before mid now : Option ℕ) → CountsNone before mid → CountsOne mid now → CountsOne before now
counts_one (Some b) (Some m) (Some n) first second = second ∙ ap (λ count. count + 1) first
counts_one (Some b) (Some m) None first second = sym first ∙ second
counts_one None None None first second = tt
counts_one None None (Some n) first second = absurd second
counts_one None (Some m) now first second = absurd first
counts_one (Some b) None now first second = absurd first

pub counts_same : (before : Option ℕ) → CountsNone before before
counts_same (Some b) = refl
counts_same None = tt

-- none so far
pub many_none : (before : Option ℕ) → CountsMany 0 before before
many_none (Some b) = omega arith
many_none None = tt

-- and one more
pub many_more : (more : ℕ) (before mid now : Option ℕ) → CountsMany more before mid → CountsOne mid now → CountsMany (more + 1) before now
many_more more (Some b) (Some m) (Some n) first second = omega (arith, first, second)
many_more more (Some b) (Some m) None first second = omega (arith, first, second)
many_more more (Some b) None None first second = omega (arith, first)
many_more more (Some b) None (Some n) first second = absurd second
many_more more None None None first second = tt
many_more more None None (Some n) first second = absurd second
many_more more None (Some m) now first second = absurd first
