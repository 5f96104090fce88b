-- Lemmas about `if`, `&&` and `||` that the standard library does not have.
use Rattle.std.proofs.Common.{◌≡◌, Bool, true, false, refl}
use Rattle.std.specs.Prelude.{◌&&◌, ◌||◌, if◌then◌else◌}

-- A property of both branches is one of the choice.
pub either_choice : {A : Type 0} (P : A → Type 0) (test : Bool) (a b : A) → P a → P b → P (if test then a else b)
either_choice P true a b first second = first
either_choice P false a b first second = second

-- It suffices that a branch has the property if it is chosen.
pub chosen_choice : {A : Type 0} (P : A → Type 0) (test : Bool) (a b : A) → (test ≡ true → P a) → (test ≡ false → P b) → P (if test then a else b)
chosen_choice P true a b first second = first refl
chosen_choice P false a b first second = second refl

-- A relation of the branches of two choices with equal tests is one of the choices.
pub both_choices : {A : Type 0} (R : A → A → Type 0) (p q : Bool) (a b c d : A) → p ≡ q → (p ≡ true → R a c) → (p ≡ false → R b d)
    → R (if p then a else b) (if q then c else d)
both_choices R true true a b c d same first second = first refl
both_choices R false false a b c d same first second = second refl
both_choices R true false a b c d same first second = cc same
both_choices R false true a b c d same first second = cc same

pub same_choice : {A : Type 0} (test : Bool) (a : A) → (if test then a else a) ≡ a
same_choice true a = refl
same_choice false a = refl

pub or_false_left : (one other : Bool) → (one || other) ≡ false → one ≡ false
or_false_left false other is = refl
or_false_left true other is = cc is

pub or_false_right : (one other : Bool) → (one || other) ≡ false → other ≡ false
or_false_right false other is = is
or_false_right true other is = cc is

pub and_true_left : (one other : Bool) → (one && other) ≡ true → one ≡ true
and_true_left true other is = refl
and_true_left false other is = cc is

pub and_true_right : (one other : Bool) → (one && other) ≡ true → other ≡ true
and_true_right true other is = is
and_true_right false other is = cc is

pub and_false_right : (one other : Bool) → one ≡ true → (one && other) ≡ false → other ≡ false
and_false_right true other yes_one is = is
and_false_right false other yes_one is = cc yes_one

pub and_with_false : (one : Bool) → (one && false) ≡ false
and_with_false true = refl
and_with_false false = refl

pub and_with_true : (one : Bool) → (one && true) ≡ one
and_with_true true = refl
and_with_true false = refl

pub or_with_true : (one : Bool) → (one || true) ≡ true
or_with_true true = refl
or_with_true false = refl

pub or_with_false : (one : Bool) → (one || false) ≡ one
or_with_false true = refl
or_with_false false = refl
