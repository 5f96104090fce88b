-- What a call does to the host that is lent, it does to the host behind the pointer.
use Rattle.std.proofs.Common.{◌≡◌, ◌∙◌, Option, Some, IfSome, Result, Ok, Err, ap, subst, sym}
use Rattle.gihandop_c.specs.declared.opened.Opened.{Opened}
use Rattle.gihandop_c.specs.Boundary.{OfTheHost}

pub carried : (Holds : Opened → Opened → Type 0) (old : Option Opened) (before after : Opened)
    → Some before ≡ old → Holds before after → OfTheHost Holds old (Some after)
carried Holds old before after had holds = subst (λ (host : Option Opened). OfTheHost Holds host (Some after)) had holds

-- and what holds of it before the call holds of the one that was open
pub carried_before : (Holds : Opened → Type 0) (old : Option Opened) (before : Opened) → Some before ≡ old → Holds before → IfSome old Holds
carried_before Holds old before had holds = subst (λ (host : Option Opened). IfSome host Holds) had holds

-- what is read of one text is one thing
abbrev read_or : {A E : Type 0} → A → Result A E → A
read_or other (Ok read) = read
read_or other (Err fault) = other

pub same_ok : {A E : Type 0} (read : Result A E) (one other : A) → read ≡ Ok one → read ≡ Ok other → one ≡ other
same_ok read one other is_one is_other = ap (read_or one) (sym is_one ∙ is_other)
