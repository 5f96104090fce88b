-- The texts that a store saves after a run (this profile's own).
use Rattle.std.specs.Prelude.{◌≡◌, Bool, List, [], ◌∷◌, ◌++◌, Option, Some, None, Result, Ok}
use Rattle.std.specs.Result.{is_ok}
use Rattle.octet_io.specs.Number.{Octets}
use Rattle.shell_files.specs.declared.fault.ShellFault.{ShellFault}

-- A text that a store had to save, and whether it did.
pub record Save : Type 0 where
  pub text : Octets
  pub is_done : Bool

abbrev pub save_of : Octets → Bool → Save
save_of text is_done = record { text = text; is_done = is_done }

-- The text follows the ones before, if known.
abbrev pub Saves : Octets → Bool → Option (List Save) → Option (List Save) → Type 0
Saves text is_done None after = Unit {0}
Saves text is_done (Some before) None = ⊥
Saves text is_done (Some before) (Some after) = after ≡ before ++ save_of text is_done ∷ []

-- The store had to save after `ran`; after success, the result says whether it did.
pub record SavesAfter (ran result : Result (Unit {0}) ShellFault) (text : Octets)
    (before after : Option (List Save)) : Type 0 where
  pub is_done : Bool
  pub saves : Saves text is_done before after
  pub answered : ran ≡ Ok tt → is_done ≡ is_ok result
