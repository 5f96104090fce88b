-- The clients of a script (this profile's own).
use Rattle.std.specs.Prelude.{ℕ, ◌<◌, ◌≤◌, length}
use Rattle.std.specs.List.{All, IsDistinct}
use Rattle.std.specs.Str.{bytes_eq}
use Rattle.scripts.specs.declared.act.Act.{Act}
use Rattle.scripts.specs.declared.act.Act.TheVariants.{Phone, Authorize}
use Rattle.scripts.specs.declared.script.TheConstants.{MAX_PHONES}
use Rattle.scripts.specs.Script.{Acts}

-- The client of an act has a number below `count`.
abbrev pub IsOfPhoneBelow : ℕ → Act → Type 0
IsOfPhoneBelow count (Phone phone act) = phone < count
IsOfPhoneBelow count (Authorize phone until) = phone < count
IsOfPhoneBelow count _ = Unit {0}

-- At most `MAX_PHONES` clients have distinct names, and each act is of one of them.
pub record HasNamedPhones (script : Acts) : Type 0 where
  pub few : length script.names ≤ MAX_PHONES
  pub distinct : IsDistinct bytes_eq script.names
  pub named : All (IsOfPhoneBelow (length script.names)) script.acts
