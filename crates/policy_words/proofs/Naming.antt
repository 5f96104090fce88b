-- The search for a name, in the list of the code and in that of the definition.
use Rattle.std.proofs.Common.{◌≡◌, ℕ, Bool, true, false, if◌then◌else◌, List, [], ◌∷◌, Option, Some, refl}
use Rattle.std.specs.Prelude.{◌==◌}
use Rattle.std.specs.List.{find}
use Rattle.std.specs.Option.{option_map}
use Rattle.octet_io.specs.Number.{Octets}
use Rattle.policy_words.specs.declared.type_names.Assigned.{Assigned}
use Rattle.policy_words.specs.TypeNames.{name_among, names_view}

abbrev pub name_here : Option Assigned → Option Octets
name_here found = option_map (λ (named : Assigned). named.name.now) found

abbrev pub name_there : Option (ℕ × Octets) → Option Octets
name_there found = option_map (λ (named : ℕ × Octets). named.1) found

either : (test : Bool) (named : Assigned) (there : Option (ℕ × Octets)) (here : Option Assigned) → name_there there ≡ name_here here
    → name_there (if test then Some (named.number, named.name.now) else there) ≡ name_here (if test then Some named else here)
either true named there here same = refl
either false named there here same = same

pub viewed : (names : List Assigned) (number : ℕ)
    → name_among (names_view names) number ≡ option_map (λ (named : Assigned). named.name.now) (find (λ (named : Assigned). named.number == number) names)
viewed [] number = refl
viewed (named ∷ names) number = either (named.number == number) named _ _ (viewed names number)
