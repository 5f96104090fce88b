-- What the code tests, beside the same over what it stands for.
use Rattle.std.proofs.Common.{◌≡◌, Bool, List, [], ◌∷◌, ◌&&◌, refl, ap}
use Rattle.std.proofs.lemmas.Map.Text.{is_eq-slice_cmp}
use Rattle.std.specs.List.{list_all}
use Rattle.toml.specs.Data.{Data}
use Rattle.toml.specs.View.{view, items_view}
use Rattle.toml.specs.declared.value.Value.{Value}
use Rattle.toml_schema.specs.Shape.{all_items}

-- a test of all items of an array is one of all values of the list
pub all_items_view : (test : Data → Bool) (values : List Value) → all_items test (items_view values) ≡ list_all (λ value. test (view value)) values
all_items_view test [] = refl
all_items_view test (value ∷ values) = ap (λ rest. test (view value) && rest) (all_items_view test values)

-- what `==` of two texts says of a key
pub ruleset same_keys = (is_eq-slice_cmp)
