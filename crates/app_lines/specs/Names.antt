-- The names of connections (this profile's own).
use Rattle.std.specs.Prelude.{ℕ, ◌-◌, ◌^◌, ◌<◌, ◌==◌, ◌&&◌, Bool, not, nat_lt, List, [], ◌∷◌, ◌++◌, length, filter, find, All, Option}
use Rattle.std.specs.Option.{option_map}
use Rattle.app_lines.specs.declared.names.Named.{Named}
use Rattle.host_api.specs.declared.TheConstants.{MAX_SLOTS}

-- The connections in order, and the name of the next one.
pub record Names : Type 0 where
  pub named : List Named
  pub next : ℕ

abbrev pub without_handle : ℕ → List Named → List Named
without_handle handle named = filter (λ (one : Named). not (one.handle == handle)) named

-- A number is left for a new connection, and it is not one too many.
abbrev pub may_name : ℕ → Names → Bool
may_name handle names =
    nat_lt names.next (2 ^ 64 - 1)
    && nat_lt (length (without_handle handle names.named)) MAX_SLOTS

-- The connection has this name, and no other has its handle.
abbrev pub with_name : ℕ → ℕ → List Named → List Named
with_name name handle named =
    without_handle handle named ++ record { name = name; handle = handle } ∷ []

abbrev pub name_of : ℕ → List Named → Option ℕ
name_of handle named =
    option_map (λ (one : Named). one.name) (find (λ (one : Named). one.handle == handle) named)

abbrev pub handle_of : ℕ → List Named → Option ℕ
handle_of name named =
    option_map (λ (one : Named). one.handle) (find (λ (one : Named). one.name == name) named)

-- Each name is below the next one.
abbrev pub AreBelow : ℕ → List Named → Type 0
AreBelow next named = All (λ (one : Named). one.name < next) named
