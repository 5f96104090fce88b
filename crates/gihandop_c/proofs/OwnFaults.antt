-- A host has no fault of its own, whatever it takes.
use Rattle.std.proofs.Common.{◌≡◌, ◌∙◌, ℕ, false, Option, Some, None, Result, Ok, Err, refl, ap, subst, sym}
use Rattle.std.specs.Prelude.{IfErr, IsSome}
use Rattle.std.specs.Option.{option_map_or}
use Rattle.std.specs.Result.{result_err}
use Rattle.gatt_host.specs.declared.host_fault.HostFault.{HostFault}
use Rattle.gatt_host.specs.HostModel.{HostModel, is_own_fault}

abbrev HasNone : Option HostFault → Type 0
HasNone fault = option_map_or is_own_fault fault false ≡ false

told : (result : Result ℕ HostFault) → IfErr result (λ fault. is_own_fault fault ≡ false) → HasNone (result_err result)
told (Ok used) not_own = refl
told (Err fault) not_own = not_own

pub none_taken : (old new : HostModel) (result : Result ℕ HostFault) → result_err result ≡ new.fault
    → (old.fault ≡ None → IfErr result (λ fault. is_own_fault fault ≡ false)) → (IsSome old.fault → new ≡ old) → HasNone old.fault → HasNone new.fault
none_taken old new result outcome not_own stopped before = by old.fault refl
  where
    by : (fault : Option HostFault) → old.fault ≡ fault → HasNone new.fault
    by None is = ap (λ (fault : Option HostFault). option_map_or is_own_fault fault false) (sym outcome) ∙ told result (not_own is)
    by (Some fault) is =
        ap (λ (host : HostModel). option_map_or is_own_fault host.fault false) (stopped (subst IsSome (sym is) refl)) ∙ before
