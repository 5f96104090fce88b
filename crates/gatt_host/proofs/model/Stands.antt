-- A fault stands in a host, or none does.
use Rattle.std.proofs.Common.{◌≡◌, true, Option, Some, None, sym, ◌∙◌}
use Rattle.std.specs.Prelude.{is_some, IsSome}
use Rattle.gatt_host.specs.declared.host_fault.HostFault.{HostFault}
use Rattle.gatt_host.specs.HostModel.{HostModel}

clash-some : (found : Option HostFault) (fault : HostFault) → found ≡ Some fault → found ≡ None → ⊥
clash-some found fault is none = cc (is, none)

clash-none : (found : Option HostFault) → found ≡ None → IsSome found → ⊥
clash-none found is some = cc (is, some)

module _ {A : Type 0} (held host : HostModel) (view : held ≡ host) where
  -- where one stands, what is so without one needs no proof
  pub past_stop : (fault : HostFault) → held.fault ≡ Some fault → host.fault ≡ None → A
  past_stop fault is none = absurd (clash-some held.fault fault is ((λ i. (view i).fault) ∙ none))

  pub past_some : is_some held.fault ≡ true → host.fault ≡ None → A
  past_some is none = absurd (clash-none held.fault ((λ i. (view i).fault) ∙ none) is)

  -- and where none does, what is so with one
  pub past_none : held.fault ≡ None → IsSome host.fault → A
  past_none is some = absurd (clash-none host.fault (sym (λ i. (view i).fault) ∙ is) some)

-- nor is one where a call that changes nothing then goes on
pub past_going : {A : Type 0} (old new : HostModel) → new.fault ≡ None → (IsSome old.fault → new ≡ old) → IsSome old.fault → A
past_going old new none stays some = absurd (clash-none old.fault (sym (λ i. (stays some i).fault) ∙ none) some)
