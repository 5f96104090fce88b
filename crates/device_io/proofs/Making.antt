-- The machine value of the calls. Assumes `Logic`.
use Rattle.std.proofs.Common.{List, [], ◌∷◌, refl, lit<, w8}
use seplogic.Ra.Ura.{Ura}
use mir.Val.{Val, vstruct, vcons, vnil, vint}
use types.Logic.{Logic}
use types.Kit.{Item, Goal, Step, step, ‵, ◌$◌, fjoin, fpack, feq_i}
use denote.Builtin.{u8}
use denote.Laws.{Is}
use denote.Plain.{uint_Makes}
use denote.RattleType.{Valss}
use denote.Steps.{nothing, owned}
use denote.Struct.Struct.{within}
use denote.Struct.Owning.{shape}
use Rattle.device_io.specs.Disk.{Call}
use Rattle.device_io.specs.contracts.disk.Made as made

abbrev pub word : Val
word = vstruct (vcons (vint w8 0) vnil)

module _ {M : Type 1} {𝓤 : Ura M} {𝓛 : Logic 𝓤} {K : Type 0} {Γ : List (Item 𝓤)} {G : Goal 𝓤 𝓛.H} where
  pub made_in : K → (calls : List Call)
      → Step K 𝓛 (‵ (made.the_row.own_val (record { kept = 0; calls = calls }) (word ∷ [])) ∷ Γ) G Γ G
  made_in t calls = step (λ k.
      nothing t $ nothing t $ owned t u8 (Is u8) (uint_Makes 𝓛 w8) 0 (vint w8 0 ∷ []) (refl, lit< tt) $ fjoin t $ feq_i t (List Val) (word ∷ []) (word ∷ []) refl $ fjoin t $
      fpack t (Valss (u8 ∷ [])) (within (shape made.the_type) (0, tt) (word ∷ [])) (vint w8 0 ∷ [], tt) $ fjoin t $ k)
