use Rattle.std.proofs.Common.{Result, Ok, Err, refl}
use Rattle.std.specs.Prelude.{OnOk, IsOk}
use Rattle.hex.specs.Hex.{encode_with}
use Rattle.policy_words.specs.TypeText.{uuid_text}
use Rattle.policy_words.proofs.type_text.uuid_text.Goals as goal

on_ok_is : {T E : Type 0} (result : Result T E) (P : Type 0) → IsOk result → OnOk result P → P
on_ok_is (Ok x) P ok p = p
on_ok_is (Err e) P ok p = cc ok

pub returns : goal.returns
unfolding uuid_text encode_with
returns c =
    let is = on_ok_is c.encode_to_slice.result _ (c.encode_to_slice.ensures.fits.1 refl) c.encode_to_slice.ensures.written in
    rw is refl
