use Rattle.std.proofs.Common.{◌≡◌, refl, sym, true, false}
use Rattle.std.specs.Str.{is_utf8}
use Rattle.std.proofs.lemmas.Str.{is_utf8-from_IsUtf8}
use Rattle.device_state.proofs.Texts.{not_utf8}
use Rattle.device_state.proofs.state.State.read_octets.Goals as goal

pub returns-in-Ok : goal.returns-in-Ok
returns-in-Ok c =
    let text : is_utf8 c.args.lines.now ≡ true = is_utf8-from_IsUtf8 c.args.lines.now c.in-Ok.ensures.cases.1 in
    rw (text, sym c.in-Ok.ensures.cases.0) c.read_lines.ensures

pub returns-in-Err : goal.returns-in-Err
returns-in-Err c =
    let other : is_utf8 c.args.lines.now ≡ false = not_utf8 c.args.lines.now c.in-Err.ensures.cases.0 in
    rw other (λ known. refl)
