use Rattle.std.proofs.Common.{◌++◌, ap, sym}
use Rattle.hex.specs.Hex.{encode_lower}
use Rattle.le_l2cap.specs.Frame.{frame_contents}
use Rattle.octet_io.specs.Number.{Octets}
use Rattle.shell_files.proofs.Fronts.{first_of, then_of, three_parts}
use Rattle.gatt_commands.proofs.Fronts.{frame_line_front}
use Rattle.gatt_commands.specs.Lines.{line_feed, sign_of}
use Rattle.gatt_commands.proofs.outcome.print_frame.Goals as goal

pub returns-in_err-print_name-clause-front : goal.returns-in_err-print_name-clause-front
returns-in_err-print_name-clause-front g c =
    let frame = frame_contents c.in-Ok.frame in
    let payload = encode_lower frame.payload in
    let name = c.args.name.now in
    frame_line_front c.from_residual.result name c.args.octets.now frame (g.W.Write.contents c.args.writer.now) (g.W.Write.contents c.print_name.new.writer)
    (sym c.in-Ok.ensures.exact)
    (three_parts c.from_residual.result (name ++ sign_of frame.cid) payload line_feed (g.W.Write.contents c.args.writer.now)
    (g.W.Write.contents c.print_name.new.writer)
    (first_of c.from_residual.result (name ++ c.sign_of.result.now) (name ++ sign_of frame.cid) (payload ++ line_feed) _ _
    (ap (λ (sign : Octets). name ++ sign) c.sign_of.ensures) c.in_err-print_name.ensures.front))

pub returns-clause-front : goal.returns-clause-front
returns-clause-front g c =
    let frame = frame_contents c.in-Ok.frame in
    let payload = encode_lower frame.payload in
    let name = c.args.name.now in
    frame_line_front c.print_hex_line.result name c.args.octets.now frame (g.W.Write.contents c.args.writer.now)
    (g.W.Write.contents c.print_hex_line.new.writer)
    (sym c.in-Ok.ensures.exact)
    (three_parts c.print_hex_line.result (name ++ sign_of frame.cid) payload line_feed (g.W.Write.contents c.args.writer.now)
    (g.W.Write.contents c.print_hex_line.new.writer)
    (then_of c.print_hex_line.result (name ++ c.sign_of.result.now) (name ++ sign_of frame.cid) (payload ++ line_feed) _ _ _
    (ap (λ (sign : Octets). name ++ sign) c.sign_of.ensures) c.in_ok-print_name.ensures.ok c.print_hex_line.ensures.front))
