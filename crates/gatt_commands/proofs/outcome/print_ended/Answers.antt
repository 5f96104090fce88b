use Rattle.std.proofs.Common.{[], ◌∷◌, ◌++◌, refl}
use Rattle.std.specs.Prelude.{codes}
use Rattle.hex.specs.Hex.{encode_lower}
use Rattle.shell_files.proofs.Fronts.{first_of, then_of, three_parts}
use Rattle.gatt_commands.specs.Lines.{line_feed}
use Rattle.gatt_commands.proofs.outcome.print_ended.Goals as goal

pub returns-in_err-print_name-clause-front : goal.returns-in_err-print_name-clause-front
returns-in_err-print_name-clause-front g c =
    let named = c.args.name.now ++ codes " ended " in
    let reason = encode_lower (c.args.reason ∷ []) in
    three_parts c.from_residual.result named reason line_feed (g.W.Write.contents c.args.writer.now) (g.W.Write.contents c.print_name.new.writer)
    (first_of c.from_residual.result named named (reason ++ line_feed) _ _ refl c.in_err-print_name.ensures.front)

pub returns-clause-front : goal.returns-clause-front
returns-clause-front g c =
    let named = c.args.name.now ++ codes " ended " in
    let reason = encode_lower (c.args.reason ∷ []) in
    three_parts c.print_hex_line.result named reason line_feed (g.W.Write.contents c.args.writer.now) (g.W.Write.contents c.print_hex_line.new.writer)
    (then_of c.print_hex_line.result named named (reason ++ line_feed) _ _ _ refl c.in_ok-print_name.ensures.ok c.print_hex_line.ensures.front)
