use Rattle.std.proofs.Common.{◌++◌, [], slice_index_or, refl, ap, subst}
use Rattle.std.specs.Fmt.{decimal}
use Rattle.std.specs.Prelude.{codes, OnErr}
use Rattle.octet_io.specs.Number.{Octets}
use Rattle.octet_io.specs.Stream.{WritesFront}
use Rattle.shell_files.proofs.Fronts.{first_of, then_of, three_parts}
use Rattle.gatt_commands.proofs.Fronts.{name_of_act, refused_act_front, refused_call_front}
use Rattle.gatt_commands.specs.Lines.{line_feed}
use Rattle.gatt_commands.proofs.outcome.print_refused.Goals as goal

pub returns-in_err-print-in-Call-clause-front : goal.returns-in_err-print-in-Call-clause-front
returns-in_err-print-in-Call-clause-front g c =
    refused_call_front c.from_residual.result c.args.names.now c.args.refused c.in-Call.number (g.W.Write.contents c.args.writer.now)
    (g.W.Write.contents c.print.new.writer)
    c.in-Call.is
    (three_parts c.from_residual.result (codes "fault ") (decimal c.in-Call.number) line_feed (g.W.Write.contents c.args.writer.now)
    (g.W.Write.contents c.print.new.writer)
    (first_of c.from_residual.result (codes "fault ") (codes "fault ") (decimal c.in-Call.number ++ line_feed) _ _ refl c.in_err-print-in-Call.ensures.front))

pub returns-in_ok-print-in-Call-clause-front : goal.returns-in_ok-print-in-Call-clause-front
returns-in_ok-print-in-Call-clause-front g c =
    refused_call_front c.print_number_line.result c.args.names.now c.args.refused c.in-Call.number (g.W.Write.contents c.args.writer.now)
    (g.W.Write.contents c.print_number_line.new.writer) c.in-Call.is
    (three_parts c.print_number_line.result (codes "fault ") (decimal c.in-Call.number) line_feed (g.W.Write.contents c.args.writer.now)
    (g.W.Write.contents c.print_number_line.new.writer)
    (then_of c.print_number_line.result (codes "fault ") (codes "fault ") (decimal c.in-Call.number ++ line_feed) _ _ _ refl c.in_ok-print-in-Call.ensures.ok
    (subst (λ number. OnErr c.print_number_line.result
    (WritesFront (decimal number ++ line_feed) (g.W.Write.contents c.print.new.writer) (g.W.Write.contents c.print_number_line.new.writer))) c.from.ensures
    c.print_number_line.ensures.front)))

pub returns-in_err-print_name-in-Act-clause-front : goal.returns-in_err-print_name-in-Act-clause-front
returns-in_err-print_name-in-Act-clause-front g c =
    let named = name_of_act c.args.names.now c.args.refused c.in-Act.phone c.in-Act.number c.from-in-Act.result c.index-names-from.result c.in-Act.is c.requires
    c.from-in-Act.ensures c.index-names-from.is in
    let name = slice_index_or c.args.names.now c.in-Act.phone [] in
    refused_act_front c.from_residual-in_err-print_name-in-Act.result c.args.names.now c.args.refused c.in-Act.phone c.in-Act.number
    (g.W.Write.contents c.args.writer.now) (g.W.Write.contents c.print_name.new.writer) c.in-Act.is
    (three_parts c.from_residual-in_err-print_name-in-Act.result (name ++ codes " refused ") (decimal c.in-Act.number) line_feed
    (g.W.Write.contents c.args.writer.now) (g.W.Write.contents c.print_name.new.writer)
    (first_of c.from_residual-in_err-print_name-in-Act.result (c.index-names-from.result ++ codes " refused ") (name ++ codes " refused ")
    (decimal c.in-Act.number ++ line_feed) _ _ (ap (λ (octets : Octets). octets ++ codes " refused ") named) c.in_err-print_name-in-Act.ensures.front))

pub returns-in_ok-print_name-in-Act-clause-front : goal.returns-in_ok-print_name-in-Act-clause-front
returns-in_ok-print_name-in-Act-clause-front g c =
    let named = name_of_act c.args.names.now c.args.refused c.in-Act.phone c.in-Act.number c.from-in-Act.result c.index-names-from.result c.in-Act.is c.requires
    c.from-in-Act.ensures c.index-names-from.is in
    let name = slice_index_or c.args.names.now c.in-Act.phone [] in
    refused_act_front c.print_number_line-in-Act.result c.args.names.now c.args.refused c.in-Act.phone c.in-Act.number
    (g.W.Write.contents c.args.writer.now) (g.W.Write.contents c.print_number_line-in-Act.new.writer) c.in-Act.is
    (three_parts c.print_number_line-in-Act.result (name ++ codes " refused ") (decimal c.in-Act.number) line_feed
    (g.W.Write.contents c.args.writer.now) (g.W.Write.contents c.print_number_line-in-Act.new.writer)
    (then_of c.print_number_line-in-Act.result (c.index-names-from.result ++ codes " refused ") (name ++ codes " refused ")
    (decimal c.in-Act.number ++ line_feed) _ _ _ (ap (λ (octets : Octets). octets ++ codes " refused ") named) c.in_ok-print_name-in-Act.ensures.ok
    (subst (λ number. OnErr c.print_number_line-in-Act.result
    (WritesFront (decimal number ++ line_feed) (g.W.Write.contents c.print_name.new.writer) (g.W.Write.contents c.print_number_line-in-Act.new.writer)))
    c.from-in-Act-2.ensures c.print_number_line-in-Act.ensures.front)))
