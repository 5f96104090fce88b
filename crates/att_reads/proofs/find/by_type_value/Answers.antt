use Rattle.std.proofs.Common.{◌≡◌, ◌-◌, ◌/◌, [], ◌∷◌, take, map, ap, sym, ◌∙◌, rules}
use Rattle.std.specs.Prelude.{filter}
use Rattle.att_numbers.specs.declared.opcode.TheConstants.{FIND_BY_TYPE_VALUE_REQUEST, FIND_BY_TYPE_VALUE_RESPONSE}
use Rattle.att_pdu.specs.PduBuf.{contents, mtu_of}
use Rattle.att_pdu.specs.Response.{FindByTypeValueResponse, sent}
use Rattle.att_reads.specs.Answer.{is_match, group_of, with_groups}
use Rattle.att_reads.specs.Refusals.{unless_refused, not_found}
use Rattle.att_reads.proofs.Found.{found_groups}
use Rattle.att_reads.proofs.Lists.{filter_none, filter_some}
use Rattle.att_reads.proofs.find.by_type_value.Goals as goal

pub returns-then-not-append_matches-clause-answer :
    goal.returns-then-not-append_matches-clause-answer
returns-then-not-append_matches-clause-answer c =
    let reader = c.args.reader in
    let test = is_match reader.table.now reader.row.now reader.standing.now c.args.value.now in
    let none = filter_none test c.args.handles.now (sym c.append_matches.ensures.any ∙ c.if-not-append_matches.true) in
    c.find_none.ensures.error
    ∙ sym (ap (λ found. sent (unless_refused FIND_BY_TYPE_VALUE_REQUEST (not_found c.args.start found ∷ [])
    (FindByTypeValueResponse (map (group_of reader.table.now) (take ((mtu_of c.args.out.now - 1) / 4) found))))) none)

pub returns-else-not-append_matches-clause-answer :
    goal.returns-else-not-append_matches-clause-answer
returns-else-not-append_matches-clause-answer c =
    let reader = c.args.reader in
    let test = is_match reader.table.now reader.row.now reader.standing.now c.args.value.now in
    let some = filter_some test c.args.handles.now (sym c.append_matches.ensures.any ∙ c.if-not-append_matches.false) in
    let begun : contents c.replace.new.self ≡ FIND_BY_TYPE_VALUE_RESPONSE ∷ [] = search rules in
    c.append_matches.ensures.appended
    ∙ ap (λ octets. with_groups reader.table.now (mtu_of c.replace.new.self) octets (filter test c.args.handles.now)) begun
    ∙ ap (λ mtu. with_groups reader.table.now mtu (FIND_BY_TYPE_VALUE_RESPONSE ∷ []) (filter test c.args.handles.now)) c.replace.ensures.same_buffer.mtu
    ∙ found_groups reader.table.now (mtu_of c.args.out.now) c.args.start (filter test c.args.handles.now) some
