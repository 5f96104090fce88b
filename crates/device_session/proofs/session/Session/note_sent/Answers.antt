use Rattle.std.proofs.Common.{ap, ◌∙◌}
use Rattle.std.specs.Option.{option_map_or}
use Rattle.device_session.specs.Refusals.{after_refusal, refused_connection}
use Rattle.device_session.specs.declared.refusals.SentRefusal.{SentRefusal}
use Rattle.device_session.proofs.session.Session.note_sent.Goals as goal

pub returns-then-note-clause-counted : goal.returns-then-note-clause-counted
returns-then-note-clause-counted g c =
    let session = c.args.self.now in
    let tallies = session.refusals.tallies.items in
    c.note.ensures.counted
    ∙ ap (λ connection. after_refusal connection c.in-Some.sent.refusal tallies) c.name_of-connection.ensures
    ∙ ap (λ refused. option_map_or (λ (sent : SentRefusal). after_refusal (refused_connection sent.handle session.names.named session.refusals.before.named) sent.refusal tallies) refused tallies) c.in-Some.ensures

pub returns-else-note-clause-counted : goal.returns-else-note-clause-counted
returns-else-note-clause-counted g c =
    let session = c.args.self.now in
    let tallies = session.refusals.tallies.items in
    c.note.ensures.counted
    ∙ ap (λ connection. after_refusal connection c.in-Some.sent.refusal tallies) c.name_of-connection.ensures
    ∙ ap (λ refused. option_map_or (λ (sent : SentRefusal). after_refusal (refused_connection sent.handle session.names.named session.refusals.before.named) sent.refusal tallies) refused tallies) c.in-Some.ensures
