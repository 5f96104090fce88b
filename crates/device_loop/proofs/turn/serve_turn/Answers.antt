use Rattle.std.proofs.Common.{Some, ap, subst, ◌∙◌}
use Rattle.device_loop.proofs.Happened.{known_as}
use Rattle.device_loop.proofs.Order.{stays_ordered}
use Rattle.device_loop.proofs.Turns.{serves_as, waits_unsaved}
use Rattle.device_loop.proofs.turn.serve_turn.Goals as goal
use Rattle.device_loop.specs.Outside.{Sends, waits_after}
use Rattle.device_loop.specs.Serving.{known}
use Rattle.octet_io.specs.Number.{Octets}

pub returns-clause-turn : goal.returns-clause-turn
returns-clause-turn g c =
    let waits = waits_unsaved c.save-saving.result _ c.waiting.result.now _ c.withhold_unsaved.ensures.left c.waiting.ensures in
    record {
      written = g.W.Sink.contents c.serve_happenings-served.new.out;
      recorded = g.O.Happenings.history c.serve_happenings-served.new.happenings;
      serves = λ none.
          serves_as c.serve_happenings-served.result 1 c.args.host.now c.serve_happenings-served.new.host
          (known (g.O.Happenings.octets c.args.outside.now) (g.O.Happenings.calls c.args.outside.now) (g.O.Happenings.history c.args.outside.now))
          _ _ _ _ _ _ _ _ _ _ (cc) (cc) (c.tell.ensures.heard ∙ c.save-saving.ensures.heard) (c.serve_happenings-served.ensures.serves none);
      stopped = λ stopped.
          let nothing = c.serve_happenings-served.ensures.happenings_stopped stopped in
          record {
            happens = known_as _ _ _ _ _ _ (cc) (cc) (ap g.O.Happenings.history nothing);
            writes = ap g.W.Sink.contents (c.serve_happenings-served.ensures.sink_stopped stopped);
            hearing = c.tell.ensures.heard ∙ c.save-saving.ensures.heard ∙ ap g.L.Listener.heard (c.serve_happenings-served.ensures.listener_stopped stopped);
          };
      settles = record {
        saved = g.O.Happenings.history c.save-saving.new.self;
        saves = c.save-saving.ensures.history;
        told = g.O.Happenings.history c.tell.new.self;
        tells = c.tell.ensures.history;
        sends = record {
          waiting = waits.0;
          waits = waits.1;
          sends = subst
              (λ (octets : Octets). Sends c.send-sending.result octets (g.O.Happenings.history c.tell.new.self)
              (g.O.Happenings.history c.send-sending.new.self))
              waits.2 c.send-sending.ensures.history;
          left = c.drop_sent.ensures.left c.waiting.result.now c.waiting.ensures ∙ ap (λ (octets : Octets). Some (waits_after c.send-sending.result octets))
              waits.2;
        };
      };
    }

pub returns-clause-order : goal.returns-clause-order
returns-clause-order g c = stays_ordered _ _ _ _ _ _ _ _ _ (returns-clause-turn g c)
