-- Each line is taken once.
use Rattle.std.proofs.Common.{◌≡◌, true, List, [], ◌∷◌, ◌++◌, refl, sym, ap, subst, ◌∙◌, append_assoc, append-nil}
use Rattle.std.specs.Prelude.{All, fold}
use Rattle.std.specs.List.{after_first, flat_map}
use Rattle.std.proofs.lemmas.List.Concat.{flat_map-append}
use Rattle.std.proofs.lemmas.List.Elements.{All-append, All-cons, All-nil}
use Rattle.octet_io.specs.Number.{Octets}
use Rattle.app_lines.specs.Inbox.{found_in, is_feed, line_in, rest_after}
use Rattle.app_lines.specs.declared.inbox.Found.{Found}
use Rattle.app_lines.specs.declared.inbox.Found.TheVariants.{Line, Nothing, TooLong}
use Rattle.device_session.specs.declared.incoming.Incoming.{Incoming}
use Rattle.device_session.specs.Incoming.{Arrival, Received, TakesEachLineOnce, fresh, line_found, lines_of, received, silent_after, with_arrival}
use Rattle.device_session.specs.Incoming.Arrival.{Came, Later, Over, Ready, Taken}
use Rattle.device_session.proofs.Feeds.{IsOneLine, line_parts, lines_then, one_line, with_feed}

-- all that came are these lines and the rest
pub record Told (incoming : Incoming) (came : Octets) (lines : List Octets) : Type 0 where
  pub whole : came ≡ flat_map with_feed lines ++ incoming.inbox
  pub each : All IsOneLine lines
  pub silent : incoming.is_silent ≡ true → lines ≡ []

abbrev pub IsTold : Received → Type 0
IsTold received = Told received.incoming received.came received.lines

pub keeps : (incoming : Incoming) (came : Octets) (lines : List Octets) (found : Found) → found_in incoming.inbox ≡ found
    → Told incoming came lines
    → Told (record incoming { inbox = rest_after found incoming.inbox; is_silent = silent_after found incoming.is_silent })
    came (lines ++ line_found found incoming.inbox)
keeps incoming came lines Line is told =
    let line : Octets = line_in incoming.inbox in
    let rest : Octets = after_first is_feed incoming.inbox in
    record {
      whole = told.whole ∙ ap (λ (inbox : Octets). flat_map with_feed lines ++ inbox) (line_parts incoming.inbox is)
          ∙ sym (append_assoc (flat_map with_feed lines) (with_feed line) rest)
          ∙ ap (λ (front : Octets). front ++ rest)
          (ap (λ (last : Octets). flat_map with_feed lines ++ last) (sym (append-nil (with_feed line))) ∙ sym (flat_map-append with_feed lines (line ∷ [])));
      each = All-append IsOneLine lines (line ∷ []) told.each (All-cons IsOneLine line [] (one_line incoming.inbox is) (All-nil IsOneLine));
      silent = λ silent. cc silent;
    }
keeps incoming came lines Nothing is told = subst (λ (lines : List Octets). Told incoming came lines) (sym (append-nil lines)) told
keeps incoming came lines TooLong is told = subst (λ (lines : List Octets). Told incoming came lines) (sym (append-nil lines)) told

same : (incoming after : Incoming) (came : Octets) (lines : List Octets) → after.inbox ≡ incoming.inbox → after.is_silent ≡ incoming.is_silent
    → Told incoming came lines → Told after (came ++ []) (lines ++ [])
same incoming after came lines inbox silent told =
    subst (λ (came : Octets). Told after came (lines ++ [])) (sym (append-nil came))
    (subst (λ (lines : List Octets). Told after came lines) (sym (append-nil lines))
    (record {
      whole = told.whole ∙ ap (λ (inbox : Octets). flat_map with_feed lines ++ inbox) (sym inbox);
      each = told.each;
      silent = λ is. told.silent (sym silent ∙ is);
    }))

pub arrival_keeps : (received : Received) (arrival : Arrival) → IsTold received → IsTold (with_arrival received arrival)
arrival_keeps received (Came octets) told =
    subst (λ (lines : List Octets). Told (record received.incoming { inbox = received.incoming.inbox ++ octets }) (received.came ++ octets) lines)
    (sym (append-nil received.lines))
    (record {
      whole = ap (λ (came : Octets). came ++ octets) told.whole ∙ append_assoc (flat_map with_feed received.lines) received.incoming.inbox octets;
      each = told.each;
      silent = told.silent;
    })
arrival_keeps received Later told = same received.incoming (with_arrival received Later).incoming received.came received.lines refl refl told
arrival_keeps received Over told = same received.incoming (with_arrival received Over).incoming received.came received.lines refl refl told
arrival_keeps received Ready told = same received.incoming (with_arrival received Ready).incoming received.came received.lines refl refl told
arrival_keeps received Taken told =
    subst (λ (came : Octets). Told (with_arrival received Taken).incoming came (with_arrival received Taken).lines) (sym (append-nil received.came))
    (keeps received.incoming received.came received.lines (found_in received.incoming.inbox) refl told)

all-keep : (so_far : Received) (arrivals : List Arrival) → IsTold so_far → IsTold (fold with_arrival so_far arrivals)
all-keep so_far [] told = told
all-keep so_far (arrival ∷ arrivals) told = all-keep (with_arrival so_far arrival) arrivals (arrival_keeps so_far arrival told)

pub all_told : (arrivals : List Arrival) → IsTold (received arrivals)
all_told arrivals =
    all-keep (record { incoming = fresh; came = []; lines = [] }) arrivals
    (record { whole = refl; each = All-nil IsOneLine; silent = λ is. refl })

pub takes_each_line_once : TakesEachLineOnce
takes_each_line_once arrivals =
    let told : IsTold (received arrivals) = all_told arrivals in
    lines_then (received arrivals).lines (received arrivals).incoming.inbox told.each ∙ ap lines_of (sym told.whole)
