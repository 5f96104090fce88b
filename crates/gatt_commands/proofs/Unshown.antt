-- Where no notice is shown nothing is noted, and so no memory is refused for it.
use Rattle.std.proofs.Common.{◌≡◌, ℕ, zero, suc, Bool, true, false, List, [], ◌∷◌, ◌++◌, Option, Some, None, refl, ap, subst, inl, inr, ◌∙◌, append-nil}
use Rattle.att_table.specs.Table.{Contents}
use Rattle.gatt_host.specs.HostModel.{HostModel}
use Rattle.le_h4.specs.Division.{division}
use Rattle.le_h4.specs.Packet.{Packet}
use Rattle.scripts.specs.declared.act.Act.{Act}
use Rattle.scripts.specs.declared.act.Act.TheVariants as line
use Rattle.gatt_commands.specs.declared.refused.Refused.{Refused}
use Rattle.gatt_commands.specs.declared.notes.Notes.{Notes}
use Rattle.gatt_commands.specs.Doing.{NotesAct, NotesReplacing, NotesUnless}
use Rattle.gatt_commands.specs.Exchange.{Exchanges, ExchangesAll, HandsOver, NotesFirst, Pair, pair_of}
use Rattle.gatt_commands.specs.Lines.{outcome_text}
use Rattle.gatt_commands.specs.Notices.{NotesNothingYet}
use Rattle.gatt_commands.specs.Runs.{ShowsNothingUnasked}
use Rattle.octet_io.specs.Number.{Octets}
use Rattle.std.specs.Io.KnownBytes.{Appends}

unless-unshown : (told : Option Refused) (host : HostModel) (old new : Notes) → NotesUnless told host old new → old.shows ≡ false → new ≡ old
unless-unshown None host old new noted unshown = noted.deaf unshown
unless-unshown (Some refused) host old new noted unshown = noted

replacing-unshown : (next : Option Contents) (told : Option Refused) (host : HostModel) (old new : Notes) → NotesReplacing next told host old new
    → old.shows ≡ false
    → new ≡ old
replacing-unshown None told host old new noted unshown = noted
replacing-unshown (Some table) told host old new noted unshown = unless-unshown told host old new noted unshown

act-unshown : (act : Act) (next : Option Contents) (told : Option Refused) (host : HostModel) (old new : Notes) → NotesAct act next told host old new
    → old.shows ≡ false → new ≡ old
act-unshown (line.Phone phone act) next told host old new noted unshown = noted
act-unshown (line.Authorize phone until) next told host old new noted unshown = unless-unshown told host old new noted unshown
act-unshown (line.Update handle value) next told host old new noted unshown = unless-unshown told host old new noted unshown
act-unshown (line.Tick time) next told host old new noted unshown = unless-unshown told host old new noted unshown
act-unshown line.Replace next told host old new noted unshown = replacing-unshown next told host old new noted unshown

first-unshown : (packets : List Packet) (host : HostModel) (old new : Notes) → NotesFirst packets host old new → old.shows ≡ false → new ≡ old
first-unshown [] host old new noted unshown = noted
first-unshown (packet ∷ packets) host old new noted unshown = noted.deaf unshown

hands-unshown : (before after : Pair) → HandsOver before after → before.notes.shows ≡ false → after.notes ≡ before.notes
hands-unshown before after (inl out) unshown = out.same
hands-unshown before after (inr taken) unshown =
    first-unshown (division taken.packet).packets after.host before.notes after.notes taken.noted unshown

exchanges-unshown : (count : ℕ) (before after : Pair) → Exchanges count before after → before.notes.shows ≡ false → after.notes ≡ before.notes
exchanges-unshown zero before after is unshown = ap (λ (pair : Pair). pair.notes) is
exchanges-unshown (suc count) before after (middle, hands, rest) unshown =
    let first : middle.notes ≡ before.notes = hands-unshown before middle hands unshown in
    exchanges-unshown count middle after rest (ap (λ (notes : Notes). notes.shows) first ∙ unshown) ∙ first

-- so where it was refused, notices are shown
pub shown_where : (shows : Bool) (act : Act) (next : Option Contents) (told : Option Refused) (begun heard : Notes) (before after : Pair)
    → NotesNothingYet shows begun
    → NotesAct act next told before.host begun heard → before.notes ≡ heard → ExchangesAll before after → after.notes.is_refused ≡ true → shows ≡ true
shown_where true act next told begun heard before after fresh noted same exchanges refused = refl
shown_where false act next told begun heard before after fresh noted same exchanges refused =
    let first : before.notes ≡ begun = same ∙ act-unshown act next told before.host begun heard noted fresh.shown in
    let last : after.notes ≡ before.notes =
    exchanges-unshown exchanges.count before after exchanges.exchanges (ap (λ (notes : Notes). notes.shows) first ∙ fresh.shown) in
    let kept : after.notes.is_refused ≡ false = ap (λ (notes : Notes). notes.is_refused) (last ∙ first) ∙ fresh.kept in
    cc (kept, refused)

pub shows_nothing_unasked : ShowsNothingUnasked
shows_nothing_unasked names act old new held holds is =
    let begun : Notes = is.done.begun in
    let first : is.heard ≡ begun = act-unshown act old.next is.refused is.acted.host begun is.heard is.done.noted is.done.fresh.shown in
    let last : is.last ≡ is.heard =
    exchanges-unshown is.exchanges.count (pair_of is.acted.host is.acted.sim is.heard) (pair_of new.host is.quiet is.last) is.exchanges.exchanges
    (ap (λ (notes : Notes). notes.shows) first ∙ is.done.fresh.shown) in
    let none : is.last.text.items ≡ [] = ap (λ (notes : Notes). notes.text.items) (last ∙ first) ∙ is.done.fresh.none in
    let brought : Octets = outcome_text names is.refused is.quiet.phones in (
      is.refused,
      is.acted,
      is.quiet,
      is.done.does,
      subst (Appends held holds) (ap (λ (octets : Octets). brought ++ octets) none ∙ append-nil brought) is.printed,
    )
