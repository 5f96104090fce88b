-- Values that an application missed, in one step after the other.
use Rattle.std.proofs.Common.{◌≡◌, ℕ, List, [], ◌∷◌, ◌++◌, Some, refl, subst}
use Rattle.std.specs.Prelude.{codes}
use Rattle.att_table.specs.Find.{value_where}
use Rattle.app_lines.specs.Told.{value_line}
use Rattle.device_session.specs.Telling.{IsTold}
use Rattle.octet_io.specs.Number.{Octets}
use Rattle.gatt_host.specs.HostModel.{HostModel}
use Rattle.device_session.specs.Seats.{Seats}
use Rattle.device_host.specs.Order.{AreMissedTold}

pub more_told : (host : HostModel) (lines more : List Octets) (before next after : Seats) → AreMissedTold host lines before next
    → AreMissedTold host more next after → AreMissedTold host (lines ++ more) before after
unfolding AreMissedTold
more_told host [] more before next after same others =
    subst (λ (earlier : Seats). AreMissedTold host more earlier after) same others
more_told host (line ∷ lines) more before next after (middle, is_line, sent, rest) others =
    (middle, is_line, sent, more_told host lines more middle next after rest others)

-- Some values, maybe none.
abbrev pub AreSomeTold : HostModel → Seats → Seats → Type 0
AreSomeTold host before after = (lines : List Octets) × AreMissedTold host lines before after

pub none_told : (host : HostModel) (before after : Seats) → after ≡ before → AreSomeTold host before after
unfolding AreMissedTold
none_told host before after same = ([], same)

pub one_told : (host : HostModel) (handle : ℕ) (value : Octets) (before after : Seats) → value_where host.server.table handle ≡ Some value
    → IsTold (Some (value_line (codes "+ missed") handle value)) before after → AreSomeTold host before after
unfolding AreMissedTold
one_told host handle value before after found told =
    (value_line (codes "+ missed") handle value ∷ [], (after, (handle, value, found, refl), told, refl))

pub then_told : (host : HostModel) (before next after : Seats) → AreSomeTold host before next → AreSomeTold host next after
    → AreSomeTold host before after
then_told host before next after (lines, first) (more, others) = (lines ++ more, more_told host lines more before next after first others)
