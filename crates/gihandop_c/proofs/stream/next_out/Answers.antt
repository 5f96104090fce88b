use Rattle.std.proofs.Common.{◌≡◌, ℕ, ◌≤◌, Bool, true, false, List, ap, drop, length, refl, arith}
use Rattle.std.specs.Prelude.{nat_lt, not, if◌then◌else◌}
use Rattle.std.proofs.lemmas.Bool.{ltb-true}
use Rattle.gatt_host.specs.HostModel.{all_out}
use Rattle.gatt_laws.specs.machine.Notice.{Notice}
use Rattle.gihandop_c.specs.declared.status.TheConstants.{DONE, NOTHING, SHORT_BUFFER}
use Rattle.gihandop_c.proofs.stream.next_out.Goals as goal

fits : (room : ℕ) → 260 ≤ room → nat_lt room 260 ≡ false
fits room enough = by (nat_lt room 260) refl
  where
    by : (short : Bool) → nat_lt room 260 ≡ short → nat_lt room 260 ≡ false
    by false is = is
    by true is = absurd (omega (arith, enough, ltb-true room 260 is))

-- it is done where a packet goes, and the longest fits
done : (out short : Bool) → true ≡ not out → short ≡ false → DONE ≡ (if out then NOTHING else if short then SHORT_BUFFER else DONE)
done true short goes fits = cc goes
done false true goes fits = cc fits
done false false goes fits = refl

pub returns-in-Some-clause-status : goal.returns-in-Some-clause-status
returns-in-Some-clause-status c =
    done (all_out c.args.opened.now.host) (nat_lt (length c.args.out.now) 260) c.in-Some.ensures.some
    (fits (length c.args.out.now) c.if-out-lt-LONGEST_PACKET.false)

pub returns-in-Some-clause-notices : goal.returns-in-Some-clause-notices
returns-in-Some-clause-notices c = record {
  notices = ap (λ (notices : List Notice). drop c.args.opened.now.told notices) c.next_into.ensures.notices;
  table = c.next_into.ensures.table;
  initial = refl;
}
