-- How gathering goes on with a piece of the stream.
use Rattle.std.proofs.Common.{◌≡◌, ◌≢◌, ℕ, suc, ◌+◌, ◌-◌, ◌<◌, ◌≤◌, List, [], ◌∷◌, ◌++◌, length, take, drop, false, Some, None, refl, sym, ◌∙◌, ap, subst, arith, inl, inr, append_assoc}
use Rattle.std.specs.Prelude.{Ok}
use Rattle.std.proofs.lemmas.Bool.{le-leb, lt-leb, le-ltb, cases_lt}
use Rattle.std.proofs.lemmas.List.{append-nil, length-append, length-drop, length-take, take_all, take-append-le, take-append-drop, take_at, drop_all}
use Rattle.le_h4.specs.Packet.{Packet, AclPacket, EventPacket, ScoPacket, First, FirstPacket, NoneYet, NoPacket, first_of, Spells}
use Rattle.le_h4.specs.Division.{is_long, unfinished, before, division_past}
use Rattle.le_h4.specs.Progress.{progress_of, IsWithinFirst, packet_in, IsSizeOf}
use Rattle.le_h4.specs.Gathering.{GathersPacket, GathersAll, GathersLost, GoesOn, Gathers, fed_of}
use Rattle.le_h4.specs.declared.deframer.Fed.{Fed}
use Rattle.le_h4.specs.declared.progress.Progress.{Progress}
use Rattle.le_h4.specs.declared.progress.Progress.TheVariants.{Lacks, Whole, Long, Desync}
use Rattle.le_h4.proofs.Firsts.{first_spelled, first_append-packet}
use Rattle.le_h4.proofs.Dividing.{division_first, division-part, division-lost, division-packet, past_none, past_part, past_more}
use Rattle.le_h4.proofs.Progressing.{Agrees, EndsIn, agrees}

-- of a piece some octets are taken, and this is held; earlier are those of packets that were passed over
pub record SoFar (skipping_first : ℕ) (gathered_first octets : List ℕ) (skipping : ℕ) (gathered rest : List ℕ) : Type 0 where
  pub taken : List ℕ
  pub earlier : List ℕ
  pub parts : octets ≡ taken ++ rest
  pub kept : gathered_first ++ taken ≡ earlier ++ gathered
  pub divided : (more : List ℕ) → division_past skipping_first (gathered_first ++ (taken ++ more)) ≡ division_past skipping (gathered ++ more)
  pub fits : IsWithinFirst gathered
  pub passes : 0 < skipping → gathered ≡ []
  pub begun : taken ≡ [] → packet_in (first_of gathered) ≡ None

at_progress : (gathered : List ℕ) (progress : Progress) → progress_of gathered ≡ progress → Agrees gathered (λ more. first_of (gathered ++ more)) progress
at_progress gathered progress is = subst (Agrees gathered (λ more. first_of (gathered ++ more))) is (agrees gathered)

-- what is gathered, with nothing behind it
alone : (gathered : List ℕ) (first : First) → first_of (gathered ++ []) ≡ first → first_of gathered ≡ first
alone gathered first is = ap first_of (sym (append-nil gathered)) ∙ is

nothing_fits : IsWithinFirst []
nothing_fits = record { whole = λ packet rest is. cc; lost = λ indicator is. cc }

fits_from : (octets : List ℕ) → EndsIn octets (first_of octets) → IsWithinFirst octets
fits_from octets ends = record {
  whole = λ packet rest is. let P : First → Type 0 = EndsIn octets in subst P is ends;
  lost = λ indicator is. let P : First → Type 0 = EndsIn octets in subst P is ends;
}

-- while octets are passed over, an indicator is lacking
none_passed : (gathered : List ℕ) (skipping : ℕ) → (0 < skipping → gathered ≡ []) → progress_of gathered ≢ Lacks 1 → skipping ≡ 0
none_passed gathered skipping passes other = elim (cases_lt 0 skipping) [
  | inl some ↦ absurd (other (ap progress_of (passes some)))
  | inr none ↦ omega arith
]

-- octets that are all to be passed over
passed : (skipping : ℕ) (rest more : List ℕ) → division_past skipping (take skipping rest ++ more) ≡ division_past (skipping - length rest) more
passed skipping rest more =
    let left : skipping - length (take skipping rest) ≡ skipping - length rest = omega (arith, length-take skipping rest) in
    past_more skipping (take skipping rest) more
    ∙ ap (λ (n : ℕ). division_past n (drop skipping (take skipping rest) ++ more)) left
    ∙ ap (λ (xs : List ℕ). division_past (skipping - length rest) (xs ++ more))
    (drop_all skipping (take skipping rest) (omega (arith, length-take skipping rest)))

module _ (skipping_first : ℕ) (gathered_first octets : List ℕ) where
  pub so_far-start : IsWithinFirst gathered_first → packet_in (first_of gathered_first) ≡ None → (0 < skipping_first → gathered_first ≡ [])
      → SoFar skipping_first gathered_first octets skipping_first gathered_first octets
  so_far-start fits unfinished passes = record {
    taken = [];
    earlier = [];
    parts = refl;
    kept = append-nil gathered_first;
    divided = λ more. refl;
    fits = fits;
    passes = passes;
    begun = λ none. unfinished;
  }

  pub so_far-skip : (skipping : ℕ) (gathered rest : List ℕ) → SoFar skipping_first gathered_first octets skipping gathered rest
      → SoFar skipping_first gathered_first octets (skipping - length rest) gathered (drop skipping rest)
  so_far-skip skipping gathered rest so_far = elim (cases_lt 0 skipping) [
    | inl some ↦ record {
      taken = so_far.taken ++ take skipping rest;
      earlier = gathered_first ++ (so_far.taken ++ take skipping rest);
      parts = so_far.parts ∙ ap (λ (xs : List ℕ). so_far.taken ++ xs) (sym (take-append-drop skipping rest))
          ∙ sym (append_assoc so_far.taken (take skipping rest) (drop skipping rest));
      kept = rw (so_far.passes some) (sym (append-nil (gathered_first ++ (so_far.taken ++ take skipping rest))));
      divided = λ more.
          ap (λ (xs : List ℕ). division_past skipping_first (gathered_first ++ xs)) (append_assoc so_far.taken (take skipping rest) more)
          ∙ so_far.divided (take skipping rest ++ more)
          ∙ rw (so_far.passes some) (passed skipping rest more);
      fits = so_far.fits;
      passes = λ left. so_far.passes some;
      begun = λ none. rw (so_far.passes some) refl;
    }
    | inr none ↦
        let none_is : 0 ≡ skipping = omega arith in
        let same : skipping ≡ 0 - length rest = omega arith in
        let P : ℕ → Type 0 = λ n. SoFar skipping_first gathered_first octets (n - length rest) gathered (drop n rest) in
        let Q : ℕ → Type 0 = λ n. SoFar skipping_first gathered_first octets n gathered rest in
        subst P none_is (subst Q same so_far)
  ]

  pub so_far-long : (skipping missing : ℕ) (gathered rest : List ℕ) → SoFar skipping_first gathered_first octets skipping gathered rest
      → progress_of gathered ≡ Long missing → SoFar skipping_first gathered_first octets missing [] rest
  so_far-long skipping missing gathered rest so_far long =
      let idle : skipping ≡ 0 = none_passed gathered skipping so_far.passes (λ lacks. cc) in
      record {
        taken = so_far.taken;
        earlier = so_far.earlier ++ gathered;
        parts = so_far.parts;
        kept = so_far.kept ∙ sym (append-nil (so_far.earlier ++ gathered));
        divided = λ more.
            so_far.divided more
            ∙ ap (λ (n : ℕ). division_past n (gathered ++ more)) idle
            ∙ past_none (gathered ++ more)
            ∙ division_first (gathered ++ more)
            ∙ (at_progress gathered (Long missing) long).2 more;
        fits = nothing_fits;
        passes = λ some. refl;
        begun = λ none. refl;
      }

  pub so_far-fill : (skipping missing : ℕ) (gathered rest : List ℕ) → SoFar skipping_first gathered_first octets skipping gathered rest
      → progress_of gathered ≡ Lacks missing → skipping ≡ 0
      → SoFar skipping_first gathered_first octets skipping (gathered ++ take missing rest) (drop missing rest)
  so_far-fill skipping missing gathered rest so_far lacks idle = record {
    taken = so_far.taken ++ take missing rest;
    earlier = so_far.earlier;
    parts = so_far.parts ∙ ap (λ (xs : List ℕ). so_far.taken ++ xs) (sym (take-append-drop missing rest))
        ∙ sym (append_assoc so_far.taken (take missing rest) (drop missing rest));
    kept = sym (append_assoc gathered_first so_far.taken (take missing rest))
        ∙ ap (λ (xs : List ℕ). xs ++ take missing rest) so_far.kept
        ∙ append_assoc so_far.earlier gathered (take missing rest);
    divided = λ more.
        ap (λ (xs : List ℕ). division_past skipping_first (gathered_first ++ xs)) (append_assoc so_far.taken (take missing rest) more)
        ∙ so_far.divided (take missing rest ++ more)
        ∙ ap (division_past skipping) (sym (append_assoc gathered (take missing rest) more));
    fits = fits_from (gathered ++ take missing rest)
        ((at_progress gathered (Lacks missing) lacks).2 (take missing rest) (omega (arith, length-take missing rest)));
    passes = λ some. absurd (omega arith);
    begun = λ none. none_taken (take missing rest) (omega (arith, ap length none, length-append so_far.taken (take missing rest)));
  }
    where
      none_taken : (more : List ℕ) → length more ≡ 0 → packet_in (first_of (gathered ++ more)) ≡ None
      none_taken [] h = ap packet_in (at_progress gathered (Lacks missing) lacks).1
      none_taken (x ∷ more) h = absurd (omega arith)

  -- the packet that is whole has no more data than is kept
  short_packet : (gathered : List ℕ) (packet : Packet) → length gathered ≤ 1029 → Spells gathered packet → is_long packet ≡ false
  short_packet gathered (AclPacket handle pb bc data_octets) h spelled =
      le-ltb 1024 (length data_octets) (omega (arith, ap length spelled.4))
  short_packet gathered (EventPacket event_octets) h spelled = refl
  short_packet gathered ScoPacket h spelled = refl

  some_taken : {used : ℕ} (packet : Packet) (taken : List ℕ) → used ≡ length taken → (taken ≡ [] → Some packet ≡ None) → 0 < used
  some_taken packet [] is none = absurd (cc (none refl))
  some_taken packet (x ∷ taken) is none = omega arith

  module _ (skipping : ℕ) (gathered rest : List ℕ) (so_far : SoFar skipping_first gathered_first octets skipping gathered rest) where
    used_length : length octets - length rest ≡ length so_far.taken
    used_length = omega (arith, ap length so_far.parts, length-append so_far.taken rest)

    taken_is : take (length octets - length rest) octets ≡ so_far.taken
    taken_is = rw used_length (ap (take (length so_far.taken)) so_far.parts ∙ take_at so_far.taken rest (length so_far.taken) refl)

    pub gathers_packet : progress_of gathered ≡ Whole → length gathered ≤ 1029
        → GathersPacket skipping_first gathered_first octets (length octets - length rest) skipping gathered
    gathers_packet whole short =
        let found = at_progress gathered Whole whole in
        let begins : first_of gathered ≡ FirstPacket found.0 found.1 = alone gathered (FirstPacket found.0 found.1) found.2 in
        let first : first_of gathered ≡ FirstPacket found.0 [] = begins ∙ ap (FirstPacket found.0) (so_far.fits.whole found.0 found.1 begins) in
        let idle : skipping ≡ 0 = none_passed gathered skipping so_far.passes (λ lacks. cc) in
        let spelled : Spells gathered found.0 = (first_spelled gathered found.0 first).0 in
        record {
          packet = found.0;
          first = first;
          none_left = idle;
          divided = λ more.
              ap (λ (xs : List ℕ). division_past skipping_first (gathered_first ++ (xs ++ more))) taken_is
              ∙ so_far.divided more
              ∙ ap (λ (n : ℕ). division_past n (gathered ++ more)) idle
              ∙ past_none (gathered ++ more)
              ∙ division-packet gathered more found.0 first (short_packet gathered found.0 short spelled)
              ∙ ap (before (found.0 ∷ [])) (sym (past_none more));
          spelled = record {
            earlier = so_far.earlier;
            spelling = gathered;
            parts = ap (λ (xs : List ℕ). gathered_first ++ xs) taken_is ∙ so_far.kept;
            spelled = spelled;
          };
          some = some_taken found.0 so_far.taken used_length (λ none. sym (ap packet_in first) ∙ so_far.begun none);
          within = omega arith;
        }

    -- so long as some octets are passed over, nothing is gathered
    held_back : first_of gathered ≡ NoneYet → division_past skipping gathered ≡ unfinished
    held_back begins = elim (cases_lt 0 skipping) [
      | inl some ↦ rw (so_far.passes some) (past_part skipping [] some)
      | inr none ↦
          let idle : skipping ≡ 0 = omega arith in
          ap (λ (n : ℕ). division_past n gathered) idle ∙ past_none gathered ∙ division-part gathered begins
    ]

    pub gathers_all : (missing : ℕ) → progress_of gathered ≡ Lacks missing → rest ≡ []
        → GathersAll skipping_first gathered_first octets (length octets) skipping gathered
    gathers_all missing lacks ended =
        let begins : first_of gathered ≡ NoneYet = alone gathered NoneYet (at_progress gathered (Lacks missing) lacks).1 in
        record {
          none = ap packet_in begins;
          divided = λ more.
              ap (λ (xs : List ℕ). division_past skipping_first (gathered_first ++ (xs ++ more)))
              (so_far.parts ∙ ap (λ (xs : List ℕ). so_far.taken ++ xs) ended ∙ append-nil so_far.taken)
              ∙ so_far.divided more;
          unfinished = held_back begins;
          fits = so_far.fits;
          passes = so_far.passes;
          all = refl;
        }

    pub gathers_lost : (indicator : ℕ) → progress_of gathered ≡ Desync indicator
        → GathersLost skipping_first gathered_first octets indicator skipping gathered
    gathers_lost indicator desync =
        let begins : first_of gathered ≡ NoPacket indicator = alone gathered (NoPacket indicator) (at_progress gathered (Desync indicator) desync) in
        let idle : skipping ≡ 0 = none_passed gathered skipping so_far.passes (λ lacks. cc) in
        record {
          none_left = idle;
          holds_it = so_far.fits.lost indicator begins;
          first = begins;
          divided = λ more.
              ap (λ (xs : List ℕ). division_past skipping_first (gathered_first ++ (xs ++ more))) so_far.parts
              ∙ ap (λ (xs : List ℕ). division_past skipping_first (gathered_first ++ xs)) (append_assoc so_far.taken rest more)
              ∙ so_far.divided (rest ++ more)
              ∙ ap (λ (n : ℕ). division_past n (gathered ++ (rest ++ more))) idle
              ∙ past_none (gathered ++ (rest ++ more))
              ∙ division-lost gathered (rest ++ more) indicator begins;
        }

-- the same, of the values after a skip
pub skipped : (skipping_first : ℕ) (gathered_first octets : List ℕ) (skipping left : ℕ) (gathered rest following : List ℕ)
    → SoFar skipping_first gathered_first octets skipping gathered rest → left ≡ skipping - length rest → following ≡ drop skipping rest
    → SoFar skipping_first gathered_first octets left gathered following
skipped skipping_first gathered_first octets skipping left gathered rest following so_far is_left is_rest =
    let P : ℕ → Type 0 = λ n. SoFar skipping_first gathered_first octets n gathered following in
    let Q : List ℕ → Type 0 = λ xs. SoFar skipping_first gathered_first octets (skipping - length rest) gathered xs in
    subst P (sym is_left) (subst Q (sym is_rest) (so_far-skip skipping_first gathered_first octets skipping gathered rest so_far))

-- after a skip that left some octets, none are to be passed over
pub idle_after : (skipping left : ℕ) (rest following : List ℕ) → left ≡ skipping - length rest → following ≡ drop skipping rest → 0 < length following
    → left ≡ 0
idle_after skipping left rest following is_left is_rest some = omega (arith, ap length is_rest, length-drop skipping rest)

-- the same, of the values after octets were gathered
pub filled : (skipping_first : ℕ) (gathered_first octets : List ℕ) (skipping missing : ℕ) (gathered holds rest following : List ℕ)
    → SoFar skipping_first gathered_first octets skipping gathered rest → progress_of gathered ≡ Lacks missing → skipping ≡ 0
    → holds ≡ gathered ++ take missing rest → following ≡ drop missing rest
    → SoFar skipping_first gathered_first octets skipping holds following
filled skipping_first gathered_first octets skipping missing gathered holds rest following so_far lacks idle is_held is_rest =
    let P : List ℕ → Type 0 = λ xs. SoFar skipping_first gathered_first octets skipping xs following in
    let Q : List ℕ → Type 0 = λ xs. SoFar skipping_first gathered_first octets skipping (gathered ++ take missing rest) xs in
    subst P (sym is_held) (subst Q (sym is_rest) (so_far-fill skipping_first gathered_first octets skipping missing gathered rest so_far lacks idle))

-- a packet that is unfinished has more octets than are gathered
pub unfinished_less : (gathered octets : List ℕ) (size : ℕ) → packet_in (first_of gathered) ≡ None → IsSizeOf (gathered ++ octets) size → length gathered < size
unfinished_less gathered octets size unfinished sized = elim (cases_lt (length gathered) size) [
  | inl less ↦ less
  | inr whole ↦
      let begins = sized.whole (omega (arith, length-append gathered octets)) in
      let alone : first_of (take size gathered) ≡ FirstPacket begins.packet [] =
      ap first_of (sym (take-append-le size gathered octets whole)) ∙ begins.first in
      let found : packet_in (first_of gathered) ≡ Some begins.packet =
      ap (λ (xs : List ℕ). packet_in (first_of xs)) (sym (take-append-drop size gathered))
      ∙ ap packet_in (first_append-packet (take size gathered) (drop size gathered) [] begins.packet alone) in
      absurd (let e : Some begins.packet ≡ None = sym found ∙ unfinished in cc)
]

-- the octets of the packet are those so far and those that it lacks
take_on : (gathered octets : List ℕ) (missing : ℕ) → take (length gathered + missing) (gathered ++ octets) ≡ gathered ++ take missing octets
take_on [] octets missing = let same : 0 + missing ≡ missing = omega arith in ap (λ (n : ℕ). take n octets) same
take_on (x ∷ gathered) octets missing =
    let same : length (x ∷ gathered) + missing ≡ suc (length gathered + missing) = omega arith in
    ap (λ (n : ℕ). take n (x ∷ (gathered ++ octets))) same ∙ ap (λ (xs : List ℕ). x ∷ xs) (take_on gathered octets missing)

-- where none is passed over, octets that go on with a packet are gathered to its end, or all of them
gathers_on : (gathered octets : List ℕ) (missing : ℕ) (holds : List ℕ) → packet_in (first_of gathered) ≡ None → GoesOn gathered octets missing holds
    → Gathers 0 gathered octets (Ok (fed_of missing (length octets))) 0 holds
gathers_on gathered octets missing holds unfinished goes_on = elim (cases_lt (length octets) missing) [
  | inl lacks ↦
      let begins : first_of (gathered ++ octets) ≡ NoneYet = goes_on.size.part (omega (arith, length-append gathered octets)) in
      let held : gathered ++ octets ≡ holds =
      ap (λ (xs : List ℕ). gathered ++ xs) (sym (take_all missing octets (omega arith))) ∙ sym goes_on.gathers in
      let all : GathersAll 0 gathered octets (length octets) 0 (gathered ++ octets) = record {
        none = ap packet_in begins;
        divided = λ rest. ap (division_past 0) (sym (append_assoc gathered octets rest));
        unfinished = past_none (gathered ++ octets) ∙ division-part (gathered ++ octets) begins;
        fits = record {
          whole = λ packet rest is. absurd (let e : NoneYet ≡ FirstPacket packet rest = sym begins ∙ is in cc);
          lost = λ indicator is. absurd (let e : NoneYet ≡ NoPacket indicator = sym begins ∙ is in cc);
        };
        passes = λ some. absurd (omega arith);
        all = refl;
      } in
      rw (lt-leb missing (length octets) lacks) (subst (GathersAll 0 gathered octets (length octets) 0) held all)
  | inr whole ↦
      let begins = goes_on.size.whole (omega (arith, length-append gathered octets)) in
      let spelling : List ℕ = gathered ++ take missing octets in
      let first : first_of spelling ≡ FirstPacket begins.packet [] = ap first_of (sym (take_on gathered octets missing)) ∙ begins.first in
      let spelled : Spells spelling begins.packet = (first_spelled spelling begins.packet first).0 in
      let short = short_packet 0 [] octets spelling begins.packet
      (omega (arith, begins.kept, length-append gathered (take missing octets), length-take missing octets)) spelled in
      let ends : GathersPacket 0 gathered octets missing 0 spelling = record {
        packet = begins.packet;
        first = first;
        none_left = refl;
        divided = λ rest.
            ap (division_past 0) (sym (append_assoc gathered (take missing octets) rest))
            ∙ past_none (spelling ++ rest)
            ∙ division-packet spelling rest begins.packet first short
            ∙ ap (before (begins.packet ∷ [])) (sym (past_none rest));
        spelled = record { earlier = []; spelling = spelling; parts = refl; spelled = spelled };
        some = omega (arith, unfinished_less gathered octets (length gathered + missing) unfinished goes_on.size);
        within = whole;
      } in
      rw (le-leb missing (length octets) whole) (subst (GathersPacket 0 gathered octets missing 0) (sym goes_on.gathers) ends)
]

pub gathers_fed : (skipping : ℕ) (gathered octets : List ℕ) (missing : ℕ) (holds : List ℕ) (fed : Fed) → 0 ≡ skipping → packet_in (first_of gathered) ≡ None
    → GoesOn gathered octets missing holds → fed ≡ fed_of missing (length octets) → Gathers skipping gathered octets (Ok fed) skipping holds
gathers_fed skipping gathered octets missing holds fed idle unfinished goes_on is =
    let P : ℕ → Type 0 = λ n. Gathers n gathered octets (Ok fed) n holds in
    let Q : Fed → Type 0 = λ found. Gathers 0 gathered octets (Ok found) 0 holds in
    subst P idle (subst Q (sym is) (gathers_on gathered octets missing holds unfinished goes_on))
