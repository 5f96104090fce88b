-- Lines with words, one after the other.
use Rattle.std.proofs.Common.{◌≡◌, inl, inr, [], ◌∷◌, ◌++◌, take, drop, true, Option, Some, None, Result, Ok, Err, OnOk, OnErr, IfOk, IfSome, ℕ, ◌≤◌, length, arith, append-nil, refl, sym, ap, subst, ◌∙◌, append_assoc}
use Rattle.std.proofs.KnownBytes.{Appends-nil, Appends-trans, Consumes-all, Consumes-kept, Consumes-nil, Consumes-trans}
use Rattle.std.proofs.lemmas.List.{length-take, take-append-drop, take-take}
use Rattle.std.specs.Io.KnownBytes.{Appends, Consumes, IsAtEnd, Keeps, WriteAppends}
use Rattle.octet_io.specs.Number.{Octets}
use Rattle.octet_io.specs.Stream.{WritesFront}
use Rattle.att_words.specs.Worded.{AddsPartOf, AddsText, AddsWords, AddsWordsOf, IsWorded, has_words}

-- what is passed on has no words
pub worded_same : (octets : Octets) → IsWorded octets octets
unfolding IsWorded
worded_same [] = refl
worded_same (octet ∷ octets) = ([], octets, (refl, (inl refl, worded_same octets)))

-- one input after another
pub worded_append : (first second output more : Octets) → IsWorded first output → IsWorded second more
    → IsWorded (first ++ second) (output ++ more)
unfolding IsWorded
worded_append [] second output more is then = subst (λ (front : Octets). IsWorded second (front ++ more)) (sym is) then
worded_append (octet ∷ first) second output more (text, rest, (parts, (before, is))) then = (
  text,
  rest ++ more,
  (
    ap (λ (front : Octets). front ++ more) parts ∙ append_assoc text (octet ∷ rest) more,
    (before, worded_append first second rest more is then),
  ),
)

-- the end of a line, with words before it or without
pub worded_end : (text : Octets) → has_words text ≡ true → IsWorded (10 ∷ []) (text ++ 10 ∷ [])
unfolding IsWorded
worded_end text has = (text, [], (refl, (inr (refl, has), refl)))

pub adds_none : (held : Option Octets) → AddsWords [] held held
unfolding IsWorded
adds_none held = record { output = []; worded = refl; appended = Appends-nil held }

pub adds_same : (octets : Octets) (held holds : Option Octets) → Appends held holds octets → AddsWords octets held holds
adds_same octets held holds appended = record { output = octets; worded = worded_same octets; appended = appended }

pub adds_then : (first second : Octets) (held mid holds : Option Octets) → AddsWords first held mid → AddsWords second mid holds
    → AddsWords (first ++ second) held holds
adds_then first second held mid holds one two = record {
  output = one.output ++ two.output;
  worded = worded_append first second one.output two.output one.worded two.worded;
  appended = Appends-trans held mid holds one.output two.output one.appended two.appended;
}

-- of an input all but the rest is written
pub record HasWorded (input rest : Octets) (held holds : Option Octets) : Type 0 where
  pub done : Octets
  pub adds : AddsWords done held holds
  pub parts : input ≡ done ++ rest

pub worded_none : (input : Octets) (held : Option Octets) → HasWorded input input held held
worded_none input held = record { done = []; adds = adds_none held; parts = refl }

pub worded_more : (input rest : Octets) (count : _) (held mid holds : Option Octets)
    → HasWorded input rest held mid → AddsWords (take count rest) mid holds → HasWorded input (drop count rest) held holds
worded_more input rest count held mid holds so_far adds = record {
  done = so_far.done ++ take count rest;
  adds = adds_then so_far.done (take count rest) held mid holds so_far.adds adds;
  parts =
      so_far.parts
      ∙ ap (λ (octets : Octets). so_far.done ++ octets) (sym (take-append-drop count rest))
      ∙ sym (append_assoc so_far.done (take count rest) (drop count rest));
}

-- what follows from the one follows from the other, of a result
pub on_ok : {T E : Type 0} {P Q : Type 0} (result : Result T E) → (P → Q) → OnOk result P → OnOk result Q
on_ok (Ok done) follows is = follows is
on_ok (Err fault) follows is = tt

pub on_err : {T E : Type 0} {P Q : Type 0} (result : Result T E) → (P → Q) → OnErr result P → OnErr result Q
on_err (Ok done) follows is = tt
on_err (Err fault) follows is = follows is

-- a part of what is passed on
pub part_same : (octets : Octets) (held holds : Option Octets) → WritesFront octets held holds → AddsPartOf octets held holds
part_same octets held holds front = record { output = octets; worded = worded_same octets; front = front }

-- the end of a line with words
pub adds_end : (text : Octets) (held mid holds : Option Octets) → has_words text ≡ true
    → Appends held mid text → Appends mid holds (10 ∷ []) → AddsWords (10 ∷ []) held holds
adds_end text held mid holds has words end = record {
  output = text ++ 10 ∷ [];
  worded = worded_end text has;
  appended = Appends-trans held mid holds text (10 ∷ []) words end;
}

-- only a part of the words
pub part_words : (text : Octets) (held holds : Option Octets) → has_words text ≡ true
    → WritesFront text held holds → AddsPartOf (10 ∷ []) held holds
part_words text held holds has front = record {
  output = text ++ 10 ∷ [];
  worded = worded_end text has;
  front = record {
    written = front.written;
    appended = front.appended;
    left = front.left ++ 10 ∷ [];
    parts = ap (λ (octets : Octets). octets ++ 10 ∷ []) front.parts ∙ append_assoc front.written front.left (10 ∷ []);
  };
}

-- all of the words, and a part of the end
pub part_end : (text : Octets) (held mid holds : Option Octets) → has_words text ≡ true
    → Appends held mid text → WritesFront (10 ∷ []) mid holds → AddsPartOf (10 ∷ []) held holds
part_end text held mid holds has words front = record {
  output = text ++ 10 ∷ [];
  worded = worded_end text has;
  front = record {
    written = text ++ front.written;
    appended = Appends-trans held mid holds text front.written words front.appended;
    left = front.left;
    parts = ap (λ (octets : Octets). text ++ octets) front.parts ∙ sym (append_assoc text front.written front.left);
  };
}

pub appends_kept : (first held holds : Option Octets) (octets : Octets) → Appends first held octets → Keeps held holds → Appends first holds octets
appends_kept None held holds octets appended keeps = tt
appends_kept (Some x) None holds octets appended keeps = absurd appended
appends_kept (Some x) (Some y) None octets appended keeps = absurd keeps
appends_kept (Some x) (Some y) (Some z) octets appended keeps = keeps ∙ appended

pub kept_after : (first held holds : Option Octets) (input : Octets) → AddsWords input first held → Keeps held holds
    → AddsWords input first holds
kept_after first held holds input adds keeps = record {
  output = adds.output;
  worded = adds.worded;
  appended = appends_kept first held holds adds.output adds.appended keeps;
}

pub at_error : {T E : Type 0} (result : Result T E) (P : Type 0) → P → OnErr result P
at_error (Ok done) P is = tt
at_error (Err fault) P is = is

-- a part of a line that is passed on
pub passed : {E : Type 0} (result : Result ℕ E) (octets : Octets) (end : ℕ) (held holds : Option Octets)
    → IfOk result (λ count. count ≤ length (take end octets)) → WriteAppends held holds result (take end octets)
    → IfOk result (λ count. AddsWords (take count octets) held holds)
passed (Err fault) octets end held holds bound appended = tt
passed (Ok count) octets end held holds bound appended =
    let within : count ≤ end = omega (arith, bound, length-take end octets) in
    adds_same (take count octets) held holds
    (subst (λ (written : Octets). Appends held holds written) (take-take count end octets within) appended)

pub passed_front : {E : Type 0} (result : Result ℕ E) (octets : Octets) (end : ℕ) (held holds : Option Octets)
    → WriteAppends held holds result (take end octets) → OnErr result (AddsPartOf (take 1 octets) held holds)
passed_front (Ok count) octets end held holds appended = tt
passed_front (Err fault) octets end held holds keeps =
    part_same (take 1 octets) held holds
    (record { written = []; appended = appends_kept held held holds [] (Appends-nil held) keeps; left = take 1 octets; parts = refl })

-- what was read is written with words
pub record HasCopied (all left held holds : Option Octets) : Type 0 where
  pub done : Octets
  pub consumed : Consumes all left done
  pub adds : AddsWords done held holds

pub copied_none : (all held : Option Octets) → HasCopied all all held held
copied_none all held = record { done = []; consumed = Consumes-nil all; adds = adds_none held }

pub copied_more : (all mid left held between holds : Option Octets) (octets : Octets) → HasCopied all mid held between
    → Consumes mid left octets → AddsWords octets between holds → HasCopied all left held holds
copied_more all mid left held between holds octets so_far consumed adds = record {
  done = so_far.done ++ octets;
  consumed = Consumes-trans all mid left so_far.done octets so_far.consumed consumed;
  adds = adds_then so_far.done octets held between holds so_far.adds adds;
}

pub copied_kept : (all mid left held holds : Option Octets) → HasCopied all mid held holds → Keeps mid left → HasCopied all left held holds
copied_kept all mid left held holds so_far kept = record {
  done = so_far.done;
  consumed = Consumes-kept all mid left so_far.done so_far.consumed kept;
  adds = so_far.adds;
}

pub ends_with : (input : Octets) (held mid holds : Option Octets) → AddsWords input held mid → AddsText mid holds → AddsWordsOf input held holds
ends_with input held mid holds adds end = record {
  output = adds.output;
  text = end.text;
  worded = adds.worded;
  words = end.words;
  appended = Appends-trans held mid holds adds.output end.text adds.appended end.appended;
}

-- at the end all that was to be read is written
pub copied_all : {E : Type 0} (result : Result Unit E) (all left mid held between holds : Option Octets) → HasCopied all mid held between
    → Consumes mid left [] → IsAtEnd left → OnOk result (AddsText between holds)
    → OnOk result (IfSome all (λ input. AddsWordsOf input held holds))
copied_all (Err fault) all left mid held between holds so_far none ended text = tt
copied_all (Ok done) all left mid held between holds so_far none ended text =
    let consumed : Consumes all left (so_far.done ++ []) = Consumes-trans all mid left so_far.done [] so_far.consumed none in
    let is : IfSome all (λ input. so_far.done ++ [] ≡ input) = Consumes-all all left (so_far.done ++ []) [] (so_far.done ++ []) consumed ended refl in
    all_of all is
  where
    all_of : (all : Option Octets) → IfSome all (λ input. so_far.done ++ [] ≡ input) → IfSome all (λ input. AddsWordsOf input held holds)
    all_of None is = tt
    all_of (Some input) is =
        subst (λ (done : Octets). AddsWordsOf done held holds) (sym (append-nil so_far.done) ∙ is)
        (ends_with so_far.done held between holds so_far.adds text)
