-- The front of what is printed in turn.
use Rattle.std.proofs.Common.{◌≡◌, ◌++◌, Option, Result, Ok, Err, sym, ap, subst, ◌∙◌, append_assoc}
use Rattle.std.specs.Prelude.{OnErr}
use Rattle.std.specs.Io.KnownBytes.{Appends}
use Rattle.shell_files.proofs.Appending.{appends-append}
use Rattle.octet_io.specs.Number.{Octets}
use Rattle.octet_io.specs.Stream.{WritesFront}

-- what is so where there is an error is so of a result that is passed on
pub at_error : {T E : Type 0} (result : Result T E) (P : Type 0) → P → OnErr result P
at_error (Ok done) P is = tt
at_error (Err fault) P is = is

-- and of one whose error is known
pub of_error : {T E : Type 0} (result : Result T E) (fault : E) (P : Type 0) → result ≡ Err fault → OnErr result P → P
of_error result fault P is front = subst (λ (answer : Result _ _). OnErr answer P) is front

-- of the first part
pub front_first : (first rest : Octets) (held holds : Option Octets) → WritesFront first held holds → WritesFront (first ++ rest) held holds
front_first first rest held holds front = record {
  written = front.written;
  appended = front.appended;
  left = front.left ++ rest;
  parts = ap (λ (octets : Octets). octets ++ rest) front.parts ∙ append_assoc front.written front.left rest;
}

-- or all of that, and of the rest
pub front_then : (first rest : Octets) (held between holds : Option Octets)
    → Appends held between first → WritesFront rest between holds → WritesFront (first ++ rest) held holds
front_then first rest held between holds appended front = record {
  written = first ++ front.written;
  appended = appends-append held between holds first front.written appended front.appended;
  left = front.left;
  parts = ap (λ (octets : Octets). first ++ octets) front.parts ∙ sym (append_assoc first front.written front.left);
}

-- the same of a result
pub front_rest : {T E : Type 0} (result : Result T E) (first rest : Octets) (held between holds : Option Octets)
    → Appends held between first → OnErr result (WritesFront rest between holds) → OnErr result (WritesFront (first ++ rest) held holds)
front_rest (Ok done) first rest held between holds appended front = tt
front_rest (Err fault) first rest held between holds appended front = front_then first rest held between holds appended front

-- of parts that are given under other names
pub first_of : {T E : Type 0} (result : Result T E) (given first rest : Octets) (held holds : Option Octets)
    → given ≡ first → WritesFront given held holds → OnErr result (WritesFront (first ++ rest) held holds)
first_of result given first rest held holds same front =
    at_error result (WritesFront (first ++ rest) held holds)
    (front_first first rest held holds (subst (λ (octets : Octets). WritesFront octets held holds) same front))

pub then_of : {T E : Type 0} (result : Result T E) (given first rest : Octets) (held between holds : Option Octets)
    → given ≡ first → Appends held between given → OnErr result (WritesFront rest between holds) → OnErr result (WritesFront (first ++ rest) held holds)
then_of result given first rest held between holds same appended front =
    front_rest result first rest held between holds (subst (Appends held between) same appended) front

-- parts one by one are parts from the left
pub three_parts : {T E : Type 0} (result : Result T E) (first second third : Octets) (held holds : Option Octets)
    → OnErr result (WritesFront (first ++ (second ++ third)) held holds) → OnErr result (WritesFront ((first ++ second) ++ third) held holds)
three_parts result first second third held holds =
    subst (λ (octets : Octets). OnErr result (WritesFront octets held holds)) (sym (append_assoc first second third))
