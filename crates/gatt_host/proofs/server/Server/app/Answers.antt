use Rattle.std.proofs.Common.{◌≡◌, Bool, Result, Ok, Err, sym, ap, subst, ◌∙◌}
use Rattle.std.specs.Prelude.{is_err, if◌then◌else◌, IsOk, IsOkAnd, OnErr}
use Rattle.gatt_host.proofs.server.Server.app.Goals as goal
use Rattle.gatt_host.specs.Asked.{call_happening}
use Rattle.gatt_host.specs.Calls.{call_of}
use Rattle.gatt_host.specs.Meaning.{IsAfter}
use Rattle.gatt_host.specs.ServerState.{ServerState, without_notices}

-- where a call is done, nothing is dropped, and where it is refused, only what would be told
still-done : {T E : Type 0} (done : Result T E) (between new : ServerState) → new ≡ (if is_err done then without_notices between else between) → IsOk done
    → new ≡ between
still-done (Ok it) between new is ok = is
still-done (Err why) between new is ok = cc ok

then-silent : {T E : Type 0} (done : Result T E) (old between new : ServerState) → new ≡ (if is_err done then without_notices between else between)
    → OnErr done (between ≡ old) → OnErr done (new ≡ without_notices old)
then-silent (Ok it) old between new is unchanged = tt
then-silent (Err why) old between new is unchanged = is ∙ ap without_notices unchanged

pub returns : goal.returns
returns c =
    let old : ServerState = c.args.self.now in
    let between : ServerState = c.call-done.new.self in
    let new : ServerState = c.forget_if.new.self in
    let is : new ≡ (if is_err c.call-done.result then without_notices between else between) =
    c.forget_if.ensures ∙ ap (λ (refused : Bool). if refused then without_notices between else between) c.is_err.ensures.value in
    record {
      after = λ ok.
          subst (λ (server : ServerState). IsOkAnd (call_happening old (call_of c.args.call)) (λ happening. IsAfter happening old server))
          (sym (still-done c.call-done.result between new is ok)) (c.call-done.ensures.after ok);
      refused = c.call-done.ensures.refused;
      silent = then-silent c.call-done.result old between new is c.call-done.ensures.unchanged;
    }
