-- The first stranger that is due, and the first time limit, stranger by stranger.
use Rattle.std.proofs.Common.{◌≡◌, ℕ, ◌+◌, ◌<◌, false, cond, List, drop, get_or, length, map, Option, Some, ap, ◌∙◌}
use Rattle.std.specs.Prelude.{fold}
use Rattle.std.specs.List.{find}
use Rattle.std.proofs.lemmas.List.{drop_more}
use Rattle.device_session.specs.Strangers.{due_of, first_due, is_due, sooner_of}
use Rattle.device_session.specs.declared.strangers.Limits.{Limits}
use Rattle.device_session.specs.declared.strangers.Stranger.{Stranger}

pub first_later : (limits : Limits) (now : ℕ) (known : List Stranger) (place : ℕ) (d : Stranger) → place < length known
    → is_due limits now (get_or known place d) ≡ false → first_due limits now (drop place known) ≡ first_due limits now (drop (place + 1) known)
first_later limits now known place d below is =
    ap (find (is_due limits now)) (drop_more known place d below)
    ∙ ap (λ is. cond is (Some (get_or known place d)) (find (is_due limits now) (drop (place + 1) known))) is

pub limit_later : (limits : Limits) (first : Option ℕ) (known : List Stranger) (place : ℕ) (d : Stranger) → place < length known
    → fold sooner_of first (map (due_of limits) (drop place known))
    ≡ fold sooner_of (sooner_of first (due_of limits (get_or known place d))) (map (due_of limits) (drop (place + 1) known))
limit_later limits first known place d below =
    ap (λ (rest : List Stranger). fold sooner_of first (map (due_of limits) rest)) (drop_more known place d below)
