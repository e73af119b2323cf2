-- Items that are handed out: one more, and some after others.
use Rattle.std.proofs.Common.{ℕ, suc, ◌≡◌, ◌+◌, List, ◌∷◌, [], ◌++◌, ap, sym, ◌∙◌, refl, subst, arith}
use Rattle.std.proofs.lemmas.List.{append-nil, append_assoc}
use Rattle.hoare_law.specs.declared.event.History.{History}
use Rattle.plain_schedulers.specs.Buffers.{Buffered}
use Rattle.plain_schedulers.specs.BufferTraces.{Appends}
use Rattle.disk_service.specs.declared.data.Item.{Item}
use Rattle.disk_service.specs.declared.data.Item.TheVariants.{Job, Stop}
use Rattle.disk_service.specs.Handing.{first_jobs, stops, HandsOut, nothing, one_more}

-- the number of the next job is handed out
pub next-job : (k n : ℕ) (f g h : History (Buffered Item)) → HandsOut k f (first_jobs n) g → Appends k (Job n) g h
    → HandsOut k f (first_jobs (n + 1)) h
next-job k n f g h out more =
    let next : suc n ≡ n + 1 = omega arith in
    subst (λ (m : ℕ). HandsOut k f (first_jobs m) h) next (one_more (first_jobs n) _ (Job n) g h out more refl)

-- one more stop item is handed out
pub next-stop : (k n : ℕ) (f g h : History (Buffered Item)) → HandsOut k f (stops n) g → Appends k Stop g h
    → HandsOut k f (stops (n + 1)) h
next-stop k n f g h out more =
    let next : suc n ≡ n + 1 = omega arith in
    subst (λ (m : ℕ). HandsOut k f (stops m) h) next (one_more (stops n) _ Stop g h out more refl)

joined : (k : ℕ) (f g h : History (Buffered Item)) (xs ys zs : List Item) → HandsOut k f xs g → HandsOut k g ys h
    → zs ≡ xs ++ ys → HandsOut k f zs h
joined k f g h xs ys zs out nothing e = let same : zs ≡ xs = e ∙ append-nil xs in rw same out
joined k f g h xs ys zs out (one_more before after item d h1 then more is) e =
    one_more (xs ++ before) zs item d h1 (joined k f g d xs before (xs ++ before) out then refl) more
    (e ∙ ap (λ (l : List Item). xs ++ l) is ∙ sym (append_assoc xs before (item ∷ [])))

-- some items are handed out, and after them others
pub HandsOut-joined : (k : ℕ) (f g h : History (Buffered Item)) (xs ys : List Item) → HandsOut k f xs g
    → HandsOut k g ys h → HandsOut k f (xs ++ ys) h
HandsOut-joined k f g h xs ys out then = joined k f g h xs ys (xs ++ ys) out then refl
