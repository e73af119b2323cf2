-- Which processes wait after one more event.
use Rattle.std.proofs.Common.{◌≡◌, ◌&&◌, not, ℕ, List, [], ◌∷◌, ◌++◌, Bool, true, false, cond, refl, ap}
use Rattle.std.specs.List.{filter, list_all}
use Rattle.std.proofs.lemmas.List.Folds.{list_all-append}
use Rattle.hoare_law.specs.declared.event.Event.{Event}
use Rattle.hoare_law.specs.Events.{place_of}
use Rattle.hoare_law.specs.Waiting.{filter_by_later, waits_on, concerns, waiting}

-- a test that holds as long as q holds of each later element
abbrev pub kept_by : {X : Type 0} → (X → Bool) → (X → X → Bool) → X → List X → Bool
kept_by is q x later = is x && list_all (q x) later

kept_step : {X : Type 0} (w a b : Bool) (p : X → Bool) (x : X) (old new t : List X) → p x ≡ b → new ≡ filter p old ++ t
    → cond (w && (a && (b && true))) (x ∷ new) new ≡ filter p (cond (w && a) (x ∷ old) old) ++ t
kept_step false a b p x old new t e is = is
kept_step true false b p x old new t e is = is
kept_step true true true p x old new t e is = rw e (ap (λ l. x ∷ l) is)
kept_step true true false p x old new t e is = rw e is

-- the elements that e leaves, and e
pub filter_by_later-push : {X : Type 0} (is : X → Bool) (q : X → X → Bool) (h : List X) (e : X)
    → filter_by_later (kept_by is q) (h ++ e ∷ [])
    ≡ filter (λ x. q x e) (filter_by_later (kept_by is q) h) ++ cond (is e) (e ∷ []) []
filter_by_later-push is q [] e =
    elim (is e) as (λ b. cond (b && true) (e ∷ []) [] ≡ cond b (e ∷ []) []) [ true ↦ refl | false ↦ refl ]
filter_by_later-push is q (x ∷ h) e =
    rw (list_all-append (q x) h (e ∷ []))
    (kept_step (is x) (list_all (q x) h) (q x e) (λ y. q y e) x _ _ _ refl (filter_by_later-push is q h e))

-- the waiters that e doesn't concern, and e if it waits on c
pub waiting-push : {S : Type 0} (c : ℕ) (h : List (Event S)) (e : Event S)
    → waiting c (h ++ e ∷ []) ≡ filter (λ x. not (concerns c (place_of x) e)) (waiting c h) ++ cond
    (waits_on c e) (e ∷ []) []
unfolding waiting
waiting-push c h e = filter_by_later-push (waits_on c) (λ x y. not (concerns c (place_of x) y)) h e
