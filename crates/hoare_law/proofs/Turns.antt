-- Whose turn it is, and which places are outside, after one more event.
use Rattle.std.proofs.Common.{◌≡◌, ◌==◌, ◌&&◌, not, ℕ, List, [], ◌∷◌, ◌++◌, Bool, true, false, cond, map, Some, refl}
use Rattle.std.proofs.Common.{◌≢◌, ap, sym, ◌∙◌, ne_eqb}
use Rattle.std.specs.List.{filter, list_all}
use Rattle.std.proofs.lemmas.List.{map-append, append-nil}
use Rattle.hoare_law.specs.declared.event.Event.{Event}
use Rattle.hoare_law.specs.Events.{place_of, own, newest}
use Rattle.hoare_law.specs.Turns.{is_signal, urgent, turn, turn_by, turn_after, is_out, outside}
use Rattle.hoare_law.specs.Waiting.{filter_by_later}
use Rattle.hoare_law.specs.Called.{called}
use Rattle.hoare_law.proofs.Events.{newest-push, own-push}
use Rattle.hoare_law.proofs.Waiting.{filter_by_later-push}

-- a filter passes through a map
pub filter-map : {X Y : Type 0} (f : X → Y) (p : Y → Bool) (xs : List X)
    → filter p (map f xs) ≡ map f (filter (λ x. p (f x)) xs)
filter-map f p [] = refl
filter-map f p (x ∷ xs) = rw (filter-map f p xs) (elim (p (f x)) as
    (λ v. cond v (f x ∷ map f (filter (λ y. p (f y)) xs)) (map f (filter (λ y. p (f y)) xs))
    ≡ map f (cond v (x ∷ filter (λ y. p (f y)) xs) (filter (λ y. p (f y)) xs)))
    [ true ↦ refl | false ↦ refl ])

map_one : {S : Type 0} (b : Bool) (e : Event S) → map place_of (cond b (e ∷ []) []) ≡ cond b (place_of e ∷ []) []
map_one true e = refl
map_one false e = refl

-- the waiting signallers, without the place that acts, and with the place that e adds
pub urgent-push : {S : Type 0} (h : List (Event S)) (e : Event S)
    → urgent (h ++ e ∷ []) ≡ filter (λ u. not (place_of e == u)) (urgent h) ++ cond (is_signal e) (place_of e ∷ []) []
unfolding urgent
urgent-push {S = S} h e =
    let kept : List (Event S) =
    filter_by_later (λ x later. is_signal x && list_all (λ y. not (place_of y == place_of x)) later) h in
    ap (map place_of) (filter_by_later-push is_signal (λ x y. not (place_of y == place_of x)) h e)
    ∙ map-append place_of (filter (λ x. not (place_of e == place_of x)) kept) (cond (is_signal e) (e ∷ []) [])
    ∙ ap (λ l. l ++ map place_of (cond (is_signal e) (e ∷ []) []))
    (sym (filter-map place_of (λ u. not (place_of e == u)) kept))
    ∙ ap (λ l. filter (λ u. not (place_of e == u)) (map place_of kept) ++ l) (map_one (is_signal e) e)

pub turn-push : {S : Type 0} (h : List (Event S)) (e : Event S)
    → turn (h ++ e ∷ []) ≡ turn_by e (urgent (h ++ e ∷ [])) (called (h ++ e ∷ []))
unfolding turn
turn-push h e = ap (λ o. turn_after o (urgent (h ++ e ∷ [])) (called (h ++ e ∷ []))) (newest-push h e)

out_by : {S : Type 0} (b : Bool) (xs : List (Event S)) (e : Event S)
    → is_out (newest (xs ++ cond b (e ∷ []) [])) ≡ cond b (is_out (Some e)) (is_out (newest xs))
out_by true xs e = ap is_out (newest-push xs e)
out_by false xs e = ap (λ l. is_out (newest l)) (append-nil xs)

-- place k is outside as it was, unless it acted last
pub outside-push : {S : Type 0} (k : ℕ) (h : List (Event S)) (e : Event S)
    → outside k (h ++ e ∷ []) ≡ cond (place_of e == k) (is_out (Some e)) (outside k h)
unfolding outside
outside-push k h e = ap (λ l. is_out (newest l)) (own-push k h e) ∙ out_by (place_of e == k) (own k h) e

-- so a place is outside as it was, if another place acts
pub outside-other : {S : Type 0} (k : ℕ) (h : List (Event S)) (e : Event S) → place_of e ≢ k
    → outside k (h ++ e ∷ []) ≡ outside k h
outside-other k h e ne =
    outside-push k h e ∙ ap (λ b. cond b (is_out (Some e)) (outside k h)) (ne_eqb (place_of e) k ne)
