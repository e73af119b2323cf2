-- One more event at the end of a history: the last event, the data, the events of a place.
use Rattle.std.proofs.Common.{◌≡◌, ◌==◌, ℕ, List, [], ◌∷◌, ◌++◌, cond, Some, refl, ap, ◌⊎◌, inl, inr, ⊎_elim}
use Rattle.std.proofs.lemmas.List.Elements.{filter-append}
use Rattle.std.specs.Option.{option_map, unwrap_or}
use Rattle.hoare_law.specs.declared.event.Event.{Event}
use Rattle.hoare_law.specs.declared.event.History.{History}
use Rattle.hoare_law.specs.Events.{place_of, data_of, own, newest, latest_data, with_event}

pub newest-push : {X : Type 0} (xs : List X) (x : X) → newest (xs ++ x ∷ []) ≡ Some x
newest-push [] x = refl
newest-push (y ∷ []) x = refl
newest-push (y ∷ z ∷ xs) x = newest-push (z ∷ xs) x

pub latest_data-push : {S : Type 0} (h : History S) (e : Event S) → latest_data (with_event h e) ≡ data_of e
unfolding latest_data with_event
latest_data-push h e = ap (λ o. unwrap_or (option_map data_of o) h.opening) (newest-push h.events e)

pub own-push : {S : Type 0} (k : ℕ) (h : List (Event S)) (e : Event S)
    → own k (h ++ e ∷ []) ≡ own k h ++ cond (place_of e == k) (e ∷ []) []
own-push k h e = filter-append (λ x. place_of x == k) h (e ∷ [])

-- the empty list has no element
pub none-split : {X : Type 0} (f g : List X) (x : X) → [] ≡ f ++ x ∷ g → ⊥
none-split [] g x is = cc
none-split (y ∷ f) g x is = cc

-- an element of a list with one more is the last one, or was in the list before
pub push-split : {X : Type 0} (h : List X) (e : X) (f g : List X) (x : X) → h ++ e ∷ [] ≡ f ++ x ∷ g
    → ((h ≡ f) × (e ≡ x) × (g ≡ [])) ⊎ ((l : List X) × (h ≡ f ++ x ∷ l) × (g ≡ l ++ e ∷ []))
push-split [] e [] g x is = inl (refl, cc, cc)
push-split [] e (y ∷ []) g x is = cc
push-split [] e (y ∷ z ∷ f) g x is = cc
push-split (y ∷ h) e [] g x is = inr (h, cc, cc)
push-split (y ∷ h) e (z ∷ f) g x is =
    ⊎_elim (λ p. inl (cc, p.1, p.2)) (λ p. inr (p.0, cc, p.2)) (push-split h e f g x cc)
