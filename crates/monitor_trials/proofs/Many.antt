-- Many places, of which some are outside and others have tickets: none is lost.
use Rattle.std.proofs.Common.{ℕ, List, [], ◌∷◌, ◌++◌, map, length, ◌≡◌, ◌⊎◌, inl, inr, sym, ◌∙◌, subst, arith}
use Rattle.std.specs.Prelude.{All}
use Rattle.std.proofs.lemmas.List.{map-append}
use Rattle.std.proofs.lemmas.List.Elements.{All-nil, All-cons, All-append}
use Rattle.hoare_law.specs.declared.unconstrained.Unconstrained.{Unconstrained}
use Rattle.hoare_law.specs.Sizes.{kinds_of}
use Rattle.door_frame.specs.Places.{DoorId, PlaceOut, IsOut, HasPlace}
use Rattle.ticket_door.specs.Asked.{TicketDoorId, PlaceAsked, IsAsked, as_out}

-- a place, outside or with a ticket, of a door whose data are without assertions
abbrev pub IsUnconstrainedOut : DoorId → PlaceOut (Unconstrained ℕ 1) → Type 0
IsUnconstrainedOut = IsOut (λ s q. Unit {0}) (λ c p s q. Unit {0}) (kinds_of 1 0)

abbrev pub IsUnconstrainedAsking : TicketDoorId → PlaceAsked (Unconstrained ℕ 1) → Type 0
IsUnconstrainedAsking = IsAsked (λ s q. Unit {0}) (λ c p s q. Unit {0}) (kinds_of 1 0)

-- what holds of all elements of a list and of one more holds of the longer list
pub all-and-one : {X : Type 0} (P : X → Type 0) (xs : List X) (x : X) → All P xs → P x → All P (xs ++ x ∷ [])
all-and-one P xs x all one = All-append P xs (x ∷ []) all (All-cons P x [] one (All-nil P))

module _ {D : Type 0} where
  under : (k : ℕ) (o : PlaceOut D) (os ps : List (PlaceOut D)) → HasPlace k os ⊎ HasPlace k ps
      → HasPlace k (o ∷ os) ⊎ HasPlace k ps
  under k o os ps (inl at) = inl (inr at)
  under k o os ps (inr at) = inr at

  -- a place of two joined lists is in the first or in the second
  has-either : (k : ℕ) (os ps : List (PlaceOut D)) → HasPlace k (os ++ ps) → HasPlace k os ⊎ HasPlace k ps
  has-either k [] ps at = inr at
  has-either k (o ∷ os) ps (inl is) = inl (inl is)
  has-either k (o ∷ os) ps (inr at) = under k o os ps (has-either k os ps at)

  has-before : (k : ℕ) (os ps : List (PlaceOut D)) → HasPlace k os → HasPlace k (os ++ ps)
  has-before k [] ps at = absurd at
  has-before k (o ∷ os) ps (inl is) = inl is
  has-before k (o ∷ os) ps (inr at) = inr (has-before k os ps at)

  has-behind : (k : ℕ) (os ps : List (PlaceOut D)) → HasPlace k ps → HasPlace k (os ++ ps)
  has-behind k [] ps at = at
  has-behind k (o ∷ os) ps at = inr (has-behind k os ps at)

  -- the last of the places takes a ticket
  asked : (k : ℕ) (os : List (PlaceOut D)) (o : PlaceOut D) (qs : List (PlaceAsked D)) (a : PlaceAsked D)
      → a.place ≡ o.place
      → HasPlace k os ⊎ HasPlace k (o ∷ []) → HasPlace k os ⊎ HasPlace k (map as_out (qs ++ a ∷ []))
  asked k os o qs a same (inl at) = inl at
  asked k os o qs a same (inr (inl is)) =
      inr
      (subst (HasPlace k) (sym (map-append as_out qs (a ∷ [])))
      (has-behind k (map as_out qs) (map as_out (a ∷ [])) (inl (same ∙ is))))
  asked k os o qs a same (inr (inr none)) = absurd none

  pub asks-one : (k : ℕ) (os : List (PlaceOut D)) (o : PlaceOut D) (qs : List (PlaceAsked D)) (a : PlaceAsked D)
      → a.place ≡ o.place
      → HasPlace k (os ++ o ∷ []) ⊎ HasPlace k (map as_out qs) → HasPlace k os ⊎ HasPlace k (map as_out (qs ++ a ∷ []))
  asks-one k os o qs a same (inl at) = asked k os o qs a same (has-either k os (o ∷ []) at)
  asks-one k os o qs a same (inr at) =
      inr
      (subst (HasPlace k) (sym (map-append as_out qs (a ∷ []))) (has-before k (map as_out qs) (map as_out (a ∷ [])) at))

  -- the first place that took a ticket is outside again
  pub gives-up-one : (k : ℕ) (qs : List (PlaceAsked D)) (a : PlaceAsked D) (os : List (PlaceOut D)) (o : PlaceOut D)
      → o.place ≡ a.place
      → HasPlace k (map as_out (a ∷ qs)) ⊎ HasPlace k os → HasPlace k (map as_out qs) ⊎ HasPlace k (os ++ o ∷ [])
  gives-up-one k qs a os o same (inl (inl is)) = inr (has-behind k os (o ∷ []) (inl (same ∙ is)))
  gives-up-one k qs a os o same (inl (inr at)) = inl at
  gives-up-one k qs a os o same (inr at) = inr (has-before k os (o ∷ []) at)

  -- no place is left in the first list
  pub all-there : (k : ℕ) (os ps : List (PlaceOut D)) → length os ≡ 0 → HasPlace k os ⊎ HasPlace k ps → HasPlace k ps
  all-there k [] ps none (inl at) = absurd at
  all-there k (o ∷ os) ps none (inl at) = absurd (omega arith)
  all-there k os ps none (inr at) = at
