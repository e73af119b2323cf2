-- The places of a door, in order: how many they are, which each is, and that none is missing.
use Rattle.std.proofs.Common.{ℕ, zero, suc, List, [], ◌∷◌, ◌≡◌, ◌<◌, ◌≤◌, ◌+◌, ◌-◌, length, refl, ap, ◌∙◌, arith, inl}
use Rattle.std.proofs.Common.{inr}
use Rattle.std.specs.Prelude.{slice_index_or}
use Rattle.hoare_law.specs.declared.event.History.{History}
use Rattle.door_frame.specs.Places.{DoorId, PlaceOut, places_from, HasPlace}

module _ {D : Type 0} where
  -- there are n places
  pub length-places : (z : DoorId) (k n : ℕ) (f : History D) → length (places_from z k n f) ≡ n
  length-places z k zero f = refl
  length-places z k (suc n) f = ap suc (length-places z (suc k) n f)

  -- place j of those from k on is k + j
  pub nth-places : (z : DoorId) (k n : ℕ) (f : History D) (j : ℕ) (d : PlaceOut D) → j < n
      → (slice_index_or (places_from z k n f) j d).place ≡ k + j
  nth-places z k zero f j d l = absurd (omega arith)
  nth-places z k (suc n) f zero d l = omega arith
  nth-places z k (suc n) f (suc j) d l = nth-places z (suc k) n f j d (omega arith) ∙ omega arith

  -- if element j of the list is place k, place k is in the list
  pub has_nth : (os : List (PlaceOut D)) (j k : ℕ) → j < length os
      → ((d : PlaceOut D) → (slice_index_or os j d).place ≡ k) → HasPlace k os
  has_nth [] j k l is = absurd (omega arith)
  has_nth (o ∷ os) zero k l is = inl (is o)
  has_nth (o ∷ os) (suc j) k l is = inr (has_nth os j k (omega arith) is)

  -- all of the n places that begin with `from` are in the list
  pub has-all : (k : ℕ) (z : DoorId) (from n : ℕ) (f : History D) → from ≤ k → k < from + n
      → HasPlace k (places_from z from n f)
  has-all k z from n f le lt =
      let count = length-places z from n f in
      has_nth (places_from z from n f) (k - from) k (omega arith)
      (λ d. nth-places z from n f (k - from) d (omega arith) ∙ omega arith)
