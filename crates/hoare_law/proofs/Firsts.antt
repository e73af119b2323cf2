-- The first element of a list, and its elements by index.
use Rattle.std.proofs.Common.{◌≡◌, ◌≢◌, ℕ, zero, suc, ◌<◌, length, arith, List, [], ◌∷◌, map, Option, Some, None, refl}
use Rattle.std.specs.Prelude.{MatchOption, slice_index}
use Rattle.std.specs.List.{slice_get}
use Rattle.std.specs.Option.{option_map}
use Rattle.hoare_law.proofs.Sorted.{first_of}

-- the first through a map
pub first_of-map : {X Y : Type 0} (f : X → Y) (xs : List X) → first_of (map f xs) ≡ option_map f (first_of xs)
first_of-map f [] = refl
first_of-map f (x ∷ xs) = refl

-- a list is empty, or its first element is at index 0
pub MatchOption-first_of : (o : Option ℕ) (xs : List ℕ) → o ≡ first_of xs
    → MatchOption o (xs ≡ []) (λ p. (xs ≢ []) × (p ≡ slice_index xs 0))
MatchOption-first_of None [] e = refl
MatchOption-first_of None (x ∷ xs) e = absurd (cc)
MatchOption-first_of (Some p) [] e = absurd (cc)
MatchOption-first_of (Some p) (x ∷ xs) e = ((λ q. absurd (cc)), cc)

-- the i-th of a list's numbers
pub slice_index-map : {X : Type 0} (f : X → ℕ) (xs : List X) (i : ℕ) (o : Option ℕ) → o ≡ option_map f (slice_get xs i)
    → i < length xs → o ≡ Some (slice_index (map f xs) i)
slice_index-map f [] i o e l = absurd (omega arith)
slice_index-map f (x ∷ xs) zero o e l = e
slice_index-map f (x ∷ xs) (suc i) o e l = slice_index-map f xs i o e (omega arith)
