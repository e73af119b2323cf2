-- What a contract sees of the chains: the list of the links in each.
use Rattle.std.specs.Prelude.{ℕ, zero, suc, ◌≡◌, ◌==◌, All, Bool, true, false, nat_le, if◌then◌else◌, List, [], ◌∷◌}
use Rattle.std.specs.Prelude.{◌++◌, map, length, Option, Some, None, slice_index_or}
use Rattle.wait_book.specs.declared.chains.TheConstants.{CALLED, CHAINS}
use Rattle.wait_book.specs.declared.chains.Link.{Link}
use Rattle.wait_book.specs.Contents.{times}

-- the number of nodes for which there is memory, and the links in each chain, from the first on
pub record Lists : Type 0 where
  pub room : ℕ
  pub lists : List (List Link)

-- the links in chain c
abbrev pub list_at : Lists → ℕ → List Link
list_at v c = slice_index_or v.lists c []

-- what f makes of the links in the first n chains, chain by chain
unfoldable pub all_below : {X : Type 0} → (ℕ → Link → X) → ℕ → (ℕ → List Link) → List X
all_below f zero at = []
all_below f (suc n) at = all_below f n at ++ map (f n) (at n)

-- the places of the links
abbrev pub places_in : List Link → List ℕ
places_in xs = map (λ (x : Link). x.place) xs

-- the keys of the links' nodes
abbrev pub keys : List Link → List ℕ
keys xs = map (λ (x : Link). x.key) xs

-- the priorities of the links
abbrev pub priorities : List Link → List ℕ
priorities xs = map (λ (x : Link). x.priority) xs

-- the keys of the links in the first n chains
abbrev pub keys_below : ℕ → (ℕ → List Link) → List ℕ
keys_below n at = all_below (λ c (x : Link). x.key) n at

-- the places of the links in the first n chains
abbrev pub places_below : ℕ → (ℕ → List Link) → List ℕ
places_below n at = all_below (λ c (x : Link). x.place) n at

-- the number of links in all chains
abbrev pub total : Lists → ℕ
total v = length (keys_below CHAINS (list_at v))

-- the first link, if there is one
abbrev pub first_link : List Link → Option Link
first_link [] = None
first_link (x ∷ xs) = Some x

-- the key of the last link, or k if there is no link
abbrev pub last_from : Option ℕ → List Link → Option ℕ
last_from k [] = k
last_from k (x ∷ xs) = last_from (Some x.key) xs

-- the key of the last link, if there is one
abbrev pub last_key : List Link → Option ℕ
last_key xs = last_from None xs

-- the key of the link before the first link of the place, or `behind` if no link is before it, and its own key; None if
-- no link has the place
abbrev pub keys_of : ℕ → Option ℕ → List Link → Option (Option ℕ × ℕ)
keys_of place behind [] = None
keys_of place behind (x ∷ xs) = if x.place == place then Some (behind, x.key) else keys_of place (Some x.key) xs

-- the links before the first whose priority is above p
abbrev pub lower : ℕ → List Link → List Link
lower p [] = []
lower p (x ∷ xs) = if nat_le x.priority p then x ∷ lower p xs else []

-- the first link whose priority is above p, and the links after it
abbrev pub higher : ℕ → List Link → List Link
higher p [] = []
higher p (x ∷ xs) = if nat_le x.priority p then higher p xs else x ∷ xs

-- the lists with the list xs in chain c
abbrev pub list_put : ℕ → List Link → (ℕ → List Link) → ℕ → List Link
list_put c xs at d = if d == c then xs else at d

-- a link of the place was inserted into chain c, between the links `before` and the links `after`
pub record IsPut (c : ℕ) (before after : List Link) (place condition priority : ℕ) (old new : Lists) : Type 0 where
  pub key : ℕ
  pub lists : (d : ℕ) → list_at new d
      ≡ list_put c (before ++ record { key = key; place = place; condition = condition; priority = priority } ∷ after)
      (list_at old) d
  pub room : new.room ≡ old.room

-- the first link of chain c, that of the place, was removed
pub record IsTaken (c place : ℕ) (old new : Lists) : Type 0 where
  pub first : Link
  pub after : List Link
  pub was : list_at old c ≡ first ∷ after
  pub first_place : first.place ≡ place
  pub lists : (d : ℕ) → list_at new d ≡ list_put c after (list_at old) d
  pub room : new.room ≡ old.room

-- the link of the place was removed from chain c, from between the links `before`, of which none has the place, and the
-- links `after`
pub record IsTakenOut (c place : ℕ) (old new : Lists) : Type 0 where
  pub before : List Link
  pub link : Link
  pub after : List Link
  pub was : list_at old c ≡ before ++ link ∷ after
  pub link_place : link.place ≡ place
  pub none_before : times place (places_in before) ≡ 0
  pub lists : (d : ℕ) → list_at new d ≡ list_put c (before ++ after) (list_at old) d
  pub room : new.room ≡ old.room

-- it was removed so (true), or the place isn't in chain c and nothing changed (false)
abbrev pub TakesOut : Bool → ℕ → ℕ → Lists → Lists → Type 0
TakesOut true c place old new = IsTakenOut c place old new
TakesOut false c place old new = (times place (places_in (list_at old c)) ≡ 0) × (new ≡ old)

-- the first link in the chain of condition c was moved to the end of the chain of the called, and has the node that it
-- had
pub record IsCalled (c : ℕ) (old new : Lists) : Type 0 where
  pub first : Link
  pub after : List Link
  pub was : list_at old c ≡ first ∷ after
  pub waited : first.condition ≡ c
  pub lists : (d : ℕ)
      → list_at new d ≡ list_put CALLED (list_at old CALLED ++ first ∷ []) (list_put c after (list_at old)) d
  pub room : new.room ≡ old.room

-- the first link of chain c was moved so (true), or the chain is empty and nothing changed (false)
abbrev pub CallsFirst : Bool → ℕ → Lists → Lists → Type 0
CallsFirst true c old new = IsCalled c old new
CallsFirst false c old new = (list_at old c ≡ []) × (new ≡ old)

-- all links in the chain of condition c were moved to the end of the chain of the called, in their order
pub record IsJoined (c : ℕ) (old new : Lists) : Type 0 where
  pub lists : (d : ℕ)
      → list_at new d ≡ list_put c [] (list_put CALLED (list_at old CALLED ++ list_at old c) (list_at old)) d
  pub waited : All (λ (x : Link). x.condition ≡ c) (list_at old c)
  pub room : new.room ≡ old.room
