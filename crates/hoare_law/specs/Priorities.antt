-- The waiting priorities: for each condition the priorities of its waiters, in the order in which signals would resume
-- them.
use Rattle.std.specs.Prelude.{ℕ, List, [], ◌∷◌, ◌==◌, nat_le, if◌then◌else◌, map}
use Rattle.hoare_law.specs.declared.event.Event.{Event}
use Rattle.hoare_law.specs.Waiting.{priority_of, waiting}

-- the list with x put in before the first element whose key is greater than its own, or at the end if there is none
abbrev pub put_in : {X : Type 0} → (X → ℕ) → X → List X → List X
put_in key x [] = x ∷ []
put_in key x (y ∷ ys) = if nat_le (key y) (key x) then y ∷ put_in key x ys else x ∷ y ∷ ys

-- `placed` with each element of the list put in, the first of the list first
abbrev pub put_all : {X : Type 0} → (X → ℕ) → List X → List X → List X
put_all key placed [] = placed
put_all key placed (x ∷ xs) = put_all key (put_in key x placed) xs

-- the list by rising key; elements with equal keys keep their order
abbrev pub in_order : {X : Type 0} → (X → ℕ) → List X → List X
in_order key xs = put_all key [] xs

-- the waiting priorities of c
unfoldable pub priorities : {S : Type 0} → List (Event S) → ℕ → List ℕ
priorities h c = map priority_of (in_order priority_of (waiting c h))

-- the waiting priorities when no process waits
abbrev pub nobody : ℕ → List ℕ
nobody c = []

-- the lists with p put in its rising place in the list of c
abbrev pub joined : (ℕ → List ℕ) → ℕ → ℕ → ℕ → List ℕ
joined lists c p d = if d == c then put_in (λ n. n) p (lists d) else lists d

-- the lists with an empty list for c
abbrev pub emptied : (ℕ → List ℕ) → ℕ → ℕ → List ℕ
emptied lists c d = if d == c then [] else lists d

-- the list without its first element; the empty list stays empty
abbrev pub behind_first : {X : Type 0} → List X → List X
behind_first [] = []
behind_first (x ∷ xs) = xs

-- the lists without the first element of the list of c
abbrev pub taken : (ℕ → List ℕ) → ℕ → ℕ → List ℕ
taken lists c d = if d == c then behind_first (lists d) else lists d

-- the list without its first element that is p; a list without p stays as it is
abbrev pub without_one : ℕ → List ℕ → List ℕ
without_one p [] = []
without_one p (x ∷ xs) = if x == p then xs else x ∷ without_one p xs

-- the lists without one p in the list of c
abbrev pub left_by : (ℕ → List ℕ) → ℕ → ℕ → ℕ → List ℕ
left_by lists c p d = if d == c then without_one p (lists d) else lists d
