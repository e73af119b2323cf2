-- What is inserted into the list of the waiters, and removed from it.
use Rattle.std.specs.Prelude.{ℕ, ◌≡◌, ◌+◌, ◌==◌, not, if◌then◌else◌, List, [], ◌∷◌, ◌++◌, map}
use Rattle.std.specs.List.{filter}
use Rattle.hoare_law.specs.Priorities.{put_in}
use Rattle.wait_book.specs.declared.waiter.Waiter.{Waiter}
use Rattle.wait_book.specs.Contents.{one, times}

-- w was inserted: on its condition it follows the waiters of the same or a lesser priority, and the other waiters are
-- as they were
pub record PutsIn (w : Waiter) (old new : List Waiter) : Type 0 where
  pub on : (c : ℕ) → filter (λ (v : Waiter). v.condition == c) new
      ≡ (if w.condition == c then put_in (λ (v : Waiter). v.priority) w (filter (λ (v : Waiter). v.condition == c) old)
      else filter (λ (v : Waiter). v.condition == c) old)
  pub more : (k : ℕ)
      → times k (map (λ (v : Waiter). v.place) new) ≡ times k (map (λ (v : Waiter). v.place) old) + one k w.place

-- a waiter on c, whose place is k, was removed from the list
pub record Removes (c : ℕ) (old new : List Waiter) (k : ℕ) : Type 0 where
  pub before : List Waiter
  pub first : Waiter
  pub after : List Waiter
  pub was : old ≡ before ++ first ∷ after
  pub is : new ≡ before ++ after
  pub on : first.condition ≡ c
  pub place : first.place ≡ k

-- it was the first of the waiters on c
abbrev pub IsFirst : (c : ℕ) → List Waiter → Type 0
IsFirst c before = filter (λ (w : Waiter). w.condition == c) before ≡ []

-- all waiters on c were removed from the list, and the others are as they were
pub record TakesAll (c : ℕ) (old new : List Waiter) : Type 0 where
  pub on : (d : ℕ)
      → filter (λ (w : Waiter). w.condition == d) new
      ≡ (if d == c then [] else filter (λ (w : Waiter). w.condition == d) old)
  pub is : new ≡ filter (λ (w : Waiter). not (w.condition == c)) old
