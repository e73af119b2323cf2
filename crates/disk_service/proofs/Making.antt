-- What a door is opened with: all of its places know these data, and nothing else.
use Rattle.std.proofs.Common.{ℕ, zero, suc, List, ◌≡◌, ◌<◌, ap, ◌∙◌, refl, arith, Result, Ok}
use Rattle.std.specs.Prelude.{slice_index_or}
use Rattle.hoare_law.specs.declared.event.History.{History}
use Rattle.hoare_law.specs.declared.event.Sizes.{Sizes}
use Rattle.hoare_law.specs.Events.{opened}
use Rattle.door_frame.specs.Places.{DoorId, PlaceOut, places_from}
use Rattle.timed_schedulers.specs.declared.pool.PoolRefused.{PoolRefused}
use Rattle.timed_schedulers.specs.Pools as pools
use Rattle.disk_service.specs.Made.{AreNew}

module _ {D : Type 0} where
  -- each place of those that a door was made with has the same front
  nth-front : (door : DoorId) (k n : ℕ) (f : History D) (j : ℕ) (d : PlaceOut D) → j < n
      → (slice_index_or (places_from door k n f) j d).front ≡ f
  nth-front door k zero f j d l = absurd (omega arith)
  nth-front door k (suc n) f zero d l = refl
  nth-front door k (suc n) f (suc j) d l = nth-front door (suc k) n f j d (omega arith)

  -- at a door that was opened with these data nothing has happened
  pub all-new : (door : DoorId) (n : ℕ) (sizes : Sizes) (s : D) (os : List (PlaceOut D))
      → os ≡ places_from door 0 n (opened sizes s) → AreNew s n os
  all-new door n sizes s os is = record {
    each = λ k d l.
        let front : (slice_index_or os k d).front ≡ opened sizes s =
        ap (λ (xs : List (PlaceOut D)). (slice_index_or xs k d).front) is ∙ nth-front door 0 n (opened sizes s) k d l in
        record {
          opening = ap (λ (h : History D). h.opening) front;
          events = ap (λ (h : History D). h.events) front;
        };
  }

-- a pool that was made has all buffers free
pub made-pool : (n s : ℕ) (r : Result pools.Pooled PoolRefused) (p : pools.Pooled) → pools.Makes n s r → r ≡ Ok p
    → p ≡ pools.all_free n s
made-pool n s r p (pools.bad_size _) is = cc
made-pool n s r p (pools.no_memory _) is = cc
made-pool n s r p (pools.made _) is = cc
