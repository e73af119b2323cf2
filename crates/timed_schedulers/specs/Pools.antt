-- What holds of a pool of buffers and its waiting processes. Condition 0 is nonfree.
use Rattle.std.specs.Prelude.{ℕ, ◌==◌, ◌<◌, ◌≤◌, Bool, false, List, [], length, replicate, slice_set, slice_index_or}
use Rattle.std.specs.Prelude.{◌≡◌, ◌≢◌, Option, Some, None, is_none, IfSome, Result, Ok, Err, All}
use Rattle.std.specs.List.{count_by}
use Rattle.timed_schedulers.specs.declared.pool.PoolRefused.{PoolRefused}
use Rattle.timed_schedulers.specs.declared.pool.PoolRefused.TheVariants as refused
use Rattle.timed_schedulers.specs.declared.pool.GiveRefused.{GiveRefused}
use Rattle.timed_schedulers.specs.declared.pool.GiveRefused.TheVariants as give

-- the number of streams, and the owner of each buffer: none if the buffer is free
pub record Pooled : Type 0 where
  pub streams : ℕ
  pub owners : List (Option ℕ)

-- a pool of these numbers of buffers and streams, with all buffers free
abbrev pub all_free : ℕ → ℕ → Pooled
all_free buffers streams = record { streams = streams; owners = replicate buffers None }

-- the same pool, with another owner of b
abbrev pub with_owner : Pooled → ℕ → Option ℕ → Pooled
with_owner p b owner = record { streams = p.streams; owners = slice_set p.owners b owner }

-- true if the owner is s
abbrev pub is_own : ℕ → Option ℕ → Bool
is_own s None = false
is_own s (Some t) = t == s

-- the number of buffers that s holds
abbrev pub held : ℕ → Pooled → ℕ
held s p = count_by (is_own s) p.owners

-- the number of free buffers
abbrev pub free_count : Pooled → ℕ
free_count p = count_by is_none p.owners

-- a pool may have these numbers of buffers and streams
pub record IsSize (buffers streams : ℕ) : Type 0 where
  pub some_buffer : 1 ≤ buffers
  pub most_buffers : buffers ≤ 1024
  pub some_stream : 1 ≤ streams
  pub most_streams : streams ≤ 256

-- what always holds: there are 1 to 1024 buffers and 1 to 256 streams, and each owner is a stream
pub record PoolHolds (p : Pooled) : Type 0 where
  pub size : IsSize (length p.owners) p.streams
  pub owners : All (λ owner. IfSome owner (λ s. s < p.streams)) p.owners

-- if a process waits, no buffer is free
pub record PoolRests (p : Pooled) (waiting : List ℕ) : Type 0 where
  pub inv : PoolHolds p
  pub nonfree : waiting ≢ [] → free_count p ≡ 0

-- the resumed process finds a free buffer, and rest will hold again after it takes that buffer
pub record PoolReady (p : Pooled) (waiting : List ℕ) : Type 0 where
  pub inv : PoolHolds p
  pub some : 0 < free_count p
  pub others : waiting ≢ [] → free_count p ≡ 1

-- the results of a request for a pool
pub data Makes (buffers streams : ℕ) : Result Pooled PoolRefused → Type 0 where
  bad_size : (IsSize buffers streams → ⊥) → Makes buffers streams (Err refused.BadSize)
  no_memory : IsSize buffers streams → Makes buffers streams (Err refused.Memory)
  made : IsSize buffers streams → Makes buffers streams (Ok (all_free buffers streams))

-- the results for stream s, which gives buffer b back
pub data Judges (s b : ℕ) (p : Pooled) : Result (Unit {0}) GiveRefused → Type 0 where
  no_stream : p.streams ≤ s → Judges s b p (Err give.NoStream)
  no_buffer : s < p.streams → length p.owners ≤ b → Judges s b p (Err give.NoBuffer)
  not_held : s < p.streams → b < length p.owners → slice_index_or p.owners b None ≢ Some s
      → Judges s b p (Err give.NotHeld)
  may : s < p.streams → b < length p.owners → slice_index_or p.owners b None ≡ Some s → Judges s b p (Ok tt)
