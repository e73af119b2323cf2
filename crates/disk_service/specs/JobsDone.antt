-- What a worker does for each job, as the fronts of its places show it.
use Rattle.std.specs.Prelude.{ℕ, ◌+◌, ◌||◌, ◌≡◌, Bool, false, List, [], ◌∷◌, ◌++◌, Option, Some, None, Ok}
use Rattle.hoare_law.specs.declared.event.History.{History}
use Rattle.plain_schedulers.specs.BufferTraces.{Removes}
use Rattle.plain_schedulers.specs.SingleTraces.{Acquires, Releases}
use Rattle.timed_schedulers.specs.AlarmTraces.{Wakes}
use Rattle.timed_schedulers.specs.Pools.{Pooled}
use Rattle.timed_schedulers.specs.PoolTraces.{Takes, Gives}
use Rattle.sweep_schedulers.specs.Heads.{Disk}
use Rattle.sweep_schedulers.specs.HeadTraces.{Requests, Releases as ReleasesDrive}
use Rattle.sweep_schedulers.specs.ReadersWriters.{Shared}
use Rattle.sweep_schedulers.specs.ReadersWritersTraces.{StartsWrite, EndsWrite}
use Rattle.disk_jobs.specs.Services.{Served, block_of}
use Rattle.disk_service.specs.declared.data.Board.{Board}
use Rattle.disk_service.specs.declared.data.Drive.{Drive}
use Rattle.disk_service.specs.declared.data.Item.{Item}
use Rattle.disk_service.specs.declared.data.Item.TheVariants.{Job, Stop}
use Rattle.disk_service.specs.declared.data.Totals.{Totals}
use Rattle.disk_service.specs.declared.thread_places.ThreadPlaces.{ThreadPlaces}

-- the item of the job with this number, or the stop item
abbrev pub item_of : Option ℕ → Item
item_of (Some i) = Job i
item_of None = Stop

-- the totals with one more job
abbrev pub with_job : Totals → Served → Totals
with_job t d = record { jobs = t.jobs + 1; sum = t.sum + block_of d.cylinder }

-- the board with `more` jobs done, closed if it was or if `last`
abbrev pub noted : Board → ℕ → Bool → Board
noted b more last = record { done = b.done + more; closed = b.closed || last }

-- place k took a buffer for stream s from the pool once, and gave it back
pub record BorrowsOnce (k s : ℕ) (f h : History Pooled) : Type 0 where
  pub buffer : ℕ
  pub front : History Pooled
  pub takes : Takes k s f front (Ok buffer)
  pub gives : Gives k s buffer front h (Ok tt)

-- place k was granted the drive at this cylinder once, and put it back
pub record UsesDrive (k cylinder : ℕ) (f h : History (Disk Drive)) : Type 0 where
  pub drive : Drive
  pub front : History (Disk Drive)
  pub requests : Requests k cylinder f front (Ok drive)
  pub releases : ReleasesDrive k drive front h (Ok tt)

-- place k asked once to be woken after one tick, and was
pub record SleepsOnce (k : ℕ) (f h : History ℕ) : Type 0 where
  pub time : ℕ
  pub wakes : Wakes k 1 f h (Ok time)

-- place k took out the totals once, and put them back with this job added
pub record Counts (k : ℕ) (d : Served) (f h : History (Option Totals)) : Type 0 where
  pub found : Totals
  pub front : History (Option Totals)
  pub takes : Acquires k found f front
  pub puts : Releases k (with_job found d) front h (Ok tt)

-- place k wrote on the board once: that `more` jobs are done and, if `last`, that no more will be
pub record Notes (k more : ℕ) (last : Bool) (f h : History (Shared Board)) : Type 0 where
  pub found : Board
  pub front : History (Shared Board)
  pub starts : StartsWrite k found f front
  pub ends : EndsWrite k (noted found more last) front h (Ok tt)

-- thread k, whose places were p and are q, removed this item, and did nothing else
pub record TakesItem (k : ℕ) (item : Item) (p q : ThreadPlaces) : Type 0 where
  pub removes : Removes k item p.items.front q.items.front
  pub others : q ≡ record p { items = q.items }

-- thread k, whose places were p and are q, read the block on this cylinder: with a buffer for its own stream and with
-- the drive, and it slept for a tick
pub record Reads (k cylinder : ℕ) (p q : ThreadPlaces) : Type 0 where
  pub pool : BorrowsOnce k k p.pool.front q.pool.front
  pub head : UsesDrive k cylinder p.head.front q.head.front
  pub clock : SleepsOnce k p.clock.front q.clock.front

-- thread k, whose places were p and are q, did job d, and nothing else: it read the block, added the job to the totals
-- and wrote on the board that one more job is done
pub record Does (k : ℕ) (d : Served) (p q : ThreadPlaces) : Type 0 where
  pub items : q.items ≡ p.items
  pub reads : Reads k d.cylinder p q
  pub totals : Counts k d p.totals.front q.totals.front
  pub board : Notes k 1 false p.board.front q.board.front

-- thread k, whose places were p and are q, did job i and nothing else; with it the jobs that the thread did are `after`
pub record DoesNext (k i : ℕ) (before after : List Served) (p q : ThreadPlaces) : Type 0 where
  pub job : Served
  pub number : job.job ≡ i
  pub does : Does k job p q
  pub after_are : after ≡ before ++ job ∷ []

-- thread k, whose places were p when it had done the jobs `before`, did others since, and nothing else: it removed the
-- number of each, and then did that job. With them the jobs that it did are those in the list
pub data HasDone (k : ℕ) (before : List Served) (p : ThreadPlaces) : List Served → ThreadPlaces → Type 0 where
  none_yet : HasDone k before p before p
  one_more : (i : ℕ) (done after : List Served) (n o q : ThreadPlaces) → HasDone k before p done n
      → TakesItem k (Job i) n o → DoesNext k i done after o q → HasDone k before p after q

-- thread k, whose places were p and are q, did jobs, then removed a stop item, and did nothing else; with these jobs
-- all that it did are `after`, and before it had done the jobs `before`
pub record Works (k : ℕ) (before after : List Served) (p q : ThreadPlaces) : Type 0 where
  pub last : ThreadPlaces
  pub done : HasDone k before p after last
  pub stops : TakesItem k Stop last q
