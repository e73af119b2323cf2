-- What a worker does for a job, one visit for it at each monitor, and one more job after others.
use Rattle.std.proofs.Common.{ℕ, ◌≡◌, Bool, true, false, List, Option, Some, None, Result, Ok, Err, ap, refl, sym, ◌∙◌}
use Rattle.std.specs.Prelude.{IfSome, unwrap_or, ◌&&◌}
use Rattle.std.specs.Option.{is_some}
use Rattle.std.specs.Result.{is_err, is_ok}
use Rattle.hoare_law.specs.declared.event.History.{History}
use Rattle.hoare_law.proofs.Tests.{both_true}
use Rattle.plain_schedulers.specs.declared.single.NotOut.{NotOut as SingleNotOut}
use Rattle.plain_schedulers.specs.SingleTraces.{Acquires, Releases}
use Rattle.sweep_schedulers.specs.declared.not_out.NotOut.{NotOut as SweepNotOut}
use Rattle.timed_schedulers.specs.declared.pool.GiveRefused.{GiveRefused}
use Rattle.timed_schedulers.specs.Pools.{Pooled}
use Rattle.timed_schedulers.specs.PoolTraces.{Takes, Gives}
use Rattle.sweep_schedulers.specs.Heads.{Disk}
use Rattle.sweep_schedulers.specs.HeadTraces.{Requests, Releases as ReleasesDrive}
use Rattle.sweep_schedulers.specs.ReadersWriters.{Shared}
use Rattle.sweep_schedulers.specs.ReadersWritersTraces.{StartsWrite, EndsWrite}
use Rattle.disk_jobs.specs.Services.{Served}
use Rattle.disk_service.specs.declared.data.Totals.{Totals}
use Rattle.disk_service.specs.declared.data.Board.{Board}
use Rattle.disk_service.specs.declared.data.Drive.{Drive}
use Rattle.disk_service.specs.declared.data.Item.TheVariants.{Job}
use Rattle.disk_service.specs.declared.thread_places.ThreadPlaces.{ThreadPlaces}
use Rattle.disk_service.specs.JobsDone.{with_job, noted, BorrowsOnce, UsesDrive, SleepsOnce, Counts, Notes}
use Rattle.disk_service.specs.JobsDone.{TakesItem, Reads, Does, DoesNext, HasDone, one_more}

ok-unless_err : {E : Type 0} (r : Result (Unit {0}) E) (b : Bool) → b ≡ is_err r → b ≡ false → r ≡ Ok tt
ok-unless_err (Ok v) b tells accepted = refl
ok-unless_err (Err e) b tells accepted = let clash : true ≡ false = sym tells ∙ accepted in cc

-- the drive was used once, if it was put back
pub used-once : (k cylinder : ℕ) (drive : Drive) (r : Result (Unit {0}) (SweepNotOut Drive)) (b : Bool)
    (f g h : History (Disk Drive)) → Requests k cylinder f g (Ok drive) → ReleasesDrive k drive g h r → b ≡ is_err r
    → b ≡ false → UsesDrive k cylinder f h
used-once k cylinder drive r b f g h requests releases tells accepted = record {
  drive = drive;
  front = g;
  requests = requests;
  releases = rw (ok-unless_err r b tells accepted) at releases;
}

-- the buffer was borrowed once, if it was given back
pub lent-once : (k s buffer : ℕ) (r : Result (Unit {0}) GiveRefused) (b : Bool) (f g h : History Pooled)
    → Takes k s f g (Ok buffer) → Gives k s buffer g h r → b ≡ is_err r → b ≡ false → BorrowsOnce k s f h
lent-once k s buffer r b f g h takes gives tells accepted = record {
  buffer = buffer;
  front = g;
  takes = takes;
  gives = rw (ok-unless_err r b tells accepted) at gives;
}

-- what holds anyway holds if there is a result
pub if-some : {T : Type 0} (P : Type 0) (o : Option T) → P → IfSome o (λ _. P)
if-some P (Some x) p = p
if-some P None p = tt

-- the block was read, if there is a result
pub reads-once : {T : Type 0} (k cylinder : ℕ) (p q : ThreadPlaces) (o : Option T)
    → IfSome o (λ _. BorrowsOnce k k p.pool.front q.pool.front)
    → IfSome o (λ _. UsesDrive k cylinder p.head.front q.head.front)
    → IfSome o (λ _. SleepsOnce k p.clock.front q.clock.front) → IfSome o (λ _. Reads k cylinder p q)
reads-once k cylinder p q (Some x) pool head clock = record { pool = pool; head = head; clock = clock }
reads-once k cylinder p q None pool head clock = tt

-- the job is in the totals, unless they were too great for it or were refused
pub counted-once : (k : ℕ) (d : Served) (t u : Totals) (s : Option Totals)
    (r : Result (Unit {0}) (SingleNotOut Totals)) (a b : Bool) (f g h : History (Option Totals)) → Acquires k t f g
    → Releases k u g h r → u ≡ unwrap_or s t → IfSome s (λ x. x ≡ with_job t d) → a ≡ is_some s → b ≡ is_ok r
    → (a && b) ≡ true → Counts k d f h
counted-once k d t u (Some x) (Ok v) a b f g h takes puts u_is x_is some ok true_both =
    let same : u ≡ with_job t d = u_is ∙ x_is in
    record { found = t; front = g; takes = takes; puts = rw same at puts }
counted-once k d t u (Some x) (Err e) a b f g h takes puts u_is x_is some ok true_both =
    let ab : (a ≡ true) × (b ≡ true) = both_true a b true_both in
    let clash : false ≡ true = sym ok ∙ ab.1 in cc
counted-once k d t u None r a b f g h takes puts u_is x_is some ok true_both =
    let ab : (a ≡ true) × (b ≡ true) = both_true a b true_both in
    let clash : false ≡ true = sym some ∙ ab.0 in cc

-- the jobs are on the board, unless they were too many for it or the board was refused
pub noted-once : (k more : ℕ) (last : Bool) (t u : Board) (s : Option Board)
    (r : Result (Unit {0}) (SweepNotOut Board)) (a b : Bool) (f g h : History (Shared Board)) → StartsWrite k t f g
    → EndsWrite k u g h r → u ≡ unwrap_or s t → IfSome s (λ x. x ≡ noted t more last) → a ≡ is_some s → b ≡ is_ok r
    → (a && b) ≡ true → Notes k more last f h
noted-once k more last t u (Some x) (Ok v) a b f g h starts ends u_is x_is some ok true_both =
    let same : u ≡ noted t more last = u_is ∙ x_is in
    record { found = t; front = g; starts = starts; ends = rw same at ends }
noted-once k more last t u (Some x) (Err e) a b f g h starts ends u_is x_is some ok true_both =
    let ab : (a ≡ true) × (b ≡ true) = both_true a b true_both in
    let clash : false ≡ true = sym ok ∙ ab.1 in cc
noted-once k more last t u None r a b f g h starts ends u_is x_is some ok true_both =
    let ab : (a ≡ true) × (b ≡ true) = both_true a b true_both in
    let clash : false ≡ true = sym some ∙ ab.0 in cc

-- the job is done by a thread that read its block, then counted it, and then wrote it on the board
pub does-job : (d : Served) (p q r s : ThreadPlaces)
    → q ≡ record p { pool = q.pool; head = q.head; clock = q.clock } → r ≡ record q { totals = r.totals }
    → s ≡ record r { board = s.board } → Reads p.number d.cylinder p q → Counts q.number d q.totals.front r.totals.front
    → Notes r.number 1 false r.board.front s.board.front → Does p.number d p s
does-job d p q r s read counted noted reads counts notes =
    let k1 : q.number ≡ p.number = ap (λ (x : ThreadPlaces). x.number) read in
    let k2 : r.number ≡ q.number = ap (λ (x : ThreadPlaces). x.number) counted in
    let t1 : q.totals ≡ p.totals = ap (λ (x : ThreadPlaces). x.totals) read in
    let t2 : r.totals ≡ s.totals = sym (ap (λ (x : ThreadPlaces). x.totals) noted) in
    let b1 : q.board ≡ p.board = ap (λ (x : ThreadPlaces). x.board) read in
    let b2 : r.board ≡ q.board = ap (λ (x : ThreadPlaces). x.board) counted in
    let i1 : q.items ≡ p.items = ap (λ (x : ThreadPlaces). x.items) read in
    let i2 : r.items ≡ q.items = ap (λ (x : ThreadPlaces). x.items) counted in
    let i3 : s.items ≡ r.items = ap (λ (x : ThreadPlaces). x.items) noted in
    let pool : q.pool ≡ s.pool =
    sym (ap (λ (x : ThreadPlaces). x.pool) noted ∙ ap (λ (x : ThreadPlaces). x.pool) counted) in
    let head : q.head ≡ s.head =
    sym (ap (λ (x : ThreadPlaces). x.head) noted ∙ ap (λ (x : ThreadPlaces). x.head) counted) in
    let clock : q.clock ≡ s.clock =
    sym (ap (λ (x : ThreadPlaces). x.clock) noted ∙ ap (λ (x : ThreadPlaces). x.clock) counted) in
    record {
      items = i3 ∙ i2 ∙ i1;
      reads = record { pool = rw pool at reads.pool; head = rw head at reads.head; clock = rw clock at reads.clock };
      totals = rw (k1, t1, t2) at counts;
      board = rw (k2, k1, b2, b1) at notes;
    }

-- one job more is done, if all jobs before it are done
pub done-next : (k i : ℕ) (before done after : List Served) (p n o q : ThreadPlaces) (a b : Bool)
    → (a ≡ true → HasDone k before p done n) → TakesItem k (Job i) n o → (b ≡ true → DoesNext k i done after o q)
    → (a && b) ≡ true → HasDone k before p after q
done-next k i before done after p n o q a b has takes next all =
    let ab : (a ≡ true) × (b ≡ true) = both_true a b all in
    one_more i done after n o q (has ab.0) takes (next ab.1)
