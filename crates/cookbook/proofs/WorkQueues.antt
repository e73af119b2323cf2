-- What holds of a work queue and of its waiters, as the procedures change it.
use Rattle.std.proofs.Common.{◌≡◌, ℕ, ◌<◌, ◌≤◌, List, [], ◌∷◌, length, Bool, true, false}
use Rattle.std.proofs.Common.{true≢false, sym, ap, refl, ◌∙◌, arith}
use Rattle.hoare_law.specs.declared.event.History.{History}
use Rattle.hoare_law.specs.declared.event.Event.TheVariants.{Wait, Resume}
use Rattle.hoare_law.specs.declared.event.Event.{Event}
use Rattle.hoare_law.specs.Growth.{AddsTwo, Notifies, Broadcasts}
use Rattle.hoare_law.specs.Priorities.{put_in, priorities}
use Rattle.hoare_law.specs.Waiting.{waiting}
use Rattle.hoare_law.proofs.Priorities.{waiting-no_priority}
use Rattle.cookbook.specs.WorkQueues.{Workload, shut, IsIdle, IsOver}
use Rattle.cookbook.specs.WorkQueues.{WorkHolds, WorkRests}
use Rattle.cookbook.specs.WorkTraces.{ComesToWork, again}

-- one more wait, of a worker that has to wait, continues its rounds
pub ComesToWork-again : {k k1 : ℕ} {f g h : History Workload} {found now : Workload} → ComesToWork k f g found
    → IsIdle found → AddsTwo g (Wait k1 1 0 found) (Resume k1 1 now) h → k1 ≡ k → ComesToWork k f h now
ComesToWork-again comes idle waits place = again _ _ _ _ comes idle (rw place at waits)

-- a worker that finds no job, and the queue open, may wait for a job
pub WorkRests-idle : {s : Workload} {closers idle : List ℕ} → WorkRests s closers idle → IsIdle s
    → WorkRests s closers (put_in (λ n. n) 0 idle)
WorkRests-idle rests is_idle = record {
  inv = rests.inv;
  closing = rests.closing;
  still_in = rests.still_in;
  sent_home = λ closed. absurd (true≢false (sym closed ∙ is_idle.may_come));
}

-- the invariant holds while a worker has not gone, if there are no more jobs than there is room for
pub WorkHolds-busy : (s : Workload) → length s.jobs ≤ 8 → 0 < s.workers → WorkHolds s
WorkHolds-busy s within busy = record { within = within; done = λ gone. absurd (omega (arith, busy, gone)) }

-- the invariant holds when all work is over
pub WorkHolds-over : (s : Workload) → IsOver s → WorkHolds s
WorkHolds-over s over = record { within = omega (arith, over.none_left); done = λ _. over }

pub ruleset work_steps = (WorkHolds-busy, WorkHolds-over)

-- a queue is open if it isn't shut
pub is_open : (b : Bool) → (b ≡ true → ⊥) → b ≡ false
is_open true not_shut = absurd (not_shut refl)
is_open false not_shut = refl

is_shut : (b : Bool) → (b ≡ false → ⊥) → b ≡ true
is_shut true not_open = refl
is_shut false not_open = absurd (not_open refl)

-- a worker that needn't wait and finds no job finds the queue shut
pub shut_where_busy : (s : Workload) → (IsIdle s → ⊥) → length s.jobs ≡ 0 → s.closed ≡ true
shut_where_busy s busy none = is_shut s.closed (λ may_come. busy (record { none = none; may_come = may_come }))

-- if all work is over, it is still over when the queue is shut again
pub IsOver-shut : (s : Workload) → IsOver s → IsOver (shut s)
IsOver-shut s over = record { closed = refl; none_left = over.none_left; all_gone = over.all_gone }

none_of : (q : List ℕ) → length q ≡ 0 → q ≡ []
none_of [] none = refl
none_of (p ∷ q) none = absurd (omega (arith, none))

-- if no priority is listed for a condition, no process waits on it
pub nobody_waits : (q : ℕ → List ℕ) (c : ℕ) (h : List (Event Workload)) → q ≡ priorities h → length (q c) ≡ 0
    → waiting c h ≡ []
nobody_waits q c h same none = waiting-no_priority c h (sym (ap (λ lists. lists c) same) ∙ none_of (q c) none)

-- A notify and a broadcast as a trace names them: one equation each for the place, the data and the front, which have
-- other names in the clause.
module _ {k k1 c : ℕ} {s s1 : Workload} {g g1 h : History Workload} where
  pub Notifies-as : {b : Bool} → Notifies k1 c s1 g1 h b → k1 ≡ k → s1 ≡ s → g1 ≡ g → Notifies k c s g h b
  Notifies-as notifies place state front = rw (place, state, front) at notifies

  pub Broadcasts-as : Broadcasts k1 c s1 g1 h → k1 ≡ k → s1 ≡ s → g1 ≡ g → Broadcasts k c s g h
  Broadcasts-as broadcasts place state front = rw (place, state, front) at broadcasts
