-- What holds of a rendezvous and of its waiters at each step of a meeting; and the exit that resumes the partner.
use Rattle.std.proofs.Common.{◌≡◌, ◌≢◌, ℕ, List, [], ◌∷◌, length, Bool, true, true≢false, refl, sym, arith}
use Rattle.hoare_law.specs.declared.event.History.{History}
use Rattle.hoare_law.specs.declared.event.Event.TheVariants.{Pass}
use Rattle.hoare_law.specs.Events.{with_event}
use Rattle.hoare_law.specs.Priorities.{put_in, behind_first}
use Rattle.hoare_law.specs.Waiting.{Chooses}
use Rattle.hoare_law.specs.Growth.{Exits, passed_on, just_left}
use Rattle.hoare_law.proofs.Sorted.{length-put_in}
use Rattle.hoare_law.proofs.Joined.{length-behind_first}
use Rattle.cookbook.specs.declared.rendezvous.Rendezvous.{Rendezvous}
use Rattle.cookbook.specs.declared.rendezvous.Rendezvous.TheVariants.{Empty, Offered, Answered}
use Rattle.cookbook.specs.Meetings.{IsOffered, MeetingRests, MeetingReady}

-- a rendezvous at rest without an offer is empty
pub found_empty : {T : Type 0} (s : Rendezvous T) (q : List ℕ) → MeetingRests s q → (IsOffered s → ⊥) → s ≡ Empty
found_empty Empty q rests none = refl
found_empty (Offered x) q rests none = absurd (none tt)
found_empty (Answered x) q rests none = absurd rests

-- rest holds: a process that finds the rendezvous empty may wait once it has left its offer
pub MeetingRests-offered : {T : Type 0} (s d : Rendezvous T) (x : T) (q r : List ℕ) → MeetingRests s q → s ≡ Empty
    → d ≡ Offered x → r ≡ q → MeetingRests d (put_in (λ n. n) 0 r)
MeetingRests-offered s d x q r rests empty state lists =
    let none : length q ≡ 0 = rw empty at rests in
    rw (state, lists) (omega (arith, none, length-put_in (λ n. n) 0 q))

-- at a rendezvous at rest with an offer exactly one process waits
pub one_waits : {T : Type 0} (s : Rendezvous T) (x : T) (q r : List ℕ) → MeetingRests s q → s ≡ Offered x → r ≡ q
    → length r ≡ 1
one_waits s x q r rests offered lists = rw lists (rw offered at rests)

pub somebody_waits : (r : List ℕ) → length r ≡ 1 → r ≢ []
somebody_waits [] one none = absurd (omega (arith, one))
somebody_waits (p ∷ r) one none = cc

pub MeetingRests-nobody : {T : Type 0} (d : Rendezvous T) (r : List ℕ) → length r ≡ 1 → r ≡ [] → MeetingRests d r
MeetingRests-nobody d r one none = absurd (somebody_waits r one none)

-- the process that made the offer may resume with the value of its partner
pub MeetingReady-answered : {T : Type 0} (d : Rendezvous T) (y : T) (r : List ℕ) → length r ≡ 1 → d ≡ Answered y
    → MeetingReady d (behind_first r)
MeetingReady-answered d y r one state = rw state (omega (arith, one, length-behind_first r))

-- rest holds when the resumed process has taken the value of its partner: no process waits
pub nobody_else : {T : Type 0} (s d : Rendezvous T) (q r : List ℕ) → MeetingReady s q → d ≡ Empty → r ≡ q
    → MeetingRests d r
nobody_else (Answered x) d q r ready state lists = rw (state, lists) ready
nobody_else Empty d q r ready state lists = absurd ready
nobody_else (Offered x) d q r ready state lists = absurd ready

-- an exit that resumed a waiter is a pass
pub record Passes_on {S : Type 0} (k c : ℕ) (s : S) (g h : History S) : Type 0 where
  pub to : ℕ
  pub chooses : Chooses c g.events to
  pub is : h ≡ with_event g (Pass k c to s)

pub Exits-resumed : {S : Type 0} {k k1 c : ℕ} {s s1 : S} {g g1 h : History S} {b : Bool} → Exits k1 c s1 g1 h b
    → b ≡ true → k1 ≡ k → s1 ≡ s → g1 ≡ g → Passes_on k c s g h
Exits-resumed {k1 = k1} {s1 = s1} {g1 = g1} (passed_on w chooses is) resumed place state front =
    rw (← place, ← state, ← front) (record { to = w; chooses = chooses; is = is })
Exits-resumed (just_left none is) resumed place state front = absurd (true≢false (sym resumed))
