-- What the laws of overtaking count in `later`, the events that come after a history.
use Rattle.std.specs.Prelude.{ℕ, List, ◌++◌, ◌+◌, ◌==◌, ◌&&◌, nat_lt, nat_le, Bool, true, false, length, map}
use Rattle.std.specs.List.{filter}
use Rattle.hoare_law.specs.declared.event.Event.{Event}
use Rattle.hoare_law.specs.declared.event.Event.TheVariants.{Admit, Wait, Signal, Pass, Leave, Resume, Back, Notify}
use Rattle.hoare_law.specs.declared.event.Event.TheVariants.{Broadcast, SignalTo}
use Rattle.hoare_law.specs.declared.event.History.{History}
use Rattle.hoare_law.specs.declared.event.Sizes.{Sizes}
use Rattle.hoare_law.specs.Events.{place_of, cut_to}
use Rattle.hoare_law.specs.Turns.{is_signal}
use Rattle.hoare_law.specs.Waiting.{priority_of, condition_of, waits_on, is_untouched, filter_by_later}
use Rattle.hoare_law.specs.Waiting.{waiting}

-- the history h, and then the events `later`
abbrev pub with_events : {S : Type 0} → History S → List (Event S) → History S
with_events h later = cut_to h (h.events ++ later)

-- the place releases the monitor and resumes no process: it waits or leaves
abbrev pub is_release : {S : Type 0} → Event S → Bool
is_release (Wait k c p s) = true
is_release (Leave k s) = true
is_release _ = false

-- how many releases there are
unfoldable pub releases : {S : Type 0} → List (Event S) → ℕ
releases later = length (filter is_release later)

-- the event is the return of a signaller
abbrev pub is_back : {S : Type 0} → Event S → Bool
is_back (Back k s) = true
is_back _ = false

-- the signallers that return, in their order
unfoldable pub returned : {S : Type 0} → List (Event S) → List ℕ
returned later = map place_of (filter is_back later)

-- how many signals there are, each of which resumes a waiter
unfoldable pub signals : {S : Type 0} → List (Event S) → ℕ
signals later = length (filter is_signal later)

-- a notified process resumes: its condition is a Mesa condition, in a monitor of these sizes
abbrev pub resumes_called : {S : Type 0} → Sizes → Event S → Bool
resumes_called n (Resume k c s) = nat_le n.conditions (c + n.mesa)
resumes_called n _ = false

-- the notified processes that resume, in their order
unfoldable pub resumed_called : {S : Type 0} → Sizes → List (Event S) → List ℕ
resumed_called n later = map place_of (filter (resumes_called n) later)

-- the event takes the chosen waiter from c
abbrev pub takes_from : {S : Type 0} → ℕ → Event S → Bool
takes_from c (Signal k d w s) = d == c
takes_from c (Pass k d w s) = d == c
takes_from c (Notify k d w s) = d == c
takes_from c _ = false

-- how many waiters are taken from c by events that take one each
unfoldable pub taken_from : {S : Type 0} → ℕ → List (Event S) → ℕ
taken_from c later = length (filter (takes_from c) later)

-- the event is a signal to a place that waits on c
abbrev pub signals_on : {S : Type 0} → ℕ → Event S → Bool
signals_on c (SignalTo k d w s) = d == c
signals_on c _ = false

-- how many signals to places that wait on c there are
unfoldable pub signals_to : {S : Type 0} → ℕ → List (Event S) → ℕ
signals_to c later = length (filter (signals_on c) later)

-- how many processes begin to wait on c with a priority less than p
unfoldable pub waits_below : {S : Type 0} → ℕ → ℕ → List (Event S) → ℕ
waits_below c p later = length (filter (λ e. waits_on c e && nat_lt (priority_of e) p) later)

-- how many of the waiters on c have a priority of at most p
unfoldable pub waiters_up_to : {S : Type 0} → ℕ → ℕ → List (Event S) → ℕ
waiters_up_to c p h = length (filter (λ x. nat_le (priority_of x) p) (waiting c h))

-- a visit begins: the place is admitted, resumes or returns
abbrev pub begins_visit : {S : Type 0} → Event S → Bool
begins_visit (Admit k s) = true
begins_visit (Resume k c s) = true
begins_visit (Back k s) = true
begins_visit _ = false

-- how many visits begin
unfoldable pub visits : {S : Type 0} → List (Event S) → ℕ
visits later = length (filter begins_visit later)

-- the place notifies one waiter or all, and stays inside
abbrev pub is_notification : {S : Type 0} → Event S → Bool
is_notification (Notify k c w s) = true
is_notification (Broadcast k c s) = true
is_notification _ = false

-- how many notifications there are
unfoldable pub notifications : {S : Type 0} → List (Event S) → ℕ
notifications later = length (filter is_notification later)

-- the event is a wait
abbrev pub is_wait : {S : Type 0} → Event S → Bool
is_wait (Wait k c p s) = true
is_wait _ = false

-- the waiters on all conditions, in the order in which they began to wait
unfoldable pub waiting_anywhere : {S : Type 0} → List (Event S) → List (Event S)
waiting_anywhere h = filter_by_later (λ e later. is_wait e && is_untouched (condition_of e) e later) h
