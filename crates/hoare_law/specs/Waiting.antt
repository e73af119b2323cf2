-- Which processes wait, and which waiter a signal resumes (Hoare 1974, Scheduled Waits) or a notify notifies. That a
-- signal to a place resumes that place, whoever else waits, is this project's choice.
use Rattle.std.specs.Prelude.{ℕ, List, [], ◌∷◌, ◌==◌, ◌&&◌, ◌||◌, not, nat_le, Bool, false, if◌then◌else◌, Option}
use Rattle.std.specs.Prelude.{IsSomeAnd, ◌≡◌}
use Rattle.std.specs.List.{list_all, find}
use Rattle.hoare_law.specs.declared.event.Event.{Event}
use Rattle.hoare_law.specs.declared.event.Event.TheVariants.{Wait, Signal, Pass, Notify, Broadcast, SignalTo}
use Rattle.hoare_law.specs.Events.{place_of}

-- the elements for which the test holds; the test sees the element and all that come after it
abbrev pub filter_by_later : {X : Type 0} → (X → List X → Bool) → List X → List X
filter_by_later test [] = []
filter_by_later test (x ∷ later) = if test x later then x ∷ filter_by_later test later else filter_by_later test later

-- the event is a wait on c
abbrev pub waits_on : {S : Type 0} → ℕ → Event S → Bool
waits_on c (Wait k d p s) = d == c
waits_on c _ = false

-- the priority of a wait; of any other event 0
abbrev pub priority_of : {S : Type 0} → Event S → ℕ
priority_of (Wait k c p s) = p
priority_of _ = 0

-- the condition of a wait; of any other event 0
abbrev pub condition_of : {S : Type 0} → Event S → ℕ
condition_of (Wait k c p s) = c
condition_of _ = 0

-- the place of e does nothing in `later`
abbrev pub is_last_act : {S : Type 0} → Event S → List (Event S) → Bool
is_last_act e later = list_all (λ x. not (place_of x == place_of e)) later

-- the event takes place k from the waiters on c: it resumes or notifies k, or it is a broadcast on c
abbrev pub takes : {S : Type 0} → ℕ → ℕ → Event S → Bool
takes c k (Signal j d w s) = w == k
takes c k (Pass j d w s) = w == k
takes c k (SignalTo j d w s) = w == k
takes c k (Notify j d w s) = w == k
takes c k (Broadcast j d s) = d == c
takes c k _ = false

-- the event concerns place k, which waits on c: k acts, or the event takes k from the waiters
abbrev pub concerns : {S : Type 0} → ℕ → ℕ → Event S → Bool
concerns c k e = place_of e == k || takes c k e

-- no event in `later` concerns the place of e, which waits on c
abbrev pub is_untouched : {S : Type 0} → ℕ → Event S → List (Event S) → Bool
is_untouched c e later = list_all (λ x. not (concerns c (place_of e) x)) later

-- the waiters on c, in the order of the history: the waits on c that no later event concerns
unfoldable pub waiting : {S : Type 0} → ℕ → List (Event S) → List (Event S)
waiting c h = filter_by_later (λ e later. waits_on c e && is_untouched c e later) h

-- no wait in ws has a lesser priority than e
abbrev pub is_least : {S : Type 0} → List (Event S) → Event S → Bool
is_least ws e = list_all (λ x. nat_le (priority_of e) (priority_of x)) ws

-- the waiter on c that a signal resumes: the first whose priority is the least. So of equal priorities it is the
-- longest waiting: for plain waits this is the rule of the paper, for equal priorities given by the processes it is
-- this project's choice
unfoldable pub chosen : {S : Type 0} → ℕ → List (Event S) → Option (Event S)
chosen c h = find (is_least (waiting c h)) (waiting c h)

-- a waiter on c is chosen, and its place is w
unfoldable pub Chooses : {S : Type 0} → ℕ → List (Event S) → ℕ → Type 0
Chooses c h w = IsSomeAnd (chosen c h) (λ e. place_of e ≡ w)

-- the wait of place w, if w waits on c
unfoldable pub wait_by : {S : Type 0} → ℕ → ℕ → List (Event S) → Option (Event S)
wait_by w c h = find (λ e. place_of e == w) (waiting c h)

-- place w waits on c
unfoldable pub IsWaiting : {S : Type 0} → ℕ → List (Event S) → ℕ → Type 0
IsWaiting c h w = IsSomeAnd (wait_by w c h) (λ e. place_of e ≡ w)
