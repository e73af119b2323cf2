-- Whose turn it is, and which places are outside (Hoare 1974, Introduction; for the waiting signallers,
-- Interpretation). That notified processes resume after the waiting signallers and before any entering process is this
-- project's choice.
use Rattle.std.specs.Prelude.{ℕ, List, [], ◌∷◌, ◌&&◌, Bool, true, false, Option, Some, None, map}
use Rattle.hoare_law.specs.declared.event.Event.{Event}
use Rattle.hoare_law.specs.declared.event.Event.TheVariants.{Admit, Wait, Signal, Pass, Leave, Resume, Back, Notify}
use Rattle.hoare_law.specs.declared.event.Event.TheVariants.{Broadcast, SignalTo}
use Rattle.hoare_law.specs.declared.turn.Turn.{Turn}
use Rattle.hoare_law.specs.declared.turn.Turn.TheVariants.{Free, Held, Owed, Return}
use Rattle.hoare_law.specs.Events.{place_of, own, newest}
use Rattle.hoare_law.specs.Waiting.{condition_of, filter_by_later, is_last_act}
use Rattle.hoare_law.specs.Called.{called}

-- the event is a signal, to a place or to the chosen waiter
abbrev pub is_signal : {S : Type 0} → Event S → Bool
is_signal (Signal k c w s) = true
is_signal (SignalTo k c w s) = true
is_signal _ = false

-- the waiting signallers: the places whose last event is a signal, in the order of those events (that the longest
-- waiting signaller returns first is this project's choice)
unfoldable pub urgent : {S : Type 0} → List (Event S) → List ℕ
urgent h = map place_of (filter_by_later (λ e later. is_signal e && is_last_act e later) h)

-- the turn when the monitor is released: that of the first waiting signaller in us. If there is none, it is that of the
-- first notified process in ws, from the condition on which it waited. If there is none either, the monitor is free
abbrev pub turn_given_up : {S : Type 0} → List ℕ → List (Event S) → Turn
turn_given_up [] [] = Free
turn_given_up [] (w ∷ ws) = Owed (place_of w) (condition_of w)
turn_given_up (u ∷ us) ws = Return u

-- what an event makes of the monitor: its place is inside (`stays`), the monitor is released to no particular place
-- (`frees`), or the monitor is handed off to w, which waited on c (`hands`)
pub data After : Type 0 where
  stays : After
  frees : After
  hands : (w c : ℕ) → After

-- what the event makes of the monitor
abbrev pub after : {S : Type 0} → Event S → After
after (Wait k c p s) = frees
after (Leave k s) = frees
after (Signal k c w s) = hands w c
after (Pass k c w s) = hands w c
after (SignalTo k c w s) = hands w c
after _ = stays

-- the turn after an event of k that has this effect; us are the waiting signallers, ws the notified processes
abbrev pub turn_of : {S : Type 0} → After → ℕ → List ℕ → List (Event S) → Turn
turn_of stays k us ws = Held k
turn_of (hands w c) k us ws = Owed w c
turn_of frees k us ws = turn_given_up us ws

-- the turn after the event e; us are the waiting signallers, ws the notified processes
abbrev pub turn_by : {S : Type 0} → Event S → List ℕ → List (Event S) → Turn
turn_by e us ws = turn_of (after e) (place_of e) us ws

-- the turn after the last event, if there is one; if there is none, the monitor is free
abbrev pub turn_after : {S : Type 0} → Option (Event S) → List ℕ → List (Event S) → Turn
turn_after None us ws = Free
turn_after (Some e) us ws = turn_by e us ws

-- whose turn it is after the events of h, by the last of them
unfoldable pub turn : {S : Type 0} → List (Event S) → Turn
turn h = turn_after (newest h) (urgent h) (called h)

-- no place is inside
abbrev pub IsGivenUp : Turn → Type 0
IsGivenUp (Held k) = ⊥
IsGivenUp _ = Unit {0}

-- a place with this last event is outside: it has no last event, or left, or passed
abbrev pub is_out : {S : Type 0} → Option (Event S) → Bool
is_out None = true
is_out (Some (Leave k s)) = true
is_out (Some (Pass k c w s)) = true
is_out (Some _) = false

-- place k is outside: it has no event yet, or its last is a leave or a pass
unfoldable pub outside : {S : Type 0} → ℕ → List (Event S) → Bool
outside k h = is_out (newest (own k h))

-- a place with this last event is inside: it was admitted, resumed, returned, or notified waiters
abbrev pub is_in : {S : Type 0} → Option (Event S) → Bool
is_in (Some (Admit k s)) = true
is_in (Some (Resume k c s)) = true
is_in (Some (Back k s)) = true
is_in (Some (Notify k c w s)) = true
is_in (Some (Broadcast k c s)) = true
is_in _ = false

-- place k is inside, by its own events alone
unfoldable pub inside : {S : Type 0} → ℕ → List (Event S) → Bool
inside k h = is_in (newest (own k h))
