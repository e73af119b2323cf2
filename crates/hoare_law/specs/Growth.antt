-- How a call makes the front of a place grow, the history that the place knows. In this file k is the place, c the
-- condition, s the data, f the front before the call and h the front after it.
use Rattle.std.specs.Prelude.{ℕ, List, [], ◌∷◌, ◌++◌, ◌≡◌, ◌≢◌, Bool, true, false, Some}
use Rattle.hoare_law.specs.declared.event.Event.{Event}
use Rattle.hoare_law.specs.declared.event.History.{History}
use Rattle.hoare_law.specs.declared.event.Event.TheVariants.{Admit, Wait, Signal, Pass, Leave, Resume, Back, Notify}
use Rattle.hoare_law.specs.declared.event.Event.TheVariants.{Broadcast, SignalTo}
use Rattle.hoare_law.specs.Events.{place_of, own, newest, with_event}
use Rattle.hoare_law.specs.Waiting.{waiting, Chooses, IsWaiting}

-- h begins with f
pub record Begins {S : Type 0} (f h : History S) : Type 0 where
  pub sizes : f.sizes ≡ h.sizes
  pub opening : f.opening ≡ h.opening
  pub later : List (Event S)
  pub is : f.events ++ later ≡ h.events

-- h begins with f, and of the events of place k adds exactly t
pub record Grows {S : Type 0} (k : ℕ) (t : List (Event S)) (f h : History S) : Type 0 where
  pub begins : Begins f h
  pub adds : own k h.events ≡ own k f.events ++ t

-- h begins with f and ends with e, and of the events of e's place adds only e
pub record AddsLast {S : Type 0} (f : History S) (e : Event S) (h : History S) : Type 0 where
  pub grows : Grows (place_of e) (e ∷ []) f h
  pub ends : newest h.events ≡ Some e

-- h begins with f and then d, ends with e, and of the events of e's place adds only these two
pub record AddsTwo {S : Type 0} (f : History S) (d e : Event S) (h : History S) : Type 0 where
  pub grows : Grows (place_of e) (d ∷ e ∷ []) f h
  pub begins : Begins (with_event f d) h
  pub ends : newest h.events ≡ Some e

-- what a signal adds: it resumed a waiter, and t are the data that the signaller finds when it returns; or no process
-- waited, and nothing is added. The `Bool` is true if a waiter was resumed
pub data Signals {S : Type 0} (k c : ℕ) (s t : S) (f h : History S) : Bool → Type 0 where
  resumed_one : (w : ℕ) → Chooses c f.events w → AddsTwo f (Signal k c w s) (Back k t) h → Signals k c s t f h true
  nobody_waited : waiting c f.events ≡ [] → h ≡ f → t ≡ s → Signals k c s t f h false

-- what a signal to place w adds: it resumed w, and t are the data that the signaller finds when it returns; or w didn't
-- wait on c, and nothing is added. The `Bool` is true if w was resumed
pub data SignalsTo {S : Type 0} (k c w : ℕ) (s t : S) (f h : History S) : Bool → Type 0 where
  resumed_it : IsWaiting c f.events w → AddsTwo f (SignalTo k c w s) (Back k t) h → SignalsTo k c w s t f h true
  no_waiter : (IsWaiting c f.events w → ⊥) → h ≡ f → t ≡ s → SignalsTo k c w s t f h false

-- what a pass adds, a signal joined with the exit: it resumed a waiter, or no process waited and it is a plain leave.
-- The `Bool` is true if a waiter was resumed
pub data Exits {S : Type 0} (k c : ℕ) (s : S) (f h : History S) : Bool → Type 0 where
  passed_on : (w : ℕ) → Chooses c f.events w → h ≡ with_event f (Pass k c w s) → Exits k c s f h true
  just_left : waiting c f.events ≡ [] → h ≡ with_event f (Leave k s) → Exits k c s f h false

-- what a notify adds: it notified the waiter that a signal would resume, or no process waited and nothing is added. The
-- `Bool` is true if a waiter was notified
pub data Notifies {S : Type 0} (k c : ℕ) (s : S) (f h : History S) : Bool → Type 0 where
  called_one : (w : ℕ) → Chooses c f.events w → h ≡ with_event f (Notify k c w s) → Notifies k c s f h true
  nobody_called : waiting c f.events ≡ [] → h ≡ f → Notifies k c s f h false

-- what a broadcast adds: it notified all waiters, or no process waited and nothing is added
pub data Broadcasts {S : Type 0} (k c : ℕ) (s : S) (f h : History S) : Type 0 where
  called_all : waiting c f.events ≢ [] → h ≡ with_event f (Broadcast k c s) → Broadcasts k c s f h
  none_called : waiting c f.events ≡ [] → h ≡ f → Broadcasts k c s f h

-- k entered, and continues with the data `found` and the front g: at once, if what it first found doesn't hold it up,
-- or else after one wait. Its front at that moment and the data decide if it is held up. The data also say the
-- condition and the priority of the wait
pub data GetsInside {S : Type 0} (k : ℕ) (held_up : History S → S → Type 0) (condition priority : S → ℕ)
    (f g : History S)
    (found : S) : Type 0 where
  at_once : AddsLast f (Admit k found) g → (held_up g found → ⊥) → GetsInside k held_up condition priority f g found
  waited : (e : History S) (a : S) → AddsLast f (Admit k a) e → held_up e a
      → AddsTwo e (Wait k (condition a) (priority a) a) (Resume k (condition a) found) g
      → GetsInside k held_up condition priority f g found

-- k released the monitor with the data s by its last act: a signal on c joined with the exit, or a signal on c that
-- resumed a waiter, and then a plain exit
pub data Finishes {S : Type 0} (k c : ℕ) (s : S) (f h : History S) : Type 0 where
  exited : (b : Bool) → Exits k c s f h b → Finishes k c s f h
  signalled : (w : ℕ) (t : S) (g : History S) → Chooses c f.events w → AddsTwo f (Signal k c w s) (Back k t) g
      → h ≡ with_event g (Leave k t) → Finishes k c s f h
