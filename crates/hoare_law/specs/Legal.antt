-- Legal histories: those of Hoare's machine, with Mesa conditions besides Hoare's.
use Rattle.std.specs.Prelude.{List, [], ◌∷◌, ◌++◌, ◌<◌, ◌≡◌, ◌≢◌, true, ⊤}
use Rattle.hoare_law.specs.declared.event.Event.{Event}
use Rattle.hoare_law.specs.declared.event.History.{History}
use Rattle.hoare_law.specs.declared.event.Sizes.{Sizes}
use Rattle.hoare_law.specs.declared.event.Event.TheVariants.{Admit, Wait, Signal, Pass, Leave, Resume, Back, Notify}
use Rattle.hoare_law.specs.declared.event.Event.TheVariants.{Broadcast, SignalTo}
use Rattle.hoare_law.specs.declared.turn.Turn.TheVariants.{Free, Held, Owed, Return}
use Rattle.hoare_law.specs.Events.{place_of, latest_data, cut_to}
use Rattle.hoare_law.specs.Sizes.{IsHoare, IsMesa}
use Rattle.hoare_law.specs.Waiting.{waiting, Chooses, IsWaiting}
use Rattle.hoare_law.specs.Turns.{turn, outside}

-- the condition and the other place that the event names are in range for the monitor's sizes
abbrev pub NamesInRange : {S : Type 0} → Sizes → Event S → Type 0
NamesInRange n (Wait k c p s) = c < n.conditions
NamesInRange n (Signal k c w s) = (c < n.conditions) × (w < n.places)
NamesInRange n (Pass k c w s) = (c < n.conditions) × (w < n.places)
NamesInRange n (SignalTo k c w s) = (c < n.conditions) × (w < n.places)
NamesInRange n (Resume k c s) = c < n.conditions
NamesInRange n (Notify k c w s) = (c < n.conditions) × (w < n.places)
NamesInRange n (Broadcast k c s) = c < n.conditions
NamesInRange n _ = ⊤

-- the acting place, the condition and the other place are in range for the monitor's sizes
abbrev pub IsInRange : {S : Type 0} → Sizes → Event S → Type 0
IsInRange n e = (place_of e < n.places) × NamesInRange n e

-- it is the turn for the event, a place that enters is outside, and the data found are as they were left. A signal, a
-- pass or a notify names the place of the chosen waiter, a signal to a place that of any waiter, and a broadcast finds
-- a waiter. The condition is of the right kind: signals and passes are for Hoare's, notifies and broadcasts for Mesa
-- conditions
abbrev pub Fits : {S : Type 0} → History S → Event S → Type 0
Fits f (Admit k s) = (turn f.events ≡ Free) × (outside k f.events ≡ true) × (s ≡ latest_data f)
Fits f (Resume k c s) = (turn f.events ≡ Owed k c) × (s ≡ latest_data f)
Fits f (Back k s) = (turn f.events ≡ Return k) × (s ≡ latest_data f)
Fits f (Wait k c p s) = turn f.events ≡ Held k
Fits f (Leave k s) = turn f.events ≡ Held k
Fits f (Signal k c w s) = (turn f.events ≡ Held k) × Chooses c f.events w × IsHoare f.sizes.conditions f.sizes.mesa c
Fits f (Pass k c w s) = (turn f.events ≡ Held k) × Chooses c f.events w × IsHoare f.sizes.conditions f.sizes.mesa c
Fits f (SignalTo k c w s) =
    (turn f.events ≡ Held k) × IsWaiting c f.events w × IsHoare f.sizes.conditions f.sizes.mesa c
Fits f (Notify k c w s) = (turn f.events ≡ Held k) × Chooses c f.events w × IsMesa f.sizes.conditions f.sizes.mesa c
Fits f (Broadcast k c s) =
    (turn f.events ≡ Held k) × (waiting c f.events ≢ []) × IsMesa f.sizes.conditions f.sizes.mesa c

-- the event may come next, after the events of f
pub record Allowed {S : Type 0} (f : History S) (e : Event S) : Type 0 where
  pub in_range : IsInRange f.sizes e
  pub fits : Fits f e

-- each event is allowed after the events before it
pub record IsLegal {S : Type 0} (h : History S) : Type 0 where
  pub each : (f later : List (Event S)) (e : Event S) → h.events ≡ f ++ e ∷ later → Allowed (cut_to h f) e
