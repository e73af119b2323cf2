-- Events and histories. A history has a list of events, the oldest first. Every definition in these files filters that
-- list: there are no queues and no counters. The source is Hoare's paper (CACM 17(10), 1974), unless a comment says
-- otherwise.
use Rattle.std.specs.Prelude.{ℕ, List, [], ◌∷◌, ◌++◌, ◌==◌, Option, Some, None, unwrap_or}
use Rattle.std.specs.List.{filter}
use Rattle.std.specs.Option.{option_map}
use Rattle.hoare_law.specs.declared.event.Event.{Event}
use Rattle.hoare_law.specs.declared.event.History.{History}
use Rattle.hoare_law.specs.declared.event.Sizes.{Sizes}
use Rattle.hoare_law.specs.declared.event.Event.TheVariants.{Admit, Wait, Signal, Pass, Leave, Resume, Back, Notify}
use Rattle.hoare_law.specs.declared.event.Event.TheVariants.{Broadcast, SignalTo}

-- the place that acts
abbrev pub place_of : {S : Type 0} → Event S → ℕ
place_of (Admit k s) = k
place_of (Wait k c p s) = k
place_of (Signal k c w s) = k
place_of (Pass k c w s) = k
place_of (SignalTo k c w s) = k
place_of (Leave k s) = k
place_of (Resume k c s) = k
place_of (Back k s) = k
place_of (Notify k c w s) = k
place_of (Broadcast k c s) = k

-- the data as the place left them, as it found them, or as they are in hand then
abbrev pub data_of : {S : Type 0} → Event S → S
data_of (Admit k s) = s
data_of (Wait k c p s) = s
data_of (Signal k c w s) = s
data_of (Pass k c w s) = s
data_of (SignalTo k c w s) = s
data_of (Leave k s) = s
data_of (Resume k c s) = s
data_of (Back k s) = s
data_of (Notify k c w s) = s
data_of (Broadcast k c s) = s

-- the events of place k, in order
abbrev pub own : {S : Type 0} → ℕ → List (Event S) → List (Event S)
own k h = filter (λ e. place_of e == k) h

-- the last event of the list, if there is one
abbrev pub newest : {X : Type 0} → List X → Option X
newest [] = None
newest (x ∷ []) = Some x
newest (x ∷ y ∷ xs) = newest (y ∷ xs)

-- the data of the last event, or the opening data if there is no event
unfoldable pub latest_data : {S : Type 0} → History S → S
latest_data h = unwrap_or (option_map data_of (newest h.events)) h.opening

-- h with one more event at the end
unfoldable pub with_event : {S : Type 0} → History S → Event S → History S
with_event h e = record h { events = h.events ++ e ∷ [] }

-- h with the events f in place of its own: h at the time of its first events f
abbrev pub cut_to : {S : Type 0} → History S → List (Event S) → History S
cut_to h f = record h { events = f }

-- a history with no events yet, and these opening data
abbrev pub opened : {S : Type 0} → Sizes → S → History S
opened sizes s = record { sizes = sizes; opening = s; events = [] }
