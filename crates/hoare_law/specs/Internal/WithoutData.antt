-- A history without its data, as a book of queues sees it.
use Rattle.std.specs.Prelude.{List, map}
use Rattle.hoare_law.specs.declared.event.Event.{Event}
use Rattle.hoare_law.specs.declared.event.History.{History}
use Rattle.hoare_law.specs.declared.event.Event.TheVariants.{Admit, Wait, Signal, Pass, Leave, Resume, Back, Notify}
use Rattle.hoare_law.specs.declared.event.Event.TheVariants.{Broadcast, SignalTo}

-- the event with the unit in place of its data
abbrev pub without_data : {S : Type 0} → Event S → Event (Unit {0})
without_data (Admit k s) = Admit k tt
without_data (Wait k c p s) = Wait k c p tt
without_data (Signal k c w s) = Signal k c w tt
without_data (Pass k c w s) = Pass k c w tt
without_data (SignalTo k c w s) = SignalTo k c w tt
without_data (Leave k s) = Leave k tt
without_data (Resume k c s) = Resume k c tt
without_data (Back k s) = Back k tt
without_data (Notify k c w s) = Notify k c w tt
without_data (Broadcast k c s) = Broadcast k c tt

-- the events with the unit in place of their data
abbrev pub all_without_data : {S : Type 0} → List (Event S) → List (Event (Unit {0}))
all_without_data h = map without_data h

-- the history with the unit in place of its data: what it says of the queues alone
abbrev pub dataless : {S : Type 0} → History S → History (Unit {0})
dataless h = record { sizes = h.sizes; opening = tt; events = all_without_data h.events }
