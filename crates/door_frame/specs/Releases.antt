-- The event by which a place releases the monitor.
use Rattle.std.specs.Prelude.{ℕ}
use Rattle.hoare_law.specs.declared.event.Event.{Event}
use Rattle.hoare_law.specs.declared.event.Event.TheVariants as event
use Rattle.wait_book.specs.declared.steps.Next.{Next}
use Rattle.wait_book.specs.declared.steps.Next.TheVariants.{For}
use Rattle.door_frame.specs.declared.release.Release.{Release}
use Rattle.door_frame.specs.declared.release.Release.TheVariants.{Wait, Signal, SignalTo, Pass, Leave}

-- the place that resumes next, if there is one; else 0
abbrev pub place_for : Next → ℕ
place_for (For k) = k
place_for _ = 0

-- the event of the place k, after which next resumes, as a function of the data
abbrev pub event_of : {D : Type 0} → ℕ → Release → Next → D → Event D
event_of k (Wait c p) next s = event.Wait k c p s
event_of k (Signal c) next s = event.Signal k c (place_for next) s
event_of k (SignalTo c w) next s = event.SignalTo k c w s
event_of k (Pass c) next s = event.Pass k c (place_for next) s
event_of k Leave next s = event.Leave k s
