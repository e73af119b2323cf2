-- Histories in which each place's own events are those of certain procedures. In this file k is a place, and f has the
-- events before its next one.
use Rattle.std.specs.Prelude.{ℕ, ◌<◌, List, [], ◌∷◌, ◌++◌, ◌≡◌, Some, ⊤}
use Rattle.hoare_law.specs.declared.event.Event.{Event}
use Rattle.hoare_law.specs.declared.event.History.{History}
use Rattle.hoare_law.specs.declared.event.Event.TheVariants.{Admit, Wait, Signal, Pass, Leave, Resume, Back, Notify}
use Rattle.hoare_law.specs.declared.event.Event.TheVariants.{Broadcast, SignalTo}
use Rattle.hoare_law.specs.Events.{place_of, own, newest}
use Rattle.hoare_law.specs.Waiting.{waiting}
use Rattle.hoare_law.specs.Lawful.{Rest, Ready, Stands}

-- the own events of place k are traces of procedures, the last of them perhaps unfinished: each event is one that a
-- procedure adds next (`continues`), after the events before it
pub record Follows {S : Type 0} (continues : List (Event S) → Event S → Type 0) (k : ℕ) (h : History S) : Type 0 where
  pub each : (f later : List (Event S)) (e : Event S) → h.events ≡ f ++ e ∷ later → place_of e ≡ k → continues f e

-- when a place that is in a procedure waits on c with priority p and s, when it signals on c with s as its last act,
-- and when it leaves with s, other than by such a last act, or as refused at its entry
pub record Procedures (S : Type 0) : Type 1 where
  pub waits : (k c p : ℕ) → List (Event S) → S → Type 0
  pub signals : (k c : ℕ) → List (Event S) → S → Type 0
  pub ends : (k : ℕ) → List (Event S) → S → Type 0

module _ {S : Type 0} where
  -- k entered, found a, and did nothing since
  abbrev pub HasEntered : ℕ → List (Event S) → S → Type 0
  HasEntered k f a = newest (own k f) ≡ Some (Admit k a)

  -- k waited on c with priority p and a, resumed, found this, and did nothing since
  pub record HasResumed (k c p : ℕ) (f : List (Event S)) (a found : S) : Type 0 where
    pub earlier : List (Event S)
    pub is : own k f ≡ earlier ++ Wait k c p a ∷ Resume k c found ∷ []

  module _ (by : Procedures S) where
    -- k leaves with s: it was refused and changes nothing; or its procedure ends; or no process waits where it would
    -- signal; or it signalled and returned
    pub data Leaves (k : ℕ) (f : List (Event S)) (s : S) : Type 0 where
      refused : HasEntered k f s → Leaves k f s
      ended : by.ends k f s → Leaves k f s
      nobody_waits : (c : ℕ) → by.signals k c f s → waiting c f ≡ [] → Leaves k f s
      returned : newest (own k f) ≡ Some (Back k s) → Leaves k f s

    -- the event is one that a procedure adds next, after those that its place added before. What is found at an entry,
    -- at a resumption and at a return is determined by the machine
    abbrev pub Continues : List (Event S) → Event S → Type 0
    Continues f (Wait k c p s) = by.waits k c p f s
    Continues f (Leave k s) = Leaves k f s
    Continues f (Signal k c w s) = by.signals k c f s
    Continues f (Pass k c w s) = by.signals k c f s
    Continues f (SignalTo k c w s) = ⊥
    Continues f (Notify k c w s) = ⊥
    Continues f (Broadcast k c s) = ⊥
    Continues f _ = ⊤

    -- h is a legal and lawful history that only the procedures use
    pub record IsUsed (rest : Rest S) (ready : Ready S) (h : History S) : Type 0 where
      pub stands : Stands rest ready h
      pub follows : (k : ℕ) → k < h.sizes.places → Follows Continues k h
