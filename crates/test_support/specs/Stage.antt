-- What the one place of a fake monitor knows. Its history has two places: its own, 0, and place 1, in whose name the
-- answers come.
use Rattle.std.specs.Prelude.{ℕ, List, [], ◌≡◌, Bool, true, false}
use Rattle.hoare_law.specs.declared.event.Event.{Event}
use Rattle.hoare_law.specs.declared.event.History.{History}
use Rattle.hoare_law.specs.declared.turn.Turn.{Turn}
use Rattle.hoare_law.specs.declared.turn.Turn.TheVariants.{Free, Held}
use Rattle.hoare_law.specs.declared.event.Event.TheVariants.{Admit, Wait, Pass, Leave, Resume, Notify}
use Rattle.test_support.specs.declared.steps.Deed.{Deed}
use Rattle.test_support.specs.declared.steps.Deed.TheVariants.{Enters, Waits, Passes, Calls, GoesOn, Leaves}
use Rattle.hoare_law.specs.Events as law
use Rattle.hoare_law.specs.Sizes.{sizes_of}
use Rattle.hoare_law.specs.Events.{latest_data}
use Rattle.hoare_law.specs.Waiting.{waiting}
use Rattle.hoare_law.specs.Called.{called}
use Rattle.hoare_law.specs.Turns.{turn, urgent, outside}
use Rattle.hoare_law.specs.Priorities.{nobody}
use Rattle.hoare_law.specs.Lawful.{Rest, Ready, Stands}

-- the history at the opening of a monitor with n conditions, m of them Mesa conditions, and two places
abbrev pub opened : {S : Type 0} → ℕ → ℕ → S → History S
opened n m s = law.opened (sizes_of n m 2) s

-- the event of what place k does, with the state that it found or left
abbrev pub event_of : {S : Type 0} → ℕ → Deed → S → Event S
event_of k Enters s = Admit k s
event_of k (Waits c p) s = Wait k c p s
event_of k (Passes c) s = Pass k c 0 s
event_of k (Calls c) s = Notify k c 0 s
event_of k (GoesOn c) s = Resume k c s
event_of k Leaves s = Leave k s

-- no process waits on c
abbrev pub none_wait : {S : Type 0} → ℕ → List (Event S)
none_wait c = []

module _ {S : Type 0} (rest : Rest S) (ready : Ready S) (conditions mesa : ℕ) where
  -- h is legal and lawful, and has the two places. By h the turn is `now`, the latest data are s, the waits on c are
  -- `waits c`, the notified are `calls`, and no signaller waits. `first` and `second` are true if place 0 and place 1
  -- are outside.
  pub record Stage (now : Turn) (s : S) (waits : ℕ → List (Event S)) (calls : List (Event S)) (first second : Bool)
      (h : History S) : Type 0 where
    pub stands : Stands rest ready h
    pub sized : h.sizes ≡ sizes_of conditions mesa 2
    pub turn_is : turn h.events ≡ now
    pub data_are : latest_data h ≡ s
    pub waits_are : (c : ℕ) → waiting c h.events ≡ waits c
    pub called_are : called h.events ≡ calls
    pub no_signaller : urgent h.events ≡ []
    pub first_is : outside 0 h.events ≡ first
    pub second_is : outside 1 h.events ≡ second

  -- no place is inside, and the data are at rest
  pub record IsOutside (s : S) (h : History S) : Type 0 where
    pub stage : Stage Free s none_wait [] true true h
    pub rests : rest s nobody

  -- place 0 is inside
  pub record IsInside (h : History S) : Type 0 where
    pub found : S
    pub stage : Stage (Held 0) found none_wait [] false true h
