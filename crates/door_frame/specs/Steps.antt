-- The contract of each step: of the step, the seat before, the number found and the seat after.
use Rattle.std.specs.Prelude.{◌≡◌, ℕ, List, [], ◌∷◌, Option, Some, None}
use Rattle.atomic_table.specs.Table.{Me, Step}
use Rattle.hoare_law.specs.declared.event.Event.{Event}
use Rattle.hoare_law.specs.Sizes.{Kinds, sizes_at}
use Rattle.hoare_law.specs.declared.event.History.{History}
use Rattle.hoare_law.specs.declared.event.Event.TheVariants.{Wait, Resume, Back}
use Rattle.hoare_law.specs.declared.turn.Turn.TheVariants.{Held}
use Rattle.hoare_law.specs.Events.{own, newest, place_of, data_of, opened, with_event}
use Rattle.hoare_law.specs.Internal.WithoutData.{dataless}
use Rattle.hoare_law.specs.Growth.{Begins}
use Rattle.hoare_law.specs.Lawful.{Rest, Ready, Owes, Stands}
use Rattle.hoare_law.specs.Legal.{Allowed}
use Rattle.hoare_law.specs.Turns.{turn, IsGivenUp}
use Rattle.wait_book.specs.Contents.{IsOf, next_of}
use Rattle.door_frame.specs.declared.guarded.Guarded.{Guarded}
use Rattle.door_frame.specs.declared.view.Token.{Token}
use Rattle.door_frame.specs.declared.view.SeatView.{SeatView}
use Rattle.door_frame.specs.declared.view.SeatView.TheVariants.{Unopened, Opening, Places}
use Rattle.wait_book.specs.declared.steps.Next.{Next}
use Rattle.door_frame.specs.Views.{alone, sole, all_know, knowing, Each, Apart}
use Rattle.door_frame.specs.declared.view.PlaceView.{PlaceView}

-- a seat: its view, and the slot if it has it
abbrev pub SeatState : Type 0 → Type 0
SeatState D = Me (Option (Guarded D)) (SeatView D)

abbrev pub StepContract : Type 0 → Type 1
StepContract D = Step (Option (Guarded D)) → SeatState D → ℕ → SeatState D → Type 0

module _ {D : Type 0} where
  -- if a place with this last event waits: the condition on which it waits
  abbrev pub awaited : Option (Event D) → Option ℕ
  awaited (Some (Wait j c p x)) = Some c
  awaited _ = None

  -- the event by which the place k returns: from its wait on a condition, or else from a signal
  abbrev pub due_from : ℕ → Option ℕ → D → Event D
  due_from k (Some c) s = Resume k c s
  due_from k None s = Back k s

  abbrev pub due_by : ℕ → Option (Event D) → D → Event D
  due_by k o s = due_from k (awaited o) s

  abbrev pub due : ℕ → History D → D → Event D
  due k f s = due_by k (newest (own k f.events)) s

  abbrev pub begins : StepContract D
  begins st m r m' = (n : ℕ) → m.0 ≡ Unopened n → m' ≡ (Opening n, (0, None) ∷ [])

  abbrev pub opens : Kinds → StepContract D
  opens kinds st m r m' =
      (n : ℕ) (x : Guarded D) → m ≡ (Opening n, (0, Some x) ∷ [])
      → m' ≡ (Places (all_know 0 n (opened (sizes_at kinds n) x.state)), [])

  -- the place inside puts the slot back, by the event that the holder picked, of the data in the slot
  abbrev pub gives_as : (D → Event D) → StepContract D
  gives_as event st m r m' =
      (k : ℕ) (f : History D) (x : Guarded D) → m ≡ (alone k f, (0, Some x) ∷ [])
      → m' ≡ (alone k (with_event f (event x.state)), [])

  -- the place k, inside with f, may put the slot back, with x in it, by the event, after which next resumes
  pub record Gives (rest : Rest D) (ready : Ready D) (event : D → Event D) (k : ℕ) (f : History D) (x : Guarded D)
      (next : Next) : Type 0 where
    pub inside : turn f.events ≡ Held k
    pub mine : place_of (event x.state) ≡ k
    pub allowed : Allowed f (event x.state)
    pub owes : Owes rest ready f.events (event x.state)
    pub given_up : IsGivenUp (turn (with_event f (event x.state)).events)
    pub same_data : data_of (event x.state) ≡ x.state
    pub book : IsOf x.book (dataless (with_event f (event x.state)))
    pub next_is : next ≡ next_of (turn (with_event f (event x.state)).events)

  -- the seat is that of the place k, inside with some f, which may put the slot back by the event
  abbrev pub MayGive : Rest D → Ready D → (D → Event D) → ℕ → SeatState D → Guarded D → Next → Type 0
  MayGive rest ready event k me x next =
      (f : History D) × (me ≡ (alone k f, (0, None) ∷ [])) × Gives rest ready event k f x next

  -- the place inside stays inside, with the slot in hand, by the event that the holder picked, of what it knew
  abbrev pub notes_as : (History D → Event D) → StepContract D
  notes_as event st m r m' = (k : ℕ) (f : History D) → m ≡ (alone k f, (0, None) ∷ [])
      → m' ≡ (alone k (with_event f (event f)), (0, None) ∷ [])

  -- the place k, inside with f, may do the event e, and stays inside
  pub record Notes (rest : Rest D) (ready : Ready D) (e : Event D) (k : ℕ) (f : History D) : Type 0 where
    pub inside : turn f.events ≡ Held k
    pub mine : place_of e ≡ k
    pub allowed : Allowed f e
    pub owes : Owes rest ready f.events e
    pub stays : turn (with_event f e).events ≡ Held k

  -- the seat is that of the place k, inside with some f, which may do the event and stay inside
  abbrev pub MayNote : Rest D → Ready D → (History D → Event D) → ℕ → SeatState D → Type 0
  MayNote rest ready event k me = (f : History D) × (me ≡ (alone k f, (0, None) ∷ [])) × Notes rest ready (event f) k f

  -- the place k, which knew f, entered by the event and found x; it has the token t, and the slot in its hand has o
  pub record EnteredWith (rest : Rest D) (ready : Ready D) (t : Option Token) (k : ℕ) (f : History D)
      (event : D → Event D) (x : Guarded D) (o : Option (Guarded D)) (me : SeatState D) : Type 0 where
    pub log : History D
    pub me_is : me ≡ (sole k (with_event log (event x.state)) t, (0, o) ∷ [])
    pub begins : Begins f log
    pub own_are : own k log.events ≡ own k f.events
    pub stands : Stands rest ready (with_event log (event x.state))
    pub book : IsOf x.book (dataless log)

  -- the same of a place without a token
  abbrev pub EnteredBy : Rest D → Ready D → ℕ → History D → (D → Event D) → Guarded D → Option (Guarded D)
      → SeatState D → Type 0
  EnteredBy rest ready = EnteredWith rest ready None

  -- the contract of a step by which the place k may enter: if the number found is a hit, k enters by the event and
  -- takes the slot, with the token t, and Also holds of the log before; else Missed holds of the seat
  abbrev pub EntryStepOr : Rest D → Ready D → Option Token → (ℕ → Type 0) → (SeatState D → Type 0)
      → (History D → Type 0) → ℕ → History D → (D → Event D) → ℕ → SeatState D → Type 0
  EntryStepOr rest ready t Hit Missed Also k f event r m' =
      ((Hit r → ⊥) → Missed m')
      × (Hit r → (x : Guarded D) × (c : EnteredWith rest ready t k f event x (Some x) m') × Also c.log)

  -- the same if nothing happens when the number found isn't a hit
  abbrev pub EntryStepWith : Rest D → Ready D → Option Token → (ℕ → Type 0) → (History D → Type 0) → ℕ → History D
      → (D → Event D) → SeatState D → ℕ → SeatState D → Type 0
  EntryStepWith rest ready t Hit Also k f event m r m' =
      EntryStepOr rest ready t Hit (λ n. n ≡ m) Also k f event r m'

  -- the same of a place that then has no token
  abbrev pub EntryStep : Rest D → Ready D → (ℕ → Type 0) → (History D → Type 0) → ℕ → History D → (D → Event D)
      → SeatState D → ℕ
      → SeatState D → Type 0
  EntryStep rest ready = EntryStepWith rest ready None

  -- the place k, which knew f, was refused: it learned the log, of which Cause holds
  pub record Refused (rest : Rest D) (ready : Ready D) (Cause : History D → Type 0) (k : ℕ) (f : History D)
      (me : SeatState D) : Type 0 where
    pub log : History D
    pub me_is : me ≡ (alone k log, [])
    pub begins : Begins f log
    pub own_are : own k log.events ≡ own k f.events
    pub stands : Stands rest ready log
    pub cause : Cause log

  -- the history begins with what the place t knew, and has no other events of it
  abbrev pub Known : History D → PlaceView D → Type 0
  Known log t = Begins t.front log × (own t.place log.events ≡ own t.place t.front.events)

  -- the places of a seat know the whole history
  pub record Learns (rest : Rest D) (ready : Ready D) (log : History D) (ts : List (PlaceView D))
      (me : SeatState D) : Type 0 where
    pub me_is : me ≡ (Places (knowing log ts), [])
    pub stands : Stands rest ready log
    pub fits : Each (Known log) ts
    pub apart : Apart ts

  abbrev pub learns : Rest D → Ready D → StepContract D
  learns rest ready st m r m' =
      (ts : List (PlaceView D)) → m ≡ (Places ts, []) → (log : History D) × Learns rest ready log ts m'
