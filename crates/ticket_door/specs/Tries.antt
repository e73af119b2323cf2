-- A place that tries to enter.
use Rattle.std.specs.Prelude.{◌≡◌, ◌≢◌, ◌⊎◌, ℕ, ◌+◌, ◌*◌, ◌%◌, ◌^◌, List, [], ◌∷◌, Option, Some}
use Rattle.hoare_law.specs.declared.event.History.{History}
use Rattle.hoare_law.specs.declared.event.Event.TheVariants.{Admit}
use Rattle.hoare_law.specs.Admissions.{admissions}
use Rattle.hoare_law.specs.Lawful.{Rest, Ready}
use Rattle.door_frame.specs.declared.guarded.Guarded.{Guarded}
use Rattle.door_frame.specs.declared.view.Token.TheVariants.{Gate}
use Rattle.door_frame.specs.Refusals.{HasOther, IsBarred}
use Rattle.door_frame.specs.Steps.{SeatState, EnteredWith, Learns}
use Rattle.door_frame.specs.Views.{alone, trying, knows}

module _ {D : Type 0} where
  -- what the value r of NEXT tells the place k while the history is h: no place has a ticket, so that the next one is
  -- that of the next admission; or another place is outside
  abbrev pub NextTells : ℕ → ℕ → ℕ → History D → Type 0
  NextTells first k r h = (r ≡ (first + admissions h.events) % 2 ^ 64) ⊎ HasOther k h

  -- what the value r of SERVING tells it: the ticket of the next admission is served, and the gate is open; or the place
  -- is barred
  abbrev pub ServingTells : ℕ → ℕ → ℕ → History D → Type 0
  ServingTells first k r h = (r ≡ (2 * (first + admissions h.events)) % 2 ^ 64) ⊎ IsBarred k h

  -- the ticket w isn't that of the next admission, or the place k is barred
  abbrev pub IsPassed : ℕ → ℕ → ℕ → History D → Type 0
  IsPassed first w k h = (w ≢ (first + admissions h.events) % 2 ^ 64) ⊎ IsBarred k h

  -- the place k, which knew f and shut the gate when SERVING was v, learned a history in which the ticket w is passed
  abbrev pub MissesTicket : ℕ → Rest D → Ready D → ℕ → ℕ → History D → ℕ → SeatState D → Type 0
  MissesTicket first rest ready w k f v me =
      (g : History D) × Learns rest ready g (knows k f (Some (Gate v)) ∷ []) me × IsPassed first w k g

  -- the seat of the place k, which knows f, and shut the gate when SERVING was v
  abbrev pub IsTrying : ℕ → History D → ℕ → SeatState D → Type 0
  IsTrying k f v me = me ≡ (trying k f v, [])

  -- the seat of some place that shut the gate, and may be inside
  abbrev pub HasGate : SeatState D → Type 0
  HasGate me = (k : ℕ) × (f : History D) × (v : ℕ) × (c : List (ℕ × Option (Guarded D))) × (me ≡ (trying k f v, c))

  -- the place k was admitted, has the slot with its contents, and still has the gate
  abbrev pub IsAdmitted : Rest D → Ready D → ℕ → ℕ → SeatState D → SeatState D → Type 0
  IsAdmitted rest ready k v me me' =
      (f : History D) → IsTrying k f v me
      → (x : Guarded D) × EnteredWith rest ready (Some (Gate v)) k f (Admit k) x (Some x) me'

  -- the place has the gate no longer; all else is as before
  abbrev pub Reopened : SeatState D → SeatState D → Type 0
  Reopened me me' =
      (k : ℕ) (f : History D) (v : ℕ) (c : List (ℕ × Option (Guarded D))) → me ≡ (trying k f v, c)
      → me' ≡ (alone k f, c)
