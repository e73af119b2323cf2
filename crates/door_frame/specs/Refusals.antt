-- Why an attempt is refused, by the history at some moment of it.
use Rattle.std.specs.Prelude.{◌≡◌, ◌≢◌, ◌⊎◌, ◌<◌, ℕ, true}
use Rattle.hoare_law.specs.declared.event.History.{History}
use Rattle.hoare_law.specs.declared.turn.Turn.TheVariants.{Free}
use Rattle.hoare_law.specs.Growth.{Begins}
use Rattle.hoare_law.specs.Turns.{turn, outside}
use Rattle.wait_book.specs.Contents.{next_of}
use Rattle.wait_book.specs.declared.steps.Next.TheVariants.{For}

module _ {D : Type 0} where
  -- it is a place's turn: a place is inside, or the monitor is owed to one
  abbrev pub NotFree : History D → Type 0
  NotFree h = turn h.events ≢ Free

  -- the monitor isn't owed to the place k
  abbrev pub NotOwed : ℕ → History D → Type 0
  NotOwed k h = next_of (turn h.events) ≢ For k

  -- another place than k is outside
  pub record HasOther (k : ℕ) (h : History D) : Type 0 where
    pub other : ℕ
    pub below : other < h.sizes.places
    pub apart : other ≢ k
    pub is_outside : outside other h.events ≡ true

  -- it is a place's turn, or another place than k is outside
  abbrev pub IsBarred : ℕ → History D → Type 0
  IsBarred k h = NotFree h ⊎ HasOther k h

  -- at some moment after f, and not after h, the place k was barred
  pub record WasBarred (k : ℕ) (f h : History D) : Type 0 where
    pub moment : History D
    pub begins : Begins f moment
    pub ends : Begins moment h
    pub barred : IsBarred k moment
