-- What a contract sees of a shelf, of its collector, and of the right to put a thing there.
use Rattle.std.specs.Prelude.{◌≡◌, ℕ, List, ◌∷◌, [], ◌++◌, Some, None}
use Rattle.atomic_table.specs.Seated.{TableId}
use Rattle.shelf.specs.declared.view.Change.TheVariants.{Take}
use Rattle.shelf.specs.Log.{Log, shelved}
use Rattle.shelf.specs.Steps.{Moment}

-- a shelf: its table, and its tag
pub record ShelfId (G : Type 0) : Type 0 where
  pub table : TableId
  pub tag : G

-- the right to put the thing with this number on the shelf, once
pub record SlipOf (G : Type 0) : Type 0 where
  pub shelf : ShelfId G
  pub number : ℕ

-- the collector: what it knows of the log, and the numbers of the things that it has in hand, the last first
pub record CollectorOf (T G : Type 0) : Type 0 where
  pub shelf : ShelfId G
  pub log : Log T
  pub in_hand : List ℕ

module _ {G : Type 0} where
  abbrev pub shelf_id : TableId → G → ShelfId G
  shelf_id z tag = record { table = z; tag = tag }

  abbrev pub slip_of : ShelfId G → ℕ → SlipOf G
  slip_of z k = record { shelf = z; number = k }

  module _ {T : Type 0} where
    abbrev pub collector_of : ShelfId G → Log T → List ℕ → CollectorOf T G
    collector_of z log ks = record { shelf = z; log = log; in_hand = ks }

    -- the thing k wasn't on the shelf at this moment, up to which the collector learned the log
    pub record WasAbsent (k : ℕ) (old new : CollectorOf T G) : Type 0 where
      pub moment : Moment old.log new.log
      pub absent : shelved k new.log ≡ None
      pub in_hand : new.in_hand ≡ old.in_hand

    -- the thing k was on the shelf at a moment, as x, and was taken then
    pub record WasTaken (k : ℕ) (x : T) (old new : CollectorOf T G) : Type 0 where
      pub before : Log T
      pub moment : Moment old.log before
      pub present : shelved k before ≡ Some x
      pub log : new.log ≡ before ++ Take k ∷ []
      pub in_hand : new.in_hand ≡ k ∷ old.in_hand
