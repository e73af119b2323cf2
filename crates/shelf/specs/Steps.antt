-- The contract of each step: of the step, the seat before, the number found and the seat after.
use Rattle.std.specs.Prelude.{◌≡◌, ◌≢◌, ℕ, List, [], ◌∷◌, ◌++◌, Option, Some, None}
use Rattle.atomic_table.specs.Table.{Me, Step}
use Rattle.shelf.specs.declared.view.Change.TheVariants.{Take}
use Rattle.shelf.specs.declared.view.Role.TheVariants.{Keeps, Fetches, Lent, Puts, Done}
use Rattle.shelf.specs.declared.view.View.{View}
use Rattle.shelf.specs.Log.{Begins, Log, shelved, taken}
use Rattle.shelf.specs.Views.{AreNumbers, seen, log_of, in_hand, number_of}

-- the log at the moment of a step of the collector, which knew a beginning of it: it has no taking more
pub record Moment {T : Type 0} (known log : Log T) : Type 0 where
  pub begins : Begins known log
  pub takings : taken log ≡ taken known

-- a seat: its view, and the slots that it has
abbrev pub SeatState : Type 0 → Type 0 → Type 0
SeatState T G = Me (Option T) (View T G)

abbrev pub StepContract : Type 0 → Type 0 → Type 1
StepContract T G = Step (Option T) → SeatState T G → ℕ → SeatState T G → Type 0

module _ {T G : Type 0} where
  -- the seat of the collector, without a slot
  abbrev pub IsCollecting : SeatState T G → Type 0
  IsCollecting m = m ≡ (seen m.0.tag (Keeps (log_of m.0.role) (in_hand m.0.role)), [])

  -- the seat that may put a thing on the shelf, without the slot
  abbrev pub IsLent : SeatState T G → Type 0
  IsLent m = m ≡ (seen m.0.tag (Lent (number_of m.0.role)), [])

  abbrev pub reserves : StepContract T G
  reserves st m r m' = (tag : G) (k : ℕ) → m ≡ (seen tag (Lent k), []) → m' ≡ (seen tag (Puts k), (k, None) ∷ [])

  abbrev pub puts : StepContract T G
  puts st m r m' = (tag : G) (k : ℕ) (x : T) → m ≡ (seen tag (Puts k), (k, Some x) ∷ []) → m' ≡ (seen tag Done, [])

  -- the thing k wasn't on the shelf: the collector learned the log
  pub record Missed (tag : G) (known : Log T) (ks : List ℕ) (k : ℕ) (m : SeatState T G) : Type 0 where
    pub log : Log T
    pub moment : Moment known log
    pub absent : shelved k log ≡ None
    pub is : m ≡ (seen tag (Keeps log ks), [])

  -- the thing k was on the shelf: the collector has its slot, and the log has one taking more
  pub record Found (Fits : G → ℕ → T → Type 0) (n : ℕ) (tag : G) (known : Log T) (ks : List ℕ) (k : ℕ)
      (m : SeatState T G) : Type 0 where
    pub log : Log T
    pub moment : Moment known log
    pub thing : T
    pub present : shelved k log ≡ Some thing
    pub fits : Fits tag k thing
    pub numbers : AreNumbers n (k ∷ ks)
    pub is : m ≡ (seen tag (Fetches (log ++ Take k ∷ []) ks k), (k, Some thing) ∷ [])

  abbrev pub takes : (G → ℕ → T → Type 0) → StepContract T G
  takes Fits st m r m' =
      (tag : G) (known : Log T) (ks : List ℕ) → m ≡ (seen tag (Keeps known ks), [])
      → (r ≡ 1 → Missed tag known ks st.word m') × (r ≢ 1 → Found Fits st.slots tag known ks st.word m')

  abbrev pub restores : StepContract T G
  restores st m r m' =
      (tag : G) (known : Log T) (ks : List ℕ) (k : ℕ) → m ≡ (seen tag (Fetches known ks k), (k, None) ∷ [])
      → m' ≡ (seen tag (Keeps known (k ∷ ks)), [])
