-- The rule of every door: what holds of the log, of what each seat knows, and of the slot. What a door's words mean is
-- each door's own.
use Rattle.std.specs.Prelude.{◌≡◌, ℕ, ◌<◌, Bool, true, false, List, [], ◌∷◌, Option, Some, None, length}
use mathlib.Core.Option.{some, none}
use lib.ListN.{get_elem?}
use Rattle.atomic_table.specs.Table.{State}
use Rattle.hoare_law.specs.declared.event.History.{History}
use Rattle.hoare_law.specs.Sizes.{Kinds, sizes_at}
use Rattle.hoare_law.specs.declared.turn.Turn.TheVariants.{Held}
use Rattle.hoare_law.specs.Events.{own, latest_data}
use Rattle.hoare_law.specs.Internal.WithoutData.{dataless}
use Rattle.hoare_law.specs.Growth.{Begins}
use Rattle.hoare_law.specs.Lawful.{Rest, Ready, Stands}
use Rattle.hoare_law.specs.Turns.{turn, IsGivenUp}
use Rattle.wait_book.specs.Contents.{IsOf}
use Rattle.door_frame.specs.declared.guarded.Guarded.{Guarded}
use Rattle.door_frame.specs.declared.view.PlaceView.{PlaceView}
use Rattle.door_frame.specs.declared.view.Token.{Token}
use Rattle.door_frame.specs.declared.view.SeatView.{SeatView}
use Rattle.door_frame.specs.declared.view.SeatView.TheVariants.{Unopened, Opening}
use Rattle.door_frame.specs.Views.{EachOf, ApartOf}

-- a door's words, slot and views
abbrev pub Cells : Type 0 → Type 0
Cells D = State (Option (Guarded D)) (SeatView D)

-- which token each place has
abbrev pub Tokens : Type 0
Tokens = ℕ → Option Token

module _ {D : Type 0} where
  -- a place t of the seat: the log begins with the front of t, and has no other events of that place
  pub record Agrees (n : ℕ) (log : History D) (owner : ℕ → ℕ) (tokens : Tokens) (seat : ℕ)
      (t : PlaceView D) : Type 0 where
    pub below : t.place < n
    pub owned : owner t.place ≡ seat
    pub begins : Begins t.front log
    pub own_are : own t.place log.events ≡ own t.place t.front.events
    pub token_is : tokens t.place ≡ t.token

  -- the contents x of the slot are what the history left
  pub record Lies (h : History D) (x : Guarded D) : Type 0 where
    pub latest : x.state ≡ latest_data h
    pub book : IsOf x.book (dataless h)

  -- Of the words: Initial is what they are before the door opens (true if the first seat has the slot by then),
  -- WordsFit is that they fit the log and the tokens of an open door
  module _ (Initial : Bool → List ℕ → Type 0) (WordsFit : History D → Tokens → List ℕ → Type 0) (rest : Rest D)
      (ready : Ready D) (kinds : Kinds) where
    -- the door is open
    pub record OpenInvariant (n : ℕ) (s : Cells D) : Type 0 where
      pub log : History D
      pub owner : ℕ → ℕ
      pub tokens : Tokens
      pub one_slot : length s.homes ≡ 1
      pub sized : log.sizes ≡ sizes_at kinds n
      -- 1. what each place knows is a beginning of the log, and the log has no other events of that place
      pub fronts : (j : ℕ) (v : SeatView D) → get_elem? s.views j ≡ some v → EachOf (Agrees n log owner tokens j) v
      -- and no seat has a place twice
      pub apart : (j : ℕ) (v : SeatView D) → get_elem? s.views j ≡ some v → ApartOf v
      -- 2. the log is legal and lawful
      pub stands : Stands rest ready log
      -- 3. the words fit the log and the tokens
      pub words_fit : WordsFit log tokens s.words
      -- 4. if nobody is inside, the slot is at home, with what the log left
      pub home : IsGivenUp (turn log.events)
          → (x : Guarded D) × (get_elem? s.homes 0 ≡ some (some (Some x))) × Lies log x
      -- and if a place is inside, the slot is out
      pub out : (k : ℕ) → turn log.events ≡ Held k → get_elem? s.homes 0 ≡ some none

    pub data TableInvariant (n : ℕ) (s : Cells D) : Type 0 where
      raw : Initial false s.words → s.homes ≡ some None ∷ [] → s.views ≡ Unopened n ∷ [] → TableInvariant n s
      lent : Initial true s.words → s.homes ≡ none ∷ [] → s.views ≡ Opening n ∷ [] → TableInvariant n s
      runs : OpenInvariant n s → TableInvariant n s
