-- What the state word says.
use Rattle.std.specs.Prelude.{◌≡◌, ◌<◌, ◌≤◌, ℕ, ◌+◌, Bool, if◌then◌else◌, List, None, slice_index, length}
use Rattle.hoare_law.specs.declared.event.History.{History}
use Rattle.hoare_law.specs.declared.turn.Turn.{Turn}
use Rattle.hoare_law.specs.declared.turn.Turn.TheVariants.{Free, Held, Owed, Return}
use Rattle.hoare_law.specs.Turns.{turn}
use Rattle.door_frame.specs.Rule.{Tokens}

-- the state word for each turn: 0 free, 1 held by a place, k + 2 owed to place k (a waiter that was resumed or
-- notified, or a signaller that returns)
abbrev pub word_of : Turn → ℕ
word_of Free = 0
word_of (Held k) = 1
word_of (Owed k c) = k + 2
word_of (Return k) = k + 2

-- the words before the door opens: the state word is free, or held once the first seat has access to the slot (begun is
-- true). The other seven words are unused: padding against false sharing
pub record Initial (begun : Bool) (words : List ℕ) : Type 0 where
  pub words_are : length words ≡ 8
  pub word : slice_index words 0 ≡ (if begun then 1 else 0)

-- the state word is word_of the turn to which the events of the log lead. No place has a token, which only ticket doors
-- use
pub record WordsFit {D : Type 0} (log : History D) (tokens : Tokens) (words : List ℕ) : Type 0 where
  pub words_are : length words ≡ 8
  pub word : slice_index words 0 ≡ word_of (turn log.events)
  pub no_tokens : (k : ℕ) → tokens k ≡ None

-- the sizes of a door: the numbers of words and slots of its table, of places, and of wakers
pub record Sized (words slots places wakers : ℕ) : Type 0 where
  pub words_are : words ≡ 8
  pub slots_are : slots ≡ 1
  pub some : 0 < places
  pub most : places ≤ 64
  pub each_wakes : wakers ≡ places
