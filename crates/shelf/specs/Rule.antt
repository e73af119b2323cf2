-- The rule of a shelf: where each thing is, as the words, the slots, the log and all seats agree.
use Rattle.std.specs.Prelude.{◌≡◌, ◌<◌, ℕ, List, Option, Some, None, []}
use mathlib.Core.Option.{some, none}
use mathlib.Core.Option as maybe
use lib.ListN.{get_elem?}
use Rattle.atomic_table.specs.Table.{State}
use Rattle.shelf.specs.declared.view.Role.{Role}
use Rattle.shelf.specs.declared.view.Role.TheVariants.{Keeps, Fetches, Lent, Puts, Done}
use Rattle.shelf.specs.declared.view.View.{View}
use Rattle.shelf.specs.Log.{Begins, Log, shelved, taken}
use Rattle.shelf.specs.Views.{Each, AreNumbers, numbers_below, seen}

-- a shelf's words, slots and views
abbrev pub Cells : Type 0 → Type 0 → Type 0
Cells T G = State (Option T) (View T G)

-- where a thing is: on the shelf, with a seat, or with a seat that has its slot too
pub data Spot (T : Type 0) : Type 0 where
  on_shelf : T → Spot T
  with_seat : ℕ → Spot T
  out : ℕ → Spot T

module _ {T : Type 0} where
  -- its word, what is at home in its slot, and what the log has under its number
  abbrev pub word_of : Spot T → ℕ
  word_of (on_shelf x) = 2
  word_of _ = 1

  abbrev pub home_of : Spot T → maybe.Option (Option T)
  home_of (on_shelf x) = some (Some x)
  home_of (with_seat j) = some None
  home_of (out j) = none

  abbrev pub shelved_of : Spot T → Option T
  shelved_of (on_shelf x) = Some x
  shelved_of _ = None

  -- the first seat is the collector: it knows a beginning of the log which has all takings, and has these things in
  -- hand
  pub record Collects (n : ℕ) (log : Log T) (spots : ℕ → Spot T) (seat : ℕ) (known : Log T)
      (ks : List ℕ) : Type 0 where
    pub first : seat ≡ 0
    pub begins : Begins known log
    pub takings : taken log ≡ taken known
    pub numbers : AreNumbers n ks
    pub in_hand : Each (λ k. spots k ≡ with_seat 0) ks

  -- what a seat knows agrees with where the things are
  abbrev pub Agrees : ℕ → Log T → (ℕ → Spot T) → ℕ → Role T → Type 0
  Agrees n log spots j (Keeps known ks) = Collects n log spots j known ks
  Agrees n log spots j (Fetches known ks k) = Collects n log spots j known ks × (k < n) × (spots k ≡ out j)
  Agrees n log spots j (Lent k) = (k < n) × (spots k ≡ with_seat j)
  Agrees n log spots j (Puts k) = (k < n) × (spots k ≡ out j)
  Agrees n log spots j Done = Unit {0}

  module _ {G : Type 0} where
    -- of n things. Fits says what may be on the shelf under which number
    pub record ShelfInvariant (tag : G) (n : ℕ) (Fits : ℕ → T → Type 0) (s : Cells T G) : Type 0 where
      pub log : Log T
      pub spots : ℕ → Spot T
      pub words : (k : ℕ) → k < n → get_elem? s.words k ≡ some (word_of (spots k))
      pub homes : (k : ℕ) → k < n → get_elem? s.homes k ≡ some (home_of (spots k))
      pub logged : (k : ℕ) → k < n → shelved k log ≡ shelved_of (spots k)
      pub fits : (k : ℕ) (x : T) → k < n → spots k ≡ on_shelf x → Fits k x
      pub agrees : (j : ℕ) (v : View T G) → get_elem? s.views j ≡ some v
          → (v.tag ≡ tag) × Agrees n log spots j v.role

    -- the first view: the collector has all things in hand
    abbrev pub all_in_hand : G → ℕ → View T G
    all_in_hand tag n = seen tag (Keeps [] (numbers_below n))
