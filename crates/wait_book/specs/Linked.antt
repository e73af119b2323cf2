-- How the fields of the chains represent lists.
use Rattle.std.specs.Prelude.{ℕ, ◌≡◌, ◌<◌, ◌≤◌, All, Bool, false, if◌then◌else◌, List, length, slice_index_or}
use Rattle.wait_book.specs.declared.book.TheConstants.{MOST_CONDITIONS, MOST_PLACES}
use Rattle.wait_book.specs.declared.chains.TheConstants.{CHAINS, MOST_KEYS}
use Rattle.wait_book.specs.declared.chains.Chains.TheInside as chains
use Rattle.wait_book.specs.declared.chains.Link.{Link}
use Rattle.wait_book.specs.Contents.{times}
use Rattle.wait_book.specs.Lists.{Lists, list_at, places_below}
use Rattle.wait_book.specs.Chains.{AreChains, lists_of}

-- the chains as a contract sees them: the list of each chain, and the slab's capacity
abbrev pub view_of : chains.Inside → Lists
view_of a = record { room = a.nodes.capacity; lists = lists_of a.nodes a.chains }

-- 1 if place k is marked, else 0
abbrev pub marked : List Bool → ℕ → ℕ
marked s k = if slice_index_or s k false then 1 else 0

-- a place is in the lists exactly if it is marked, and then once
pub record AreMarked (s : List Bool) (at : ℕ → List Link) : Type 0 where
  pub many : length s ≡ MOST_PLACES
  pub once : (k : ℕ) → times k (places_below CHAINS at) ≡ marked s k

-- each link in the chain of a condition records that condition
abbrev pub AreKept : (ℕ → List Link) → Type 0
AreKept at = (c : ℕ) → c < MOST_CONDITIONS → All (λ (x : Link). x.condition ≡ c) (at c)

-- the nodes represent those lists, the marks are those of the places in them, and each key fits a byte
pub record IsGood (a : chains.Inside) : Type 0 where
  pub are : AreChains a.nodes a.chains (list_at (view_of a))
  pub places : AreMarked a.standing (list_at (view_of a))
  pub kept : AreKept (list_at (view_of a))
  pub few : a.nodes.capacity ≤ MOST_KEYS
