-- How nodes in a slab represent lists.
use Rattle.std.specs.Prelude.{ℕ, zero, suc, ◌≡◌, ◌≢◌, ◌≤◌, if◌then◌else◌, List, [], ◌∷◌, map, length, Option, Some}
use Rattle.std.specs.Prelude.{None, is_some, slice_index_or}
use Rattle.slab.specs.Slab.{Slab, get, slab_len}
use Rattle.wait_book.specs.declared.chains.TheConstants.{CHAINS}
use Rattle.wait_book.specs.declared.chains.Node.{Node}
use Rattle.wait_book.specs.declared.chains.Chain.{Chain}
use Rattle.wait_book.specs.declared.chains.Link.{Link}
use Rattle.wait_book.specs.Contents.{times}
use Rattle.wait_book.specs.Lists.{keys, keys_below, last_key}

-- the node of the link x if `next` is the key of the node that follows
abbrev pub node_of : Link → Option ℕ → Node
node_of x next = record { place = x.place; condition = x.condition; priority = x.priority; next = next }

-- from the key `from` on, the nodes are those of a list: each holds the key of the next node, and the last holds `to`
abbrev pub IsLinked : Slab Node → Option ℕ → List Link → Option ℕ → Type 0
IsLinked s from [] to = from ≡ to
IsLinked s from (x ∷ xs) to =
    (from ≡ Some x.key) × (next : Option ℕ) × (get s x.key ≡ Some (node_of x next)) × IsLinked s next xs to

-- the chain represents the list xs: its nodes are linked so from its first key on, the last node holds no key, and the
-- chain has the key of the last node
pub record IsChain (s : Slab Node) (chain : Chain) (xs : List Link) : Type 0 where
  pub linked : IsLinked s chain.first xs None
  pub last : chain.last ≡ last_key xs

-- the chain without a node
abbrev pub empty : Chain
empty = record { first = None; last = None }

-- the c-th chain
abbrev pub chain_at : List Chain → ℕ → Chain
chain_at chains c = slice_index_or chains c empty

-- 1 if there is a node under the key k, else 0
abbrev pub held : Slab Node → ℕ → ℕ
held s k = if is_some (get s k) then 1 else 0

-- the key `next` was put after the key `behind` in a chain that begins with `first`, or before all if `behind` is None.
-- The chain then begins with `first2`, and its nodes up to that of `behind` lead to `next`. No other node changed
pub record IsKeyPut (first behind next first2 : Option ℕ) (old new : Slab Node) : Type 0 where
  pub linked : (before : List Link) (to : Option ℕ) → IsLinked old first before to → behind ≡ last_key before
      → ((k : ℕ) → times k (keys before) ≤ 1)
      → IsLinked new first2 before next
  pub others : (k : ℕ) → behind ≢ Some k → get new k ≡ get old k
  pub held_on : (k : ℕ) → held new k ≡ held old k
  pub as_long : slab_len new ≡ slab_len old
  pub capacity : new.capacity ≡ old.capacity

-- there are all chains, each represents its list, and each node of the slab is in exactly one chain, once
pub record AreChains (s : Slab Node) (chains : List Chain) (at : ℕ → List Link) : Type 0 where
  pub many : length chains ≡ CHAINS
  pub linked : (c : ℕ) → IsChain s (chain_at chains c) (at c)
  pub once : (k : ℕ) → times k (keys_below CHAINS at) ≡ held s k
  pub counted : length (keys_below CHAINS at) ≡ slab_len s

-- the link of the node under the key k, and the links that follow; none if there is no node
abbrev pub found : (Option ℕ → List Link) → ℕ → Option Node → List Link
found behind k None = []
found behind k (Some x) =
    record { key = k; place = x.place; condition = x.condition; priority = x.priority } ∷ behind x.next

-- the links of the nodes from a key on, n at most
unfoldable pub walk : ℕ → Slab Node → Option ℕ → List Link
walk zero s from = []
walk (suc n) s None = []
walk (suc n) s (Some k) = found (walk n s) k (get s k)

-- the links of the nodes from a key on, at most as many as the slab has nodes
abbrev pub walked : Slab Node → Option ℕ → List Link
walked s from = walk (slab_len s) s from

-- the list of each chain
abbrev pub lists_of : Slab Node → List Chain → List (List Link)
lists_of s chains = map (λ (chain : Chain). walked s chain.first) chains

-- from a key on the nodes come to an end, and are at most as many as the slab has
pub record Ends (s : Slab Node) (from : Option ℕ) : Type 0 where
  pub list : List Link
  pub linked : IsLinked s from list None
  pub few : length list ≤ slab_len s
