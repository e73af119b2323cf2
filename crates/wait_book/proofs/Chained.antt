-- What keeps the chains sound: a new node, and a removed node.
use Rattle.std.proofs.Common.{◌≡◌, ◌≢◌, ℕ, zero, suc, ◌+◌, ◌<◌, ◌≤◌, true, false, cond, is_some, inl, inr, List, []}
use Rattle.std.proofs.Common.{◌∷◌, ◌++◌, length, map, get_or, set, replicate, count_by, Option, Some, None, refl, ap}
use Rattle.std.proofs.Common.{sym, ◌∙◌, subst, arith}
use Rattle.std.proofs.lemmas.Bool.{cases_eq, cases_lt}
use Rattle.std.proofs.lemmas.List.{append-nil, get_or-set_same, get_or-set_other, get_or_past, length-append}
use Rattle.std.proofs.lemmas.List.{length-set}
use Rattle.std.proofs.lemmas.List.Sums.{sum_by-set}
use Rattle.std.specs.Prelude.{IfSome}
use Rattle.slab.specs.Slab.{Slab, get, slab_len, with_value, ContainsKey, Updates}
use Rattle.slab.proofs.SlabLemmas.{ContainsKey-within, Updates-set, Updates-with_value}
use Rattle.wait_book.specs.declared.chains.TheConstants.{CALLED, CHAINS}
use Rattle.wait_book.specs.declared.chains.Node.{Node}
use Rattle.wait_book.specs.declared.chains.Chain.{Chain}
use Rattle.wait_book.specs.declared.chains.Link.{Link}
use Rattle.wait_book.specs.Contents.{one, times}
use Rattle.wait_book.specs.Lists.{Lists, all_below, keys, keys_below, last_key, list_at, list_put}
use Rattle.wait_book.specs.Chains.{node_of, IsLinked, IsChain, IsKeyPut, AreChains, Ends, empty, chain_at, held, walked}
use Rattle.wait_book.specs.Chains.{lists_of}
use Rattle.wait_book.proofs.Times.{one_same, one_apart}
use Rattle.wait_book.proofs.Nodes.{Opens, opens, IsLinked-same, IsLinked-append, IsLinked-split, linked_none}
use Rattle.wait_book.proofs.Nodes.{last_within, last_append, walk_linked, walked_none, naming, behind-contains}
use Rattle.wait_book.proofs.Nodes.{linked_nowhere, same_end}
use Rattle.wait_book.proofs.Lists.{eq_apart, keys_middle, keys_append, length_middle, length_put, length_one, put_same}
use Rattle.wait_book.proofs.Lists.{put_other, times_put, times_one, times_two}

-- a node under a key, or none

pub held_few : (s : Slab Node) (k : ℕ) → held s k ≤ 1
held_few s k = elim (is_some (get s k)) as (λ b. cond b 1 0 ≤ 1) [ true ↦ omega arith | false ↦ omega arith ]

held_none : (s : Slab Node) (k : ℕ) → get s k ≡ None → held s k ≡ 0
held_none s k e = rw e refl

held_some : (s : Slab Node) (k : ℕ) (n : Node) → get s k ≡ Some n → held s k ≡ 1
held_some s k n e = rw e refl

held_same : (s t : Slab Node) (k : ℕ) → get t k ≡ get s k → held t k ≡ held s k
held_same s t k e = ap (λ o. cond (is_some o) 1 0) e

-- the list of each number from `CHAINS` on is empty
pub beyond : {s : Slab Node} {chains : List Chain} {at : ℕ → List Link} → AreChains s chains at → (c : ℕ) → CHAINS ≤ c
    → at c ≡ []
beyond {s = s} {chains = chains} {at = at} i c l =
    linked_none s (chain_at chains c).first (at c)
    (ap (λ (v : Chain). v.first) (get_or_past chains c empty (omega (arith, i.many)))) (i.linked c).linked

-- no list is longer than the slab
pub chain_few : {s : Slab Node} {chains : List Chain} {at : ℕ → List Link} → AreChains s chains at → (c : ℕ)
    → length (at c) ≤ slab_len s
chain_few {at = at} i c =
    elim (cases_lt c CHAINS) [
      | inl l ↦ omega (arith, length_one (λ d (x : Link). x.key) CHAINS c at l, i.counted)
      | inr m ↦ omega (arith, ap length (beyond i c m))
    ]

-- so a walk along a chain comes to its end
pub chain_ends : {s : Slab Node} {chains : List Chain} {at : ℕ → List Link} → AreChains s chains at → (c : ℕ)
    → Ends s (chain_at chains c).first
chain_ends {at = at} i c = record { list = at c; linked = (i.linked c).linked; few = chain_few i c }

map_at : (f : Chain → List Link) (chains : List Chain) (c : ℕ) → f empty ≡ []
    → get_or (map f chains) c [] ≡ f (get_or chains c empty)
map_at f [] c e = sym e
map_at f (x ∷ xs) zero e = refl
map_at f (x ∷ xs) (suc c) e = map_at f xs c e

-- the list of a chain is what a walk along it gives
pub lists_walked : (s : Slab Node) (chains : List Chain) (c : ℕ)
    → get_or (lists_of s chains) c [] ≡ walked s (chain_at chains c).first
lists_walked s chains c = map_at (λ (v : Chain). walked s v.first) chains c (walked_none s)

pub lists_are : {s : Slab Node} {chains : List Chain} {at : ℕ → List Link} → AreChains s chains at → (c : ℕ)
    → get_or (lists_of s chains) c [] ≡ at c
lists_are {s = s} {chains = chains} {at = at} i c =
    lists_walked s chains c
    ∙ walk_linked (slab_len s) s (chain_at chains c).first (at c) (i.linked c).linked (chain_few i c)

-- the lists that a contract sees are those of the chains
pub AreChains-seen : {s : Slab Node} {chains : List Chain} {at : ℕ → List Link} → AreChains s chains at
    → AreChains s chains (λ c. get_or (lists_of s chains) c [])
AreChains-seen {s = s} {chains = chains} {at = at} i =
    let same : at ≡ (λ c. get_or (lists_of s chains) c []) = λ j c. sym (lists_are i c) j in
    subst (AreChains s chains) same i

-- the same for an equal value
pub AreChains-equal : {s : Slab Node} {chains : List Chain} {v w : Lists} → v ≡ w → AreChains s chains (list_at v)
    → AreChains s chains (list_at w)
AreChains-equal {s = s} {chains = chains} e i = subst (λ (u : Lists). AreChains s chains (list_at u)) e i

-- chains without a node
no_chain : (n c : ℕ) → get_or (replicate n empty) c empty ≡ empty
no_chain zero c = refl
no_chain (suc n) zero = refl
no_chain (suc n) (suc c) = no_chain n c

no_keys : (n : ℕ) → keys_below n (λ c. []) ≡ []
unfolding all_below
no_keys zero = refl
no_keys (suc n) = append-nil _ ∙ no_keys n

pub AreChains-none : (s : Slab Node) → s.slots ≡ [] → AreChains s (replicate CHAINS empty) (λ c. [])
AreChains-none s e = record {
  many = refl;
  linked = λ c. subst (λ (v : Chain). IsChain s v []) (sym (no_chain CHAINS c)) (record { linked = refl; last = refl });
  once = λ k. ap (times k) (no_keys CHAINS)
      ∙ sym (held_none s k (ap (λ (slots : List (Option Node)). get_or slots k None) e));
  counted = ap length (no_keys CHAINS) ∙ sym (ap (count_by is_some) e);
}

-- in which chains keys are

-- a key is in two chains at most as often as in all
pub apart : {s : Slab Node} {chains : List Chain} {at : ℕ → List Link} → AreChains s chains at → (k c d : ℕ)
    → c < CHAINS → d ≢ c
    → times k (keys (at c)) + times k (keys (at d)) ≤ held s k
apart {s = s} {at = at} i k c d l n =
    elim (cases_lt d CHAINS) [
      | inl m ↦ omega (arith, times_two (λ e (x : Link). x.key) k CHAINS c d at l m n, i.once k)
      | inr m ↦ omega (
        arith,
        times_one (λ e (x : Link). x.key) k CHAINS c at l,
        i.once k,
        ap (λ v. times k (keys v)) (beyond i d m),
      )
    ]

-- a key is in a chain once at most
pub once_in : {s : Slab Node} {chains : List Chain} {at : ℕ → List Link} → AreChains s chains at → (k c : ℕ)
    → c < CHAINS → times k (keys (at c)) ≤ held s k
once_in {at = at} i k c l = omega (arith, times_one (λ e (x : Link). x.key) k CHAINS c at l, i.once k)

-- one chain changes

-- the chain that was set, and the others
chain_same : (chains : List Chain) (c : ℕ) (v : Chain) → length chains ≡ CHAINS → c < CHAINS
    → chain_at (set chains c v) c ≡ v
chain_same chains c v m l = get_or-set_same chains c v empty (omega arith)

chains_put : (s : Slab Node) (chains : List Chain) (at : ℕ → List Link) (c : ℕ) (v : Chain) (xs : List Link)
    → length chains ≡ CHAINS → c < CHAINS → IsChain s v xs
    → ((d : ℕ) → d ≢ c → IsChain s (chain_at chains d) (at d)) → (d : ℕ)
    → IsChain s (chain_at (set chains c v) d) (list_put c xs at d)
chains_put s chains at c v xs m l here there d =
    elim (cases_eq d c) [
      | inl e ↦
          let h : IsChain s (chain_at (set chains c v) c) (list_put c xs at c) =
          rw (chain_same chains c v m l, put_same c xs at) here in
          subst (λ (j : ℕ). IsChain s (chain_at (set chains c v) j) (list_put c xs at j)) (sym e) h
      | inr n ↦ rw (get_or-set_other chains c d v empty n, put_other c d xs at n) (there d n)
    ]

-- a chain whose nodes are as they were represents the list that it represented
chain_kept : (s t : Slab Node) (v : Chain) (xs : List Link) → ((k : ℕ) → 0 < times k (keys xs) → get t k ≡ get s k)
    → IsChain s v xs → IsChain t v xs
chain_kept s t v xs h i = record { linked = IsLinked-same s t v.first xs None h i.linked; last = i.last }

-- a new node

-- the first nodes of a chain, and the key that follows them
pub record Cut (s : Slab Node) (first : Option ℕ) (before after : List Link) : Type 0 where
  pub next : Option ℕ
  pub front : IsLinked s first before next
  pub back : IsLinked s next after None

pub cut : {s : Slab Node} {chains : List Chain} {at : ℕ → List Link} (c : ℕ) (before after : List Link)
    → AreChains s chains at → at c ≡ before ++ after
    → Cut s (chain_at chains c).first before after
cut {s = s} {chains = chains} c before after i is =
    let first = (chain_at chains c).first in
    let r =
    IsLinked-split s first before after None
    (subst (λ (xs : List Link). IsLinked s first xs None) is (i.linked c).linked) in
    record { next = r.0; front = r.1; back = r.2 }

-- they are as they were after a node is stored under a vacant key
pub cut-stored : {s mid : Slab Node} {chains : List Chain} {at : ℕ → List Link} {n : Node} (c k : ℕ)
    (before after : List Link) (next : Option ℕ)
    → AreChains s chains at → c < CHAINS
    → at c ≡ before ++ after → get s k ≡ None → Updates s mid k (Some n)
    → IsLinked s (chain_at chains c).first before next → IsLinked mid (chain_at chains c).first before next
cut-stored {s = s} {mid = mid} {chains = chains} c k before after next i l is vacant u front =
    IsLinked-same s mid (chain_at chains c).first before next
    (λ j p. u.others j (λ q. omega (
      arith,
      once_in i j c l,
      ap (λ v. times j (keys v)) is,
      keys_append j before after,
      ap (held s) q,
      held_none s k vacant,
    ))) front

-- what linking a new node does, in two steps: the node is stored with the key that follows it, and its own key is put
-- after `behind`
pub record Linking (s mid t : Slab Node) (first behind next first2 : Option ℕ) (x : Link) : Type 0 where
  pub vacant : get s x.key ≡ None
  pub stored : Updates s mid x.key (Some (node_of x next))
  pub longer : slab_len mid ≡ slab_len s + 1
  pub put : IsKeyPut first behind (Some x.key) first2 mid t

module _ {s mid t : Slab Node} {first behind next first2 : Option ℕ} {x : Link}
    (g : Linking s mid t first behind next first2 x) where
  -- there is one more node
  linking_held : (k : ℕ) → held t k ≡ held s k + one k x.key
  linking_held k =
      elim (cases_eq k x.key) [
        | inl e ↦
            let h : held t x.key ≡ held s x.key + one x.key x.key =
            omega (
              arith,
              g.put.held_on x.key,
              held_some mid x.key _ g.stored.changed,
              held_none s x.key g.vacant,
              one_same x.key,
            ) in
            subst (λ (j : ℕ). held t j ≡ held s j + one j x.key) (sym e) h
        | inr n ↦ omega (
          arith,
          g.put.held_on k,
          held_same s mid k (g.stored.others k n),
          one_apart k x.key (eq_apart k x.key n),
        )
      ]

  -- nodes other than the new one and that of `behind` are as they were
  linking_same : (k : ℕ) → 0 < held s k → behind ≢ Some k → get t k ≡ get s k
  linking_same k h n =
      let off : k ≢ x.key = λ e. omega (arith, ap (held s) e, held_none s x.key g.vacant) in
      g.put.others k n ∙ g.stored.others k off

  -- the list with the new link in its place
  linking_list : (before after : List Link) → behind ≡ last_key before
      → ((k : ℕ) → times k (keys (before ++ after)) ≤ held s k)
      → IsLinked s first before next → IsLinked s next after None → IsLinked t first2 (before ++ x ∷ after) None
  linking_list before after e once l m =
      let stays : (k : ℕ) → 0 < times k (keys (before ++ after)) → k ≢ x.key =
      λ k p q. omega (arith, once k, ap (held s) q, held_none s x.key g.vacant) in
      let front : IsLinked mid first before next =
      IsLinked-same s mid first before next
      (λ k p. g.stored.others k (stays k (omega (arith, keys_append k before after)))) l in
      let linked : IsLinked t first2 before (Some x.key) =
      g.put.linked before next front e (λ k. omega (arith, once k, held_few s k, keys_append k before after)) in
      let back : IsLinked t next after None = IsLinked-same s t next after None
      (λ k p. linking_same k (omega (arith, once k, keys_append k before after))
      (λ b. omega (arith, once k, held_few s k, keys_append k before after, last_within k before (sym e ∙ b)))) m in
      let own : get t x.key ≡ Some (node_of x next) =
      g.put.others x.key
      (λ b. omega (
        arith,
        once x.key,
        held_none s x.key g.vacant,
        keys_append x.key before after,
        last_within x.key before (sym e ∙ b),
      ))
      ∙ g.stored.changed in
      IsLinked-append t first2 before (Some x.key) (x ∷ after) None linked (refl, next, own, back)

-- the last key of the new list
pub last_put : (s : Slab Node) (last next : Option ℕ) (before : List Link) (x : Link) (after : List Link)
    → last ≡ last_key (before ++ after) → IsLinked s next after None
    → cond (is_some next) last (Some x.key) ≡ last_key (before ++ x ∷ after)
last_put s last next before x [] e l = let n : next ≡ None = l in rw n (sym (last_append None before x []))
last_put s last next before x (y ∷ ys) e l =
    let n : next ≡ Some y.key = l.0 in
    rw n (e ∙ last_append None before y ys ∙ sym (last_append None before x (y ∷ ys)))

-- the chains with a new node, for each way to cut the list
pub AreChains-linked : {s mid t : Slab Node} {chains : List Chain} {at : ℕ → List Link}
    {behind next first2 last2 : Option ℕ} {x : Link} (c : ℕ) (before after : List Link)
    → AreChains s chains at → c < CHAINS → Linking s mid t (chain_at chains c).first behind next first2 x
    → last2 ≡ cond (is_some next) (chain_at chains c).last (Some x.key)
    → ((front : List Link) (to : Option ℕ) → IsLinked s (chain_at chains c).first front to → behind ≡ last_key front
    → next ≡ to)
    → at c ≡ before ++ after → behind ≡ last_key before
    → AreChains t (set chains c (record { first = first2; last = last2 })) (list_put c (before ++ x ∷ after) at)
AreChains-linked {s = s} {t = t} {chains = chains} {at = at} {behind = behind} {next = next} {first2 = first2}
    {last2 = last2} {x = x} c before after i l g n named is e =
    let first = (chain_at chains c).first in
    let there : Cut s first before after = cut c before after i is in
    let same : there.next ≡ next = sym (named before there.next there.front e) in
    let front : IsLinked s first before next = subst (λ (k : Option ℕ). IsLinked s first before k) same there.front in
    let back : IsLinked s next after None = subst (λ (k : Option ℕ). IsLinked s k after None) same there.back in
    let once : (k : ℕ) → times k (keys (before ++ after)) ≤ held s k =
    λ k. omega (arith, once_in i k c l, ap (λ v. times k (keys v)) is) in
    let new : Chain = record { first = first2; last = last2 } in
    let here : IsChain t new (before ++ x ∷ after) = record {
      linked = linking_list g before after e once front back;
      last = n ∙ last_put s (chain_at chains c).last next before x after ((i.linked c).last ∙ ap last_key is) back;
    } in
    let others : (d : ℕ) → d ≢ c → IsChain t (chain_at chains d) (at d) =
    λ d off. chain_kept s t (chain_at chains d) (at d) (λ k p.
    linking_same g k (omega (arith, apart i k c d l off))
    (λ b. omega (
      arith,
      apart i k c d l off,
      held_few s k,
      ap (λ v. times k (keys v)) is,
      keys_append k before after,
      last_within k before (sym e ∙ b),
    ))) (i.linked d) in
    record {
      many = length-set chains c new ∙ i.many;
      linked = chains_put t chains at c new (before ++ x ∷ after) i.many l here others;
      once = λ k. omega (
        arith,
        times_put (λ d (y : Link). y.key) k CHAINS c (before ++ x ∷ after) at l,
        keys_middle k before x after,
        ap (λ v. times k (keys v)) is,
        i.once k,
        linking_held g k,
      );
      counted = omega (
        arith,
        length_put (λ d (y : Link). y.key) CHAINS c (before ++ x ∷ after) at l,
        length_middle before x after,
        ap length is,
        i.counted,
        g.longer,
        g.put.as_long,
      );
    }

-- a node is removed

-- there is a node under the key of each link
pub node_contains : {s : Slab Node} {chains : List Chain} {at : ℕ → List Link} (c k : ℕ) (before : List Link) (x : Link)
    (after : List Link) → AreChains s chains at → at c ≡ before ++ x ∷ after → x.key ≡ k → ContainsKey s k
node_contains {s = s} c k before x after i is q =
    subst (λ (j : ℕ). ContainsKey s j) q (rw (cut c before (x ∷ after) i is).back.2 refl)

-- the node n of the link x was removed: the slab t is s without it
pub record Removes (s t : Slab Node) (x : Link) (n : Node) : Type 0 where
  pub was : get s x.key ≡ Some n
  pub node : node_of x n.next ≡ n
  pub place : x.place ≡ n.place
  pub updates : Updates s t x.key None

-- it follows from the removal under a key that is the link's
pub removes : {s t : Slab Node} {chains : List Chain} {at : ℕ → List Link} (c k : ℕ) (before : List Link) (x : Link)
    (after : List Link) (n : Node)
    → AreChains s chains at → at c ≡ before ++ x ∷ after → x.key ≡ k → get s k ≡ Some n → Updates s t k None
    → Removes s t x n
removes {s = s} {t = t} {chains = chains} c k before x after n i is q g u =
    let there : Cut s (chain_at chains c).first before (x ∷ after) = cut c before (x ∷ after) i is in
    let was : get s x.key ≡ Some n = ap (get s) q ∙ g in
    let same : Some (node_of x there.back.1) ≡ Some n = sym there.back.2 ∙ was in
    let named : node_of x there.back.1 ≡ n = cc in
    record {
      was = was;
      node = ap (λ (m : Node). node_of x m.next) (sym named) ∙ named;
      place = ap (λ (m : Node). m.place) named;
      updates = subst (λ (j : ℕ). Updates s t j None) (sym q) u;
    }

-- the nodes before that of the link are as they were after it is removed
pub cut-removed : {s mid : Slab Node} {chains : List Chain} {at : ℕ → List Link} (c : ℕ) (before : List Link) (x : Link)
    (after : List Link) (next : Option ℕ)
    → AreChains s chains at → c < CHAINS → at c ≡ before ++ x ∷ after → Updates s mid x.key None
    → IsLinked s (chain_at chains c).first before next → IsLinked mid (chain_at chains c).first before next
cut-removed {s = s} {mid = mid} {chains = chains} c before x after next i l is u front =
    IsLinked-same s mid (chain_at chains c).first before next
    (λ k p. u.others k (λ q. omega (
      arith,
      once_in i k c l,
      held_few s k,
      ap (λ v. times k (keys v)) is,
      keys_append k before (x ∷ after),
      subst (λ (j : ℕ). one j x.key ≡ 1) (sym q) (one_same x.key),
    ))) front

-- what removing a node does, in two steps: the node is removed, and the key that follows it is put after `behind`
pub record Unlinking (s mid t : Slab Node) (first behind first2 : Option ℕ) (x : Link) (n : Node) : Type 0 where
  pub removed : Removes s mid x n
  pub shorter : slab_len mid + 1 ≡ slab_len s
  pub put : IsKeyPut first behind n.next first2 mid t

module _ {s mid t : Slab Node} {first behind first2 : Option ℕ} {x : Link} {n : Node}
    (g : Unlinking s mid t first behind first2 x n) where
  -- there is one node less
  unlinking_held : (k : ℕ) → held t k + one k x.key ≡ held s k
  unlinking_held k =
      elim (cases_eq k x.key) [
        | inl e ↦
            let h : held t x.key + one x.key x.key ≡ held s x.key =
            omega (
              arith,
              g.put.held_on x.key,
              held_none mid x.key g.removed.updates.changed,
              held_some s x.key n g.removed.was,
              one_same x.key,
            ) in
            subst (λ (j : ℕ). held t j + one j x.key ≡ held s j) (sym e) h
        | inr off ↦ omega (
          arith,
          g.put.held_on k,
          held_same s mid k (g.removed.updates.others k off),
          one_apart k x.key (eq_apart k x.key off),
        )
      ]

  -- the list without the removed link
  unlinking_list : (before after : List Link) (mark : Option ℕ) → behind ≡ last_key before
      → ((k : ℕ) → times k (keys (before ++ after)) + one k x.key ≤ held s k)
      → IsLinked mid first before mark → IsLinked s n.next after None → IsLinked t first2 (before ++ after) None
  unlinking_list before after mark e once l m =
      let linked : IsLinked t first2 before n.next =
      g.put.linked before mark l e (λ k. omega (arith, once k, held_few s k, keys_append k before after)) in
      let back : IsLinked t n.next after None = IsLinked-same s t n.next after None
      (λ k p. let few : times k (keys before) + one k x.key ≡ 0 =
      omega (arith, once k, held_few s k, keys_append k before after) in
      g.put.others k (λ b. omega (arith, few, last_within k before (sym e ∙ b)))
      ∙ g.removed.updates.others k
      (λ q. omega (arith, few, subst (λ (j : ℕ). one j x.key ≡ 1) (sym q) (one_same x.key)))) m in
      IsLinked-append t first2 before n.next after None linked back

-- the last key of the list without the link x
last_unlinked : (s : Slab Node) (last next behind : Option ℕ) (before : List Link) (x : Link) (after : List Link)
    → last ≡ last_key (before ++ x ∷ after) → behind ≡ last_key before → IsLinked s next after None
    → cond (is_some next) last behind ≡ last_key (before ++ after)
last_unlinked s last next behind before x [] e b l =
    let n : next ≡ None = l in rw n (b ∙ sym (ap last_key (append-nil before)))
last_unlinked s last next behind before x (y ∷ ys) e b l =
    let n : next ≡ Some y.key = l.0 in
    rw n (e ∙ last_append None before x (y ∷ ys) ∙ sym (last_append None before y ys))

-- the chains without a node, for each way to cut the list
pub AreChains-unlinked : {s mid t : Slab Node} {chains : List Chain} {at : ℕ → List Link}
    {behind first2 last2 : Option ℕ} {x : Link} {n : Node} (c : ℕ) (before after : List Link)
    → AreChains s chains at → c < CHAINS → Unlinking s mid t (chain_at chains c).first behind first2 x n
    → last2 ≡ cond (is_some n.next) (chain_at chains c).last behind
    → at c ≡ before ++ x ∷ after → behind ≡ last_key before
    → AreChains t (set chains c (record { first = first2; last = last2 })) (list_put c (before ++ after) at)
AreChains-unlinked {s = s} {t = t} {chains = chains} {at = at} {behind = behind} {first2 = first2}
    {last2 = last2} {x = x} {n = n} c before after i l g f is e =
    let there : Cut s (chain_at chains c).first before (x ∷ after) = cut c before (x ∷ after) i is in
    let same : Some (node_of x there.back.1) ≡ Some n = sym there.back.2 ∙ g.removed.was in
    let node : node_of x there.back.1 ≡ n = cc in
    let back : IsLinked s n.next after None =
    subst (λ (m : Node). IsLinked s m.next after None) node there.back.3 in
    let once : (k : ℕ) → times k (keys (before ++ after)) + one k x.key ≤ held s k =
    λ k. omega (arith, once_in i k c l, ap (λ v. times k (keys v)) is, keys_middle k before x after) in
    let new : Chain = record { first = first2; last = last2 } in
    let here : IsChain t new (before ++ after) = record {
      linked = unlinking_list g before after there.next e once
          (cut-removed c before x after there.next i l is g.removed.updates there.front) back;
      last = f ∙ last_unlinked s (chain_at chains c).last n.next behind before x after
          ((i.linked c).last ∙ ap last_key is) e back;
    } in
    let others : (d : ℕ) → d ≢ c → IsChain t (chain_at chains d) (at d) =
    λ d off. chain_kept s t (chain_at chains d) (at d) (λ k p.
    let alone : times k (keys (before ++ after)) + one k x.key ≡ 0 =
    omega (
      arith,
      apart i k c d l off,
      held_few s k,
      ap (λ v. times k (keys v)) is,
      keys_middle k before x after,
    ) in
    g.put.others k (λ b. omega (arith, alone, keys_append k before after, last_within k before (sym e ∙ b)))
    ∙ g.removed.updates.others k
    (λ q. omega (arith, alone, subst (λ (j : ℕ). one j x.key ≡ 1) (sym q) (one_same x.key)))) (i.linked d) in
    record {
      many = length-set chains c new ∙ i.many;
      linked = chains_put t chains at c new (before ++ after) i.many l here others;
      once = λ k. omega (
        arith,
        times_put (λ d (y : Link). y.key) k CHAINS c (before ++ after) at l,
        keys_middle k before x after,
        ap (λ v. times k (keys v)) is,
        i.once k,
        unlinking_held g k,
      );
      counted = omega (
        arith,
        length_put (λ d (y : Link). y.key) CHAINS c (before ++ after) at l,
        length_middle before x after,
        ap length is,
        i.counted,
        g.shorter,
        g.put.as_long,
      );
    }

-- the first node is removed

-- the list xs begins with the link of the node n under the key k; the slab t is s without that node
pub record Takes (s t : Slab Node) (k : ℕ) (xs : List Link) (n : Node) : Type 0 where
  pub first : Link
  pub after : List Link
  pub is : xs ≡ first ∷ after
  pub key : first.key ≡ k
  pub removed : Removes s t first n

pub takes : {s t : Slab Node} {chains : List Chain} {at : ℕ → List Link} (c k : ℕ) (n : Node) → AreChains s chains at
    → (chain_at chains c).first ≡ Some k → get s k ≡ Some n
    → Updates s t k None → Takes s t k (at c) n
takes {s = s} {t = t} {chains = chains} {at = at} c k n i e g u =
    let o : Opens s k (at c) = opens s (chain_at chains c).first k (at c) e (i.linked c).linked in
    record {
      first = o.first;
      after = o.after;
      is = o.is;
      key = o.key;
      removed = removes c k [] o.first o.after n i o.is o.key g u;
    }

-- a key that is put before all changes no node
put_before : (s : Slab Node) (first next : Option ℕ) → IsKeyPut first None next next s s
put_before s first next = record {
  linked = λ before to linked last once. linked_nowhere s next before (sym last);
  others = λ k off. refl;
  held_on = λ k. refl;
  as_long = refl;
  capacity = refl;
}

-- the chains without that node
pub AreChains-taken : {s t : Slab Node} {chains : List Chain} {at : ℕ → List Link} {new : Chain} (c k : ℕ) (n : Node)
    → new.first ≡ n.next → new.last ≡ cond (is_some n.next) (chain_at chains c).last None
    → AreChains s chains at → c < CHAINS → (g : Takes s t k (at c) n) → slab_len t + 1 ≡ slab_len s
    → AreChains t (set chains c new) (list_put c g.after at)
AreChains-taken {t = t} {chains = chains} {new = new} c k n f e i l g len =
    AreChains-unlinked c [] g.after i l
    (record {
      removed = g.removed;
      shorter = len;
      put = subst (λ (v : Option ℕ). IsKeyPut (chain_at chains c).first None n.next v t t) (sym f)
          (put_before t (chain_at chains c).first n.next);
    }) e g.is refl

-- all of a chain are moved to the end of another

-- the first key of that chain is put after the last key of the called
pub AreChains-joined : {s t : Slab Node} {chains : List Chain} {at : ℕ → List Link} {first2 : Option ℕ} (c key : ℕ)
    → AreChains s chains at → c < CALLED → (chain_at chains c).first ≡ Some key
    → IsKeyPut (chain_at chains CALLED).first (chain_at chains CALLED).last (Some key) first2 s t
    → AreChains t (set (set chains CALLED (record { first = first2; last = (chain_at chains c).last })) c empty)
    (list_put c [] (list_put CALLED (at CALLED ++ at c) at))
AreChains-joined {s = s} {t = t} {chains = chains} {at = at} {first2 = first2} c key i l starts g =
    let xs : List Link = at CALLED in
    let ys : List Link = at c in
    let o : Opens s key ys = opens s (chain_at chains c).first key ys starts (i.linked c).linked in
    let stays : (d : ℕ) → d ≢ CALLED → IsChain t (chain_at chains d) (at d) = λ d off.
    chain_kept s t (chain_at chains d) (at d)
    (λ k p. g.others k (λ b. omega (
      arith,
      apart i k CALLED d (omega arith) off,
      held_few s k,
      last_within k xs (sym (i.linked CALLED).last ∙ b),
    )))
    (i.linked d) in
    let front : IsLinked t first2 xs (Some key) =
    g.linked xs None (i.linked CALLED).linked (i.linked CALLED).last
    (λ k. omega (arith, once_in i k CALLED (omega arith), held_few s k)) in
    let back : IsLinked t (Some key) ys None =
    subst (λ (k : Option ℕ). IsLinked t k ys None) starts (stays c (omega arith)).linked in
    let new : Chain = record { first = first2; last = (chain_at chains c).last } in
    let here : IsChain t new (xs ++ ys) = record {
      linked = IsLinked-append t first2 xs (Some key) ys None front back;
      last = (i.linked c).last ∙ ap last_key o.is ∙ sym (last_append None xs o.first o.after)
          ∙ ap (λ zs. last_key (xs ++ zs)) (sym o.is);
    } in
    let joined : (d : ℕ) → IsChain t (chain_at (set chains CALLED new) d) (list_put CALLED (xs ++ ys) at d) =
    chains_put t chains at CALLED new (xs ++ ys) i.many (omega arith) here stays in
    let many : length (set chains CALLED new) ≡ CHAINS = length-set chains CALLED new ∙ i.many in
    let off : list_put CALLED (xs ++ ys) at c ≡ ys = put_other CALLED c (xs ++ ys) at (omega arith) in
    record {
      many = length-set (set chains CALLED new) c empty ∙ many;
      linked = chains_put t (set chains CALLED new) (list_put CALLED (xs ++ ys) at) c empty [] many (omega arith)
          (record { linked = refl; last = refl }) (λ d n. joined d);
      once = λ k. omega (
        arith,
        times_put (λ d (y : Link). y.key) k CHAINS c [] (list_put CALLED (xs ++ ys) at) (omega arith),
        times_put (λ d (y : Link). y.key) k CHAINS CALLED (xs ++ ys) at (omega arith),
        keys_append k xs ys,
        ap (λ v. times k (keys v)) off,
        i.once k,
        g.held_on k,
      );
      counted = omega (
        arith,
        length_put (λ d (y : Link). y.key) CHAINS c [] (list_put CALLED (xs ++ ys) at) (omega arith),
        length_put (λ d (y : Link). y.key) CHAINS CALLED (xs ++ ys) at (omega arith),
        length-append xs ys,
        ap length off,
        i.counted,
        g.as_long,
      );
    }

-- The first of a chain is moved to the end of another, in the node that it had. This is proved as a removal of the
-- node, after which a node with the same key is linked.

-- the slab without the node under a key
abbrev pub without : Slab Node → ℕ → Slab Node
without s k = record s { slots = set s.slots k None }

without-updates : (s : Slab Node) (k : ℕ) (n : Node) → get s k ≡ Some n → Updates s (without s k) k None
without-updates s k n g = Updates-set s (without s k) k None (ContainsKey-within s k (rw g refl)) refl

without-fewer : (s : Slab Node) (k : ℕ) (n : Node) → get s k ≡ Some n → slab_len (without s k) + 1 ≡ slab_len s
without-fewer s k n g = omega (
  arith,
  sum_by-set (λ (o : Option Node). cond (is_some o) 1 0) s.slots k None None (ContainsKey-within s k (rw g refl)),
  held_some s k n g,
)

-- a write of a node that is there leaves the number of nodes as it was
with_value-len : (s : Slab Node) (k : ℕ) (n m : Node) → get s k ≡ Some n → slab_len (with_value s k m) ≡ slab_len s
with_value-len s k n m g = omega (
  arith,
  sum_by-set (λ (o : Option Node). cond (is_some o) 1 0) s.slots k (Some m) None (ContainsKey-within s k (rw g refl)),
  held_some s k n g,
)

-- the node under the key was the first of the chain; then the next node is, and the key that the first node holds is
-- `gone`, which is no key
pub record Leaving (s : Slab Node) (chain new : Chain) (key : ℕ) (n : Node) (next gone : Option ℕ) : Type 0 where
  pub was : get s key ≡ Some n
  pub starts : chain.first ≡ Some key
  pub names : next ≡ n.next
  pub ends : gone ≡ None
  pub first : new.first ≡ next
  pub last : new.last ≡ cond (is_some next) chain.last None

-- the first of chain c is at the end of the called
pub record Calls (t : Slab Node) (chains : List Chain) (c : ℕ) (at : ℕ → List Link) : Type 0 where
  pub first : Link
  pub after : List Link
  pub was : at c ≡ first ∷ after
  pub are : AreChains t chains (list_put CALLED (at CALLED ++ first ∷ []) (list_put c after at))

module _ {s : Slab Node} {chains : List Chain} {at : ℕ → List Link} {new : Chain} {next gone : Option ℕ} (c key : ℕ)
    (n : Node) (i : AreChains s chains at) (l : c < CALLED)
    (g : Leaving s (chain_at chains c) new key n next gone) where
  abbrev mid : Slab Node
  mid = with_value s key (naming gone n)

  leaves : Takes s (without s key) key (at c) n
  leaves = takes c key n i g.starts g.was (without-updates s key n g.was)

  left : AreChains (without s key) (set chains c new) (list_put c leaves.after at)
  left = AreChains-taken c key n (g.first ∙ g.names)
      (g.last ∙ ap (λ (v : Option ℕ). cond (is_some v) (chain_at chains c).last None) g.names) i (omega arith) leaves
      (without-fewer s key n g.was)

  called : list_put c leaves.after at CALLED ≡ at CALLED
  called = put_other c CALLED leaves.after at (omega arith)

  behind : (chain_at (set chains c new) CALLED).last ≡ last_key (at CALLED)
  behind = (left.linked CALLED).last ∙ ap last_key called

  before : IsLinked (without s key) (chain_at (set chains c new) CALLED).first (at CALLED) None
  before = subst (λ (xs : List Link). IsLinked (without s key) (chain_at (set chains c new) CALLED).first xs None)
      called (left.linked CALLED).linked

  vacant : get (without s key) leaves.first.key ≡ None
  vacant = leaves.removed.updates.changed

  -- as if the node were stored anew
  stored : Updates (without s key) mid leaves.first.key (Some (node_of leaves.first None))
  stored =
      let u : Updates s mid key (Some (naming gone n)) = Updates-with_value s key (naming gone n) (rw g.was refl) in
      subst (λ (j : ℕ). Updates (without s key) mid j (Some (node_of leaves.first None))) (sym leaves.key) (record {
        changed = u.changed ∙ ap (λ (to : Option ℕ). Some (naming to n)) g.ends
            ∙ ap (λ (m : Node). Some (naming None m)) (sym leaves.removed.node);
        others = λ k off. u.others k off ∙ sym ((without-updates s key n g.was).others k off);
      })

  -- there is a node under the key after which it is put
  pub behind_called : IfSome (chain_at (set chains c new) CALLED).last (ContainsKey mid)
  behind_called =
      behind-contains mid _ (at CALLED) None _ behind
      (cut-stored CALLED leaves.first.key (at CALLED) [] None left (omega arith)
      (called ∙ sym (append-nil (at CALLED))) vacant stored before)

  -- the chains after its key is put after the last of the called
  pub calls : {t : Slab Node} {first2 : Option ℕ}
      → (let chain : Chain = chain_at (set chains c new) CALLED in
      IsKeyPut chain.first chain.last (Some key) first2 mid t)
      → Calls t (set (set chains c new) CALLED (record { first = first2; last = Some key })) c at
  calls {t = t} {first2 = first2} j =
      let first = (chain_at (set chains c new) CALLED).first in
      let last = (chain_at (set chains c new) CALLED).last in
      let linking : Linking (without s key) mid t first last None first2 leaves.first = record {
        vacant = vacant;
        stored = stored;
        longer = omega (arith, with_value-len s key n (naming gone n) g.was, without-fewer s key n g.was);
        put = subst (λ (k : ℕ). IsKeyPut first last (Some k) first2 mid t) (sym leaves.key) j;
      } in
      record {
        first = leaves.first;
        after = leaves.after;
        was = leaves.is;
        are = AreChains-linked CALLED (at CALLED) [] left (omega arith) linking
            (ap (λ (k : ℕ). Some k) (sym leaves.key))
            (λ front to linked e. same_end (without s key) first (at CALLED) front None to before linked
            (sym behind ∙ e)) (called ∙ sym (append-nil (at CALLED))) behind;
      }
