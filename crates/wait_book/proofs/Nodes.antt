-- Nodes linked as a list: what a change of one node does to them, and where a walk along them ends.
use Rattle.std.proofs.Common.{◌≡◌, ◌≢◌, ℕ, zero, suc, ◌+◌, ◌<◌, ◌≤◌, Bool, true, false, cond, leb, List, [], ◌∷◌, ◌++◌}
use Rattle.std.proofs.Common.{length, Option, Some, None, refl, ap, sym, ◌∙◌, subst, arith}
use Rattle.std.proofs.lemmas.Bool.Decides.{nat_tests}
use Rattle.std.specs.List.Sorted.{IsNonDecreasing}
use Rattle.std.specs.Prelude.{IfSome}
use Rattle.slab.specs.Slab.{Slab, get, slab_len, with_value, ContainsKey, Updates}
use Rattle.slab.proofs.SlabLemmas.{Updates-with_value}
use Rattle.wait_book.specs.declared.chains.Node.{Node}
use Rattle.wait_book.specs.declared.chains.Link.{Link}
use Rattle.wait_book.specs.Contents.{one, times}
use Rattle.wait_book.specs.Lists.{keys, last_from, last_key, lower, higher, priorities}
use Rattle.wait_book.specs.Chains.{node_of, IsLinked, found, walk, walked, Ends}
use Rattle.wait_book.proofs.Times.{one_same}

-- the last of a list

-- a list with a link has a last key
last_some : (j : ℕ) (xs : List Link) → last_from (Some j) xs ≡ None → ⊥
last_some j [] h = absurd (cc)
last_some j (x ∷ xs) h = last_some x.key xs h

-- only the empty list has no last key
pub last_none : (xs : List Link) → last_key xs ≡ None → xs ≡ []
last_none [] h = refl
last_none (x ∷ xs) h = absurd (last_some x.key xs h)

last_in : (j b : ℕ) (xs : List Link) → last_from (Some j) xs ≡ Some b → 0 < one b j + times b (keys xs)
last_in j b [] h = let e : j ≡ b = cc in subst (λ (i : ℕ). 0 < one b i + 0) (sym e) (omega (arith, one_same b))
last_in j b (x ∷ xs) h = omega (arith, last_in x.key b xs h)

-- the last key is one of the keys
pub last_within : (b : ℕ) (xs : List Link) → last_key xs ≡ Some b → 0 < times b (keys xs)
last_within b [] h = absurd (cc)
last_within b (x ∷ xs) h = last_in x.key b xs h

-- the last key of a list is the last key of its part from the link x on
pub last_append : (k : Option ℕ) (xs : List Link) (x : Link) (ys : List Link)
    → last_from k (xs ++ x ∷ ys) ≡ last_from (Some x.key) ys
last_append k [] x ys = refl
last_append k (y ∷ xs) x ys = last_append (Some y.key) xs x ys

-- linked nodes

-- nodes that are as they were are linked as they were
pub IsLinked-same : (s t : Slab Node) (from : Option ℕ) (xs : List Link) (to : Option ℕ)
    → ((k : ℕ) → 0 < times k (keys xs) → get t k ≡ get s k)
    → IsLinked s from xs to → IsLinked t from xs to
IsLinked-same s t from [] to h l = l
IsLinked-same s t from (x ∷ xs) to h l = (
  l.0,
  l.1,
  h x.key (omega (arith, one_same x.key)) ∙ l.2,
  IsLinked-same s t l.1 xs to (λ k p. h k (omega arith)) l.3,
)

-- two lists, of which the second follows the first, are linked as their joined list
pub IsLinked-append : (s : Slab Node) (from : Option ℕ) (xs : List Link) (mid : Option ℕ) (ys : List Link)
    (to : Option ℕ)
    → IsLinked s from xs mid → IsLinked s mid ys to → IsLinked s from (xs ++ ys) to
IsLinked-append s from [] mid ys to l m = subst (λ (k : Option ℕ). IsLinked s k ys to) (sym l) m
IsLinked-append s from (x ∷ xs) mid ys to l m = (l.0, l.1, l.2, IsLinked-append s l.1 xs mid ys to l.3 m)

-- a linked list cut in two is two linked lists
pub IsLinked-split : (s : Slab Node) (from : Option ℕ) (xs ys : List Link) (to : Option ℕ)
    → IsLinked s from (xs ++ ys) to
    → (mid : Option ℕ) × IsLinked s from xs mid × IsLinked s mid ys to
IsLinked-split s from [] ys to l = (from, refl, l)
IsLinked-split s from (x ∷ xs) ys to l =
    let r = IsLinked-split s l.1 xs ys to l.3 in (r.0, (l.0, l.1, l.2, r.1), r.2)

-- from no key on there is no node
pub linked_none : (s : Slab Node) (from : Option ℕ) (xs : List Link) → from ≡ None → IsLinked s from xs None → xs ≡ []
linked_none s from [] e l = refl
linked_none s from (x ∷ xs) e l = let f : from ≡ Some x.key = l.0 in absurd (cc)

-- if a list has no last key, it begins where it ends
pub linked_nothing : (s : Slab Node) (from : Option ℕ) (xs : List Link) (to : Option ℕ) → last_key xs ≡ None
    → IsLinked s from xs to → from ≡ to
linked_nothing s from [] to e l = l
linked_nothing s from (x ∷ xs) to e l = absurd (last_some x.key xs e)

pub linked_nowhere : (s : Slab Node) (from : Option ℕ) (xs : List Link) → last_key xs ≡ None → IsLinked s from xs from
linked_nowhere s from [] e = refl
linked_nowhere s from (x ∷ xs) e = absurd (last_some x.key xs e)

-- the node under the first key, and those that follow
pub record Opens (s : Slab Node) (k : ℕ) (xs : List Link) : Type 0 where
  pub first : Link
  pub after : List Link
  pub next : Option ℕ
  pub is : xs ≡ first ∷ after
  pub key : first.key ≡ k
  pub node : get s k ≡ Some (node_of first next)
  pub linked : IsLinked s next after None

pub opens : (s : Slab Node) (from : Option ℕ) (k : ℕ) (xs : List Link) → from ≡ Some k → IsLinked s from xs None
    → Opens s k xs
opens s from k [] e l = let f : from ≡ None = l in absurd (cc)
opens s from k (x ∷ xs) e l =
    let f : from ≡ Some x.key = l.0 in
    let q : x.key ≡ k = cc in
    record { first = x; after = xs; next = l.1; is = refl; key = q; node = ap (get s) (sym q) ∙ l.2; linked = l.3 }

pub opens-contains : (s : Slab Node) (k : ℕ) (xs : List Link) → Opens s k xs → ContainsKey s k
opens-contains s k xs o = rw o.node refl

-- there is a node under the last key, and it has the key that follows the list
pub record Closes (s : Slab Node) (b : ℕ) (to : Option ℕ) : Type 0 where
  pub last : Link
  pub key : last.key ≡ b
  pub node : get s b ≡ Some (node_of last to)

pub closes : (s : Slab Node) (from : Option ℕ) (xs : List Link) (to : Option ℕ) (b : ℕ) → last_key xs ≡ Some b
    → IsLinked s from xs to → Closes s b to
closes s from [] to b e l = absurd (cc)
closes s from (x ∷ []) to b e l =
    let q : x.key ≡ b = cc in
    record { last = x; key = q; node = ap (get s) (sym q) ∙ l.2 ∙ ap (λ next. Some (node_of x next)) l.3 }
closes s from (x ∷ y ∷ xs) to b e l = closes s l.1 (y ∷ xs) to b e l.3

pub closes-contains : (s : Slab Node) (b : ℕ) (to : Option ℕ) → Closes s b to → ContainsKey s b
closes-contains s b to c = rw c.node refl

-- the key that this node has
pub closes-next : (s : Slab Node) (b : ℕ) (to : Option ℕ) (n : Node) → Closes s b to → get s b ≡ Some n → n.next ≡ to
closes-next s b to n c g =
    let same : Some (node_of c.last to) ≡ Some n = sym c.node ∙ g in
    let is : node_of c.last to ≡ n = cc in
    sym (ap (λ (m : Node). m.next) is)

-- lists with the same last key are followed by the same key
pub same_end : (s : Slab Node) (from : Option ℕ) (xs ys : List Link) (to end : Option ℕ)
    → IsLinked s from xs to → IsLinked s from ys end → last_key xs ≡ last_key ys → to ≡ end
same_end s from xs ys to end l m e = by (last_key xs) refl
  where
    by : (b : Option ℕ) → last_key xs ≡ b → to ≡ end
    by None q = sym (linked_nothing s from xs to q l) ∙ linked_nothing s from ys end (sym e ∙ q) m
    by (Some b) q =
        let there : Closes s b end = closes s from ys end b (sym e ∙ q) m in
        sym (closes-next s b to (node_of there.last end) (closes s from xs to b q l) there.node)

-- there is a node under the key `behind`, if that is the last key of a list
pub behind-contains : (s : Slab Node) (from : Option ℕ) (xs : List Link) (to behind : Option ℕ) → behind ≡ last_key xs
    → IsLinked s from xs to → IfSome behind (ContainsKey s)
behind-contains s from xs to None e l = tt
behind-contains s from xs to (Some b) e l = closes-contains s b to (closes s from xs to b (sym e) l)

-- the node with another next key
abbrev pub naming : Option ℕ → Node → Node
naming to n = record { place = n.place; condition = n.condition; priority = n.priority; next = to }

-- the node under b has another next key, and the other nodes are as they were
pub record Relinks (s t : Slab Node) (b : ℕ) (to : Option ℕ) : Type 0 where
  pub changed : (n : Node) → get s b ≡ Some n → get t b ≡ Some (naming to n)
  pub others : (k : ℕ) → k ≢ b → get t k ≡ get s k

-- it holds after a write of that node
pub Relinks-with_value : (s : Slab Node) (b : ℕ) (n : Node) (to : Option ℕ) → get s b ≡ Some n
    → Relinks s (with_value s b (naming to n)) b to
Relinks-with_value s b n to g =
    let u : Updates s (with_value s b (naming to n)) b (Some (naming to n)) =
    Updates-with_value s b (naming to n) (rw g refl) in
    record {
      changed = λ m f.
          let same : Some n ≡ Some m = sym g ∙ f in
          let is : n ≡ m = cc in
          u.changed ∙ ap (λ v. Some (naming to v)) is;
      others = u.others;
    }

-- a list whose last node was changed so
pub IsLinked-relinked : (s t : Slab Node) (from : Option ℕ) (xs : List Link) (mid to : Option ℕ) (b : ℕ)
    → Relinks s t b to → last_key xs ≡ Some b
    → ((k : ℕ) → times k (keys xs) ≤ 1) → IsLinked s from xs mid → IsLinked t from xs to
IsLinked-relinked s t from [] mid to b r e once l = absurd (cc)
IsLinked-relinked s t from (x ∷ []) mid to b r e once l =
    let q : x.key ≡ b = cc in
    (l.0, to, ap (get t) q ∙ r.changed (node_of x l.1) (ap (get s) (sym q) ∙ l.2), refl)
IsLinked-relinked s t from (x ∷ y ∷ xs) mid to b r e once l =
    let apart : x.key ≢ b =
    λ q. omega (arith, once b, last_within b (y ∷ xs) e, subst (λ (j : ℕ). one b j ≡ 1) (sym q) (one_same b)) in (
      l.0,
      l.1,
      r.others x.key apart ∙ l.2,
      IsLinked-relinked s t l.1 (y ∷ xs) mid to b r e (λ k. omega (arith, once k)) l.3,
    )

-- a walk

walk_none : (n : ℕ) (s : Slab Node) → walk n s None ≡ []
unfolding walk
walk_none zero s = refl
walk_none (suc n) s = refl

-- a walk gives the nodes as they are linked
pub walk_linked : (n : ℕ) (s : Slab Node) (from : Option ℕ) (xs : List Link) → IsLinked s from xs None → length xs ≤ n
    → walk n s from ≡ xs
unfolding walk
walk_linked zero s from [] l h = refl
walk_linked zero s from (x ∷ xs) l h = absurd (omega arith)
walk_linked (suc n) s from [] l h = ap (walk (suc n) s) l
walk_linked (suc n) s from (x ∷ xs) l h =
    ap (walk (suc n) s) l.0 ∙ ap (found (walk n s) x.key) l.2
    ∙ ap (λ ys. x ∷ ys) (walk_linked n s l.1 xs l.3 (omega arith))

-- from no key on a walk gives nothing
pub walked_none : (s : Slab Node) → walked s None ≡ []
walked_none s = walk_none (slab_len s) s

pub walked_ends : (s : Slab Node) (from : Option ℕ) (e : Ends s from) → walked s from ≡ e.list
walked_ends s from e = walk_linked (slab_len s) s from e.list e.linked e.few

-- a step of a walk: the first link, and those that are left
pub walked_first : (s : Slab Node) (from : Option ℕ) (k : ℕ) (n : Node) → Ends s from → from ≡ Some k → get s k ≡ Some n
    → (walked s from ≡ record {
      key = k;
      place = n.place;
      condition = n.condition;
      priority = n.priority;
    } ∷ walked s n.next) × Ends s n.next
walked_first s from k n e f g =
    let o : Opens s k e.list = opens s from k e.list f e.linked in
    let same : Some n ≡ Some (node_of o.first o.next) = sym g ∙ o.node in
    let is : n ≡ node_of o.first o.next = cc in
    let short : length e.list ≡ suc (length o.after) = ap length o.is in
    let rest : Ends s o.next = record { list = o.after; linked = o.linked; few = omega (arith, e.few) } in (
      walked_ends s from e ∙ o.is ∙ by o.first o.key n o.next o.after is
          ∙ ap (λ ys. record { key = k; place = n.place; condition = n.condition; priority = n.priority } ∷ ys)
          (sym (walked_ends s o.next rest) ∙ ap (λ (m : Node). walked s m.next) (sym is)),
      subst (λ (m : Node). Ends s m.next) (sym is) rest,
    )
  where
    by : (x : Link) → x.key ≡ k → (m : Node) (next : Option ℕ) (ys : List Link) → m ≡ node_of x next
        → x ∷ ys ≡ record { key = k; place = m.place; condition = m.condition; priority = m.priority } ∷ ys
    by x q m next ys e =
        let at : ℕ → Node → List Link =
        λ (j : ℕ) (v : Node). record {
          key = j;
          place = v.place;
          condition = v.condition;
          priority = v.priority;
        } ∷ ys in
        ap (at x.key) (sym e) ∙ ap (λ (j : ℕ). at j m) q

-- the links before the first whose priority is above

-- the rest of a rising list, after its first element, rises too
rising_after : (n : ℕ) (ns : List ℕ) → IsNonDecreasing (n ∷ ns) → IsNonDecreasing ns
rising_after n ns r i j d le lt = r (suc i) (suc j) d (omega arith) (omega arith)

-- if the priority of the last link isn't above, none is
pub record AllLower (p : ℕ) (x : Link) (xs : List Link) : Type 0 where
  pub all : lower p (x ∷ xs) ≡ x ∷ xs
  pub first : x.priority ≤ p

one_lower : (p : ℕ) (x : Link) (xs : List Link) → x.priority ≤ p → lower p xs ≡ xs → lower p (x ∷ xs) ≡ x ∷ xs
one_lower p x xs h e = let t : leb x.priority p ≡ true = grind (arith, nat_tests) in rw t (ap (λ l. x ∷ l) e)

pub all_lower : (s : Slab Node) (from : Option ℕ) (x : Link) (xs : List Link) (to : Option ℕ) (b p : ℕ) (n : Node)
    → IsLinked s from (x ∷ xs) to → last_key (x ∷ xs) ≡ Some b
    → get s b ≡ Some n → n.priority ≤ p → IsNonDecreasing (priorities (x ∷ xs)) → AllLower p x xs
all_lower s from x [] to b p n l e g h r =
    let q : x.key ≡ b = cc in
    let same : Some (node_of x l.1) ≡ Some n = sym l.2 ∙ ap (get s) q ∙ g in
    let is : node_of x l.1 ≡ n = cc in
    let f : x.priority ≤ p = omega (arith, ap (λ (m : Node). m.priority) is) in
    record { all = one_lower p x [] f refl; first = f }
all_lower s from x (y ∷ xs) to b p n l e g h r =
    let a : AllLower p y xs =
    all_lower s l.1 y xs to b p n l.3 e g h (rising_after x.priority (priorities (y ∷ xs)) r) in
    let below : x.priority ≤ y.priority = r 0 1 0 (omega arith) (omega arith) in
    let f : x.priority ≤ p = omega (arith, a.first) in
    record { all = one_lower p x (y ∷ xs) f a.all; first = f }

pub lower_all : (s : Slab Node) (from : Option ℕ) (xs : List Link) (to : Option ℕ) (b p : ℕ) (n : Node)
    → IsLinked s from xs to → last_key xs ≡ Some b → get s b ≡ Some n
    → n.priority ≤ p → IsNonDecreasing (priorities xs) → lower p xs ≡ xs
lower_all s from [] to b p n l e g h r = refl
lower_all s from (x ∷ xs) to b p n l e g h r = (all_lower s from x xs to b p n l e g h r).all

-- the links before the first whose priority is above, and those from it on, are all
pub lower-higher : (p : ℕ) (xs : List Link) → lower p xs ++ higher p xs ≡ xs
lower-higher p [] = refl
lower-higher p (x ∷ xs) = by (leb x.priority p) (lower-higher p xs)
  where
    by : (t : Bool) → lower p xs ++ higher p xs ≡ xs
        → cond t (x ∷ lower p xs) [] ++ cond t (higher p xs) (x ∷ xs) ≡ x ∷ xs
    by true h = ap (λ l. x ∷ l) h
    by false h = refl
