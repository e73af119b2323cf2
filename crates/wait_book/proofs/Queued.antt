-- What a change in one chain does to the waiters, to the signallers and to the called.
use Rattle.std.proofs.Common.{◌≡◌, ◌≢◌, ℕ, zero, suc, ◌+◌, ◌<◌, ◌≤◌, Bool, true, false, not, cond, eqb, eq-eqb}
use Rattle.std.proofs.Common.{eqb-true, leb, inl, inr, List, [], ◌∷◌, ◌++◌, length, map, Option, Some, None, refl, ap}
use Rattle.std.proofs.Common.{sym, ◌∙◌, subst, arith}
use Rattle.std.proofs.lemmas.Bool.{cases_eq, cases_lt}
use Rattle.std.proofs.lemmas.List.{append_assoc, append-nil, length-map, map-append}
use Rattle.std.proofs.lemmas.List.Elements.{filter-append}
use Rattle.std.proofs.lemmas.Simd.{map-map}
use Rattle.std.specs.List.{filter, find, slice_get}
use Rattle.std.specs.Option.{option_map}
use Rattle.std.specs.Prelude.{All, MatchOption}
use Rattle.std.proofs.lemmas.List.Elements.{All-head, All-tail}
use Rattle.std.specs.List.Sorted.{IsNonDecreasing}
use Rattle.hoare_law.specs.Priorities.{put_in, in_order, behind_first}
use Rattle.hoare_law.proofs.Sorted.{put_in-map, map-in_order, IsNonDecreasing-in_order, find-filter, first_of}
use Rattle.wait_book.specs.declared.book.TheConstants.{MOST_CONDITIONS}
use Rattle.wait_book.specs.declared.chains.TheConstants.{CALLED, CHAINS, SIGNALLERS}
use Rattle.wait_book.specs.declared.chains.Link.{Link}
use Rattle.wait_book.specs.declared.waiter.Waiter.{Waiter}
use Rattle.wait_book.specs.Contents.{times}
use Rattle.wait_book.specs.Insides.{called_in, waiter_of, waiter_on, waiting_below}
use Rattle.wait_book.specs.Lists.{Lists, IsJoined, IsPut, IsTaken, IsTakenOut, all_below, first_link, higher, list_at}
use Rattle.wait_book.specs.Lists.{list_put}
use Rattle.wait_book.specs.Lists.{lower, places_below, priorities, total, places_in}
use Rattle.wait_book.specs.Queues.{PutsIn, TakesAll, Removes, IsFirst}
use Rattle.wait_book.proofs.Times.{eq_self}
use Rattle.wait_book.proofs.Waiters.{on, places, key}
use Rattle.wait_book.proofs.Nodes.{lower-higher}
use Rattle.wait_book.proofs.Lists.{below_past, eq_apart, length_next, length_one, length_same, places_middle, put_same}
use Rattle.wait_book.proofs.Lists.{put_other, times_next, times_put}

-- the waiters on a condition

on_own : (c : ℕ) (xs : List Link) → filter (on c) (map (waiter_on c) xs) ≡ map (waiter_on c) xs
on_own c [] = refl
on_own c (x ∷ xs) = rw (eq_self c) (ap (λ ws. waiter_on c x ∷ ws) (on_own c xs))

on_other : (c n : ℕ) (xs : List Link) → eqb n c ≡ false → filter (on c) (map (waiter_on n) xs) ≡ []
on_other c n [] e = refl
on_other c n (x ∷ xs) e = rw e (on_other c n xs e)

-- no waiter in the chains before that of a condition is on it
on_before : (n c : ℕ) (at : ℕ → List Link) → n ≤ c → filter (on c) (waiting_below n at) ≡ []
unfolding all_below
on_before zero c at l = refl
on_before (suc n) c at l =
    filter-append (on c) (waiting_below n at) (map (waiter_on n) (at n))
    ∙ ap (λ ws. ws ++ filter (on c) (map (waiter_on n) (at n))) (on_before n c at (omega arith))
    ∙ on_other c n (at n) (eq_apart n c (omega arith))

-- the waiters on a condition are those in its chain
pub on_chain : (n c : ℕ) (at : ℕ → List Link) → c < n → filter (on c) (waiting_below n at) ≡ map (waiter_on c) (at c)
unfolding all_below
on_chain zero c at l = absurd (omega arith)
on_chain (suc n) c at l =
    filter-append (on c) (waiting_below n at) (map (waiter_on n) (at n))
    ∙ elim (cases_eq n c) [
      | inl e ↦
          ap (λ ws. ws ++ filter (on c) (map (waiter_on n) (at n))) (on_before n c at (omega arith))
          ∙ subst (λ (m : ℕ). filter (on c) (map (waiter_on m) (at m)) ≡ map (waiter_on c) (at c)) (sym e)
          (on_own c (at c))
      | inr off ↦
          ap (λ ws. filter (on c) (waiting_below n at) ++ ws) (on_other c n (at n) (eq_apart n c off))
          ∙ append-nil _ ∙ on_chain n c at (omega arith)
    ]

-- the places of the waiters

map_below : {X Y : Type 0} (g : X → Y) (f : ℕ → Link → X) (n : ℕ) (at : ℕ → List Link)
    → map g (all_below f n at) ≡ all_below (λ c (x : Link). g (f c x)) n at
unfolding all_below
map_below g f zero at = refl
map_below g f (suc n) at =
    map-append g (all_below f n at) (map (f n) (at n))
    ∙ ap (λ ys. ys ++ map g (map (f n) (at n))) (map_below g f n at)
    ∙ ap (λ ys. all_below (λ c (x : Link). g (f c x)) n at ++ ys) (map-map g (f n) (at n))

-- the places of the waiters are those in the chains
pub places_waiting : (n : ℕ) (at : ℕ → List Link) → places (waiting_below n at) ≡ places_below n at
places_waiting n at = map_below (λ (w : Waiter). w.place) waiter_on n at

-- a waiter that is inserted

-- an insertion into a list, as `put_in` of the law does it
put_lower : (x : Link) (xs : List Link)
    → put_in (λ (v : Link). v.priority) x xs ≡ lower x.priority xs ++ x ∷ higher x.priority xs
put_lower x [] = refl
put_lower x (y ∷ ys) = by (leb y.priority x.priority) (put_lower x ys)
  where
    by : (t : Bool) → put_in (λ (v : Link). v.priority) x ys ≡ lower x.priority ys ++ x ∷ higher x.priority ys
        → cond t (y ∷ put_in (λ (v : Link). v.priority) x ys) (x ∷ y ∷ ys)
        ≡ cond t (y ∷ lower x.priority ys) [] ++ x ∷ cond t (higher x.priority ys) (y ∷ ys)
    by true h = ap (λ l. y ∷ l) h
    by false h = refl

-- an insertion into the chain of a condition
put_waiters : (c : ℕ) (x : Link) (xs : List Link)
    → map (waiter_on c) (lower x.priority xs ++ x ∷ higher x.priority xs)
    ≡ put_in key (waiter_on c x) (map (waiter_on c) xs)
put_waiters c x xs = sym (put_in-map (waiter_on c) key x xs ∙ ap (map (waiter_on c)) (put_lower x xs))

on_put : (c d : ℕ) (x : Link) (at : ℕ → List Link) → d < MOST_CONDITIONS
    → map (waiter_on d) (list_put c (lower x.priority (at c) ++ x ∷ higher x.priority (at c)) at d)
    ≡ cond (eqb c d) (put_in key (waiter_on c x) (map (waiter_on d) (at d))) (map (waiter_on d) (at d))
on_put c d x at l =
    let xs : List Link = lower x.priority (at c) ++ x ∷ higher x.priority (at c) in
    elim (cases_eq d c) [
      | inl e ↦
          let same : map (waiter_on c) (list_put c xs at c)
          ≡ cond (eqb c c) (put_in key (waiter_on c x) (map (waiter_on c) (at c))) (map (waiter_on c) (at c)) =
          ap (map (waiter_on c)) (put_same c xs at) ∙ put_waiters c x (at c)
          ∙ ap (λ t. cond t (put_in key (waiter_on c x) (map (waiter_on c) (at c))) (map (waiter_on c) (at c)))
          (sym (eq_self c)) in
          subst
          (λ (j : ℕ). map (waiter_on j) (list_put c xs at j)
          ≡ cond (eqb c j) (put_in key (waiter_on c x) (map (waiter_on j) (at j))) (map (waiter_on j) (at j)))
          (sym e) same
      | inr off ↦
          ap (map (waiter_on d)) (put_other c d xs at off)
          ∙ ap (λ t. cond t (put_in key (waiter_on c x) (map (waiter_on d) (at d))) (map (waiter_on d) (at d)))
          (sym (eq_apart c d (λ e. off (sym e))))
    ]

-- what an insertion into the chain of a condition does to the waiters
pub PutsIn-put : (c place priority : ℕ) (old new : Lists) → c < MOST_CONDITIONS
    → IsPut c (lower priority (list_at old c)) (higher priority (list_at old c)) place c priority old new
    → PutsIn (record { place = place; condition = c; priority = priority })
    (waiting_below MOST_CONDITIONS (list_at old)) (waiting_below MOST_CONDITIONS (list_at new))
PutsIn-put c place priority old new l p =
    let at : ℕ → List Link = list_at old in
    let x : Link = record { key = p.key; place = place; condition = c; priority = priority } in
    let xs : List Link = lower priority (at c) ++ x ∷ higher priority (at c) in
    let lists : list_at new ≡ list_put c xs at = λ i d. p.lists d i in
    let is : waiting_below MOST_CONDITIONS (list_at new) ≡ waiting_below MOST_CONDITIONS (list_put c xs at) =
    ap (waiting_below MOST_CONDITIONS) lists in
    record {
      on = λ d. ap (filter (on d)) is ∙ elim (cases_lt d MOST_CONDITIONS) [
        | inl m ↦
            on_chain MOST_CONDITIONS d (list_put c xs at) m ∙ on_put c d x at m
            ∙ ap (λ ws. cond (eqb c d) (put_in key (waiter_on c x) ws) ws) (sym (on_chain MOST_CONDITIONS d at m))
        | inr m ↦
            on_before MOST_CONDITIONS d (list_put c xs at) m ∙ sym (on_before MOST_CONDITIONS d at m)
            ∙ ap
            (λ t. cond t (put_in key (waiter_on c x) (filter (on d) (waiting_below MOST_CONDITIONS at)))
            (filter (on d) (waiting_below MOST_CONDITIONS at)))
            (sym (eq_apart c d (omega arith)))
      ];
      more = λ k.
          let counted = times_put (λ e (y : Link). y.place) k MOST_CONDITIONS c xs at l in
          let middle = places_middle k (lower priority (at c)) x (higher priority (at c)) in
          let whole = ap (λ ys. times k (places_in ys)) (lower-higher priority (at c)) in
          omega (
            arith,
            ap (λ ws. times k (places ws)) is,
            ap (times k) (places_waiting MOST_CONDITIONS (list_put c xs at)),
            ap (times k) (places_waiting MOST_CONDITIONS at),
          );
    }

-- a waiter is removed

-- the waiter was removed, and before it on c stand those of the links bs
abbrev TakenBelow : (n c : ℕ) → List Link → Link → List Link → (ℕ → List Link) → Type 0
TakenBelow n c bs x after at =
    (t : Removes c (waiting_below n at) (waiting_below n (list_put c (bs ++ after) at)) x.place)
    × (filter (on c) t.before ≡ map (waiter_on c) bs)

pub taken_below : (n c : ℕ) (bs : List Link) (x : Link) (after : List Link) (at : ℕ → List Link) → c < n
    → at c ≡ bs ++ x ∷ after → TakenBelow n c bs x after at
unfolding all_below
taken_below zero c bs x after at l e = absurd (omega arith)
taken_below (suc n) c bs x after at l e =
    elim (cases_eq n c) [
      | inl q ↦
          let ws : List Waiter = waiting_below n at in
          let xs : List Waiter = map (waiter_on c) bs in (
            record {
              before = ws ++ xs;
              first = waiter_on c x;
              after = map (waiter_on c) after;
              was = ap (λ ys. ws ++ ys)
                  (subst (λ (m : ℕ). map (waiter_on m) (at m) ≡ xs ++ waiter_on c x ∷ map (waiter_on c) after) (sym q)
                  (ap (map (waiter_on c)) e ∙ map-append (waiter_on c) bs (x ∷ after)))
                  ∙ sym (append_assoc ws xs (waiter_on c x ∷ map (waiter_on c) after));
              is =
                  ap (λ ys. ys ++ map (waiter_on n) (list_put c (bs ++ after) at n))
                  (below_past waiter_on n c (bs ++ after) at (omega arith))
                  ∙ ap (λ ys. ws ++ ys)
                  (subst (λ (m : ℕ). map (waiter_on m) (list_put c (bs ++ after) at m) ≡ xs ++ map (waiter_on c) after)
                  (sym q)
                  (ap (map (waiter_on c)) (put_same c (bs ++ after) at) ∙ map-append (waiter_on c) bs after))
                  ∙ sym (append_assoc ws xs (map (waiter_on c) after));
              on = refl;
              place = refl;
            },
            filter-append (on c) ws xs ∙ ap (λ ys. ys ++ filter (on c) xs) (on_before n c at (omega arith))
                ∙ on_own c bs,
          )
      | inr off ↦
          let r : TakenBelow n c bs x after at = taken_below n c bs x after at (omega arith) e in
          let t = r.0 in
          let more : List Waiter = map (waiter_on n) (at n) in (
            record {
              before = t.before;
              first = t.first;
              after = t.after ++ more;
              was = ap (λ ws. ws ++ more) t.was ∙ append_assoc t.before (t.first ∷ t.after) more;
              is = ap (λ ys. waiting_below n (list_put c (bs ++ after) at) ++ map (waiter_on n) ys)
                  (put_other c n (bs ++ after) at off)
                  ∙ ap (λ ws. ws ++ more) t.is ∙ append_assoc t.before t.after more;
              on = t.on;
              place = t.place;
            },
            r.1,
          )
    ]

-- what is removed from the chain of a condition is removed from the waiters
taken_from : (c place : ℕ) (bs : List Link) (x : Link) (after : List Link) (old new : Lists) → c < MOST_CONDITIONS
    → list_at old c ≡ bs ++ x ∷ after → x.place ≡ place
    → ((d : ℕ) → list_at new d ≡ list_put c (bs ++ after) (list_at old) d)
    → (t : Removes c (waiting_below MOST_CONDITIONS (list_at old)) (waiting_below MOST_CONDITIONS (list_at new)) place)
    × (filter (on c) t.before ≡ map (waiter_on c) bs)
taken_from c place bs x after old new l was named lists =
    let all : list_at new ≡ list_put c (bs ++ after) (list_at old) = λ i d. lists d i in
    subst
    (λ (at : ℕ → List Link). (t : Removes c (waiting_below MOST_CONDITIONS (list_at old))
    (waiting_below MOST_CONDITIONS at) place) × (filter (on c) t.before ≡ map (waiter_on c) bs))
    (sym all)
    (subst (λ (j : ℕ). (t : Removes c (waiting_below MOST_CONDITIONS (list_at old))
    (waiting_below MOST_CONDITIONS (list_put c (bs ++ after) (list_at old))) j)
    × (filter (on c) t.before ≡ map (waiter_on c) bs)) named
    (taken_below MOST_CONDITIONS c bs x after (list_at old) l was))

pub Removes-first : (c place : ℕ) (old new : Lists) → c < MOST_CONDITIONS → IsTaken c place old new
    → (t : Removes c (waiting_below MOST_CONDITIONS (list_at old)) (waiting_below MOST_CONDITIONS (list_at new)) place)
    × IsFirst c t.before
Removes-first c place old new l t = taken_from c place [] t.first t.after old new l t.was t.first_place t.lists

pub Removes-taken : (c place : ℕ) (old new : Lists) → c < MOST_CONDITIONS → IsTakenOut c place old new
    → Removes c (waiting_below MOST_CONDITIONS (list_at old)) (waiting_below MOST_CONDITIONS (list_at new)) place
Removes-taken c place old new l t =
    (taken_from c place t.before t.link t.after old new l t.was t.link_place t.lists).0

-- no process waits on a condition whose chain is empty
pub waits-nobody : (c : ℕ) (v : Lists) → c < MOST_CONDITIONS → list_at v c ≡ []
    → filter (on c) (waiting_below MOST_CONDITIONS (list_at v)) ≡ []
waits-nobody c v l e = on_chain MOST_CONDITIONS c (list_at v) l ∙ ap (map (waiter_on c)) e

-- a chain other than the one that changes is as it was
pub chain-same : {Y : Type 0} (g : List Link → Y) (c d : ℕ) (xs : List Link) (old new : Lists) → d ≢ c
    → ((e : ℕ) → list_at new e ≡ list_put c xs (list_at old) e) → g (list_at new d) ≡ g (list_at old d)
chain-same g c d xs old new n h = ap g (h d ∙ put_other c d xs (list_at old) n)

-- what a change of a condition's chain leaves as it was
pub record BesideKept (old new : Lists) : Type 0 where
  pub signallers : places_in (list_at new SIGNALLERS) ≡ places_in (list_at old SIGNALLERS)
  pub called : called_in (list_at new CALLED) ≡ called_in (list_at old CALLED)

pub beside_kept : (c : ℕ) (xs : List Link) (old new : Lists) → c < MOST_CONDITIONS
    → ((e : ℕ) → list_at new e ≡ list_put c xs (list_at old) e) → BesideKept old new
beside_kept c xs old new l h =
    record {
      signallers = chain-same places_in c SIGNALLERS xs old new (omega arith) h;
      called = chain-same called_in c CALLED xs old new (omega arith) h;
    }

-- the waiters are as they were if a chain changes that is no condition's
pub waiters-same : (c : ℕ) (xs : List Link) (old new : Lists) → MOST_CONDITIONS ≤ c
    → ((d : ℕ) → list_at new d ≡ list_put c xs (list_at old) d)
    → waiting_below MOST_CONDITIONS (list_at new) ≡ waiting_below MOST_CONDITIONS (list_at old)
waiters-same c xs old new l h =
    let lists : list_at new ≡ list_put c xs (list_at old) = λ i d. h d i in
    ap (waiting_below MOST_CONDITIONS) lists ∙ below_past waiter_on MOST_CONDITIONS c xs (list_at old) l

-- an entry is appended to a chain
pub chain-more : {X : Type 0} (f : Link → X) (c place condition priority : ℕ) (old new : Lists)
    → (p : IsPut c (list_at old c) [] place condition priority old new) → map f (list_at new c)
    ≡ map f (list_at old c) ++ f
    (record { key = p.key; place = place; condition = condition; priority = priority }) ∷ []
chain-more f c place condition priority old new p =
    ap (map f) (p.lists c ∙ put_same c _ (list_at old)) ∙ map-append f (list_at old c) _

-- a chain without its first link, if it has one
pub record Shorter (c : ℕ) (old new : Lists) : Type 0 where
  pub room : new.room ≡ old.room
  pub waiters : waiting_below MOST_CONDITIONS (list_at new) ≡ waiting_below MOST_CONDITIONS (list_at old)
  pub less : list_at new c ≡ behind_first (list_at old c)
  pub others : (d : ℕ) → d ≢ c → list_at new d ≡ list_at old d

pub shorter : (c : ℕ) (r : Option ℕ) (old new : Lists) → MOST_CONDITIONS ≤ c
    → MatchOption r ((list_at old c ≡ []) × (new ≡ old)) (λ place. IsTaken c place old new) → Shorter c old new
shorter c None old new l m =
    record {
      room = ap (λ (v : Lists). v.room) m.1;
      waiters = ap (λ (v : Lists). waiting_below MOST_CONDITIONS (list_at v)) m.1;
      less = ap (λ (v : Lists). list_at v c) m.1 ∙ m.0 ∙ sym (ap behind_first m.0);
      others = λ d n. ap (λ (v : Lists). list_at v d) m.1;
    }
shorter c (Some place) old new l t =
    record {
      room = t.room;
      waiters = waiters-same c t.after old new l t.lists;
      less = t.lists c ∙ put_same c t.after (list_at old) ∙ sym (ap behind_first t.was);
      others = λ d n. t.lists d ∙ put_other c d t.after (list_at old) n;
    }

pub behind_first-map : {X : Type 0} (f : Link → X) (xs : List Link) → map f (behind_first xs) ≡ behind_first (map f xs)
behind_first-map f [] = refl
behind_first-map f (x ∷ xs) = refl

-- all waiters on a condition are notified

-- the waiters in another condition's chain are on another condition
not_on : (t : Bool) (n c : ℕ) (xs : List Link) → eqb n c ≡ t
    → filter (λ w. not (on c w)) (map (waiter_on n) xs) ≡ map (waiter_on n) (cond t [] xs)
not_on true n c [] e = refl
not_on false n c [] e = refl
not_on true n c (x ∷ xs) e = rw e (not_on true n c xs e)
not_on false n c (x ∷ xs) e = rw e (ap (λ ws. waiter_on n x ∷ ws) (not_on false n c xs e))

without : (n c : ℕ) (at : ℕ → List Link)
    → waiting_below n (list_put c [] at) ≡ filter (λ w. not (on c w)) (waiting_below n at)
unfolding all_below
without zero c at = refl
without (suc n) c at =
    ap (λ ws. ws ++ map (waiter_on n) (list_put c [] at n)) (without n c at)
    ∙ ap (λ ws. filter (λ w. not (on c w)) (waiting_below n at) ++ ws) (sym (not_on (eqb n c) n c (at n) refl))
    ∙ sym (filter-append (λ w. not (on c w)) (waiting_below n at) (map (waiter_on n) (at n)))

kept_on : (t : Bool) (c d : ℕ) (ws : List Waiter) → eqb d c ≡ t
    → filter (on d) (filter (λ w. not (on c w)) ws) ≡ cond t [] (filter (on d) ws)
kept_on true c d [] e = refl
kept_on false c d [] e = refl
kept_on t c d (w ∷ ws) e = by t (eqb w.condition c) (eqb w.condition d) e refl refl (kept_on t c d ws e)
  where
    by : (t r s : Bool) → eqb d c ≡ t → eqb w.condition c ≡ r → eqb w.condition d ≡ s
        → filter (on d) (filter (λ v. not (on c v)) ws) ≡ cond t [] (filter (on d) ws)
        → filter (on d) (cond (not r) (w ∷ filter (λ v. not (on c v)) ws) (filter (λ v. not (on c v)) ws))
        ≡ cond t [] (cond s (w ∷ filter (on d) ws) (filter (on d) ws))
    by true true s e p q h = h
    by true false true e p q h =
        let no : true ≡ false = sym (ap (λ x. eqb x c) (eqb-true w.condition d q) ∙ e) ∙ p in absurd (cc)
    by true false false e p q h = rw q h
    by false true true e p q h =
        let same : d ≡ c = sym (eqb-true w.condition d q) ∙ eqb-true w.condition c p in
        let no : true ≡ false = sym (eq-eqb d c same) ∙ e in absurd (cc)
    by false true false e p q h = h
    by false false true e p q h = rw q (ap (λ l. w ∷ l) h)
    by false false false e p q h = rw q h

waited_all : (c : ℕ) (xs : List Link) → All (λ (x : Link). x.condition ≡ c) xs → called_in xs ≡ map (waiter_on c) xs
waited_all c [] a = refl
waited_all c (x ∷ xs) a =
    let here : x.condition ≡ c = All-head (λ (y : Link). y.condition ≡ c) x xs a in
    (λ i. record { place = x.place; condition = here i; priority = x.priority } ∷ waited_all c xs
    (All-tail (λ (y : Link). y.condition ≡ c) x xs a) i)

pub record AllCalled (c : ℕ) (old new : Lists) : Type 0 where
  pub took : TakesAll c (waiting_below MOST_CONDITIONS (list_at old)) (waiting_below MOST_CONDITIONS (list_at new))
  pub room : new.room ≡ old.room
  pub signallers : places_in (list_at new SIGNALLERS) ≡ places_in (list_at old SIGNALLERS)
  pub called : called_in (list_at new CALLED)
      ≡ called_in (list_at old CALLED) ++ filter (on c) (waiting_below MOST_CONDITIONS (list_at old))

pub all_called : (c : ℕ) (old new : Lists) → c < MOST_CONDITIONS → IsJoined c old new → AllCalled c old new
all_called c old new l j =
    let at : ℕ → List Link = list_at old in
    let zs : List Link = at CALLED ++ at c in
    let lists : list_at new ≡ list_put c [] (list_put CALLED zs at) = λ i d. j.lists d i in
    let is : waiting_below MOST_CONDITIONS (list_at new)
    ≡ filter (λ w. not (on c w)) (waiting_below MOST_CONDITIONS at) =
    ap (waiting_below MOST_CONDITIONS) lists ∙ without MOST_CONDITIONS c (list_put CALLED zs at)
    ∙ ap (filter (λ w. not (on c w))) (below_past waiter_on MOST_CONDITIONS CALLED zs at (omega arith)) in
    record {
      took = record {
        on = λ d. ap (filter (on d)) is ∙ kept_on (eqb d c) c d (waiting_below MOST_CONDITIONS at) refl;
        is = is;
      };
      room = j.room;
      signallers = ap places_in (j.lists SIGNALLERS ∙ put_other c SIGNALLERS [] (list_put CALLED zs at) (omega arith)
          ∙ put_other CALLED SIGNALLERS zs at (omega arith));
      called =
          ap called_in
          (j.lists CALLED ∙ put_other c CALLED [] (list_put CALLED zs at) (omega arith) ∙ put_same CALLED zs at)
          ∙ map-append waiter_of (at CALLED) (at c)
          ∙ ap (λ ws. called_in (at CALLED) ++ ws)
          (waited_all c (at c) j.waited ∙ sym (on_chain MOST_CONDITIONS c at l));
    }

-- no process waits if the chains are empty
pub waits-none : (n : ℕ) (at : ℕ → List Link) → ((c : ℕ) → at c ≡ []) → waiting_below n at ≡ []
unfolding all_below
waits-none zero at h = refl
waits-none (suc n) at h = ap (λ xs. waiting_below n at ++ map (waiter_on n) xs) (h n) ∙ append-nil _ ∙ waits-none n at h

-- the number of links in all chains

pub total_is : (v : Lists)
    → total v
    ≡ length (waiting_below MOST_CONDITIONS (list_at v)) + length (places_in (list_at v SIGNALLERS)) + length
    (called_in (list_at v CALLED))
total_is v = omega (
  arith,
  length_next (λ c (x : Link). x.key) CALLED (list_at v),
  length_next (λ c (x : Link). x.key) MOST_CONDITIONS (list_at v),
  length_same (λ c (x : Link). x.key) waiter_on MOST_CONDITIONS (list_at v),
  length-map (list_at v SIGNALLERS) (λ (x : Link). x.place),
  length-map (list_at v CALLED) waiter_of,
)

-- how often a place is in all chains
pub times_all : (k : ℕ) (v : Lists) → times k (places_below CHAINS (list_at v))
    ≡ times k (places (waiting_below MOST_CONDITIONS (list_at v))) + times k
    (places_in (list_at v SIGNALLERS)) + times k (places (called_in (list_at v CALLED)))
times_all k v = omega (
  arith,
  times_next (λ c (x : Link). x.place) k CALLED (list_at v),
  times_next (λ c (x : Link). x.place) k MOST_CONDITIONS (list_at v),
  ap (times k) (places_waiting MOST_CONDITIONS (list_at v)),
  ap (times k) (map-map (λ (w : Waiter). w.place) waiter_of (list_at v CALLED)),
)

-- the chain of a condition has as many links as processes wait on it
pub chain-length : (c : ℕ) (v : Lists) → c < MOST_CONDITIONS
    → length (list_at v c) ≡ length (filter (on c) (waiting_below MOST_CONDITIONS (list_at v)))
chain-length c v l = sym (ap length (on_chain MOST_CONDITIONS c (list_at v) l) ∙ length-map (list_at v c) (waiter_on c))

-- the chain of a condition has at most as many links as processes wait on all conditions
pub chain-few : (c : ℕ) (v : Lists) → c < MOST_CONDITIONS
    → length (list_at v c) ≤ length (waiting_below MOST_CONDITIONS (list_at v))
chain-few c v l = length_one waiter_on MOST_CONDITIONS c (list_at v) l

-- the priority of the first waiter on a condition is that of the first link of its chain
pub first-chain : (c : ℕ) (v : Lists) → c < MOST_CONDITIONS
    → option_map (λ (x : Link). x.priority) (first_link (list_at v c))
    ≡ option_map key (find (on c) (waiting_below MOST_CONDITIONS (list_at v)))
first-chain c v l =
    by (list_at v c) ∙ ap (λ ws. option_map key (first_of ws)) (sym (on_chain MOST_CONDITIONS c (list_at v) l))
    ∙ sym (ap (option_map key) (find-filter (on c) (waiting_below MOST_CONDITIONS (list_at v))))
  where
    by : (xs : List Link)
        → option_map (λ (x : Link). x.priority) (first_link xs) ≡ option_map key (first_of (map (waiter_on c) xs))
    by [] = refl
    by (x ∷ xs) = refl

-- the priority of the i-th waiter on a condition is that of the i-th link of its chain
pub nth-chain : (c i : ℕ) (v : Lists) → c < MOST_CONDITIONS
    → option_map (λ (x : Link). x.priority) (slice_get (list_at v c) i)
    ≡ option_map key (slice_get (filter (on c) (waiting_below MOST_CONDITIONS (list_at v))) i)
nth-chain c i v l =
    by i (list_at v c) ∙ ap (λ ws. option_map key (slice_get ws i)) (sym (on_chain MOST_CONDITIONS c (list_at v) l))
  where
    by : (i : ℕ) (xs : List Link)
        → option_map (λ (x : Link). x.priority) (slice_get xs i) ≡ option_map key (slice_get (map (waiter_on c) xs) i)
    by i [] = refl
    by zero (x ∷ xs) = refl
    by (suc i) (x ∷ xs) = by i xs

-- the priorities in the chain of a condition

pub priorities-chain : (c : ℕ) (v : Lists) → c < MOST_CONDITIONS
    → map key (filter (on c) (waiting_below MOST_CONDITIONS (list_at v))) ≡ priorities (list_at v c)
priorities-chain c v l =
    ap (map key) (on_chain MOST_CONDITIONS c (list_at v) l) ∙ map-map key (waiter_on c) (list_at v c)

-- they don't fall if the waiters on the condition are in order
pub priorities-rise : (c : ℕ) (v : Lists) → c < MOST_CONDITIONS
    → in_order key (filter (on c) (waiting_below MOST_CONDITIONS (list_at v)))
    ≡ filter (on c) (waiting_below MOST_CONDITIONS (list_at v))
    → IsNonDecreasing (priorities (list_at v c))
priorities-rise c v l o =
    let ws : List Waiter = filter (on c) (waiting_below MOST_CONDITIONS (list_at v)) in
    let same : in_order (λ n. n) (map key ws) ≡ priorities (list_at v c) =
    sym (map-in_order key ws) ∙ ap (map key) o ∙ priorities-chain c v l in
    subst IsNonDecreasing same (IsNonDecreasing-in_order (map key ws))
