-- The waiting priorities of a book, and what each call does to them.
use Rattle.std.proofs.Common.{◌≡◌, ◌≢◌, ◌==◌, ℕ, ◌<◌, Bool, true, false, eqb-true, cond, inl, inr, is_some, length}
use Rattle.std.proofs.Common.{arith}
use Rattle.std.proofs.Common.{List, [], ◌∷◌, map, Option, Some, None, refl, ap, sym, ◌∙◌, subst}
use Rattle.std.specs.Prelude.{slice_index}
use Rattle.std.specs.List.{filter, find, slice_get}
use Rattle.std.specs.Option.{option_map}
use Rattle.std.proofs.lemmas.Bool.{cases_lt}
use Rattle.std.proofs.lemmas.List.{length-map}
use Rattle.std.proofs.lemmas.Simd.{map-map}
use Rattle.hoare_law.specs.declared.event.History.{History}
use Rattle.hoare_law.specs.Events.{place_of}
use Rattle.hoare_law.specs.Waiting.{waiting, priority_of, chosen}
use Rattle.hoare_law.specs.Priorities.{put_in, in_order, priorities, joined, taken, emptied, behind_first}
use Rattle.hoare_law.proofs.Sorted as sorted
use Rattle.hoare_law.proofs.Filters.{map-none}
use Rattle.hoare_law.proofs.Firsts.{first_of-map, slice_index-map}
use Rattle.hoare_law.proofs.Sorted.{map-in_order, in_order-none, map-put_in, find-filter}
use Rattle.hoare_law.proofs.Tests.{eq_swap}
use Rattle.wait_book.specs.declared.waiter.Waiter.{Waiter}
use Rattle.wait_book.specs.Contents.{Contents, IsOf, priorities_on, wait_of, waiters_on}
use Rattle.wait_book.specs.Insides.{IsSound}
use Rattle.wait_book.specs.Queues.{PutsIn, TakesAll, Removes, IsFirst}
use Rattle.wait_book.proofs.Waiters.{on, key, filter-taken_on, filter-taken_off}
use Rattle.wait_book.proofs.Sound.{told, waited, resumed, Resumes, taken_ordered}
use Rattle.wait_book.proofs.Histories.{chosen-first_on, chosen-nobody}
use Rattle.wait_book.proofs.Signalled.{NobodyWaits}

-- the waiting priorities are those of the waiters, in the order of the list
pub priorities_on-are : (b : Contents) (c : ℕ) → in_order key (waiters_on c b) ≡ waiters_on c b
    → priorities_on b c ≡ map key (waiters_on c b)
priorities_on-are b c r = sym (map-in_order key (waiters_on c b)) ∙ ap (map key) r

-- there are none if no process waits
pub priorities_on-nobody : (b : Contents) (c : ℕ) → waiters_on c b ≡ [] → priorities_on b c ≡ []
priorities_on-nobody b c n = ap (λ l. in_order (λ p. p) (map key l)) n

-- if there are none, no process waits
pub priorities_on-none : (b : Contents) (c : ℕ) → in_order key (waiters_on c b) ≡ waiters_on c b
    → priorities_on b c ≡ [] → waiters_on c b ≡ []
priorities_on-none b c r e = map-none key (waiters_on c b) (sym (priorities_on-are b c r) ∙ e)

-- the same for an equal book: there are none if no process waits
pub no_priority_on : {b d : Contents} (c : ℕ) → b ≡ d → waiters_on c b ≡ [] → priorities_on d c ≡ []
no_priority_on {b = b} c e n = subst (λ (v : Contents). priorities_on v c ≡ []) e (priorities_on-nobody b c n)

-- there are some if a waiter is removed
pub priorities_on-taken : {b d : Contents} {k c w : ℕ} {ws : List Waiter} (r : Resumes b k c w ws)
    → IsFirst c r.took.before → b ≡ d → priorities_on d c ≢ []
priorities_on-taken {b = b} {c = c} {w = w} {ws = ws} r first e = λ none.
    let a = filter-taken_on c b.waiters ws w r.took first in
    let n : waiters_on c b ≡ [] =
    priorities_on-none b c (r.by.sound.ordered c) (ap (λ (v : Contents). priorities_on v c) e ∙ none) in
    absurd (cc)

-- the waiting priorities are those of the history
pub priorities_on-history : {b d : Contents} (h : History (Unit {0})) (c : ℕ) → b ≡ d → IsSound b → IsOf d h
    → priorities_on d c ≡ priorities h.events c
unfolding priorities
priorities_on-history {b = b} {d = d} h c e s o =
    ap (λ (v : Contents). priorities_on v c) (sym e) ∙ priorities_on-are b c (s.ordered c)
    ∙ ap (λ (v : Contents). map key (waiters_on c v)) e
    ∙ sym (map-map priority_of wait_of (waiters_on c d)) ∙ ap (map priority_of) (o.waiters c)

-- if no process waits on c in the book, none does in the history
pub waiting-none : (b : Contents) (h : History (Unit {0})) (c : ℕ) → IsOf b h → waiters_on c b ≡ []
    → waiting c h.events ≡ []
waiting-none b h c o n = in_order-none priority_of (waiting c h.events) (sym (o.waiters c) ∙ ap (map wait_of) n)

-- if no process waits on c in the history, none does in the book
pub waiters_on-none : (b : Contents) (h : History (Unit {0})) (c : ℕ) → IsOf b h → waiting c h.events ≡ []
    → waiters_on c b ≡ []
waiters_on-none b h c o n = map-none wait_of (waiters_on c b) (o.waiters c ∙ ap (in_order priority_of) n)

-- the first

-- the priority of the first waiter is that of the chosen wait
pub first-chosen : (b : Contents) (h : History (Unit {0})) (c : ℕ) → IsOf b h
    → option_map key (find (on c) b.waiters) ≡ option_map priority_of (chosen c h.events)
first-chosen b h c o =
    ap (option_map key) (find-filter (on c) b.waiters) ∙ sym (first_of-map key (waiters_on c b))
    ∙ ap sorted.first_of (sym (map-map priority_of wait_of (waiters_on c b)))
    ∙ first_of-map priority_of (map wait_of (waiters_on c b))
    ∙ ap (option_map priority_of) (sym (chosen-first_on b h c o))

-- the place of the first waiter is that of the chosen wait
pub first-chosen_place : (b : Contents) (h : History (Unit {0})) (c : ℕ) → IsOf b h
    → option_map (λ (w : Waiter). w.place) (find (on c) b.waiters) ≡ option_map place_of (chosen c h.events)
first-chosen_place b h c o =
    let place : Waiter → ℕ = λ w. w.place in
    ap (option_map place) (find-filter (on c) b.waiters) ∙ sym (first_of-map place (waiters_on c b))
    ∙ ap sorted.first_of (sym (map-map place_of wait_of (waiters_on c b)))
    ∙ first_of-map place_of (map wait_of (waiters_on c b)) ∙ ap (option_map place_of) (sym (chosen-first_on b h c o))

-- the priority of the first waiter is the first waiting priority
pub first-priority : (b d : Contents) (c : ℕ) → b ≡ d → IsSound b
    → option_map key (find (on c) b.waiters) ≡ sorted.first_of (priorities_on d c)
first-priority b d c e s =
    ap (option_map key) (find-filter (on c) b.waiters) ∙ sym (first_of-map key (waiters_on c b))
    ∙ ap sorted.first_of (sym (priorities_on-are b c (s.ordered c)))
    ∙ ap (λ (v : Contents). sorted.first_of (priorities_on v c)) e

-- what a wait and a signal do

-- a wait inserts its priority
pub priorities_on-joined : {b d : Contents} (w : Waiter) (ws : List Waiter) (c : ℕ) → PutsIn w b.waiters ws → b ≡ d
    → IsSound b → IsSound (waited ws b)
    → priorities_on (waited ws b) c ≡ joined (priorities_on d) w.condition w.priority c
priorities_on-joined {b = b} w ws c p e s t =
    priorities_on-are (waited ws b) c (t.ordered c) ∙ ap (map key) (p.on c) ∙ by (on c w) (waiters_on c b)
    ∙ ap (λ l. cond (on c w) (put_in (λ n. n) w.priority l) l) (sym (priorities_on-are b c (s.ordered c)))
    ∙ ap (λ t. cond t (put_in (λ n. n) w.priority (priorities_on b c)) (priorities_on b c)) (eq_swap w.condition c)
    ∙ ap (λ (v : Contents). joined (priorities_on v) w.condition w.priority c) e
  where
    by : (t : Bool) (vs : List Waiter)
        → map key (cond t (put_in key w vs) vs) ≡ cond t (put_in (λ n. n) w.priority (map key vs)) (map key vs)
    by true vs = map-put_in key w vs
    by false vs = refl

taken_by : (t : Bool) (c d : ℕ) (b : Contents) (ws : List Waiter) (w : ℕ) → (d == c) ≡ t
    → (u : Removes c b.waiters ws w) → IsFirst c u.before
    → map key (filter (on d) ws) ≡ cond t (behind_first (map key (waiters_on d b))) (map key (waiters_on d b))
taken_by true c d b ws w e t first =
    subst (λ (a : ℕ). map key (filter (on a) ws) ≡ behind_first (map key (waiters_on a b))) (sym (eqb-true d c e))
    (sym (ap (λ l. behind_first (map key l)) (filter-taken_on c b.waiters ws w t first)))
taken_by false c d b ws w e t first = ap (map key) (sym (filter-taken_off c d b.waiters ws w t (eq_swap c d ∙ e)))

-- a signal and a pass remove the first priority
priorities_after : (b : Contents) (us : List ℕ) (k c w d : ℕ) (ws : List Waiter) (r : Resumes b k c w ws)
    → IsFirst c r.took.before → priorities_on (resumed ws us w c b) d ≡ taken (priorities_on b) c d
priorities_after b us k c w d ws r first =
    priorities_on-are (resumed ws us w c b) d (taken_ordered b k c w ws r d)
    ∙ taken_by (d == c) c d b ws w refl r.took first
    ∙ ap (λ l. cond (d == c) (behind_first l) l) (sym (priorities_on-are b d (r.by.sound.ordered d)))

-- the same for an equal book
pub priorities_on-after : {b e : Contents} {k c w : ℕ} {ws : List Waiter} (us : List ℕ) → b ≡ e
    → (r : Resumes b k c w ws) → IsFirst c r.took.before → (d : ℕ)
    → priorities_on (resumed ws us w c b) d ≡ taken (priorities_on e) c d
priorities_on-after {b = b} {k = k} {c = c} {w = w} {ws = ws} us q r first d =
    priorities_after b us k c w d ws r first ∙ ap (λ (v : Contents). taken (priorities_on v) c d) q

-- if no process waits, they remove nothing
pub priorities_on-untaken : {b d v : Contents} (c e : ℕ) (ps : List ℕ) → b ≡ d → NobodyWaits c b v
    → ps ≡ priorities_on v e → ps ≡ taken (priorities_on d) c e
priorities_on-untaken {b = b} {d = d} c e ps is none same =
    same ∙ ap (λ (u : Contents). priorities_on u e) (none.same ∙ is) ∙ by (e == c) refl
  where
    by : (t : Bool) → (e == c) ≡ t → priorities_on d e ≡ cond t (behind_first (priorities_on d e)) (priorities_on d e)
    by true q =
        let empty : priorities_on d e ≡ [] =
        subst (λ (j : ℕ). priorities_on d j ≡ []) (sym (eqb-true e c q)) (no_priority_on c is none.nobody) in
        empty ∙ sym (ap behind_first empty)
    by false q = refl

-- how many wait, and the priority of the i-th

-- there are as many waiters as priorities
pub length-priorities_on : (b d : Contents) (c : ℕ) → b ≡ d → IsSound b
    → length (waiters_on c b) ≡ length (priorities_on d c)
length-priorities_on b d c e s =
    sym (length-map (waiters_on c b) key) ∙ ap length (sym (priorities_on-are b c (s.ordered c)))
    ∙ ap (λ (v : Contents). length (priorities_on v c)) e

-- so each priority has its waiter
pub length-waiters_on : (b d : Contents) (c i : ℕ) → b ≡ d → IsSound b → i < length (priorities_on d c)
    → i < length (waiters_on c b)
length-waiters_on b d c i e s l = omega (arith, length-priorities_on b d c e s)

-- the priority of the i-th waiter, as the code found it
pub nth-priority : {b d : Contents} (c i : ℕ) {o : Option ℕ} → b ≡ d → IsSound b
    → o ≡ option_map key (slice_get (waiters_on c b) i)
    → i < length (priorities_on d c) → o ≡ Some (slice_index (priorities_on d c) i)
nth-priority {b = b} {d = d} c i {o = o} e s r l =
    slice_index-map key (waiters_on c b) i o r (length-waiters_on b d c i e s l)
    ∙ ap (λ x. Some (slice_index x i)) (sym (priorities_on-are b c (s.ordered c)))
    ∙ ap (λ (v : Contents). Some (slice_index (priorities_on v c) i)) e

-- so the condition is the book's
pub fits-condition : (b d : Contents) (c i : ℕ) → b ≡ d → IsSound b → i < length (priorities_on d c)
    → c < b.sizes.conditions
fits-condition b d c i e s l =
    elim (cases_lt c b.sizes.conditions) [
      | inl h ↦ h
      | inr h ↦ absurd (omega (arith, length-waiters_on b d c i e s l, ap length (s.on_conditions c h)))
    ]

-- if a process waits

-- the result is true exactly if a process waits on c
abbrev SaysWaiting : ℕ → History (Unit {0}) → Bool → Type 0
SaysWaiting c h r = (r ≡ true → waiting c h.events ≡ [] → ⊥) × ((waiting c h.events ≢ []) → r ≡ true)

queue_by : (ws : List Waiter) (b : Contents) (h : History (Unit {0})) (c : ℕ) (f : Option ℕ) (r : Bool)
    → waiters_on c b ≡ ws → IsOf b h
    → f ≡ option_map priority_of (chosen c h.events) → r ≡ is_some f → SaysWaiting c h r
queue_by [] b h c f r e o q i =
    let n : option_map priority_of (chosen c h.events) ≡ None = ap (option_map priority_of) (chosen-nobody b h c o e) in
    let m : r ≡ false = i ∙ ap is_some (q ∙ n) in
    ((λ t. absurd (cc)), (λ w. absurd (w (waiting-none b h c o e))))
queue_by (w ∷ ws) b h c f r e o q i =
    let n : option_map priority_of (chosen c h.events) ≡ Some w.priority =
    ap (option_map priority_of) (chosen-first_on b h c o ∙ ap (λ l. sorted.first_of (map wait_of l)) e) in
    let m : r ≡ true = i ∙ ap is_some (q ∙ n) in
    ((λ t z. absurd (let a = waiters_on-none b h c o z in cc)), (λ z. m))

-- a wait is chosen exactly if a process waits
pub queue-waiting : (b : Contents) (h : History (Unit {0})) (c : ℕ) (f : Option ℕ) (r : Bool) → IsOf b h
    → f ≡ option_map priority_of (chosen c h.events) → r ≡ is_some f
    → SaysWaiting c h r
queue-waiting b h c f r o q i = queue_by (waiters_on c b) b h c f r refl o q i

-- a broadcast leaves no priority on its condition
pub priorities_on-emptied : {b e : Contents} (c d : ℕ) (ws vs : List Waiter) → b ≡ e → TakesAll c b.waiters ws
    → priorities_on (told ws vs b) d ≡ emptied (priorities_on e) c d
priorities_on-emptied {b = b} c d ws vs q t =
    ap (λ l. in_order (λ p. p) (map key l)) (t.on d) ∙ by (d == c)
    ∙ ap (λ (v : Contents). emptied (priorities_on v) c d) q
  where
    by : (r : Bool) → in_order (λ p. p) (map key (cond r [] (waiters_on d b))) ≡ cond r [] (priorities_on b d)
    by true = refl
    by false = refl
