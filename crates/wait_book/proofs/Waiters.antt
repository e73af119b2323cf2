-- The list of the waiters: what the removal and the insertion of a waiter do to the places and to each condition.
use Rattle.std.proofs.Common.{◌≡◌, ◌==◌, ℕ, suc, ◌+◌, ◌≤◌, Bool, true, false, not, eqb, eqb-true, ◌||◌}
use Rattle.std.proofs.Common.{List, ◌∷◌, ◌++◌, length, map, refl, ap, sym, ◌∙◌, arith}
use Rattle.std.specs.List.{filter}
use Rattle.std.proofs.lemmas.Bool.Decides.{nat_tests}
use Rattle.std.proofs.lemmas.List.{length-append, map-append}
use Rattle.std.proofs.lemmas.List.Elements.{filter-append}
use Rattle.hoare_law.proofs.Filters.{filter-or}
use Rattle.wait_book.specs.declared.waiter.Waiter.{Waiter}
use Rattle.wait_book.specs.Contents.{one, times}
use Rattle.wait_book.specs.Queues.{Removes, IsFirst}
use Rattle.wait_book.proofs.Times.{eq_self, one_same, times-append, list_all-apart, filter-apart}

-- the waiter is on c
abbrev pub on : ℕ → Waiter → Bool
on c = λ (w : Waiter). w.condition == c

-- the places of the waiters
abbrev pub places : List Waiter → List ℕ
places ws = map (λ (w : Waiter). w.place) ws

-- the priority of a waiter
abbrev pub key : Waiter → ℕ
key = λ (w : Waiter). w.priority

-- what was removed, by condition

-- if the first was removed, the waiters on c were that waiter and those that remain
pub filter-taken_on : (c : ℕ) (old new : List Waiter) (k : ℕ) (t : Removes c old new k) → IsFirst c t.before
    → filter (on c) old ≡ t.first ∷ filter (on c) new
filter-taken_on c old new k t none_before =
    let here : on c t.first ≡ true = ap (λ d. d == c) t.on ∙ eq_self c in
    let cut : filter (on c) (t.first ∷ t.after) ≡ t.first ∷ filter (on c) t.after = (rw here refl) in
    let left : filter (on c) old ≡ t.first ∷ filter (on c) t.after =
    ap (filter (on c)) t.was ∙ filter-append (on c) t.before (t.first ∷ t.after)
    ∙ ap (λ l. l ++ filter (on c) (t.first ∷ t.after)) none_before ∙ cut in
    let right : filter (on c) new ≡ filter (on c) t.after =
    ap (filter (on c)) t.is ∙ filter-append (on c) t.before t.after
    ∙ ap (λ l. l ++ filter (on c) t.after) none_before in
    left ∙ ap (λ l. t.first ∷ l) (sym right)

-- the waiters on another condition remain
pub filter-taken_off : (c d : ℕ) (old new : List Waiter) (k : ℕ) → Removes c old new k → (c == d) ≡ false
    → filter (on d) old ≡ filter (on d) new
filter-taken_off c d old new k t apart =
    let there : on d t.first ≡ false = ap (λ e. e == d) t.on ∙ apart in
    let cut : filter (on d) (t.first ∷ t.after) ≡ filter (on d) t.after = (rw there refl) in
    ap (filter (on d)) t.was ∙ filter-append (on d) t.before (t.first ∷ t.after)
    ∙ ap (λ l. filter (on d) t.before ++ l) cut
    ∙ sym (ap (filter (on d)) t.is ∙ filter-append (on d) t.before t.after)

-- the list is one shorter
pub length-taken : (c : ℕ) (old new : List Waiter) (k : ℕ) → Removes c old new k → length old ≡ suc (length new)
length-taken c old new k t =
    omega
    (arith, ap length t.was, ap length t.is, length-append t.before (t.first ∷ t.after), length-append t.before t.after)

-- what was removed, by place

-- the counts of a place in two lists add up in the joined list
pub times-places : (j : ℕ) (xs ys : List Waiter)
    → times j (places (xs ++ ys)) ≡ times j (places xs) + times j (places ys)
times-places j xs ys =
    ap (times j) (map-append (λ (w : Waiter). w.place) xs ys) ∙ times-append j (places xs) (places ys)

-- the place of the removed waiter is in the list once less
pub times-taken : (j c : ℕ) (old new : List Waiter) (k : ℕ) → Removes c old new k
    → times j (places old) ≡ times j (places new) + one j k
times-taken j c old new k t =
    let a : times j (places old) ≡ times j (places (t.before ++ t.first ∷ t.after)) =
    ap (λ l. times j (places l)) t.was in
    let b : times j (places new) ≡ times j (places (t.before ++ t.after)) = ap (λ l. times j (places l)) t.is in
    let e : one j t.first.place ≡ one j k = ap (one j) t.place in
    omega (arith, times-places j t.before (t.first ∷ t.after), times-places j t.before t.after)

-- a filter that only two places fail leaves a list without these places as it is
pub filter-two_apart : (k w : ℕ) (ws : List Waiter) → times k (places ws) ≡ 0 → times w (places ws) ≡ 0
    → filter (λ (v : Waiter). not (eqb k v.place || eqb w v.place)) ws ≡ ws
filter-two_apart k w ws y z =
    filter-or (λ (v : Waiter). eqb k v.place) (λ (v : Waiter). eqb w v.place) ws
    (list_all-apart (λ (v : Waiter). v.place) k (λ (v : Waiter). not (eqb k v.place)) ws (λ v t. ap not t) y)
    ∙ filter-apart (λ (v : Waiter). v.place) w (λ (v : Waiter). not (eqb w v.place)) ws (λ v t. ap not t) z

or_true : (a b : Bool) → b ≡ true → not (a || b) ≡ false
or_true true b h = refl
or_true false b h = rw h refl

-- if k isn't among the waiters and the removed place w is once, the filter that k and w fail removes only w
pub filter-taken : (k c : ℕ) (old new : List Waiter) (w : ℕ) → Removes c old new w → times k (places old) ≡ 0
    → times w (places old) ≤ 1
    → filter (λ (v : Waiter). not (eqb k v.place || eqb w v.place)) old ≡ new
filter-taken k c old new w t y z =
    let p : Waiter → Bool = λ v. not (eqb k v.place || eqb w v.place) in
    let a : times k (places old) ≡ times k (places new) + one k w = times-taken k c old new w t in
    let b : times w (places old) ≡ times w (places new) + one w w = times-taken w c old new w t in
    let away : p t.first ≡ false =
    or_true (eqb k t.first.place) (eqb w t.first.place) (ap (λ x. eqb w x) t.place ∙ eq_self w) in
    let cut : filter p (t.first ∷ t.after) ≡ filter p t.after = (rw away refl) in
    let stay : filter p new ≡ new = filter-two_apart k w new (omega arith) (omega (arith, one_same w)) in
    ap (filter p) t.was ∙ filter-append p t.before (t.first ∷ t.after) ∙ ap (λ l. filter p t.before ++ l) cut
    ∙ sym (ap (filter p) t.is ∙ filter-append p t.before t.after) ∙ stay

-- if the first count of a place is 0, the place is nowhere exactly if its second count is 0
pub nowhere : (a t : Bool) (x z n : ℕ) → a ≡ false → not a ≡ (x == 0) → not t ≡ (z == 0) → n ≡ x + z → not t ≡ (n == 0)
nowhere a t x z n p e g s =
    let m : (x == 0) ≡ true = sym e ∙ ap not p in
    let i : n ≡ z = omega (arith, eqb-true x 0 m) in
    g ∙ sym (ap (λ v. v == 0) i)

-- a place is somewhere if a part of its count isn't 0
pub somewhere : (a : Bool) (x n : ℕ) → a ≡ true → not a ≡ (x == 0) → x ≤ n → false ≡ (n == 0)
somewhere a x n p e l = let m : (x == 0) ≡ false = sym e ∙ ap not p in grind (arith, nat_tests)
