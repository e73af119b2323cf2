-- Of two waiters with equal priorities the first to wait is the first to be taken.
use Rattle.std.proofs.Common.{◌≡◌, ◌≢◌, ◌==◌, ◌<◌, ◌≤◌, ℕ, suc, List, [], ◌∷◌, ◌++◌, length, Bool, true, false}
use Rattle.std.proofs.Common.{cond, Some, refl, ap, sym, ◌∙◌, subst, arith, eq-eqb, append_assoc}
use Rattle.std.specs.Prelude.{All}
use Rattle.std.specs.List.{filter}
use Rattle.hoare_law.specs.declared.event.Event.{Event}
use Rattle.hoare_law.specs.Events.{place_of}
use Rattle.hoare_law.specs.Waiting.{priority_of, waiting, chosen}
use Rattle.hoare_law.proofs.Filters.{All-at}
use Rattle.hoare_law.proofs.Rules.{chosen-longest}
use Rattle.hoare_law.proofs.Waiters.{waiting-once}

module _ {X : Type 0} (test : X → Bool) where
  more_pass : (z : X) (xs : List X) → length (filter test xs) ≤ length (filter test (z ∷ xs))
  more_pass z xs = by (test z)
    where
      by : (t : Bool) → length (filter test xs) ≤ length (cond t (z ∷ filter test xs) (filter test xs))
      by true = omega arith
      by false = omega arith

  some_pass : (front behind : List X) (y : X) → test y ≡ true → 0 < length (filter test (front ++ y ∷ behind))
  some_pass [] behind y passes = rw passes (omega arith)
  some_pass (z ∷ front) behind y passes =
      omega (arith, more_pass z (front ++ y ∷ behind), some_pass front behind y passes)

  -- if y alone passes, x comes before y, however the list is divided
  stands_before : (longer between shorter front back : List X) (x y : X)
      → longer ++ x ∷ (between ++ y ∷ shorter) ≡ front ++ y ∷ back → test y ≡ true
      → length (filter test (front ++ y ∷ back)) ≤ 1
      → (us vs : List X) × (front ≡ us ++ x ∷ vs)
  stands_before [] between shorter [] back x y is passes once =
      let rest : between ++ y ∷ shorter ≡ back = cc in
      let some : 0 < length (filter test back) =
      subst (λ (l : List X). 0 < length (filter test l)) rest (some_pass between shorter y passes) in
      let two : length (filter test (y ∷ back)) ≡ suc (length (filter test back)) = rw passes refl in
      absurd (omega (arith, once, some, two))
  stands_before [] between shorter (z ∷ front) back x y is passes once =
      let same : x ≡ z = cc in ([], front, ap (λ w. w ∷ front) (sym same))
  stands_before (l ∷ longer) between shorter [] back x y is passes once =
      let rest : longer ++ x ∷ (between ++ y ∷ shorter) ≡ back = cc in
      let parted : (longer ++ x ∷ between) ++ y ∷ shorter ≡ back =
      append_assoc longer (x ∷ between) (y ∷ shorter) ∙ rest in
      let some : 0 < length (filter test back) =
      subst (λ (l : List X). 0 < length (filter test l)) parted (some_pass (longer ++ x ∷ between) shorter y passes) in
      let two : length (filter test (y ∷ back)) ≡ suc (length (filter test back)) = rw passes refl in
      absurd (omega (arith, once, some, two))
  stands_before (l ∷ longer) between shorter (z ∷ front) back x y is passes once =
      let rest : longer ++ x ∷ (between ++ y ∷ shorter) ≡ front ++ y ∷ back = cc in
      let fewer = more_pass z (front ++ y ∷ back) in
      let r = stands_before longer between shorter front back x y rest passes (omega (arith, once, fewer)) in
      (z ∷ r.0, r.1, ap (λ t. z ∷ t) r.2)

-- the chosen waiter doesn't come after a waiter of its priority or a lesser one
pub first_come : {S : Type 0} (c : ℕ) (h longer between shorter : List (Event S)) (x y : Event S)
    → waiting c h ≡ longer ++ x ∷ (between ++ y ∷ shorter) → priority_of x ≤ priority_of y → chosen c h ≢ Some y
first_come {S = S} c h longer between shorter x y is low chosen_is =
    let r = chosen-longest c h y chosen_is in
    let test : Event S → Bool = λ z. place_of y == place_of z in
    let once = subst (λ (l : List (Event S)). length (filter test l) ≤ 1) r.2 (waiting-once c (place_of y) h) in
    let b = stands_before test longer between shorter r.0 r.1 x y (sym is ∙ r.2) (eq-eqb (place_of y) (place_of y) refl)
    once in
    let greater : priority_of y < priority_of x =
    All-at (λ z. priority_of y < priority_of z) b.0 x b.1
    (subst (λ (l : List (Event S)). All (λ z. priority_of y < priority_of z) l) b.2 r.3) in
    omega (arith, greater, low)
