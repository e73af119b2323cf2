-- What follows from the rules: which process acts next, and which waiter is chosen.
use Rattle.std.proofs.Common.{◌≡◌, ◌<◌, ◌≤◌, ℕ, List, [], ◌∷◌, ◌++◌, Bool, true, false, cond, leb, Some, refl, ap, sym}
use Rattle.std.proofs.Common.{◌∙◌, arith}
use Rattle.std.specs.Prelude.{All}
use Rattle.std.specs.List.{find}
use Rattle.std.proofs.lemmas.Bool.Decides.{nat_tests}
use Rattle.std.proofs.lemmas.List.Elements.{All-nil, All-cons, All-weaker}
use Rattle.hoare_law.specs.declared.event.Event.{Event}
use Rattle.hoare_law.specs.declared.event.History.{History}
use Rattle.hoare_law.specs.declared.event.Event.TheVariants.{Admit, Wait, Signal, Pass, Leave, Resume, Back, Notify}
use Rattle.hoare_law.specs.declared.event.Event.TheVariants.{Broadcast, SignalTo}
use Rattle.hoare_law.specs.declared.turn.Turn.TheVariants.{Free, Held, Owed, Return}
use Rattle.hoare_law.specs.Events.{latest_data, with_event}
use Rattle.hoare_law.specs.Waiting.{priority_of, waiting, is_least, chosen}
use Rattle.hoare_law.specs.Turns.{turn}
use Rattle.hoare_law.specs.Legal.{Allowed}
use Rattle.hoare_law.proofs.Tests.{both_true}
use Rattle.hoare_law.proofs.Events.{latest_data-push}
use Rattle.hoare_law.proofs.Held.{Hand, handing, data_of-handing}
use Rattle.hoare_law.proofs.Leaving.{turn-handing}
use Rattle.hoare_law.proofs.Waiters.{chosen-least}

-- the element found comes after those that fail the test
find-split : {X : Type 0} (p : X → Bool) (xs : List X) (x : X) → find p xs ≡ Some x
    → (front behind : List X) × (xs ≡ front ++ x ∷ behind) × All (λ y. p y ≡ false) front
find-split p [] x is = absurd (cc)
find-split {X = X} p (y ∷ xs) x is = by (p y) refl is (λ f. find-split p xs x f)
  where
    by : (t : Bool) → p y ≡ t → cond t (Some y) (find p xs) ≡ Some x
        → (find p xs ≡ Some x → (front behind : List X) × (xs ≡ front ++ x ∷ behind) × All (λ z. p z ≡ false) front)
        → (front behind : List X) × (y ∷ xs ≡ front ++ x ∷ behind) × All (λ z. p z ≡ false) front
    by true t f more = let same : y ≡ x = cc in ([], xs, ap (λ z. z ∷ xs) same, All-nil (λ z. p z ≡ false))
    by false t f more =
        let r : (front behind : List X) × (xs ≡ front ++ x ∷ behind) × All (λ z. p z ≡ false) front = more f in
        (y ∷ r.0, r.1, ap (λ l. y ∷ l) r.2, All-cons (λ z. p z ≡ false) y r.0 t r.3)

module _ {S : Type 0} where
  least_all : (ws : List (Event S)) (x : Event S) → is_least ws x ≡ true → All (λ y. priority_of x ≤ priority_of y) ws
  least_all [] x a = All-nil (λ y. priority_of x ≤ priority_of y)
  least_all (w ∷ ws) x a =
      let b : (leb (priority_of x) (priority_of w) ≡ true) × (is_least ws x ≡ true) = both_true _ _ a in
      All-cons (λ y. priority_of x ≤ priority_of y) w ws (grind (arith, nat_tests)) (least_all ws x b.1)

  least_more : (ws : List (Event S)) (x y : Event S) → priority_of y ≤ priority_of x → is_least ws x ≡ true
      → is_least ws y ≡ true
  least_more [] x y le a = refl
  least_more (w ∷ ws) x y le a =
      let b : (leb (priority_of x) (priority_of w) ≡ true) × (is_least ws x ≡ true) = both_true _ _ a in
      let t : leb (priority_of y) (priority_of w) ≡ true = grind (arith, nat_tests) in
      rw t (least_more ws x y le b.1)

  not_least : (ws : List (Event S)) (x y : Event S) → is_least ws x ≡ true → is_least ws y ≡ false
      → priority_of x < priority_of y
  not_least ws x y a n = by (leb (priority_of y) (priority_of x)) refl
    where
      by : (t : Bool) → leb (priority_of y) (priority_of x) ≡ t → priority_of x < priority_of y
      by true is = let yes : is_least ws y ≡ true = least_more ws x y (grind (arith, nat_tests)) a in absurd (cc)
      by false is = grind (arith, nat_tests)

  -- no waiter has a smaller priority than the chosen one
  pub chosen-no_less : (c : ℕ) (h : List (Event S)) (x : Event S) → chosen c h ≡ Some x
      → All (λ y. priority_of x ≤ priority_of y) (waiting c h)
  chosen-no_less c h x is = least_all (waiting c h) x (chosen-least c h x is)

  -- each waiter that waits longer than the chosen one has a greater priority
  pub chosen-longest : (c : ℕ) (h : List (Event S)) (x : Event S) → chosen c h ≡ Some x
      → (longer shorter : List (Event S)) × (waiting c h ≡ longer ++ x ∷ shorter)
      × All (λ y. priority_of x < priority_of y) longer
  unfolding chosen
  chosen-longest c h x is =
      let r : (front behind : List (Event S)) × (waiting c h ≡ front ++ x ∷ behind)
      × All (λ y. is_least (waiting c h) y ≡ false) front =
      find-split (is_least (waiting c h)) (waiting c h) x is in (
        r.0,
        r.1,
        r.2,
        All-weaker (λ y. is_least (waiting c h) y ≡ false) (λ y. priority_of x < priority_of y)
            (λ y n. not_least (waiting c h) x y (chosen-least c h x is) n) r.0 r.3,
      )

  -- it is w's turn to resume: only w acts next, with the data as they were left
  pub only_resume : (f : History S) (e : Event S) (w c : ℕ) → turn f.events ≡ Owed w c → Allowed f e
      → e ≡ Resume w c (latest_data f)
  only_resume f (Resume j d s) w c is a =
      let t : Owed j d ≡ Owed w c = sym a.fits.0 ∙ is in
      let who : j ≡ w = cc in let on : d ≡ c = cc in λ i. Resume (who i) (on i) (a.fits.1 i)
  only_resume f (Admit j s) w c is a = let t : Free ≡ Owed w c = sym a.fits.0 ∙ is in absurd (cc)
  only_resume f (Wait j d p s) w c is a = let t : Held j ≡ Owed w c = sym a.fits ∙ is in absurd (cc)
  only_resume f (Signal j d v s) w c is a = let t : Held j ≡ Owed w c = sym a.fits.0 ∙ is in absurd (cc)
  only_resume f (SignalTo j d v s) w c is a = let t : Held j ≡ Owed w c = sym a.fits.0 ∙ is in absurd (cc)
  only_resume f (Pass j d v s) w c is a = let t : Held j ≡ Owed w c = sym a.fits.0 ∙ is in absurd (cc)
  only_resume f (Leave j s) w c is a = let t : Held j ≡ Owed w c = sym a.fits ∙ is in absurd (cc)
  only_resume f (Notify j d v s) w c is a = let t : Held j ≡ Owed w c = sym a.fits.0 ∙ is in absurd (cc)
  only_resume f (Broadcast j d s) w c is a = let t : Held j ≡ Owed w c = sym a.fits.0 ∙ is in absurd (cc)
  only_resume f (Back j s) w c is a = let t : Return j ≡ Owed w c = sym a.fits.0 ∙ is in absurd (cc)

  -- after a signal or a pass only the resumed process acts next, with the data as they were left
  pub after_handing : (out : Hand) (f : History S) (k c w : ℕ) (s : S) (e : Event S)
      → Allowed (with_event f (handing out k c w s)) e → e ≡ Resume w c s
  after_handing out f k c w s e a =
      only_resume (with_event f (handing out k c w s)) e w c (turn-handing out f k c w s) a
      ∙ ap (λ t. Resume w c t) (latest_data-push f (handing out k c w s) ∙ data_of-handing out k c w s)

  -- it is k's turn to return: only k acts next, with the data as they were left
  pub only_back : (f : History S) (e : Event S) (k : ℕ) → turn f.events ≡ Return k → Allowed f e
      → e ≡ Back k (latest_data f)
  only_back f (Back j s) k is a =
      let t : Return j ≡ Return k = sym a.fits.0 ∙ is in
      let same : j ≡ k = cc in λ i. Back (same i) (a.fits.1 i)
  only_back f (Admit j s) k is a = let t : Free ≡ Return k = sym a.fits.0 ∙ is in absurd (cc)
  only_back f (Wait j d p s) k is a = let t : Held j ≡ Return k = sym a.fits ∙ is in absurd (cc)
  only_back f (Signal j d v s) k is a = let t : Held j ≡ Return k = sym a.fits.0 ∙ is in absurd (cc)
  only_back f (SignalTo j d v s) k is a = let t : Held j ≡ Return k = sym a.fits.0 ∙ is in absurd (cc)
  only_back f (Pass j d v s) k is a = let t : Held j ≡ Return k = sym a.fits.0 ∙ is in absurd (cc)
  only_back f (Leave j s) k is a = let t : Held j ≡ Return k = sym a.fits ∙ is in absurd (cc)
  only_back f (Notify j d v s) k is a = let t : Held j ≡ Return k = sym a.fits.0 ∙ is in absurd (cc)
  only_back f (Broadcast j d s) k is a = let t : Held j ≡ Return k = sym a.fits.0 ∙ is in absurd (cc)
  only_back f (Resume j d s) k is a = let t : Owed j d ≡ Return k = sym a.fits.0 ∙ is in absurd (cc)
