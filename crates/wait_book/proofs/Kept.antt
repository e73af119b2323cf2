-- Each link in the chain of a condition records that condition: after an insertion, a removal, and the move of all
-- links.
use Rattle.std.proofs.Common.{◌≡◌, refl, ℕ, ◌<◌, inl, inr, List, [], ◌∷◌, ◌++◌, ap, sym, ◌∙◌, subst, arith}
use Rattle.std.specs.Prelude.{All}
use Rattle.std.proofs.lemmas.Bool.{cases_eq}
use Rattle.std.proofs.lemmas.List.{append-nil}
use Rattle.std.proofs.lemmas.List.Elements.{All-nil, All-cons, All-head, All-tail}
use Rattle.wait_book.specs.declared.book.TheConstants.{MOST_CONDITIONS}
use Rattle.wait_book.specs.declared.chains.TheConstants.{CALLED}
use Rattle.wait_book.specs.declared.chains.Link.{Link}
use Rattle.wait_book.specs.Lists.{Lists, IsJoined, list_at, list_put}
use Rattle.wait_book.specs.Linked.{AreKept}
use Rattle.wait_book.proofs.Lists.{put_same, put_other}

abbrev Waited : ℕ → Link → Type 0
Waited c x = x.condition ≡ c

-- the same for an equal value
pub AreKept-equal : {v w : Lists} → v ≡ w → AreKept (list_at v) → AreKept (list_at w)
AreKept-equal e m = subst (λ (u : Lists). AreKept (list_at u)) e m

-- it holds of empty chains
pub AreKept-none : (at : ℕ → List Link) → ((c : ℕ) → at c ≡ []) → AreKept at
AreKept-none at none = λ c l. subst (All (Waited c)) (sym (none c)) (All-nil (Waited c))

-- it holds with another list in chain c
pub AreKept-list : (at bt : ℕ → List Link) (c : ℕ) (xs : List Link) → AreKept at
    → (c < MOST_CONDITIONS → All (Waited c) xs) → ((d : ℕ) → bt d ≡ list_put c xs at d) → AreKept bt
AreKept-list at bt c xs m here lists = λ d l.
    elim (cases_eq d c) [
      | inl e ↦
          let h : All (Waited c) (bt c) =
          subst (All (Waited c)) (sym (lists c ∙ put_same c xs at)) (here (omega arith)) in
          subst (λ (j : ℕ). All (Waited j) (bt j)) (sym e) h
      | inr n ↦ subst (All (Waited d)) (sym (lists d ∙ put_other c d xs at n)) (m d l)
    ]

with_one : (c : ℕ) (before after : List Link) (x : Link) → x.condition ≡ c → All (Waited c) (before ++ after)
    → All (Waited c) (before ++ x ∷ after)
with_one c [] after x e a = All-cons (Waited c) x after e a
with_one c (y ∷ before) after x e a =
    All-cons (Waited c) y (before ++ x ∷ after) (All-head (Waited c) y (before ++ after) a)
    (with_one c before after x e (All-tail (Waited c) y (before ++ after) a))

pub AreKept-put : (at bt : ℕ → List Link) (c : ℕ) (before after : List Link) (x : Link) → AreKept at
    → at c ≡ before ++ after → (c < MOST_CONDITIONS → x.condition ≡ c)
    → ((d : ℕ) → bt d ≡ list_put c (before ++ x ∷ after) at d) → AreKept bt
AreKept-put at bt c before after x m is on lists =
    AreKept-list at bt c (before ++ x ∷ after) m
    (λ l. with_one c before after x (on l) (subst (All (Waited c)) is (m c l))) lists

without_one : (c : ℕ) (before : List Link) (x : Link) (after : List Link) → All (Waited c) (before ++ x ∷ after)
    → All (Waited c) (before ++ after)
without_one c [] x after a = All-tail (Waited c) x after a
without_one c (y ∷ before) x after a =
    All-cons (Waited c) y (before ++ after) (All-head (Waited c) y (before ++ x ∷ after) a)
    (without_one c before x after (All-tail (Waited c) y (before ++ x ∷ after) a))

pub AreKept-taken : (at bt : ℕ → List Link) (c : ℕ) (before : List Link) (x : Link) (after : List Link) → AreKept at
    → at c ≡ before ++ x ∷ after → ((d : ℕ) → bt d ≡ list_put c (before ++ after) at d) → AreKept bt
AreKept-taken at bt c before x after m is lists =
    AreKept-list at bt c (before ++ after) m
    (λ l. without_one c before x after (subst (All (Waited c)) is (m c l))) lists

-- the first link of chain c records c
pub first_waits : (at : ℕ → List Link) (c : ℕ) (x : Link) (after : List Link) → AreKept at → c < MOST_CONDITIONS
    → at c ≡ x ∷ after → x.condition ≡ c
first_waits at c x after m l is = All-head (Waited c) x after (subst (All (Waited c)) is (m c l))

-- it holds after the first link of chain c was moved to the end of the called
pub AreKept-called : (at bt : ℕ → List Link) (c : ℕ) (x : Link) (xs after : List Link) → AreKept at → at c ≡ x ∷ after
    → ((d : ℕ) → bt d ≡ list_put CALLED xs (list_put c after at) d) → AreKept bt
AreKept-called at bt c x xs after m is lists =
    AreKept-list (list_put c after at) bt CALLED xs
    (AreKept-taken at (list_put c after at) c [] x after m is (λ d. refl)) (λ l. absurd (omega arith)) lists

-- it holds after all links of chain c were moved to the end of the called
pub AreKept-joined : (at bt : ℕ → List Link) (c : ℕ) (xs : List Link) → AreKept at
    → ((d : ℕ) → bt d ≡ list_put c [] (list_put CALLED xs at) d) → AreKept bt
AreKept-joined at bt c xs m lists =
    AreKept-list (list_put CALLED xs at) bt c []
    (AreKept-list at (list_put CALLED xs at) CALLED xs m (λ l. absurd (omega arith)) (λ d. refl))
    (λ l. All-nil (Waited c)) lists

-- if a chain is empty, moving all of its links changes nothing
pub joined-none : (c : ℕ) (v : Lists) → c < MOST_CONDITIONS → list_at v c ≡ [] → IsJoined c v v
joined-none c v l none = record {
  lists = λ d. sym (by d);
  waited = subst (All (Waited c)) (sym none) (All-nil (Waited c));
  room = refl;
}
  where
    called : list_at v CALLED ++ list_at v c ≡ list_at v CALLED
    called = ap (λ l. list_at v CALLED ++ l) none ∙ append-nil (list_at v CALLED)

    unjoined : (d : ℕ) → list_put CALLED (list_at v CALLED ++ list_at v c) (list_at v) d ≡ list_at v d
    unjoined d = elim (cases_eq d CALLED) [
      | inl e ↦ subst (λ (j : ℕ). list_put CALLED (list_at v CALLED ++ list_at v c) (list_at v) j ≡ list_at v j) (sym e)
          (put_same CALLED (list_at v CALLED ++ list_at v c) (list_at v) ∙ called)
      | inr n ↦ put_other CALLED d (list_at v CALLED ++ list_at v c) (list_at v) n
    ]

    by : (d : ℕ) → list_put c [] (list_put CALLED (list_at v CALLED ++ list_at v c) (list_at v)) d ≡ list_at v d
    by d = elim (cases_eq d c) [
      | inl e ↦ subst (λ (j : ℕ). list_put c [] (list_put CALLED (list_at v CALLED ++ list_at v c) (list_at v)) j
          ≡ list_at v j) (sym e)
          (put_same c [] (list_put CALLED (list_at v CALLED ++ list_at v c) (list_at v)) ∙ sym none)
      | inr n ↦ put_other c d [] (list_put CALLED (list_at v CALLED ++ list_at v c) (list_at v)) n ∙ unjoined d
    ]
