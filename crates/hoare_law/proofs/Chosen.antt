-- The waiter that a signal resumes is the first by rising priority.
use Rattle.std.proofs.Common.{◌≡◌, ℕ, ◌<◌, Bool, true, false, cond, leb, ◌&&◌, List, [], ◌∷◌, ◌++◌, Option, Some, None}
use Rattle.std.proofs.Common.{refl, ap, sym, ◌∙◌, append_assoc, subst, arith}
use Rattle.std.specs.List.{list_all, find}
use Rattle.std.proofs.lemmas.Bool.Decides.{nat_tests}
use Rattle.std.proofs.lemmas.List.{append-nil}
use Rattle.hoare_law.specs.Priorities.{put_in, in_order}
use Rattle.hoare_law.proofs.Tests.{both_true, and_false, not_below, above, self_least, list_all-push}
use Rattle.hoare_law.proofs.Filters.{find-same}
use Rattle.hoare_law.proofs.Sorted.{first_of, put_all-push, list_all-lower}

module _ {X : Type 0} (key : X → ℕ) where
  abbrev pub is_least_of : List X → X → Bool
  is_least_of ws w = list_all (λ v. leb (key w) (key v)) ws

  abbrev pub chosen_of : List X → Option X
  chosen_of ws = find (is_least_of ws) ws

  -- the better of two, or the first if they are equally good
  abbrev better : Option X → X → X
  better None w = w
  better (Some b) w = cond (leb (key b) (key w)) b w

  first_put : (w : X) (vs : List X) → first_of (put_in key w vs) ≡ Some (better (first_of vs) w)
  first_put w [] = refl
  first_put w (v ∷ vs) =
      elim (leb (key v) (key w)) as (λ b. first_of (cond b (v ∷ put_in key w vs) (w ∷ v ∷ vs)) ≡ Some (cond b v w))
      [ true ↦ refl | false ↦ refl ]

  -- a test that holds of the first element found, along with the test that finds it
  find_both_by : (t : Bool) (p q : X → Bool) (x : X) (rest : Option X) (more : Option X) (b : X)
      → cond t (Some x) rest ≡ Some b → q b ≡ true
      → (rest ≡ Some b → more ≡ Some b) → cond (t && q x) (Some x) more ≡ Some b
  find_both_by true p q x rest more b h g r = let e : x ≡ b = cc in let k : q x ≡ true = ap q e ∙ g in rw k h
  find_both_by false p q x rest more b h g r = r h

  find-and : (p q : X → Bool) (ws : List X) (w b : X) → find p ws ≡ Some b → q b ≡ true
      → find (λ x. p x && q x) (ws ++ w ∷ []) ≡ Some b
  find-and p q [] w b h g = absurd (cc)
  find-and p q (x ∷ ws) w b h g =
      find_both_by (p x) p q x (find p ws) (find (λ y. p y && q y) (ws ++ w ∷ [])) b h g (λ r. find-and p q ws w b r g)

  find_last : (p : X → Bool) (n : ℕ) (ws : List X) (w : X) → list_all (λ v. leb n (key v)) ws ≡ true → (key w) < n
      → p w ≡ true → find (λ x. p x && leb (key x) (key w)) (ws ++ w ∷ []) ≡ Some w
  find_last p n [] w a l g = let e : leb (key w) (key w) ≡ true = grind (arith, nat_tests) in rw (g, e) refl
  find_last p n (x ∷ ws) w a l g =
      let parts : (leb n (key x) ≡ true) × (list_all (λ v. leb n (key v)) ws ≡ true) = both_true _ _ a in
      let high : leb (key x) (key w) ≡ false = not_below n (key x) (key w) parts.0 l in
      let no : (p x && leb (key x) (key w)) ≡ false = ap (λ b. p x && b) high ∙ and_false (p x) in
      rw no (find_last p n ws w parts.1 l g)

  -- the element found has the least key, and is the first in order
  pub record IsChosen (ws : List X) (o : Option X) : Type 0 where
    pub found : chosen_of ws ≡ o
    pub first : first_of (in_order key ws) ≡ o
    pub least : (b : X) → o ≡ Some b → is_least_of ws b ≡ true
    pub some : o ≡ None → ws ≡ []

  least_push : (ws : List X) (w x : X) → is_least_of (ws ++ w ∷ []) x ≡ (is_least_of ws x && leb (key x) (key w))
  least_push ws w x = list_all-push (λ v. leb (key x) (key v)) ws w

  chosen_none : (ws : List X) (w : X) → ws ≡ [] → chosen_of (ws ++ w ∷ []) ≡ Some w
  chosen_none ws w e = ap (λ v. chosen_of (v ++ w ∷ [])) e ∙ (rw (self_least (key w)) refl)

  chosen_by : (t : Bool) (ws : List X) (w b : X) → leb (key b) (key w) ≡ t → chosen_of ws ≡ Some b
      → is_least_of ws b ≡ true
      → find (λ x. is_least_of ws x && leb (key x) (key w)) (ws ++ w ∷ []) ≡ Some (cond t b w)
  chosen_by true ws w b t f l = find-and (is_least_of ws) (λ x. leb (key x) (key w)) ws w b f t
  chosen_by false ws w b t f l =
      find_last (is_least_of ws) (key b) ws w l (above (key b) (key w) t)
      (list_all-lower key (key b) (key w) ws (above (key b) (key w) t) l)

  least_by : (t : Bool) (ws : List X) (w b : X) → leb (key b) (key w) ≡ t → is_least_of ws b ≡ true
      → is_least_of (ws ++ w ∷ []) (cond t b w) ≡ true
  least_by true ws w b t l = least_push ws w b ∙ (rw (l, t) refl)
  least_by false ws w b t l =
      least_push ws w w
      ∙ (rw (list_all-lower key (key b) (key w) ws (above (key b) (key w) t) l, self_least (key w)) refl)

  step : (o : Option X) (ws : List X) (w : X) → IsChosen ws o → IsChosen (ws ++ w ∷ []) (Some (better o w))
  step None ws w c = record {
    found = chosen_none ws w (c.some refl);
    first = ap first_of (put_all-push key [] ws w) ∙ first_put w (in_order key ws)
        ∙ ap (λ v. Some (better v w)) c.first;
    least = λ b e. let q : w ≡ b = cc in
        subst (λ (v : X). is_least_of (ws ++ w ∷ []) v ≡ true) q
        (ap (λ v. is_least_of (v ++ w ∷ []) w) (c.some refl) ∙ (rw (self_least (key w)) refl));
    some = λ e. absurd (cc);
  }
  step (Some b) ws w c = record {
    found = find-same _ _ (ws ++ w ∷ []) (least_push ws w)
        ∙ chosen_by (leb (key b) (key w)) ws w b refl c.found (c.least b refl);
    first = ap first_of (put_all-push key [] ws w) ∙ first_put w (in_order key ws)
        ∙ ap (λ v. Some (better v w)) c.first;
    least = λ x e. let q : better (Some b) w ≡ x = cc in
        subst (λ (v : X). is_least_of (ws ++ w ∷ []) v ≡ true) q
        (least_by (leb (key b) (key w)) ws w b refl (c.least b refl));
    some = λ e. absurd (cc);
  }

  by_steps : (ys xs : List X) (o : Option X) → IsChosen ys o → (r : Option X) × IsChosen (ys ++ xs) r
  by_steps ys [] o c = (o, subst (λ (v : List X). IsChosen v o) (sym (append-nil ys)) c)
  by_steps ys (x ∷ xs) o c =
      let r : (r : Option X) × IsChosen ((ys ++ x ∷ []) ++ xs) r =
      by_steps (ys ++ x ∷ []) xs (Some (better o x)) (step o ys x c) in
      (r.0, subst (λ (v : List X). IsChosen v r.0) (append_assoc ys (x ∷ []) xs) r.1)

  none_chosen : IsChosen [] None
  none_chosen = record { found = refl; first = refl; least = λ b e. refl; some = λ e. refl }

  -- the waiter that a signal resumes is the first in order
  pub chosen-first : (ws : List X) → chosen_of ws ≡ first_of (in_order key ws)
  chosen-first ws =
      let r : (r : Option X) × IsChosen ws r = by_steps [] ws None none_chosen in r.1.found ∙ sym r.1.first
