-- Tickets of the places in the queue.
use Rattle.std.proofs.Common.{◌≡◌, ◌≢◌, ℕ, ◌+◌, ◌<◌, ◌≤◌, eqb, cond, List, [], ◌∷◌, ◌++◌, length, Option, Some}
use Rattle.std.proofs.lemmas.List.{append_assoc}
use Rattle.std.proofs.Common.{append-nil, length-append, None, refl, sym, ap, ◌∙◌, subst, arith}
use Rattle.std.proofs.Common.{eq-eqb, ne_eqb}
use mathlib.Core.Logic.{dite}
use native.Mathlib.Decide.{ℕ_discrete}
use Rattle.wait_book.specs.Contents.{one, times}
use Rattle.wait_book.proofs.Times.{one_same, one_apart, times-append}
use Rattle.door_frame.specs.declared.view.Token.{Token}
use Rattle.door_frame.specs.declared.view.Token.TheVariants.{Ticket, Gate}
use Rattle.ticket_door.specs.Queue.{ticket_in, took_before}

pub None≢Some : (t : Token) → ◌≢◌ {A = Option Token} None (Some t)
None≢Some t e = cc

pub Ticket-injective : (x y : List ℕ) → ◌≡◌ {A = Option Token} (Some (Ticket x)) (Some (Ticket y)) → x ≡ y
Ticket-injective x y e = ap (λ o. took_before o) e

pub ticket_here : (a : List ℕ) (k j : ℕ) (q : List ℕ) → k ≡ j → ticket_in a (j ∷ q) k ≡ Some (Ticket a)
ticket_here a k j q e = ap (λ b. cond b (Some (Ticket a)) (ticket_in (a ++ j ∷ []) q k)) (eq-eqb k j e)

pub ticket_else : (a : List ℕ) (k j : ℕ) (q : List ℕ) → k ≢ j → ticket_in a (j ∷ q) k ≡ ticket_in (a ++ j ∷ []) q k
ticket_else a k j q n = ap (λ b. cond b (Some (Ticket a)) (ticket_in (a ++ j ∷ []) q k)) (ne_eqb k j n)

-- tickets count up from the first of the queue
pub ticket_range : (a q : List ℕ) (k : ℕ) (x : List ℕ) → ticket_in a q k ≡ Some (Ticket x)
    → (length a ≤ length x) × (length x < length a + length q)
ticket_range a [] k x e = absurd (None≢Some (Ticket x) e)
ticket_range a (j ∷ q) k x e = dite (ℕ_discrete k j)
    (λ same. let is : length a ≡ length x = ap length (Ticket-injective a x (sym (ticket_here a k j q same) ∙ e)) in
    (omega arith, omega arith))
    (λ ne. let r = ticket_range (a ++ j ∷ []) q k x (sym (ticket_else a k j q ne) ∙ e) in
    let more = length-append a (j ∷ []) in (omega (arith, r.0, more), omega (arith, r.1, more)))

-- the queue gives no place the gate
pub ticket_only : (a q : List ℕ) (k v : ℕ) → ticket_in a q k ≢ Some (Gate v)
ticket_only a [] k v e = None≢Some (Gate v) e
ticket_only a (j ∷ q) k v e = dite (ℕ_discrete k j)
    (λ same. let no : ◌≡◌ {A = Option Token} (Some (Ticket a)) (Some (Gate v)) = sym (ticket_here a k j q same) ∙ e in
    cc)
    (λ ne. ticket_only (a ++ j ∷ []) q k v (sym (ticket_else a k j q ne) ∙ e))

-- the place with the first ticket is first in the queue
pub ticket_first : (a q : List ℕ) (k : ℕ) (x : List ℕ) → ticket_in a q k ≡ Some (Ticket x) → length x ≡ length a
    → (rest : List ℕ) × (q ≡ k ∷ rest) × (a ≡ x)
ticket_first a [] k x e is = absurd (None≢Some (Ticket x) e)
ticket_first a (j ∷ q) k x e is = dite (ℕ_discrete k j)
    (λ same. (q, (λ i. sym same i ∷ q), Ticket-injective a x (sym (ticket_here a k j q same) ∙ e)))
    (λ ne. let r = ticket_range (a ++ j ∷ []) q k x (sym (ticket_else a k j q ne) ∙ e) in
    absurd (omega (arith, r.0, length-append a (j ∷ []), is)))

-- a place without a ticket isn't in the queue
pub ticket_none : (a q : List ℕ) (k : ℕ) → ticket_in a q k ≡ None → times k q ≡ 0
ticket_none a [] k e = refl
ticket_none a (j ∷ q) k e = dite (ℕ_discrete k j)
    (λ same. absurd (None≢Some (Ticket a) (sym e ∙ ticket_here a k j q same)))
    (λ ne. let r = ticket_none (a ++ j ∷ []) q k (sym (ticket_else a k j q ne) ∙ e) in
    omega (arith, r, one_apart k j (ne_eqb k j ne)))

pub none_ticket : (a q : List ℕ) (k : ℕ) → times k q ≡ 0 → ticket_in a q k ≡ None
none_ticket a [] k z = refl
none_ticket a (j ∷ q) k z = dite (ℕ_discrete k j)
    (λ same. absurd (omega (arith, z, subst (λ (i : ℕ). one k i ≡ 1) same (one_same k))))
    (λ ne. ticket_else a k j q ne ∙ none_ticket (a ++ j ∷ []) q k (omega (arith, z)))

-- a place that asks is last in the queue
pub ticket_last : (a q : List ℕ) (k : ℕ) → times k q ≡ 0 → ticket_in a (q ++ k ∷ []) k ≡ Some (Ticket (a ++ q))
ticket_last a [] k z = ticket_here a k k [] refl ∙ ap (λ (n : List ℕ). Some (Ticket n)) (sym (append-nil a))
ticket_last a (j ∷ q) k z = dite (ℕ_discrete k j)
    (λ same. absurd (omega (arith, z, subst (λ (i : ℕ). one k i ≡ 1) same (one_same k))))
    (λ ne. ticket_else a k j (q ++ k ∷ []) ne ∙ ticket_last (a ++ j ∷ []) q k (omega (arith, z))
    ∙ ap (λ (n : List ℕ). Some (Ticket n)) (append_assoc a (j ∷ []) q))

-- and the other places keep their tickets
pub ticket_kept : (a q : List ℕ) (k j : ℕ) → j ≢ k → ticket_in a (q ++ k ∷ []) j ≡ ticket_in a q j
ticket_kept a [] k j ne = ticket_else a j k [] ne
ticket_kept a (i ∷ q) k j ne = ap (λ (o : Option Token). cond (eqb j i) (Some (Ticket a)) o)
    (ticket_kept (a ++ i ∷ []) q k j ne)

pub once_more : (q : List ℕ) (k : ℕ) → ((j : ℕ) → times j q ≤ 1) → times k q ≡ 0 → (j : ℕ) → times j (q ++ k ∷ []) ≤ 1
once_more q k once z j = dite (ℕ_discrete j k)
    (λ same. let t : times j q ≡ 0 = subst (λ (i : ℕ). times i q ≡ 0) (sym same) z in
    let o : one j k ≡ 1 = subst (λ (i : ℕ). one j i ≡ 1) same (one_same j) in
    omega (arith, times-append j q (k ∷ []), t, o))
    (λ ne. omega (arith, times-append j q (k ∷ []), once j, one_apart j k (ne_eqb j k ne)))

pub all_more : (P : ℕ → Type 0) (q : List ℕ) (k : ℕ) → P k → ((j : ℕ) → 0 < times j q → P j) → (j : ℕ)
    → 0 < times j (q ++ k ∷ []) → P j
all_more P q k here all j some = dite (ℕ_discrete j k)
    (λ same. subst P (sym same) here)
    (λ ne. all j (omega (arith, some, times-append j q (k ∷ []), one_apart j k (ne_eqb j k ne))))
