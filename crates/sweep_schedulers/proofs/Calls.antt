-- How `Follows` is kept while a front grows, and by what the procedures of a monitor add.
use Rattle.std.proofs.Common.{◌≡◌, ◌==◌, ℕ, List, [], ◌∷◌, ◌++◌, cond, Some, refl, ap, sym, ◌∙◌, subst, eq-eqb}
use Rattle.std.proofs.Common.{append_assoc, ⊎_elim, inl, inr, ◌⊎◌}
use Rattle.std.proofs.lemmas.List.{append_cancel_left}
use Rattle.std.proofs.lemmas.List.Elements.{filter-append}
use Rattle.hoare_law.specs.declared.event.Event.{Event}
use Rattle.hoare_law.specs.declared.event.History.{History}
use Rattle.hoare_law.specs.declared.event.Event.TheVariants.{Admit, Wait, Signal, Pass, Leave, Resume, Back}
use Rattle.hoare_law.specs.Events.{place_of, own, newest, with_event}
use Rattle.hoare_law.specs.Growth.{Grows, AddsLast, AddsTwo, Finishes, exited, signalled, passed_on, just_left}
use Rattle.hoare_law.proofs.Events.{newest-push, push-split, none-split}
use Rattle.hoare_law.proofs.Entering.{own-last}
use Rattle.sweep_schedulers.specs.Follows.{Follows, Procedures, HasEntered, HasResumed, Continues, refused, ended}
use Rattle.sweep_schedulers.specs.Follows.{nobody_waits, returned}

pub newest-two : {X : Type 0} (us : List X) (x y : X) → newest (us ++ x ∷ y ∷ []) ≡ Some y
newest-two us x y = ap newest (sym (append_assoc us (x ∷ []) (y ∷ []))) ∙ newest-push (us ++ x ∷ []) y

-- an element of two lists is in one of them
split_at : {X : Type 0} (f later g l : List X) (e : X) → f ++ later ≡ g ++ e ∷ l
    → ((m : List X) × (f ≡ g ++ e ∷ m)) ⊎ ((m : List X) × (later ≡ m ++ e ∷ l))
split_at [] later g l e is = inr (g, is)
split_at (x ∷ f) later [] l e is = inl (f, cc)
split_at (x ∷ f) later (y ∷ g) l e is =
    ⊎_elim (λ r. inl (r.0, cc)) (λ r. inr (r.0, r.1)) (split_at f later g l e cc)

only_one : {X : Type 0} (us : List X) (x : X) (vs : List X) (e : X) → us ++ x ∷ vs ≡ e ∷ [] → e ≡ x
only_one [] x vs e is = cc
only_one (u ∷ us) x vs e is = let rest : [] ≡ us ++ x ∷ vs = cc in absurd (none-split us vs x rest)

module _ {S : Type 0} (continues : List (Event S) → Event S → Type 0) where
  -- the own events that come with f
  own_later : (k : ℕ) (t : List (Event S)) (f h : History S) (g : Grows k t f h)
      → own k g.begins.later ≡ t
  own_later k t f h g =
      append_cancel_left (own k f.events) (own k g.begins.later) t
      (sym (filter-append (λ e. place_of e == k) f.events g.begins.later) ∙ ap (own k) g.begins.is ∙ g.adds)

  own_at : (k : ℕ) (m l : List (Event S)) (e : Event S) → place_of e ≡ k
      → own k (m ++ e ∷ l) ≡ own k m ++ e ∷ own k l
  own_at k m l e mine =
      filter-append (λ x. place_of x == k) m (e ∷ l)
      ∙ ap (λ b. own k m ++ cond b (e ∷ own k l) (own k l)) (eq-eqb (place_of e) k mine)

  -- a history without events
  pub nothing_yet : (k : ℕ) (h : History S) → h.events ≡ [] → Follows continues k h
  nothing_yet k h none = record { each = λ f later e is mine. absurd (none-split f later e (sym none ∙ is)) }

  -- the events of other places
  pub by_others : (k : ℕ) (f h : History S) → Follows continues k f → Grows k [] f h → Follows continues k h
  by_others k f h follows grows = record {
    each = λ g l e is mine. ⊎_elim (λ r. follows.each g r.0 e r.1 mine)
        (λ r. absurd (none-split (own k r.0) (own k l) e
        (sym (own_later k [] f h grows) ∙ ap (own k) r.1 ∙ own_at k r.0 l e mine)))
        (split_at f.events grows.begins.later g l e (grows.begins.is ∙ is));
  }

  -- one own event, which may come at any time
  pub by_one : (k : ℕ) (e : Event S) (f h : History S) → Follows continues k f → Grows k (e ∷ []) f h
      → ((g : List (Event S)) → continues g e) → Follows continues k h
  by_one k e f h follows grows any = record {
    each = λ g l x is mine. ⊎_elim (λ r. follows.each g r.0 x r.1 mine)
        (λ r. subst (continues g)
        (only_one (own k r.0) x (own k l) e
        (sym (own_at k r.0 l x mine) ∙ ap (own k) (sym r.1) ∙ own_later k (e ∷ []) f h grows)) (any g))
        (split_at f.events grows.begins.later g l x (grows.begins.is ∙ is));
  }

  -- the last event
  pub by_last : (k : ℕ) (f h : History S) (e : Event S) → Follows continues k f → h ≡ with_event f e
      → continues f.events e → Follows continues k h
  unfolding with_event
  by_last k f h e follows is next = record {
    each = λ g l x at mine. ⊎_elim
        (λ r. subst (λ (b : List (Event S)). continues b x) r.0
        (subst (λ (y : Event S). continues f.events y) r.1 next))
        (λ r. follows.each g r.0 x r.1 mine)
        (push-split f.events e g l x (ap (λ (y : History S). y.events) (sym is) ∙ at));
  }

  -- an event, and later another, which may come at any time
  pub by_two : (k : ℕ) (f h : History S) (d e : Event S) → place_of d ≡ k → place_of e ≡ k → Follows continues k f
      → AddsTwo f d e h → continues f.events d → ((g : List (Event S)) → continues g e) → Follows continues k h
  unfolding with_event
  by_two k f h d e first second follows adds next any =
      by_one k e (with_event f d) h (by_last k f (with_event f d) d follows refl next)
      (record {
        begins = adds.begins;
        adds = subst (λ (i : ℕ). own i h.events ≡ own i f.events ++ d ∷ e ∷ []) second adds.grows.adds
            ∙ sym (append_assoc (own k f.events) (d ∷ []) (e ∷ []))
            ∙ ap (λ l. l ++ e ∷ []) (sym (own-last k f.events d first));
      })
      any

-- what the procedures of a monitor add
module _ {S : Type 0} (by : Procedures S) where
  abbrev pub Keeps : ℕ → History S → Type 0
  Keeps k h = Follows (Continues by) k h

  pub enters : (k : ℕ) (a : S) (f g : History S) → Keeps k f → AddsLast f (Admit k a) g
      → Keeps k g × HasEntered k g.events a
  enters k a f g follows adds = (
    by_one (Continues by) k (Admit k a) f g follows adds.grows (λ l. tt),
    ap newest adds.grows.adds ∙ newest-push (own k f.events) (Admit k a),
  )

  -- a wait and its resumption
  pub resumes : (k c p : ℕ) (a found : S) (e g : History S) → Keeps k e → by.waits k c p e.events a
      → AddsTwo e (Wait k c p a) (Resume k c found) g → Keeps k g × HasResumed k c p g.events a found
  resumes k c p a found e g follows waits adds = (
    by_two (Continues by) k e g (Wait k c p a) (Resume k c found) refl refl follows adds waits (λ l. tt),
    record { earlier = own k e.events; is = adds.grows.adds },
  )

  -- a last act, which signals
  pub finishes : (k c : ℕ) (s : S) (g h : History S) → Keeps k g → by.signals k c g.events s → Finishes k c s g h
      → Keeps k h
  finishes k c s g h follows signals (exited b (passed_on w chooses is)) =
      by_last (Continues by) k g h (Pass k c w s) follows is signals
  finishes k c s g h follows signals (exited b (just_left none is)) =
      by_last (Continues by) k g h (Leave k s) follows is (nobody_waits c signals none)
  finishes k c s g h follows signals (signalled w t m chooses adds is) =
      by_last (Continues by) k m h (Leave k t)
      (by_two (Continues by) k g m (Signal k c w s) (Back k t) refl refl follows adds signals (λ l. tt)) is
      (returned (ap newest adds.grows.adds ∙ newest-two (own k g.events) (Signal k c w s) (Back k t)))

  -- k leaves as its procedure ends, or as it was refused
  pub ends : (k : ℕ) (s : S) (g h : History S) → Keeps k g → by.ends k g.events s → h ≡ with_event g (Leave k s)
      → Keeps k h
  ends k s g h follows way is = by_last (Continues by) k g h (Leave k s) follows is (ended way)

  pub leaves_refused : (k : ℕ) (a : S) (f g h : History S) → Keeps k f → AddsLast f (Admit k a) g
      → h ≡ with_event g (Leave k a) → Keeps k h
  leaves_refused k a f g h follows adds is =
      let e = enters k a f g follows adds in by_last (Continues by) k g h (Leave k a) e.0 is (refused e.1)
