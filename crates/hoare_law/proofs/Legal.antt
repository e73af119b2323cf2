-- Legal histories grow by events that are allowed, and what a legal history begins with is legal.
use Rattle.std.proofs.Common.{◌≡◌, List, [], ◌∷◌, ◌++◌, refl, sym, ap, ◌∙◌, append_assoc, subst, ⊎_elim}
use Rattle.hoare_law.specs.declared.event.Event.{Event}
use Rattle.hoare_law.specs.declared.event.History.{History}
use Rattle.hoare_law.specs.Events.{with_event, cut_to}
use Rattle.hoare_law.specs.Growth.{Begins}
use Rattle.hoare_law.specs.Legal.{Allowed, IsLegal}
use Rattle.hoare_law.specs.Lawful.{Rest, Ready, Owes, IsLawful, Stands}
use Rattle.hoare_law.proofs.Events.{none-split, push-split}

pub IsLegal-push : {S : Type 0} {h : History S} (e : Event S) → IsLegal h → Allowed h e → IsLegal (with_event h e)
unfolding with_event
IsLegal-push {S = S} {h = h} e legal here = record {
  each = λ f g x is. ⊎_elim
      (λ p. let at_end : Allowed (cut_to h f) e = subst (λ (a : List (Event S)). Allowed (cut_to h a) e) p.0 here in
      subst (λ (a : Event S). Allowed (cut_to h f) a) p.1 at_end)
      (λ p. legal.each f p.0 x p.1)
      (push-split h.events e f g x is);
}

pub IsLegal-none : {S : Type 0} (h : History S) → h.events ≡ [] → IsLegal h
IsLegal-none h none = record { each = λ f g x is. absurd (none-split f g x (sym none ∙ is)) }

pub IsLegal-front : {S : Type 0} {f h : History S} → Begins f h → IsLegal h → IsLegal f
IsLegal-front {f = f} begins legal = record {
  each = λ a b x is. rw (begins.sizes, begins.opening)
      (legal.each a (b ++ begins.later) x (sym begins.is
      ∙ (ap (λ y. y ++ begins.later) is ∙ append_assoc a (x ∷ b) begins.later)));
}

-- the last event was allowed
pub IsLegal-last : {S : Type 0} (h : History S) (e : Event S) → IsLegal (with_event h e) → Allowed h e
unfolding with_event
IsLegal-last h e legal = legal.each h.events [] e refl

pub IsLawful-push : {S : Type 0} {rest : Rest S} {ready : Ready S} {h : History S} (e : Event S) → IsLawful rest ready h
    → Owes rest ready h.events e → IsLawful rest ready (with_event h e)
unfolding with_event
IsLawful-push {S = S} {rest = rest} {ready = ready} {h = h} e lawful here = record {
  opens = lawful.opens;
  each = λ f g x is. ⊎_elim
      (λ p. let at_end : Owes rest ready f e = subst (λ (a : List (Event S)). Owes rest ready a e) p.0 here in
      subst (λ (a : Event S). Owes rest ready f a) p.1 at_end)
      (λ p. lawful.each f p.0 x p.1)
      (push-split h.events e f g x is);
}

pub IsLawful-front : {S : Type 0} {rest : Rest S} {ready : Ready S} {f h : History S} → Begins f h
    → IsLawful rest ready h → IsLawful rest ready f
IsLawful-front {f = f} begins lawful = record {
  opens = rw begins.opening lawful.opens;
  each = λ a b x is. lawful.each a (b ++ begins.later) x
      (sym begins.is ∙ (ap (λ y. y ++ begins.later) is ∙ append_assoc a (x ∷ b) begins.later));
}

pub Stands-push : {S : Type 0} {rest : Rest S} {ready : Ready S} {h : History S} (e : Event S) → Stands rest ready h
    → Allowed h e → Owes rest ready h.events e → Stands rest ready (with_event h e)
Stands-push e stands allowed owes =
    record { legal = IsLegal-push e stands.legal allowed; lawful = IsLawful-push e stands.lawful owes }

pub Stands-front : {S : Type 0} {rest : Rest S} {ready : Ready S} {f h : History S} → Begins f h → Stands rest ready h
    → Stands rest ready f
Stands-front begins stands =
    record { legal = IsLegal-front begins stands.legal; lawful = IsLawful-front begins stands.lawful }
