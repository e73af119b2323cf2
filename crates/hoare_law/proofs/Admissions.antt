-- How one more event changes the admissions.
use Rattle.std.proofs.Common.{◌≡◌, ℕ, ◌+◌, Bool, true, false, cond, List, [], ◌∷◌, ◌++◌, length, refl, ap, ◌∙◌, arith}
use Rattle.std.proofs.Common.{append-nil, length-append, map}
use Rattle.std.proofs.lemmas.List.{length-map, map-append}
use Rattle.std.specs.List.{filter}
use Rattle.std.proofs.lemmas.List.Elements.{filter-append}
use Rattle.hoare_law.specs.declared.event.Event.{Event}
use Rattle.hoare_law.specs.declared.event.History.{History}
use Rattle.hoare_law.specs.declared.event.Event.TheVariants.{Admit}
use Rattle.hoare_law.specs.Events.{place_of, with_event}
use Rattle.hoare_law.specs.Admissions.{is_admit, admissions, admitted}

counted : {S : Type 0} (e : Event S) (b : Bool) → is_admit e ≡ b → length (filter is_admit (e ∷ [])) ≡ cond b 1 0
counted e true is = rw is refl
counted e false is = rw is refl

admissions-push : {S : Type 0} (h : List (Event S)) (e : Event S) (b : Bool) → is_admit e ≡ b
    → admissions (h ++ e ∷ []) ≡ admissions h + cond b 1 0
unfolding admissions
admissions-push h e b is =
    ap length (filter-append is_admit h (e ∷ [])) ∙ length-append (filter is_admit h) (filter is_admit (e ∷ []))
    ∙ ap (λ n. length (filter is_admit h) + n) (counted e b is)

pub admissions-admit : {S : Type 0} (h : History S) (k : ℕ) (s : S)
    → admissions (with_event h (Admit k s)).events ≡ admissions h.events + 1
unfolding with_event
admissions-admit h k s = admissions-push h.events (Admit k s) true refl

pub admissions-other : {S : Type 0} (h : History S) (e : Event S) → is_admit e ≡ false
    → admissions (with_event h e).events ≡ admissions h.events
unfolding with_event
admissions-other h e other = let p = admissions-push h.events e false other in omega (arith, p)

-- the admissions of a history and of its later events add up
pub admissions-append : {S : Type 0} (h later : List (Event S))
    → admissions (h ++ later) ≡ admissions h + admissions later
unfolding admissions
admissions-append h later =
    ap length (filter-append is_admit h later) ∙ length-append (filter is_admit h) (filter is_admit later)

-- the admitted places are as many as the admissions
pub admitted-length : {S : Type 0} (h : List (Event S)) → length (admitted h) ≡ admissions h
unfolding admissions admitted
admitted-length h = length-map (filter is_admit h) place_of

-- those of a history and of its later events are joined
pub admitted-append : {S : Type 0} (h later : List (Event S)) → admitted (h ++ later) ≡ admitted h ++ admitted later
unfolding admitted
admitted-append h later =
    ap (map place_of) (filter-append is_admit h later)
    ∙ map-append place_of (filter is_admit h) (filter is_admit later)

admitted-one : {S : Type 0} (e : Event S) (b : Bool) → is_admit e ≡ b → admitted (e ∷ []) ≡ cond b (place_of e ∷ []) []
unfolding admitted
admitted-one e true is = rw is refl
admitted-one e false is = rw is refl

pub admitted-admit : {S : Type 0} (h : History S) (k : ℕ) (s : S)
    → admitted (with_event h (Admit k s)).events ≡ admitted h.events ++ k ∷ []
unfolding with_event
admitted-admit h k s =
    admitted-append h.events (Admit k s ∷ [])
    ∙ ap (λ (ks : List ℕ). admitted h.events ++ ks) (admitted-one (Admit k s) true refl)

pub admitted-other : {S : Type 0} (h : History S) (e : Event S) → is_admit e ≡ false
    → admitted (with_event h e).events ≡ admitted h.events
unfolding with_event
admitted-other h e other =
    admitted-append h.events (e ∷ [])
    ∙ ap (λ (ks : List ℕ). admitted h.events ++ ks) (admitted-one e false other) ∙ append-nil (admitted h.events)
