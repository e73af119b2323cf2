-- Which processes are notified after one more event.
use Rattle.std.proofs.Common.{◌≡◌, ◌==◌, not, List, [], ◌∷◌, ◌++◌, Bool, ap, sym, ◌∙◌, append_assoc, append-nil}
use Rattle.std.specs.List.{filter, list_all}
use Rattle.std.proofs.lemmas.List.Elements.{filter-append}
use Rattle.hoare_law.specs.declared.event.Event.{Event}
use Rattle.hoare_law.specs.Events.{place_of}
use Rattle.hoare_law.specs.Called.{join_splits, called_by, called}
use Rattle.hoare_law.proofs.Filters.{filter-and, filter-true}
use Rattle.hoare_law.proofs.Tests.{list_all-push}

-- of what each element adds, the ones that q keeps for each later element
abbrev kept_by : {X Y : Type 0} → (List X → X → List Y) → (Y → X → Bool) → List X → X → List X → List Y
kept_by adds q before x later = filter (λ y. list_all (q y) later) (adds before x)

-- one more element keeps what q keeps for it, and adds its own
join_splits-push : {X Y : Type 0} (adds : List X → X → List Y) (q : Y → X → Bool) (before h : List X) (e : X)
    → join_splits (kept_by adds q) before (h ++ e ∷ [])
    ≡ filter (λ y. q y e) (join_splits (kept_by adds q) before h) ++ adds (before ++ h) e
join_splits-push adds q before [] e =
    append-nil _ ∙ filter-true (adds before e) ∙ ap (λ l. adds l e) (sym (append-nil before))
join_splits-push adds q before (x ∷ h) e =
    let here : filter (λ y. list_all (q y) (h ++ e ∷ [])) (adds before x)
    ≡ filter (λ y. q y e) (filter (λ y. list_all (q y) h) (adds before x)) =
    filter-and (λ y. list_all (q y) (h ++ e ∷ [])) (λ y. list_all (q y) h) (λ y. q y e) (λ y. list_all-push (q y) h e)
    (adds before x) in
    let more = join_splits-push adds q (before ++ x ∷ []) h e in
    ap (λ l. l ++ join_splits (kept_by adds q) (before ++ x ∷ []) (h ++ e ∷ [])) here
    ∙ ap (λ l. filter (λ y. q y e) (filter (λ y. list_all (q y) h) (adds before x)) ++ l)
    (more ∙ ap (λ l. filter (λ y. q y e) (join_splits (kept_by adds q) (before ++ x ∷ []) h) ++ adds l e)
    (append_assoc before (x ∷ []) h))
    ∙ sym
    (append_assoc (filter (λ y. q y e) (filter (λ y. list_all (q y) h) (adds before x)))
    (filter (λ y. q y e) (join_splits (kept_by adds q) (before ++ x ∷ []) h)) (adds (before ++ x ∷ h) e))
    ∙ ap (λ l. l ++ adds (before ++ x ∷ h) e)
    (sym (filter-append (λ y. q y e) (filter (λ y. list_all (q y) h) (adds before x))
    (join_splits (kept_by adds q) (before ++ x ∷ []) h)))

-- those that were notified, without the place that acts, and then those that e notifies
pub called-push : {S : Type 0} (h : List (Event S)) (e : Event S)
    → called (h ++ e ∷ []) ≡ filter (λ x. not (place_of e == place_of x)) (called h) ++ called_by h e
unfolding called
called-push h e = join_splits-push called_by (λ x y. not (place_of y == place_of x)) [] h e
