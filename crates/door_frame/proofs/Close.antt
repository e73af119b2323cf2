-- If all places are handed in, the log is the history that the door ends with.
use Rattle.std.proofs.Common.{◌≡◌, inl, inr, ℕ, ◌<◌, Bool, true, List, [], ◌∷◌, ◌++◌, Option, Some, None, unwrap_or}
use Rattle.std.proofs.Common.{sym, ap, ◌∙◌, subst}
use Rattle.std.specs.Prelude.{All}
use Rattle.std.proofs.lemmas.List.Elements.{All-nil, All-cons, All-head, All-tail}
use mathlib.Core.Option.{some, some-injective}
use lib.ListN.{get_elem?}
use Rattle.atomic_table.specs.Table.{Final, Seen, Joins}
use Rattle.hoare_law.specs.declared.event.Sizes.{Sizes}
use Rattle.hoare_law.specs.declared.event.History.{History}
use Rattle.hoare_law.specs.Sizes.{Kinds}
use Rattle.hoare_law.specs.Lawful.{Rest, Ready}
use Rattle.hoare_law.specs.Priorities.{nobody}
use Rattle.hoare_law.specs.Turns.{turn, outside}
use Rattle.hoare_law.proofs.Ended.{AllOutside, turn-ended, rest-ended}
use Rattle.hoare_law.proofs.Entering.{outside-same}
use Rattle.door_frame.specs.declared.guarded.Guarded.{Guarded}
use Rattle.door_frame.specs.declared.view.PlaceView.{PlaceView}
use Rattle.door_frame.specs.declared.view.SeatView.{SeatView}
use Rattle.door_frame.specs.declared.view.SeatView.TheVariants.{Places}
use Rattle.door_frame.specs.Places.{DoorId, PlaceOut, HasPlace, IsInHistory, IsOut, Closes}
use Rattle.door_frame.specs.Rule.{Tokens, Agrees, TableInvariant}
use Rattle.door_frame.specs.Views.{knows, alone, Each, both_places, no_places}
use Rattle.door_frame.proofs.Steps.{running, joins_ok, given_up_free}

-- an element in the middle of a list
pub All-mid : {A : Type 0} (P : A → Type 0) (xs : List A) (x : A) (ys : List A) → All P ((xs ++ x ∷ []) ++ ys) → P x
All-mid P [] x ys h = All-head P x ys h
All-mid P (a ∷ l) x ys h = All-mid P l x ys (All-tail P a ((l ++ x ∷ []) ++ ys) h)

module _ {D : Type 0} where
  -- what the seats of these places know
  abbrev pub known_to : List (PlaceOut D) → List (PlaceView D)
  known_to [] = []
  known_to (o ∷ os) = knows o.place o.front None ∷ known_to os

  in_history_all : (n : ℕ) (log : History D) (owner : ℕ → ℕ) (tokens : Tokens) (id : ℕ) (os : List (PlaceOut D))
      → Each (Agrees n log owner tokens id) (known_to os) → All (IsInHistory log) os
  in_history_all n log owner tokens id [] agree = All-nil (IsInHistory log)
  in_history_all n log owner tokens id (o ∷ os) agree =
      All-cons (IsInHistory log) o os (record { begins = agree.0.begins; own_are = agree.0.own_are })
      (in_history_all n log owner tokens id os agree.1)

  -- what is found in the slot at the end
  pub record Ends (rest : Rest D) (ready : Ready D) (kinds : Kinds) (d : DoorId) (os : List (PlaceOut D))
      (x : Guarded D) : Type 0 where
    pub closes : Closes rest ready kinds d os x.state
    pub rests : rest x.state nobody

  module _ (Initial : Bool → List ℕ → Type 0) (WordsFit : History D → Tokens → List ℕ → Type 0) (rest : Rest D)
      (ready : Ready D)
      (kinds : Kinds) (d : DoorId) where
    abbrev Of : PlaceOut D → Type 0
    Of = IsOut rest ready kinds d

    outside_at : (k : ℕ) (log : History D) (owner : ℕ → ℕ) (tokens : Tokens) (id : ℕ) (os : List (PlaceOut D))
        → All Of os
        → Each (Agrees d.places log owner tokens id) (known_to os) → HasPlace k os → outside k log.events ≡ true
    outside_at k log owner tokens id [] outs agree at = absurd at
    outside_at k log owner tokens id (o ∷ os) outs agree (inl e) =
        subst (λ (j : ℕ). outside j log.events ≡ true) e
        (outside-same o.place o.front log agree.0.own_are (All-head Of o os outs).is_outside)
    outside_at k log owner tokens id (o ∷ os) outs agree (inr at) =
        outside_at k log owner tokens id os (All-tail Of o os outs) agree.1 at

    -- the slot is at home, with what one legal and lawful history left
    ends : (id : ℕ) (v : SeatView D) (os : List (PlaceOut D)) (ws : List ℕ) (xs : List (Option (Guarded D)))
        → v ≡ Places (known_to os) → All Of os
        → ((k : ℕ) → k < d.places → HasPlace k os)
        → Final (Seen (TableInvariant Initial WordsFit rest ready kinds d.places) id v) ws xs
        → (x : Guarded D) × (get_elem? xs 0 ≡ some (Some x)) × Ends rest ready kinds d os x
    ends id v os ws xs is outs all fin =
        let at : get_elem? fin.0.views id ≡ some (Places (known_to os)) = fin.1.1 ∙ ap (λ u. some u) is in
        let r = running Initial WordsFit rest ready kinds d.places fin.0 fin.1.0 id (known_to os) at in
        let agree = r.fronts id (Places (known_to os)) at in
        let out : AllOutside r.log =
        λ k small. outside_at k r.log r.owner r.tokens id os outs agree
        (all k (subst (λ (m : Sizes). k < m.places) r.sized small)) in
        let home = r.home (given_up_free (turn r.log.events) (turn-ended r.log r.stands.legal out)) in (
          home.0,
          fin.4 0 (Some home.0) home.1,
          record {
            closes = record {
              history = r.log;
              sized = r.sized;
              stands = r.stands;
              fronts = in_history_all d.places r.log r.owner r.tokens id os agree;
              latest = home.2.latest;
            };
            rests = subst (λ (s : D). rest s nobody) (sym home.2.latest) (rest-ended rest ready r.log r.stands out);
          },
        )

    -- the same of all places that were handed in, once the last seat is joined
    pub ends_all : {id : ℕ} {v : SeatView D} (ws : List ℕ) (xs : List (Option (Guarded D))) {os front : List (PlaceOut
        D)}
        (back : List (PlaceOut D))
        → os ≡ front ++ back → front ≡ [] → v ≡ Places (known_to back) → All Of os
        → ((k : ℕ) → k < d.places → HasPlace k os)
        → Final (Seen (TableInvariant Initial WordsFit rest ready kinds d.places) id v) ws xs → {x : Option (Guarded D)}
        → get_elem? xs 0 ≡ some x
        → (l : Guarded D) × (x ≡ Some l) × Ends rest ready kinds d os l
    ends_all {id = id} {v = v} ws xs {os = os} back split empty is outs all fin got =
        let same : os ≡ back = split ∙ ap (λ (l : List (PlaceOut D)). l ++ back) empty in
        let here : v ≡ Places (known_to os) = is ∙ ap (λ (l : List (PlaceOut D)). Places (known_to l)) (sym same) in
        let r = ends id v os ws xs here outs all fin in
        (r.0, some-injective _ _ (sym got ∙ r.1), r.2)

    -- the seat of one place is joined to the seat of the places os
    pub joins_one : (id : ℕ) (v : SeatView D) (other : ℕ) (w : SeatView D) (os : List (PlaceOut D)) (k : ℕ) (f :
        History D)
        → v ≡ Places (known_to os)
        → w ≡ alone k f → Joins (TableInvariant Initial WordsFit rest ready kinds d.places) id v other w (both_places v
        w) no_places
    joins_one id v other w os k f is lone =
        subst
        (λ (p : SeatView D × SeatView D). Joins (TableInvariant Initial WordsFit rest ready kinds d.places) id p.0
        other p.1
        (both_places p.0 p.1) no_places)
        (λ i. (sym is i, sym lone i))
        (joins_ok Initial WordsFit rest ready kinds d.places id (known_to os) other (knows k f None ∷ []))

  -- what was found in the slot is what the call returns
  pub ends_at : {rest : Rest D} {ready : Ready D} {kinds : Kinds} {d : DoorId} {os : List (PlaceOut D)}
      {l x : Guarded D} {s : D}
      → Ends rest ready kinds d os l → Some l ≡ Some x → x.state ≡ s → Closes rest ready kinds d os s × rest s nobody
  ends_at {rest = rest} {ready = ready} {kinds = kinds} {d = d} {os = os} {l = l} {x = x} {s = s} e found is =
      let same : l.state ≡ s = ap (λ (o : Option (Guarded D)). (unwrap_or o l).state) found ∙ is in
      subst (λ (t : D). Closes rest ready kinds d os t × rest t nobody) same (e.closes, e.rests)
