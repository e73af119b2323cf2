-- Which places are among those in hand.
use Rattle.std.proofs.Common.{◌≡◌, ◌≢◌, ◌<◌, ◌+◌, ◌⊎◌, ◌++◌, ℕ, zero, suc, Bool, true, false, List, [], ◌∷◌, length}
use Rattle.std.proofs.Common.{slice_index_or, map, append-nil, ⊎_elim}
use Rattle.std.proofs.Common.{inl, inr, refl, sym, ap, ◌∙◌, subst, arith, eqb, eqb-true, eq-eqb, true≢false}
use Rattle.std.proofs.lemmas.List.{append_assoc}
use Rattle.std.proofs.lemmas.List.Elements.{All-nil, All-push, All-weaker}
use mathlib.Core.Logic.{dite}
use native.Mathlib.Decide.{ℕ_discrete}
use Rattle.shelf.specs.declared.view.Change.TheVariants.{Take}
use Rattle.shelf.specs.Log.{Begins, taken}
use Rattle.shelf.specs.Views.{numbers_below}
use Rattle.shelf.proofs.Lists.{begins_push, begins_refl, begins_trans, taken_take}
use Rattle.hoare_law.specs.declared.event.History.{History}
use Rattle.baton_door.specs.StepDoors.{StepId}
use Rattle.door_frame.specs.Places.{DoorId, HasPlace, IsOut, PlaceOut, place_id_at, place_out, places_from}
use Rattle.door_frame.proofs.Views.{places_more}
use Rattle.door_place.specs.Returns.{Collects, IsAbsent, IsOnShelf, KeeperOf, Log, Tries, WasAbsent, WasTaken, absent}
use Rattle.door_place.specs.Returns.{Refills, as_it_was, collected, found, numbers_onto}
use Rattle.door_place.specs.States.{Carried, any, calm}

pub has_at : (k i : ℕ) (os : List (PlaceOut Carried)) (else_one : PlaceOut Carried) → i < length os
    → (slice_index_or os i else_one).place ≡ k → HasPlace k os
has_at k i [] e below is = absurd (omega (arith, below))
has_at k zero (o ∷ os) e below is = inl is
has_at k (suc i) (o ∷ os) e below is = inr (has_at k i os e (omega (arith, below)) is)

-- none of the first i has the number k
abbrev pub NoneBefore : ℕ → ℕ → List (PlaceOut Carried) → Type 0
NoneBefore k i os =
    (j : ℕ) → (else_one : PlaceOut Carried) → j < i → j < length os → (slice_index_or os j else_one).place ≢ k

same_at : (i : ℕ) (os : List (PlaceOut Carried)) (d e : PlaceOut Carried) → i < length os
    → slice_index_or os i d ≡ slice_index_or os i e
same_at i [] d e below = absurd (omega (arith, below))
same_at zero (o ∷ os) d e below = refl
same_at (suc i) (o ∷ os) d e below = same_at i os d e (omega (arith, below))

pub none_before_next : (k i : ℕ) (os : List (PlaceOut Carried)) (d : PlaceOut Carried) → i < length os
    → NoneBefore k i os → (slice_index_or os i d).place ≢ k → NoneBefore k (i + 1) os
none_before_next k i os d inside none apart j e below short = by (eqb j i) refl
  where
    by : (b : Bool) → eqb j i ≡ b → (slice_index_or os j e).place ≢ k
    by true is =
        λ same. apart (ap (λ (o : PlaceOut Carried). o.place) (same_at i os d e inside)
        ∙ subst (λ (m : ℕ). (slice_index_or os m e).place ≡ k) (eqb-true j i is) same)
    by false is =
        let other : j ≢ i = (λ e. true≢false (sym (eq-eqb j i e) ∙ is)) in none j e (omega (arith, below, other)) short

-- if none at all has the number k, place k isn't in hand
pub lacks : (k : ℕ) (os : List (PlaceOut Carried)) → NoneBefore k (length os) os → HasPlace k os → ⊥
lacks k [] none has = has
lacks k (o ∷ os) none (inl is) = none 0 o (omega arith) (omega arith) is
lacks k (o ∷ os) none (inr has) =
    lacks k os (λ j e below short. none (suc j) e (omega (arith, below)) (omega (arith, short))) has

-- if all of the first n are in hand, and place n is, all of the first n + 1 are
pub one_more : (os : List (PlaceOut Carried)) (n : ℕ) → ((k : ℕ) → k < n → HasPlace k os) → HasPlace n os → (k : ℕ)
    → k < n + 1 → HasPlace k os
one_more os n all one k below = by (eqb k n) refl
  where
    by : (b : Bool) → eqb k n ≡ b → HasPlace k os
    by true is = subst (λ (m : ℕ). HasPlace m os) (sym (eqb-true k n is)) one
    by false is =
        let apart : k ≢ n = (λ e. true≢false (sym (eq-eqb k n e) ∙ is)) in
        all k (omega (arith, below, apart))

-- a place in hand is still in hand with more
has_still : (k : ℕ) (os ps : List (PlaceOut Carried)) → HasPlace k os → HasPlace k (os ++ ps)
has_still k [] ps has = absurd has
has_still k (o ∷ os) ps (inl is) = inl is
has_still k (o ∷ os) ps (inr has) = inr (has_still k os ps has)

has_last : (k : ℕ) (os : List (PlaceOut Carried)) (o : PlaceOut Carried) → o.place ≡ k → HasPlace k (os ++ o ∷ [])
has_last k [] o is = inl is
has_last k (p ∷ os) o is = inr (has_last k os o is)

places_push : (os : List (PlaceOut Carried)) (o : PlaceOut Carried)
    → map (λ (p : PlaceOut Carried). p.place) (os ++ o ∷ []) ≡ map (λ (p : PlaceOut Carried). p.place) os ++ o.place ∷ []
places_push [] o = refl
places_push (p ∷ os) o = ap (λ (ks : List ℕ). p.place ∷ ks) (places_push os o)

-- the numbers of the places in hand, with one more
pub numbers_push : (ks : List ℕ) (os : List (PlaceOut Carried)) (o : PlaceOut Carried)
    → numbers_onto ks (os ++ o ∷ []) ≡ o.place ∷ numbers_onto ks os
numbers_push ks [] o = refl
numbers_push ks (p ∷ os) o = numbers_push (p.place ∷ ks) os o

pub numbers_long : (ks : List ℕ) (os : List (PlaceOut Carried)) → length (numbers_onto ks os) ≡ length ks + length os
numbers_long ks [] = omega arith
numbers_long ks (o ∷ os) = let rest = numbers_long (o.place ∷ ks) os in omega (arith, rest)

-- the numbers of all places of a door
pub numbers_all : (d : DoorId) (n : ℕ) (f : History Carried) → numbers_onto [] (places_from d 0 n f) ≡ numbers_below n
numbers_all d zero f = refl
numbers_all d (suc n) f =
    let more : suc n ≡ n + 1 = omega arith in
    let last : 0 + n ≡ n = omega arith in
    ap (λ (m : ℕ). numbers_onto [] (places_from d 0 m f)) more
    ∙ ap (numbers_onto []) (places_more d 0 n f)
    ∙ numbers_push [] (places_from d 0 n f) (place_out (place_id_at d (0 + n)) (0 + n) f)
    ∙ (λ i. last i ∷ numbers_all d n f i)

pub below_long : (n : ℕ) → length (numbers_below n) ≡ n
below_long zero = refl
below_long (suc n) = ap suc (below_long n)

abbrev head_or : ℕ → List ℕ → ℕ
head_or d [] = d
head_or d (k ∷ ks) = k

abbrev tail_of : List ℕ → List ℕ
tail_of [] = []
tail_of (k ∷ ks) = ks

pub same_head : (j k : ℕ) (js ks : List ℕ) → j ∷ js ≡ k ∷ ks → j ≡ k
same_head j k js ks is = ap (head_or j) is

pub same_tail : (j k : ℕ) (js ks : List ℕ) → j ∷ js ≡ k ∷ ks → js ≡ ks
same_tail j k js ks is = ap tail_of is

-- a keeper that has no place in hand after it refilled had none before
pub had_none : (old new : KeeperOf) → Refills old new → new.outs ≡ [] → old.outs ≡ []
had_none old new (as_it_was some is) none = ap (λ (k : KeeperOf). k.outs) (sym is) ∙ none
had_none old new (collected none c) _ = none

-- the keeper of the same door
pub same_door : (old new : KeeperOf) → Refills old new → new.door ≡ old.door
same_door old new (as_it_was some is) = ap (λ (k : KeeperOf). k.door) is
same_door old new (collected none c) = c.door

-- the keeper collected none of the places yet
pub none_yet : (k : KeeperOf) → Collects 0 k k
none_yet k = record {
  more = [];
  door = refl;
  outs = sym (append-nil k.outs);
  of = All-nil (IsOut calm any k.door.kinds k.door.door);
  log = begins_refl k.log;
  found = All-nil (WasTaken k.log k.log);
  takings = sym (append-nil (taken k.log));
  each = λ j below. absurd (omega (arith, below));
}

-- and then it tried to take one more
pub one_collected : (n : ℕ) (x y z : KeeperOf) → Collects n x y → Tries n y z → Collects (n + 1) x z
one_collected n x y z h (found o moment is number of mom present) =
    subst (Collects (n + 1) x) (sym is) (record {
      more = h.more ++ o ∷ [];
      door = h.door;
      outs = ap (λ (os : List (PlaceOut Carried)). os ++ o ∷ []) h.outs ∙ append_assoc x.outs h.more (o ∷ []);
      of = All-push (IsOut calm any x.door.kinds x.door.door) h.more o h.of
          (subst (λ (d : StepId). IsOut calm any d.kinds d.door o) h.door of);
      log = begins_trans h.log grew;
      found = All-push (WasTaken x.log learned) h.more o
          (All-weaker (WasTaken x.log y.log) (WasTaken x.log learned)
          (λ p t. record {
            moment = t.moment;
            since = t.since;
            present = t.present;
            until = begins_trans t.until grew;
          }) h.more h.found)
          (record {
            moment = moment;
            since = begins_trans h.log mom.begins;
            present = subst (λ (k : ℕ). IsOnShelf k o moment) (sym number) present;
            until = record {
              more = [];
              is = ap (λ (k : ℕ). moment ++ Take k ∷ []) (sym number) ∙ sym (append-nil _);
            };
          });
      takings =
          taken_take n moment
          ∙ ap (λ (ks : List ℕ). ks ++ n ∷ []) (mom.takings ∙ h.takings)
          ∙ append_assoc (taken x.log) (map (λ (p : PlaceOut Carried). p.place) h.more) (n ∷ [])
          ∙ ap (λ (k : ℕ). taken x.log ++ (map (λ (p : PlaceOut Carried). p.place) h.more ++ k ∷ [])) (sym number)
          ∙ ap (λ (ks : List ℕ). taken x.log ++ ks) (sym (places_push h.more o));
      each = each;
    })
  where
    learned : Log
    learned = moment ++ Take n ∷ []

    grew : Begins y.log learned
    grew = begins_trans mom.begins (begins_push moment (Take n))

    each : (k : ℕ) → k < n + 1 → HasPlace k (y.outs ++ o ∷ []) ⊎ WasAbsent x.log learned k
    each k below = dite (ℕ_discrete k n)
        (λ same. inl (has_last k y.outs o (number ∙ sym same)))
        (λ other. ⊎_elim (λ (t : HasPlace k y.outs). inl (has_still k y.outs (o ∷ []) t))
        (λ (t : WasAbsent x.log y.log k). inr (record {
          moment = t.moment;
          since = t.since;
          until = begins_trans t.until grew;
          absent = t.absent;
        })) (h.each k (omega (arith, below, other))))
one_collected n x y z h (absent moment is mom none) =
    subst (Collects (n + 1) x) (sym is) (record {
      more = h.more;
      door = h.door;
      outs = h.outs;
      of = h.of;
      log = begins_trans h.log mom.begins;
      found =
          All-weaker (WasTaken x.log y.log) (WasTaken x.log moment)
          (λ p t. record {
            moment = t.moment;
            since = t.since;
            present = t.present;
            until = begins_trans t.until mom.begins;
          }) h.more h.found;
      takings = mom.takings ∙ h.takings;
      each = each;
    })
  where
    each : (k : ℕ) → k < n + 1 → HasPlace k y.outs ⊎ WasAbsent x.log moment k
    each k below = dite (ℕ_discrete k n)
        (λ same. inr (record {
          moment = moment;
          since = begins_trans h.log mom.begins;
          until = begins_refl moment;
          absent = subst (λ (j : ℕ). IsAbsent j moment) (sym same) none;
        }))
        (λ other. ⊎_elim (λ (t : HasPlace k y.outs). inl t) (λ (t : WasAbsent x.log y.log k). inr (record {
          moment = t.moment;
          since = t.since;
          until = begins_trans t.until mom.begins;
          absent = t.absent;
        })) (h.each k (omega (arith, below, other))))
