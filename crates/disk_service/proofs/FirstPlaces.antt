-- The first places of a door of the service: all are there, and none is missing.
use Rattle.std.proofs.Common.{ℕ, List, ◌≡◌, ◌<◌, length, ap, ◌∙◌, sym, refl, arith, Result, Ok, Err}
use Rattle.std.specs.Prelude.{slice_index_or, All, IfOk}
use Rattle.std.specs.Result.{result_and}
use Rattle.hoare_law.specs.declared.event.History.{History}
use Rattle.door_frame.specs.Places.{DoorId, PlaceOut, IsOut, places_from, HasPlace}
use Rattle.door_frame.proofs.PlacesInOrder.{length-places, nth-places, has_nth}
use Rattle.disk_service.specs.declared.doors.Doors.{Doors}
use Rattle.disk_service.specs.declared.places.Places.{Places}
use Rattle.disk_service.specs.declared.threads.CallerState.{CallerState}
use Rattle.disk_service.specs.Doors.{Terms, AreFirst, AreThere}
use Rattle.disk_service.specs.CallerStates.{HasForWorkers}

module _ {D : Type 0} where
  -- all places of a door that was made
  pub all-first : (t : Terms D) (door : DoorId) (n : ℕ) (f : History D) (os : List (PlaceOut D))
      → All (IsOut t.rest t.ready t.kinds door) os → os ≡ places_from door 0 n f → AreFirst t door n os
  all-first t door n f os of is =
      let count : length os ≡ n = ap length is ∙ length-places door 0 n f in
      record {
        count = count;
        each = λ k d l. record {
          out = of k d (omega arith);
          number = ap (λ (xs : List (PlaceOut D)). (slice_index_or xs k d).place) is ∙ nth-places door 0 n f k d l
              ∙ omega arith;
        };
      }

  -- none of them is missing
  pub has-first : (t : Terms D) (door : DoorId) (n : ℕ) (os : List (PlaceOut D)) → AreFirst t door n os → (k : ℕ)
      → k < n → HasPlace k os
  has-first t door n os first k l = let c = first.count in has_nth os k k (omega arith) (λ d. (first.each k d l).number)

-- the same of an equal number
pub there-at : {d : Doors} {p : Places} (n m : ℕ) → n ≡ m → AreThere d n p → AreThere d m p
there-at n m e there = rw (sym e) there

pub for_workers-at : {d : Doors} {s : CallerState} (n m : ℕ) → n ≡ m → HasForWorkers d n s → HasForWorkers d m s
for_workers-at n m e has = rw (sym e) has

-- if a result joined of two is `Ok`, both are
pub both-ok : {T U E : Type 0} (x : Result T E) (y : Result U E) (r : Result U E) (v : U) → r ≡ result_and x y
    → r ≡ Ok v → ((u : T) × (x ≡ Ok u)) × (y ≡ Ok v)
both-ok (Ok u) y r v all is = ((u, refl), sym all ∙ is)
both-ok (Err e) y r v all is = let clash : Err e ≡ Ok v = sym all ∙ is in cc

-- what follows from an `Ok` result holds if the result is `Ok`
pub if-ok : {T E : Type 0} (P : Type 0) (r : Result T E) → ((v : T) → r ≡ Ok v → P) → IfOk r (λ _. P)
if-ok P (Ok v) f = f v refl
if-ok P (Err e) f = tt

-- and what follows from six `Ok` results holds if the result that is joined of them is `Ok`
pub if-six_ok : {E P : Type 0} (a b c d e f : Result (Unit {0}) E) {r s t u v : Result (Unit {0}) E}
    → r ≡ result_and a b → s ≡ result_and r c → t ≡ result_and s d → u ≡ result_and t e → v ≡ result_and u f
    → (a ≡ Ok tt → b ≡ Ok tt → c ≡ Ok tt → d ≡ Ok tt → e ≡ Ok tt → f ≡ Ok tt → P) → IfOk v (λ _. P)
if-six_ok {P = P} a b c d e f {r} {s} {t} {u} {v} two three four five six follows =
    if-ok P v (λ x is.
    let i = both-ok u f v x six is in
    let h = both-ok t e u i.0.0 five i.0.1 in
    let g = both-ok s d t h.0.0 four h.0.1 in
    let k = both-ok r c s g.0.0 three g.0.1 in
    let j = both-ok a b r k.0.0 two k.0.1 in
    follows j.0.1 j.1 k.1 g.1 h.1 i.1)
