-- The places of a door at which nothing happened yet.
use Rattle.std.proofs.Common.{◌≡◌, ℕ, zero, suc, ◌+◌, ◌≤◌, arith, refl, List, [], sym, ap, ◌∙◌, subst}
use Rattle.std.specs.Prelude.{All}
use Rattle.std.proofs.lemmas.List.Elements.{All-nil, All-cons}
use Rattle.atomic_table.specs.Seated.{TableId}
use Rattle.hoare_law.specs.declared.event.History.{History}
use Rattle.hoare_law.specs.Events.{opened}
use Rattle.hoare_law.specs.Sizes.{Kinds, sizes_at, sizes_of}
use Rattle.hoare_law.specs.Lawful.{Rest, Ready}
use Rattle.hoare_law.specs.Priorities.{nobody}
use Rattle.hoare_law.proofs.Opening.{Stands-opened, outside-opened}
use Rattle.door_frame.specs.declared.view.SeatView.TheVariants.{Places}
use Rattle.door_frame.specs.Places.{DoorId, PlaceOut, IsOut, door_of, places_from}
use Rattle.door_frame.specs.Steps.{SeatState}
use Rattle.door_frame.specs.Views.{all_know}

module _ {D : Type 0} (rest : Rest D) (ready : Ready D) (kinds : Kinds) (d : DoorId) (s : D) where
  -- each of the m places from k on is outside
  outside_from : (k m : ℕ) → k + m ≤ d.places → rest s nobody
      → All (IsOut rest ready kinds d) (places_from d k m (opened (sizes_at kinds d.places) s))
  outside_from k zero fits at_rest = All-nil (IsOut rest ready kinds d)
  outside_from k (suc m) fits at_rest = All-cons (IsOut rest ready kinds d) _ _
      (record {
        of = refl;
        sized = refl;
        below = omega arith;
        stands = Stands-opened rest ready (sizes_at kinds d.places) s at_rest;
        is_outside = outside-opened k (sizes_at kinds d.places) s;
      })
      (outside_from (suc k) m (omega arith) at_rest)

  -- all places that a door is made with are outside
  pub made_outside : {p : ℕ} {os : List (PlaceOut D)} → d.places ≡ p
      → os ≡ places_from d 0 p (opened (sizes_at kinds p) s) → rest s nobody → All (IsOut rest ready kinds d) os
  made_outside same are at_rest =
      subst (All (IsOut rest ready kinds d))
      (sym (are ∙ (λ i. places_from d 0 (sym same i) (opened (sizes_at kinds (sym same i)) s))))
      (outside_from 0 d.places (omega arith) at_rest)

-- the table's number of places, n, is the requested p
module _ {D : Type 0} {n p : ℕ} (same : n ≡ p) where
  -- the seat represents p places
  pub stands_for : {me : SeatState D} (h : History D) → me ≡ (Places (all_know 0 n h), [])
      → me ≡ (Places (all_know 0 p h), [])
  stands_for h is = is ∙ ap (λ (m : ℕ). (Places (all_know 0 m h), [])) same

  -- the places that were dealt are those of the door, opened with the given data
  pub dealt : (conditions mesa : ℕ) (table : TableId) {wakers sleepers : List TableId} {s given : D} {me : SeatState D}
      {os : List (PlaceOut D)} → wakers ≡ sleepers
      → me ≡ (Places (all_know 0 n (opened (sizes_of conditions mesa n) s)), [])
      → ((f : History D) → me ≡ (Places (all_know 0 p f), []) → os ≡ places_from (door_of table p sleepers) 0 p f)
      → s ≡ given → os ≡ places_from (door_of table n wakers) 0 p (opened (sizes_of conditions mesa p) given)
  dealt conditions mesa table each_wakes is deals kept =
      deals _ (stands_for _ is) ∙ (λ i. places_from (door_of table (sym same i) (sym each_wakes i)) 0 p
      (opened (sizes_of conditions mesa (same i)) (kept i)))
