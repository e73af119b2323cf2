-- What a seat knows: before the door opens, how many places the door is to have; then the places that the seat
-- represents.
use Rattle.std.specs.Prelude.{◌≡◌, ◌≢◌, ℕ, zero, suc, Bool, true, false, List, [], ◌∷◌, ◌++◌, take, drop, Option, Some}
use Rattle.std.specs.Prelude.{None}
use Rattle.std.proofs.Common.{true≢false, sym}
use Rattle.hoare_law.specs.declared.event.History.{History}
use Rattle.door_frame.specs.declared.view.PlaceView.{PlaceView}
use Rattle.door_frame.specs.declared.view.Token.{Token}
use Rattle.door_frame.specs.declared.view.Token.TheVariants.{Ticket, Gate}
use Rattle.door_frame.specs.declared.view.SeatView.{SeatView}
use Rattle.door_frame.specs.declared.view.SeatView.TheVariants.{Unopened, Opening, Places}

module _ {D : Type 0} where
  abbrev pub knows : ℕ → History D → Option Token → PlaceView D
  knows k f o = record { place = k; front = f; token = o }

  -- the view of the seat of one place, with its token, if it has one
  abbrev pub sole : ℕ → History D → Option Token → SeatView D
  sole k f o = Places (knows k f o ∷ [])

  -- the view of the seat of one place without a token
  abbrev pub alone : ℕ → History D → SeatView D
  alone k f = sole k f None

  -- the view of the seat of one place that is queued, with the ticket after those of the places `before`
  abbrev pub asking : ℕ → History D → List ℕ → SeatView D
  asking k f before = sole k f (Some (Ticket before))

  -- the view of the seat of one place that attempts to enter, and shut the gate when its word was v
  abbrev pub trying : ℕ → History D → ℕ → SeatView D
  trying k f v = sole k f (Some (Gate v))

  abbrev pub is_alone : SeatView D → Bool
  is_alone (Places (t ∷ [])) = true
  is_alone _ = false

  -- what the seat of one place knows
  abbrev pub front_of : (v : SeatView D) → is_alone v ≡ true → History D
  front_of (Places (t ∷ [])) is = t.front
  front_of (Places []) is = absurd (true≢false (sym is))
  front_of (Places (t ∷ u ∷ ts)) is = absurd (true≢false (sym is))
  front_of (Unopened n) is = absurd (true≢false (sym is))
  front_of (Opening n) is = absurd (true≢false (sym is))

  -- the first seat's view, of a door that is to have n places
  abbrev pub unopened : ℕ → SeatView D
  unopened n = Unopened n

  -- the places k, .., k + n - 1, with one front
  abbrev pub all_know : ℕ → ℕ → History D → List (PlaceView D)
  all_know k zero f = []
  all_know k (suc n) f = knows k f None ∷ all_know (suc k) n f

  abbrev pub no_places : SeatView D
  no_places = Places []

  -- all but the first place
  abbrev pub places_behind : SeatView D → SeatView D
  places_behind (Places ts) = Places (drop 1 ts)
  places_behind v = v

  abbrev pub first_place : SeatView D → SeatView D
  first_place (Places ts) = Places (take 1 ts)
  first_place v = v

  -- the places of the second seat before those of the first
  abbrev pub both_places : SeatView D → SeatView D → SeatView D
  both_places (Places ts) (Places us) = Places (us ++ ts)
  both_places v w = v

  abbrev pub Each : (PlaceView D → Type 0) → List (PlaceView D) → Type 0
  Each P [] = Unit {0}
  Each P (t ∷ ts) = P t × Each P ts

  -- no place of the list is k
  abbrev pub Without : ℕ → List (PlaceView D) → Type 0
  Without k = Each (λ t. t.place ≢ k)

  -- no place is in the list twice
  abbrev pub Apart : List (PlaceView D) → Type 0
  Apart [] = Unit {0}
  Apart (t ∷ ts) = Without t.place ts × Apart ts

  abbrev pub ApartOf : SeatView D → Type 0
  ApartOf (Places ts) = Apart ts
  ApartOf (Unopened n) = ⊥
  ApartOf (Opening n) = ⊥

  -- the places, each of which knows h
  abbrev pub knowing : History D → List (PlaceView D) → List (PlaceView D)
  knowing h [] = []
  knowing h (t ∷ ts) = knows t.place h t.token ∷ knowing h ts

  -- the seat represents places, and P holds of each of them
  abbrev pub EachOf : (PlaceView D → Type 0) → SeatView D → Type 0
  EachOf P (Places ts) = Each P ts
  EachOf P (Unopened n) = ⊥
  EachOf P (Opening n) = ⊥
