-- What each act makes of a place's history.
use Rattle.std.proofs.Common.{◌≡◌, ◌≤◌, ℕ, Bool, true, false, refl, sym, ap, ◌∙◌, subst, arith}
use Rattle.std.specs.Prelude.{if◌then◌else◌}
use mir.Val.{bool_byte}
use Rattle.hoare_law.specs.declared.event.Event.{Event}
use Rattle.hoare_law.specs.declared.event.History.{History}
use Rattle.hoare_law.specs.declared.event.Sizes.{Sizes}
use Rattle.hoare_law.specs.declared.turn.Turn.{Turn}
use Rattle.hoare_law.specs.declared.turn.Turn.TheVariants.{Free, Held, Owed, Return}
use Rattle.hoare_law.specs.Events.{with_event}
use Rattle.hoare_law.specs.Growth.{Begins, Exits, passed_on, just_left}
use Rattle.hoare_law.specs.Growth as growth
use Rattle.hoare_law.specs.Lawful.{Stands}
use Rattle.hoare_law.specs.Legal.{IsLegal}
use Rattle.hoare_law.specs.Sizes.{sizes_at}
use Rattle.hoare_law.specs.Turns.{turn}
use Rattle.hoare_law.proofs.Growth.{Begins-refl, Begins-push}
use Rattle.hoare_law.proofs.Owed.{owed-in_range}
use Rattle.hoare_law.proofs.Waiters.{held-in_range, return-in_range}
use Rattle.wait_book.specs.declared.steps.Next.{Next}
use Rattle.wait_book.specs.Contents.{IsPlaceBelow, next_of}
use Rattle.baton_door.specs.StepDoors.{StepId}
use Rattle.door_place.specs.Codes.{code_of}
use Rattle.door_frame.specs.Places.{PlaceIn}
use Rattle.door_place.specs.States.{Carried, Wakes, any, calm, front_of}
use Rattle.door_place.specs.declared.state.State.{State}
use Rattle.door_place.specs.declared.state.State.TheVariants.{Inside}

-- the place that has its turn next in a legal history is one of the monitor's
next_below : (h : History Carried) (n : ℕ) → IsLegal h → h.sizes.places ≤ n → IsPlaceBelow n (next_of (turn h.events))
next_below h n legal few = by (turn h.events) refl
  where
    by : (t : Turn) → turn h.events ≡ t → IsPlaceBelow n (next_of t)
    by Free is = tt
    by (Held k) is = let k_is = held-in_range h k legal is in omega (arith, k_is, few)
    by (Owed k c) is = let k_is = (owed-in_range h k c legal is).0 in omega (arith, k_is, few)
    by (Return k) is = let k_is = return-in_range h k legal is in omega (arith, k_is, few)

-- so the code for that place is below 64
pub woken : (d : StepId) {next : Next} {code : ℕ} {h : History Carried} → h.sizes ≡ sizes_at d.kinds d.door.places
    → Stands calm any h → d.door.places ≤ 64 → next ≡ next_of (turn h.events) → code ≡ code_of next → Wakes h code
woken d {h = h} sized stands few next is = record {
  is = is ∙ ap code_of next;
  below = next_below h 64 stands.legal (subst (λ (n : ℕ). n ≤ 64) (sym (ap (λ (z : Sizes). z.places) sized)) few);
}

-- a history with one event more begins with the shorter one
pub begun : {f h : History Carried} (e : Event Carried) → h ≡ with_event f e → Begins f h
begun {f = f} e is = subst (Begins f) (sym is) (Begins-push f e)

pub exit_begins : {k c : ℕ} {s : Carried} {f h : History Carried} {b : Bool} → Exits k c s f h b → Begins f h
exit_begins (passed_on w chosen is) = begun _ is
exit_begins (just_left none is) = begun _ is

pub notify_begins : {k c : ℕ} {s : Carried} {f h : History Carried} {b : Bool} → growth.Notifies k c s f h b → Begins f
    h
notify_begins (growth.called_one w chosen is) = begun _ is
notify_begins {f = f} (growth.nobody_called none is) = subst (Begins f) (sym is) (Begins-refl f)

pub broadcast_begins : {k c : ℕ} {s : Carried} {f h : History Carried} → growth.Broadcasts k c s f h → Begins f h
broadcast_begins (growth.called_all some is) = begun _ is
broadcast_begins {f = f} (growth.none_called none is) = subst (Begins f) (sym is) (Begins-refl f)

-- what begins with the front of the place inside begins with that of its state
pub from_inside : {state : State} {i : PlaceIn Carried} {h : History Carried} → state ≡ Inside i → Begins i.front h
    → Begins (front_of state) h
from_inside {h = h} is begins = subst (λ (s : State). Begins (front_of s) h) (sym is) begins

-- a truth value as a number
pub bool_code : (b : Bool) → bool_byte b ≡ (if b then 1 else 0)
bool_code true = refl
bool_code false = refl
