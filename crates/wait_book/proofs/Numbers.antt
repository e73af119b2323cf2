-- The number of a place among the called, and how many the called are.
use Rattle.std.proofs.Common.{◌≡◌, ◌≤◌, ◌∷◌, List, [], ℕ, length, map, refl, ap, sym, ◌∙◌, arith}
use Rattle.std.proofs.lemmas.List.{length-map}
use Rattle.hoare_law.specs.declared.event.History.{History}
use Rattle.hoare_law.specs.Events.{place_of}
use Rattle.wait_book.specs.declared.chains.Link.{Link}
use Rattle.wait_book.specs.declared.waiter.Waiter.{Waiter}
use Rattle.wait_book.specs.Contents.{Contents, IsOf, wait_of}
use Rattle.wait_book.specs.Insides.{IsSound, called_in}
use Rattle.wait_book.specs.declared.book.TheConstants.{MOST_PLACES}
use Rattle.wait_book.specs.Lists.{places_in}
use Rattle.wait_book.specs.Numbers.{notified_position, position_from}
use Rattle.wait_book.proofs.Times.{few_once}
use Rattle.wait_book.proofs.Waiters.{places}

-- there are at most `MOST_PLACES` called
pub few_called : (b : Contents) → IsSound b → length b.called ≤ MOST_PLACES
few_called b s =
    let few : length (places b.called) ≤ b.sizes.places =
    few_once (places b.called) b.sizes.places (λ j. omega (arith, s.once j)) (λ j p. s.in_range j (omega arith)) in
    omega (arith, s.few_places, length-map b.called (λ (w : Waiter). w.place))

-- the places of the called, taken as waits, are the places in their chain
places_called : (xs : List Link) → map place_of (map wait_of (called_in xs)) ≡ places_in xs
places_called [] = refl
places_called (x ∷ xs) = ap (λ (js : List ℕ). x.place ∷ js) (places_called xs)

-- the number in the chain is the number among the called of the history
pub number-chain : (b : Contents) (h : History (Unit {0})) (k : ℕ) (xs : List Link) → IsOf b h → b.called ≡ called_in xs
    → position_from 0 k (places_in xs) ≡ notified_position h.events k
number-chain b h k xs o is =
    ap (position_from 0 k) (sym (places_called xs) ∙ ap (λ (ws : List Waiter). map place_of (map wait_of ws)) (sym is)
    ∙ ap (map place_of) (sym o.called_are))
