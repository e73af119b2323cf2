use Rattle.std.proofs.Common.{◌≡◌, ◌≢◌, ℕ, List, [], ap, ◌∙◌, subst}
use Rattle.std.specs.Prelude.{MatchOption, slice_index}
use Rattle.std.specs.Option.{option_map}
use Rattle.hoare_law.specs.Internal.WithoutData.{dataless}
use Rattle.hoare_law.specs.Waiting.{priority_of, chosen}
use Rattle.wait_book.proofs.WithData.{first-history}
use Rattle.door_frame.specs.Places.{PlaceIn}
use Rattle.door_frame.specs.Views.{front_of}
use Rattle.door_frame.proofs.Inside.{book_in_hand, listed_in_hand}
use Rattle.door_frame.proofs.place.Inside.first.Goals as goal

pub returns : goal.returns
returns g c =
    let f = front_of c.self.inside.seat.me.0 c.self.inside.alone in
    let are = listed_in_hand c.book.ensures c.self.invariant c.self.view_is in
    record {
      lists = subst (λ (q : List ℕ). MatchOption c.first.result (q ≡ []) (λ p. (q ≢ []) × (p ≡ slice_index q 0)))
          (ap (λ (q : ℕ → List ℕ). q c.args.condition) are) c.first.ensures.lists;
      front =
          first-history c.first.result f c.args.condition
          (c.first.ensures.of (dataless f) (book_in_hand c.book.ensures c.self.invariant))
          ∙ ap
          (λ (i : PlaceIn g.row.D.Denot). option_map priority_of (chosen c.args.condition i.front.events))
          c.self.view_is;
    }
