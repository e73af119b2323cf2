use Rattle.std.proofs.Common.{◌≢◌, ℕ, List, [], IsTrue, ap, subst}
use Rattle.wait_book.proofs.WithData.{waits-listed}
use Rattle.door_frame.proofs.Inside.{listed_in_hand}
use Rattle.door_frame.proofs.place.Inside.queue.Goals as goal

pub returns : goal.returns
returns g c =
    let are = listed_in_hand c.book.ensures c.self.invariant c.self.view_is in
    let lists = subst (λ (q : List ℕ). (IsTrue c.queue.result → q ≢ []) × (q ≢ [] → IsTrue c.queue.result))
    (ap (λ (q : ℕ → List ℕ). q c.args.condition) are) c.queue.ensures.lists in
    record { lists = lists; front = waits-listed c.queue.result c.args.self.now.front.events c.args.condition lists }
