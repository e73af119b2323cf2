use Rattle.std.proofs.Common.{arith, ◌≡◌, []}
use Rattle.std.proofs.lemmas.List.Elements.{All-pop}
use Rattle.disk_service.proofs.threads.CallerState.take_out.Goals as goal

pub returns-clause-left : goal.returns-clause-left
returns-clause-left c = λ d has.
    let rooms = has.rooms in
    let popped = c.in-Some.ensures.len in
    record {
      places = c.take_places-own.ensures.left d has.places;
      rooms = omega arith;
      unused = record {
        fresh = (c.take_places-own.ensures.fresh has.unused.fresh).1;
        empty = (All-pop (λ room. room.items ≡ []) _ _ _ c.pop.ensures.items has.unused.empty).0;
        none = has.unused.none;
      };
    }

pub returns-clause-fresh : goal.returns-clause-fresh
returns-clause-fresh c = λ d has. (c.take_places-own.ensures.fresh has.unused.fresh).0

pub returns-clause-empty : goal.returns-clause-empty
returns-clause-empty c = λ d has.
    let popped = (All-pop (λ room. room.items ≡ []) _ _ _ c.pop.ensures.items has.unused.empty).1 in
    rw c.in-Some.is at popped
