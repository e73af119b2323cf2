use Rattle.std.proofs.Common.{◌≡◌, true, arith, rules, ◌+◌}
use Rattle.disk_service.specs.ServedJobs.{AreAmong, AreDoneBy}
use Rattle.disk_service.proofs.FirstPlaces.{both-ok, if-ok, there-at}
use Rattle.disk_service.proofs.ServedJobs.{done-still}
use Rattle.disk_service.proofs.threads.with_clock.Goals as goal

pub take_places-mine-requires : goal.take_places-mine-requires
take_places-mine-requires g c =
    let workers = c.workers-workers.ensures.value in
    (c.args.doors.now, there-at (c.args.jobs.now.workers + 2) _ (omega arith) c.requires.places)

pub take_places-given-requires : goal.take_places-given-requires
take_places-given-requires g c =
    let workers = c.workers-workers.ensures.value in
    let there =
    there-at (c.args.jobs.now.workers + 2) (c.workers-workers.result + 1 + 1) (omega arith) c.requires.places in
    (c.args.doors.now, c.take_places-mine.ensures.left _ there)

pub start_clock-requires-clause-own : goal.start_clock-requires-clause-own
start_clock-requires-clause-own g c =
    let workers = c.workers-workers.ensures.value in
    let there =
    there-at (c.args.jobs.now.workers + 2) (c.workers-workers.result + 1 + 1) (omega arith) c.requires.places in
    let own = c.take_places-given.ensures.own _ (c.take_places-mine.ensures.left _ there) in
    search rules

pub with_workers-mine-requires-clause-state : goal.with_workers-mine-requires-clause-state
with_workers-mine-requires-clause-state g c =
    let workers = c.workers-workers.ensures.value in
    let rooms = c.requires.rooms in
    let there =
    there-at (c.args.jobs.now.workers + 2) (c.workers-workers.result + 1 + 1) (omega arith) c.requires.places in
    λ _ _. record {
      places = c.take_places-given.ensures.left _ (c.take_places-mine.ensures.left _ there);
      rooms = omega arith;
      unused = record {
        fresh = (c.take_places-given.ensures.fresh (c.take_places-mine.ensures.fresh c.requires.unused.fresh).1).1;
        empty = c.requires.unused.empty;
        none = c.requires.unused.none;
      };
    }

pub with_workers-mine-requires-clause-mine : goal.with_workers-mine-requires-clause-mine
with_workers-mine-requires-clause-mine g c =
    let workers = c.workers-workers.ensures.value in
    let there =
    there-at (c.args.jobs.now.workers + 2) (c.workers-workers.result + 1 + 1) (omega arith) c.requires.places in
    λ _ _. c.take_places-mine.ensures.own _ there

pub returns-clause-done : goal.returns-clause-done
returns-clause-done g c =
    let left = c.with_workers-mine.new.state in
    if-ok (left.did_all ≡ true → AreDoneBy (AreAmong c.put_back.new.places) c.args.jobs.now.workers left.results.items)
    c.and-2.result (λ v is. λ all.
    let outer = both-ok c.and.result c.put_back.result c.and-2.result v c.and-2.ensures is in
    let inner =
    both-ok c.with_workers-mine.result.1 c.put_back-back.result c.and.result outer.0.0 c.and.ensures outer.0.1 in
    let done = rw inner.0.1 at c.with_workers-mine.ensures.done in
    done-still _ _ _ _ _ _ _ _ c.workers-workers.ensures.value (rw inner.1 at c.put_back-back.ensures.put)
    (rw outer.1 at c.put_back.ensures.put) (done all))
