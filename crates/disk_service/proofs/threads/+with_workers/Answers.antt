use Rattle.std.proofs.Common.{◌≡◌, ◌+◌, ◌-◌, length, arith, rules}
use Rattle.disk_service.proofs.FirstPlaces.{for_workers-at}
use Rattle.disk_service.proofs.ServedJobs.{none-done}
use Rattle.disk_service.proofs.threads.+with_workers.Goals as goal

pub take_out-given-requires : goal.take_out-given-requires
take_out-given-requires g t c =
    let some = c.if-left-eq0.false in
    (c.args.doors.now, for_workers-at c.args.left _ (omega arith) c.requires.state)

pub with_workers-mine-requires-clause-state : goal.with_workers-mine-requires-clause-state
with_workers-mine-requires-clause-state g t c =
    let some = c.if-left-eq0.false in
    λ _ _. c.take_out-given.ensures.left c.args.doors.now (for_workers-at c.args.left _ (omega arith) c.requires.state)

pub start_worker-requires-clause-own : goal.start_worker-requires-clause-own
start_worker-requires-clause-own g t c =
    let some = c.if-left-eq0.false in
    let own =
    c.take_out-given.ensures.own c.args.doors.now (for_workers-at c.args.left _ (omega arith) c.requires.state) in
    search rules

pub returns-in_default-clause-handed : goal.returns-in_default-clause-handed
returns-in_default-clause-handed g t c =
    let some = c.if-left-eq0.false in
    let workers = c.workers.ensures.value in
    let has =
    c.take_out-given.ensures.left c.args.doors.now (for_workers-at c.args.left _ (omega arith) c.requires.state) in
    let rooms = has.rooms in
    let started : c.workers.result - c.args.left
    ≡ c.args.jobs.now.workers - (length c.take_out-given.new.self.rooms.items + 1) = omega arith in
    rw started at c.stop_workers-mine.ensures.handed

pub start_worker-requires-clause-fresh : goal.start_worker-requires-clause-fresh
start_worker-requires-clause-fresh g t c =
    let some = c.if-left-eq0.false in
    λ _ _. c.take_out-given.ensures.fresh c.args.doors.now (for_workers-at c.args.left _ (omega arith) c.requires.state)

pub start_worker-requires-clause-empty : goal.start_worker-requires-clause-empty
start_worker-requires-clause-empty g t c =
    let some = c.if-left-eq0.false in
    λ _ _. c.take_out-given.ensures.empty c.args.doors.now (for_workers-at c.args.left _ (omega arith) c.requires.state)

pub returns-then-left-eq0-clause-done : goal.returns-then-left-eq0-clause-done
returns-then-left-eq0-clause-done g t c = λ all.
    none-done _ _ _ c.if-left-eq0.true c.requires.state.unused.none
