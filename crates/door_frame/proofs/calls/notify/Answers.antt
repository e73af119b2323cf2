use Rattle.std.proofs.Common.{refl}
use Rattle.hoare_law.specs.Growth.{nobody_called}
use Rattle.wait_book.proofs.WithData.{none-listed}
use Rattle.door_frame.proofs.Notifications.{taken_none, notified}
use Rattle.door_frame.proofs.calls.notify.Goals as goal

-- if nobody waits

pub returns-then-not-queue-clause-lists : goal.returns-then-not-queue-clause-lists
returns-then-not-queue-clause-lists g c = taken_none _ _ (none-listed _ c.if-not-queue.ensures.lists)

pub returns-then-not-queue-clause-answer : goal.returns-then-not-queue-clause-answer
returns-then-not-queue-clause-answer g c = c.if-not-queue.ensures.lists

pub returns-then-not-queue-clause-front : goal.returns-then-not-queue-clause-front
returns-then-not-queue-clause-front g c = nobody_called (none-listed _ c.if-not-queue.ensures.front) refl

-- if a place waits

pub returns : goal.returns
returns g c =
    let some = (c.if-not-queue.ensures.lists).0 refl in
    let n = c.call.ensures.noted in
    let r = notified c.args.condition c.requires.of some n in
    record {
      of = n.of;
      place = n.place;
      «data» = n.data_are;
      lists = r.1;
      answer = ((λ _. some), λ _. refl);
      front = r.0;
    }
