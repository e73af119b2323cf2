use Rattle.std.proofs.Common.{◌≡◌, [], Vec, Global, arith}
use Rattle.std.proofs.lemmas.List.Elements.{All-nil, All-push, All-same}
use Rattle.disk_jobs.specs.declared.done.Done.{Done}
use Rattle.disk_service.proofs.serving.rooms.Goals as goal

abbrev IsEmpty : Vec Done Global → Type 0
IsEmpty room = room.items ≡ []

pub loop-init : goal.loop-init
loop-init c =
    let first = c.in_ok-rooms.ensures.len in
    (omega arith, All-same IsEmpty _ [] c.in_ok-rooms.ensures.items (All-nil IsEmpty))

pub loop-preserved : goal.loop-preserved
loop-preserved c =
    let before = c.loop.invariant in
    let len = rw c.in_ok-push.was at c.push.ensures.len in
    let items = rw c.in_ok-push.was at c.push.ensures.items in
    (omega arith, All-same IsEmpty _ _ items (All-push IsEmpty _ _ before.1 c.in_ok-room.ensures.items))
