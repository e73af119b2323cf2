use Rattle.std.proofs.Common.{arith, ◌∙◌}
use Rattle.door_frame.proofs.GuardedBoxes.{unpacked, laid_down}
use Rattle.baton_door.proofs.Steps.{gives_at}
use Rattle.baton_door.proofs.table_steps.put_and_write.Goals as goal

pub store-requires : goal.store-requires
store-requires g c =
    let e = c.requires.event in
    let D = g.D.MonitorData in
    let wide = c.requires.wide in
    let same = unpacked c.deref_mut.ensures.value c.guarded.view_is in
    let laid = c.put_guarded.ensures.in_slot ∙ laid_down c.args.guarded same e.1 in (
      c.put_guarded.ensures.table ∙ c.requires.table,
      omega (arith, wide),
      gives_at D.rest D.ready
          (g.K.DoorKey.kinds c.args.table.now.shared.key) _ _ _ c.args.place e.0 c.args.guarded c.args.next
          g.J.PickedEvent.event _ _ laid
          e.2 c.word_of_next.ensures,
    )

pub returns-clause-away : goal.returns-clause-away
returns-clause-away g c = λ f is.
    let same = unpacked c.deref_mut.ensures.value c.guarded.view_is in
    let laid = c.put_guarded.ensures.in_slot ∙ laid_down c.args.guarded same is in
    c.store.ensures.2 c.args.place f c.args.guarded laid

pub returns-clause-released : goal.returns-clause-released
returns-clause-released g c =
    let e = c.requires.event in
    let same = unpacked c.deref_mut.ensures.value c.guarded.view_is in
    let laid = c.put_guarded.ensures.in_slot ∙ laid_down c.args.guarded same e.1 in
    (c.args.place, _, c.store.ensures.2 c.args.place e.0 c.args.guarded laid, e.2.given_up)
