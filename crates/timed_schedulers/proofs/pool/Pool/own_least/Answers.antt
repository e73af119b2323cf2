use Rattle.std.proofs.Common.{ap, ◌+◌, arith}
use Rattle.std.proofs.lemmas.List.{get_or_read}
use Rattle.timed_schedulers.proofs.Kept.{free_first, IsKept-few, IsKept-own}
use Rattle.timed_schedulers.proofs.pool.Pool.own_least.Goals as goal

pub index_mut-requires : goal.index_mut-requires
index_mut-requires c =
    let first = free_first c.self.inside.owners.items (rw (← c.self.view_is) at c.least_free-buffer.ensures) in
    omega (arith, first.0, c.self.inside.owners.ok.0)

pub overflow_add-index_mut : goal.overflow_add-index_mut
overflow_add-index_mut c =
    let stream = rw (← c.self.view_is) at c.requires.stream in
    omega (
      arith,
      IsKept-few c.args.stream c.self.invariant,
      get_or_read c.self.inside.held.items _ _ stream c.index_mut-2.ensures.value 0,
    )

pub mark-requires : goal.mark-requires
mark-requires c =
    let first = free_first c.self.inside.owners.items (rw (← c.self.view_is) at c.least_free-buffer.ensures) in
    omega (arith, first.0, c.self.invariant.enough_words)

pub invariant_of-self : goal.invariant_of-self
invariant_of-self c =
    let stream = rw (← c.self.view_is) at c.requires.stream in
    let some = rw (← c.self.view_is) at c.requires.some in
    let first = free_first c.self.inside.owners.items (rw (← c.self.view_is) at c.least_free-buffer.ensures) in
    IsKept-own _ c.self.invariant first.0 first.1 stream
    (ap (λ n. n + 1) (get_or_read c.self.inside.held.items _ _ stream c.index_mut-2.ensures.value 0))
    (omega (arith, c.self.invariant.free_counted, some)) c.mark.ensures.length c.mark.ensures.marked
    c.mark.ensures.others
