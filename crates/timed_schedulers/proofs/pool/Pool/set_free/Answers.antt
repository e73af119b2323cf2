use Rattle.std.proofs.Common.{refl, arith}
use Rattle.std.proofs.lemmas.List.{get_or_read}
use Rattle.timed_schedulers.proofs.Kept.{IsKept-owner, IsKept-free}
use Rattle.timed_schedulers.proofs.pool.Pool.set_free.Goals as goal

pub overflow_sub-index_mut : goal.overflow_sub-index_mut
overflow_sub-index_mut c =
    let owner =
    IsKept-owner c.self.invariant (rw (← c.self.view_is) at c.requires.within)
    (rw (← c.self.view_is) at c.requires.held) in
    omega (arith, owner.1, get_or_read c.self.inside.held.items _ _ owner.0 c.index_mut-2.ensures.value 0)

pub invariant_of-self : goal.invariant_of-self
invariant_of-self c =
    let within = rw (← c.self.view_is) at c.requires.within in
    let held = rw (← c.self.view_is) at c.requires.held in
    let owner = IsKept-owner c.self.invariant within held in
    IsKept-free _ c.self.invariant within held
    (omega (arith, owner.1, get_or_read c.self.inside.held.items _ _ owner.0 c.index_mut-2.ensures.value 0))
    refl c.unmark.ensures.length c.unmark.ensures.unmarked c.unmark.ensures.others
