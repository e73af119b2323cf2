use Rattle.std.proofs.Common.{refl, ◌∙◌}
use Rattle.baton_door.proofs.Attempts.{admitted_after, out_on, out_refl, still_outside, turned_away}
use Rattle.baton_door.proofs.door.RawBatonDoor.sleep_and_try.Goals as goal

pub loop-init : goal.loop-init
loop-init g c = ((tt, tt), refl, out_refl)

pub loop-preserved : goal.loop-preserved
loop-preserved g c = (
  (tt, tt),
  c.try_or_skip.ensures.table ∙ c.try_in.ensures.table ∙ c.loop.invariant.1,
  out_on (out_on c.loop.invariant.2 (turned_away (c.try_in.ensures.refused c.if-try_in.false)))
      (c.try_or_skip.ensures.turned_away c.if-try_or_skip.false),
)

pub try_in-requires-clause-outside : goal.try_in-requires-clause-outside
try_in-requires-clause-outside g c = still_outside c.loop.invariant.2 c.requires.outside

pub try_or_skip-requires-clause-outside : goal.try_or_skip-requires-clause-outside
try_or_skip-requires-clause-outside g c =
    still_outside (out_on c.loop.invariant.2 (turned_away (c.try_in.ensures.refused c.if-try_in.false)))
    c.requires.outside

pub returns-then-try_in-clause-let_in : goal.returns-then-try_in-clause-let_in
returns-then-try_in-clause-let_in g c = admitted_after c.loop.invariant.2 (c.try_in.ensures.let_in c.if-try_in.true)

pub returns-then-try_or_skip-clause-let_in : goal.returns-then-try_or_skip-clause-let_in
returns-then-try_or_skip-clause-let_in g c =
    admitted_after (out_on c.loop.invariant.2 (turned_away (c.try_in.ensures.refused c.if-try_in.false)))
    (c.try_or_skip.ensures.let_in c.if-try_or_skip.true)
