use Rattle.std.proofs.Common.{ℕ, ◌≡◌, true, Some, arith, rules, refl, sym, ◌∙◌, subst}
use Rattle.disk_service.specs.Sleeps.{never}
use Rattle.disk_service.specs.Borrows.{not_once}
use Rattle.disk_service.specs.declared.thread_places.ThreadPlaces.{ThreadPlaces}
use Rattle.disk_service.specs.JobsDone.{DoesNext, none_yet}
use Rattle.disk_service.proofs.EachJob.{for-none, for-both}
use Rattle.disk_service.proofs.Sleeping.{Sleeps-joined}
use Rattle.disk_service.proofs.Borrowing.{Borrows-joined}
use Rattle.disk_service.proofs.JobsDone.{done-next}
use Rattle.disk_service.proofs.worker.work.Goals as goal

pub loop-init : goal.loop-init
loop-init g c = (
  search rules,
  search rules,
  for-none _ _ _ _ never (omega arith),
  for-none _ _ _ _ not_once (omega arith),
  λ _. none_yet,
)

pub loop-preserved : goal.loop-preserved
loop-preserved g c =
    let inv = c.loop.invariant in (
      search rules,
      search rules,
      for-both _ (Sleeps-joined _) _ _ _ _ _ _ _ inv.2 (rw inv.1 at c.do_job-back.ensures.sleeps) _ (omega arith),
      for-both _ (Borrows-joined _ _) _ _ _ _ _ _ _ inv.3 (rw inv.1 at c.do_job-back.ensures.borrows) _ (omega arith),
      λ all.
          let job : c.next_job-place.result.1 ≡ Some c.in-Some-job.job = c.in-Some-job.is in
          let removes = rw (job, inv.0.items.number, inv.1) at c.next_job-place.ensures.removes in
          let own : ThreadPlaces = record c.loop.own { items = c.next_job-place.result.0 } in
          let does =
          subst (λ (k : ℕ). c.do_job-back.result.1 ≡ true → DoesNext k c.in-Some-job.job c.loop.kept.items
          c.do_job-back.new.kept.items own c.do_job-back.result.0) inv.1 c.do_job-back.ensures.does in
          done-next _ _ _ _ _ _ _ own _ _ _ inv.4 (record { removes = removes; others = refl }) does
          (sym c.both-did_all.ensures ∙ all),
    )

pub returns-in_default-clause-works : goal.returns-in_default-clause-works
returns-in_default-clause-works g c = λ all.
    let inv = c.loop.invariant in
    let removes = rw (c.in_default.is, inv.0.items.number, inv.1) at c.next_job-place.ensures.removes in
    record { last = c.loop.own; done = inv.4 all; stops = record { removes = removes; others = refl } }
