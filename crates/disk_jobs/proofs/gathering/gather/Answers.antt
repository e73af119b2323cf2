use Rattle.std.proofs.Common.{List, sym, ◌∙◌, subst, rules}
use Rattle.std.specs.List.Sorted.{IsNonDecreasingBy}
use Rattle.std.proofs.lemmas.List.Sorted.{IsNonDecreasingBy-from_sort_by_key}
use Rattle.disk_jobs.specs.Gatherings.{AgreesInOrder}
use Rattle.disk_jobs.specs.Services.{Served}
use Rattle.disk_jobs.proofs.Gathered.{agrees-sorted}
use Rattle.disk_jobs.proofs.gathering.gather.Goals as goal

pub returns-else-agrees-clause-ok : goal.returns-else-agrees-clause-ok
returns-else-agrees-clause-ok c =
    let lines = c.sort_unstable_by_key.new.self.items in
    let up : IsNonDecreasingBy (λ (d : Served). d.job) lines =
    IsNonDecreasingBy-from_sort_by_key (λ (d : Served). d.job) _ c.sort_unstable_by_key.ensures.sorted
    (λ a r q k. search rules) in (
      (λ f. cc),
      (λ a.
          let b = agrees-sorted c.args.list.now.cylinders c.args.results.items lines c.args.jobs c.args.sum c.args.done
          c.sort_unstable_by_key.ensures.permutation up a in
          sym c.if-agrees.false
          ∙ c.agrees.ensures.1
          (subst (λ (v : List Served). AgreesInOrder c.args.list.now.cylinders v c.args.jobs c.args.sum c.args.done)
          (sym c.as_slice.ensures.value) b)),
    )
