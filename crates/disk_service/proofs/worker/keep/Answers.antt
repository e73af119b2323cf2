use Rattle.std.proofs.Common.{◌≡◌, ◌∙◌, sym, true}
use Rattle.std.specs.Result.{is_ok}
use Rattle.disk_service.proofs.worker.keep.Goals as goal

pub returns-in-Some-clause-kept : goal.returns-in-Some-clause-kept
returns-in-Some-clause-kept c = λ is.
    let ok : is_ok c.push.result ≡ true = sym c.is_ok.ensures.value ∙ is in
    (c.in-Some.done, c.in-Some.is, rw ok at c.push.ensures.items)
