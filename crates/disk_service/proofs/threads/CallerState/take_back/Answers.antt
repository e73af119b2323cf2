use Rattle.std.proofs.Common.{◌≡◌, ◌+◌, true, sym, ◌∙◌}
use Rattle.disk_service.specs.CallerStates.{HaveDone}
use Rattle.disk_service.specs.ServedJobs.{AreAmong, AreDoneBy, HasWorked}
use Rattle.disk_service.proofs.FirstPlaces.{both-ok, if-ok}
use Rattle.disk_service.proofs.ServedJobs.{done-more}
use Rattle.disk_service.proofs.threads.CallerState.take_back.Goals as goal

pub returns-clause-done : goal.returns-clause-done
returns-clause-done c =
    if-ok ((c.args.did ≡ true → HasWorked c.args.own.number c.args.kept.items c.args.own)
    → HaveDone c.args.own.number c.args.self.now → c.both-self.result ≡ true
    → AreDoneBy (AreAmong c.put_back.new.places) (c.args.own.number + 1) c.add_results-added.new.results.items)
    c.and.result (λ v is. λ worked have all.
    let ok = both-ok c.add_results-added.result c.put_back.result c.and.result v c.and.ensures is in
    done-more _ _ _ _ _ _ _ _ _ (rw ok.1 at c.put_back.ensures.put) worked have
    (rw ok.0.1 at c.add_results-added.ensures.added) (sym c.both-self.ensures ∙ all))
