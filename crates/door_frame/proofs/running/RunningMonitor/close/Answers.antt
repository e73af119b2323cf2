use Rattle.std.proofs.Common.{◌<◌, ℕ, sym, subst}
use Rattle.door_frame.specs.Places.{HasPlace}
use Rattle.door_frame.proofs.running.RunningMonitor.close.Goals as goal

pub close-requires-clause-places : goal.close-requires-clause-places
close-requires-clause-places g c =
    subst (λ d. (k : ℕ) → k < (g.T.RawMonitor.id d).places → HasPlace k c.args.outs.items) (sym c.self.view_is)
    c.requires.places
