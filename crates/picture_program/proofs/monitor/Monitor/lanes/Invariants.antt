use Rattle.std.proofs.Common.{◌≡◌, ◌<◌, ◌↔◌, ℕ, length, slice_index_or}
use Rattle.hoare_law.specs.declared.event.History.{History}
use Rattle.picture_program.specs.declared.monitor.Lane.{Lane}
use Rattle.picture_program.specs.declared.monitor.Lane.TheVariants as states
use Rattle.picture_program.specs.Lanes.{Does, IsAt}
use Rattle.picture_program.proofs.monitor.Monitor.lanes.Given as goal

abbrev pub invariant-places : goal.invariant-places
invariant-places l = record {
  long : length l.lanes ≡ 64;
  done : (h : History (Unit {0})) → IsAt l.fn.self h → (k : ℕ) → k < l.place
      → (lane : Lane) → Does h k lane ↔ (lane ≡ slice_index_or l.lanes k states.Outside);
}
