use Rattle.std.proofs.Common.{◌∙◌, arith}
use Rattle.std.proofs.lemmas.List.{length-set}
use Rattle.picture_program.proofs.Monitors.{lane_more}
use Rattle.picture_program.proofs.monitor.Monitor.lanes.Goals as goal

pub places-preserved : goal.places-preserved
places-preserved c = record {
  long = length-set c.places.lanes c.places.place c.lane.result ∙ c.places.invariant.long;
  done = λ h at. lane_more h c.places.lanes c.places.place c.lane.result
      (omega (arith, c.places.invariant.long, c.places-test.true))
      (c.lane.ensures h at c.places-test.true) (c.places.invariant.done h at);
}

pub returns : goal.returns
returns c = λ h at k below. c.places.invariant.done h at k (omega (arith, below, c.places-test.false))
