use Rattle.std.proofs.Common.{rules, ◌≡◌, ◌∙◌, refl}
use Rattle.hoare_law.specs.Growth.{at_once}
use Rattle.hoare_law.proofs.Growth.{GetsInside-waited, leaves-as}
use Rattle.plain_schedulers.proofs.single.Single.acquire.Goals as goal
use Rattle.plain_schedulers.proofs.single.Single.acquire.Goals.{then-not-is_in, else-not-is_in}

pub returns-clause-trace : goal.returns-clause-trace
returns-clause-trace g c =
    let place : g.M.Monitor.place_in c.if-not-is_in.inside ≡ g.M.Monitor.place c.args.out = elim c.if-not-is_in.branch [
      | then-not-is_in w ↦ rw w.inside-is (w.wait-inside.ensures.place ∙ c.enter-inside.ensures.place)
      | else-not-is_in w ↦ rw w.inside-is c.enter-inside.ensures.place
    ] in
    record {
      found = g.M.Monitor.data_in c.if-not-is_in.inside;
      front = g.M.Monitor.front_in c.if-not-is_in.inside;
      enters = elim c.if-not-is_in.branch [
        | then-not-is_in w ↦ rw w.inside-is
            (GetsInside-waited c.enter-inside.ensures.front (search rules) w.wait-inside.ensures.front
            c.enter-inside.ensures.place
            refl refl refl refl)
        | else-not-is_in w ↦ rw w.inside-is (at_once c.enter-inside.ensures.front (search rules))
      ];
      is_in = search rules;
      leaves =
          leaves-as c.leave.ensures.front (g.met.M.Monitor.keeps_place _ _ ∙ place)
          (g.met.M.Monitor.takes_data _ _ ∙ c.take.ensures.after)
          (g.met.M.Monitor.keeps_front _ _);
    }
