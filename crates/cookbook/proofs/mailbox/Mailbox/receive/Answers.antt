use Rattle.std.proofs.Common.{arith, ◌≡◌, ◌∙◌, refl, length}
use Rattle.std.proofs.lemmas.Bool.{iff_false}
use Rattle.hoare_law.proofs.GotInside.{GotInside, GotInside-at_once, GotInside-waited}
use Rattle.hoare_law.proofs.Growth.{Finishes-exit}
use Rattle.cookbook.specs.Mailboxes.{LetterReady}
use Rattle.cookbook.proofs.Mailboxes.{LetterReady-at_once, RoomReady-taken, MailRests-taken}
use Rattle.cookbook.proofs.mailbox.Mailbox.receive.Given.{Over}
use Rattle.cookbook.proofs.mailbox.Mailbox.receive.Goals as goal
use Rattle.cookbook.proofs.mailbox.Mailbox.receive.Goals.{After-state_mut, then-is_empty, else-is_empty}

-- the caller entered and, after a wait or without one, finds a letter
came : (g : Over) (c : After-state_mut g)
    → GotInside g.M.Monitor c.args.m.now c.args.out (λ _ a. length a ≡ 0) (λ _. 1) (λ _. 0)
    (λ b q. LetterReady (length b) (q 0) (q 1)) c.if-is_empty.inside
came g c = elim c.if-is_empty.branch [
  | then-is_empty w ↦
      let none = rw c.state.ensures at (c.is_empty.ensures.0 w.if-is_empty.true) in
      rw w.inside-is
      (GotInside-waited g.M.Monitor c.enter-inside.ensures.place c.enter-inside.ensures.front none
      w.wait-inside.ensures.of
      w.wait-inside.ensures.place
      w.wait-inside.ensures.front refl refl (w.wait-inside.ensures.ready (omega arith)))
  | else-is_empty w ↦
      let some = rw c.state.ensures at (iff_false c.is_empty.ensures w.if-is_empty.false) in
      rw w.inside-is
      (GotInside-at_once g.M.Monitor c.enter-inside.ensures.of c.enter-inside.ensures.place
      c.enter-inside.ensures.front some
      (LetterReady-at_once c.enter-inside.ensures.rest some))
]

pub take-letter-requires : goal.take-letter-requires
take-letter-requires g c = rw c.state_mut.ensures.value (came g c).ready.some

pub signal_leave-out-requires-clause-ready : goal.signal_leave-out-requires-clause-ready
signal_leave-out-requires-clause-ready g c =
    RoomReady-taken (came g (goal.at.signal_leave-out-requires-clause-ready g c).After-state_mut).ready
    (rw c.state_mut.ensures.value at c.take-letter.ensures) (g.met.M.Monitor.takes_data _ _)
    (g.met.M.Monitor.keeps_lists _ _)

pub signal_leave-out-requires-clause-rest : goal.signal_leave-out-requires-clause-rest
signal_leave-out-requires-clause-rest g c =
    MailRests-taken (came g (goal.at.signal_leave-out-requires-clause-rest g c).After-state_mut).ready
    (rw c.state_mut.ensures.value at c.take-letter.ensures) (g.met.M.Monitor.takes_data _ _)
    (g.met.M.Monitor.keeps_lists _ _)

pub returns-clause-trace : goal.returns-clause-trace
returns-clause-trace g c =
    let inside = came g (goal.at.returns-clause-trace g c).After-state_mut in
    record {
      found = g.M.Monitor.data_in c.if-is_empty.inside;
      others = c.take-letter.new.self;
      front = g.M.Monitor.front_in c.if-is_empty.inside;
      enters = inside.enters;
      takes = rw c.state_mut.ensures.value at c.take-letter.ensures;
      finishes = Finishes-exit c.signal_leave-out.ensures.front (g.met.M.Monitor.keeps_place _ _ ∙ inside.place)
          (g.met.M.Monitor.takes_data _ _) (g.met.M.Monitor.keeps_front _ _);
    }
