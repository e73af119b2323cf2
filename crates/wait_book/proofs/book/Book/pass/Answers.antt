use Rattle.std.proofs.Common.{true, arith, rules, refl, sym}
use Rattle.wait_book.specs.Contents.{Contents, IsOf}
use Rattle.wait_book.specs.Insides.{view_of}
use Rattle.wait_book.proofs.Sound as sound
use Rattle.wait_book.proofs.Histories as histories
use Rattle.wait_book.proofs.Priorities as priorities
use Rattle.wait_book.proofs.Signalled.{nobody_waits, taken_out}
use Rattle.wait_book.proofs.book.Book.pass.Goals as goal

pub take_first-requires : goal.take_first-requires
take_first-requires c =
    omega (
      arith,
      sound.hoare_chain (view_of c.self.inside) _ c.args.condition c.self.view_is c.requires.hoare c.self.invariant,
    )

-- if no process waits

pub returns-in_default : goal.returns-in_default
returns-in_default c =
    let b : Contents = view_of c.self.inside in
    let below = sound.hoare_chain b _ c.args.condition c.self.view_is c.requires.hoare c.self.invariant in
    let e = c.in_default.ensures in
    let none = nobody_waits c.args.condition c.self.inside c.take_first.new.self below e.0 e.1 in
    record {
      of = λ h o.
          let now : IsOf b h = histories.IsOf-same _ b h (sym c.self.view_is) o in
          histories.after_handing-nobody true b _ c.args.place c.args.condition h none.nobody now
          (c.leave.ensures.of h (histories.IsOf-same b _ h (sym none.same) now));
      next = search rules;
      somebody = λ some. absurd (some (priorities.no_priority_on c.args.condition c.self.view_is none.nobody));
      answered = search rules;
      apart = sound.apart_same c.self.view_is c.self.invariant c.requires.inside;
      priorities = λ d. priorities.priorities_on-untaken c.args.condition d _ c.self.view_is none
          (c.leave.ensures.priorities d);
      sizes = search rules;
    }

-- if a waiter is resumed

pub invariant_of-self-2 : goal.invariant_of-self-2
invariant_of-self-2 c =
    let b : Contents = view_of c.self.inside in
    let below = sound.hoare_chain b _ c.args.condition c.self.view_is c.requires.hoare c.self.invariant in
    let out =
    taken_out c.args.condition c.in-Some.successor c.self.inside.chains c.take_first.new.self below
    c.in-Some.ensures in
    let r =
    sound.resumes c.self.view_is c.self.invariant c.requires.inside (omega (arith, c.requires.hoare)) out.took in
    sound.IsSound-same _ _
    (sound.parts out.room out.room refl out.kept.signallers out.kept.called refl)
    (sound.passed_sound _ c.args.place c.args.condition c.in-Some.successor _ r
    (sound.same_hoare b _ c.args.condition c.self.view_is c.requires.hoare))

pub returns : goal.returns
returns c =
    let b : Contents = view_of c.self.inside in
    let below = sound.hoare_chain b _ c.args.condition c.self.view_is c.requires.hoare c.self.invariant in
    let out =
    taken_out c.args.condition c.in-Some.successor c.self.inside.chains c.take_first.new.self below
    c.in-Some.ensures in
    let r =
    sound.resumes c.self.view_is c.self.invariant c.requires.inside (omega (arith, c.requires.hoare)) out.took in
    record {
      of =
          λ h o. histories.IsOf-same _ _ _ (sound.parts out.room out.room refl out.kept.signallers out.kept.called refl)
          (histories.after_handing-taken b c.args.place c.args.condition c.in-Some.successor _ r h
          (histories.IsOf-same _ b h (sym c.self.view_is) o)
          (sound.same_hoare b _ c.args.condition c.self.view_is c.requires.hoare) out.first true);
      next = c.now.ensures.turn;
      somebody = λ some. (c.in-Some.successor, refl);
      answered = c.now.ensures.place;
      apart = sound.apart_same c.self.view_is c.self.invariant c.requires.inside;
      priorities = priorities.priorities_on-after b.signallers c.self.view_is r out.first;
      sizes = search rules;
    }
