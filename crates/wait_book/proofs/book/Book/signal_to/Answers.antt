use Rattle.std.proofs.Common.{arith, rules, refl, ap, sym, ◌∙◌, length}
use Rattle.wait_book.specs.Contents.{Contents, times, waits_of}
use Rattle.wait_book.specs.Insides.{view_of}
use Rattle.wait_book.proofs.Sound as sound
use Rattle.wait_book.proofs.Histories as histories
use Rattle.wait_book.proofs.Waiters.{places, length-taken, times-taken}
use Rattle.wait_book.proofs.Queued.{times_all, total_is}
use Rattle.wait_book.proofs.Signalled.{named_none, named_out, signalled_to}
use Rattle.wait_book.proofs.book.Book.signal_to.Goals as goal

pub take-requires : goal.take-requires
take-requires c =
    omega (
      arith,
      sound.hoare_chain (view_of c.self.inside) _ c.args.condition c.self.view_is c.requires.hoare c.self.invariant,
    )

-- if the place doesn't wait there

pub returns-then-not-take : goal.returns-then-not-take
returns-then-not-take c =
    let b : Contents = view_of c.self.inside in
    let below = sound.hoare_chain b _ c.args.condition c.self.view_is c.requires.hoare c.self.invariant in
    let none = named_none c.args.condition c.args.waiter c.self.inside c.take.new.self below c.if-not-take.ensures in
    record {
      of = λ h o.
          histories.IsOf-same b _ _ (sym none.same)
          (histories.after_signal_to-nobody b c.args.place c.args.condition c.args.waiter h none.nobody
          (histories.IsOf-same _ b h (sym c.self.view_is) o));
      next = search rules;
      none = λ empty. none.same ∙ c.self.view_is;
      some = λ some. absurd (some (ap (λ (v : Contents). waits_of c.args.waiter c.args.condition v) (sym c.self.view_is)
          ∙ none.nobody));
      answered = search rules;
      sizes = search rules;
    }

-- if it is resumed

pub append-requires : goal.append-requires
append-requires c =
    let b : Contents = view_of c.self.inside in
    let below = sound.hoare_chain b _ c.args.condition c.self.view_is c.requires.hoare c.self.invariant in
    let out =
    named_out c.args.condition c.args.waiter c.self.inside.chains c.take.new.self below c.if-not-take.ensures in
    let h = sound.holds c.self.view_is c.self.invariant c.requires.inside in
    let apart = sound.holder_apart b c.args.place h in
    record {
      chain = search rules;
      no_condition = search rules;
      few = omega (arith, below);
      place = omega (arith, sound.held_in_range b c.args.place h.sound h.inside, c.self.invariant.few_places);
      apart = omega (
        arith,
        times_all c.args.place c.take.new.self,
        times-taken c.args.place c.args.condition _ _ c.args.waiter out.took,
        ap (times c.args.place) out.kept.signallers,
        ap (λ ws. times c.args.place (places ws)) out.kept.called,
        apart.0,
        apart.1,
        apart.2,
      );
      room = omega (
        arith,
        total_is c.take.new.self,
        length-taken c.args.condition _ _ c.args.waiter out.took,
        ap length out.kept.signallers,
        ap length out.kept.called,
        out.room,
        sound.room b c.args.place h,
        c.self.invariant.signallers_fit,
      );
    }

pub invariant_of-self-2 : goal.invariant_of-self-2
invariant_of-self-2 c =
    let b : Contents = view_of c.self.inside in
    let below = sound.hoare_chain b _ c.args.condition c.self.view_is c.requires.hoare c.self.invariant in
    let s =
    signalled_to c.args.condition c.args.place c.args.waiter c.self.inside.chains c.take.new.self
    c.append.new.self below c.if-not-take.ensures c.append.ensures in
    let r = sound.resumes c.self.view_is c.self.invariant c.requires.inside (omega (arith, c.requires.hoare)) s.took in
    sound.IsSound-same _ _ (sound.parts s.room s.room s.waiters s.signallers s.called refl)
    (sound.signalled_sound _ c.args.place c.args.condition c.args.waiter _ r
    (sound.same_hoare b _ c.args.condition c.self.view_is c.requires.hoare))

pub returns : goal.returns
returns c =
    let b : Contents = view_of c.self.inside in
    let below = sound.hoare_chain b _ c.args.condition c.self.view_is c.requires.hoare c.self.invariant in
    let s =
    signalled_to c.args.condition c.args.place c.args.waiter c.self.inside.chains c.take.new.self
    c.append.new.self below c.if-not-take.ensures c.append.ensures in
    let r = sound.resumes c.self.view_is c.self.invariant c.requires.inside (omega (arith, c.requires.hoare)) s.took in
    let x = histories.waits_of-taken c.args.condition c.args.waiter _ _ s.took in
    record {
      of = λ h o. histories.IsOf-same _ _ _ (sound.parts s.room s.room s.waiters s.signallers s.called refl)
          (histories.after_signal_to-taken b c.args.place c.args.condition c.args.waiter _ r h
          (histories.IsOf-same _ b h (sym c.self.view_is) o)
          (sound.same_hoare b _ c.args.condition c.self.view_is c.requires.hoare));
      next = search rules;
      none = λ empty.
          let no = sym x.2 ∙ ap (λ (v : Contents). waits_of c.args.waiter c.args.condition v) c.self.view_is ∙ empty in
          absurd (cc);
      some = λ some. refl;
      answered = search rules;
      sizes = search rules;
    }
