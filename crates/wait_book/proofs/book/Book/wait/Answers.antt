use Rattle.std.proofs.Common.{◌<◌, map, arith, rules, sym, refl, ◌∙◌}
use Rattle.hoare_law.specs.Turns.{turn_given_up}
use Rattle.wait_book.specs.declared.book.TheConstants.{MOST_CONDITIONS}
use Rattle.wait_book.specs.declared.waiter.Waiter.{Waiter}
use Rattle.wait_book.specs.Contents.{Contents, wait_of}
use Rattle.wait_book.specs.Insides.{view_of}
use Rattle.wait_book.proofs.Sound as sound
use Rattle.wait_book.proofs.Histories as histories
use Rattle.wait_book.proofs.Priorities as priorities
use Rattle.wait_book.proofs.Queued.{PutsIn-put, beside_kept, priorities-rise, times_all, total_is}
use Rattle.wait_book.proofs.book.Book.wait.Goals as goal

pub insert-requires : goal.insert-requires
insert-requires c =
    let b : Contents = view_of c.self.inside in
    let h = sound.holds c.self.view_is c.self.invariant c.requires.inside in
    let fits = sound.same_condition b _ c.args.condition c.self.view_is c.requires.condition in
    let below : c.args.condition < MOST_CONDITIONS = omega (arith, fits, c.self.invariant.few_conditions) in
    let apart = sound.holder_apart b c.args.place h in
    record {
      chain = omega (arith, below);
      place = omega (arith, sound.held_in_range b c.args.place h.sound h.inside, c.self.invariant.few_places);
      apart = omega (arith, times_all c.args.place c.self.inside.chains, apart.0, apart.1, apart.2);
      room = omega (
        arith,
        total_is c.self.inside.chains,
        sound.room b c.args.place h,
        c.self.invariant.waiters_fit,
      );
      ordered =
          priorities-rise c.args.condition c.self.inside.chains below (c.self.invariant.ordered c.args.condition);
    }

-- for any priority
pub invariant_of-self : goal.invariant_of-self
invariant_of-self c =
    let b : Contents = view_of c.self.inside in
    let h = sound.holds c.self.view_is c.self.invariant c.requires.inside in
    let fits = sound.same_condition b _ c.args.condition c.self.view_is c.requires.condition in
    let below : c.args.condition < MOST_CONDITIONS = omega (arith, fits, c.self.invariant.few_conditions) in
    let put = c.insert.ensures in
    let puts = PutsIn-put c.args.condition c.args.place _ c.self.inside.chains c.insert.new.self below put in
    let kept = beside_kept c.args.condition _ c.self.inside.chains c.insert.new.self below put.lists in
    let new = sound.parts put.room put.room refl kept.signallers kept.called (c.turn_given_up-self-inside.ensures
    ∙ (λ i. turn_given_up (kept.signallers i) (map wait_of (kept.called i)))) in
    sound.IsSound-same _ _ new (sound.waited_sound b _ _ puts h fits)

pub returns : goal.returns
returns c =
    let b : Contents = view_of c.self.inside in
    let h = sound.holds c.self.view_is c.self.invariant c.requires.inside in
    let fits = sound.same_condition b _ c.args.condition c.self.view_is c.requires.condition in
    let below : c.args.condition < MOST_CONDITIONS = omega (arith, fits, c.self.invariant.few_conditions) in
    let put = c.insert.ensures in
    let puts = PutsIn-put c.args.condition c.args.place _ c.self.inside.chains c.insert.new.self below put in
    let kept = beside_kept c.args.condition _ c.self.inside.chains c.insert.new.self below put.lists in
    let new = sound.parts put.room put.room refl kept.signallers kept.called (c.turn_given_up-self-inside.ensures
    ∙ (λ i. turn_given_up (kept.signallers i) (map wait_of (kept.called i)))) in
    let w : Waiter = record { place = c.args.place; condition = c.args.condition; priority = c.args.priority } in
    record {
      of = λ g o. histories.IsOf-same _ _ _ new
          (histories.waited_of b w _ g puts h fits (histories.IsOf-same _ b g (sym c.self.view_is) o));
      next = search rules;
      answered = search rules;
      apart = sound.apart_same c.self.view_is c.self.invariant c.requires.inside;
      priorities = λ d. priorities.priorities_on-joined w _ d puts c.self.view_is c.self.invariant
          (sound.waited_sound b w _ puts h fits);
      sizes = search rules;
    }
