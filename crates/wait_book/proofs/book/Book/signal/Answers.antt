use Rattle.std.proofs.Common.{false, List, length, map, arith, rules, refl, ap, sym, ◌∙◌}
use Rattle.std.specs.List.{filter}
use Rattle.hoare_law.specs.Priorities.{in_order}
use Rattle.wait_book.specs.declared.waiter.Waiter.{Waiter}
use Rattle.wait_book.specs.Contents.{Contents, IsOf, times}
use Rattle.wait_book.specs.Insides.{view_of}
use Rattle.wait_book.proofs.Sound as sound
use Rattle.wait_book.proofs.Histories as histories
use Rattle.wait_book.proofs.Priorities as priorities
use Rattle.wait_book.proofs.Waiters.{key, on, places, length-taken, times-taken}
use Rattle.wait_book.proofs.Queued.{times_all, total_is}
use Rattle.wait_book.proofs.Signalled.{nobody_waits, signalled, taken_out}
use Rattle.wait_book.proofs.book.Book.signal.Goals as goal

pub take_first-requires : goal.take_first-requires
take_first-requires c =
    omega (
      arith,
      sound.hoare_chain (view_of c.self.inside) _ c.args.condition c.self.view_is c.requires.hoare c.self.invariant,
    )

-- if no process waits

pub returns-in_default : goal.returns-in_default
returns-in_default c =
    let b : Contents = view_of c.self.inside in
    let below = sound.hoare_chain b _ c.args.condition c.self.view_is c.requires.hoare c.self.invariant in
    let e = c.in_default.ensures in
    let none = nobody_waits c.args.condition c.self.inside c.take_first.new.self below e.0 e.1 in
    record {
      of = λ h o.
          let now : IsOf b h = histories.IsOf-same _ b h (sym c.self.view_is) o in
          histories.IsOf-same _ _ _ (sym none.same)
          (histories.after_handing-nobody false b b c.args.place c.args.condition h none.nobody now now);
      next = search rules;
      nobody = search rules;
      somebody = λ some. absurd (some (priorities.no_priority_on c.args.condition c.self.view_is none.nobody));
      answered = search rules;
      apart = sound.apart_same c.self.view_is c.self.invariant c.requires.inside;
      priorities = λ d. priorities.priorities_on-untaken c.args.condition d _ c.self.view_is none refl;
      sizes = search rules;
    }

-- if a waiter is resumed

pub append-requires : goal.append-requires
append-requires c =
    let b : Contents = view_of c.self.inside in
    let below = sound.hoare_chain b _ c.args.condition c.self.view_is c.requires.hoare c.self.invariant in
    let t = c.in-Some.ensures in
    let out = taken_out c.args.condition c.in-Some.resumed c.self.inside.chains c.take_first.new.self below t in
    let h = sound.holds c.self.view_is c.self.invariant c.requires.inside in
    let apart = sound.holder_apart b c.args.place h in
    record {
      chain = search rules;
      no_condition = search rules;
      few = omega (arith, below);
      place = omega (arith, sound.held_in_range b c.args.place h.sound h.inside, c.self.invariant.few_places);
      apart = omega (
        arith,
        times_all c.args.place c.take_first.new.self,
        times-taken c.args.place c.args.condition _ _ c.in-Some.resumed out.took,
        ap (times c.args.place) out.kept.signallers,
        ap (λ ws. times c.args.place (places ws)) out.kept.called,
        apart.0,
        apart.1,
        apart.2,
      );
      room = omega (
        arith,
        total_is c.take_first.new.self,
        length-taken c.args.condition _ _ c.in-Some.resumed out.took,
        ap length out.kept.signallers,
        ap length out.kept.called,
        out.room,
        sound.room b c.args.place h,
        c.self.invariant.signallers_fit,
      );
    }

pub invariant_of-self-2 : goal.invariant_of-self-2
invariant_of-self-2 c =
    let b : Contents = view_of c.self.inside in
    let below = sound.hoare_chain b _ c.args.condition c.self.view_is c.requires.hoare c.self.invariant in
    let s =
    (signalled c.args.condition c.args.place c.in-Some.resumed c.self.inside.chains c.take_first.new.self
    c.append.new.self below c.in-Some.ensures c.append.ensures).0 in
    let r = sound.resumes c.self.view_is c.self.invariant c.requires.inside (omega (arith, c.requires.hoare)) s.took in
    sound.IsSound-same _ _ (sound.parts s.room s.room s.waiters s.signallers s.called refl)
    (sound.signalled_sound _ c.args.place c.args.condition c.in-Some.resumed _ r
    (sound.same_hoare b _ c.args.condition c.self.view_is c.requires.hoare))

pub returns : goal.returns
returns c =
    let b : Contents = view_of c.self.inside in
    let below = sound.hoare_chain b _ c.args.condition c.self.view_is c.requires.hoare c.self.invariant in
    let p =
    signalled c.args.condition c.args.place c.in-Some.resumed c.self.inside.chains c.take_first.new.self
    c.append.new.self below c.in-Some.ensures c.append.ensures in
    let s = p.0 in
    let r = sound.resumes c.self.view_is c.self.invariant c.requires.inside (omega (arith, c.requires.hoare)) s.took in
    record {
      of = λ h o. histories.IsOf-same _ _ _ (sound.parts s.room s.room s.waiters s.signallers s.called refl)
          (histories.after_handing-taken b c.args.place c.args.condition c.in-Some.resumed _ r h
          (histories.IsOf-same _ b h (sym c.self.view_is) o)
          (sound.same_hoare b _ c.args.condition c.self.view_is c.requires.hoare) p.1 false);
      next = search rules;
      nobody = λ none. absurd (priorities.priorities_on-taken r p.1 c.self.view_is none);
      somebody = λ some. (_, refl);
      answered = search rules;
      apart = sound.apart_same c.self.view_is c.self.invariant c.requires.inside;
      priorities = λ d. ap (λ (ws : List Waiter). in_order (λ p. p) (map key (filter (on d) ws))) s.waiters
          ∙ priorities.priorities_on-after b.signallers c.self.view_is r p.1 d;
      sizes = search rules;
    }
