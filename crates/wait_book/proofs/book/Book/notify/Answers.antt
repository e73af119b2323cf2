use Rattle.std.proofs.Common.{◌≡◌, true, false, inl, inr, arith, rules, refl, ap, sym, ◌∙◌}
use Rattle.wait_book.specs.Contents.{Contents}
use Rattle.wait_book.specs.Insides.{view_of}
use Rattle.wait_book.proofs.Sound as sound
use Rattle.wait_book.proofs.Histories as histories
use Rattle.wait_book.proofs.Priorities as priorities
use Rattle.wait_book.proofs.Signalled.{called_or_none, nobody_waits, notified}
use Rattle.wait_book.proofs.book.Book.notify.Goals as goal

pub call_first-requires : goal.call_first-requires
call_first-requires c =
    let b : Contents = view_of c.self.inside in
    let m = sound.same_mesa b _ c.args.condition c.self.view_is c.requires.mesa in
    omega (arith, sound.mesa_chain b c.args.condition m c.self.invariant)

pub invariant_of-self : goal.invariant_of-self
invariant_of-self c =
    let b : Contents = view_of c.self.inside in
    let m = sound.same_mesa b _ c.args.condition c.self.view_is c.requires.mesa in
    let below = sound.mesa_chain b c.args.condition m c.self.invariant in
    elim (called_or_none c.call_first.result c.args.condition c.self.inside.chains c.call_first.new.self
    c.call_first.ensures) [
      | inl f ↦
          let s = notified c.args.condition c.self.inside.chains c.call_first.new.self below f.1 in
          let r = sound.resumes c.self.view_is c.self.invariant c.requires.inside c.requires.mesa.0 s.took in
          sound.IsSound-same _ _ (sound.parts s.room s.room refl s.signallers s.called refl)
          (sound.notified_sound _ c.args.place c.args.condition f.1.first.place _ r m)
      | inr none ↦
          let n = nobody_waits c.args.condition c.self.inside c.call_first.new.self below none.1 none.2 in
          sound.IsSound-same _ b (sym n.same) c.self.invariant
    ]

pub returns : goal.returns
returns c =
    let b : Contents = view_of c.self.inside in
    let m = sound.same_mesa b _ c.args.condition c.self.view_is c.requires.mesa in
    let below = sound.mesa_chain b c.args.condition m c.self.invariant in
    elim (called_or_none c.call_first.result c.args.condition c.self.inside.chains c.call_first.new.self
    c.call_first.ensures) [
      | inl f ↦
          let s = notified c.args.condition c.self.inside.chains c.call_first.new.self below f.1 in
          let r = sound.resumes c.self.view_is c.self.invariant c.requires.inside c.requires.mesa.0 s.took in
          record {
            of = λ h o. histories.IsOf-same _ _ _ (sound.parts s.room s.room refl s.signallers s.called refl)
                (histories.after_notify-taken b c.args.place c.args.condition f.1.first.place _ r h
                (histories.IsOf-same _ b h (sym c.self.view_is) o) m s.first);
            answer = ((λ t. priorities.priorities_on-taken r s.first c.self.view_is), (λ some. f.0));
            nobody = λ none. absurd (priorities.priorities_on-taken r s.first c.self.view_is none);
            inside = ap (λ (v : Contents). v.turn) c.self.view_is ∙ c.requires.inside;
            priorities = λ d. priorities.priorities_on-after b.signallers c.self.view_is r s.first d;
            sizes = search rules;
          }
      | inr none ↦
          let n = nobody_waits c.args.condition c.self.inside c.call_first.new.self below none.1 none.2 in
          record {
            of = λ h o. histories.IsOf-same b _ _ (sym n.same)
                (histories.after_notify-nobody b c.args.place c.args.condition h n.nobody
                (histories.IsOf-same _ b h (sym c.self.view_is) o));
            answer = (
              (λ t. let no : true ≡ false = sym t ∙ none.0 in absurd (cc)),
              (λ some. absurd (some (priorities.no_priority_on c.args.condition c.self.view_is n.nobody))),
            );
            nobody = λ empty. n.same ∙ c.self.view_is;
            inside = ap (λ (v : Contents). v.turn) c.self.view_is ∙ c.requires.inside;
            priorities = λ d. priorities.priorities_on-untaken c.args.condition d _ c.self.view_is n refl;
            sizes = search rules;
          }
    ]
