use Rattle.std.proofs.Common.{◌≡◌, inl, length, arith, rules, refl, ap, sym, ◌∙◌}
use Rattle.std.proofs.lemmas.Iterator.Consumers.{YieldsList-from_first, count_from_yields_List}
use Rattle.wait_book.specs.Contents.{Contents}
use Rattle.wait_book.specs.Insides.{view_of}
use Rattle.wait_book.specs.Lists.{list_at}
use Rattle.wait_book.proofs.Sound as sound
use Rattle.wait_book.proofs.Histories as histories
use Rattle.wait_book.proofs.Priorities as priorities
use Rattle.wait_book.proofs.Queued.{all_called, chain-few, chain-length}
use Rattle.wait_book.proofs.book.Book.broadcast.Goals as goal

pub count-called-requires-clause-fits : goal.count-called-requires-clause-fits
count-called-requires-clause-fits c =
    let b : Contents = view_of c.self.inside in
    let m = sound.same_mesa b _ c.args.condition c.self.view_is c.requires.mesa in
    let below = sound.mesa_chain b c.args.condition m c.self.invariant in
    let few = chain-few c.args.condition c.self.inside.chains below in
    let long : length c.on.result ≡ length (list_at c.self.inside.chains c.args.condition) = ap length c.on.ensures in
    inl (omega (arith, sound.few_waiters (view_of c.self.inside) c.self.invariant))

pub invariant_of-self : goal.invariant_of-self
invariant_of-self c =
    let b : Contents = view_of c.self.inside in
    let m = sound.same_mesa b _ c.args.condition c.self.view_is c.requires.mesa in
    let below = sound.mesa_chain b c.args.condition m c.self.invariant in
    let s = all_called c.args.condition c.self.inside.chains c.call_all.new.self below c.call_all.ensures in
    let h = sound.holds c.self.view_is c.self.invariant c.requires.inside in
    sound.IsSound-same _ _ (sound.parts s.room s.room refl s.signallers s.called refl)
    (sound.broadcast_sound b c.args.place c.args.condition _ h m s.took)

pub returns : goal.returns
returns c =
    let b : Contents = view_of c.self.inside in
    let m = sound.same_mesa b _ c.args.condition c.self.view_is c.requires.mesa in
    let below = sound.mesa_chain b c.args.condition m c.self.invariant in
    let s = all_called c.args.condition c.self.inside.chains c.call_all.new.self below c.call_all.ensures in
    let h = sound.holds c.self.view_is c.self.invariant c.requires.inside in
    record {
      of = λ g o. histories.IsOf-same _ _ _ (sound.parts s.room s.room refl s.signallers s.called refl)
          (histories.after_broadcast-taken b c.args.place c.args.condition _ h m s.took g
          (histories.IsOf-same _ b g (sym c.self.view_is) o));
      answer = count_from_yields_List c.on.result c.count-called.result c.count-called.ensures.ran
          (YieldsList-from_first (λ x. x) (λ rest. rest) (list_at c.self.inside.chains c.args.condition) c.on.ensures)
          ∙ chain-length c.args.condition c.self.inside.chains below
          ∙ priorities.length-priorities_on b _ c.args.condition c.self.view_is c.self.invariant;
      inside = ap (λ (v : Contents). v.turn) c.self.view_is ∙ c.requires.inside;
      priorities = λ d. priorities.priorities_on-emptied c.args.condition d _ b.called c.self.view_is s.took;
      sizes = search rules;
    }
