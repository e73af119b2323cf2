use Rattle.std.proofs.Common.{◌≡◌, ⊎_elim, ℕ, Option, Some, None, arith, refl, ap, sym, ◌∙◌, subst}
use Rattle.wait_book.specs.declared.book.Book.TheInside.{Inside}
use Rattle.wait_book.specs.Contents.{Contents, IsOf, hoare_of, next_of, priorities_on}
use Rattle.wait_book.specs.Insides.{IsSound, chain_of, view_of}
use Rattle.wait_book.specs.Stepping.{settled}
use Rattle.wait_book.proofs.Sound as sound
use Rattle.wait_book.proofs.Histories as histories
use Rattle.wait_book.proofs.Claimed.{chain_of-fits, claimed-chain, claimed-priorities}
use Rattle.wait_book.proofs.book.Book.claim.Goals as goal
use Rattle.wait_book.proofs.book.Book.claim.Goals.{in-Some, in_default}

pub take_first-requires : goal.take_first-requires
take_first-requires c = ⊎_elim (λ e. omega (arith, e)) (λ e. omega (arith, e))
    (chain_of-fits c.self.inside.turn _ c.in-Some.chain (sym c.chain_of.ensures ∙ c.in-Some.is))

pub invariant_of-self : goal.invariant_of-self
invariant_of-self c =
    let b : Contents = view_of c.self.inside in
    let k : ℕ = c.args.place in
    let owed = ap (λ (v : Contents). next_of v.turn) c.self.view_is ∙ c.requires in
    let all : IsSound (sound.claimed (chain_of b.turn (hoare_of b)) k b) =
    sound.claimed_sound b.turn b k refl owed c.self.invariant in
    elim c.match-chain_of.branch [
      | in-Some w ↦
          let is : chain_of b.turn (hoare_of b) ≡ Some w.in-Some.chain = sym c.chain_of.ensures ∙ w.in-Some.is in
          subst (λ (i : Inside). IsSound (sound.admitted k (view_of i))) (sym w.self-inside-is)
          (subst IsSound (claimed-chain w.in-Some.chain k c.self.inside w.take_first.new.self w.take_first.result
          (chain_of-fits b.turn (hoare_of b) w.in-Some.chain is) w.take_first.ensures)
          (subst (λ (o : Option ℕ). IsSound (sound.claimed o k b)) is all))
      | in_default w ↦
          let is : chain_of b.turn (hoare_of b) ≡ None = sym c.chain_of.ensures ∙ w.in_default.is in
          subst (λ (i : Inside). IsSound (sound.admitted k (view_of i))) (sym w.self-inside-is)
          (subst (λ (o : Option ℕ). IsSound (sound.claimed o k b)) is all)
    ]

pub returns-clause-of : goal.returns-clause-of
returns-clause-of c = λ h o.
    let b : Contents = view_of c.self.inside in
    let k : ℕ = c.args.place in
    let owed = ap (λ (v : Contents). next_of v.turn) c.self.view_is ∙ c.requires in
    let was : IsOf b h = histories.IsOf-same _ b h (sym c.self.view_is) o in
    let all : IsOf (sound.claimed (chain_of b.turn (hoare_of b)) k b) (settled h) =
    histories.claimed_of b.turn b k h refl owed c.self.invariant was in
    elim c.match-chain_of.branch [
      | in-Some w ↦
          let is : chain_of b.turn (hoare_of b) ≡ Some w.in-Some.chain = sym c.chain_of.ensures ∙ w.in-Some.is in
          subst (λ (i : Inside). IsOf (sound.admitted k (view_of i)) (settled h)) (sym w.self-inside-is)
          (subst (λ (v : Contents). IsOf v (settled h))
          (claimed-chain w.in-Some.chain k c.self.inside w.take_first.new.self w.take_first.result
          (chain_of-fits b.turn (hoare_of b) w.in-Some.chain is) w.take_first.ensures)
          (subst (λ (o : Option ℕ). IsOf (sound.claimed o k b) (settled h)) is all))
      | in_default w ↦
          let is : chain_of b.turn (hoare_of b) ≡ None = sym c.chain_of.ensures ∙ w.in_default.is in
          subst (λ (i : Inside). IsOf (sound.admitted k (view_of i)) (settled h)) (sym w.self-inside-is)
          (subst (λ (o : Option ℕ). IsOf (sound.claimed o k b) (settled h)) is all)
    ]

pub returns-clause-priorities : goal.returns-clause-priorities
returns-clause-priorities c = λ d.
    let b : Contents = view_of c.self.inside in
    let k : ℕ = c.args.place in
    let before = ap (λ (v : Contents). priorities_on v d) c.self.view_is in
    elim c.match-chain_of.branch [
      | in-Some w ↦
          let is : chain_of b.turn (hoare_of b) ≡ Some w.in-Some.chain = sym c.chain_of.ensures ∙ w.in-Some.is in
          subst (λ (i : Inside). priorities_on (sound.admitted k (view_of i)) d ≡ priorities_on c.args.self.now d)
          (sym w.self-inside-is)
          (ap (λ (v : Contents). priorities_on v d)
          (sym (claimed-chain w.in-Some.chain k c.self.inside w.take_first.new.self w.take_first.result
          (chain_of-fits b.turn (hoare_of b) w.in-Some.chain is) w.take_first.ensures))
          ∙ claimed-priorities (Some w.in-Some.chain) k d b ∙ before)
      | in_default w ↦ subst (λ (i : Inside). priorities_on (sound.admitted k (view_of i)) d
          ≡ priorities_on c.args.self.now d) (sym w.self-inside-is) before
    ]
