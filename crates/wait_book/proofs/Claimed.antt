-- The place that resumes is removed from the chain that it is in, if it is in a chain.
use Rattle.std.proofs.Common.{◌≡◌, ◌==◌, ◌⊎◌, inl, inr, ℕ, Bool, true, false, cond, [], Option, Some, None, refl, ap}
use Rattle.std.proofs.Common.{sym, ◌∙◌, subst, arith}
use Rattle.std.specs.Prelude.{MatchOption, nat_lt}
use Rattle.hoare_law.specs.declared.turn.Turn.{Turn}
use Rattle.hoare_law.specs.declared.turn.Turn.TheVariants.{Free, Held, Owed, Return}
use Rattle.wait_book.specs.declared.chains.TheConstants.{CALLED, SIGNALLERS}
use Rattle.wait_book.specs.declared.book.Book.TheInside.{Inside}
use Rattle.wait_book.specs.declared.chains.Link.{Link}
use Rattle.wait_book.specs.Insides.{called_in, chain_of, view_of, waiter_of}
use Rattle.wait_book.specs.Lists.{Lists, IsTaken, list_at, places_in}
use Rattle.wait_book.proofs.Queued.{behind_first-map, shorter}
use Rattle.wait_book.specs.Contents.{Contents, priorities_on}
use Rattle.wait_book.proofs.Sound.{admitted, claimed, parts, returned, went_on}

-- this chain is that of the signallers or that of the called
pub chain_of-fits : (t : Turn) (m n : ℕ) → chain_of t m ≡ Some n → (n ≡ SIGNALLERS) ⊎ (n ≡ CALLED)
chain_of-fits Free m n e = absurd (cc)
chain_of-fits (Held k) m n e = absurd (cc)
chain_of-fits (Owed k c) m n e = by (nat_lt c m) e
  where
    by : (t : Bool) → cond t None (Some CALLED) ≡ Some n → (n ≡ SIGNALLERS) ⊎ (n ≡ CALLED)
    by true q = absurd (cc)
    by false q = inr (cc)
chain_of-fits (Return k) m n e = inl (cc)

-- the chains after the first link of chain n was removed, if there is one
abbrev Took : ℕ → Option ℕ → Lists → Lists → Type 0
Took n r old new = MatchOption r ((list_at old n ≡ []) × (new ≡ old)) (λ place. IsTaken n place old new)

pub claimed-chain : (n k : ℕ) (a : Inside) (new : Lists) (r : Option ℕ) → (n ≡ SIGNALLERS) ⊎ (n ≡ CALLED)
    → Took n r a.chains new
    → claimed (Some n) k (view_of a) ≡ admitted k (view_of (record a { chains = new }))
claimed-chain n k a new r (inl e) m =
    let took : Took SIGNALLERS r a.chains new = subst (λ (j : ℕ). Took j r a.chains new) e m in
    let s = shorter SIGNALLERS r a.chains new (omega arith) took in
    let first = ap places_in s.less ∙ behind_first-map (λ (x : Link). x.place) (list_at a.chains SIGNALLERS) in
    let called = ap called_in (s.others CALLED (omega arith)) in
    subst (λ (j : ℕ). claimed (Some j) k (view_of a) ≡ admitted k (view_of (record a { chains = new }))) (sym e)
    (parts s.room s.room s.waiters first called refl)
claimed-chain n k a new r (inr e) m =
    let took : Took CALLED r a.chains new = subst (λ (j : ℕ). Took j r a.chains new) e m in
    let s = shorter CALLED r a.chains new (omega arith) took in
    let first = ap called_in s.less ∙ behind_first-map waiter_of (list_at a.chains CALLED) in
    let signallers = ap places_in (s.others SIGNALLERS (omega arith)) in
    subst (λ (j : ℕ). claimed (Some j) k (view_of a) ≡ admitted k (view_of (record a { chains = new }))) (sym e)
    (parts s.room s.room s.waiters signallers first refl)

-- a claim leaves the waiting priorities as they were
pub claimed-priorities : (o : Option ℕ) (k d : ℕ) (b : Contents) → priorities_on (claimed o k b) d ≡ priorities_on b d
claimed-priorities None k d b = refl
claimed-priorities (Some n) k d b = by (n == SIGNALLERS)
  where
    by : (t : Bool) → priorities_on (cond t (returned k b) (went_on k b)) d ≡ priorities_on b d
    by true = refl
    by false = refl
