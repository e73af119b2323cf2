-- The place whose turn it is isn't outside. So if all places are outside, the turn is free, no process waits, and the
-- data are at rest.
use Rattle.std.proofs.Common.{◌≡◌, ◌⊎◌, inl, inr, ℕ, ◌<◌, true, false, List, [], Option, Some, None, refl, ap, sym}
use Rattle.std.proofs.Common.{◌∙◌, subst}
use Rattle.std.proofs.Common.{true≢false}
use Rattle.hoare_law.specs.declared.event.Event.{Event}
use Rattle.hoare_law.specs.declared.event.History.{History}
use Rattle.hoare_law.specs.declared.event.Event.TheVariants.{Wait}
use Rattle.hoare_law.specs.declared.turn.Turn.{Turn}
use Rattle.hoare_law.specs.declared.turn.Turn.TheVariants.{Free, Held, Owed, Return}
use Rattle.hoare_law.specs.Events.{place_of, own, newest, latest_data}
use Rattle.hoare_law.specs.Lawful.{Rest, Ready, Stands}
use Rattle.hoare_law.specs.Legal.{IsLegal}
use Rattle.hoare_law.specs.Priorities.{priorities, nobody}
use Rattle.hoare_law.specs.Turns.{turn, outside, is_out}
use Rattle.hoare_law.specs.Waiting.{waiting, chosen}
use Rattle.hoare_law.proofs.Fronts.{rest-free, own-owed, own-returning}
use Rattle.hoare_law.proofs.Held.{waits_on-is, outside-held}
use Rattle.hoare_law.proofs.Priorities.{waiting-unchosen, priorities-nobody}
use Rattle.hoare_law.proofs.Owed.{owed-in_range}
use Rattle.hoare_law.proofs.Waiters.{held-in_range, return-in_range, chosen-waits, chosen-in_range}

module _ {S : Type 0} where
  -- all places are outside
  abbrev pub AllOutside : History S → Type 0
  AllOutside h = (k : ℕ) → k < h.sizes.places → outside k h.events ≡ true

  -- a place whose last event isn't a leave or a pass isn't outside
  not_outside : (h : List (Event S)) (k : ℕ) (e : Event S) → newest (own k h) ≡ Some e → is_out (Some e) ≡ false
      → outside k h ≡ false
  unfolding outside
  not_outside h k e last stays = ap is_out last ∙ stays

  pub outside-owed : (h : History S) (k c : ℕ) → IsLegal h → turn h.events ≡ Owed k c → outside k h.events ≡ false
  outside-owed h k c legal is =
      let last = own-owed h k c legal is in not_outside h.events k (Wait k c last.0 last.1) last.2 refl

  pub outside-returning : (h : List (Event S)) (k : ℕ) → turn h ≡ Return k → outside k h ≡ false
  outside-returning h k is =
      let last = own-returning h k is in not_outside h k last.0 last.1 last.3

  -- the turn is free, or that of a place that isn't outside
  pub turn-outside : (h : History S) → IsLegal h
      → (turn h.events ≡ Free) ⊎ ((k : ℕ) × (k < h.sizes.places) × (outside k h.events ≡ false))
  turn-outside h legal = by (turn h.events) refl
    where
      by : (t : Turn) → turn h.events ≡ t
          → (turn h.events ≡ Free) ⊎ ((k : ℕ) × (k < h.sizes.places) × (outside k h.events ≡ false))
      by Free is = inl is
      by (Held k) is = inr (k, held-in_range h k legal is, outside-held h.events k is)
      by (Owed k c) is = inr (k, (owed-in_range h k c legal is).0, outside-owed h k c legal is)
      by (Return k) is = inr (k, return-in_range h k legal is, outside-returning h.events k is)

  pub turn-ended : (h : History S) → IsLegal h → AllOutside h → turn h.events ≡ Free
  turn-ended h legal out = by (turn-outside h legal)
    where
      by : (turn h.events ≡ Free) ⊎ ((k : ℕ) × (k < h.sizes.places) × (outside k h.events ≡ false))
          → turn h.events ≡ Free
      by (inl free) = free
      by (inr b) = absurd (true≢false (sym (out b.0 b.1) ∙ b.2))

  pub waiting-ended : (h : History S) (c : ℕ) → IsLegal h → AllOutside h → waiting c h.events ≡ []
  waiting-ended h c legal out = waiting-unchosen c h.events (by (chosen c h.events) refl)
    where
      by : (o : Option (Event S)) → chosen c h.events ≡ o → o ≡ None
      by None is = refl
      by (Some x) is =
          let w = chosen-waits c h.events x is in
          let here = (chosen-in_range c h x legal is).0 in
          let stays : outside (place_of x) h.events ≡ false =
          not_outside h.events (place_of x) x w.last (ap (λ y. is_out (Some y)) (waits_on-is c x w.on)) in
          absurd (true≢false (sym (out (place_of x) here) ∙ stays))

  pub priorities-ended : (h : History S) → IsLegal h → AllOutside h → priorities h.events ≡ nobody
  priorities-ended h legal out = λ i c. priorities-nobody c h.events (waiting-ended h c legal out) i

  -- the data are at rest, and no process waits
  pub rest-ended : (rest : Rest S) (ready : Ready S) (h : History S) → Stands rest ready h → AllOutside h
      → rest (latest_data h) nobody
  rest-ended rest ready h stands out =
      subst (λ (q : ℕ → List ℕ). rest (latest_data h) q) (priorities-ended h stands.legal out)
      (rest-free h stands.lawful (turn-ended h stands.legal out))
