-- The book, and a history with data that it is of.
use Rattle.std.proofs.Common.{◌≡◌, ◌≢◌, ℕ, Bool, true, false, IsTrue, true≢false, List, [], ◌∷◌, map, Option, Some}
use Rattle.std.proofs.Common.{None, refl, ap, sym, ◌∙◌, subst, eqb-true}
use Rattle.std.specs.Option.{option_map}
use Rattle.hoare_law.specs.declared.event.Event.{Event}
use Rattle.hoare_law.specs.declared.event.History.{History}
use Rattle.hoare_law.specs.declared.turn.Turn.{Turn}
use Rattle.hoare_law.specs.declared.event.Event.TheVariants.{Notify, Broadcast, SignalTo}
use Rattle.hoare_law.specs.Internal.WithoutData.{dataless, without_data}
use Rattle.hoare_law.specs.Events.{place_of, with_event}
use Rattle.hoare_law.specs.Priorities.{in_order, priorities}
use Rattle.hoare_law.specs.Turns.{turn, outside}
use Rattle.hoare_law.specs.Waiting.{priority_of, waiting, chosen, wait_by}
use Rattle.hoare_law.proofs.WithoutData.{turn-dataless, outside-dataless, priorities-dataless, dataless-push}
use Rattle.hoare_law.proofs.WithoutData.{chosen-dataless, wait_by-dataless}
use Rattle.hoare_law.proofs.WithoutData.{place_of-dataless, priority_of-dataless, waiting-dataless}
use Rattle.hoare_law.proofs.Held.{handing, hand_of}
use Rattle.hoare_law.proofs.Priorities.{waiting-no_priority, priorities-nobody}
use Rattle.hoare_law.proofs.Sorted.{in_order-in_order, map-in_order}
use Rattle.wait_book.specs.declared.waiter.Waiter.{Waiter}
use Rattle.wait_book.specs.declared.steps.Next.{Next}
use Rattle.wait_book.specs.Contents.{Contents, IsOf, next_of, priorities_on, times_in, wait_of, waiters_on}
use Rattle.wait_book.specs.Stepping.{after_broadcast, after_claim, after_notify, after_signal_to, settled}
use Rattle.wait_book.proofs.Histories.{after_handing, after_handing-some}

priorities_of : (ws : List Waiter) → map priority_of (map wait_of ws) ≡ map (λ (w : Waiter). w.priority) ws
priorities_of [] = refl
priorities_of (w ∷ ws) = ap (λ l. w.priority ∷ l) (priorities_of ws)

module _ {D : Type 0} where
  listed : (b : Contents) (h : History D) (c : ℕ) → IsOf b (dataless h)
      → map (λ (w : Waiter). w.priority) (waiters_on c b) ≡ priorities h.events c
  unfolding priorities
  listed b h c o =
      sym (priorities_of (waiters_on c b)) ∙ ap (map priority_of) (o.waiters c)
      ∙ ap (λ q. q c) (priorities-dataless h.events)

  -- the waiting priorities are in order
  in_order-priorities : (h : List (Event D)) (c : ℕ) → in_order (λ n. n) (priorities h c) ≡ priorities h c
  unfolding priorities
  in_order-priorities h c =
      let mapped = map-in_order priority_of (waiting c h) in
      ap (in_order (λ n. n)) mapped ∙ in_order-in_order (λ n. n) (map priority_of (waiting c h)) ∙ sym mapped

  -- the waiting priorities of the book are those of the history
  pub priorities_on-history : (b : Contents) (h : History D) → IsOf b (dataless h) → priorities_on b ≡ priorities
      h.events
  priorities_on-history b h o = λ i c. (ap (in_order (λ n. n)) (listed b h c o) ∙ in_order-priorities h.events c) i

  pub turn-history : (b : Contents) (h : History D) → IsOf b (dataless h) → b.turn ≡ turn h.events
  turn-history b h o = sym o.turn_is ∙ turn-dataless h.events

  -- what the book returns is the turn of the history
  pub next-history : (b : Contents) (h : History D) (next : Next) → IsOf b (dataless h) → next ≡ next_of b.turn
      → next ≡ next_of (turn h.events)
  next-history b h next o is = is ∙ ap next_of (turn-history b h o)

  -- a place that is outside is nowhere in the book
  pub times_in-outside : (b : Contents) (h : History D) (k : ℕ) → IsOf b (dataless h) → outside k h.events ≡ true
      → times_in k b ≡ 0
  times_in-outside b h k o out = eqb-true (times_in k b) 0 (sym (o.outside_are k) ∙ outside-dataless k h.events ∙ out)

  -- a book of the dataless history with one more event is of the longer history, dataless
  pub IsOf-event : (b : Contents) (h : History D) (e : Event D) → IsOf b (with_event (dataless h) (without_data e))
      → IsOf b (dataless (with_event h e))
  IsOf-event b h e o = subst (IsOf b) (sym (dataless-push h e)) o

  -- the same for the claim of a place to which the monitor is owed
  pub IsOf-claim : (b : Contents) (h : History D) (t : Turn) (e : Event D) → turn h.events ≡ t
      → after_claim (dataless h) t ≡ with_event (dataless h) (without_data e)
      → IsOf b (settled (dataless h)) → IsOf b (dataless (with_event h e))
  IsOf-claim b h t e is adds o =
      IsOf-event b h e (subst (IsOf b) (ap (after_claim (dataless h)) (turn-dataless h.events ∙ is) ∙ adds) o)

  -- the same for a signal and a pass
  pub IsOf-handing : (out : Bool) (b : Contents) (h : History D) (k c : ℕ) (x : Event D) (s : D)
      → chosen c h.events ≡ Some x
      → IsOf b (after_handing out (dataless h) k c (chosen c (dataless h).events))
      → IsOf b (dataless (with_event h (handing (hand_of out) k c (place_of x) s)))
  IsOf-handing out b h k c x s is o = IsOf-event b h (handing (hand_of out) k c (place_of x) s) (subst (IsOf b)
      (ap (after_handing out (dataless h) k c) (chosen-dataless c h.events ∙ ap (option_map without_data) is)
      ∙ after_handing-some out (dataless h) k c (place_of x) (without_data x) s (place_of-dataless x)) o)

  -- the same for a signal to a place
  pub IsOf-signal_to : (b : Contents) (h : History D) (k c w : ℕ) (x : Event D) (s : D) → wait_by w c h.events ≡ Some x
      → IsOf b (after_signal_to (dataless h) k c w (wait_by w c (dataless h).events))
      → IsOf b (dataless (with_event h (SignalTo k c w s)))
  IsOf-signal_to b h k c w x s is o = IsOf-event b h (SignalTo k c w s) (subst (IsOf b)
      (ap (after_signal_to (dataless h) k c w) (wait_by-dataless w c h.events ∙ ap (option_map without_data) is)) o)

  -- the same for a notify
  pub IsOf-notify : (b : Contents) (h : History D) (k c : ℕ) (x : Event D) (s : D) → chosen c h.events ≡ Some x
      → IsOf b (after_notify (dataless h) k c (chosen c (dataless h).events))
      → IsOf b (dataless (with_event h (Notify k c (place_of x) s)))
  IsOf-notify b h k c x s is o = IsOf-event b h (Notify k c (place_of x) s) (subst (IsOf b)
      (ap (after_notify (dataless h) k c) (chosen-dataless c h.events ∙ ap (option_map without_data) is)
      ∙ ap (λ j. with_event (dataless h) (Notify k c j tt)) (place_of-dataless x)) o)

  -- the same for a broadcast
  pub IsOf-broadcast : (b : Contents) (h : History D) (k c : ℕ) (s : D) → waiting c h.events ≢ []
      → IsOf b (after_broadcast (dataless h) k c (waiting c (dataless h).events))
      → IsOf b (dataless (with_event h (Broadcast k c s)))
  IsOf-broadcast b h k c s some o = by (waiting c h.events) refl
    where
      by : (xs : List (Event D)) → waiting c h.events ≡ xs → IsOf b (dataless (with_event h (Broadcast k c s)))
      by [] is = absurd (some is)
      by (x ∷ xs) is = IsOf-event b h (Broadcast k c s) (subst (IsOf b)
          (ap (after_broadcast (dataless h) k c) (waiting-dataless c h.events ∙ ap (map without_data) is)) o)

  -- a process waits exactly if there is a waiting priority
  pub waits-listed : (b : Bool) (h : List (Event D)) (c : ℕ)
      → (IsTrue b → priorities h c ≢ []) × (priorities h c ≢ [] → IsTrue b)
      → (IsTrue b → waiting c h ≢ []) × (waiting c h ≢ [] → IsTrue b)
  waits-listed b h c told = (
    (λ is none. told.0 is (priorities-nobody c h none)),
    λ some. told.1 (λ none. some (waiting-no_priority c h none)),
  )

  kept_priority : (o : Option (Event D)) → option_map priority_of (option_map without_data o) ≡ option_map priority_of o
  kept_priority None = refl
  kept_priority (Some x) = ap (λ p. Some p) (priority_of-dataless x)

  -- the first waiting priority is that of the chosen wait
  pub first-history : (r : Option ℕ) (h : History D) (c : ℕ) → r ≡ option_map priority_of (chosen c (dataless h).events)
      → r ≡ option_map priority_of (chosen c h.events)
  first-history r h c is =
      is ∙ ap (option_map priority_of) (chosen-dataless c h.events) ∙ kept_priority (chosen c h.events)

-- there is no priority if the result is false
pub none-listed : {A : Type 0} (q : List A) → (IsTrue false → q ≢ []) × (q ≢ [] → IsTrue false) → q ≡ []
none-listed [] told = refl
none-listed (x ∷ q) told = absurd (true≢false (sym (told.1 (λ e. cc))))
