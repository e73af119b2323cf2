-- The place inside releases the monitor: by a wait, a leave, a signal or a pass.
use Rattle.std.proofs.Common.{◌≡◌, ◌≢◌, ℕ, ◌<◌, Bool, true, false, [], Some, refl, ap, sym, ◌∙◌, subst}
use Rattle.hoare_law.specs.declared.event.Sizes.{Sizes}
use Rattle.hoare_law.specs.declared.event.Event.{Event}
use Rattle.hoare_law.specs.declared.event.History.{History}
use Rattle.hoare_law.specs.declared.event.Event.TheVariants.{Wait, Signal, Pass, Leave, SignalTo}
use Rattle.hoare_law.specs.declared.turn.Turn.{Turn}
use Rattle.hoare_law.specs.declared.turn.Turn.TheVariants.{Free, Held, Owed, Return}
use Rattle.hoare_law.specs.Internal.WithoutData.{dataless}
use Rattle.hoare_law.specs.Events.{place_of, data_of, with_event}
use Rattle.hoare_law.specs.Growth.{Exits, passed_on}
use Rattle.hoare_law.specs.Sizes.{IsHoare, Kinds, sizes_at}
use Rattle.hoare_law.specs.Lawful.{Rest, Ready, Owes}
use Rattle.hoare_law.specs.Legal.{Allowed}
use Rattle.hoare_law.specs.Priorities.{priorities, joined}
use Rattle.hoare_law.specs.Turns.{turn, is_out, IsGivenUp}
use Rattle.hoare_law.specs.Waiting.{chosen, Chooses, wait_by, IsWaiting}
use Rattle.hoare_law.proofs.Growth.{Begins-refl}
use Rattle.hoare_law.proofs.Entering as entering
use Rattle.hoare_law.proofs.Held.{is_inside, handing, hand_of, place_of-handing, data_of-handing}
use Rattle.hoare_law.proofs.Leaving.{given_up-left, turn-handing, outside-left, chosen-some, Chooses-place}
use Rattle.hoare_law.proofs.Leaving.{Allowed-leave}
use Rattle.hoare_law.proofs.Leaving.{Allowed-wait, Allowed-handing, Allowed-signal_to}
use Rattle.hoare_law.proofs.Leaving.{Owes-leave, Owes-wait, Owes-handing, Owes-signal_to}
use Rattle.hoare_law.proofs.Priorities.{waiting-wait_by}
use Rattle.hoare_law.proofs.Legal.{Stands-push}
use Rattle.hoare_law.proofs.Waiters.{held-in_range}
use Rattle.wait_book.specs.declared.steps.Next.{Next}
use Rattle.wait_book.specs.declared.steps.Next.TheVariants as next
use Rattle.wait_book.specs.Contents.{Contents, IsOf, next_of}
use Rattle.wait_book.specs.Stepping.{after_pass, after_signal, after_signal_to}
use Rattle.wait_book.proofs.Histories.{after_handing}
use Rattle.wait_book.proofs.WithData.{next-history, turn-history, IsOf-event, IsOf-handing, IsOf-signal_to}
use Rattle.door_frame.specs.declared.guarded.Guarded.{Guarded}
use Rattle.door_frame.specs.declared.release.Release.TheVariants as release
use Rattle.door_frame.specs.Releases.{place_for, event_of}
use Rattle.door_frame.specs.Places.{PlaceId, DoorId, IsOut, IsAway, PlaceOut, PlaceIn, Handed, HandsTo, Released, waits}
use Rattle.door_frame.specs.Places.{HandedTo}
use Rattle.door_frame.specs.Places.{signalled, place_in, place_out}
use Rattle.door_frame.specs.Steps.{SeatState, Gives, MayGive}
use Rattle.door_frame.proofs.Inside.{Holds}
use Rattle.door_frame.proofs.Refusals.{grows_none}

held_next : (t : Turn) (j : ℕ) → next_of t ≡ next.Held j → t ≡ Held j
held_next Free j e = absurd (cc)
held_next (Held k) j e = let same : k ≡ j = cc in ap (λ i. Held i) same
held_next (Owed k c) j e = absurd (cc)
held_next (Return k) j e = absurd (cc)

module _ {D : Type 0} where
  out-handing : (out : Bool) (k c w : ℕ) (s : D) → is_inside (handing (hand_of out) k c w s) ≡ false
  out-handing true k c w s = refl
  out-handing false k c w s = refl

  -- nobody is inside after the place released the monitor
  pub gives_gone : (rest : Rest D) (ready : Ready D) (event : D → Event D) (k : ℕ) (f : History D) (x : Guarded D)
      (who : Next) (j : ℕ)
      → Gives rest ready event k f x who → who ≡ next.Held j → ⊥
  gives_gone rest ready event k f x who j p is =
      subst IsGivenUp (held_next (turn (with_event f (event x.state)).events) j (sym p.next_is ∙ is)) p.given_up

  -- the waiter that is chosen on c resumes next
  pub record Resumes (c : ℕ) (f : History D) (who : Next) : Type 0 where
    pub chosen_one : Event D
    pub is : chosen c f.events ≡ Some chosen_one
    pub goes_on : place_for who ≡ place_of chosen_one

  pub chooses : (c : ℕ) (f : History D) (who : Next) → Resumes c f who → Chooses c f.events (place_for who)
  chooses c f who r =
      subst (λ (w : ℕ). Chooses c f.events w) (sym r.goes_on) (Chooses-place c f.events r.chosen_one r.is)

  handed_to : (h : History D) (w c : ℕ) (b : Contents) (who : Next) → IsOf b (dataless h) → turn h.events ≡ Owed w c
      → who ≡ next_of b.turn
      → place_for who ≡ w
  handed_to h w c b who o is answered = ap place_for (answered ∙ ap next_of (turn-history b h o ∙ is))

  -- what a call by which a place left ensures of that place, then outside
  pub record Left (rest : Rest D) (ready : Ready D) (kinds : Kinds) (d : DoorId) (k : ℕ) (h : History D)
      (o : PlaceOut D) : Type 0 where
    pub of : IsOut rest ready kinds d o
    pub place : o.place ≡ k
    pub front : o.front ≡ h

  -- what a call by which a place is away ensures of that place
  pub record Departs (rest : Rest D) (ready : Ready D) (kinds : Kinds) (d : DoorId) (k : ℕ) (h : History D)
      (o : PlaceOut D) : Type 0 where
    pub of : IsAway rest ready kinds d o
    pub place : o.place ≡ k
    pub front : o.front ≡ h

  -- what a signal that resumed a waiter ensures of the place that is away
  pub record Signalled (rest : Rest D) (ready : Ready D) (kinds : Kinds) (d : DoorId) (i : PlaceIn D) (c : ℕ)
      (o : PlaceOut D) : Type 0 where
    pub of : IsAway rest ready kinds d o
    pub place : o.place ≡ i.place
    pub front : HandsTo c i o.front

  -- what a pass ensures of the place outside
  pub record Passed (rest : Rest D) (ready : Ready D) (kinds : Kinds) (d : DoorId) (i : PlaceIn D) (c : ℕ)
      (o : PlaceOut D) : Type 0 where
    pub of : IsOut rest ready kinds d o
    pub place : o.place ≡ i.place
    pub front : Exits i.place c i.state i.front o.front true

  module _ {rest : Rest D} {ready : Ready D} {kinds : Kinds} {d : DoorId} {i : PlaceIn D} {t : PlaceId} {k : ℕ}
      {f : History D} {me : SeatState D} {x : Guarded D} where
    -- what is required of the contract's place holds of its parts
    asked_here : (P : PlaceIn D → Type 0) → Holds rest ready kinds d i t k f me x → P i → P (place_in t k f x.state)
    asked_here P h asked = subst P (sym h.seen) asked

    asked_back : (P : PlaceIn D → Type 0) → Holds rest ready kinds d i t k f me x → P (place_in t k f x.state) → P i
    asked_back P h told = subst P h.seen told

    -- what holds of the door's sizes holds of the front's
    pub sized_here : (P : Sizes → Type 0) → Holds rest ready kinds d i t k f me x → P (sizes_at kinds d.places)
        → P f.sizes
    sized_here P h asked = subst P (sym h.within.sized) asked

    -- by an event that is allowed and meets what it owes, the place may release the monitor
    may_give : (event : D → Event D) (b : Contents) (who : Next) → Holds rest ready kinds d i t k f me x
        → place_of (event x.state) ≡ k → data_of (event x.state) ≡ x.state → is_inside (event x.state) ≡ false
        → Allowed f (event x.state) → Owes rest ready f.events (event x.state)
        → IsOf b (dataless (with_event f (event x.state))) → who ≡ next_of b.turn
        → MayGive rest ready event k me (record { state = x.state; book = b }) who
    may_give event b who h mine same goes allowed owes book is = (
      f,
      h.me_is,
      record {
        inside = h.within.is_inside;
        mine = mine;
        allowed = allowed;
        owes = owes;
        given_up = given_up-left f (event x.state) goes;
        same_data = same;
        book = book;
        next_is = next-history b (with_event f (event x.state)) who book is;
      },
    )

    owes_leave : Holds rest ready kinds d i t k f me x → rest i.state (priorities i.front.events)
        → Owes rest ready f.events (Leave k x.state)
    owes_leave h asked =
        Owes-leave rest ready f k x.state h.within.is_inside
        (asked_here (λ j. rest j.state (priorities j.front.events)) h asked)

    pub gives_leave : (b : Contents) (who : Next) → Holds rest ready kinds d i t k f me x
        → rest i.state (priorities i.front.events)
        → IsOf b (with_event (dataless f) (Leave k tt)) → who ≡ next_of b.turn
        → MayGive rest ready (event_of k release.Leave who) k me (record { state = x.state; book = b }) who
    gives_leave b who h asked book is =
        may_give (λ s. Leave k s) b who h refl refl refl
        (Allowed-leave f k x.state h.within.stands.legal h.within.is_inside)
        (owes_leave h asked) (IsOf-event b f (Leave k x.state) book) is

    pub gives_wait : (c p : ℕ) (b : Contents) (who : Next) → Holds rest ready kinds d i t k f me x
        → c < kinds.conditions
        → rest i.state (joined (priorities i.front.events) c p) → IsOf b (with_event (dataless f) (Wait k c p tt))
        → who ≡ next_of b.turn
        → MayGive rest ready (event_of k (release.Wait c p) who) k me (record { state = x.state; book = b }) who
    gives_wait c p b who h small asked book is =
        may_give (λ s. Wait k c p s) b who h refl refl refl
        (Allowed-wait f k c p x.state h.within.stands.legal h.within.is_inside
        (sized_here (λ n. c < n.conditions) h small))
        (Owes-wait rest ready f k c p x.state h.within.is_inside
        (asked_here (λ j. rest j.state (joined (priorities j.front.events) c p)) h asked))
        (IsOf-event b f (Wait k c p x.state) book) is

    some_here : (c : ℕ) → Holds rest ready kinds d i t k f me x → priorities i.front.events c ≢ []
        → (e : Event D) × (chosen c f.events ≡ Some e)
    some_here c h some = chosen-some c f.events (asked_here (λ j. priorities j.front.events c ≢ []) h some)

    -- the place hands the monitor off: by a pass if it leaves, else by a signal
    pub resumes_handing : (out : Bool) (c : ℕ) (b : Contents) (who : Next) → Holds rest ready kinds d i t k f me x
        → priorities i.front.events c ≢ []
        → IsOf b (after_handing out (dataless f) k c (chosen c (dataless f).events)) → who ≡ next_of b.turn
        → Resumes c f who
    resumes_handing out c b who h some book is =
        let e = some_here c h some in
        let w : ℕ = place_of e.0 in
        let after = IsOf-handing out b f k c e.0 x.state e.1 book in record {
          chosen_one = e.0;
          is = e.1;
          goes_on = handed_to (with_event f (handing (hand_of out) k c w x.state)) w c b who after
              (turn-handing (hand_of out) f k c w x.state) is;
        }

    allowed_handing : (out : Bool) (c : ℕ) (e : Event D) → Holds rest ready kinds d i t k f me x
        → IsHoare kinds.conditions kinds.mesa c → chosen c f.events ≡ Some e
        → Allowed f (handing (hand_of out) k c (place_of e) x.state)
    allowed_handing out c e h hoare is =
        Allowed-handing (hand_of out) f k c e x.state h.within.stands.legal h.within.is_inside
        (sized_here (λ n. IsHoare n.conditions n.mesa c) h hoare) is

    owes_handing : (out : Bool) (c : ℕ) (e : Event D) → Holds rest ready kinds d i t k f me x
        → chosen c f.events ≡ Some e → Handed ready c i
        → Owes rest ready f.events (handing (hand_of out) k c (place_of e) x.state)
    owes_handing out c e h is asked =
        Owes-handing rest ready (hand_of out) f k c e x.state h.within.is_inside is
        (asked_here (Handed ready c) h asked)

    pub gives_handing : (out : Bool) (c : ℕ) (b : Contents) (who : Next) → Holds rest ready kinds d i t k f me x
        → IsHoare kinds.conditions kinds.mesa c
        → priorities i.front.events c ≢ [] → Handed ready c i
        → IsOf b (after_handing out (dataless f) k c (chosen c (dataless f).events)) → who ≡ next_of b.turn
        → MayGive rest ready (λ s. handing (hand_of out) k c (place_for who) s) k me
        (record { state = x.state; book = b }) who
    gives_handing out c b who h hoare some asked book is =
        let r = resumes_handing out c b who h some book is in
        let w : ℕ = place_of r.chosen_one in
        subst
        (λ (j : ℕ). MayGive rest ready (λ s. handing (hand_of out) k c j s) k me (record { state = x.state; book = b })
        who)
        (sym r.goes_on)
        (may_give (λ s. handing (hand_of out) k c w s) b who h (place_of-handing (hand_of out) k c w x.state)
        (data_of-handing (hand_of out) k c w x.state)
        (out-handing out k c w x.state) (allowed_handing out c r.chosen_one h hoare r.is)
        (owes_handing out c r.chosen_one h r.is asked)
        (IsOf-handing out b f k c r.chosen_one x.state r.is book) is)

    allowed_signal_to : (c w : ℕ) (e : Event D) → Holds rest ready kinds d i t k f me x
        → IsHoare kinds.conditions kinds.mesa c → wait_by w c f.events ≡ Some e → Allowed f (SignalTo k c w x.state)
    allowed_signal_to c w e h hoare is =
        Allowed-signal_to f k c w e x.state h.within.stands.legal h.within.is_inside
        (sized_here (λ n. IsHoare n.conditions n.mesa c) h hoare) is

    owes_signal_to : (c w : ℕ) (e : Event D) → Holds rest ready kinds d i t k f me x
        → wait_by w c f.events ≡ Some e → HandedTo ready c w i → Owes rest ready f.events (SignalTo k c w x.state)
    owes_signal_to c w e h is asked =
        Owes-signal_to rest ready f k c w e x.state h.within.is_inside is (asked_here (HandedTo ready c w) h asked e is)

    waiter_here : (c w : ℕ) → Holds rest ready kinds d i t k f me x → IsWaiting c i.front.events w
        → (e : Event D) × (wait_by w c f.events ≡ Some e) × (place_of e ≡ w)
    waiter_here c w h is_there =
        waiting-wait_by c w f.events (asked_here (λ j. IsWaiting c j.front.events w) h is_there)

    pub gives_signal_to : (c w : ℕ) (b : Contents) (who : Next) → Holds rest ready kinds d i t k f me x
        → IsHoare kinds.conditions kinds.mesa c → IsWaiting c i.front.events w → HandedTo ready c w i
        → IsOf b (after_signal_to (dataless f) k c w (wait_by w c (dataless f).events)) → who ≡ next_of b.turn
        → MayGive rest ready (event_of k (release.SignalTo c w) who) k me (record { state = x.state; book = b }) who
    gives_signal_to c w b who h hoare is_there asked book is =
        let e = waiter_here c w h is_there in
        may_give (λ s. SignalTo k c w s) b who h refl refl refl (allowed_signal_to c w e.0 h hoare e.1)
        (owes_signal_to c w e.0 h e.1 asked) (IsOf-signal_to b f k c w e.0 x.state e.1 book) is

    -- the place outside after an event by which it leaves
    went_out : (e : Event D) (z : PlaceId) (o : PlaceOut D) → Holds rest ready kinds d i t k f me x → place_of e ≡ k
        → is_out (Some e) ≡ true
        → Allowed f e → Owes rest ready f.events e → z ≡ t → o ≡ place_out z k (with_event f e)
        → Left rest ready kinds d k (with_event f e) o
    went_out e z o h mine goes may owes same is =
        let sizes = entering.sizes-with f f e (sizes_at kinds d.places) (Begins-refl f) h.within.sized in
        subst (Left rest ready kinds d k (with_event f e)) (sym is) (record {
          of = record {
            of = same ∙ h.within.of;
            sized = sizes;
            below = subst (λ (m : Sizes). k < m.places) h.within.sized
                (held-in_range f k h.within.stands.legal h.within.is_inside);
            stands = Stands-push e h.within.stands may owes;
            is_outside = outside-left f k e mine goes;
          };
          place = refl;
          front = refl;
        })

    -- which place resumes next after the event
    next_after : (e : Event D) (b : Contents) (who : Next) (z : PlaceId) (o : PlaceOut D)
        → Holds rest ready kinds d i t k f me x
        → IsOf b (dataless (with_event f e)) → who ≡ next_of b.turn → o ≡ place_out z k (with_event f e)
        → who ≡ next_of (turn o.front.events)
    next_after e b who z o h book answered is =
        next-history b (with_event f e) who book answered
        ∙ ap (λ (p : PlaceOut D). next_of (turn p.front.events)) (sym is)

    pub next_leave : (b : Contents) (who : Next) (z : PlaceId) (o : PlaceOut D) → Holds rest ready kinds d i t k f me x
        → IsOf b (with_event (dataless f) (Leave k tt)) → who ≡ next_of b.turn
        → o ≡ place_out z k (with_event f (Leave k x.state)) → who ≡ next_of (turn o.front.events)
    next_leave b who z o h book answered is =
        next_after (Leave k x.state) b who z o h (IsOf-event b f (Leave k x.state) book) answered is

    pub next_wait : (c p : ℕ) (b : Contents) (who : Next) (z : PlaceId) (o : PlaceOut D)
        → Holds rest ready kinds d i t k f me x
        → IsOf b (with_event (dataless f) (Wait k c p tt)) → who ≡ next_of b.turn
        → o ≡ place_out z k (with_event f (Wait k c p x.state)) → who ≡ next_of (turn o.front.events)
    next_wait c p b who z o h book answered is =
        next_after (Wait k c p x.state) b who z o h (IsOf-event b f (Wait k c p x.state) book) answered is

    pub next_handing : (out : Bool) (c : ℕ) (b : Contents) (who : Next) (z : PlaceId) (o : PlaceOut D)
        → Holds rest ready kinds d i t k f me x → priorities i.front.events c ≢ []
        → IsOf b (after_handing out (dataless f) k c (chosen c (dataless f).events)) → who ≡ next_of b.turn
        → o ≡ place_out z k (with_event f (handing (hand_of out) k c (place_for who) x.state))
        → who ≡ next_of (turn o.front.events)
    next_handing out c b who z o h some book answered is =
        let r = resumes_handing out c b who h some book answered in
        next_after (handing (hand_of out) k c (place_for who) x.state) b who z o h
        (subst (λ (j : ℕ). IsOf b (dataless (with_event f (handing (hand_of out) k c j x.state)))) (sym r.goes_on)
        (IsOf-handing out b f k c r.chosen_one x.state r.is book)) answered is

    -- the place after an event by which it is away
    went_off : (e : Event D) (z : PlaceId) (o : PlaceOut D) → Holds rest ready kinds d i t k f me x
        → Allowed f e → Owes rest ready f.events e → Released k (with_event f e) → z ≡ t
        → o ≡ place_out z k (with_event f e)
        → Departs rest ready kinds d k (with_event f e) o
    went_off e z o h may owes went same is =
        let sizes = entering.sizes-with f f e (sizes_at kinds d.places) (Begins-refl f) h.within.sized in
        subst (Departs rest ready kinds d k (with_event f e)) (sym is) (record {
          of = record {
            of = same ∙ h.within.of;
            sized = sizes;
            below = subst (λ (m : Sizes). k < m.places) h.within.sized
                (held-in_range f k h.within.stands.legal h.within.is_inside);
            stands = Stands-push e h.within.stands may owes;
            went = went;
          };
          place = refl;
          front = refl;
        })

    pub waited : (c p : ℕ) (z : PlaceId) (o : PlaceOut D) → Holds rest ready kinds d i t k f me x
        → c < kinds.conditions → rest i.state (joined (priorities i.front.events) c p) → z ≡ t
        → o ≡ place_out z k (with_event f (Wait k c p x.state))
        → Departs rest ready kinds d i.place (with_event i.front (Wait i.place c p i.state)) o
    waited c p z o h small asked same is =
        asked_back (λ j. Departs rest ready kinds d j.place (with_event j.front (Wait j.place c p j.state)) o) h
        (went_off (Wait k c p x.state) z o h
        (Allowed-wait f k c p x.state h.within.stands.legal h.within.is_inside
        (sized_here (λ n. c < n.conditions) h small))
        (Owes-wait rest ready f k c p x.state h.within.is_inside
        (asked_here (λ j. rest j.state (joined (priorities j.front.events) c p)) h asked))
        (waits f c p x.state (grows_none k refl)) same is)

    pub handed_over : (c : ℕ) (b : Contents) (who : Next) (z : PlaceId) (o : PlaceOut D)
        → Holds rest ready kinds d i t k f me x → IsHoare kinds.conditions kinds.mesa c
        → priorities i.front.events c ≢ [] → Handed ready c i
        → IsOf b (after_signal (dataless f) k c (chosen c (dataless f).events)) → who ≡ next_of b.turn
        → z ≡ t → o ≡ place_out z k (with_event f (Signal k c (place_for who) x.state))
        → Signalled rest ready kinds d i c o
    handed_over c b who z o h hoare some asked book is same gone =
        let r = resumes_handing false c b who h some book is in
        let w : ℕ = place_for who in
        let out : Departs rest ready kinds d k (with_event f (Signal k c w x.state)) o =
        subst
        (λ (j : ℕ). o ≡ place_out z k (with_event f (Signal k c j x.state))
        → Departs rest ready kinds d k (with_event f (Signal k c j x.state)) o)
        (sym r.goes_on)
        (went_off (Signal k c (place_of r.chosen_one) x.state) z o h
        (allowed_handing false c r.chosen_one h hoare r.is) (owes_handing false c r.chosen_one h r.is asked)
        (signalled f (Signal k c (place_of r.chosen_one) x.state) refl refl (grows_none k refl)) same)
        gone in record {
          of = out.of;
          place = asked_back (λ j. o.place ≡ j.place) h out.place;
          front = asked_back (λ j. HandsTo c j o.front) h
              (record { goes_on = w; is_chosen = chooses c f who r; front = out.front });
        }

    pub handed_to_it : (c w : ℕ) (z : PlaceId) (o : PlaceOut D)
        → Holds rest ready kinds d i t k f me x → IsHoare kinds.conditions kinds.mesa c
        → IsWaiting c i.front.events w → HandedTo ready c w i
        → z ≡ t → o ≡ place_out z k (with_event f (SignalTo k c w x.state))
        → Departs rest ready kinds d i.place (with_event i.front (SignalTo i.place c w i.state)) o
    handed_to_it c w z o h hoare is_there asked same is =
        let e = waiter_here c w h is_there in
        asked_back (λ j. Departs rest ready kinds d j.place (with_event j.front (SignalTo j.place c w j.state)) o) h
        (went_off (SignalTo k c w x.state) z o h (allowed_signal_to c w e.0 h hoare e.1)
        (owes_signal_to c w e.0 h e.1 asked) (signalled f (SignalTo k c w x.state) refl refl (grows_none k refl)) same
        is)

    pub next_signal_to : (c w : ℕ) (b : Contents) (who : Next) (z : PlaceId) (o : PlaceOut D)
        → Holds rest ready kinds d i t k f me x → IsWaiting c i.front.events w
        → IsOf b (after_signal_to (dataless f) k c w (wait_by w c (dataless f).events)) → who ≡ next_of b.turn
        → o ≡ place_out z k (with_event f (SignalTo k c w x.state))
        → who ≡ next_of (turn o.front.events)
    next_signal_to c w b who z o h is_there book answered is =
        let e = waiter_here c w h is_there in
        next_after (SignalTo k c w x.state) b who z o h (IsOf-signal_to b f k c w e.0 x.state e.1 book) answered is

    pub left : (z : PlaceId) (o : PlaceOut D) → Holds rest ready kinds d i t k f me x
        → rest i.state (priorities i.front.events) → z ≡ t
        → o ≡ place_out z k (with_event f (Leave k x.state))
        → Left rest ready kinds d i.place (with_event i.front (Leave i.place i.state)) o
    left z o h asked same is =
        asked_back (λ j. Left rest ready kinds d j.place (with_event j.front (Leave j.place j.state)) o) h
        (went_out (Leave k x.state) z o h refl refl (Allowed-leave f k x.state h.within.stands.legal h.within.is_inside)
        (owes_leave h asked) same is)

    pub passed : (c : ℕ) (b : Contents) (who : Next) (z : PlaceId) (o : PlaceOut D)
        → Holds rest ready kinds d i t k f me x → IsHoare kinds.conditions kinds.mesa c
        → priorities i.front.events c ≢ [] → Handed ready c i
        → IsOf b (after_pass (dataless f) k c (chosen c (dataless f).events)) → who ≡ next_of b.turn
        → z ≡ t → o ≡ place_out z k (with_event f (Pass k c (place_for who) x.state)) → Passed rest ready kinds d i c o
    passed c b who z o h hoare some asked book is same gone =
        let r = resumes_handing true c b who h some book is in
        let w : ℕ = place_for who in
        let out : Left rest ready kinds d k (with_event f (Pass k c w x.state)) o =
        subst
        (λ (j : ℕ). o ≡ place_out z k (with_event f (Pass k c j x.state))
        → Left rest ready kinds d k (with_event f (Pass k c j x.state)) o)
        (sym r.goes_on)
        (went_out (Pass k c (place_of r.chosen_one) x.state) z o h refl refl
        (allowed_handing true c r.chosen_one h hoare r.is) (owes_handing true c r.chosen_one h r.is asked) same)
        gone in record {
          of = out.of;
          place = asked_back (λ j. o.place ≡ j.place) h out.place;
          front = asked_back (λ j. Exits j.place c j.state j.front o.front true) h
              (passed_on w (chooses c f who r) out.front);
        }
