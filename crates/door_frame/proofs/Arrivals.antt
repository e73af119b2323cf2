-- A place enters from outside, or returns from a wait or a signal.
use Rattle.std.proofs.Common.{◌≡◌, ℕ, true, List, Option, Some, None, refl, ap, sym, ◌∙◌, subst, append-nil}
use Rattle.hoare_law.specs.declared.event.Sizes.{Sizes}
use Rattle.hoare_law.specs.declared.event.Event.{Event}
use Rattle.hoare_law.specs.declared.event.History.{History}
use Rattle.hoare_law.specs.declared.event.Event.TheVariants.{Admit, Wait, Signal, Pass, Leave, Resume, Back, Notify}
use Rattle.hoare_law.specs.declared.event.Event.TheVariants.{Broadcast, SignalTo}
use Rattle.hoare_law.specs.declared.turn.Turn.TheVariants.{Owed, Return}
use Rattle.hoare_law.specs.Internal.WithoutData.{dataless}
use Rattle.hoare_law.specs.Events.{place_of, own, newest, with_event}
use Rattle.hoare_law.specs.Growth.{Begins, Signals, resumed_one, SignalsTo, resumed_it}
use Rattle.hoare_law.specs.Waiting.{IsWaiting}
use Rattle.hoare_law.specs.Sizes.{IsHoare, IsMesa, Kinds, sizes_at}
use Rattle.hoare_law.specs.Lawful.{Rest, Ready, Stands}
use Rattle.hoare_law.specs.Legal.{Allowed}
use Rattle.hoare_law.specs.Priorities.{priorities}
use Rattle.hoare_law.specs.Turns.{is_signal, turn}
use Rattle.hoare_law.proofs.Entering.{own-last, turn-in, sizes-with, AddsLast-one, AddsTwo-one, finds-admit, finds-back}
use Rattle.hoare_law.proofs.Entering.{finds-resume, finds-called}
use Rattle.hoare_law.proofs.Events.{newest-push}
use Rattle.hoare_law.proofs.Growth.{Begins-push, Begins-trans}
use Rattle.hoare_law.proofs.Held.{is_inside}
use Rattle.wait_book.specs.declared.steps.Next.TheVariants.{For}
use Rattle.wait_book.specs.Contents.{Contents, IsOf, next_of}
use Rattle.wait_book.specs.Stepping.{settled}
use Rattle.wait_book.proofs.WithData.{IsOf-claim}
use Rattle.door_frame.specs.declared.guarded.Guarded.{Guarded}
use Rattle.door_frame.specs.Places.{PlaceId, DoorId, Entered, HandsTo, IsBack, IsAway, IsIn, IsOut, IsResumed}
use Rattle.door_frame.specs.Places.{IsReturned, place_id_at}
use Rattle.door_frame.specs.Places.{PlaceIn, PlaceOut, place_in}
use Rattle.door_frame.specs.Steps.{SeatState, EnteredBy, awaited, due, due_by, due_from}
use Rattle.door_frame.proofs.Refusals.{grows_none}

module _ {D : Type 0} where
  -- a place returns from a wait or from a signal
  data ComesBack (k : ℕ) (event : D → Event D) : Type 0 where
    from_wait : (c : ℕ) → event ≡ (λ s. Resume k c s) → ComesBack k event
    from_signal : event ≡ (λ s. Back k s) → ComesBack k event

  due_inside : (k : ℕ) (o : Option ℕ) (s : D) → is_inside (due_from k o s) ≡ true
  due_inside k None s = refl
  due_inside k (Some c) s = refl

  due_mine : (k : ℕ) (o : Option ℕ) (s : D) → place_of (due_from k o s) ≡ k
  due_mine k None s = refl
  due_mine k (Some c) s = refl

  -- a place whose last event is a signal awaits no condition
  pub not_awaited : (e : Event D) → is_signal e ≡ true → awaited (Some e) ≡ None
  not_awaited (Signal k c w s) is = refl
  not_awaited (SignalTo k c w s) is = refl
  not_awaited (Admit k s) is = refl
  not_awaited (Wait k c p s) is = absurd (cc)
  not_awaited (Pass k c w s) is = refl
  not_awaited (Leave k s) is = refl
  not_awaited (Resume k c s) is = refl
  not_awaited (Back k s) is = refl
  not_awaited (Notify k c w s) is = refl
  not_awaited (Broadcast k c s) is = refl

  comes_back : (k : ℕ) (o : Option ℕ) → ComesBack k (due_from k o)
  comes_back k None = from_signal refl
  comes_back k (Some c) = from_wait c refl

  -- the place k resumes next, and the book, once settled, is of the history afterwards
  pub record IsDue (k : ℕ) (h : History D) (event : D → Event D) (b : Contents) (s : D) : Type 0 where
    pub turn_is : next_of (turn h.events) ≡ For k
    pub settles : IsOf b (settled (dataless h)) → IsOf b (dataless (with_event h (event s)))

  is_due : (k : ℕ) (h : History D) (event : D → Event D) (b : Contents) (s : D) → ComesBack k event
      → Allowed h (event s) → IsDue k h event b s
  is_due k h event b s (from_wait c is) may =
      subst (λ (e : D → Event D). Allowed h (e s) → IsDue k h e b s) (sym is)
      (λ a. record {
        turn_is = ap next_of a.fits.0;
        settles = λ o. IsOf-claim b h (Owed k c) (Resume k c s) a.fits.0 refl o;
      }) may
  is_due k h event b s (from_signal is) may =
      subst (λ (e : D → Event D). Allowed h (e s) → IsDue k h e b s) (sym is)
      (λ a. record {
        turn_is = ap next_of a.fits.0;
        settles = λ o. IsOf-claim b h (Return k) (Back k s) a.fits.0 refl o;
      }) may

  pub is_due_by : (k : ℕ) (h f : History D) (b : Contents) (s : D) → Allowed h (due k f s) → IsDue k h (due k f) b s
  is_due_by k h f b s may = is_due k h (due k f) b s (comes_back k (awaited (newest (own k f.events)))) may

  -- the event by which a place returns is the same by histories with the same events of that place
  due_as : (k : ℕ) (f g : History D) → own k g.events ≡ own k f.events → (s : D) → due k g s ≡ due k f s
  due_as k f g same s = ap (λ (es : List (Event D)). due_by k (newest es) s) same

  -- the event by which a place returns depends on its own last event: a Resume after a wait, a Back after a signal
  due_own : (f : History D) (k : ℕ) (e : Event D) (s : D) → place_of e ≡ k
      → due k (with_event f e) s ≡ due_by k (Some e) s
  unfolding with_event
  due_own f k e s mine =
      ap (λ o. due_by k o s) (ap newest (own-last k f.events e mine) ∙ newest-push (own k f.events) e)

  module _ {rest : Rest D} {ready : Ready D} where
    -- EnteredBy holds of the data as the box lends them
    pub came_as : {k : ℕ} {f : History D} {event : D → Event D} {y z : Guarded D} {m : SeatState D} → z ≡ y
        → EnteredBy rest ready k f event y None m
        → EnteredBy rest ready k f event z None m
    came_as {k = k} {f = f} {event = event} {m = m} same c =
        subst (λ (x : Guarded D). EnteredBy rest ready k f event x None m) (sym same) c

    module _ {kinds : Kinds} {d : DoorId} where
      -- a place that entered is inside, by its front
      is_in : (t : PlaceId) (k : ℕ) (f log : History D) (e : Event D) (s : D) → t ≡ place_id_at d k
          → f.sizes ≡ sizes_at kinds d.places
          → Begins f log → Stands rest ready (with_event log e) → is_inside e ≡ true → place_of e ≡ k
          → IsIn rest ready kinds d (place_in t k (with_event log e) s)
      is_in t k f log e s of sized begins stands brings mine =
          let sizes = sizes-with f log e (sizes_at kinds d.places) begins sized in record {
            of = of;
            sized = sizes;
            stands = stands;
            is_inside = turn-in log k e brings mine;
          }

      pub entered : {k : ℕ} {x : Guarded D} {m : SeatState D} (o : PlaceOut D) (t : PlaceId) (i : PlaceIn D)
          → IsOut rest ready kinds d o
          → t ≡ o.place_id → k ≡ o.place → (c : EnteredBy rest ready k o.front (Admit k) x None m)
          → i ≡ place_in t k (with_event c.log (Admit k x.state)) x.state → Entered rest ready kinds d o i
      entered {k = k} {x = x} {m = m} o t i out table place =
          subst
          (λ (j : ℕ). (c : EnteredBy rest ready j o.front (Admit j) x None m)
          → i ≡ place_in t j (with_event c.log (Admit j x.state)) x.state
          → Entered rest ready kinds d o i) (sym place) at
        where
          at : (c : EnteredBy rest ready o.place o.front (Admit o.place) x None m)
              → i ≡ place_in t o.place (with_event c.log (Admit o.place x.state)) x.state
              → Entered rest ready kinds d o i
          at c is =
              let e : Event D = Admit o.place x.state in
              subst (Entered rest ready kinds d o) (sym is) (record {
                of = is_in t o.place o.front c.log e x.state (table ∙ out.of) out.sized c.begins c.stands refl refl;
                place = refl;
                rests = finds-admit rest ready c.log o.place x.state c.stands;
                front = AddsLast-one o.place o.front c.log e refl c.begins c.own_are;
              })

      -- a place that was away is inside again: it returned from its last event
      pub came_back : {k : ℕ} {y : Guarded D} {m : SeatState D} (o : PlaceOut D) (t : PlaceId) (j : PlaceIn D)
          → IsAway rest ready kinds d o
          → t ≡ o.place_id → k ≡ o.place → (b : EnteredBy rest ready k o.front (due k o.front) y None m)
          → j ≡ place_in t k (with_event b.log (due k o.front y.state)) y.state → IsBack rest ready kinds d o j
      came_back {k = k} {y = y} {m = m} o t j gone place_id place =
          subst
          (λ (i : ℕ). (b : EnteredBy rest ready i o.front (due i o.front) y None m)
          → j ≡ place_in t i (with_event b.log (due i o.front y.state)) y.state
          → IsBack rest ready kinds d o j) (sym place) at
        where
          at : (b : EnteredBy rest ready o.place o.front (due o.place o.front) y None m)
              → j ≡ place_in t o.place (with_event b.log (due o.place o.front y.state)) y.state
              → IsBack rest ready kinds d o j
          at b is =
              let log : History D = b.log in
              let n : ℕ = o.place in
              let last = awaited (newest (own n o.front.events)) in
              let sized : (P : Sizes → Type 0) → P (sizes_at kinds d.places) → P log.sizes =
              λ P asked. subst P (sym gone.sized ∙ b.begins.sizes) asked in
              subst (IsBack rest ready kinds d o) (sym is) (record {
                of = is_in t n o.front log (due n o.front y.state) y.state (place_id ∙ gone.of) gone.sized b.begins
                    b.stands (due_inside n last y.state) (due_mine n last y.state);
                place = refl;
                begins = Begins-trans b.begins (Begins-push log (due n o.front y.state));
                resumed = λ f c p s was.
                    let w : Event D = Wait n c p s in
                    let e : Event D = Resume n c y.state in
                    let known : own n o.front.events ≡ own n (with_event f w).events =
                    was.adds ∙ append-nil (own n (with_event f w).events) in
                    let which : due n o.front y.state ≡ e = due_as n (with_event f w) o.front known y.state ∙ due_own f n w y.state refl in
                    let stands : Stands rest ready (with_event log e) =
                    subst (λ (v : Event D). Stands rest ready (with_event log v)) which b.stands in
                    let begins = Begins-trans was.begins b.begins in
                    let same = b.own_are ∙ known in
                    subst
                    (λ (v : Event D). IsResumed rest ready kinds n f c p s (place_in t n (with_event log v) y.state))
                    (sym which)
                    (record {
                      front = AddsTwo-one n f w log e refl refl begins same;
                      is_ready = λ hoare. finds-resume rest ready log f n c p s y.state same
                          (sized (λ z. IsHoare z.conditions z.mesa c) hoare) stands;
                      rests = λ called. finds-called rest ready log n c y.state
                          (sized (λ z. IsMesa z.conditions z.mesa c) called) stands;
                    });
                returned = λ f w signals mine was.
                    let e : Event D = Back n y.state in
                    let known : own n o.front.events ≡ own n (with_event f w).events =
                    was.adds ∙ append-nil (own n (with_event f w).events) in
                    let which : due n o.front y.state ≡ e =
                    due_as n (with_event f w) o.front known y.state ∙ due_own f n w y.state mine
                    ∙ ap (λ (c : Option ℕ). due_from n c y.state) (not_awaited w signals) in
                    let stands : Stands rest ready (with_event log e) =
                    subst (λ (u : Event D). Stands rest ready (with_event log u)) which b.stands in
                    let begins = Begins-trans was.begins b.begins in
                    let same = b.own_are ∙ known in
                    subst (λ (u : Event D). IsReturned rest ready kinds n f w (place_in t n (with_event log u) y.state))
                    (sym which)
                    (record {
                      front = AddsTwo-one n f w log e mine refl begins same;
                      rests = finds-back rest ready log n y.state stands;
                    });
              })

      -- both halves of a wait: the place i waited and was then away as o, and returned as j
      pub waited_back : (o : PlaceOut D) (i j : PlaceIn D) (c p : ℕ) → o.place ≡ i.place
          → o.front ≡ with_event i.front (Wait i.place c p i.state)
          → IsBack rest ready kinds d o j
          → IsResumed rest ready kinds i.place i.front c p i.state j
      waited_back o i j c p place front back =
          subst
          (λ (k : ℕ). o.front ≡ with_event i.front (Wait k c p i.state)
          → IsResumed rest ready kinds k i.front c p i.state j) place
          (λ is. back.resumed i.front c p i.state (grows_none o.place is)) front

      -- both halves of a signal
      pub signalled_back : (o : PlaceOut D) (i j : PlaceIn D) (c : ℕ) → o.place ≡ i.place → HandsTo c i o.front
          → IsBack rest ready kinds d o j
          → Signals i.place c i.state j.state i.front j.front true × rest j.state (priorities j.front.events)
      signalled_back o i j c place hands back =
          let e : Event D = Signal i.place c hands.goes_on i.state in
          let r =
          subst (λ (k : ℕ). IsReturned rest ready kinds k i.front e j) place
          (back.returned i.front e refl (sym place) (grows_none o.place hands.front)) in
          (resumed_one hands.goes_on hands.is_chosen r.front, r.rests)

      -- both halves of a signal to a place
      pub signalled_to_back : (o : PlaceOut D) (i j : PlaceIn D) (c w : ℕ) → o.place ≡ i.place
          → o.front ≡ with_event i.front (SignalTo i.place c w i.state) → IsWaiting c i.front.events w
          → IsBack rest ready kinds d o j
          → SignalsTo i.place c w i.state j.state i.front j.front true × rest j.state (priorities j.front.events)
      signalled_to_back o i j c w place front waits back =
          let e : Event D = SignalTo i.place c w i.state in
          let r =
          subst (λ (k : ℕ). IsReturned rest ready kinds k i.front e j) place
          (back.returned i.front e refl (sym place) (grows_none o.place front)) in
          (resumed_it waits r.front, r.rests)
