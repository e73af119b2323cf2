-- A place with a ticket: its seat, and the clauses of its contracts.
use Rattle.std.proofs.Common.{◌≡◌, ℕ, ◌+◌, ◌%◌, ◌^◌, ◌==◌, true, List, [], ◌∷◌, ◌++◌, drop, length, None, refl}
use Rattle.std.proofs.Common.{sym, ap, ◌∙◌, ◌≤◌, append-nil, arith, length-append, subst}
use Rattle.std.proofs.Math.Seq.{drop-append_seam}
use Rattle.std.proofs.lemmas.List.{append_cancel_left}
use Rattle.std.proofs.lemmas.List.Elements.{filter-append}
use Rattle.hoare_law.specs.declared.event.Event.{Event}
use Rattle.hoare_law.specs.declared.event.Event.TheVariants.{Admit}
use Rattle.hoare_law.specs.Sizes.{Kinds}
use Rattle.hoare_law.specs.Events.{own, place_of, with_event}
use Rattle.hoare_law.proofs.Admissions.{admissions-append, admitted-append, admitted-length}
use Rattle.hoare_law.specs.Lawful.{Rest, Ready}
use Rattle.door_frame.specs.declared.guarded.Guarded.{Guarded}
use Rattle.hoare_law.specs.Growth.{AddsLast, Begins}
use Rattle.hoare_law.specs.Priorities.{priorities}
use Rattle.door_frame.specs.Places.{PlaceId, Entered, PlaceOut, PlaceIn, IsOut, IsIn, IsInHistory, place_in}
use Rattle.door_frame.proofs.Arrivals.{entered}
use Rattle.door_frame.proofs.Refusals.{added_after, grows_others, told_out}
use Rattle.hoare_law.specs.declared.event.History.{History}
use Rattle.door_frame.specs.Steps.{SeatState, EnteredBy}
use Rattle.door_frame.specs.Views.{asking, is_alone, front_of}
use Rattle.ticket_door.specs.Asked.{TicketDoorId, IsAsking, IsAsked, PlaceAsked, EntersBy, WaitsBehind, as_out}
use Rattle.ticket_door.specs.Asked.{before_of, ahead_in}
use Rattle.ticket_door.specs.Steps.{TakesTicket}
use Rattle.wait_book.specs.Contents.{times}
use Rattle.hoare_law.specs.Admissions.{admissions, admitted}

module _ {D : Type 0} where
  pub asking_alone : (m : SeatState D) (k : ℕ) (f : History D) (x : List ℕ) → IsAsking k f x m → is_alone m.0 ≡ true
  asking_alone m k f x e = ap (λ (z : SeatState D). is_alone z.0) e

  pub asking_front : (m : SeatState D) (is : is_alone m.0 ≡ true) (k : ℕ) (f : History D) (x : List ℕ)
      → IsAsking k f x m → front_of m.0 is ≡ f
  asking_front m is k f x e =
      subst (λ (w : SeatState D). (a : is_alone w.0 ≡ true) → front_of w.0 a ≡ f) (sym e) (λ a. refl) is

  pub asking_before : (m : SeatState D) (k : ℕ) (f : History D) (x : List ℕ) → IsAsking k f x m → before_of m.0 ≡ x
  asking_before m k f x e = ap (λ (z : SeatState D). before_of z.0) e

  -- the places before that aren't admitted in f are those that follow the ones admitted there
  ahead_is : (f : History D) (ahead : List ℕ) → ahead_in f (admitted f.events ++ ahead) ≡ ahead
  ahead_is f ahead =
      ap (λ (n : ℕ). drop n (admitted f.events ++ ahead)) (sym (admitted-length f.events))
      ∙ drop-append_seam (admitted f.events) ahead

  -- the seat of a place with a ticket, by the front and the places before it that its own view has
  pub asking_by : (m : SeatState D) (is : is_alone m.0 ≡ true) (k : ℕ) (f : History D) (x : List ℕ) → IsAsking k f x m
      → IsAsking k (front_of m.0 is) (before_of m.0) m
  asking_by m is k f x e =
      e ∙ (λ i. (asking k (sym (asking_front m is k f x e) i) (sym (asking_before m k f x e) i), []))

  -- if g begins with f, and has no other events of e's place, an e added last to g is added last to f
  pub AddsLast-told : {f g h : History D} {e : Event D} → Begins f g
      → own (place_of e) g.events ≡ own (place_of e) f.events
      → AddsLast g e h → AddsLast f e h
  AddsLast-told {e = e} begins same adds = added_after (grows_others (place_of e) begins same) adds

  -- if the place k has no other events in g, none of the later events is its own
  pub own-later : (k : ℕ) (f g : History D) (b : Begins f g) → own k g.events ≡ own k f.events → own k b.later ≡ []
  own-later k f g b same =
      append_cancel_left (own k f.events) (own k b.later) []
      (sym (filter-append (λ e. place_of e == k) f.events b.later) ∙ ap (own k) b.is ∙ same
      ∙ sym (append-nil (own k f.events)))

  module _ (rest : Rest D) (ready : Ready D) (kinds : Kinds) where
    -- what `ask` ensures of the place o with its ticket
    pub record Asks (d : TicketDoorId) (o : PlaceOut D) (a : PlaceAsked D) : Type 0 where
      pub of : IsAsked rest ready kinds d a
      pub place : a.place ≡ o.place
      pub front : IsInHistory a.front o

    pub takes_ticket_as : (d : TicketDoorId) (o : PlaceOut D) (a : PlaceAsked D) {k : ℕ} {g : History D}
        {x : List ℕ} {m : SeatState D}
        → IsOut rest ready kinds d.door o → TakesTicket rest ready d.door.places k o.front g x m → k ≡ o.place
        → a.place_id ≡ o.place_id → a.place ≡ o.place → a.front ≡ g → a.number ≡ length x → a.ahead ≡ ahead_in g x
        → a.ticket ≡ (d.first + length x) % 2 ^ 64 → Asks d o a
    takes_ticket_as d o a {k = k} {g = g} {x = x} {m = m} out took same of at front number ahead ticket =
        let t : TakesTicket rest ready d.door.places o.place o.front g x m =
        subst (λ (j : ℕ). TakesTicket rest ready d.door.places j o.front g x m) same took in
        let known = t.learns.fits.0 in let here = t.is_before in
        let is : ahead_in g x ≡ t.ahead = ap (ahead_in g) here ∙ ahead_is g t.ahead in
        let counted : length x ≡ admissions g.events + length t.ahead =
        ap length here ∙ length-append (admitted g.events) t.ahead
        ∙ ap (λ (n : ℕ). n + length t.ahead) (admitted-length g.events) in
        subst (Asks d o)
        (λ i. record {
          place_id = sym of i;
          place = sym at i;
          front = sym front i;
          number = sym number i;
          ticket = a.ticket;
          ahead = sym (ahead ∙ is) i;
        })
        (record {
          of = record {
            out = told_out rest ready kinds d.door o.place_id o g out.of out t.learns.stands known.0 known.1;
            ticket_is = ticket;
            number_is = counted;
            are_ahead = t.are_ahead;
          };
          place = refl;
          front = record { begins = known.0; own_are = known.1 };
        })

    -- a place that was admitted by its ticket entered in its turn
    pub enters_by : (first ticket k number : ℕ) (f h : History D) (x : Guarded D) {m : SeatState D}
        (c : EnteredBy rest ready k f (Admit k) x None m)
        → length (admitted c.log.events) ≡ number
        → ticket ≡ (first + number) % 2 ^ 64 → h ≡ with_event c.log (Admit k x.state) → EntersBy first ticket h
    enters_by first ticket k number f h x c counted ticket_is is = record {
      before = c.log;
      event = Admit k x.state;
      is = is;
      admits = refl;
      in_turn = ticket_is ∙ ap (λ n. (first + n) % 2 ^ 64) (sym counted ∙ admitted-length c.log.events);
    }

    -- and it entered after exactly the places with a ticket before it
    pub waits_behind : (d : TicketDoorId) (a : PlaceAsked D) (x : Guarded D) {m : SeatState D}
        → IsAsked rest ready kinds d a
        → (c : EnteredBy rest ready a.place a.front (Admit a.place) x None m)
        → length (admitted c.log.events) ≡ a.number → ahead_in a.front (admitted c.log.events) ≡ a.ahead
        → (t : PlaceId)
        → WaitsBehind d.door.places a (place_in t a.place (with_event c.log (Admit a.place x.state)) x.state)
    unfolding with_event
    waits_behind d a x asked c counted left t =
        let later = c.begins.later in let few = asked.are_ahead.few in
        let ahead : admissions a.front.events + admissions later ≡ a.number =
        sym (admissions-append a.front.events later) ∙ ap admissions c.begins.is
        ∙ sym (admitted-length c.log.events) ∙ counted in
        let are : admitted later ≡ a.ahead =
        sym (ahead_is a.front (admitted later))
        ∙ ap (ahead_in a.front) (sym (admitted-append a.front.events later) ∙ ap admitted c.begins.is) ∙ left in
        record {
          later = later;
          is = ap (λ (es : List (Event D)). es ++ Admit a.place x.state ∷ []) (sym c.begins.is);
          others = own-later a.place a.front c.log c.begins c.own_are;
          ahead = ahead;
          places_are = are;
          once = λ j. subst (λ (js : List ℕ). times j js ≤ 1) (sym are) (asked.are_ahead.once j);
          few = let number = asked.number_is in omega (arith, ahead, few, number);
        }

    -- what `come_in` ensures of a place with a ticket
    pub record CameIn (d : TicketDoorId) (a : PlaceAsked D) (i : PlaceIn D) : Type 0 where
      pub of : IsIn rest ready kinds d.door i
      pub place : i.place ≡ a.place
      pub rests : rest i.state (priorities i.front.events)
      pub front : AddsLast a.front (Admit a.place i.state) i.front
      pub in_turn : EntersBy d.first a.ticket i.front
      pub behind : WaitsBehind d.door.places a i

    pub came_in : {d : TicketDoorId} {a b : PlaceAsked D} {i : PlaceIn D} {t : PlaceId} {x : Guarded D} {m : SeatState
        D}
        → b ≡ a
        → IsAsked rest ready kinds d b → t ≡ b.place_id → (c : EnteredBy rest ready b.place b.front (Admit b.place) x
        None m)
        → length (admitted c.log.events) ≡ b.number → ahead_in b.front (admitted c.log.events) ≡ b.ahead
        → i ≡ place_in t b.place (with_event c.log (Admit b.place x.state)) x.state
        → CameIn d a i
    came_in {d = d} {b = b} {i = i} {t = t} {x = x} same asked table c counted left is =
        let e : Entered rest ready kinds d.door (as_out b) i = entered (as_out b) t i asked.out table refl c is in
        subst (λ (p : PlaceAsked D). CameIn d p i) same (record {
          of = e.of;
          place = e.place;
          rests = e.rests;
          front = e.front;
          in_turn = enters_by d.first b.ticket b.place b.number b.front i.front x c counted asked.ticket_is
              (ap (λ (j : PlaceIn D). j.front) is);
          behind = subst (WaitsBehind d.door.places b) (sym is) (waits_behind d b x asked c counted left t);
        })

    -- a place that asked and came in has entered
    pub entered_by : (d : TicketDoorId) (a : PlaceAsked D) {o : PlaceOut D} {i : PlaceIn D} → a.place ≡ o.place
        → IsInHistory a.front o → IsIn rest ready kinds d.door i → i.place ≡ a.place
        → rest i.state (priorities i.front.events) → AddsLast a.front (Admit a.place i.state) i.front
        → Entered rest ready kinds d.door o i
    entered_by d a {o = o} {i = i} at told of place rests front = record {
      of = of;
      place = place ∙ at;
      rests = rests;
      front = AddsLast-told told.begins told.own_are
          (subst (λ (k : ℕ). AddsLast a.front (Admit k i.state) i.front) at front);
    }
