-- A place that was refused has learned events of other places.
use Rattle.std.proofs.Common.{◌≡◌, ℕ, List, [], ◌∷◌, Option, None, refl, sym, ◌∙◌, subst, append-nil}
use Rattle.hoare_law.specs.declared.event.Event.{Event}
use Rattle.hoare_law.specs.declared.event.History.{History}
use Rattle.hoare_law.specs.declared.event.Event.TheVariants.{Admit}
use Rattle.hoare_law.specs.Events.{own, newest, place_of}
use Rattle.hoare_law.specs.Growth.{AddsLast, Begins, Grows}
use Rattle.hoare_law.specs.Lawful.{Rest, Ready, Stands}
use Rattle.hoare_law.specs.Priorities.{priorities}
use Rattle.hoare_law.specs.Sizes.{Kinds}
use Rattle.hoare_law.proofs.Entering.{outside-same}
use Rattle.hoare_law.proofs.Growth.{Begins-refl, Begins-trans, Grows-trans}
use Rattle.door_frame.specs.declared.guarded.Guarded.{Guarded}
use Rattle.door_frame.specs.Places.{DoorId, Entered, IsIn, IsOut, PlaceIn}
use Rattle.door_frame.specs.Places.{IsAway, IsStillAway, PlaceId, PlaceOut, Released, waits, signalled}
use Rattle.door_frame.specs.Places.{place_id_at, place_out}
use Rattle.door_frame.specs.Refusals.{NotOwed}
use Rattle.door_frame.specs.Seats.{EntersWith, IsRefused, StaysAway}
use Rattle.door_frame.specs.Steps.{SeatState, EnteredBy, Learns, Refused, due, due_by}
use Rattle.door_frame.specs.Views.{alone, knows}

-- a history that didn't grow has no further event of any place
pub grows_none : {D : Type 0} (k : ℕ) {f h : History D} → h ≡ f → Grows k [] f h
grows_none k {f = f} is =
    subst (Grows k [] f) (sym is) (record { begins = Begins-refl f; adds = sym (append-nil (own k f.events)) })

module _ {D : Type 0} where
  pub grows_others : (k : ℕ) {f h : History D} → Begins f h → own k h.events ≡ own k f.events → Grows k [] f h
  grows_others k {f = f} begins same = record { begins = begins; adds = same ∙ sym (append-nil (own k f.events)) }

  pub stays_refl : {k : ℕ} {me : SeatState D} → StaysAway k me me
  stays_refl = λ f is. (f, is, Begins-refl f, refl)

  pub stays_on : {k : ℕ} {l m n : SeatState D} → StaysAway k l m → StaysAway k m n → StaysAway k l n
  stays_on a b = λ f is. let x = a f is in let y = b x.0 x.1 in (y.0, y.1, Begins-trans x.2 y.2, y.3 ∙ x.3)

  pub refused_stays : {rest : Rest D} {ready : Ready D} {Cause : History D → History D → Type 0} {k : ℕ}
      {l m : SeatState D}
      → IsRefused rest ready Cause k l m → StaysAway k l m
  refused_stays refused = λ f is. let r = refused f is in (r.log, r.me_is, r.begins, r.own_are)

  -- a place that learned the log, of which Cause holds, and didn't enter since was refused
  pub learned_now : {rest : Rest D} {ready : Ready D} {Cause : History D → Type 0} {k : ℕ} {f h : History D}
      {m n : SeatState D} → Learns rest ready h (knows k f None ∷ []) m → Cause h → n ≡ (alone k h, [])
      → Refused rest ready Cause k f n
  learned_now {h = h} l cause is = record {
    log = h;
    me_is = is;
    begins = l.fits.0.0;
    own_are = l.fits.0.1;
    stands = l.stands;
    cause = cause;
  }

  -- if g has events of others alone after f, an e added last to g is added last to f
  pub added_after : {f g h : History D} {e : Event D} → Grows (place_of e) [] f g → AddsLast g e h → AddsLast f e h
  added_after more adds = record { grows = Grows-trans more adds.grows; ends = adds.ends }

  -- a place that learned events of others and then entered has entered from what it knew before
  pub entered_after : {rest : Rest D} {ready : Ready D} {k : ℕ} {f g : History D} {event : D → Event D}
      {x : Guarded D} {o : Option (Guarded D)} {m : SeatState D} → Begins f g → own k g.events ≡ own k f.events
      → EnteredBy rest ready k g event x o m → EnteredBy rest ready k f event x o m
  entered_after begins same c = record {
    log = c.log;
    me_is = c.me_is;
    begins = Begins-trans begins c.begins;
    own_are = c.own_are ∙ same;
    stands = c.stands;
    book = c.book;
  }

  -- the same of a place that returned
  pub returns_after : {rest : Rest D} {ready : Ready D} {k : ℕ} {x : Guarded D} {l m n : SeatState D}
      → StaysAway k l m → EntersWith rest ready k (due k) m x n → EntersWith rest ready k (due k) l x n
  returns_after {rest = rest} {ready = ready} {k = k} {x = x} {n = n} stays came = λ f is.
      let y = stays f is in
      subst (λ (es : List (Event D)). EnteredBy rest ready k f (due_by k (newest es)) x None n) y.3
      (entered_after {event = due k y.0} y.2 y.3 (came y.0 y.1))

  released_still : {k : ℕ} {g h : History D} → Released k g → Grows k [] g h → Released k h
  released_still (waits f c p s was) more = waits f c p s (Grows-trans was more)
  released_still (signalled f e is mine was) more = signalled f e is mine (Grows-trans was more)

  -- a place that was away and was refused is still away
  pub still_away : {rest : Rest D} {ready : Ready D} {kinds : Kinds} {d : DoorId} {k : ℕ} {m : SeatState D}
      (o : PlaceOut D) (t : PlaceId) (p : PlaceOut D) → IsAway rest ready kinds d o → t ≡ o.place_id → k ≡ o.place
      → (r : Refused rest ready (NotOwed k) k o.front m) → p ≡ place_out t k r.log
      → IsStillAway rest ready kinds d o p
  still_away {rest = rest} {ready = ready} {kinds = kinds} {d = d} {m = m} o t p gone same place =
      subst
      (λ (j : ℕ). (r : Refused rest ready (NotOwed j) j o.front m) → p ≡ place_out t j r.log
      → IsStillAway rest ready kinds d o p) (sym place) at
    where
      at : (r : Refused rest ready (NotOwed o.place) o.place o.front m) → p ≡ place_out t o.place r.log
          → IsStillAway rest ready kinds d o p
      at r is =
          let more = grows_others o.place r.begins r.own_are in
          subst (IsStillAway rest ready kinds d o) (sym is) (record {
            of = record {
              of = same ∙ gone.of;
              sized = sym r.begins.sizes ∙ gone.sized;
              below = gone.below;
              stands = r.stands;
              went = released_still gone.went more;
            };
            place = refl;
            front = more;
            cause = r.cause;
          })

  -- a place outside that learns the history stays outside
  pub told_out : (rest : Rest D) (ready : Ready D) (kinds : Kinds) (d : DoorId) (t : PlaceId) (o : PlaceOut D)
      (h : History D)
      → t ≡ place_id_at d o.place
      → IsOut rest ready kinds d o → Stands rest ready h → Begins o.front h
      → own o.place h.events ≡ own o.place o.front.events
      → IsOut rest ready kinds d (place_out t o.place h)
  told_out rest ready kinds d t o h of out stands begins same = record {
    of = of;
    sized = sym begins.sizes ∙ out.sized;
    below = out.below;
    stands = stands;
    is_outside = outside-same o.place o.front h same out.is_outside;
  }

  -- what is known of the place o, which was outside, if it is still outside, as p
  pub record IsStillOut (rest : Rest D) (ready : Ready D) (kinds : Kinds) (Cause : History D → Type 0) (d : DoorId)
      (o p : PlaceOut D) : Type 0 where
    pub of : IsOut rest ready kinds d p
    pub place : p.place ≡ o.place
    pub front : Grows o.place [] o.front p.front
    pub cause : Cause p.front

  -- a place that was outside and was refused is still outside
  pub still_out : {rest : Rest D} {ready : Ready D} {kinds : Kinds} (Cause : ℕ → History D → Type 0) {d : DoorId}
      {k : ℕ} {m : SeatState D} (o : PlaceOut D) (t : PlaceId) (p : PlaceOut D) → IsOut rest ready kinds d o
      → t ≡ o.place_id → k ≡ o.place → (r : Refused rest ready (Cause k) k o.front m) → p ≡ place_out t k r.log
      → IsStillOut rest ready kinds (Cause o.place) d o p
  still_out {rest = rest} {ready = ready} {kinds = kinds} Cause {d = d} {m = m} o t p out same place =
      subst
      (λ (j : ℕ). (r : Refused rest ready (Cause j) j o.front m) → p ≡ place_out t j r.log
      → IsStillOut rest ready kinds (Cause o.place) d o p) (sym place) at
    where
      at : (r : Refused rest ready (Cause o.place) o.place o.front m) → p ≡ place_out t o.place r.log
          → IsStillOut rest ready kinds (Cause o.place) d o p
      at r is = subst (IsStillOut rest ready kinds (Cause o.place) d o) (sym is) (record {
        of = told_out rest ready kinds d t o r.log (same ∙ out.of) out r.stands r.begins r.own_are;
        place = refl;
        front = grows_others o.place r.begins r.own_are;
        cause = r.cause;
      })

  -- a place that was refused and then entered has entered from what it knew before
  pub entered_still : {rest : Rest D} {ready : Ready D} {kinds : Kinds} {d : DoorId} {o : PlaceOut D} {i : PlaceIn D}
      (p : PlaceOut D) → p.place ≡ o.place → Grows o.place [] o.front p.front → IsIn rest ready kinds d i → i.place ≡ p.place
      → rest i.state (priorities i.front.events) → AddsLast p.front (Admit p.place i.state) i.front
      → Entered rest ready kinds d o i
  entered_still {i = i} p same more of place rests front = record {
    of = of;
    place = place ∙ same;
    rests = rests;
    front = added_after more (subst (λ (k : ℕ). AddsLast p.front (Admit k i.state) i.front) same front);
  }
