-- The place inside notifies the waiters on a Mesa condition: that it may, and its front afterwards.
use Rattle.std.proofs.Common.{◌≡◌, ◌≢◌, ℕ, true, cond, ◌==◌, List, [], ◌∷◌, Option, Some, None, unwrap_or, refl, ap}
use Rattle.std.proofs.Common.{sym, ◌∙◌, subst, eq-eqb, ne_eqb}
use Rattle.std.specs.Option.{option_map}
use mathlib.Core.Logic.{dite}
use native.Mathlib.Decide.{ℕ_discrete}
use Rattle.hoare_law.specs.declared.event.Event.{Event}
use Rattle.hoare_law.specs.declared.event.History.{History}
use Rattle.hoare_law.specs.declared.event.Event.TheVariants as event
use Rattle.hoare_law.specs.declared.turn.Turn.TheVariants.{Held}
use Rattle.hoare_law.specs.Internal.WithoutData.{dataless}
use Rattle.hoare_law.specs.Events.{place_of, with_event}
use Rattle.hoare_law.specs.Growth.{Notifies, Broadcasts, called_one, called_all}
use Rattle.hoare_law.specs.Sizes.{IsMesa, Kinds, sizes_at}
use Rattle.hoare_law.specs.Lawful.{Rest, Ready}
use Rattle.hoare_law.specs.Priorities.{priorities, taken, emptied, behind_first}
use Rattle.hoare_law.specs.Turns.{turn}
use Rattle.hoare_law.specs.Waiting.{waiting, chosen, Chooses}
use Rattle.hoare_law.proofs.Calling.{Allowed-notify, Allowed-broadcast, Owes-notify, Owes-broadcast}
use Rattle.hoare_law.proofs.Calling.{turn-notify, turn-broadcast}
use Rattle.hoare_law.proofs.Entering.{sizes-with}
use Rattle.hoare_law.proofs.Growth.{Begins-refl}
use Rattle.hoare_law.proofs.Leaving.{chosen-some, Chooses-place}
use Rattle.hoare_law.proofs.Legal.{Stands-push}
use Rattle.hoare_law.proofs.Priorities.{priorities-nobody, priorities-notify, priorities-broadcast}
use Rattle.wait_book.specs.Contents.{Contents, IsOf}
use Rattle.wait_book.specs.Stepping.{after_notify, after_broadcast}
use Rattle.wait_book.proofs.WithData.{IsOf-notify, IsOf-broadcast}
use Rattle.door_frame.specs.declared.notification.Notification.{Notification}
use Rattle.door_frame.specs.declared.notification.Notification.TheVariants.{One, All}
use Rattle.door_frame.specs.declared.guarded.Guarded.{Guarded}
use Rattle.door_frame.specs.Notifications.{chosen_place, event_of_notification, called_on, after_notification, Noted}
use Rattle.door_frame.specs.Places.{PlaceId, DoorId, IsIn, PlaceIn, place_in}
use Rattle.door_frame.specs.Steps.{SeatState, Notes}
use Rattle.door_frame.proofs.Releases.{sized_here}
use Rattle.door_frame.specs.Views.{alone, is_alone, front_of}
use Rattle.door_frame.proofs.Inside.{Holds}
use Rattle.door_frame.proofs.Seats.{at_front}

-- lists that change only on c, and only if a place waits on c, stay the same if no place waits on c
unchanged : (change : List ℕ → List ℕ) (q : ℕ → List ℕ) (c d : ℕ) → change [] ≡ [] → q c ≡ []
    → q d ≡ cond (d == c) (change (q d)) (q d)
unchanged change q c d stays none = dite (ℕ_discrete d c)
    (λ same. let empty : q d ≡ [] = ap q same ∙ none in
    empty ∙ sym (ap (λ b. cond b (change (q d)) (q d)) (eq-eqb d c same) ∙ ap change empty ∙ stays))
    (λ ne. sym (ap (λ b. cond b (change (q d)) (q d)) (ne_eqb d c ne)))

pub taken_none : (q : ℕ → List ℕ) (c : ℕ) → q c ≡ [] → q ≡ taken q c
taken_none q c none = λ i d. unchanged behind_first q c d refl none i

pub emptied_none : (q : ℕ → List ℕ) (c : ℕ) → q c ≡ [] → q ≡ emptied q c
emptied_none q c none = λ i d. unchanged (λ l. []) q c d refl none i

module _ {D : Type 0} where
  chosen_place-is : (c : ℕ) (h : List (Event D)) (x : Event D) → chosen c h ≡ Some x → chosen_place c h ≡ place_of x
  chosen_place-is c h x is = ap (λ (o : Option (Event D)). unwrap_or (option_map place_of o) 0) is

  Chooses-chosen_place : (c : ℕ) (h : List (Event D)) → priorities h c ≢ [] → Chooses c h (chosen_place c h)
  Chooses-chosen_place c h some =
      let x = chosen-some c h some in
      subst (λ (w : ℕ). Chooses c h w) (sym (chosen_place-is c h x.0 x.1)) (Chooses-place c h x.0 x.1)

  listed-notify : (f : History D) (k c w : ℕ) (s : D) → turn f.events ≡ Held k → Chooses c f.events w
      → priorities (with_event f (event.Notify k c w s)).events ≡ taken (priorities f.events) c
  unfolding with_event
  listed-notify f k c w s held chooses = priorities-notify f.events k c w s held chooses

  listed-broadcast : (f : History D) (k c : ℕ) (s : D) → turn f.events ≡ Held k
      → priorities (with_event f (event.Broadcast k c s)).events ≡ emptied (priorities f.events) c
  unfolding with_event
  listed-broadcast f k c s held = priorities-broadcast f.events k c s held

  module _ {rest : Rest D} {ready : Ready D} {kinds : Kinds} {d : DoorId} {i : PlaceIn D} where
    -- the front and the lists after a notify on a condition with a waiter
    pub notified : (c : ℕ) {j : PlaceIn D} → IsIn rest ready kinds d i → priorities i.front.events c ≢ []
        → Noted rest ready kinds d i (One c) j
        → Notifies i.place c i.state i.front j.front true
        × (priorities j.front.events ≡ taken (priorities i.front.events) c)
    notified c of some n =
        let w : ℕ = chosen_place c i.front.events in
        let chooses = Chooses-chosen_place c i.front.events some in (
          called_one w chooses n.front,
          ap (λ (h : History D). priorities h.events) n.front
              ∙ listed-notify i.front i.place c w i.state of.is_inside chooses,
        )

    -- the front and the lists after a broadcast on a condition with a waiter
    pub all_called : (c : ℕ) {j : PlaceIn D} → IsIn rest ready kinds d i → priorities i.front.events c ≢ []
        → Noted rest ready kinds d i (All c) j
        → Broadcasts i.place c i.state i.front j.front
        × (priorities j.front.events ≡ emptied (priorities i.front.events) c)
    all_called c of some n = (
      called_all (λ none. some (priorities-nobody c i.front.events none)) n.front,
      ap (λ (h : History D). priorities h.events) n.front ∙ listed-broadcast i.front i.place c i.state of.is_inside,
    )

    module _ {t : PlaceId} {k : ℕ} {f : History D} {me : SeatState D} {x : Guarded D} where
      some_listed : (c : ℕ) → Holds rest ready kinds d i t k f me x → priorities i.front.events c ≢ []
          → priorities f.events c ≢ []
      some_listed c h some = subst (λ (v : PlaceIn D). priorities v.front.events c ≢ []) (sym h.seen) some

      somebody_waits : (c : ℕ) → Holds rest ready kinds d i t k f me x → priorities i.front.events c ≢ []
          → waiting c f.events ≢ []
      somebody_waits c h some = λ none. some_listed c h some (priorities-nobody c f.events none)

      notes_notify : (c : ℕ) → Holds rest ready kinds d i t k f me x → IsMesa kinds.conditions kinds.mesa c
          → priorities i.front.events c ≢ [] → Notes rest ready (event_of_notification k (One c) x.state f) k f
      notes_notify c h mesa_c some =
          let legal = h.within.stands.legal in
          let here : IsMesa f.sizes.conditions f.sizes.mesa c =
          sized_here (λ n. IsMesa n.conditions n.mesa c) h mesa_c in
          let e = chosen-some c f.events (some_listed c h some) in
          subst (λ (w : ℕ). Notes rest ready (event.Notify k c w x.state) k f)
          (sym (chosen_place-is c f.events e.0 e.1)) (record {
            inside = h.within.is_inside;
            mine = refl;
            allowed = Allowed-notify f k c e.0 x.state legal h.within.is_inside here e.1;
            owes = Owes-notify rest ready f.events k c (place_of e.0) x.state;
            stays = turn-notify f k c (place_of e.0) x.state;
          })

      notes_broadcast : (c : ℕ) → Holds rest ready kinds d i t k f me x → IsMesa kinds.conditions kinds.mesa c
          → priorities i.front.events c ≢ [] → Notes rest ready (event_of_notification k (All c) x.state f) k f
      notes_broadcast c h mesa_c some =
          let legal = h.within.stands.legal in
          let here : IsMesa f.sizes.conditions f.sizes.mesa c =
          sized_here (λ n. IsMesa n.conditions n.mesa c) h mesa_c in
          record {
            inside = h.within.is_inside;
            mine = refl;
            allowed = Allowed-broadcast f k c x.state legal h.within.is_inside here (somebody_waits c h some);
            owes = Owes-broadcast rest ready f.events k c x.state;
            stays = turn-broadcast f k c x.state;
          }

      -- the place may notify
      pub notes_notification : (notification : Notification) → Holds rest ready kinds d i t k f me x
          → IsMesa kinds.conditions kinds.mesa (called_on notification)
          → priorities i.front.events (called_on notification) ≢ []
          → Notes rest ready (event_of_notification k notification x.state f) k f
      notes_notification (One c) h mesa_c some = notes_notify c h mesa_c some
      notes_notification (All c) h mesa_c some = notes_broadcast c h mesa_c some

      book_notified : (c : ℕ) (b : Contents) → Holds rest ready kinds d i t k f me x
          → priorities i.front.events c ≢ [] → IsOf b (after_notify (dataless f) k c (chosen c (dataless f).events))
          → IsOf b (dataless (with_event f (event_of_notification k (One c) x.state f)))
      book_notified c b h some o =
          let e = chosen-some c f.events (some_listed c h some) in
          subst (λ (w : ℕ). IsOf b (dataless (with_event f (event.Notify k c w x.state))))
          (sym (chosen_place-is c f.events e.0 e.1))
          (IsOf-notify b f k c e.0 x.state e.1 o)

      book_all_called : (c : ℕ) (b : Contents) → Holds rest ready kinds d i t k f me x
          → priorities i.front.events c ≢ [] → IsOf b (after_broadcast (dataless f) k c (waiting c (dataless f).events))
          → IsOf b (dataless (with_event f (event_of_notification k (All c) x.state f)))
      book_all_called c b h some o = IsOf-broadcast b f k c x.state (somebody_waits c h some) o

      -- the book in hand is then of the front
      pub book_follows : (notification : Notification) (b : Contents) → Holds rest ready kinds d i t k f me x
          → priorities i.front.events (called_on notification) ≢ []
          → IsOf b (after_notification (dataless f) k notification)
          → IsOf b (dataless (with_event f (event_of_notification k notification x.state f)))
      book_follows (One c) b h some o = book_notified c b h some o
      book_follows (All c) b h some o = book_all_called c b h some o

      -- and the place inside is as the call ensures
      pub noted : (notification : Notification) {z : PlaceId} {s : D} {me' : SeatState D} (is : is_alone me'.0 ≡ true)
          → Holds rest ready kinds d i t k f me x
          → Notes rest ready (event_of_notification k notification x.state f) k f → z ≡ t → s ≡ x.state
          → me' ≡ (alone k (with_event f (event_of_notification k notification x.state f)), (0, None) ∷ [])
          → Noted rest ready kinds d i notification (place_in z k (front_of me'.0 is) s)
      noted notification {z = z} {s = s} {me' = me'} is h n table same now =
          let e : Event D = event_of_notification k notification x.state f in
          let w = h.within in
          let sizes = sizes-with f f e (sizes_at kinds d.places) (Begins-refl f) w.sized in
          at_front (λ (g : History D). Noted rest ready kinds d i notification (place_in z k g s)) me' is
          k (with_event f e) ((0, None) ∷ []) now (record {
            of = record {
              of = table ∙ w.of;
              sized = sizes;
              stands = Stands-push e w.stands n.allowed n.owes;
              is_inside = n.stays;
            };
            place = ap (λ (v : PlaceIn D). v.place) h.seen;
            data_are = same ∙ ap (λ (v : PlaceIn D). v.state) h.seen;
            front =
                ap (λ (v : PlaceIn D). with_event v.front (event_of_notification v.place notification v.state v.front))
                h.seen;
          })
