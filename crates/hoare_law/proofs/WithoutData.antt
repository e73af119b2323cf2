-- Which processes wait, which is chosen, whose turn it is and which places are outside don't depend on the data.
use Rattle.std.proofs.Common.{◌≡◌, ◌==◌, ◌&&◌, ◌||◌, not, ℕ, List, [], ◌∷◌, ◌++◌, map, Bool, true, false, cond, leb}
use Rattle.std.proofs.Common.{Option, Some, None, refl, ap, sym, ◌∙◌}
use Rattle.std.specs.Prelude.{◌↔◌}
use Rattle.std.specs.Option.{option_map}
use Rattle.std.specs.List.{find, filter}
use Rattle.std.proofs.lemmas.List.{map-append}
use Rattle.std.proofs.lemmas.List.Elements.{filter_agree}
use Rattle.std.proofs.lemmas.List.Folds.{list_all-map}
use Rattle.hoare_law.specs.declared.event.Event.{Event}
use Rattle.hoare_law.specs.declared.event.History.{History}
use Rattle.hoare_law.specs.declared.turn.Turn.TheVariants.{Owed}
use Rattle.hoare_law.specs.declared.event.Event.TheVariants.{Admit, Wait, Signal, Pass, Leave, Resume, Back, Notify}
use Rattle.hoare_law.specs.declared.event.Event.TheVariants.{Broadcast, SignalTo}
use Rattle.hoare_law.specs.Events.{place_of, own, newest, with_event}
use Rattle.hoare_law.specs.Waiting.{filter_by_later, waits_on, priority_of, condition_of, takes, concerns, is_last_act}
use Rattle.hoare_law.specs.Waiting.{is_untouched, waiting, is_least, chosen, wait_by, IsWaiting}
use Rattle.hoare_law.specs.Called.{join_splits, called_by, called}
use Rattle.hoare_law.specs.Turns.{After, stays, frees, hands, after, is_signal, urgent, turn, turn_of, turn_by}
use Rattle.hoare_law.specs.Turns.{turn_given_up, turn_after, is_out, outside}
use Rattle.hoare_law.specs.Priorities.{put_in, put_all, in_order, priorities}
use Rattle.hoare_law.specs.Internal.WithoutData.{without_data, all_without_data, dataless}
use Rattle.hoare_law.proofs.Turns.{filter-map}
use Rattle.hoare_law.proofs.Filters.{list_all-same, find-same}
use Rattle.hoare_law.proofs.Priorities.{waiting-wait_by, IsWaiting-by}
use Rattle.hoare_law.proofs.Sorted.{map-in_order, put_in-map}

-- maps and filters commute
newest-map : {X Y : Type 0} (f : X → Y) (xs : List X) → newest (map f xs) ≡ option_map f (newest xs)
newest-map f [] = refl
newest-map f (x ∷ []) = refl
newest-map f (x ∷ y ∷ xs) = newest-map f (y ∷ xs)

find-map : {X Y : Type 0} (f : X → Y) (p : Y → Bool) (xs : List X)
    → find p (map f xs) ≡ option_map f (find (λ x. p (f x)) xs)
find-map f p [] = refl
find-map f p (x ∷ xs) = by (p (f x)) (find-map f p xs)
  where
    by : (t : Bool) → find p (map f xs) ≡ option_map f (find (λ y. p (f y)) xs)
        → cond t (Some (f x)) (find p (map f xs)) ≡ option_map f (cond t (Some x) (find (λ y. p (f y)) xs))
    by true rest = refl
    by false rest = rest

filter_by_later-map : {X Y : Type 0} (f : X → Y) (test : Y → List Y → Bool) (kept : X → List X → Bool) (xs : List X)
    → ((x : X) (later : List X) → test (f x) (map f later) ≡ kept x later)
    → filter_by_later test (map f xs) ≡ map f (filter_by_later kept xs)
filter_by_later-map f test kept [] same = refl
filter_by_later-map f test kept (x ∷ xs) same =
    ap (λ b. cond b (f x ∷ filter_by_later test (map f xs)) (filter_by_later test (map f xs))) (same x xs)
    ∙ by (kept x xs)
    (filter_by_later-map f test kept xs same)
  where
    by : (t : Bool) → filter_by_later test (map f xs) ≡ map f (filter_by_later kept xs)
        → cond t (f x ∷ filter_by_later test (map f xs)) (filter_by_later test (map f xs))
        ≡ map f (cond t (x ∷ filter_by_later kept xs) (filter_by_later kept xs))
    by true rest = ap (λ l. f x ∷ l) rest
    by false rest = rest

-- what is made of each split, through maps
join_splits-map : {X Y Z W : Type 0} (f : X → Y) (g : Z → W) (made : List Y → Y → List Y → List W)
    (makes : List X → X → List X → List Z) (before xs : List X)
    → ((b : List X) (x : X) (later : List X) → made (map f b) (f x) (map f later) ≡ map g (makes b x later))
    → join_splits made (map f before) (map f xs) ≡ map g (join_splits makes before xs)
join_splits-map f g made makes before [] same = refl
join_splits-map f g made makes before (x ∷ xs) same =
    ap (λ l. l ++ join_splits made (map f before ++ f x ∷ []) (map f xs)) (same before x xs)
    ∙ ap (λ l. map g (makes before x xs) ++ l)
    (ap (λ b. join_splits made b (map f xs)) (sym (map-append f before (x ∷ [])))
    ∙ join_splits-map f g made makes (before ++ x ∷ []) xs same)
    ∙ sym (map-append g (makes before x xs) (join_splits makes (before ++ x ∷ []) xs))

map-map_same : {X Y Z : Type 0} (f : X → Y) (g : Y → Z) (k : X → Z) (xs : List X) → ((x : X) → g (f x) ≡ k x)
    → map g (map f xs) ≡ map k xs
map-map_same f g k [] same = refl
map-map_same f g k (x ∷ xs) same = rw (same x, map-map_same f g k xs same) refl

module _ {S : Type 0} where
  -- the parts of an event other than its data: its place, priority and condition, if it is a wait on c, and which
  -- places it takes from the waiters. Also if it is a signal, what it makes of the monitor, and if its place is outside
  -- after it
  abbrev SameParts : Event (Unit {0}) → Event S → Type 0
  SameParts d e =
      (place_of d ≡ place_of e) × (priority_of d ≡ priority_of e) × (condition_of d ≡ condition_of e)
      × ((c : ℕ) → waits_on c d ≡ waits_on c e) × ((c j : ℕ) → takes c j d ≡ takes c j e)
      × (is_signal d ≡ is_signal e) × (after d ≡ after e) × (is_out (Some d) ≡ is_out (Some e))

  -- an event without its data has the same parts
  same_parts : (e : Event S) → SameParts (without_data e) e
  same_parts (Admit k s) = (refl, refl, refl, λ c. refl, λ c j. refl, refl, refl, refl)
  same_parts (Wait k d p s) = (refl, refl, refl, λ c. refl, λ c j. refl, refl, refl, refl)
  same_parts (Signal k d w s) = (refl, refl, refl, λ c. refl, λ c j. refl, refl, refl, refl)
  same_parts (SignalTo k d w s) = (refl, refl, refl, λ c. refl, λ c j. refl, refl, refl, refl)
  same_parts (Pass k d w s) = (refl, refl, refl, λ c. refl, λ c j. refl, refl, refl, refl)
  same_parts (Leave k s) = (refl, refl, refl, λ c. refl, λ c j. refl, refl, refl, refl)
  same_parts (Resume k d s) = (refl, refl, refl, λ c. refl, λ c j. refl, refl, refl, refl)
  same_parts (Back k s) = (refl, refl, refl, λ c. refl, λ c j. refl, refl, refl, refl)
  same_parts (Notify k d w s) = (refl, refl, refl, λ c. refl, λ c j. refl, refl, refl, refl)
  same_parts (Broadcast k d s) = (refl, refl, refl, λ c. refl, λ c j. refl, refl, refl, refl)

  -- the place stays the same
  pub place_of-dataless : (e : Event S) → place_of (without_data e) ≡ place_of e
  place_of-dataless e = (same_parts e).0

  -- the priority stays the same
  pub priority_of-dataless : (e : Event S) → priority_of (without_data e) ≡ priority_of e
  priority_of-dataless e = (same_parts e).1

  concerns-dataless : (c j : ℕ) (e : Event S) → concerns c j (without_data e) ≡ concerns c j e
  concerns-dataless c j e = λ i. place_of-dataless e i == j || (same_parts e).4 c j i

  given_up-dataless : (us : List ℕ) (ws : List (Event S)) → turn_given_up us (all_without_data ws) ≡ turn_given_up us ws
  given_up-dataless [] [] = refl
  given_up-dataless [] (w ∷ ws) = λ i. Owed (place_of-dataless w i) ((same_parts w).2 i)
  given_up-dataless (u ∷ us) ws = refl

  turn_by-dataless : (e : Event S) (us : List ℕ) (ws : List (Event S))
      → turn_by (without_data e) us (all_without_data ws) ≡ turn_by e us ws
  turn_by-dataless e us ws =
      (λ i. turn_of ((same_parts e).6 i) (place_of-dataless e i) us (all_without_data ws)) ∙ by (after e)
    where
      by : (a : After) → turn_of a (place_of e) us (all_without_data ws) ≡ turn_of a (place_of e) us ws
      by stays = refl
      by frees = given_up-dataless us ws
      by (hands w c) = refl

  is_out-dataless : (o : Option (Event S)) → is_out (option_map without_data o) ≡ is_out o
  is_out-dataless None = refl
  is_out-dataless (Some e) = (same_parts e).7

  untouched-dataless : (c : ℕ) (e : Event S) (later : List (Event S))
      → is_untouched c (without_data e) (all_without_data later) ≡ is_untouched c e later
  untouched-dataless c e later =
      list_all-map (λ x. not (concerns c (place_of (without_data e)) x)) without_data later
      ∙ list_all-same _ (λ x. not (concerns c (place_of e) x)) later
      (λ x. ap not (ap (λ j. concerns c j (without_data x)) (place_of-dataless e) ∙ concerns-dataless c (place_of e) x))

  last_act-dataless : (e : Event S) (later : List (Event S))
      → is_last_act (without_data e) (all_without_data later) ≡ is_last_act e later
  last_act-dataless e later =
      list_all-map (λ x. not (place_of x == place_of (without_data e))) without_data later
      ∙ list_all-same _ (λ x. not (place_of x == place_of e)) later
      (λ x. ap not ((λ i. place_of-dataless x i == place_of-dataless e i)))

  -- the last event stays the same, without its data
  pub newest-dataless : (h : List (Event S)) → newest (all_without_data h) ≡ option_map without_data (newest h)
  newest-dataless h = newest-map without_data h

  -- the events of a place stay the same, without their data
  pub own-dataless : (k : ℕ) (h : List (Event S)) → own k (all_without_data h) ≡ all_without_data (own k h)
  own-dataless k h =
      filter-map without_data (λ e. place_of e == k) h
      ∙ ap (map without_data) (filter_agree _ (λ e. place_of e == k) (λ e. ap (λ j. j == k) (place_of-dataless e)) h)

  -- the same processes wait
  pub waiting-dataless : (c : ℕ) (h : List (Event S)) → waiting c (all_without_data h) ≡ all_without_data (waiting c h)
  unfolding waiting
  waiting-dataless c h =
      filter_by_later-map without_data _ (λ e later. waits_on c e && is_untouched c e later) h
      (λ e later i. (same_parts e).3 c i && untouched-dataless c e later i)

  -- the same signallers wait
  pub urgent-dataless : (h : List (Event S)) → urgent (all_without_data h) ≡ urgent h
  unfolding urgent
  urgent-dataless h =
      ap (map place_of)
      (filter_by_later-map without_data _ (λ e later. is_signal e && is_last_act e later) h
      (λ e later i. (same_parts e).5 i && last_act-dataless e later i))
      ∙ map-map_same without_data place_of place_of _ place_of-dataless

  put_in-dataless : (x : Event S) (xs : List (Event S))
      → put_in priority_of (without_data x) (all_without_data xs) ≡ all_without_data (put_in priority_of x xs)
  put_in-dataless x xs = put_in-map without_data priority_of x xs ∙ ap all_without_data (put_in-same xs)
    where
      put_in-same : (xs : List (Event S)) → put_in (λ y. priority_of (without_data y)) x xs ≡ put_in priority_of x xs
      put_in-same [] = refl
      put_in-same (y ∷ ys) =
          (λ i. cond (leb (priority_of-dataless y i) (priority_of-dataless x i)) (y ∷ put_in-same ys i) (x ∷ y ∷ ys))

  put_all-dataless : (placed xs : List (Event S))
      → put_all priority_of (all_without_data placed) (all_without_data xs)
      ≡ all_without_data (put_all priority_of placed xs)
  put_all-dataless placed [] = refl
  put_all-dataless placed (x ∷ xs) =
      ap (λ l. put_all priority_of l (all_without_data xs)) (put_in-dataless x placed)
      ∙ put_all-dataless (put_in priority_of x placed) xs

  -- the same processes in the same order
  pub in_order-dataless : (xs : List (Event S))
      → in_order priority_of (all_without_data xs) ≡ all_without_data (in_order priority_of xs)
  in_order-dataless xs = put_all-dataless [] xs

  -- each event notifies the same processes
  called_by-dataless : (f : List (Event S)) (e : Event S)
      → called_by (all_without_data f) (without_data e) ≡ all_without_data (called_by f e)
  called_by-dataless f (Notify k c w s) =
      ap (filter (λ x. place_of x == w)) (waiting-dataless c f)
      ∙ filter-map without_data (λ x. place_of x == w) (waiting c f)
      ∙ ap (map without_data)
      (filter_agree _ (λ x. place_of x == w) (λ x. ap (λ j. j == w) (place_of-dataless x)) (waiting c f))
  called_by-dataless f (Broadcast k c s) = ap (in_order priority_of) (waiting-dataless c f) ∙ in_order-dataless
      (waiting c f)
  called_by-dataless f (Admit k s) = refl
  called_by-dataless f (Wait k c p s) = refl
  called_by-dataless f (Signal k c w s) = refl
  called_by-dataless f (SignalTo k c w s) = refl
  called_by-dataless f (Pass k c w s) = refl
  called_by-dataless f (Leave k s) = refl
  called_by-dataless f (Resume k c s) = refl
  called_by-dataless f (Back k s) = refl

  -- the same processes are notified
  pub called-dataless : (h : List (Event S)) → called (all_without_data h) ≡ all_without_data (called h)
  unfolding called
  called-dataless h = join_splits-map without_data without_data
      (λ before e later. filter (λ x. is_last_act x later) (called_by before e))
      (λ before e later. filter (λ x. is_last_act x later) (called_by before e)) [] h
      (λ before e later.
      ap (filter (λ x. is_last_act x (all_without_data later))) (called_by-dataless before e)
      ∙ filter-map without_data (λ x. is_last_act x (all_without_data later)) (called_by before e)
      ∙ ap (map without_data)
      (filter_agree _ (λ x. is_last_act x later) (λ x. last_act-dataless x later) (called_by before e)))

  turn_after-dataless : (o : Option (Event S)) (us : List ℕ) (ws : List (Event S))
      → turn_after (option_map without_data o) us (all_without_data ws) ≡ turn_after o us ws
  turn_after-dataless None us ws = refl
  turn_after-dataless (Some e) us ws = turn_by-dataless e us ws

  -- the turn is the same
  pub turn-dataless : (h : List (Event S)) → turn (all_without_data h) ≡ turn h
  unfolding turn
  turn-dataless h =
      (λ i. turn_after (newest-dataless h i) (urgent-dataless h i) (called-dataless h i))
      ∙ turn_after-dataless (newest h) (urgent h) (called h)

  -- the same places are outside
  pub outside-dataless : (k : ℕ) (h : List (Event S)) → outside k (all_without_data h) ≡ outside k h
  unfolding outside
  outside-dataless k h =
      ap (λ l. is_out (newest l)) (own-dataless k h) ∙ ap is_out (newest-dataless (own k h))
      ∙ is_out-dataless (newest (own k h))

  least-dataless : (ws : List (Event S)) (e : Event S) → is_least (all_without_data ws) (without_data e) ≡ is_least ws e
  least-dataless ws e =
      list_all-map _ without_data ws
      ∙ list_all-same _ _ ws (λ x i. leb (priority_of-dataless e i) (priority_of-dataless x i))

  -- the same waiter is chosen
  pub chosen-dataless : (c : ℕ) (h : List (Event S))
      → chosen c (all_without_data h) ≡ option_map without_data (chosen c h)
  unfolding chosen
  chosen-dataless c h =
      ap (λ ws. find (is_least ws) ws) (waiting-dataless c h)
      ∙ find-map without_data (is_least (all_without_data (waiting c h))) (waiting c h)
      ∙ ap (option_map without_data) (find-same _ (is_least (waiting c h)) (waiting c h) (least-dataless (waiting c h)))

  -- the wait of a place is the same
  pub wait_by-dataless : (w c : ℕ) (h : List (Event S))
      → wait_by w c (all_without_data h) ≡ option_map without_data (wait_by w c h)
  unfolding wait_by
  wait_by-dataless w c h =
      ap (find (λ e. place_of e == w)) (waiting-dataless c h)
      ∙ find-map without_data (λ e. place_of e == w) (waiting c h)
      ∙ ap (option_map without_data)
      (find-same _ (λ e. place_of e == w) (waiting c h) (λ e. ap (λ k. k == w) (place_of-dataless e)))

  -- the same places wait
  pub waiting_place-dataless : (w c : ℕ) (h : List (Event S)) → IsWaiting c (all_without_data h) w ↔ IsWaiting c h w
  waiting_place-dataless w c h = (back, forth)
    where
      by : (o : Option (Event S)) → wait_by w c h ≡ o → (y : Event (Unit {0}))
          → option_map without_data (wait_by w c h) ≡ Some y → IsWaiting c h w
      by None none y some = let no : None ≡ Some y = sym (ap (option_map without_data) none) ∙ some in absurd (cc)
      by (Some x) found y some = IsWaiting-by c w h x found

      back : IsWaiting c (all_without_data h) w → IsWaiting c h w
      back is =
          let r = waiting-wait_by c w (all_without_data h) is in
          by (wait_by w c h) refl r.0 (sym (wait_by-dataless w c h) ∙ r.1)

      forth : IsWaiting c h w → IsWaiting c (all_without_data h) w
      forth is =
          let r = waiting-wait_by c w h is in
          IsWaiting-by c w (all_without_data h) (without_data r.0)
          (wait_by-dataless w c h ∙ ap (option_map without_data) r.1)

  priorities_at : (h : List (Event S)) (c : ℕ) → priorities (all_without_data h) c ≡ priorities h c
  unfolding priorities
  priorities_at h c =
      ap (λ ws. map priority_of (in_order priority_of ws)) (waiting-dataless c h)
      ∙ map-in_order priority_of (all_without_data (waiting c h))
      ∙ ap (in_order (λ n. n)) (map-map_same without_data priority_of priority_of (waiting c h) priority_of-dataless)
      ∙ sym (map-in_order priority_of (waiting c h))

  -- the waiting priorities are the same
  pub priorities-dataless : (h : List (Event S)) → priorities (all_without_data h) ≡ priorities h
  priorities-dataless h = λ i c. priorities_at h c i

  -- a history with one more event
  pub dataless-push : (h : History S) (e : Event S) → dataless (with_event h e) ≡ with_event (dataless h)
      (without_data e)
  unfolding with_event
  dataless-push h e =
      ap (λ l. record { sizes = h.sizes; opening = tt; events = l }) (map-append without_data h.events (e ∷ []))
