-- The places that wait in a head's history, and the last cylinder, which stays the same.
use Rattle.std.proofs.Common.{◌≡◌, ◌==◌, ℕ, ◌+◌, ◌-◌, ◌≤◌, List, [], ◌∷◌, ◌++◌, length, Bool, true, false, cond}
use Rattle.std.proofs.Common.{Option, Some, refl, ap, sym, ◌∙◌, subst, arith, true≢false, append_assoc}
use Rattle.std.specs.Prelude.{All}
use Rattle.std.specs.List.{filter}
use Rattle.std.specs.Option.{option_map, unwrap_or}
use Rattle.std.proofs.lemmas.List.Elements.{All-nil, All-push, All-filter}
use Rattle.hoare_law.specs.declared.event.Event.{Event}
use Rattle.hoare_law.specs.declared.event.History.{History}
use Rattle.hoare_law.specs.declared.event.Event.TheVariants.{Admit, Wait, Signal, Pass, Leave, Resume, Back, Notify}
use Rattle.hoare_law.specs.declared.event.Event.TheVariants.{Broadcast, SignalTo}
use Rattle.hoare_law.specs.declared.turn.Turn.TheVariants.{Held}
use Rattle.hoare_law.specs.Events.{place_of, data_of, own, newest, latest_data, with_event, cut_to}
use Rattle.hoare_law.specs.Waiting.{waits_on}
use Rattle.hoare_law.specs.Turns.{turn}
use Rattle.hoare_law.specs.Legal.{Fits, IsLegal}
use Rattle.hoare_law.specs.Priorities.{priorities}
use Rattle.hoare_law.specs.Overtaking.{waiting_anywhere}
use Rattle.hoare_law.proofs.Events.{newest-push}
use Rattle.hoare_law.proofs.Filters.{HasLast, nothing, pushed, has_last, newest-some, All-at}
use Rattle.hoare_law.proofs.Held.{is_inside, waits_on-is}
use Rattle.hoare_law.proofs.Priorities.{length-priorities}
use Rattle.hoare_law.proofs.Entering.{turn-in}
use Rattle.hoare_law.proofs.Room.{waiting-anywhere, room_for_all}
use Rattle.sweep_schedulers.specs.Heads.{Disk}
use Rattle.sweep_schedulers.specs.Follows.{Leaves, refused, ended, nobody_waits, returned}
use Rattle.sweep_schedulers.specs.HeadHistories.{HasReached, IsToHandOn, released, other_disk, HandsOff, keeps, turns}
use Rattle.sweep_schedulers.specs.HeadHistories.{Signals, at_once, granted, head_procedures, IsHeadHistory, sweep_to}
use Rattle.sweep_schedulers.specs.HeadHistories.{priority_to}
use Rattle.sweep_schedulers.specs.Sweeps.{AtMost}
use Rattle.sweep_schedulers.proofs.Histories.{now, fits, continues, onward, is_still, priorities-still, resumed_last}

module _ {T : Type 0} where
  -- no event is a wait on both sweeps
  both_sweeps : (e : Event (Disk T)) → waits_on 0 e ≡ true → waits_on 1 e ≡ false
  both_sweeps e is = ap (waits_on 1) (waits_on-is 0 e is)

  two_sweeps : (xs : List (Event (Disk T)))
      → length (filter (waits_on 0) xs) + length (filter (waits_on 1) xs) ≤ length xs
  two_sweeps [] = omega arith
  two_sweeps (e ∷ xs) = by (waits_on 0 e) (waits_on 1 e) refl refl (two_sweeps xs)
    where
      by : (a b : Bool) → waits_on 0 e ≡ a → waits_on 1 e ≡ b
          → length (filter (waits_on 0) xs) + length (filter (waits_on 1) xs) ≤ length xs
          → length (cond a (e ∷ filter (waits_on 0) xs) (filter (waits_on 0) xs))
          + length (cond b (e ∷ filter (waits_on 1) xs) (filter (waits_on 1) xs))
          ≤ length (e ∷ xs)
      by true true is also few = absurd (true≢false (sym also ∙ both_sweeps e is))
      by true false is also few = omega (arith, few)
      by false true is also few = omega (arith, few)
      by false false is also few = omega (arith, few)

  -- while a place is inside, the other places alone wait
  few_held : (h : History (Disk T)) (k : ℕ) → IsLegal h → turn h.events ≡ Held k
      → AtMost (h.sizes.places - 1) (priorities h.events)
  few_held h k legal held =
      let room = room_for_all h k legal held in
      let fewer = two_sweeps (waiting_anywhere h.events) in
      let ups : length (priorities h.events 0) ≡ length (filter (waits_on 0) (waiting_anywhere h.events)) =
      length-priorities 0 h.events ∙ ap length (waiting-anywhere 0 h.events) in
      let downs : length (priorities h.events 1) ≡ length (filter (waits_on 1) (waiting_anywhere h.events)) =
      length-priorities 1 h.events ∙ ap length (waiting-anywhere 1 h.events) in
      omega (arith, room, fewer, ups, downs)

-- H is a history that only the procedures use
module _ {T : Type 0} (H : History (Disk T)) (used : IsHeadHistory H) where
  -- the event's disk has the last cylinder of the opening
  abbrev pub SameDisk : Event (Disk T) → Type 0
  SameDisk e = (data_of e).cylmax ≡ H.opening.cylmax

  own_same : (f : List (Event (Disk T))) (k : ℕ) (x : Event (Disk T)) → All SameDisk f → newest (own k f) ≡ Some x
      → SameDisk x
  own_same f k x all last =
      let r : (ys : List (Event (Disk T))) × (own k f ≡ ys ++ x ∷ []) = newest-some (own k f) x last in
      All-at SameDisk r.0 x [] (subst (All SameDisk) r.1 (All-filter (λ e. place_of e == k) SameDisk f all))

  latest_same : (f : List (Event (Disk T))) → All SameDisk f → (now H used f).cylmax ≡ H.opening.cylmax
  unfolding latest_data
  latest_same f all = by (has_last f)
    where
      of : Option (Event (Disk T)) → ℕ
      of o = (unwrap_or (option_map data_of o) H.opening).cylmax

      by : HasLast f → of (newest f) ≡ H.opening.cylmax
      by (nothing none) = ap (λ l. of (newest l)) none
      by (pushed g e ends) =
          ap (λ l. of (newest l)) ends ∙ ap of (newest-push g e)
          ∙ All-at SameDisk g e [] (subst (All SameDisk) ends all)

  reached_same : (f : List (Event (Disk T))) (k dest : ℕ) (a found : Disk T) → All SameDisk f
      → HasReached k dest f a found → found.cylmax ≡ H.opening.cylmax
  reached_same f k dest a found all r =
      own_same f k (Resume k (sweep_to dest a) found) all
      (resumed_last k (sweep_to dest a) (priority_to dest a) f a found r.resumed)

  -- so no request finds another disk
  pub no_other : (f : List (Event (Disk T))) (k dest : ℕ) (a found : Disk T) → All SameDisk f
      → HasReached k dest f a found → found.cylmax ≡ a.cylmax
  no_other f k dest a found all r =
      reached_same f k dest a found all r
      ∙ sym (All-at SameDisk r.resumed.earlier (Wait k (sweep_to dest a) (priority_to dest a) a)
      (Resume k (sweep_to dest a) found ∷ [])
      (subst (All SameDisk) r.resumed.is (All-filter (λ e. place_of e == k) SameDisk f all)))

  in_hand_same : (f : List (Event (Disk T))) (k : ℕ) (d : Disk T) → All SameDisk f → IsToHandOn k f d
      → d.cylmax ≡ H.opening.cylmax
  in_hand_same f k d all (released a drive entered busy is) =
      ap (λ (x : Disk T). x.cylmax) is ∙ own_same f k (Admit k a) all entered
  in_hand_same f k d all (other_disk dest a r apart) =
      reached_same f k dest a d all r

  handed_same : (f : List (Event (Disk T))) (d s : Disk T) (c : ℕ) → HandsOff f d c s → s.cylmax ≡ d.cylmax
  handed_same f d s c (keeps some to is) = ap (λ (x : Disk T). x.cylmax) is
  handed_same f d s c (turns none to is) = ap (λ (x : Disk T). x.cylmax) is

  signals_same : (f : List (Event (Disk T))) (k c : ℕ) (s : Disk T) → All SameDisk f → Signals k c f s
      → s.cylmax ≡ H.opening.cylmax
  signals_same f k c s all r =
      handed_same f r.disk s c r.hands_off ∙ in_hand_same f k r.disk all r.to_hand_on

  leaves_same : (f : List (Event (Disk T))) (k : ℕ) (s : Disk T) → All SameDisk f → Leaves head_procedures k f s
      → s.cylmax ≡ H.opening.cylmax
  leaves_same f k s all (refused entered) = own_same f k (Admit k s) all entered
  leaves_same f k s all (ended (at_once a dest entered is_in on is)) =
      ap (λ (x : Disk T). x.cylmax) is ∙ own_same f k (Admit k a) all entered
  leaves_same f k s all (ended (granted a found dest r same is_in is)) =
      ap (λ (x : Disk T). x.cylmax) is ∙ reached_same f k dest a found all r
  leaves_same f k s all (nobody_waits c r none) = signals_same f k c s all r
  leaves_same f k s all (returned last) = own_same f k (Back k s) all last

  event_same : (f later : List (Event (Disk T))) (e : Event (Disk T)) → H.events ≡ f ++ e ∷ later → All SameDisk f
      → SameDisk e
  event_same f later (Admit k s) is all =
      ap (λ (x : Disk T). x.cylmax) (used.stands.legal.each f later (Admit k s) is).fits.2 ∙ latest_same f all
  event_same f later (Resume k c s) is all =
      ap (λ (x : Disk T). x.cylmax) (used.stands.legal.each f later (Resume k c s) is).fits.1 ∙ latest_same f all
  event_same f later (Back k s) is all =
      ap (λ (x : Disk T). x.cylmax) (used.stands.legal.each f later (Back k s) is).fits.1 ∙ latest_same f all
  event_same f later (Wait k c p s) is all =
      own_same f k (Admit k s) all (continues H used f later (Wait k c p s) is).entered
  event_same f later (Leave k s) is all = leaves_same f k s all (continues H used f later (Leave k s) is)
  event_same f later (Signal k c w s) is all = signals_same f k c s all (continues H used f later (Signal k c w s) is)
  event_same f later (Pass k c w s) is all = signals_same f k c s all (continues H used f later (Pass k c w s) is)
  event_same f later (SignalTo k c w s) is all = absurd (continues H used f later (SignalTo k c w s) is)
  event_same f later (Notify k c w s) is all = absurd (continues H used f later (Notify k c w s) is)
  event_same f later (Broadcast k c s) is all = absurd (continues H used f later (Broadcast k c s) is)

  -- the last cylinder stays the same
  pub all_same : (f later : List (Event (Disk T))) → H.events ≡ f ++ later → All SameDisk f
  all_same f later is =
      onward H used (All SameDisk) (λ g more e at all. All-push SameDisk g e all (event_same g more e at all)) [] f
      later is (All-nil SameDisk)

  -- while a next event is to come, the other places alone wait
  pub few_next : (f later : List (Event (Disk T))) (e : Event (Disk T)) → H.events ≡ f ++ e ∷ later
      → AtMost (H.sizes.places - 1) (priorities f)
  unfolding with_event
  few_next f later e is = by e is (used.stands.legal.each f later e is).fits
    where
      legal : IsLegal (cut_to H f)
      legal = fits H used f (e ∷ later) is

      after : (x : Event (Disk T)) → H.events ≡ f ++ x ∷ later → is_inside x ≡ true → is_still x ≡ true
          → AtMost (H.sizes.places - 1) (priorities f)
      after x at inside still =
          subst (AtMost (H.sizes.places - 1)) (priorities-still H used f later x at still)
          (few_held (cut_to H (f ++ x ∷ [])) (place_of x)
          (fits H used (f ++ x ∷ []) later (at ∙ sym (append_assoc f (x ∷ []) later)))
          (turn-in (cut_to H f) (place_of x) x inside refl))

      by : (x : Event (Disk T)) → H.events ≡ f ++ x ∷ later → Fits (cut_to H f) x
          → AtMost (H.sizes.places - 1) (priorities f)
      by (Admit k s) at a = after (Admit k s) at refl refl
      by (Resume k c s) at a = after (Resume k c s) at refl refl
      by (Back k s) at a = after (Back k s) at refl refl
      by (Wait k c p s) at a = few_held (cut_to H f) k legal a
      by (Leave k s) at a = few_held (cut_to H f) k legal a
      by (Signal k c w s) at a = few_held (cut_to H f) k legal a.0
      by (Pass k c w s) at a = few_held (cut_to H f) k legal a.0
      by (SignalTo k c w s) at a = few_held (cut_to H f) k legal a.0
      by (Notify k c w s) at a = few_held (cut_to H f) k legal a.0
      by (Broadcast k c s) at a = few_held (cut_to H f) k legal a.0
