-- While a request waits, a head's history is a run of the model: what each event does to the model's disk and lists.
use Rattle.std.proofs.Common.{◌≡◌, ◌≢◌, ◌==◌, ◌||◌, not, ℕ, zero, suc, ◌+◌, ◌-◌, ◌<◌, ◌≤◌, List, [], ◌∷◌, ◌++◌, length}
use Rattle.std.proofs.Common.{map, Bool, true, false, cond, leb, Option, Some, None, refl, ap, sym, ◌∙◌, subst, arith}
use Rattle.std.proofs.Common.{eq-eqb, eqb-true, ne_eqb, true≢false, append_assoc}
use Rattle.std.specs.Prelude.{All, IsSome, slice_index}
use Rattle.std.specs.List.{filter}
use Rattle.std.proofs.lemmas.Bool.{not-true}
use Rattle.std.proofs.lemmas.Bool.Decides.{nat_tests}
use Rattle.std.proofs.lemmas.List.{append-nil}
use Rattle.std.proofs.lemmas.List.Elements.{All-cons, All-head, All-tail}
use Rattle.hoare_law.specs.declared.event.Event.{Event}
use Rattle.hoare_law.specs.declared.event.History.{History}
use Rattle.hoare_law.specs.declared.event.Event.TheVariants.{Admit, Wait, Signal, Pass, Leave, Resume, Back, Notify}
use Rattle.hoare_law.specs.declared.event.Event.TheVariants.{Broadcast, SignalTo}
use Rattle.hoare_law.specs.declared.turn.Turn.TheVariants.{Held}
use Rattle.hoare_law.specs.Events.{place_of, own, newest}
use Rattle.hoare_law.specs.Waiting.{priority_of, concerns, is_untouched, waiting, chosen, Chooses}
use Rattle.hoare_law.specs.Turns.{turn}
use Rattle.hoare_law.specs.Lawful.{Owes}
use Rattle.hoare_law.specs.Priorities.{priorities, put_in, in_order, joined, taken, behind_first}
use Rattle.hoare_law.proofs.Tests.{both_true}
use Rattle.hoare_law.proofs.Events.{own-push}
use Rattle.hoare_law.proofs.Held.{Hand, by_pass, by_signal, handing, place_of-handing, data_of-handing}
use Rattle.hoare_law.proofs.Held.{waits_on-handing, concerns-handing, waiting-held}
use Rattle.hoare_law.proofs.Priorities.{in_turn, in_turn-wait, in_turn-takes, in_turn-chosen, priorities-wait}
use Rattle.hoare_law.proofs.Priorities.{priorities-handing, slice_index-chosen, Chooses-chosen, waiting-no_priority}
use Rattle.hoare_law.proofs.Priorities.{priorities-nobody}
use Rattle.hoare_law.proofs.Resuming.{chosen_among}
use Rattle.hoare_law.proofs.Waiters.{chosen-waits}
use Rattle.sweep_schedulers.specs.declared.direction.Direction.{Direction}
use Rattle.sweep_schedulers.specs.declared.direction.Direction.TheVariants.{Up, Down}
use Rattle.sweep_schedulers.specs.Heads.{Disk, HeadRests, HeadReady, sweep, opposite, turned, put, sent, counted}
use Rattle.sweep_schedulers.specs.Heads.{toward}
use Rattle.sweep_schedulers.specs.Heads.{priority_at, cylinder_of}
use Rattle.sweep_schedulers.specs.Follows.{Leaves, refused, ended, nobody_waits, returned}
use Rattle.sweep_schedulers.specs.HeadHistories.{IsToHandOn, released, other_disk, HandsOff, Signals, at_once, granted}
use Rattle.sweep_schedulers.specs.HeadHistories.{head_procedures, IsHeadHistory, counted_at, sweep_to, priority_to}
use Rattle.sweep_schedulers.specs.HeadHistories.{hands_drive, hand_offs, Waits}
use Rattle.sweep_schedulers.specs.HeadHistories as head_histories
use Rattle.sweep_schedulers.specs.Sweeps.{AtMost, first, granted_first, KeepsOrTurns, keeps, turns, IsPassed, by_equal}
use Rattle.sweep_schedulers.specs.Sweeps.{by_other, Awaits, none, joins, grants}
use Rattle.sweep_schedulers.proofs.Lists.{count_by-cons}
use Rattle.sweep_schedulers.proofs.Sweeps.{granted_by}
use Rattle.sweep_schedulers.proofs.Taken.{equals, same_sweep, is_sweep}
use Rattle.sweep_schedulers.proofs.Histories as histories
use Rattle.sweep_schedulers.proofs.HeadRuns.{no_other, few_next, all_same}

some_append : {X : Type 0} (us : List X) (x : X) (vs : List X) → us ++ x ∷ vs ≢ []
some_append [] x vs is = cc
some_append (u ∷ us) x vs is = cc

sweep_one : (a b : Direction) → sweep a ≡ sweep b → a ≡ b
sweep_one Up Up is = refl
sweep_one Up Down is = absurd (cc)
sweep_one Down Up is = absurd (cc)
sweep_one Down Down is = refl

cylinder_back : (cylmax dest : ℕ) (dir : Direction) → dest ≤ cylmax
    → cylinder_of cylmax dir (priority_at cylmax dir dest) ≡ dest
cylinder_back cylmax dest Up on = refl
cylinder_back cylmax dest Down on = omega (arith, on)

module _ {T : Type 0} where
  busy_by : (dir : Direction) (d : Disk T) (q : ℕ → List ℕ) → HeadRests d (q 0) (q 1) → q (sweep dir) ≢ []
      → d.drive ≡ None
  busy_by Up d q r some = r.up_busy some
  busy_by Down d q r some = r.down_busy some

  not_both : (o : Option T) → o ≡ None → IsSome o → ⊥
  not_both None out is_in = cc
  not_both (Some drive) out is_in = cc

  drive_in : (c n : ℕ) (d : Disk T) (ups downs : List ℕ) → HeadReady c n d ups downs → IsSome d.drive
  drive_in zero n d ups downs r = r.free.is_in
  drive_in (suc c) n d ups downs r = r.free.is_in

  -- rest holds once the head is at the cylinder of the request that resumes
  HeadRests-sent : (s : Disk T) (c p : ℕ) (ups downs : List ℕ) → HeadReady c p s ups downs → c ≡ sweep s.direction
      → HeadRests (counted (sent s (cylinder_of s.cylmax s.direction p)) ups downs) ups downs
  HeadRests-sent s c p ups downs ready to =
      by s.direction (subst (λ (n : ℕ). HeadReady n p s ups downs) to ready)
    where
      by : (dir : Direction) → HeadReady (sweep dir) p s ups downs
          → HeadRests (counted (sent s (cylinder_of s.cylmax dir p)) ups downs) ups downs
      by Up r = granted_by s ups downs Up p s.cylmax r.on_disk refl r
      by Down r =
          let back : p ≡ s.cylmax - (s.cylmax - p) = omega (arith, r.on_disk) in
          granted_by s ups downs Down (s.cylmax - p) s.cylmax (omega arith) refl
          (subst (λ (n : ℕ). HeadReady 1 n s ups downs) back r)

  -- a wait is put in before x only if its priority is smaller
  put_in_beside : (w x : Event (Disk T)) (before behind : List (Event (Disk T))) (p : ℕ) → priority_of x ≡ p
      → All (λ y. priority_of y ≤ p) before
      → (us ts : List (Event (Disk T))) × (put_in priority_of w (before ++ x ∷ behind) ≡ us ++ x ∷ ts)
      × All (λ y. priority_of y ≤ p) us × (equals p (map priority_of us) ≡ equals p (map priority_of before))
  put_in_beside w x [] behind p is low = by (leb (priority_of x) (priority_of w)) refl
    where
      by : (t : Bool) → leb (priority_of x) (priority_of w) ≡ t
          → (us ts : List (Event (Disk T))) × (cond t (x ∷ put_in priority_of w behind) (w ∷ x ∷ behind) ≡ us ++ x ∷ ts)
          × All (λ y. priority_of y ≤ p) us × (equals p (map priority_of us) ≡ equals p [])
      by true e = ([], put_in priority_of w behind, refl, low, refl)
      by false e =
          let less : priority_of w < p = grind (arith, nat_tests) in
          let fails : (priority_of w == p) ≡ false = grind (arith, nat_tests) in (
            w ∷ [],
            behind,
            refl,
            All-cons (λ y. priority_of y ≤ p) w [] (omega (arith, less)) low,
            count_by-cons (λ s. s == p) (priority_of w) [] ∙ (rw fails refl),
          )
  put_in_beside w x (b ∷ before) behind p is low =
      by (leb (priority_of b) (priority_of w)) refl
      (put_in_beside w x before behind p is (All-tail (λ y. priority_of y ≤ p) b before low))
    where
      by : (t : Bool) → leb (priority_of b) (priority_of w) ≡ t
          → ((us ts : List (Event (Disk T))) × (put_in priority_of w (before ++ x ∷ behind) ≡ us ++ x ∷ ts)
          × All (λ y. priority_of y ≤ p) us × (equals p (map priority_of us) ≡ equals p (map priority_of before)))
          → (us ts : List (Event (Disk T)))
          × (cond t (b ∷ put_in priority_of w (before ++ x ∷ behind)) (w ∷ b ∷ (before ++ x ∷ behind)) ≡ us ++ x ∷ ts)
          × All (λ y. priority_of y ≤ p) us
          × (equals p (map priority_of us) ≡ equals p (map priority_of (b ∷ before)))
      by true e r = (
        b ∷ r.0,
        r.1,
        ap (λ l. b ∷ l) r.2,
        All-cons (λ y. priority_of y ≤ p) b r.0 (All-head (λ y. priority_of y ≤ p) b before low) r.3,
        count_by-cons (λ s. s == p) (priority_of b) (map priority_of r.0)
            ∙ ap (λ n. cond (priority_of b == p) 1 0 + n) r.4
            ∙ sym (count_by-cons (λ s. s == p) (priority_of b) (map priority_of before)),
      )
      by false e r =
          let few : priority_of b ≤ p = All-head (λ y. priority_of y ≤ p) b before low in
          let less : priority_of w < p = grind (arith, nat_tests) in
          let fails : (priority_of w == p) ≡ false = grind (arith, nat_tests) in (
            w ∷ b ∷ before,
            behind,
            refl,
            All-cons (λ y. priority_of y ≤ p) w (b ∷ before) (omega (arith, less)) low,
            omega (
              arith,
              count_by-cons (λ s. s == p) (priority_of w) (map priority_of (b ∷ before))
                  ∙ ap (λ t. cond t 1 0 + equals p (map priority_of (b ∷ before))) fails,
            ),
          )

-- x waits for the sweep in the direction side with priority p, and H is a history of the procedures
module _ {T : Type 0} (H : History (Disk T)) (used : IsHeadHistory H) (x : Event (Disk T)) (side : Direction) (p : ℕ)
    (with : priority_of x ≡ p) where
  abbrev Waiters : Type 0
  Waiters = ℕ → List (Event (Disk T))

  -- among these waiters x waits, after k others of its priority
  pub record InTurn (l : List (Event (Disk T))) (k : ℕ) : Type 0 where
    pub before : List (Event (Disk T))
    pub behind : List (Event (Disk T))
    pub is : l ≡ before ++ x ∷ behind
    pub low : All (λ y. priority_of y ≤ p) before
    pub earlier : equals p (map priority_of before) ≡ k

  -- the model's disk is at rest with these waiters, among which x waits, after as many as the model says
  pub record Holds (q : Waiters) (m : Disk T × ℕ) : Type 0 where
    pub rests : HeadRests m.0 (map priority_of (q 0)) (map priority_of (q 1))
    pub waits : InTurn (q (sweep side)) m.1

  -- the disk that a request with priority n leaves, if it resumes and finds s
  abbrev sent_to : Disk T → ℕ → Waiters → Disk T
  sent_to s n q =
      counted (sent s (cylinder_of s.cylmax s.direction n)) (map priority_of (q 0)) (map priority_of (q 1))

  -- the model's disk is the data at rest; or, while the drive is handed off, the disk that the resumed request leaves
  abbrev pub AtRest : Disk T → Waiters → Disk T × ℕ → Type 0
  AtRest s q m = (s ≡ m.0) × Holds q m

  abbrev pub Comes : (w c n : ℕ) → Disk T → Waiters → Disk T × ℕ → Type 0
  Comes w c n s q m = (c ≡ sweep s.direction) × (sent_to s n q ≡ m.0) × Holds q m

  abbrev pub Now : List (Event (Disk T)) → Disk T → ℕ → Type 0
  Now f d k = histories.Now H used AtRest Comes f (d, k)

  abbrev now : List (Event (Disk T)) → Disk T
  now f = histories.now H used f

  waits_there : (f : List (Event (Disk T))) (k : ℕ) → InTurn (in_turn f (sweep side)) k → waiting (sweep side) f ≢ []
  waits_there f k t empty =
      some_append t.before x t.behind (sym t.is ∙ ap (in_order priority_of) empty)

  pub busy_now : (f : List (Event (Disk T))) (d : Disk T) (k : ℕ) → InTurn (in_turn f (sweep side)) k
      → HeadRests d (priorities f 0) (priorities f 1) → d.drive ≡ None
  busy_now f d k t rests =
      busy_by side d (priorities f) rests (λ empty. waits_there f k t (waiting-no_priority (sweep side) f empty))

  -- the model's state at first
  pub begins_at : (f later : List (Event (Disk T))) (k : ℕ) → H.events ≡ f ++ later
      → HeadRests (now f) (priorities f 0) (priorities f 1) → InTurn (in_turn f (sweep side)) k → Now f (now f) k
  unfolding priorities
  begins_at f later k is rests waits = record {
    settled = λ calm. (refl, record { rests = rests; waits = waits });
    coming = λ w c n a come. absurd (not_both (now f).drive (busy_now f (now f) k waits rests)
        (drive_in c n (now f) (priorities f 0) (priorities f 1)
        (histories.ready_coming H used f later is w c n a come)));
  }

  -- a request waits where the drive is handed off
  handed_some : (f : List (Event (Disk T))) (k c : ℕ) (d s : Disk T) → InTurn (in_turn f (sweep side)) k
      → HandsOff f d c s → waiting c f ≡ [] → ⊥
  handed_some f k c d s t (head_histories.keeps some to is) empty =
      some (subst (λ (n : ℕ). waiting n f ≡ []) to empty)
  handed_some f k c d s t (head_histories.turns here to is) empty =
      waits_there f k t (by d.direction side here (subst (λ (n : ℕ). waiting n f ≡ []) to empty))
    where
      by : (dir own : Direction) → waiting (sweep dir) f ≡ [] → waiting (sweep (opposite dir)) f ≡ []
          → waiting (sweep own) f ≡ []
      by Up Up here other = here
      by Up Down here other = other
      by Down Up here other = other
      by Down Down here other = here

  -- what an event does to the model
  data Step (f : List (Event (Disk T))) (e : Event (Disk T)) (d : Disk T) (k : ℕ) : Type 0 where
    quiet : priorities (f ++ e ∷ []) ≡ priorities f → hands_drive e ≡ false → Now (f ++ e ∷ []) d k → Step f e d k
    joining : (c q : ℕ) → priorities (f ++ e ∷ []) ≡ joined (priorities f) c q → hands_drive e ≡ false
        → HeadRests d (priorities (f ++ e ∷ []) 0) (priorities (f ++ e ∷ []) 1) → Now (f ++ e ∷ []) d k → Step f e d k
    granting : (a : Disk T) (j : ℕ) (drive : T) → KeepsOrTurns d (priorities f) a
        → IsPassed side p a.direction (first a.direction (priorities f)) k j
        → priorities (f ++ e ∷ []) ≡ taken (priorities f) (sweep a.direction) → hands_drive e ≡ true
        → HeadRests (granted_first a drive (priorities f)) (priorities (f ++ e ∷ []) 0) (priorities (f ++ e ∷ []) 1)
        → Now (f ++ e ∷ []) (granted_first a drive (priorities f)) j → Step f e d k

  -- the place inside leaves: it returned, or was refused, or has the drive that it was handed
  step_leave : (f later : List (Event (Disk T))) (j : ℕ) (s : Disk T) (d : Disk T) (k : ℕ)
      → H.events ≡ f ++ Leave j s ∷ later → Now f d k → Step f (Leave j s) d k
  unfolding priorities
  step_leave f later j s d k is n =
      quiet (histories.priorities-still H used f later (Leave j s) is refl) refl
      (histories.Now-leave H used f later j s (d, k) is (by (histories.continues H used f later (Leave j s) is)))
    where
      held : turn f ≡ Held j
      held = (used.stands.legal.each f later (Leave j s) is).fits

      in_hand : (disk : Disk T) → IsToHandOn j f disk → InTurn (in_turn f (sweep side)) k
      in_hand disk (released a drive mine busy to) = (histories.Now-entered H used f j a (d, k) held mine n).1.1.waits
      in_hand disk (other_disk dest a r differs) =
          (histories.Now-resumed H used f j (sweep_to dest a) (priority_to dest a) a disk (d, k) held r.resumed
          n).1.2.waits

      by : Leaves head_procedures j f s → AtRest s (in_turn f) (d, k)
      by (refused mine) = (histories.Now-entered H used f j s (d, k) held mine n).1
      by (returned mine) = (histories.Now-returned H used f j s (d, k) held mine n).1
      by (nobody_waits c r empty) =
          absurd (handed_some f k c r.disk s (in_hand r.disk r.to_hand_on) r.hands_off empty)
      by (ended (at_once a dest mine is_in on to)) =
          let r = (histories.Now-entered H used f j a (d, k) held mine n).1 in
          absurd (not_both a.drive
          (ap (λ (y : Disk T). y.drive) r.0 ∙ busy_now f d k r.1.waits r.1.rests) is_in)
      by (ended (granted b y dest r same is_in gives)) =
          let c = (histories.Now-resumed H used f j (sweep_to dest b) (priority_to dest b) b y (d, k) held r.resumed
          n).1 in
          let way : y.direction ≡ toward dest b = sweep_one _ _ (sym c.0) in
          let there : cylinder_of y.cylmax y.direction (priority_to dest b) ≡ dest =
          (λ i. cylinder_of (same i) (way i) (priority_to dest b)) ∙ cylinder_back b.cylmax dest (toward dest b) r.on in
          (gives ∙ (λ i. counted_at f (sent y (sym there i))) ∙ c.1, c.2)

  -- the place inside waits: its request joins
  step_wait : (f later : List (Event (Disk T))) (j c q : ℕ) (s : Disk T) (d : Disk T) (k : ℕ)
      → H.events ≡ f ++ Wait j c q s ∷ later → Now f d k → Step f (Wait j c q s) d k
  unfolding Owes priorities
  step_wait f later j c q s d k is n =
      joining c q (priorities-wait f j c q s held) refl rests
      (histories.Now-wait H used f later j c q s (d, k) is (
        r.0,
        record {
          rests = rests;
          waits = by (sweep side == c) (in_turn-wait f j c q (sweep side) s held);
        },
      ))
    where
      e : Event (Disk T)
      e = Wait j c q s

      held : turn f ≡ Held j
      held = (used.stands.legal.each f later e is).fits

      mine : Waits j c q f s
      mine = histories.continues H used f later e is

      r : AtRest s (in_turn f) (d, k)
      r = (histories.Now-entered H used f j s (d, k) held mine.entered n).1

      rests : HeadRests d (priorities (f ++ e ∷ []) 0) (priorities (f ++ e ∷ []) 1)
      rests = subst (λ (y : Disk T). HeadRests y (priorities (f ++ e ∷ []) 0) (priorities (f ++ e ∷ []) 1)) r.0
          (used.stands.lawful.each f later e is)

      by : (t : Bool)
          → in_turn (f ++ e ∷ []) (sweep side) ≡ cond t (put_in priority_of e (in_turn f (sweep side)))
          (in_turn f (sweep side))
          → InTurn (in_turn (f ++ e ∷ []) (sweep side)) k
      by true at =
          let b = put_in_beside e x r.1.waits.before r.1.waits.behind p with r.1.waits.low in record {
            before = b.0;
            behind = b.1;
            is = at ∙ ap (put_in priority_of e) r.1.waits.is ∙ b.2;
            low = b.3;
            earlier = b.4 ∙ r.1.waits.earlier;
          }
      by false at = record {
        before = r.1.waits.before;
        behind = r.1.waits.behind;
        is = at ∙ r.1.waits.is;
        low = r.1.waits.low;
        earlier = r.1.waits.earlier;
      }

  -- of the waiters in turn, the chosen one is taken: x waits further, after one less if that one had its priority
  passes : (f : List (Event (Disk T))) (e y : Event (Disk T)) (dir : Direction) (k : ℕ)
      → InTurn (in_turn f (sweep side)) k
      → chosen (sweep dir) f ≡ Some y → place_of y ≢ place_of x
      → in_turn (f ++ e ∷ []) (sweep side) ≡ cond (sweep side == sweep dir) (behind_first (in_turn f (sweep side)))
      (in_turn f (sweep side))
      → (j : ℕ) × InTurn (in_turn (f ++ e ∷ []) (sweep side)) j × IsPassed side p dir (priority_of y) k j
  passes f e y dir k t is apart at = by (sweep side == sweep dir) refl at
    where
      taken_by : (before : List (Event (Disk T))) → in_turn f (sweep side) ≡ before ++ x ∷ t.behind
          → All (λ z. priority_of z ≤ p) before → equals p (map priority_of before) ≡ k
          → in_turn f (sweep side) ≡ y ∷ behind_first (in_turn f (sweep side)) → dir ≡ side
          → in_turn (f ++ e ∷ []) (sweep side) ≡ behind_first (in_turn f (sweep side))
          → (j : ℕ) × InTurn (in_turn (f ++ e ∷ []) (sweep side)) j × IsPassed side p dir (priority_of y) k j
      taken_by [] split low count first_is same gone =
          let both : y ∷ behind_first (in_turn f (sweep side)) ≡ x ∷ t.behind = sym first_is ∙ split in
          let one : y ≡ x = cc in absurd (apart (ap place_of one))
      taken_by (b ∷ before) split low count first_is same gone =
          let both : y ∷ behind_first (in_turn f (sweep side)) ≡ b ∷ (before ++ x ∷ t.behind) = sym first_is ∙ split in
          let one : b ≡ y = cc in
          let less = All-tail (λ z. priority_of z ≤ p) b before low in
          let left : in_turn (f ++ e ∷ []) (sweep side) ≡ before ++ x ∷ t.behind = gone ∙ ap behind_first split in
          let more = count_by-cons (λ s. s == p) (priority_of b) (map priority_of before) in
          counted_by (priority_of b == p) refl one less left (sym more ∙ count)
        where
          counted_by : (v : Bool) → (priority_of b == p) ≡ v → b ≡ y → All (λ z. priority_of z ≤ p) before
              → in_turn (f ++ e ∷ []) (sweep side) ≡ before ++ x ∷ t.behind
              → cond (priority_of b == p) 1 0 + equals p (map priority_of before) ≡ k
              → (j : ℕ) × InTurn (in_turn (f ++ e ∷ []) (sweep side)) j × IsPassed side p dir (priority_of y) k j
          counted_by true v one less left sum =
              let j : ℕ = equals p (map priority_of before) in
              let one_more : cond true 1 0 + j ≡ k = (rw v at sum) in
              let total : suc j ≡ k = omega (arith, one_more) in (
                j,
                record { before = before; behind = t.behind; is = left; low = less; earlier = refl },
                subst (λ (i : ℕ). IsPassed side p dir (priority_of y) i j) total
                    (by_equal j same (ap priority_of (sym one) ∙ eqb-true (priority_of b) p v)),
              )
          counted_by false v one less left sum =
              let none_more : cond false 1 0 + equals p (map priority_of before) ≡ k = (rw v at sum) in
              let total : equals p (map priority_of before) ≡ k = omega (arith, none_more) in (
                k,
                record { before = before; behind = t.behind; is = left; low = less; earlier = total },
                by_other k (λ way same_priority. true≢false
                    (sym (eq-eqb (priority_of b) p (ap priority_of one ∙ same_priority)) ∙ v)),
              )

      by : (v : Bool) → (sweep side == sweep dir) ≡ v
          → in_turn (f ++ e ∷ []) (sweep side) ≡ cond v (behind_first (in_turn f (sweep side)))
          (in_turn f (sweep side))
          → (j : ℕ) × InTurn (in_turn (f ++ e ∷ []) (sweep side)) j × IsPassed side p dir (priority_of y) k j
      by true same gone =
          let way : side ≡ dir = same_sweep side dir same in
          let first_is : in_turn f (sweep dir) ≡ y ∷ behind_first (in_turn f (sweep dir)) =
          in_turn-chosen (sweep dir) f y is in
          taken_by t.before t.is t.low t.earlier
          (subst (λ (v : Direction). in_turn f (sweep v) ≡ y ∷ behind_first (in_turn f (sweep v))) (sym way) first_is)
          (sym way) gone
      by false other kept = (
        k,
        record { before = t.before; behind = t.behind; is = kept ∙ t.is; low = t.low; earlier = t.earlier },
        by_other k (λ way same_priority. true≢false (sym (is_sweep side dir (sym way)) ∙ other)),
      )

  -- the place inside hands the drive off to w: it is granted to the first request of the sweep
  step_hand : (out : Hand) (f later : List (Event (Disk T))) (j c w : ℕ) (s : Disk T) (d : Disk T) (k : ℕ)
      → H.events ≡ f ++ handing out j c w s ∷ later → turn f ≡ Held j → Chooses c f w → place_of x ≢ w
      → hands_drive (handing out j c w s) ≡ true → Signals j c f s → Now f d k → Step f (handing out j c w s) d k
  unfolding priorities
  step_hand out f later j c w s d k is held chooses apart hand r n = by r.disk r.to_hand_on r.hands_off
    where
      e : Event (Disk T)
      e = handing out j c w s

      g : List (Event (Disk T))
      g = f ++ e ∷ []

      whole : H.events ≡ g ++ later
      whole = is ∙ sym (append_assoc f (e ∷ []) later)

      left : now g ≡ s
      left = histories.now-push H used f e ∙ data_of-handing out j c w s

      lists : priorities g ≡ taken (priorities f) c
      lists = priorities-handing out f j c w s held chooses

      chosen_one : (y : Event (Disk T)) × (chosen c f ≡ Some y) × (place_of y ≡ w)
      chosen_one = Chooses-chosen c w f chooses

      other : j ≢ w
      other same =
          let passes_it : not (j == place_of chosen_one.0) ≡ true =
          chosen_among c f chosen_one.0 (λ z. not (j == place_of z)) chosen_one.1 (waiting-held f j c held) in
          true≢false (sym (eq-eqb j (place_of chosen_one.0) (same ∙ sym chosen_one.2)) ∙ not-true _ passes_it)

      same_own : newest (own w g) ≡ newest (own w f)
      same_own =
          ap newest (own-push w f e
          ∙ ap (λ b. own w f ++ cond b (e ∷ []) [])
          (ne_eqb (place_of e) w (λ at. other (sym (place_of-handing out j c w s) ∙ at))) ∙ append-nil (own w f))

      -- the request that resumes is the chosen one
      by_first : (q : ℕ) (a : Disk T) → histories.Coming H used g w c q a → priority_of chosen_one.0 ≡ q
      by_first q a come =
          let waits = chosen-waits c f chosen_one.0 chosen_one.1 in
          let both : Some chosen_one.0 ≡ Some (Wait w c q a) =
          sym waits.last ∙ ap (λ i. newest (own i f)) chosen_one.2 ∙ sym same_own
          ∙ histories.handed_waits H used out f j c w s q a come in
          let one : chosen_one.0 ≡ Wait w c q a = cc in ap priority_of one

      grant : (a : Disk T) (drive : T) → InTurn (in_turn f (sweep side)) k → KeepsOrTurns d (priorities f) a
          → c ≡ sweep a.direction → s ≡ counted_at f (put a drive) → Step f e d k
      grant a drive in_turn_now turned_or_kept to gives =
          let found : now g ≡ counted_at f (put a drive) = left ∙ gives in
          let first_one : first a.direction (priorities f) ≡ priority_of chosen_one.0 =
          subst (λ (b : ℕ). slice_index (priorities f b) 0 ≡ priority_of chosen_one.0) to
          (slice_index-chosen c f chosen_one.0 chosen_one.1) in
          let on : c ≡ sweep (now g).direction = to ∙ ap (λ (y : Disk T). sweep y.direction) (sym found) in
          let left_lists : priorities g ≡ taken (priorities f) (sweep a.direction) =
          lists ∙ ap (taken (priorities f)) to in
          let gone : in_turn g (sweep side) ≡ cond (sweep side == c) (behind_first (in_turn f (sweep side)))
          (in_turn f (sweep side)) =
          in_turn-takes f e j c w (sweep side) (waits_on-handing out (sweep side) j c w s)
          (λ i. concerns-handing out (sweep side) i j c w s) held chooses in
          let passed = passes f e chosen_one.0 a.direction k in_turn_now
          (subst (λ (b : ℕ). chosen b f ≡ Some chosen_one.0) to chosen_one.1)
          (λ same. apart (sym same ∙ chosen_one.2))
          (subst (λ (b : ℕ). in_turn g (sweep side) ≡ cond (sweep side == b) (behind_first (in_turn f (sweep side)))
          (in_turn f (sweep side))) to gone) in
          let model : (q : ℕ) (b : Disk T) → histories.Coming H used g w c q b
          → sent_to (now g) q (in_turn g) ≡ granted_first a drive (priorities f) =
          λ q b come. ap (λ y. sent_to y q (in_turn g)) found
          ∙ ap (λ i. sent_to (counted_at f (put a drive)) i (in_turn g)) (sym (by_first q b come) ∙ sym first_one)
          ∙ ap (λ (r : ℕ → List ℕ). counted (sent (counted_at f (put a drive))
          (cylinder_of a.cylmax a.direction (first a.direction (priorities f)))) (r 0) (r 1)) left_lists in
          let rests : (q : ℕ) (b : Disk T) → histories.Coming H used g w c q b
          → HeadRests (granted_first a drive (priorities f)) (priorities g 0) (priorities g 1) =
          λ q b come. subst (λ (y : Disk T). HeadRests y (priorities g 0) (priorities g 1)) (model q b come)
          (HeadRests-sent (now g) c q (priorities g 0) (priorities g 1)
          (histories.ready_coming H used g later whole w c q b come) on) in
          let come = histories.handed_comes H used out f later j c w s is in
          granting a passed.0 drive turned_or_kept
          (subst (λ (i : ℕ). IsPassed side p a.direction i k passed.0) (sym first_one) passed.2)
          left_lists hand (rests come.0 come.1 come.2)
          (histories.Now-hand H used out f j c w s (granted_first a drive (priorities f), passed.0)
          (λ q b come. (on, model q b come, record { rests = rests q b come; waits = passed.1 })))

      by : (disk : Disk T) → IsToHandOn j f disk → HandsOff f disk c s → Step f e d k
      by disk (other_disk dest a resumed differs) off =
          absurd (differs (no_other H used f j dest a disk (all_same H used f (e ∷ later) is) resumed))
      by disk (released a drive mine busy given) off = from off
        where
          at : AtRest a (in_turn f) (d, k)
          at = (histories.Now-entered H used f j a (d, k) held mine n).1

          same : disk ≡ put d drive
          same = given ∙ ap (λ y. put y drive) at.0

          from : HandsOff f disk c s → Step f e d k
          from (head_histories.keeps some to gives) =
              grant d drive at.1.waits
              (keeps (λ no. some (ap (λ (y : Disk T). waiting (sweep y.direction) f) same
              ∙ waiting-no_priority (sweep d.direction) f no)))
              (to ∙ ap (λ (y : Disk T). sweep y.direction) same) (gives ∙ ap (counted_at f) same)
          from (head_histories.turns none_here to gives) =
              grant (turned d) drive at.1.waits
              (turns (priorities-nobody (sweep d.direction) f
              (ap (λ (y : Disk T). waiting (sweep y.direction) f) (sym same) ∙ none_here)))
              (to ∙ ap (λ (y : Disk T). sweep (opposite y.direction)) same)
              (gives ∙ ap (λ y. counted_at f (turned y)) same)

  untouched_by : (e : Event (Disk T)) (j w : ℕ) → ((i : ℕ) → concerns (sweep side) i e ≡ (j == i || w == i))
      → not (concerns (sweep side) (place_of x) e) ≡ true → place_of x ≢ w
  untouched_by e j w both free same =
      let no : (j == place_of x || w == place_of x) ≡ false = sym (both (place_of x)) ∙ not-true _ free in
      true≢false (sym (second (j == place_of x) (w == place_of x) (eq-eqb w (place_of x) (sym same))) ∙ no)
    where
      second : (a b : Bool) → b ≡ true → (a || b) ≡ true
      second true b is = refl
      second false b is = is

  step : (f later : List (Event (Disk T))) (e : Event (Disk T)) (d : Disk T) (k : ℕ) → H.events ≡ f ++ e ∷ later
      → not (concerns (sweep side) (place_of x) e) ≡ true → Now f d k → Step f e d k
  step f later (Admit j s) d k is free n =
      quiet (histories.priorities-still H used f later (Admit j s) is refl) refl
      (histories.Now-admit H used f later j s (d, k) is n)
  step f later (Back j s) d k is free n =
      quiet (histories.priorities-still H used f later (Back j s) is refl) refl
      (histories.Now-back H used f later j s (d, k) is n)
  step f later (Resume j c s) d k is free n =
      quiet (histories.priorities-still H used f later (Resume j c s) is refl) refl
      (histories.Now-resume H used f later j c s (d, k) is n)
  step f later (Leave j s) d k is free n = step_leave f later j s d k is n
  step f later (Wait j c q s) d k is free n = step_wait f later j c q s d k is n
  step f later (Signal j c w s) d k is free n =
      let a = (used.stands.legal.each f later (Signal j c w s) is).fits in
      step_hand by_signal f later j c w s d k is a.0 a.1 (untouched_by (Signal j c w s) j w (λ i. refl) free) refl
      (histories.continues H used f later (Signal j c w s) is) n
  step f later (Pass j c w s) d k is free n =
      let a = (used.stands.legal.each f later (Pass j c w s) is).fits in
      step_hand by_pass f later j c w s d k is a.0 a.1 (untouched_by (Pass j c w s) j w (λ i. refl) free) refl
      (histories.continues H used f later (Pass j c w s) is) n
  step f later (SignalTo j c w s) d k is free n = absurd (histories.continues H used f later (SignalTo j c w s) is)
  step f later (Notify j c w s) d k is free n = absurd (histories.continues H used f later (Notify j c w s) is)
  step f later (Broadcast j c s) d k is free n = absurd (histories.continues H used f later (Broadcast j c s) is)

  -- the events after f are a run of the model
  pub run : (f later : List (Event (Disk T))) (d : Disk T) (k : ℕ) → H.events ≡ f ++ later
      → is_untouched (sweep side) x later ≡ true → Now f d k
      → Awaits (H.sizes.places - 1) side p d (priorities f) k (hand_offs later)
  unfolding hand_offs
  run f [] d k is free n = none d (priorities f) k
  run f (e ∷ later) d k is free n =
      by (step f later e d k is (both_true _ _ free).0 n)
      (λ e1 j n1. run (f ++ e ∷ []) later e1 j whole (both_true _ _ free).1 n1)
    where
      whole : H.events ≡ (f ++ e ∷ []) ++ later
      whole = is ∙ sym (append_assoc f (e ∷ []) later)

      most : ℕ
      most = H.sizes.places - 1

      add : Bool → ℕ
      add b = length (cond b (e ∷ filter hands_drive later) (filter hands_drive later))

      joined_run : (more : List (Event (Disk T))) (c s : ℕ) → H.events ≡ (f ++ e ∷ []) ++ more
          → priorities (f ++ e ∷ []) ≡ joined (priorities f) c s
          → HeadRests d (priorities (f ++ e ∷ []) 0) (priorities (f ++ e ∷ []) 1)
          → Awaits most side p d (priorities (f ++ e ∷ [])) k (length (filter hands_drive more))
          → Awaits most side p d (priorities f) k (length (filter hands_drive more))
      joined_run [] c s at lists rests rest = none d (priorities f) k
      joined_run (y ∷ more) c s at lists rests rest =
          joins d (priorities f) k _ c s
          (subst (λ (r : ℕ → List ℕ). HeadRests d (r 0) (r 1)) lists rests)
          (subst (λ (r : ℕ → List ℕ). AtMost most r) lists
          (few_next H used (f ++ e ∷ []) more y at))
          (subst (λ (r : ℕ → List ℕ). Awaits most side p d r k (length (filter hands_drive (y ∷ more)))) lists rest)

      by : Step f e d k
          → ((e1 : Disk T) (j : ℕ) → Now (f ++ e ∷ []) e1 j
          → Awaits most side p e1 (priorities (f ++ e ∷ [])) j (length (filter hands_drive later)))
          → Awaits most side p d (priorities f) k (add (hands_drive e))
      by (quiet lists no_hand n1) rest =
          subst (λ (b : Bool). Awaits most side p d (priorities f) k (add b)) (sym no_hand)
          (subst (λ (r : ℕ → List ℕ). Awaits most side p d r k (length (filter hands_drive later))) lists (rest d k n1))
      by (joining c s lists no_hand rests n1) rest =
          subst (λ (b : Bool). Awaits most side p d (priorities f) k (add b)) (sym no_hand)
          (joined_run later c s whole lists rests (rest d k n1))
      by (granting a j drive way passed lists hand rests n1) rest =
          subst (λ (b : Bool). Awaits most side p d (priorities f) k (add b)) (sym hand)
          (grants d a (priorities f) k j _ drive way passed
          (subst (λ (r : ℕ → List ℕ). HeadRests (granted_first a drive (priorities f)) (r 0) (r 1)) lists rests)
          (subst
          (λ (r : ℕ → List ℕ). Awaits most side p (granted_first a drive (priorities f)) r j
          (length (filter hands_drive later))) lists (rest (granted_first a drive (priorities f)) j n1)))
