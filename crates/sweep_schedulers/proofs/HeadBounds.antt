-- What the model says of its runs, said of the histories of a disk head.
use Rattle.std.proofs.Common.{◌≡◌, ◌==◌, ◌+◌, ◌-◌, ◌*◌, ◌<◌, ◌≤◌, ℕ, List, [], ◌∷◌, ◌++◌, Bool, true, false, map, leb}
use Rattle.std.proofs.Common.{cond, refl, ap, sym, ◌∙◌, subst, arith, eq-eqb, append_assoc}
use Rattle.std.specs.Prelude.{All, count_by}
use Rattle.std.proofs.lemmas.Bool.Decides.{nat_tests}
use Rattle.std.proofs.lemmas.List.{map-append}
use Rattle.std.proofs.lemmas.List.Elements.{All-nil, All-cons}
use Rattle.hoare_law.specs.declared.event.Event.{Event}
use Rattle.hoare_law.specs.declared.event.History.{History}
use Rattle.hoare_law.specs.Events.{latest_data, with_event, cut_to}
use Rattle.hoare_law.specs.Waiting.{priority_of, is_untouched, waiting}
use Rattle.hoare_law.specs.Priorities.{priorities, put_in, in_order}
use Rattle.hoare_law.specs.declared.event.Event.TheVariants.{Wait}
use Rattle.hoare_law.specs.Lawful.{Owes}
use Rattle.hoare_law.specs.Overtaking.{with_events}
use Rattle.hoare_law.proofs.Events.{latest_data-push}
use Rattle.hoare_law.proofs.Priorities.{in_turn, in_turn-wait}
use Rattle.hoare_law.proofs.Filters.{list_all-at}
use Rattle.hoare_law.proofs.Sorted.{Rising, Rising-in_order}
use Rattle.sweep_schedulers.specs.declared.direction.Direction.{Direction}
use Rattle.sweep_schedulers.specs.Heads.{Disk, HeadRests, sweep, toward}
use Rattle.sweep_schedulers.specs.HeadHistories.{IsHeadHistory, KeepsWaiting, Waits, hand_offs}
use Rattle.sweep_schedulers.specs.Sweeps.{Awaits, IsWaiting, grants_before}
use Rattle.sweep_schedulers.proofs.Lists.{count_by-cons}
use Rattle.sweep_schedulers.proofs.Taken.{equals}
use Rattle.sweep_schedulers.proofs.Granted as granted
use Rattle.sweep_schedulers.proofs.Histories.{continues}
use Rattle.sweep_schedulers.proofs.HeadRuns.{few_next}
use Rattle.sweep_schedulers.proofs.HeadSteps.{run, begins_at}

low_before : {X : Type 0} (key : X → ℕ) (us : List X) (x : X) (vs : List X) → Rising key (us ++ x ∷ vs)
    → All (λ y. key y ≤ key x) us
low_before key [] x vs rises = All-nil (λ y. key y ≤ key x)
low_before key (u ∷ us) x vs rises =
    let up : leb (key u) (key x) ≡ true = list_all-at (λ y. leb (key u) (key y)) us x vs rises.0 in
    All-cons (λ y. key y ≤ key x) u us (grind (arith, nat_tests)) (low_before key us x vs rises.1)

count_after : (p : ℕ) (us : List ℕ) (x : ℕ) (vs : List ℕ) → x ≡ p → equals p us < equals p (us ++ x ∷ vs)
count_after p [] x vs is =
    let passes : (x == p) ≡ true = grind (arith, nat_tests) in
    let more : equals p (x ∷ vs) ≡ 1 + equals p vs = count_by-cons (λ s. s == p) x vs ∙ (rw passes refl) in
    omega (arith, more)
count_after p (u ∷ us) x vs is =
    omega (
      arith,
      count_after p us x vs is,
      count_by-cons (λ s. s == p) u us,
      count_by-cons (λ s. s == p) u (us ++ x ∷ vs),
    )

module _ {T : Type 0} where
  -- the events after h are a run of the model
  pub is_run : (h : History (Disk T)) (later : List (Event (Disk T))) (x : Event (Disk T)) (side : Direction) (p k : ℕ)
      → IsHeadHistory (with_events h later) → KeepsWaiting h later x side p k
      → Awaits (h.sizes.places - 1) side p (latest_data h) (priorities h.events) k (hand_offs later)
  is_run h later x side p k is w =
      let whole : History (Disk T) = with_events h later in
      run whole is x side p w.priority h.events later (latest_data h) k refl w.untouched
      (begins_at whole is x side p w.priority h.events later k refl w.rests (record {
        before = w.before;
        behind = w.behind;
        is = w.is;
        low = subst (λ (n : ℕ). All (λ y. priority_of y ≤ n) w.before) w.priority
            (low_before priority_of w.before x w.behind
            (subst (Rising priority_of) w.is (Rising-in_order priority_of (waiting (sweep side) h.events))));
        earlier = w.earlier;
      }))

  -- more than k wait with its priority
  among : (h : History (Disk T)) (later : List (Event (Disk T))) (x : Event (Disk T)) (side : Direction) (p k : ℕ)
      → KeepsWaiting h later x side p k → k < count_by (λ s. s == p) (priorities h.events (sweep side))
  unfolding priorities
  among h later x side p k w =
      let split : map priority_of (in_order priority_of (waiting (sweep side) h.events))
      ≡ map priority_of w.before ++ priority_of x ∷ map priority_of w.behind =
      ap (map priority_of) w.is ∙ map-append priority_of w.before (x ∷ w.behind) in
      subst (λ (l : List ℕ). k < equals p l) (sym split)
      (subst (λ (n : ℕ). n < equals p (map priority_of w.before ++ priority_of x ∷ map priority_of w.behind)) w.earlier
      (count_after p (map priority_of w.before) (priority_of x) (map priority_of w.behind) w.priority))

  module _ (h : History (Disk T)) (x : Event (Disk T)) (side : Direction) (p k : ℕ) where
    waits : (later more : List (Event (Disk T))) (e : Event (Disk T)) → later ≡ e ∷ more
        → IsHeadHistory (with_events h later) → KeepsWaiting h later x side p k
        → IsWaiting (h.sizes.places - 1) side p k (latest_data h) (priorities h.events)
    waits later more e split is w =
        record {
          rests = w.rests;
          few = few_next (with_events h later) is h.events more e (ap (λ l. h.events ++ l) split);
          among = among h later x side p k w;
        }

    pub in_time : (later : List (Event (Disk T))) → IsHeadHistory (with_events h later)
        → KeepsWaiting h later x side p k
        → hand_offs later ≤ grants_before (h.sizes.places - 1) (latest_data h) side p k
    unfolding hand_offs
    in_time [] is w = omega arith
    in_time (e ∷ more) is w =
        granted.in_time (h.sizes.places - 1) p side (latest_data h) (priorities h.events)
        (waits (e ∷ more) more e refl is w) (is_run h (e ∷ more) x side p k is w)

    pub at_most : (later : List (Event (Disk T))) → IsHeadHistory (with_events h later)
        → KeepsWaiting h later x side p k
        → hand_offs later ≤ (2 * (latest_data h).cylmax + 1) * (h.sizes.places - 2)
    unfolding hand_offs
    at_most [] is w = omega arith
    at_most (e ∷ more) is w =
        let most = granted.at_most (h.sizes.places - 1) p side (latest_data h) (priorities h.events)
        (waits (e ∷ more) more e refl is w) (is_run h (e ∷ more) x side p k is w) in
        let one : h.sizes.places - 1 - 1 ≡ h.sizes.places - 2 = omega arith in
        subst
        (λ (n : ℕ). hand_offs (e ∷ more) ≤ (2 * (latest_data h).cylmax + 1) * n) one most

put_in_parts : {X : Type 0} (key : X → ℕ) (w : X) (vs : List X) → (us ts : List X) × (put_in key w vs ≡ us ++ w ∷ ts)
put_in_parts key w [] = ([], [], refl)
put_in_parts {X = X} key w (v ∷ vs) = by (leb (key v) (key w)) (put_in_parts key w vs)
  where
    by : (t : Bool) → ((us ts : List X) × (put_in key w vs ≡ us ++ w ∷ ts))
        → (us ts : List X) × (cond t (v ∷ put_in key w vs) (w ∷ v ∷ vs) ≡ us ++ w ∷ ts)
    by true r = (v ∷ r.0, r.1, ap (λ l. v ∷ l) r.2)
    by false r = ([], v ∷ vs, refl)

-- from its wait on
pub from_its_wait : {T : Type 0} (h : History (Disk T)) (later : List (Event (Disk T))) (k c p : ℕ) (s : Disk T)
    → IsHeadHistory (with_events h (Wait k c p s ∷ later)) → is_untouched c (Wait k c p s) later ≡ true
    → hand_offs later ≤ (2 * s.cylmax + 1) * (h.sizes.places - 2)
unfolding with_event Owes
from_its_wait {T = T} h later k c p s is free =
    subst (λ (d : Disk T). hand_offs later ≤ (2 * d.cylmax + 1) * (h.sizes.places - 2)) found
    (at_most g e side p (equals p (map priority_of r.0)) later
    (subst IsHeadHistory (ap (cut_to h) (sym (append_assoc h.events (e ∷ []) later))) is) (record {
      before = r.0;
      behind = r.1;
      is = subst (λ (b : ℕ). in_turn g.events b ≡ r.0 ++ e ∷ r.1) a.on_sweep at;
      priority = refl;
      earlier = refl;
      untouched = subst (λ (b : ℕ). is_untouched b e later ≡ true) a.on_sweep free;
      rests = subst (λ (d : Disk T). HeadRests d (priorities g.events 0) (priorities g.events 1)) (sym found)
          (is.stands.lawful.each h.events later e refl);
    }))
  where
    e : Event (Disk T)
    e = Wait k c p s

    g : History (Disk T)
    g = cut_to h (h.events ++ e ∷ [])

    found : latest_data g ≡ s
    found = latest_data-push h e

    a : Waits k c p h.events s
    a = continues (with_events h (e ∷ later)) is h.events later e refl

    side : Direction
    side = toward a.dest s

    r : (us ts : List (Event (Disk T))) × (put_in priority_of e (in_turn h.events c) ≡ us ++ e ∷ ts)
    r = put_in_parts priority_of e (in_turn h.events c)

    at : in_turn g.events c ≡ r.0 ++ e ∷ r.1
    at = in_turn-wait h.events k c p c s (is.stands.legal.each h.events later e refl).fits
        ∙ ap (λ b. cond b (put_in priority_of e (in_turn h.events c)) (in_turn h.events c)) (eq-eqb c c refl) ∙ r.2
