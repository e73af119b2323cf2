-- The events that a procedure of a head adds are those that `Follows` asks for.
use Rattle.std.proofs.Common.{◌≡◌, ◌≢◌, ◌≤◌, ℕ, Option, Some, None, refl}
use Rattle.std.specs.Prelude.{IsSome, Result}
use Rattle.hoare_law.specs.declared.event.History.{History}
use Rattle.hoare_law.specs.declared.event.Event.TheVariants.{Wait, Leave, Resume}
use Rattle.hoare_law.specs.Events.{with_event}
use Rattle.hoare_law.specs.Growth.{AddsTwo}
use Rattle.sweep_schedulers.specs.declared.head.OffDisk.{OffDisk}
use Rattle.sweep_schedulers.specs.declared.not_out.NotOut.{NotOut}
use Rattle.sweep_schedulers.specs.Heads.{Disk, sweep, opposite, turned, put, sent}
use Rattle.sweep_schedulers.specs.HeadTraces.{counted_after, Reaches, waited, HandsOn, Requests, off_disk, Releases}
use Rattle.sweep_schedulers.specs.HeadTraces.{put_in}
use Rattle.sweep_schedulers.specs.HeadTraces as traces
use Rattle.sweep_schedulers.specs.HeadHistories.{HasReached, IsToHandOn, released, other_disk, keeps, turns, at_once}
use Rattle.sweep_schedulers.specs.HeadHistories.{granted, head_procedures, ContinuesHead, sweep_to, priority_to}
use Rattle.sweep_schedulers.specs.Follows.{Follows, HasEntered}
use Rattle.sweep_schedulers.proofs.Calls.{enters, resumes, finishes, ends, leaves_refused}

is_some : {X : Type 0} (o : Option X) (x : X) → o ≡ Some x → IsSome o
is_some None x is = absurd (cc)
is_some (Some y) x is = refl

module _ {T : Type 0} where
  abbrev pub Keeps : ℕ → History (Disk T) → Type 0
  Keeps k h = Follows ContinuesHead k h

  hands_on : (k : ℕ) (d : Disk T) (g h : History (Disk T)) → Keeps k g → IsToHandOn k g.events d → HandsOn k d g h
      → Keeps k h
  hands_on k d g h follows hand (traces.keeps some last) =
      finishes head_procedures k (sweep d.direction) (counted_after g d) g h follows
      (record { disk = d; to_hand_on = hand; hands_off = keeps some refl refl }) last
  hands_on k d g h follows hand (traces.turns none last) =
      finishes head_procedures k (sweep (opposite d.direction)) (counted_after g (turned d)) g h follows
      (record { disk = d; to_hand_on = hand; hands_off = turns none refl refl }) last

  -- what a request adds once it has waited
  reaches : (k dest : ℕ) (a found : Disk T) (e g : History (Disk T)) → Keeps k e → HasEntered k e.events a
      → dest ≤ a.cylmax → a.drive ≡ None
      → AddsTwo e (Wait k (sweep_to dest a) (priority_to dest a) a)
      (Resume k (sweep_to dest a) found) g
      → Keeps k g × HasReached k dest g.events a found
  reaches k dest a found e g follows in_e on busy adds =
      let r = resumes head_procedures k (sweep_to dest a) (priority_to dest a) a found e g follows
      (record { dest = dest; entered = in_e; busy = busy; on = on; on_sweep = refl; priority = refl }) adds in
      (r.0, record { on = on; resumed = r.1 })

  request_granted : (k dest : ℕ) (a found : Disk T) (e g h : History (Disk T)) → Keeps k e → HasEntered k e.events a
      → dest ≤ a.cylmax → Reaches k dest a e g found → found.cylmax ≡ a.cylmax → IsSome found.drive
      → h ≡ with_event g (Leave k (counted_after g (sent found dest))) → Keeps k h
  request_granted k dest a found e g h follows in_e on (traces.at_once some) same is_in is =
      ends head_procedures k _ e h follows (at_once a dest in_e some on refl) is
  request_granted k dest a found e g h follows in_e on (waited _ _ busy adds) same is_in is =
      let r = reaches k dest a found e g follows in_e on busy adds in
      ends head_procedures k _ g h r.0 (granted a found dest r.1 same is_in refl) is

  request_refused : (k dest : ℕ) (a found : Disk T) (e g h : History (Disk T)) → Keeps k e → HasEntered k e.events a
      → dest ≤ a.cylmax → Reaches k dest a e g found → found.cylmax ≢ a.cylmax → HandsOn k found g h → Keeps k h
  request_refused k dest a found e g h follows in_e on (traces.at_once some) differs hands = absurd (differs refl)
  request_refused k dest a found e g h follows in_e on (waited _ _ busy adds) differs hands =
      let r = reaches k dest a found e g follows in_e on busy adds in
      hands_on k found g h r.0 (other_disk dest a r.1 differs) hands

  -- the events of a call of `request`
  pub by_request : (k dest : ℕ) (f h : History (Disk T)) (r : Result T OffDisk) → Keeps k f → Requests k dest f h r
      → Keeps k h
  by_request k dest f h r follows (off_disk a g o adds past is) =
      leaves_refused head_procedures k a f g h follows adds is
  by_request k dest f h r follows (traces.granted a found e g drive adds on reaches same is_in less is) =
      let i = enters head_procedures k a f e follows adds in
      request_granted k dest a found e g h i.0 i.1 on reaches same (is_some found.drive drive is_in) is
  by_request k dest f h r follows (traces.other_disk a found e g o adds on reaches differs hands) =
      let i = enters head_procedures k a f e follows adds in
      request_refused k dest a found e g h i.0 i.1 on reaches differs hands

  -- the events of a call of `release`
  pub by_release : (k : ℕ) (drive : T) (f h : History (Disk T)) (r : Result (Unit {0}) (NotOut T)) → Keeps k f
      → Releases k drive f h r → Keeps k h
  by_release k drive f h r follows (put_in a g adds busy hands) =
      let i = enters head_procedures k a f g follows adds in
      hands_on k (put a drive) g h i.0 (released a drive i.1 busy refl) hands
  by_release k drive f h r follows (traces.refused a g adds is_in is) =
      leaves_refused head_procedures k a f g h follows adds is
