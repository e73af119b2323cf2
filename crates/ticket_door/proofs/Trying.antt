-- A place tries to enter: it shuts the gate, is admitted if no place has a ticket, and opens the gate again.
use Rattle.std.proofs.Common.{◌≡◌, ◌≢◌, inl, inr, ℕ, ◌+◌, ◌-◌, ◌*◌, ◌<◌, ◌≤◌, ◌%◌, ◌^◌, eqb, true, List, [], ◌∷◌, set}
use Rattle.std.proofs.Common.{get_or, length, length-set, get_or-set_same, Option, Some, None, refl, sym, ap, ◌∙◌}
use Rattle.std.proofs.Common.{subst, arith, eq-eqb, ne_eqb, Bool, false}
use Rattle.std.proofs.lemmas.List.{get_or-set_other}
use mathlib.Core.Logic.{dite}
use mathlib.Core.Option.{none}
use native.Mathlib.Decide.{ℕ_discrete}
use lib.Seq.{set-get_or}
use prog.Atomic.{either}
use Rattle.atomic_table.specs.Table.{Step, step, Allows}
use Rattle.atomic_table.proofs.Lists.{one_turn}
use Rattle.hoare_law.specs.Sizes.{Kinds}
use Rattle.hoare_law.specs.declared.event.History.{History}
use Rattle.hoare_law.specs.declared.event.Sizes.{Sizes}
use Rattle.hoare_law.specs.declared.event.Event.TheVariants.{Admit}
use Rattle.hoare_law.specs.declared.turn.Turn.{Turn}
use Rattle.hoare_law.specs.declared.turn.Turn.TheVariants.{Free, Held}
use Rattle.hoare_law.specs.Events.{own, latest_data, with_event}
use Rattle.hoare_law.specs.Lawful.{Rest, Ready, Stands}
use Rattle.hoare_law.specs.Turns.{turn, outside}
use Rattle.hoare_law.specs.Admissions.{admissions, admitted}
use Rattle.hoare_law.proofs.Admissions.{admissions-admit}
use Rattle.hoare_law.proofs.Entering.{outside-same}
use Rattle.wait_book.proofs.Times.{few_once}
use Rattle.door_frame.specs.declared.guarded.Guarded.{Guarded}
use Rattle.door_frame.specs.declared.view.Token.{Token}
use Rattle.door_frame.specs.declared.view.Token.TheVariants as token
use Rattle.door_frame.specs.Rule.{Cells, Tokens, TableInvariant}
use Rattle.door_frame.specs.Steps.{SeatState, EnteredBy, EnteredWith, Learns, Refused}
use Rattle.door_frame.specs.Views.{alone, trying, sole, knows}
use Rattle.door_frame.proofs.Refusals.{learned_now}
use Rattle.door_frame.proofs.Steps as frame
use Rattle.door_frame.proofs.Views.{given_to, given_here, given_else}
use Rattle.ticket_door.specs.Rule.{Initial, WordsFit, Gate, open_gate, shut_by, shut, token_in, CloseGate, IsKept}
use Rattle.ticket_door.specs.Rule.{next_at, HasHolder}
use Rattle.ticket_door.specs.Rule.{serving_at, bell_at, taken, bell_value}
use Rattle.ticket_door.specs.Tries.{IsTrying, HasGate, IsAdmitted, IsPassed, MissesTicket, NextTells, ServingTells}
use Rattle.ticket_door.specs.Tries.{Reopened}
use Rattle.ticket_door.specs.Steps.{reads, reads_next, reads_serving, closes_gate, ClosesGateAt, admits_try}
use Rattle.ticket_door.specs.Steps.{AdmitsTryAt, opens_gate}
use Rattle.ticket_door.proofs.Barring.{next_tells, serving_tells, untaken_passed}
use Rattle.ticket_door.proofs.Learning.{draws_and_learns}
use Rattle.ticket_door.proofs.Gate.{has_none, has_gate, closes_gate_tokens, opens_gate_tokens}
use Rattle.ticket_door.proofs.Turns.{taken_le, taken_free, next_word, even_open, open_bit, shut_word, open_word}

-- a word after a compare-exchange that expects v
abbrev pub changed : ℕ → ℕ → ℕ → ℕ
changed v new x = either (eqb x v) new x

changed-hit : (v new x : ℕ) → x ≡ v → changed v new x ≡ new
changed-hit v new x hit = ap (λ b. either b new x) (eq-eqb x v hit)

changed-miss : (v new x : ℕ) → x ≢ v → changed v new x ≡ x
changed-miss v new x miss = ap (λ b. either b new x) (ne_eqb x v miss)

-- the number of the gate that a token has, else d
abbrev gate_number : ℕ → Option Token → ℕ
gate_number d (Some (token.Gate v)) = v
gate_number d _ = d

gate_is : (v w : ℕ) → ◌≡◌ {A = Option Token} (Some (token.Gate v)) (Some (token.Gate w)) → v ≡ w
gate_is v w e = ap (gate_number v) e

-- if NEXT is the ticket that was served when the gate was shut, no place has a ticket, and no turn began since
record IsStill (since served admitted waiting : ℕ) : Type 0 where
  pub here : admitted ≡ since
  pub now : served ≡ since
  pub none : waiting ≡ 0

still : (first since served admitted waiting busy t : ℕ) → since ≤ served → served + busy ≡ admitted
    → admitted ≤ since + 1
    → waiting ≤ 64 → (2 * t) % 2 ^ 64 ≡ (2 * (first + since)) % 2 ^ 64
    → (first + (admitted + waiting)) % 2 ^ 64 ≡ t
    → IsStill since served admitted waiting
still first since served admitted waiting busy t begins due few most word next =
    let total : ℕ = admitted + waiting in
    let twice : (2 * (first + since)) % 2 ^ 64 ≡ (2 * (first + total)) % 2 ^ 64 =
    sym word ∙ ap (λ (m : ℕ). (2 * m) % 2 ^ 64) (sym next) ∙ double (first + total) in
    let same : 2 * (first + since) ≡ 2 * (first + total) =
    one_turn (2 * (first + since)) (2 * (first + total)) (2 ^ 64) (omega (arith, begins, due))
    (omega (arith, few, most)) twice in
    record {
      here = omega (arith, same, begins, due);
      now = omega (arith, same, begins, due);
      none = omega (arith, same, begins, due);
    }
  where
    double : (n : ℕ) → (2 * (n % 2 ^ 64)) % 2 ^ 64 ≡ (2 * n) % 2 ^ 64
    double n = omega arith

-- a place without a token that learned the log, of which Cause holds
learned_none : {D : Type 0} {rest : Rest D} {ready : Ready D} {Cause : History D → Type 0} {k : ℕ} {f h : History D}
    {o : Option Token} {m : SeatState D} → Learns rest ready h (knows k f o ∷ []) m → o ≡ None → Cause h
    → Refused rest ready Cause k f m
learned_none {rest = rest} {ready = ready} {k = k} {f = f} {h = h} {m = m} l is_none cause =
    let at = subst (λ (p : Option Token). Learns rest ready h (knows k f p ∷ []) m) is_none l in
    learned_now at cause at.me_is

-- what a cause implies is a cause too
pub caused : {D : Type 0} {rest : Rest D} {ready : Ready D} {Cause Other : History D → Type 0} {k : ℕ} {f : History D}
    {m : SeatState D} → Refused rest ready Cause k f m → ((h : History D) → Cause h → Other h)
    → Refused rest ready Other k f m
caused r as_ = record {
  log = r.log;
  me_is = r.me_is;
  begins = r.begins;
  own_are = r.own_are;
  stands = r.stands;
  cause = as_ r.log r.cause;
}

module _ {D : Type 0} (first n : ℕ) where
  -- k has the gate
  gate_shut : (log : History D) (tokens : Tokens) (ws : List ℕ) (k v : ℕ) → k < n → outside k log.events ≡ true
      → tokens k ≡ None → (t : WordsFit first n log tokens ws)
      → t.gate ≡ open_gate → get_or ws serving_at 0 ≡ v
      → WordsFit first n log (given_to tokens k (Some (token.Gate v))) (set ws serving_at (v + 1))
  gate_shut log tokens ws k v small out free t is_open found =
      let a : List ℕ = admitted log.events in
      let wide = t.words_are in
      let word : v ≡ (2 * (first + t.served)) % 2 ^ 64 =
      sym found ∙ t.serving ∙ ap (λ (g : Gate). (2 * (first + t.served) + shut g) % 2 ^ 64) is_open
      ∙ sym (open_bit (first + t.served)) in
      let le1 = taken_le (turn log.events) in
      let d = t.due in record {
        words_are = length-set ws serving_at _ ∙ wide;
        queue = t.queue;
        once = t.once;
        below = t.below;
        are_outside = t.are_outside;
        gate = shut_by k v;
        holder = (small, inl out);
        tokens_are =
            closes_gate_tokens a t.queue k v tokens (λ j. t.tokens_are j ∙ ap (λ (g : Gate). token_in g a t.queue j)
            is_open);
        next = get_or-set_other ws serving_at next_at _ 0 (λ e. omega (arith, e)) ∙ t.next;
        served = t.served;
        due = t.due;
        serving =
            get_or-set_same ws serving_at _ 0 (omega (arith, wide)) ∙ ap (λ (m : ℕ). m + 1) word
            ∙ shut_word (first + t.served);
        kept = record {
          since = t.served;
          word = word;
          begins = omega arith;
          few = omega (arith, d, le1);
          apart = has_none t.gate a t.queue k (sym (t.tokens_are k) ∙ free);
        };
        bells = λ j b. get_or-set_other ws serving_at (bell_at j) _ 0 (λ e. omega (arith, e)) ∙ t.bells j b;
      }

  -- k no longer has the gate
  gate_open : (log : History D) (tokens : Tokens) (ws : List ℕ) (k v : ℕ) → tokens k ≡ Some (token.Gate v)
      → WordsFit first n log tokens ws
      → WordsFit first n log (given_to tokens k None)
      (set ws serving_at ((get_or ws serving_at 0 + (2 ^ 64 - 1)) % 2 ^ 64))
  gate_open log tokens ws k v has t =
      let a : List ℕ = admitted log.events in
      let wide = t.words_are in
      let by : t.gate ≡ shut_by k v = has_gate t.gate a t.queue k v (sym (t.tokens_are k) ∙ has) in
      let kept : CloseGate first k v t.served (admissions log.events) t.queue =
      subst (IsKept first t.served (admissions log.events) t.queue) by t.kept in record {
        words_are = length-set ws serving_at _ ∙ wide;
        queue = t.queue;
        once = t.once;
        below = t.below;
        are_outside = t.are_outside;
        gate = open_gate;
        holder = tt;
        tokens_are =
            opens_gate_tokens a t.queue k v tokens (λ j. t.tokens_are j ∙ ap (λ (g : Gate). token_in g a t.queue j) by)
            kept.apart;
        next = get_or-set_other ws serving_at next_at _ 0 (λ e. omega (arith, e)) ∙ t.next;
        served = t.served;
        due = t.due;
        serving =
            get_or-set_same ws serving_at _ 0 (omega (arith, wide))
            ∙ ap (λ (m : ℕ). (m + (2 ^ 64 - 1)) % 2 ^ 64)
            (t.serving ∙ ap (λ (g : Gate). (2 * (first + t.served) + shut g) % 2 ^ 64) by)
            ∙ open_word (first + t.served);
        kept = tt;
        bells = λ j b. get_or-set_other ws serving_at (bell_at j) _ 0 (λ e. omega (arith, e)) ∙ t.bells j b;
      }

  -- the place that has the gate is admitted: it takes the ticket that is served
  tried : (log : History D) (tokens : Tokens) (ws : List ℕ) (k v w : ℕ) (s : D)
      → (t : WordsFit first n log tokens ws) → (by : t.gate ≡ shut_by k v)
      → (kept : CloseGate first k v t.served (admissions log.events) t.queue)
      → IsStill kept.since t.served (admissions log.events) (length t.queue) → get_or ws next_at 0 ≡ w
      → turn log.events ≡ Free → turn (with_event log (Admit k s)).events ≡ Held k
      → WordsFit first n (with_event log (Admit k s)) tokens (set ws next_at ((w + 1) % 2 ^ 64))
  tried log tokens ws k v w s t by kept is found free held =
      let a : ℕ = admissions log.events in
      let h : History D = with_event log (Admit k s) in let more = admissions-admit log k s in
      let wide = t.words_are in
      let before : taken (turn log.events) ≡ 0 = ap taken free in
      let after : taken (turn h.events) ≡ 1 = ap taken held in
      let empty : t.queue ≡ [] = no_length t.queue is.none in
      let here = is.here in
      let nobody = is.none in record {
        words_are = length-set ws next_at _ ∙ wide;
        queue = [];
        once = λ j. omega arith;
        below = λ j some. absurd (omega (arith, some));
        are_outside = λ j some. absurd (omega (arith, some));
        gate = shut_by k v;
        holder = ((subst (HasHolder n log) by t.holder).0, inr held);
        tokens_are = λ j. t.tokens_are j ∙ (λ i. token_in (by i) (admitted log.events) (empty i) j);
        next =
            get_or-set_same ws next_at _ 0 (omega (arith, wide))
            ∙ ap (λ (m : ℕ). (m + 1) % 2 ^ 64) (sym found ∙ t.next)
            ∙ next_word first (a + length t.queue) ∙ ap (λ (m : ℕ). (first + m) % 2 ^ 64)
            (let same : a + length t.queue + 1 ≡ admissions h.events + 0 = omega (arith, more, nobody) in same);
        served = t.served;
        due = let d = t.due in omega (arith, d, before, after, more);
        serving =
            get_or-set_other ws next_at serving_at _ 0 (λ e. omega (arith, e)) ∙ t.serving
            ∙ ap (λ (g : Gate). (2 * (first + t.served) + shut g) % 2 ^ 64) by;
        kept = record {
          since = kept.since;
          word = kept.word;
          begins = kept.begins;
          few = omega (arith, here, more);
          apart = refl;
        };
        bells = λ j b.
            get_or-set_other ws next_at (bell_at j) _ 0 (λ e. omega (arith, e)) ∙ t.bells j b
            ∙ (ap (λ (u : Turn). bell_value u j) free ∙ sym (ap (λ (u : Turn). bell_value u j) held));
      }
    where
      no_length : (q : List ℕ) → length q ≡ 0 → q ≡ []
      no_length [] e = refl
      no_length (j ∷ q) e = absurd (omega (arith, e))

  module _ (rest : Rest D) (ready : Ready D) (kinds : Kinds) where
    abbrev K : Cells D → Type 0
    K = TableInvariant (Initial first n) (WordsFit first n) rest ready kinds n

    -- the place has no token, and what Tells states
    abbrev IsRead : (ℕ → ℕ → History D → Type 0) → ℕ → History D → Option Token → ℕ → Type 0
    IsRead Tells k log o r = (o ≡ None) × Tells k r log

    abbrev ReadAt : (ℕ → ℕ → History D → Type 0) → ℕ → History D → ℕ → SeatState D → Type 0
    ReadAt Tells k f r m =
        (log : History D) × (o : Option Token) × Learns rest ready log (knows k f o ∷ []) m × IsRead Tells k log o r

    -- a load of the word i, by which the place k learns what Tells states of the value and the log
    reads_ok : (Tells : ℕ → ℕ → History D → Type 0) (slots id k i : ℕ) (f : History D) (st : Step (Option (Guarded D)))
        → ((log : History D) (tokens : Tokens) (ws : List ℕ) → log.sizes.places ≡ n → tokens k ≡ None
        → WordsFit first n log tokens ws → Tells k (get_or ws i 0) log)
        → Allows K slots id (alone k f, []) i (λ r. r) (reads Tells rest ready st (alone k f, []))
    reads_ok Tells slots id k i f st told =
        frame.told_as K slots id (alone k f, []) i (λ r. r) _ (reads Tells rest ready st (alone k f, []))
        (λ r m (d : ReadAt Tells k f r m) j g is. let q = frame.alone_is k j f g [] [] is in
        subst (λ (p : ℕ × History D). Refused rest ready (Tells p.0 r) p.0 p.1 m) (λ x. (q.0 x, q.1 x))
        (learned_none d.2 d.3.0 d.3.1))
        (draws_and_learns (Initial first n) (WordsFit first n) rest ready kinds n slots id k i f None (λ r. r)
        (IsRead Tells k)
        (λ log tokens ws places small same none t. (
          None,
          tokens,
          none,
          (λ j ne. refl),
          subst (WordsFit first n log tokens) (sym (set-get_or ws i 0)) t,
          (refl, told log tokens ws places none t),
        )))

    -- the same of a seat with that view, and a first ticket that is that of the door
    pub reads_next_at : (slots id k start : ℕ) (f : History D) (st : Step (Option (Guarded D))) (m : SeatState D)
        → m ≡ (alone k f, []) → first ≡ start
        → Allows K slots id m next_at (λ r. r) (reads_next start rest ready st m)
    reads_next_at slots id k start f st m is same =
        subst (λ (p : SeatState D × ℕ). Allows K slots id p.0 next_at (λ r. r) (reads_next p.1 rest ready st p.0))
        (λ i. (sym is i, same i))
        (reads_ok (NextTells first) slots id k next_at f st
        (λ log tokens ws places none t. next_tells first n k log tokens ws places t
        (has_none t.gate (admitted log.events) t.queue k (sym (t.tokens_are k) ∙ none))))

    pub reads_serving_at : (slots id k start : ℕ) (f : History D) (st : Step (Option (Guarded D))) (m : SeatState D)
        → m ≡ (alone k f, []) → first ≡ start
        → Allows K slots id m serving_at (λ r. r) (reads_serving start rest ready st m)
    reads_serving_at slots id k start f st m is same =
        subst (λ (p : SeatState D × ℕ). Allows K slots id p.0 serving_at (λ r. r) (reads_serving p.1 rest ready st p.0))
        (λ i. (sym is i, same i))
        (reads_ok (ServingTells first) slots id k serving_at f st
        (λ log tokens ws places none t. serving_tells first n k log tokens ws places none t))

    -- what the value found says of the token then, and of the log
    abbrev IsShutAt : ℕ → ℕ → History D → Option Token → ℕ → Type 0
    IsShutAt v k log o r =
        ((r ≡ v → ⊥) → (o ≡ None) × ServingTells first k r log) × (r ≡ v → o ≡ Some (token.Gate v))

    abbrev ShutAt : ℕ → ℕ → History D → ℕ → SeatState D → Type 0
    ShutAt v k f r m =
        (log : History D) × (o : Option Token) × Learns rest ready log (knows k f o ∷ []) m × IsShutAt v k log o r

    shuts : (v k j : ℕ) (f g : History D) (r : ℕ) (m : SeatState D) → k ≡ j → f ≡ g → ShutAt v k f r m
        → ClosesGateAt v first rest ready j g r m
    shuts v k j f g r m place front d =
        subst (λ (p : ℕ × History D). ClosesGateAt v first rest ready p.0 p.1 r m) (λ i. (place i, front i)) (
          (λ miss. let t = d.3.0 miss in learned_none d.2 t.0 t.1),
          λ hit. (d.0, subst (λ (o : Option Token). Learns rest ready d.0 (knows k f o ∷ []) m) (d.3.1 hit) d.2),
        )

    closes_gate_ok : (slots id k v b : ℕ) (f : History D) → v ≡ (2 * b) % 2 ^ 64 → outside k f.events ≡ true
        → Allows K slots id (alone k f, []) serving_at (changed v (v + 1))
        (closes_gate first rest ready (step slots serving_at v (v + 1) none) (alone k f, []))
    closes_gate_ok slots id k v b f even out =
        frame.told_as K slots id (alone k f, []) serving_at (changed v (v + 1)) _
        (closes_gate first rest ready (step slots serving_at v (v + 1) none) (alone k f, []))
        (λ r m (d : ShutAt v k f r m) j g is. let q = frame.alone_is k j f g [] [] is in shuts v k j f g r m q.0 q.1 d)
        (draws_and_learns (Initial first n) (WordsFit first n) rest ready kinds n slots id k serving_at f None
        (changed v (v + 1)) (IsShutAt v k)
        (λ log tokens ws places small same free t. dite (ℕ_discrete (get_or ws serving_at 0) v)
        (λ hit. let o : Option Token = Some (token.Gate v) in
        let is_open : t.gate ≡ open_gate = even_open (first + t.served) b t.gate (sym t.serving ∙ hit ∙ even) in (
          o,
          given_to tokens k o,
          given_here tokens k o,
          (λ j ne. given_else tokens k o j ne),
          subst (λ (w : ℕ). WordsFit first n log (given_to tokens k o) (set ws serving_at w))
              (sym (changed-hit v (v + 1) (get_or ws serving_at 0) hit))
              (gate_shut log tokens ws k v small (outside-same k f log same out) free t is_open hit),
          ((λ miss. absurd (miss hit)), λ _. refl),
        ))
        (λ miss. (
          None,
          tokens,
          free,
          (λ j ne. refl),
          subst (λ (w : ℕ). WordsFit first n log tokens (set ws serving_at w))
              (sym (changed-miss v (v + 1) (get_or ws serving_at 0) miss))
              (subst (WordsFit first n log tokens) (sym (set-get_or ws serving_at 0)) t),
          ((λ _. (refl, serving_tells first n k log tokens ws places free t)), λ hit. absurd (miss hit)),
        ))))

    -- a seat with that view, and the words that the call has
    pub closes_gate_at : (slots id k v u b start : ℕ) (f : History D) (m : SeatState D) → m ≡ (alone k f, [])
        → v ≡ (2 * b) % 2 ^ 64 → u ≡ v + 1 → first ≡ start → outside k f.events ≡ true
        → Allows K slots id m serving_at (changed v u)
        (closes_gate start rest ready (step slots serving_at v u none) m)
    closes_gate_at slots id k v u b start f m is even more same out =
        subst
        (λ (p : SeatState D × (ℕ × ℕ)). Allows K slots id p.0 serving_at (changed v p.1.0)
        (closes_gate p.1.1 rest ready (step slots serving_at v p.1.0 none) p.0))
        (λ i. (sym is i, (sym more i, same i))) (closes_gate_ok slots id k v b f even out)

    abbrev TriesIn : ℕ → ℕ → History D → Tokens → List ℕ → Type 0
    TriesIn k w log tokens ws =
        frame.BringsIn (Initial first n) (WordsFit first n) rest ready kinds k next_at (tokens k)
        (changed w ((w + 1) % 2 ^ 64)) (λ h. Unit {0}) log tokens ws (Admit k (latest_data log))

    brings : (k v w : ℕ) (f log : History D) (tokens : Tokens) (ws : List ℕ) → n ≤ 64 → outside k f.events ≡ true
        → v ≡ (2 * w) % 2 ^ 64
        → Stands rest ready log → log.sizes.places ≡ n → k < n
        → own k log.events ≡ own k f.events → tokens k ≡ Some (token.Gate v) → WordsFit first n log tokens ws
        → get_or ws next_at 0 ≡ w → TriesIn k w log tokens ws
    brings k v w f log tokens ws few out word stands places small same has t hit =
        let a : ℕ = admissions log.events in
        let by : t.gate ≡ shut_by k v =
        has_gate t.gate (admitted log.events) t.queue k v (sym (t.tokens_are k) ∙ has) in
        let kept : CloseGate first k v t.served a t.queue = subst (IsKept first t.served a t.queue) by t.kept in
        let most = few_once t.queue n t.once t.below in
        let is : IsStill kept.since t.served a (length t.queue) =
        still first kept.since t.served a (length t.queue) (taken (turn log.events)) w kept.begins t.due kept.few
        (omega (arith, most, few)) (sym word ∙ kept.word) (sym t.next ∙ hit) in
        let here = is.here in
        let now = is.now in
        let d = t.due in
        let free : turn log.events ≡ Free = taken_free (turn log.events) (omega (arith, here, now, d)) in
        let e =
        frame.enters_admit rest ready k log (subst (λ (m : ℕ). k < m) (sym places) small) free
        (outside-same k f log same out) in
        record {
          given_up = frame.given_up_free (turn log.events) free;
          enters = e;
          also = tt;
          tokens' = tokens;
          token_now = refl;
          others = λ j ne. refl;
          words_fit =
              subst (λ (u : ℕ). WordsFit first n (with_event log (Admit k (latest_data log))) tokens (set ws next_at u))
              (sym (changed-hit w ((w + 1) % 2 ^ 64) (get_or ws next_at 0) hit))
              (tried log tokens ws k v w (latest_data log) t by kept is hit free e.inside);
        }

    -- if NEXT isn't w, w is passed
    misses : (k v w : ℕ) (log : History D) (tokens : Tokens) (ws : List ℕ) → log.sizes.places ≡ n
        → tokens k ≡ Some (token.Gate v) → WordsFit first n log tokens ws → get_or ws next_at 0 ≢ w
        → IsPassed first w k log
    misses k v w log tokens ws places has t miss =
        let a : ℕ = admissions log.events in
        let by : t.gate ≡ shut_by k v =
        has_gate t.gate (admitted log.events) t.queue k v (sym (t.tokens_are k) ∙ has) in
        let kept : CloseGate first k v t.served a t.queue = subst (IsKept first t.served a t.queue) by t.kept in
        untaken_passed first (next_tells first n k log tokens ws places t kept.apart) miss

    admits_try_ok : (slots id k v w : ℕ) (f : History D) → n ≤ 64 → outside k f.events ≡ true → v ≡ (2 * w) % 2 ^ 64
        → Allows K slots id (trying k f v, []) next_at (changed w ((w + 1) % 2 ^ 64))
        (admits_try first rest ready (step slots next_at w ((w + 1) % 2 ^ 64) none) (trying k f v, []))
    admits_try_ok slots id k v w f few out word =
        let o : Option Token = Some (token.Gate v) in
        frame.told_as K slots id (trying k f v, []) next_at (changed w ((w + 1) % 2 ^ 64)) _
        (admits_try first rest ready (step slots next_at w ((w + 1) % 2 ^ 64) none) (trying k f v, []))
        (λ r m c j g y is. let q = frame.sole_is k j f g o (Some (token.Gate y)) [] [] is in
        let same : v ≡ y = gate_is v y q.2 in
        subst (λ (p : ℕ × (History D × ℕ)). AdmitsTryAt w first rest ready p.0 p.1.0 p.1.1 r m)
        (λ i. (q.0 i, (q.1 i, same i))) c)
        (frame.comes_or (Initial first n) (WordsFit first n) rest ready kinds n slots id k next_at f o o (Admit k)
        (changed w ((w + 1) % 2 ^ 64)) (λ r. r ≡ w) (MissesTicket first rest ready w k f v) (λ log. Unit {0})
        (λ r. ℕ_discrete r w)
        (λ s r at miss.
        let x : ℕ = get_or s.words next_at 0 in
        let t = frame.learns_only (Initial first n) (WordsFit first n) rest ready kinds n s r next_at id
        (changed w ((w + 1) % 2 ^ 64) x) k f o at (changed-miss w ((w + 1) % 2 ^ 64) x miss) in
        let fit = (r.fronts id (trying k f v) at).0 in (
          t.0,
          t.1,
          (
            r.log,
            t.2,
            misses k v w r.log r.tokens s.words (ap (λ (m : Sizes). m.places) r.sized)
                fit.token_is r.words_fit miss,
          ),
        ))
        (λ log tokens ws stands places small same has t hit.
        subst
        (λ (p : Option Token). frame.BringsIn (Initial first n) (WordsFit first n) rest ready kinds k next_at p
        (changed w ((w + 1) % 2 ^ 64)) (λ h. Unit {0}) log tokens ws (Admit k (latest_data log))) has
        (brings k v w f log tokens ws few out word stands places small same has t hit)))

    pub admits_try_at : (slots id k v w u start : ℕ) (f : History D) (m : SeatState D) → m ≡ (trying k f v, []) → n ≤ 64
        → outside k f.events ≡ true
        → v ≡ (2 * w) % 2 ^ 64 → u ≡ (w + 1) % 2 ^ 64 → first ≡ start
        → Allows K slots id m next_at (changed w u) (admits_try start rest ready (step slots next_at w u none) m)
    admits_try_at slots id k v w u start f m is few out word more same =
        subst
        (λ (p : SeatState D × (ℕ × ℕ)). Allows K slots id p.0 next_at (changed w p.1.0)
        (admits_try p.1.1 rest ready (step slots next_at w p.1.0 none) p.0))
        (λ i. (sym is i, (sym more i, same i))) (admits_try_ok slots id k v w f few out word)

    abbrev Opened : ℕ → History D → List (ℕ × Option (Guarded D)) → ℕ → SeatState D → Type 0
    Opened k f c r m = (o : Option Token) × (m ≡ (sole k f o, c)) × (o ≡ None)

    opens_gate_ok : (slots id k v : ℕ) (f : History D) (c : List (ℕ × Option (Guarded D)))
        (st : Step (Option (Guarded D)))
        → Allows K slots id (trying k f v, c) serving_at (λ r. (r + (2 ^ 64 - 1)) % 2 ^ 64)
        (opens_gate st (trying k f v, c))
    opens_gate_ok slots id k v f c st =
        let o : Option Token = Some (token.Gate v) in
        frame.told_as K slots id (trying k f v, c) serving_at (λ r. (r + (2 ^ 64 - 1)) % 2 ^ 64) _
        (opens_gate st (trying k f v, c))
        (λ r m (d : Opened k f c r m) j g y e is. let q = frame.sole_is k j f g o (Some (token.Gate y)) c e is in
        d.1 ∙ (λ i. (sole (q.0 i) (q.1 i) (d.2 i), q.3 i)))
        (frame.draws_ok (Initial first n) (WordsFit first n) rest ready kinds n slots id k serving_at f o c
        (λ r. (r + (2 ^ 64 - 1)) % 2 ^ 64) (λ p r. p ≡ None)
        (λ log tokens ws small same has t. (
          None,
          given_to tokens k None,
          given_here tokens k None,
          (λ j ne. given_else tokens k None j ne),
          gate_open log tokens ws k v has t,
          refl,
        )))

    pub opens_gate_at : (slots id k v : ℕ) (f : History D) (c : List (ℕ × Option (Guarded D)))
        (st : Step (Option (Guarded D))) (m : SeatState D)
        → m ≡ (trying k f v, c)
        → Allows K slots id m serving_at (λ r. (r + (2 ^ 64 - 1)) % 2 ^ 64) (opens_gate st m)
    opens_gate_at slots id k v f c st m is =
        subst (λ (p : SeatState D). Allows K slots id p serving_at (λ r. (r + (2 ^ 64 - 1)) % 2 ^ 64) (opens_gate st p))
        (sym is)
        (opens_gate_ok slots id k v f c st)

module _ {D : Type 0} {rest : Rest D} {ready : Ready D} {k v : ℕ} {m m' : SeatState D} where
  -- a place that tried still has the gate, admitted or not
  pub still_has : (first w : ℕ) (let_in : Bool) (f : History D) → IsTrying k f v m
      → (let_in ≡ false → (g : History D) → IsTrying k g v m → MissesTicket first rest ready w k g v m')
      → (let_in ≡ true → IsAdmitted rest ready k v m m')
      → HasGate m'
  still_has first w false f is missed hit = let t = missed refl f is in (k, t.0, v, [], t.1.me_is)
  still_has first w true f is missed hit = let t = hit refl f is in (k, _, v, _, t.1.me_is)

  -- an admitted place has no token, once the gate is open
  pub came_by : {f : History D} {x : Guarded D} → EnteredWith rest ready (Some (token.Gate v)) k f (Admit k) x (Some x)
      m
      → Reopened m m'
      → EnteredBy rest ready k f (Admit k) x (Some x) m'
  came_by {x = x} c reopened = record {
    log = c.log;
    me_is = reopened k (with_event c.log (Admit k x.state)) v ((0, Some x) ∷ []) c.me_is;
    begins = c.begins;
    own_are = c.own_are;
    stands = c.stands;
    book = c.book;
  }
