-- Each event of a history of readers and writers is a step of the model, a part of one, or none.
use Rattle.std.proofs.Common.{◌≡◌, ◌≢◌, ◌==◌, ◌&&◌, not, ℕ, zero, suc, ◌+◌, ◌-◌, ◌<◌, ◌⊎◌, inl, inr, List, []}
use Rattle.std.proofs.Common.{◌∷◌, ◌++◌, length, map, Bool, true, false, cond, leb, refl, ap, sym}
use Rattle.std.proofs.Common.{◌∙◌, subst, arith, append_assoc, eq-eqb}
use Rattle.std.specs.Prelude.{All, Result, nat_lt}
use Rattle.std.proofs.lemmas.Bool.Decides.{nat_tests}
use Rattle.std.proofs.lemmas.List.{append-nil, map-append, length-map}
use Rattle.std.proofs.lemmas.List.Elements.{All-cons, All-head, All-tail}
use Rattle.hoare_law.specs.declared.event.Event.{Event}
use Rattle.hoare_law.specs.declared.event.History.{History}
use Rattle.hoare_law.specs.declared.event.Event.TheVariants.{Admit, Wait, Signal, Pass, Leave, Resume, Back, Notify}
use Rattle.hoare_law.specs.declared.event.Event.TheVariants.{Broadcast, SignalTo}
use Rattle.hoare_law.specs.declared.turn.Turn.TheVariants.{Held}
use Rattle.hoare_law.specs.Events.{place_of, data_of}
use Rattle.hoare_law.specs.Waiting.{priority_of, waiting, Chooses}
use Rattle.hoare_law.specs.Turns.{turn}
use Rattle.hoare_law.specs.Priorities.{put_in, in_order, behind_first}
use Rattle.hoare_law.proofs.Sorted.{length-in_order}
use Rattle.hoare_law.proofs.Held.{Hand, by_pass, by_signal, handing, data_of-handing}
use Rattle.hoare_law.proofs.Held.{waits_on-handing, concerns-handing}
use Rattle.hoare_law.proofs.Priorities.{in_turn, in_turn-wait, in_turn-takes, in_turn-chosen, Chooses-chosen}
use Rattle.hoare_law.proofs.Resuming.{no_elements}
use Rattle.sweep_schedulers.specs.declared.readers_writers.ReadPass.{ReadPass}
use Rattle.sweep_schedulers.specs.declared.readers_writers.TooManyReaders.{TooManyReaders}
use Rattle.sweep_schedulers.specs.ReadersWriters.{Shared, with_readers, with_writer, written}
use Rattle.sweep_schedulers.specs.ReadersWritersTraces.{Admits, room, full}
use Rattle.sweep_schedulers.specs.Rounds.{Moment, HoldsUp, Round, over, admitted, Runs, reader_waits, reader_begins}
use Rattle.sweep_schedulers.specs.Rounds.{read_ends, last_read_ends, writer_waits, writer_begins, round_begins}
use Rattle.sweep_schedulers.specs.Rounds.{write_ends, writer_resumed}
use Rattle.sweep_schedulers.specs.Rounds as rounds
use Rattle.sweep_schedulers.specs.Follows.{Leaves, refused, ended, nobody_waits, returned}
use Rattle.sweep_schedulers.specs.SharedHistories.{sharing_procedures, IsSharedHistory}
use Rattle.sweep_schedulers.specs.SharedHistories.{IsHeldUp, Reads, reads_at_once, reads_resumed, Ends, read_begins}
use Rattle.sweep_schedulers.specs.SharedHistories.{last_read, to_readers, to_writers, Waits, to_read, to_write}
use Rattle.sweep_schedulers.specs.SharedHistories.{Goes, others_read, writes_at_once, writes_resumed, Counts, counting}
use Rattle.sweep_schedulers.specs.SharedHistories.{counted_in}
use Rattle.sweep_schedulers.proofs.Histories as histories

some_length : {X : Type 0} (xs : List X) → xs ≢ [] → 0 < length xs
some_length [] some = absurd (some refl)
some_length (x ∷ xs) some = omega arith

-- the boolean tests of the counts
no_more : (n : ℕ) → nat_lt n n ≡ false
no_more n = grind (arith, nat_tests)

one_more : (n : ℕ) → nat_lt n (n + 1) ≡ true
one_more n = grind (arith, nat_tests)

fewer : (n : ℕ) → nat_lt n (n - 1) ≡ false
fewer n = grind (arith, nat_tests)

not_and : (b : Bool) → (not b && b) ≡ false
not_and true = refl
not_and false = refl

and_not : (b c : Bool) → (b && (not b && c)) ≡ false
and_not true c = refl
and_not false c = refl

add_none : (n : ℕ) → n + 0 ≡ n
add_none n = omega arith

not_busy : (b : Bool) → (b ≡ true → ⊥) → b ≡ false
not_busy true never = absurd (never refl)
not_busy false never = refl

no_less : (n : ℕ) → nat_lt n 0 ≡ false
no_less n = grind (arith, nat_tests)

nothing_less : (n : ℕ) → n ≡ 0 → nat_lt 0 n ≡ false
nothing_less n is = ap (λ i. nat_lt 0 i) is

some_less : (n : ℕ) → 0 < n → nat_lt 0 n ≡ true
some_less n more = grind (arith, nat_tests)

module _ {T : Type 0} where
  -- as many wait as wait in turn
  in_count : (f : List (Event (Shared T))) (c : ℕ) → length (waiting c f) ≡ length (in_turn f c)
  in_count f c = sym (length-in_order priority_of (waiting c f))

  -- a wait with priority 0 is put in last
  put_last : (w : Event (Shared T)) (xs : List (Event (Shared T))) → All (λ y. priority_of y ≡ 0) xs
      → put_in priority_of w xs ≡ xs ++ w ∷ []
  put_last w [] zeros = refl
  put_last w (x ∷ xs) zeros =
      let none : priority_of x ≡ 0 = All-head (λ y. priority_of y ≡ 0) x xs zeros in
      let le : leb (priority_of x) (priority_of w) ≡ true = grind (arith, nat_tests) in
      rw le (ap (λ l. x ∷ l) (put_last w xs (All-tail (λ y. priority_of y ≡ 0) x xs zeros)))

  length_put : (w : Event (Shared T)) (xs : List (Event (Shared T)))
      → length (put_in priority_of w xs) ≡ suc (length xs)
  length_put w [] = refl
  length_put w (x ∷ xs) = by (leb (priority_of x) (priority_of w)) (length_put w xs)
    where
      by : (t : Bool) → length (put_in priority_of w xs) ≡ suc (length xs)
          → length (cond t (x ∷ put_in priority_of w xs) (w ∷ x ∷ xs)) ≡ suc (length (x ∷ xs))
      by true rest = ap suc rest
      by false rest = refl

  zeros_put : (w : Event (Shared T)) (xs : List (Event (Shared T))) → priority_of w ≡ 0
      → All (λ y. priority_of y ≡ 0) xs → All (λ y. priority_of y ≡ 0) (xs ++ w ∷ [])
  zeros_put w [] none zeros = All-cons (λ y. priority_of y ≡ 0) w [] none zeros
  zeros_put w (x ∷ xs) none zeros = All-cons (λ y. priority_of y ≡ 0) x (xs ++ w ∷ [])
      (All-head (λ y. priority_of y ≡ 0) x xs zeros)
      (zeros_put w xs none (All-tail (λ y. priority_of y ≡ 0) x xs zeros))

  -- the counts after an event, from the three tests
  counts_are : (f : List (Event (Shared T))) (s : Shared T) (n : Counts) (e : Event (Shared T)) (a b c : Bool)
      → nat_lt s.readers (data_of e).readers ≡ a → (not s.busy && (data_of e).busy) ≡ b
      → (s.busy && (not (data_of e).busy && nat_lt 0 (length (waiting 0 f)))) ≡ c
      → counting f s n e ≡ record {
        reads = n.reads + cond a 1 0;
        writes = n.writes ++ cond b (place_of e ∷ []) [];
        rounds = cond c (length (waiting 0 f) ∷ n.rounds) n.rounds;
      }
  counts_are f s n e a b c more writer round = λ i. record {
    reads = n.reads + cond (more i) 1 0;
    writes = n.writes ++ cond (writer i) (place_of e ∷ []) [];
    rounds = cond (round i) (length (waiting 0 f) ∷ n.rounds) n.rounds;
  }

  -- no count changes
  counts_same : (f : List (Event (Shared T))) (s : Shared T) (n : Counts) (e : Event (Shared T))
      → nat_lt s.readers (data_of e).readers ≡ false → (data_of e).busy ≡ s.busy → counting f s n e ≡ n
  counts_same f s n e more busy =
      counts_are f s n e false false false more (ap (λ b. not s.busy && b) busy ∙ not_and s.busy)
      (ap (λ b. s.busy && (not b && nat_lt 0 (length (waiting 0 f)))) busy
      ∙ and_not s.busy (nat_lt 0 (length (waiting 0 f))))
      ∙ (λ i. record { reads = add_none n.reads i; writes = append-nil n.writes i; rounds = n.rounds })

  counts_as_left : (f : List (Event (Shared T))) (s : Shared T) (n : Counts) (e : Event (Shared T)) → data_of e ≡ s
      → counting f s n e ≡ n
  counts_as_left f s n e same =
      counts_same f s n e (ap (λ (t : Shared T). nat_lt s.readers t.readers) same ∙ no_more s.readers)
      (ap (λ (t : Shared T). t.busy) same)

  -- one more reader is in
  counts_read : (f : List (Event (Shared T))) (s : Shared T) (n : Counts) (e : Event (Shared T))
      → data_of e ≡ with_readers s (s.readers + 1)
      → counting f s n e ≡ record { reads = n.reads + 1; writes = n.writes; rounds = n.rounds }
  counts_read f s n e is =
      counts_are f s n e true false false
      (ap (λ (t : Shared T). nat_lt s.readers t.readers) is ∙ one_more s.readers)
      (ap (λ (t : Shared T). not s.busy && t.busy) is ∙ not_and s.busy)
      (ap (λ (t : Shared T). s.busy && (not t.busy && nat_lt 0 (length (waiting 0 f)))) is
      ∙ and_not s.busy (nat_lt 0 (length (waiting 0 f))))
      ∙ (λ i. record { reads = n.reads + 1; writes = append-nil n.writes i; rounds = n.rounds })

  -- the last reader left
  counts_last : (f : List (Event (Shared T))) (s a : Shared T) (n : Counts) (e : Event (Shared T)) → s ≡ a
      → data_of e ≡ with_readers a 0 → counting f s n e ≡ n
  counts_last f s a n e same to =
      counts_same f s n e (ap (λ (t : Shared T). nat_lt s.readers t.readers) to ∙ no_less s.readers)
      (ap (λ (t : Shared T). t.busy) to ∙ ap (λ (t : Shared T). t.busy) (sym same))

  -- a writer is in
  counts_write : (f : List (Event (Shared T))) (s : Shared T) (n : Counts) (e : Event (Shared T)) → s.busy ≡ false
      → data_of e ≡ with_writer s
      → counting f s n e ≡ record { reads = n.reads; writes = n.writes ++ place_of e ∷ []; rounds = n.rounds }
  counts_write f s n e free is =
      counts_are f s n e false true false
      (ap (λ (t : Shared T). nat_lt s.readers t.readers) is ∙ no_more s.readers)
      (ap (λ (t : Shared T). not s.busy && t.busy) is ∙ ap (λ b. not b && true) free)
      (ap (λ b. b && (not (data_of e).busy && nat_lt 0 (length (waiting 0 f)))) free)
      ∙ (λ i. record { reads = add_none n.reads i; writes = n.writes ++ place_of e ∷ []; rounds = n.rounds })

  -- a write ended
  counts_ended : (f : List (Event (Shared T))) (s : Shared T) (n : Counts) (e : Event (Shared T)) (value : T) (c : Bool)
      → s.busy ≡ true → data_of e ≡ written s value → nat_lt 0 (length (waiting 0 f)) ≡ c
      → counting f s n e ≡ record {
        reads = n.reads;
        writes = n.writes;
        rounds = cond c (length (waiting 0 f) ∷ n.rounds) n.rounds;
      }
  counts_ended f s n e value c in_use is some =
      counts_are f s n e false false c
      (ap (λ (t : Shared T). nat_lt s.readers t.readers) is ∙ no_more s.readers)
      (ap (λ b. not b && (data_of e).busy) in_use)
      (ap (λ b. b && (not (data_of e).busy && nat_lt 0 (length (waiting 0 f)))) in_use
      ∙ ap (λ (t : Shared T). not t.busy && nat_lt 0 (length (waiting 0 f))) is ∙ some)
      ∙ (λ i. record {
        reads = add_none n.reads i;
        writes = append-nil n.writes i;
        rounds = cond c (length (waiting 0 f) ∷ n.rounds) n.rounds;
      })

-- H is a history of the procedures, and the runs begin with these data, readers and writers
module _ {T : Type 0} (H : History (Shared T)) (used : IsSharedHistory H) (s0 : Shared T) (r0 : ℕ) (ws0 : List ℕ) where
  abbrev now : List (Event (Shared T)) → Shared T
  now f = histories.now H used f

  abbrev Waiters : Type 0
  Waiters = ℕ → List (Event (Shared T))

  abbrev moment_at : Shared T → ℕ → List ℕ → Counts → Moment T
  moment_at s readers ws n = record {
    state = s;
    to_read = readers;
    to_write = ws;
    reads = n.reads;
    writes = n.writes;
    rounds = n.rounds;
  }

  abbrev moment : Shared T → Waiters → Counts → Moment T
  moment s q n = moment_at s (length (q 0)) (map place_of (q 1)) n

  abbrev Reached : Moment T → Type 0
  Reached m = Runs s0 r0 ws0 m

  -- all writers wait with priority 0, and the moment is one of the run
  abbrev AtRest : Shared T → Waiters → Counts → Type 0
  AtRest s q n = All (λ y. priority_of y ≡ 0) (q 1) × Reached (moment s q n)

  abbrev more_reads : Counts → ℕ → Counts
  more_reads n more = record { reads = n.reads + more; writes = n.writes; rounds = n.rounds }

  -- e is what the round that goes on leaves, after `more` more reads
  abbrev ended_round : Shared T → Waiters → Counts → ℕ → Moment T
  ended_round e q n more = moment_at e 0 (map place_of (q 1)) (more_reads n more)

  -- a reader comes: it and the readers that wait will end the round
  abbrev Pending : Shared T → Waiters → Counts → Type 0
  Pending s q n = (e : Shared T) (more : ℕ) → Round s (suc (length (q 0))) e more → Reached (ended_round e q n more)

  abbrev begun : ℕ → Counts → Counts
  begun w n = record { reads = n.reads; writes = n.writes ++ w ∷ []; rounds = n.rounds }

  -- w is to resume as a reader, or as the writer
  abbrev Comes : (w c p : ℕ) → Shared T → Waiters → Counts → Type 0
  Comes w zero p s q n = All (λ y. priority_of y ≡ 0) (q 1) × Pending s q n
  Comes w (suc c) p s q n = All (λ y. priority_of y ≡ 0) (q 1) × Reached (moment (with_writer s) q (begun w n))

  abbrev pub Now : List (Event (Shared T)) → Counts → Type 0
  Now f n = histories.Now H used AtRest Comes f n

  -- the place inside leaves: the next moment, with these counts, if it is a moment of the run
  left : (f later : List (Event (Shared T))) (j : ℕ) (s : Shared T) (n n1 : Counts) → H.events ≡ f ++ Leave j s ∷ later
      → counting f (now f) n (Leave j s) ≡ n1 → AtRest s (in_turn f) n1
      → Now (f ++ Leave j s ∷ []) (counting f (now f) n (Leave j s))
  left f later j s n n1 is counted fit =
      subst (Now (f ++ Leave j s ∷ [])) (sym counted)
      (histories.Now-leave H used f later j s n1 is fit)

  -- an entry, a resumption and a return change no count
  quiet : (f : List (Event (Shared T))) (e : Event (Shared T)) (n : Counts) → data_of e ≡ now f → Now (f ++ e ∷ []) n
      → Now (f ++ e ∷ []) (counting f (now f) n e)
  quiet f e n found next = subst (Now (f ++ e ∷ [])) (sym (counts_as_left f (now f) n e found)) next

  -- a reader that found this left s: it was admitted, and its read began, or it was refused
  abbrev IsAdmitted : Shared T → Shared T → Type 0
  IsAdmitted found s =
      ((s ≡ with_readers found (found.readers + 1))
      × ((e : Shared T) (n more : ℕ) → Round s n e more → Round found (suc n) e (suc more)))
      ⊎ ((s ≡ found) × ((e : Shared T) (n more : ℕ) → Round s n e more → Round found (suc n) e more))

  admits_is : (found s : Shared T) (read : Result (ReadPass × T) TooManyReaders) → Admits found s read
      → IsAdmitted found s
  admits_is found s read (room pass less) =
      inl (refl, λ e n more rest. admitted found _ e n more (pass, found.value) (room pass less) rest)
  admits_is found s read (full x most) =
      inr (refl, λ e n more rest. rounds.refused found _ e n more x (full x most) rest)

  -- the model's readers are held up if, and only if, a reader is
  held_up : (f : List (Event (Shared T))) (s : Shared T) (n : Counts) → IsHeldUp f s → HoldsUp (moment s (in_turn f) n)
  held_up f s n (inl in_use) = inl in_use
  held_up f s n (inr some) =
      inr (λ empty. some (no_elements (waiting 1 f)
      (in_count f 1 ∙ sym (length-map (in_turn f 1) place_of) ∙ ap length empty)))

  not_held_up : (f : List (Event (Shared T))) (s : Shared T) (n : Counts) → (IsHeldUp f s → ⊥)
      → HoldsUp (moment s (in_turn f) n) → ⊥
  not_held_up f s n free (inl in_use) = free (inl in_use)
  not_held_up f s n free (inr some) =
      free (inr (λ empty. some (ap (λ ws. map place_of (in_order priority_of ws)) empty)))

  -- a reader that came to read found this
  came : (f : List (Event (Shared T))) (n : Counts) (j : ℕ) (found : Shared T) → turn f ≡ Held j → Reads j f found
      → Now f n → (now f ≡ found) × All (λ y. priority_of y ≡ 0) (in_turn f 1)
  came f n j found held (reads_at_once mine free) here =
      let r = histories.Now-entered H used f j found n held mine here in (r.0, r.1.0)
  came f n j found held (reads_resumed a r) here =
      let c = histories.Now-resumed H used f j 0 0 a found n held r here in (c.0, c.1.0)

  -- the moment at which the round of a last reader ends
  round_ends : (f : List (Event (Shared T))) (j : ℕ) (found s : Shared T) (n : Counts) (more : ℕ) → turn f ≡ Held j
      → Reads j f found → Now f n → Round found (suc (length (in_turn f 0))) s more
      → Reached (ended_round s (in_turn f) n more)
  round_ends f j found s n more held (reads_at_once mine free) here round =
      reader_begins (moment found (in_turn f) n) s more (histories.Now-entered H used f j found n held mine here).1.1
      (not_held_up f found n free) round
  round_ends f j found s n more held (reads_resumed a r) here round =
      (histories.Now-resumed H used f j 0 0 a found n held r here).1.1 s more round

  -- what a last act leaves that signals on c, with these data: the counts after it are those named. If a reader waits,
  -- it and all others resume, and end the round; if a writer does, it resumes
  data Signals (f : List (Event (Shared T))) (e : Event (Shared T)) (n : Counts) (c : ℕ) (s : Shared T) : Type 0 where
    to_reader : (n1 : Counts) → c ≡ 0 → counting f (now f) n e ≡ n1 → All (λ y. priority_of y ≡ 0) (in_turn f 1)
        → ((x : Shared T) (more : ℕ) → Round s (length (in_turn f 0)) x more
        → Reached (ended_round x (in_turn f) n1 more)) → Signals f e n c s
    to_writer : c ≡ 1 → counting f (now f) n e ≡ n → All (λ y. priority_of y ≡ 0) (in_turn f 1)
        → Reached (writer_resumed (map place_of (in_turn f 1)) (moment s (in_turn f) n)) → Signals f e n c s

  signals : (f : List (Event (Shared T))) (e : Event (Shared T)) (n : Counts) (j c : ℕ) (s : Shared T)
      → turn f ≡ Held j → data_of e ≡ s → Now f n → Ends j c f s → Signals f e n c s
  signals f e n j c s held found here (read_begins x read reads admits on) = by (admits_is x s read admits)
    where
      seen : (now f ≡ x) × All (λ y. priority_of y ≡ 0) (in_turn f 1)
      seen = came f n j x held reads here

      plus_suc : (a b : ℕ) → a + suc b ≡ a + 1 + b
      plus_suc a b = omega arith

      by : IsAdmitted x s → Signals f e n c s
      by (inl r) =
          to_reader (more_reads n 1) on
          (counts_read f (now f) n e
          (found ∙ r.0 ∙ ap (λ (t : Shared T). with_readers t (t.readers + 1)) (sym seen.0)))
          seen.1
          (λ y more round. subst (λ (i : ℕ). Reached (moment_at y 0 (map place_of (in_turn f 1)) (record {
            reads = i;
            writes = n.writes;
            rounds = n.rounds;
          }))) (plus_suc n.reads more)
          (round_ends f j x y n (suc more) held reads here (r.1 y (length (in_turn f 0)) more round)))
      by (inr r) =
          to_reader n on (counts_as_left f (now f) n e (found ∙ r.0 ∙ sym seen.0)) seen.1
          (λ y more round. round_ends f j x y n more held reads here (r.1 y (length (in_turn f 0)) more round))
  signals f e n j c s held found here (last_read a mine one to on) =
      let r = histories.Now-entered H used f j a n held mine here in
      to_writer on (counts_last f (now f) a n e r.0 (found ∙ to)) r.1.0
      (subst (λ (t : Shared T). Reached (writer_resumed (map place_of (in_turn f 1)) (moment t (in_turn f) n)))
      (sym to) (last_read_ends (moment a (in_turn f) n) r.1.1 one))
  signals f e n j c s held found here (to_writers a value mine in_use empty to on) =
      let r = histories.Now-entered H used f j a n held mine here in
      to_writer on
      (counts_ended f (now f) n e value false (ap (λ (t : Shared T). t.busy) r.0 ∙ in_use)
      (found ∙ to ∙ ap (λ t. written t value) (sym r.0)) (nothing_less _ (ap length empty)))
      r.1.0
      (subst (λ (t : Shared T). Reached (writer_resumed (map place_of (in_turn f 1)) (moment t (in_turn f) n)))
      (sym to)
      (write_ends (moment a (in_turn f) n) value r.1.1 in_use (sym (in_count f 0) ∙ ap length empty)))
  signals f e n j c s held found here (to_readers a value mine in_use some to on) =
      let r = histories.Now-entered H used f j a n held mine here in
      let above : 0 < length (waiting 0 f) = some_length (waiting 0 f) some in
      to_reader (record { reads = n.reads; writes = n.writes; rounds = length (waiting 0 f) ∷ n.rounds }) on
      (counts_ended f (now f) n e value true (ap (λ (t : Shared T). t.busy) r.0 ∙ in_use)
      (found ∙ to ∙ ap (λ t. written t value) (sym r.0)) (some_less (length (waiting 0 f)) above))
      r.1.0
      (λ x more round. subst
      (λ (i : ℕ). Reached (moment_at x 0 (map place_of (in_turn f 1)) (record {
        reads = n.reads + more;
        writes = n.writes;
        rounds = i ∷ n.rounds;
      }))) (sym (in_count f 0))
      (round_begins (moment a (in_turn f) n) value x more r.1.1 in_use
      (subst (λ (i : ℕ). 0 < i) (in_count f 0) above)
      (subst (λ (t : Shared T). Round t (length (in_turn f 0)) x more) to round)))

  step_leave : (f later : List (Event (Shared T))) (j : ℕ) (s : Shared T) (n : Counts)
      → H.events ≡ f ++ Leave j s ∷ later → Now f n → Now (f ++ Leave j s ∷ []) (counting f (now f) n (Leave j s))
  step_leave f later j s n is here = by (histories.continues H used f later e is)
    where
      e : Event (Shared T)
      e = Leave j s

      held : turn f ≡ Held j
      held = (used.stands.legal.each f later e is).fits

      as_found : (now f ≡ s) → AtRest s (in_turn f) n → Now (f ++ e ∷ []) (counting f (now f) n e)
      as_found found fit = left f later j s n n is (counts_as_left f (now f) n e (sym found)) fit

      -- no process waits where it would signal
      ends_by : (c : ℕ) → waiting c f ≡ [] → Signals f e n c s → Now (f ++ e ∷ []) (counting f (now f) n e)
      ends_by c empty (to_reader n1 on counted zeros run) =
          let none : 0 ≡ length (in_turn f 0) =
          sym (sym (in_count f 0) ∙ ap length (subst (λ (b : ℕ). waiting b f ≡ []) on empty)) in
          left f later j s n n1 is counted (
            zeros,
            subst Reached (λ i. moment_at s (none i) (map place_of (in_turn f 1)) (record {
              reads = add_none n1.reads i;
              writes = n1.writes;
              rounds = n1.rounds;
            })) (run s 0 (subst (λ (i : ℕ). Round s i s 0) none (over s))),
          )
      ends_by c empty (to_writer on counted zeros run) =
          left f later j s n n is counted (
            zeros,
            subst (λ (ws : List ℕ). Reached (writer_resumed ws (moment s (in_turn f) n)))
                (ap (λ l. map place_of (in_order priority_of l)) (subst (λ (b : ℕ). waiting b f ≡ []) on empty)) run,
          )

      goes : Goes j f s → Now (f ++ e ∷ []) (counting f (now f) n e)
      goes (others_read a mine more to) =
          let r = histories.Now-entered H used f j a n held mine here in
          left f later j s n n is
          (counts_same f (now f) n e
          (ap (λ (t : Shared T). nat_lt t.readers s.readers) r.0
          ∙ ap (λ (t : Shared T). nat_lt a.readers t.readers) to ∙ fewer a.readers)
          (ap (λ (t : Shared T). t.busy) to ∙ ap (λ (t : Shared T). t.busy) (sym r.0))) (
            r.1.0,
            subst (λ (t : Shared T). Reached (moment t (in_turn f) n)) (sym to)
                (read_ends (moment a (in_turn f) n) r.1.1 more),
          )
      goes (writes_at_once a mine free to) =
          let r = histories.Now-entered H used f j a n held mine here in
          left f later j s n (begun j n) is
          (counts_write f (now f) n e
          (ap (λ (t : Shared T). t.busy) r.0 ∙ not_busy a.busy (λ in_use. free (inr in_use)))
          (to ∙ ap with_writer (sym r.0))) (
            r.1.0,
            subst (λ (t : Shared T). Reached (moment t (in_turn f) (begun j n))) (sym to)
                (writer_begins (moment a (in_turn f) n) j r.1.1 free),
          )
      goes (writes_resumed a found r to) =
          let c = histories.Now-resumed H used f j 1 0 a found n
          held r here in
          let calm = histories.ready_coming H used f (e ∷ later) is j 1 0 a
          (histories.resumed_found H used f j 1 0 a found held r).1 in
          left f later j s n (begun j n) is (counts_write f (now f) n e calm.no_writer (to ∙ ap with_writer (sym c.0)))
          (c.1.0, subst (λ (t : Shared T). Reached (moment t (in_turn f) (begun j n))) (sym to) c.1.1)

      by : Leaves sharing_procedures j f s → Now (f ++ e ∷ []) (counting f (now f) n e)
      by (refused mine) = let r = histories.Now-entered H used f j s n held mine here in as_found r.0 r.1
      by (returned mine) =
          let r = histories.Now-returned H used f j s n held mine
          here in as_found r.0 r.1
      by (ended way) = goes way
      by (nobody_waits c ends empty) = ends_by c empty (signals f e n j c s held refl here ends)

  -- the place inside waits
  step_wait : (f later : List (Event (Shared T))) (j c p : ℕ) (s : Shared T) (n : Counts)
      → H.events ≡ f ++ Wait j c p s ∷ later → Now f n
      → Now (f ++ Wait j c p s ∷ []) (counting f (now f) n (Wait j c p s))
  step_wait f later j c p s n is here =
      by (histories.continues H used f later e is)
    where
      e : Event (Shared T)
      e = Wait j c p s

      g : List (Event (Shared T))
      g = f ++ e ∷ []

      held : turn f ≡ Held j
      held = (used.stands.legal.each f later e is).fits

      lists : (d : ℕ) → in_turn g d ≡ cond (d == c) (put_in priority_of e (in_turn f d)) (in_turn f d)
      lists d = in_turn-wait f j c p d s held

      next : (now f ≡ s) → AtRest s (in_turn g) n → Now g (counting f (now f) n e)
      next found fit =
          quiet f e n (sym found)
          (histories.Now-wait H used f later j c p s n is fit)

      by : Waits j c p f s → Now g (counting f (now f) n e)
      by (to_read mine up on none) =
          let r = histories.Now-entered H used f j s n held mine here in
          let reading : in_turn g 0 ≡ put_in priority_of e (in_turn f 0) =
          lists 0 ∙ ap (λ b. cond (0 == b) (put_in priority_of e (in_turn f 0)) (in_turn f 0)) on in
          let writing : in_turn g 1 ≡ in_turn f 1 =
          lists 1 ∙ ap (λ b. cond (1 == b) (put_in priority_of e (in_turn f 1)) (in_turn f 1)) on in
          let longer : suc (length (in_turn f 0)) ≡ length (in_turn g 0) =
          sym (ap length reading ∙ length_put e (in_turn f 0)) in
          let one : length (in_turn f 0) + 1 ≡ length (in_turn g 0) = omega (arith, longer) in
          next r.0 (
            subst (All (λ y. priority_of y ≡ 0)) (sym writing) r.1.0,
            subst Reached (λ i. moment_at s (one i) (map place_of (sym writing i)) n)
                (reader_waits (moment s (in_turn f) n) r.1.1 (held_up f s n up)),
          )
      by (to_write mine in_use on none) =
          let r = histories.Now-entered H used f j s n held mine here in
          let reading : in_turn g 0 ≡ in_turn f 0 =
          lists 0 ∙ ap (λ b. cond (0 == b) (put_in priority_of e (in_turn f 0)) (in_turn f 0)) on in
          let writing : in_turn g 1 ≡ in_turn f 1 ++ e ∷ [] =
          lists 1 ∙ ap (λ b. cond (1 == b) (put_in priority_of e (in_turn f 1)) (in_turn f 1)) on
          ∙ put_last e (in_turn f 1) r.1.0 in
          let places : map place_of (in_turn f 1) ++ j ∷ [] ≡ map place_of (in_turn g 1) =
          sym (ap (map place_of) writing ∙ map-append place_of (in_turn f 1) (e ∷ [])) in
          next r.0 (
            subst (All (λ y. priority_of y ≡ 0)) (sym writing) (zeros_put e (in_turn f 1) none r.1.0),
            subst Reached (λ i. moment_at s (length (sym reading i)) (places i) n)
                (writer_waits (moment s (in_turn f) n) j r.1.1 in_use),
          )

  -- the place inside hands the monitor off to w
  step_hand : (out : Hand) (f later : List (Event (Shared T))) (j c w : ℕ) (s : Shared T) (n : Counts)
      → H.events ≡ f ++ handing out j c w s ∷ later → turn f ≡ Held j → Chooses c f w → Ends j c f s → Now f n
      → Now (f ++ handing out j c w s ∷ []) (counting f (now f) n (handing out j c w s))
  step_hand out f later j c w s n is held chooses ends here =
      by (signals f e n j c s held (data_of-handing out j c w s) here ends)
    where
      e : Event (Shared T)
      e = handing out j c w s

      g : List (Event (Shared T))
      g = f ++ e ∷ []

      left_as : now g ≡ s
      left_as = histories.now-push H used f e ∙ data_of-handing out j c w s

      lists : (d : ℕ) → in_turn g d ≡ cond (d == c) (behind_first (in_turn f d)) (in_turn f d)
      lists d = in_turn-takes f e j c w d (waits_on-handing out d j c w s) (λ i. concerns-handing out d i j c w s)
          held chooses

      first : (b : ℕ) → c ≡ b
          → (y : Event (Shared T)) × (in_turn f b ≡ y ∷ behind_first (in_turn f b)) × (place_of y ≡ w)
      first b on =
          let r = Chooses-chosen c w f chooses in
          (r.0, subst (λ (d : ℕ). in_turn f d ≡ r.0 ∷ behind_first (in_turn f d)) on (in_turn-chosen c f r.0 r.1), r.2)

      left_behind : (b : ℕ) → c ≡ b → behind_first (in_turn f b) ≡ in_turn g b
      left_behind b on =
          sym (lists b ∙ ap (λ t. cond t (behind_first (in_turn f b)) (in_turn f b)) (eq-eqb b c (sym on)))

      hands : (b : ℕ) → c ≡ b → (n1 : Counts) → counting f (now f) n e ≡ n1
          → ((p : ℕ) → Comes w b p (now g) (in_turn g) n1) → Now g (counting f (now f) n e)
      hands b on n1 counted fit =
          subst (Now g) (sym counted)
          (histories.Now-hand H used out f j c w s n1
          (λ p a come. subst (λ (i : ℕ). Comes w i p (now g) (in_turn g) n1) (sym on) (fit p)))

      by : Signals f e n c s → Now g (counting f (now f) n e)
      by (to_reader n1 on counted zeros run) =
          let one_left : suc (length (in_turn g 0)) ≡ length (in_turn f 0) =
          ap (λ l. suc (length l)) (sym (left_behind 0 on)) ∙ sym (ap length (first 0 on).1) in
          let writing : in_turn f 1 ≡ in_turn g 1 =
          sym (lists 1 ∙ ap (λ b. cond (1 == b) (behind_first (in_turn f 1)) (in_turn f 1)) on) in
          hands 0 on n1 counted (λ p. (
            subst (All (λ y. priority_of y ≡ 0)) writing zeros,
            λ x more round. subst Reached (λ i. moment_at x 0 (map place_of (writing i)) (more_reads n1 more))
                (run x more (subst (λ (t : Shared T). Round t (length (in_turn f 0)) x more) left_as
                (subst (λ (i : ℕ). Round (now g) i x more) one_left round))),
          ))
      by (to_writer on counted zeros run) =
          let y = first 1 on in
          let rest = left_behind 1 on in
          let reading : in_turn f 0 ≡ in_turn g 0 =
          sym (lists 0 ∙ ap (λ b. cond (0 == b) (behind_first (in_turn f 0)) (in_turn f 0)) on) in
          hands 1 on n counted (λ p. (
            subst (All (λ y. priority_of y ≡ 0)) rest
                (All-tail (λ y. priority_of y ≡ 0) y.0 (behind_first (in_turn f 1))
                (subst (All (λ y. priority_of y ≡ 0)) y.1 zeros)),
            subst Reached (λ i. moment_at (with_writer (sym left_as i)) (length (reading i)) (map place_of (rest i))
                (begun (y.2 i) n))
                (subst
                (λ (l : List (Event (Shared T))). Reached (writer_resumed (map place_of l) (moment s (in_turn f) n)))
                y.1 run),
          ))

  step : (f later : List (Event (Shared T))) (e : Event (Shared T)) (n : Counts) → H.events ≡ f ++ e ∷ later → Now f n
      → Now (f ++ e ∷ []) (counting f (now f) n e)
  step f later (Admit j s) n is here =
      quiet f (Admit j s) n (used.stands.legal.each f later (Admit j s) is).fits.2
      (histories.Now-admit H used f later j s n is here)
  step f later (Back j s) n is here =
      quiet f (Back j s) n (used.stands.legal.each f later (Back j s) is).fits.1
      (histories.Now-back H used f later j s n is here)
  step f later (Resume j c s) n is here =
      quiet f (Resume j c s) n (used.stands.legal.each f later (Resume j c s) is).fits.1
      (histories.Now-resume H used f later j c s n is here)
  step f later (Leave j s) n is here = step_leave f later j s n is here
  step f later (Wait j c p s) n is here = step_wait f later j c p s n is here
  step f later (Signal j c w s) n is here =
      let a = (used.stands.legal.each f later (Signal j c w s) is).fits in
      step_hand by_signal f later j c w s n is a.0 a.1 (histories.continues H used f later (Signal j c w s) is) here
  step f later (Pass j c w s) n is here =
      let a = (used.stands.legal.each f later (Pass j c w s) is).fits in
      step_hand by_pass f later j c w s n is a.0 a.1 (histories.continues H used f later (Pass j c w s) is) here
  step f later (SignalTo j c w s) n is here = absurd (histories.continues H used f later (SignalTo j c w s) is)
  step f later (Notify j c w s) n is here = absurd (histories.continues H used f later (Notify j c w s) is)
  step f later (Broadcast j c s) n is here = absurd (histories.continues H used f later (Broadcast j c s) is)

  -- the events `mid` after f
  pub run : (f mid later : List (Event (Shared T))) (n : Counts) → H.events ≡ f ++ (mid ++ later) → Now f n
      → Now (f ++ mid) (counted_in f (now f) n mid)
  run f [] later n is here = subst (λ (l : List (Event (Shared T))). Now l n) (sym (append-nil f)) here
  run f (e ∷ mid) later n is here =
      let next = run (f ++ e ∷ []) mid later (counting f (now f) n e)
      (is ∙ sym (append_assoc f (e ∷ []) (mid ++ later))) (step f (mid ++ later) e n is here) in
      subst (λ (l : List (Event (Shared T))). Now l (counted_in (f ++ e ∷ []) (data_of e) (counting f (now f) n e) mid))
      (append_assoc f (e ∷ []) mid)
      (subst (λ (s : Shared T). Now ((f ++ e ∷ []) ++ mid) (counted_in (f ++ e ∷ []) s (counting f (now f) n e) mid))
      (histories.now-push H used f e) next)

  -- a settled moment, with as many readers as wait
  abbrev pub MomentAt : List (Event (Shared T)) → Counts → Type 0
  MomentAt f n = Reached (moment_at (now f) (length (waiting 0 f)) (map place_of (in_turn f 1)) n)

  pub begins_at : (f : List (Event (Shared T))) (n : Counts) → histories.IsSettled H used f
      → All (λ y. priority_of y ≡ 0) (in_turn f 1) → MomentAt f n → Now f n
  begins_at f n calm zeros run =
      histories.Now-settled H used f n calm
      (zeros, subst (λ (i : ℕ). Reached (moment_at (now f) i (map place_of (in_turn f 1)) n)) (in_count f 0) run)

  pub reaches_at : (f : List (Event (Shared T))) (n : Counts) → histories.IsSettled H used f → Now f n → MomentAt f n
  reaches_at f n calm here =
      subst (λ (i : ℕ). Reached (moment_at (now f) i (map place_of (in_turn f 1)) n)) (sym (in_count f 0))
      (here.settled calm).1
