-- The number of reads and writes that begin before a waiting writer, and before a waiting reader.
use Rattle.std.proofs.Common.{◌≡◌, ◌≢◌, ℕ, ◌+◌, ◌*◌, ◌<◌, ◌≤◌, List, [], ◌∷◌, ◌++◌, true, false}
use Rattle.std.proofs.Common.{length, Some, refl, inl, inr, sym, ◌∙◌, arith}
use Rattle.std.specs.Prelude.{All}
use Rattle.std.specs.List.{sum}
use Rattle.std.proofs.lemmas.List.{append-nil, append_assoc, length-append}
use Rattle.std.proofs.lemmas.List.Elements.{All-head, All-tail, All-pop}
use Rattle.std.proofs.lemmas.List.Sums.{sum_by-cons}
use Rattle.std.proofs.lemmas.Nat.{mul-le}
use Rattle.sweep_schedulers.specs.ReadersWriters.{Shared, with_readers, written}
use Rattle.sweep_schedulers.specs.Rounds.{Moment, Rests, Round, over, admitted, refused, Runs, none}
use Rattle.sweep_schedulers.specs.Rounds.{reader_waits, reader_begins, read_ends, last_read_ends, writer_waits}
use Rattle.sweep_schedulers.specs.Rounds.{writer_begins, round_begins, write_ends, writer_resumed, counted_from}
use Rattle.sweep_schedulers.specs.Rounds.{writers_in, WriterWaits, ReaderWaits}
use Rattle.sweep_schedulers.proofs.Rounds.{Runs-rests, Runs-in_turn, round_rests, written_ready, a_writer_waits}
use Rattle.sweep_schedulers.proofs.Readers.{not_true}
use Rattle.sweep_schedulers.proofs.Rounds.{without_writer, places_wait}

-- if w isn't among xs, those of xs are before w, and w is still among the others
split_before : (w : ℕ) (xs ys before rest : List ℕ) → All (λ k. k ≢ w) xs → xs ++ ys ≡ before ++ w ∷ rest
    → (left : List ℕ) × (before ≡ xs ++ left) × (ys ≡ left ++ w ∷ rest)
split_before w [] ys before rest other e = (before, refl, e)
split_before w (x ∷ xs) ys [] rest other e =
    let is : x ≡ w = cc in
    absurd (All-head (λ k. k ≢ w) x xs other is)
split_before w (x ∷ xs) ys (b ∷ before) rest other e =
    let same : x ≡ b = cc in
    let others : xs ++ ys ≡ before ++ w ∷ rest = cc in
    let (left, began, wait) = split_before w xs ys before rest (All-tail (λ k. k ≢ w) x xs other) others in
    (left, cc, wait)

-- the first is w only if all before w are gone
none_left : (w : ℕ) (left rest others : List ℕ) → All (λ k. k ≢ w) left → left ++ w ∷ rest ≡ w ∷ others → left ≡ []
none_left w [] rest others other e = refl
none_left w (x ∷ left) rest others other e =
    let is : x ≡ w = cc in
    absurd (All-head (λ k. k ≢ w) x left other is)

All-later : (P : ℕ → Type 0) (xs ys : List ℕ) → All P (xs ++ ys) → All P ys
All-later P [] ys all = all
All-later P (x ∷ xs) ys all = All-later P xs ys (All-tail P x (xs ++ ys) all)

All-before : (P : ℕ → Type 0) (xs : List ℕ) (k : ℕ) → All P (xs ++ k ∷ []) → All P xs
All-before P xs k all = (All-pop P (xs ++ k ∷ []) xs (Some k) refl all).0

length_parts : (xs ys zs : List ℕ) → xs ≡ ys ++ zs → length xs ≡ length ys + length zs
length_parts xs ys zs is = rw is (length-append ys zs)

-- each round has at most `most` readers
sum_most : (most : ℕ) (rounds : List ℕ) → All (λ n. n ≤ most) rounds → sum rounds ≤ length rounds * most
sum_most most [] all = omega arith
sum_most most (n ∷ rounds) all =
    let more = sum_most most rounds (All-tail (λ n. n ≤ most) n rounds all) in
    omega (arith, more, All-head (λ n. n ≤ most) n rounds all, sum_by-cons (λ n. n) n rounds)

-- in at most k rounds of at most `most` readers there are at most k * most reads
reads_most : (reads k most : ℕ) (rounds : List ℕ) → reads ≤ sum rounds → length rounds ≤ k
    → All (λ n. n ≤ most) rounds → reads ≤ k * most
reads_most reads k most rounds of few all =
    omega (arith, of, sum_most most rounds all, mul-le (length rounds) most k most few (omega arith))

in_no_round : (rounds : List ℕ) → length rounds ≤ 0 → sum rounds ≡ 0
in_no_round [] few = refl
in_no_round (n ∷ rounds) few = absurd (omega (arith, few))

no_places : (ws : List ℕ) → length ws ≤ 0 → ws ≡ []
no_places [] few = refl
no_places (w ∷ ws) few = absurd (omega (arith, few))

module _ {T : Type 0} where
  one_in : (s : Shared T) → s.busy ≡ true → writers_in s ≡ 1
  one_in s is = rw is refl

  none_in : (s : Shared T) → s.busy ≡ false → writers_in s ≡ 0
  none_in s is = rw is refl

  round_size : {s e : Shared T} {n begun : ℕ} → Round s n e begun → begun ≤ n
  round_size (over s) = omega arith
  round_size (admitted s a e n begun read admits more) = omega (arith, round_size more)
  round_size (refused s a e n begun x admits more) = omega (arith, round_size more)

  -- at most one round began for each write that was in or began, without the write that is in; and each read that
  -- began is of a round
  record Waited (s : Shared T) (m : Moment T) : Type 0 where
    rounds : length m.rounds + writers_in m.state ≤ length m.writes + writers_in s
    reads : m.reads ≤ sum m.rounds

  resumed_waited : (s : Shared T) (ws : List ℕ) (m : Moment T) → ws ≢ []
      → length m.rounds ≤ length m.writes + writers_in s → m.reads ≤ sum m.rounds → Waited s (writer_resumed ws m)
  resumed_waited s [] m some rounds reads = absurd (some refl)
  resumed_waited s (w ∷ others) m some rounds reads = record {
    rounds = omega (arith, rounds, length-append m.writes (w ∷ []));
    reads = reads;
  }

  -- a writer that hasn't begun at the later moment hadn't at the earlier
  resumed_others : (w : ℕ) (ws : List ℕ) (m : Moment T) → All (λ k. k ≢ w) (writer_resumed ws m).writes
      → All (λ k. k ≢ w) m.writes
  resumed_others w [] m others = others
  resumed_others w (x ∷ ws) m others = All-before (λ k. k ≢ w) m.writes x others

  -- a reader waits, no read begins, and no write ends
  record Stayed (s : Shared T) (m : Moment T) : Type 0 where
    there : 0 < m.to_read
    reads : m.reads ≡ 0
    writes : length m.writes + writers_in s ≡ writers_in m.state

  resumed_stayed : (s : Shared T) (ws : List ℕ) (m : Moment T) → 0 < m.to_read → m.reads ≡ 0
      → length m.writes + writers_in s ≡ 0 → m.state.busy ≡ false → Stayed s (writer_resumed ws m)
  resumed_stayed s [] m there reads writes free =
      record { there = there; reads = reads; writes = omega (arith, writes, none_in m.state free) }
  resumed_stayed s (w ∷ others) m there reads writes free =
      record { there = there; reads = reads; writes = omega (arith, writes, length-append m.writes (w ∷ [])) }

  resumed_rounds : (ws : List ℕ) (m : Moment T) → (writer_resumed ws m).rounds ≡ m.rounds
  resumed_rounds [] m = refl
  resumed_rounds (w ∷ ws) m = refl

module _ {T : Type 0} (s : Shared T) (to_read w : ℕ) (before behind : List ℕ) where
  -- the writer waits after those before it that haven't begun
  waits_there : {m : Moment T} → Rests (counted_from s to_read (before ++ w ∷ behind))
      → Runs s to_read (before ++ w ∷ behind) m → All (λ k. k ≢ w) m.writes
      → (left came : List ℕ) × (before ≡ m.writes ++ left) × (m.to_write ≡ left ++ w ∷ (behind ++ came))
  waits_there {m = m} first runs others =
      let (came, all) = Runs-in_turn first runs in
      let from : m.writes ++ m.to_write ≡ before ++ w ∷ (behind ++ came) =
      all ∙ append_assoc before (w ∷ behind) came in
      let (left, began, wait) = split_before w m.writes m.to_write before (behind ++ came) others from in
      (left, came, began, wait)

  some_there : {m : Moment T} → Rests (counted_from s to_read (before ++ w ∷ behind))
      → Runs s to_read (before ++ w ∷ behind) m → All (λ k. k ≢ w) m.writes → m.to_write ≢ []
  some_there first runs others =
      let (left, came, began, wait) = waits_there first runs others in
      rw wait (by (behind ++ came) left)
    where
      by : (rest left : List ℕ) → left ++ w ∷ rest ≢ []
      by rest [] = λ e. cc
      by rest (x ∷ left) = λ e. cc

  waited : {m : Moment T} → Rests (counted_from s to_read (before ++ w ∷ behind))
      → Runs s to_read (before ++ w ∷ behind) m → All (λ k. k ≢ w) m.writes → Waited s m
  waited first none others = record { rounds = omega arith; reads = omega arith }
  waited first (reader_waits m runs held) others =
      let before = waited first runs others in
      record { rounds = before.rounds; reads = before.reads }
  waited first (reader_begins m e begun runs free round) others =
      absurd (free (inr (some_there first runs others)))
  waited first (read_ends m runs some) others =
      let before = waited first runs others in
      record { rounds = before.rounds; reads = before.reads }
  waited first (last_read_ends m runs one) others =
      let ended = record m { state = with_readers m.state 0 } in
      let until = resumed_others w m.to_write ended others in
      let before = waited first runs until in
      resumed_waited s m.to_write ended (some_there first runs until) (omega (arith, before.rounds)) before.reads
  waited first (writer_waits m k runs used) others =
      let before = waited first runs others in
      record { rounds = before.rounds; reads = before.reads }
  waited first (writer_begins m k runs unused) others =
      let until = All-before (λ j. j ≢ w) m.writes k others in
      let waits = places_wait m.to_write (some_there first runs until) in
      absurd (unused ((Runs-rests first runs).writers waits))
  waited first (round_begins m value e begun runs busy some round) others =
      let before = waited first runs others in
      let free = (round_rests {ws = []} some (written_ready value (Runs-rests first runs).inv busy) round).1 in
      record {
        rounds = omega (arith, before.rounds, one_in m.state busy, none_in e free);
        reads = omega (arith, before.reads, round_size round, sum_by-cons (λ n. n) m.to_read m.rounds);
      }
  waited first (write_ends m value runs busy nobody) others =
      let ended = record m { state = written m.state value } in
      let until = resumed_others w m.to_write ended others in
      let before = waited first runs until in
      resumed_waited s m.to_write ended (some_there first runs until) (omega (arith, before.rounds)) before.reads

module _ {T : Type 0} {s : Shared T} {to_read w : ℕ} {before behind : List ℕ} {m : Moment T}
    (waits : WriterWaits s to_read before w behind m) where
  pub writes_few : length m.writes ≤ length before
  writes_few =
      let (left, came, began, wait) = waits_there s to_read w before behind waits.rests waits.runs waits.not_yet in
      omega (arith, length_parts before m.writes left began)

  pub is_next : (others : List ℕ) → m.to_write ≡ w ∷ others → m.writes ≡ before
  is_next others is =
      let (left, came, began, wait) = waits_there s to_read w before behind waits.rests waits.runs waits.not_yet in
      let once : All (λ k. k ≢ w) (m.writes ++ left) = rw (sym began) waits.once in
      let gone = none_left w left (behind ++ came) others (All-later (λ k. k ≢ w) m.writes left once) (sym wait ∙ is) in
      sym (began ∙ (rw gone (append-nil m.writes)))

  pub rounds_few : length m.rounds ≤ length m.writes + writers_in s
  rounds_few = omega (arith, (waited s to_read w before behind waits.rests waits.runs waits.not_yet).rounds)

  pub reads_few : m.reads ≤ sum m.rounds
  reads_few = (waited s to_read w before behind waits.rests waits.runs waits.not_yet).reads

  pub reads_at_most : (most : ℕ) → All (λ n. n ≤ most) m.rounds → m.reads ≤ (length before + writers_in s) * most
  reads_at_most most all =
      reads_most m.reads _ most m.rounds reads_few (omega (arith, rounds_few, writes_few)) all

pub none_beside_readers : {T : Type 0} {s : Shared T} {to_read w : ℕ} {behind : List ℕ} {m : Moment T}
    → WriterWaits s to_read [] w behind m → s.busy ≡ false
    → (m.reads ≡ 0) × (m.writes ≡ [])
none_beside_readers {s = s} {m = m} waits free =
    let none_began = writes_few waits in
    let no_round = in_no_round m.rounds (omega (arith, rounds_few waits, none_began, none_in s free)) in
    (omega (arith, reads_few waits, no_round), no_places m.writes none_began)

module _ {T : Type 0} {s : Shared T} {to_read : ℕ} {to_write : List ℕ} where
  stayed : {m : Moment T} → Rests (counted_from s to_read to_write) → 0 < to_read
      → Runs s to_read to_write m → m.rounds ≡ [] → Stayed s m
  stayed first there none not_yet = record { there = there; reads = refl; writes = omega arith }
  stayed first there (reader_waits m runs held) not_yet =
      let before = stayed first there runs not_yet in
      record { there = omega (arith, before.there); reads = before.reads; writes = before.writes }
  stayed first there (reader_begins m e begun runs free round) not_yet =
      let before = stayed first there runs not_yet in
      let no_writer = not_true _ (λ busy. free (inl busy)) in
      absurd (free (inr (a_writer_waits m (Runs-rests first runs) no_writer before.there)))
  stayed first there (read_ends m runs some) not_yet =
      let before = stayed first there runs not_yet in
      record { there = before.there; reads = before.reads; writes = before.writes }
  stayed first there (last_read_ends m runs one) not_yet =
      let ended = record m { state = with_readers m.state 0 } in
      let before = stayed first there runs (sym (resumed_rounds m.to_write ended) ∙ not_yet) in
      let free = without_writer (Runs-rests first runs).inv (omega (arith, one)) in
      resumed_stayed s m.to_write ended before.there before.reads
      (omega (arith, before.writes, none_in m.state free)) free
  stayed first there (writer_waits m k runs used) not_yet =
      let before = stayed first there runs not_yet in
      record { there = before.there; reads = before.reads; writes = before.writes }
  stayed first there (writer_begins m k runs unused) not_yet =
      let before = stayed first there runs not_yet in
      let rests = Runs-rests first runs in
      let no_writer = not_true _ (λ busy. unused (inr busy)) in
      let waits = places_wait m.to_write (a_writer_waits m rests no_writer before.there) in
      absurd (unused (rests.writers waits))
  stayed first there (round_begins m value e begun runs busy some round) not_yet = absurd (cc)
  stayed first there (write_ends m value runs busy nobody) not_yet =
      let ended = record m { state = written m.state value } in
      let before = stayed first there runs (sym (resumed_rounds m.to_write ended) ∙ not_yet) in
      absurd (omega (arith, before.there, nobody))

  pub none_before : {m : Moment T} → ReaderWaits s to_read to_write m
      → (m.reads ≡ 0) × (length m.writes + writers_in s ≡ writers_in m.state)
  none_before waits = let all = stayed waits.rests waits.waited waits.runs waits.not_yet in (all.reads, all.writes)
