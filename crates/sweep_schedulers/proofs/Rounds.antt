-- Each step of readers and writers keeps rest, and writers begin in the order in which they came.
use Rattle.std.proofs.Common.{◌≡◌, ◌≢◌, ℕ, zero, suc, ◌<◌, ◌⊎◌, List, [], ◌∷◌, ◌++◌, true, false}
use Rattle.std.proofs.Common.{length, refl, inl, inr, sym, ◌∙◌, true≢false, arith}
use Rattle.std.proofs.lemmas.List.{append-nil, append_assoc}
use Rattle.sweep_schedulers.specs.ReadersWriters.{Shared, IsInUse, ReadersHold, ReadersRest, ReadReady, with_readers}
use Rattle.sweep_schedulers.specs.ReadersWriters.{written}
use Rattle.sweep_schedulers.specs.Rounds.{Moment, Rests, HoldsUp, Round, over, admitted, refused, Runs, none}
use Rattle.sweep_schedulers.specs.Rounds.{reader_waits, reader_begins, read_ends, last_read_ends, writer_waits}
use Rattle.sweep_schedulers.specs.Rounds.{writer_begins, round_begins, write_ends, writer_resumed, counted_from, plain}
use Rattle.sweep_schedulers.proofs.Readers.{ReadReady-admitted, ReadersRest-admitted, not_true, none_below}

pub some_wait : (n : ℕ) → 0 < n → plain n ≢ []
some_wait zero some = absurd (omega (arith, some))
some_wait (suc n) some = λ e. cc

some_in : (n : ℕ) → plain n ≢ [] → 0 < n
some_in zero some = absurd (some refl)
some_in (suc n) some = omega arith

pub places_wait : (ws : List ℕ) → ws ≢ [] → plain (length ws) ≢ []
places_wait [] some = absurd (some refl)
places_wait (w ∷ ws) some = λ e. cc

places_in : (ws : List ℕ) → plain (length ws) ≢ [] → ws ≢ []
places_in [] some = absurd (some refl)
places_in (w ∷ ws) some = λ e. cc

none_wait : (ws : List ℕ) → (ws ≢ [] → ⊥) → ws ≡ []
none_wait [] nobody = refl
none_wait (w ∷ ws) nobody = absurd (nobody (λ e. cc))

joined_some : (ws : List ℕ) (k : ℕ) → ws ++ k ∷ [] ≢ []
joined_some [] k = λ e. cc
joined_some (w ∷ ws) k = λ e. cc

one_more : {xs ys : List ℕ} (k : ℕ) → xs ≡ ys → xs ++ k ∷ [] ≡ ys ++ k ∷ []
one_more k same = rw same refl

one_at_once : (xs ys ws came : List ℕ) (k : ℕ) → ys ≡ [] → xs ++ ys ≡ ws ++ came
    → (xs ++ k ∷ []) ++ ys ≡ ws ++ (came ++ k ∷ [])
one_at_once xs ys ws came k nobody all =
    let began : xs ≡ ws ++ came = sym (append-nil xs) ∙ (rw⁻¹ nobody all) in
    rw nobody (append-nil (xs ++ k ∷ []) ∙ (one_more k began ∙ append_assoc ws came (k ∷ [])))

module _ {T : Type 0} where
  -- after a round rest holds, and no writer is in
  round_on : {s e : Shared T} {n begun : ℕ} {ws : List ℕ} → ReadReady s → ReadersRest s [] ws → Round s n e begun
      → (ReadersRest e [] ws) × (e.busy ≡ false)
  round_on ready rests (over s) = (rests, ready.no_writer)
  round_on ready rests (admitted s a e n begun read admits more) =
      round_on (ReadReady-admitted ready admits refl) (ReadersRest-admitted ready admits refl refl) more
  round_on ready rests (refused s a e n begun x admits more) =
      round_on (ReadReady-admitted ready admits refl) (ReadersRest-admitted ready admits refl refl) more

  pub round_rests : {s e : Shared T} {n begun : ℕ} {ws : List ℕ} → 0 < n → ReadReady s → Round s n e begun
      → (ReadersRest e [] ws) × (e.busy ≡ false)
  round_rests some ready (over s) = absurd (omega (arith, some))
  round_rests some ready (admitted s a e n begun read admits more) =
      round_on (ReadReady-admitted ready admits refl) (ReadersRest-admitted ready admits refl refl) more
  round_rests some ready (refused s a e n begun x admits more) =
      round_on (ReadReady-admitted ready admits refl) (ReadersRest-admitted ready admits refl refl) more

  held_up : (m : Moment T) → HoldsUp m → (m.state.busy ≡ true) ⊎ (plain (length m.to_write) ≢ [])
  held_up m (inl busy) = inl busy
  held_up m (inr some) = inr (places_wait m.to_write some)

  -- readers may resume with the data that a writer leaves
  pub written_ready : {s : Shared T} (value : T) → ReadersHold s → s.busy ≡ true → ReadReady (written s value)
  written_ready value holds busy = record {
    inv = record { most = holds.most; alone = λ _. holds.alone busy };
    no_writer = refl;
  }

  -- if no reader and no writer is in, rest holds after the first of the places that wait to write has begun
  resumed_rests : (ws : List ℕ) (m : Moment T) → m.to_write ≡ ws → m.state.readers ≡ 0 → (0 < m.to_read → ws ≢ [])
      → Rests (writer_resumed ws m)
  resumed_rests [] m is nobody to_read = record {
    inv = record { most = omega (arith, nobody); alone = λ _. nobody };
    writers = λ some. absurd (places_in m.to_write some is);
    readers = λ some. absurd (to_read (some_in m.to_read some) refl);
  }
  resumed_rests (w ∷ others) m is nobody to_read = record {
    inv = record { most = omega (arith, nobody); alone = λ _. nobody };
    writers = λ _. inr refl;
    readers = λ _. inl refl;
  }

  -- if readers wait and no writer is in, a writer waits
  pub a_writer_waits : (m : Moment T) → Rests m → m.state.busy ≡ false → 0 < m.to_read → m.to_write ≢ []
  a_writer_waits m rests free some = by (rests.readers (some_wait m.to_read some))
    where
      by : (m.state.busy ≡ true) ⊎ (plain (length m.to_write) ≢ []) → m.to_write ≢ []
      by (inl busy) = absurd (true≢false (sym busy ∙ free))
      by (inr waits) = places_in m.to_write waits

  -- if readers are in, no writer is in
  pub without_writer : {s : Shared T} → ReadersHold s → 0 < s.readers → s.busy ≡ false
  without_writer holds some = not_true _ (λ busy. omega (arith, holds.alone busy, some))

  -- if no reader and no writer is in, no writer waits
  no_writer_waits : (m : Moment T) → Rests m → (IsInUse m.state → ⊥) → m.to_write ≡ []
  no_writer_waits m rests unused =
      none_wait m.to_write (λ some. unused (rests.writers (places_wait m.to_write some)))

  resumed_in_turn : (ws : List ℕ) (m : Moment T) → m.to_write ≡ ws
      → (writer_resumed ws m).writes ++ (writer_resumed ws m).to_write ≡ m.writes ++ m.to_write
  resumed_in_turn [] m is = refl
  resumed_in_turn (w ∷ others) m is = rw is (append_assoc m.writes (w ∷ []) others)

module _ {T : Type 0} {s : Shared T} {to_read : ℕ} {to_write : List ℕ} where
  pub Runs-rests : {m : Moment T} → Rests (counted_from s to_read to_write) → Runs s to_read to_write m → Rests m
  Runs-rests first none = first
  Runs-rests first (reader_waits m runs held) =
      let before = Runs-rests first runs in
      record { inv = before.inv; writers = before.writers; readers = λ _. held_up m held }
  Runs-rests first (reader_begins m e begun runs free round) =
      let before = Runs-rests first runs in
      let ready : ReadReady m.state = record { inv = before.inv; no_writer = not_true _ (λ busy. free (inl busy)) } in
      (round_rests (omega arith) ready round).0
  Runs-rests first (read_ends m runs some) =
      let before = Runs-rests first runs in
      record {
        inv = record {
          most = omega (arith, before.inv.most);
          alone = λ busy. absurd (omega (arith, before.inv.alone busy, some));
        };
        writers = λ _. inl (omega (arith, some));
        readers = before.readers;
      }
  Runs-rests first (last_read_ends m runs one) =
      let before = Runs-rests first runs in
      let free = without_writer before.inv (omega (arith, one)) in
      resumed_rests m.to_write (record m { state = with_readers m.state 0 }) refl refl (a_writer_waits m before free)
  Runs-rests first (writer_waits m k runs used) =
      let before = Runs-rests first runs in
      record {
        inv = before.inv;
        writers = λ _. used;
        readers = λ _. inr (places_wait (m.to_write ++ k ∷ []) (joined_some m.to_write k));
      }
  Runs-rests first (writer_begins m k runs unused) =
      let before = Runs-rests first runs in
      record {
        inv = record {
          most = before.inv.most;
          alone = λ _. none_below m.state.readers (λ some. unused (inl some));
        };
        writers = λ _. inr refl;
        readers = λ _. inl refl;
      }
  Runs-rests first (round_begins m value e begun runs busy some round) =
      (round_rests some (written_ready value (Runs-rests first runs).inv busy) round).0
  Runs-rests first (write_ends m value runs busy nobody) =
      let before = Runs-rests first runs in
      resumed_rests m.to_write (record m { state = written m.state value }) refl (before.inv.alone busy)
      (λ some. absurd (omega (arith, nobody, some)))

  -- those that began, and then those that wait, are those that waited at first, and then those that came since
  pub Runs-in_turn : {m : Moment T} → Rests (counted_from s to_read to_write) → Runs s to_read to_write m
      → (came : List ℕ) × (m.writes ++ m.to_write ≡ to_write ++ came)
  Runs-in_turn first none = ([], sym (append-nil to_write))
  Runs-in_turn first (reader_waits m runs held) = Runs-in_turn first runs
  Runs-in_turn first (reader_begins m e begun runs free round) = Runs-in_turn first runs
  Runs-in_turn first (read_ends m runs some) = Runs-in_turn first runs
  Runs-in_turn first (last_read_ends m runs one) =
      let (came, all) = Runs-in_turn first runs in
      (came, resumed_in_turn m.to_write (record m { state = with_readers m.state 0 }) refl ∙ all)
  Runs-in_turn first (writer_waits m k runs used) =
      let (came, all) = Runs-in_turn first runs in (
        came ++ k ∷ [],
        sym (append_assoc m.writes m.to_write (k ∷ [])) ∙ one_more k all
            ∙ append_assoc to_write came (k ∷ []),
      )
  Runs-in_turn first (writer_begins m k runs unused) =
      let (came, all) = Runs-in_turn first runs in
      let nobody = no_writer_waits m (Runs-rests first runs) unused in
      (came ++ k ∷ [], one_at_once m.writes m.to_write to_write came k nobody all)
  Runs-in_turn first (round_begins m value e begun runs busy some round) = Runs-in_turn first runs
  Runs-in_turn first (write_ends m value runs busy nobody) =
      let (came, all) = Runs-in_turn first runs in
      (came, resumed_in_turn m.to_write (record m { state = written m.state value }) refl ∙ all)
