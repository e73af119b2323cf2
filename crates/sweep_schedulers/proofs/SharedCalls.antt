-- The events that a procedure of readers and writers adds are those that `Follows` asks for.
use Rattle.std.proofs.Common.{◌≡◌, ℕ, refl}
use Rattle.std.specs.Prelude.{Result}
use Rattle.hoare_law.specs.declared.event.History.{History}
use Rattle.hoare_law.specs.declared.event.Event.TheVariants.{Leave}
use Rattle.hoare_law.specs.Events.{with_event}
use Rattle.hoare_law.specs.Growth.{GetsInside, at_once, waited}
use Rattle.sweep_schedulers.specs.declared.not_out.NotOut.{NotOut}
use Rattle.sweep_schedulers.specs.declared.readers_writers.ReadPass.{ReadPass}
use Rattle.sweep_schedulers.specs.declared.readers_writers.NoReader.{NoReader}
use Rattle.sweep_schedulers.specs.declared.readers_writers.TooManyReaders.{TooManyReaders}
use Rattle.sweep_schedulers.specs.ReadersWriters.{Shared, IsInUse, with_readers, with_writer, written}
use Rattle.sweep_schedulers.specs.ReadersWritersTraces.{ReaderHeldUp, StartsRead, EndsRead, StartsWrite, EndsWrite}
use Rattle.sweep_schedulers.specs.ReadersWritersTraces as traces
use Rattle.sweep_schedulers.specs.Follows.{Follows}
use Rattle.sweep_schedulers.specs.SharedHistories.{Reads, reads_at_once, reads_resumed, read_begins, last_read}
use Rattle.sweep_schedulers.specs.SharedHistories.{to_readers, to_writers, to_read, to_write, others_read}
use Rattle.sweep_schedulers.specs.SharedHistories.{writes_at_once, writes_resumed, sharing_procedures, ContinuesSharing}
use Rattle.sweep_schedulers.proofs.Calls.{enters, resumes, finishes, ends, leaves_refused}

module _ {T : Type 0} where
  abbrev pub Keeps : ℕ → History (Shared T) → Type 0
  Keeps k h = Follows ContinuesSharing k h

  comes_to_read : (k : ℕ) (f g : History (Shared T)) (found : Shared T) → Keeps k f
      → GetsInside k ReaderHeldUp (λ _. 0) (λ _. 0) f g found → Keeps k g × Reads k g.events found
  comes_to_read k f g found follows (at_once adds free) =
      let i = enters sharing_procedures k found f g follows adds in (i.0, reads_at_once i.1 free)
  comes_to_read k f g found follows (waited e a adds held waits) =
      let i = enters sharing_procedures k a f e follows adds in
      let r = resumes sharing_procedures k 0 0 a found e g i.0 (to_read i.1 held refl refl) waits in
      (r.0, reads_resumed a r.1)

  -- the events of a call of `start_read`
  pub by_start_read : (k : ℕ) (f h : History (Shared T)) (read : Result (ReadPass × T) TooManyReaders) → Keeps k f
      → StartsRead k f h read → Keeps k h
  by_start_read k f h read follows r =
      let inside = comes_to_read k f r.front r.found follows r.enters in
      finishes sharing_procedures k 0 r.after r.front h inside.0 (read_begins r.found read inside.1 r.admits refl)
      r.finishes

  -- of `end_read`
  pub by_end_read : (k : ℕ) (pass : ReadPass) (f h : History (Shared T)) (r : Result (Unit {0}) NoReader) → Keeps k f
      → EndsRead k pass f h r → Keeps k h
  by_end_read k pass f h r follows (traces.no_reader a g adds none is) =
      leaves_refused sharing_procedures k a f g h follows adds is
  by_end_read k pass f h r follows (traces.last a g adds one last) =
      let i = enters sharing_procedures k a f g follows adds in
      finishes sharing_procedures k 1 (with_readers a 0) g h i.0 (last_read a i.1 one refl refl) last
  by_end_read k pass f h r follows (traces.others a g adds more is) =
      let i = enters sharing_procedures k a f g follows adds in
      ends sharing_procedures k _ g h i.0 (others_read a i.1 more refl) is

  writes : (k : ℕ) (f g h : History (Shared T)) (found : Shared T) → Keeps k f
      → GetsInside k (λ _ a. IsInUse a) (λ _. 1) (λ _. 0) f g found → h ≡ with_event g (Leave k (with_writer found))
      → Keeps k h
  writes k f g h found follows (at_once adds free) is =
      let i = enters sharing_procedures k found f g follows adds in
      ends sharing_procedures k _ g h i.0 (writes_at_once found i.1 free refl) is
  writes k f g h found follows (waited e a adds in_use waits) is =
      let i = enters sharing_procedures k a f e follows adds in
      let r = resumes sharing_procedures k 1 0 a found e g i.0 (to_write i.1 in_use refl refl) waits in
      ends sharing_procedures k _ g h r.0 (writes_resumed a found r.1 refl) is

  -- of `start_write`
  pub by_start_write : (k : ℕ) (value : T) (f h : History (Shared T)) → Keeps k f → StartsWrite k value f h → Keeps k h
  by_start_write k value f h follows r = writes k f r.front h r.found follows r.enters r.leaves

  -- of `end_write`
  pub by_end_write : (k : ℕ) (value : T) (f h : History (Shared T)) (r : Result (Unit {0}) (NotOut T)) → Keeps k f
      → EndsWrite k value f h r → Keeps k h
  by_end_write k value f h r follows (traces.to_readers a g adds in_use some last) =
      let i = enters sharing_procedures k a f g follows adds in
      finishes sharing_procedures k 0 (written a value) g h i.0 (to_readers a value i.1 in_use some refl refl) last
  by_end_write k value f h r follows (traces.to_writers a g adds in_use none last) =
      let i = enters sharing_procedures k a f g follows adds in
      finishes sharing_procedures k 1 (written a value) g h i.0 (to_writers a value i.1 in_use none refl refl) last
  by_end_write k value f h r follows (traces.refused a g adds free is) =
      leaves_refused sharing_procedures k a f g h follows adds is
