-- What the procedures of a pool add to the history.
use Rattle.std.specs.Prelude.{ℕ, ◌<◌, ◌≤◌, ◌≡◌, Some, None, is_none, Result, Ok, Err}
use Rattle.std.specs.List.{position}
use Rattle.hoare_law.specs.declared.event.History.{History}
use Rattle.hoare_law.specs.declared.event.Event.TheVariants.{Admit, Wait, Leave, Resume}
use Rattle.hoare_law.specs.Events.{with_event}
use Rattle.hoare_law.specs.Growth.{AddsLast, AddsTwo, GetsInside, Finishes}
use Rattle.timed_schedulers.specs.Pools.{Pooled, with_owner, held, free_count, Judges}
use Rattle.timed_schedulers.specs.declared.pool.NoStream.{NoStream}
use Rattle.timed_schedulers.specs.declared.pool.GiveRefused.{GiveRefused}

-- s is a stream, and no buffer is free
abbrev pub MustWait : ℕ → History Pooled → Pooled → Type 0
MustWait s _ a = (s < a.streams) × (free_count a ≡ 0)

-- k took the least-numbered free buffer for s; before that, if no buffer was free, it waited on nonfree, once, with the
-- number of buffers that s held as its priority. Or k was refused, since s is no stream: at once, or late, after a wait
-- during which another pool took this one's place; then k signalled on nonfree as its last act
pub data Takes (k s : ℕ) (f h : History Pooled) : Result ℕ NoStream → Type 0 where
  refused : (a : Pooled) (g : History Pooled) (e : NoStream) → AddsLast f (Admit k a) g → a.streams ≤ s
      → h ≡ with_event g (Leave k a) → Takes k s f h (Err e)
  took : (found : Pooled) (g : History Pooled) (b : ℕ) → GetsInside k (MustWait s) (λ _. 0) (held s) f g found
      → s < found.streams
      → position is_none found.owners ≡ Some b → h ≡ with_event g (Leave k (with_owner found b (Some s)))
      → Takes k s f h (Ok b)
  late : (a found : Pooled) (d g : History Pooled) (e : NoStream) → AddsLast f (Admit k a) d → MustWait s d a
      → AddsTwo d (Wait k 0 (held s a) a) (Resume k 0 found) g → found.streams ≤ s → Finishes k 0 found g h
      → Takes k s f h (Err e)

-- k was refused; or it freed buffer b, which s held, and signalled on nonfree as its last act
pub data Gives (k s b : ℕ) (f h : History Pooled) : Result (Unit {0}) GiveRefused → Type 0 where
  refused : (a : Pooled) (g : History Pooled) (e : GiveRefused) → AddsLast f (Admit k a) g → Judges s b a (Err e)
      → h ≡ with_event g (Leave k a) → Gives k s b f h (Err e)
  gave : (a : Pooled) (g : History Pooled) → AddsLast f (Admit k a) g → Judges s b a (Ok tt)
      → Finishes k 0 (with_owner a b None) g h → Gives k s b f h (Ok tt)
