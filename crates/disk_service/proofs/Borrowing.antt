-- Buffers that are taken and given back for the jobs that are done: one, none, and one after another.
use Rattle.std.proofs.Common.{ℕ, ◌≡◌, ◌+◌, ◌≤◌, Bool, true, false, Result, Ok, Err, refl, sym, ◌∙◌, arith}
use Rattle.std.specs.Result.{is_err}
use Rattle.hoare_law.specs.declared.event.History.{History}
use Rattle.timed_schedulers.specs.declared.pool.NoStream.{NoStream}
use Rattle.timed_schedulers.specs.declared.pool.GiveRefused.{GiveRefused}
use Rattle.timed_schedulers.specs.Pools.{Pooled}
use Rattle.timed_schedulers.specs.PoolTraces.{Takes, Gives}
use Rattle.disk_service.specs.Borrows.{given_back, Borrows, not_once, in_vain, once_more, BorrowsForEach}

-- one buffer is enough for one job
pub borrowed-once : (k s b : ℕ) (f g h : History Pooled) (r : Result (Unit {0}) GiveRefused) (m : ℕ)
    → Takes k s f g (Ok b) → Gives k s b g h r → m ≤ given_back r → BorrowsForEach k s f h 0 m
borrowed-once k s b f g h r m t v l = record {
  times = given_back r;
  done = once_more 0 (given_back r) b f g h r not_once t v (omega arith);
  enough = omega (arith, l);
}

-- a worker that got no buffer has done no job
pub borrowed-in_vain : (k s : ℕ) (f h : History Pooled) (e : NoStream) → Takes k s f h (Err e)
    → BorrowsForEach k s f h 0 0
borrowed-in_vain k s f h e t = record { times = 0; done = in_vain 0 f h e not_once t; enough = omega arith }

-- if the pool didn't refuse it, the buffer is back
pub back-unless_err : (r : Result (Unit {0}) GiveRefused) (b : Bool) → b ≡ is_err r → b ≡ false → given_back r ≡ 1
back-unless_err (Ok u) b tells accepted = refl
back-unless_err (Err e) b tells accepted = let clash : true ≡ false = sym tells ∙ accepted in cc

joined : (k s : ℕ) (f g h : History Pooled) (a b c : ℕ) → Borrows k s f a g → Borrows k s g b h → c ≡ a + b
    → Borrows k s f c h
joined k s f g h a b c t not_once e = let same : c ≡ a = omega arith in rw same t
joined k s f g h a b c t (in_vain n e h1 r u v) sum =
    in_vain c e h1 r (joined k s f g e a n c t u sum) v
joined k s f g h a b c t (once_more n m buffer d e h1 r u v w is) sum =
    once_more (a + n) c buffer d e h1 r (joined k s f g d a n (a + n) t u refl) v w (omega (arith, is, sum))

-- the borrowings between f and g, and after them those between g and h
pub Borrows-joined : (k s : ℕ) (f g h : History Pooled) (a b : ℕ) → Borrows k s f a g → Borrows k s g b h
    → Borrows k s f (a + b) h
Borrows-joined k s f g h a b t u = joined k s f g h a b (a + b) t u refl
