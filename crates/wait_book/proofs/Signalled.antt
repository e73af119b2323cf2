-- What a signal and a pass do to the chains if a waiter is resumed, and a notify if a waiter is notified; and what they
-- do if no process waits.
use Rattle.std.proofs.Common.{◌≡◌, ◌⊎◌, ◌<◌, ℕ, Bool, true, false, inl, inr, List, [], ◌∷◌, ◌++◌, map, arith, refl}
use Rattle.std.proofs.Common.{◌≢◌, ◌==◌, ◌+◌, cond, ap, sym, subst, ◌∙◌}
use Rattle.std.proofs.lemmas.List.{map-append}
use Rattle.std.specs.List.{filter}
use Rattle.std.specs.Prelude.{IsTrue, ◌↔◌}
use Rattle.wait_book.specs.declared.book.TheConstants.{MOST_CONDITIONS}
use Rattle.wait_book.specs.declared.book.Book.TheInside.{Inside}
use Rattle.wait_book.specs.declared.chains.TheConstants.{CALLED, SIGNALLERS}
use Rattle.wait_book.specs.declared.chains.Link.{Link}
use Rattle.wait_book.specs.declared.waiter.Waiter.{Waiter}
use Rattle.wait_book.specs.Contents.{Contents, one, times, waiters_on, waits_of}
use Rattle.wait_book.specs.Insides.{called_in, view_of, waiter_of, waiter_on, waiting_below}
use Rattle.wait_book.specs.Lists.{CallsFirst, Lists, IsCalled, IsPut, IsTaken, IsTakenOut, TakesOut, list_at, list_put}
use Rattle.wait_book.specs.Lists.{places_in}
use Rattle.wait_book.specs.Queues.{Removes, IsFirst}
use Rattle.wait_book.proofs.Waiters.{on, places, filter-taken_on}
use Rattle.wait_book.proofs.Times.{apart_one, one_apart}
use Rattle.hoare_law.proofs.Tests.{eq_swap}
use Rattle.wait_book.proofs.Lists.{below_past, put_other, put_same}
use Rattle.wait_book.proofs.Queued.{BesideKept, Removes-first, Removes-taken, beside_kept, chain-more, chain-same}
use Rattle.wait_book.proofs.Queued.{on_chain}
use Rattle.wait_book.proofs.Queued.{taken_below, waiters-same, waits-nobody}

-- no process waits on c, and the contents are as they were
pub record NobodyWaits (c : ℕ) (old new : Contents) : Type 0 where
  pub nobody : waiters_on c old ≡ []
  pub same : new ≡ old

pub nobody_waits : (c : ℕ) (a : Inside) (new : Lists) → c < MOST_CONDITIONS → list_at a.chains c ≡ [] → new ≡ a.chains
    → NobodyWaits c (view_of a) (view_of (record a { chains = new }))
nobody_waits c a new l none same = record {
  nobody = waits-nobody c a.chains l none;
  same = ap (λ (v : Lists). view_of (record a { chains = v })) same;
}

-- the resumed waiter is removed from the waiters, and the other lists are as they were
pub record TakenOut (c resumed : ℕ) (old new : Lists) : Type 0 where
  pub took : Removes c (waiting_below MOST_CONDITIONS (list_at old))
      (waiting_below MOST_CONDITIONS (list_at new)) resumed
  pub first : IsFirst c took.before
  pub room : new.room ≡ old.room
  pub kept : BesideKept old new

pub taken_out : (c resumed : ℕ) (old new : Lists) → c < MOST_CONDITIONS → IsTaken c resumed old new
    → TakenOut c resumed old new
taken_out c resumed old new l t = let r = Removes-first c resumed old new l t in record {
  took = r.0;
  first = r.1;
  room = t.room;
  kept = beside_kept c _ old new l t.lists;
}

-- first the resumed waiter is removed, and then the signaller is appended to the signallers
pub record Signalled (c place resumed : ℕ) (old between new : Lists) : Type 0 where
  pub took : Removes c (waiting_below MOST_CONDITIONS (list_at old))
      (waiting_below MOST_CONDITIONS (list_at between)) resumed
  pub room : new.room ≡ old.room
  pub waiters : waiting_below MOST_CONDITIONS (list_at new) ≡ waiting_below MOST_CONDITIONS (list_at between)
  pub signallers : places_in (list_at new SIGNALLERS) ≡ places_in (list_at old SIGNALLERS) ++ place ∷ []
  pub called : called_in (list_at new CALLED) ≡ called_in (list_at old CALLED)

signalled_by : (c place resumed : ℕ) (old between new : Lists)
    → Removes c (waiting_below MOST_CONDITIONS (list_at old)) (waiting_below MOST_CONDITIONS (list_at between)) resumed
    → between.room ≡ old.room → BesideKept old between
    → IsPut SIGNALLERS (list_at between SIGNALLERS) [] place c 0 between new
    → Signalled c place resumed old between new
signalled_by c place resumed old between new took room kept p = record {
  took = took;
  room = p.room ∙ room;
  waiters = waiters-same SIGNALLERS _ between new (omega arith) p.lists;
  signallers = chain-more (λ (x : Link). x.place) SIGNALLERS place c 0 between new p
      ∙ ap (λ us. us ++ place ∷ []) kept.signallers;
  called = chain-same called_in SIGNALLERS CALLED _ between new (omega arith) p.lists ∙ kept.called;
}

pub signalled : (c place resumed : ℕ) (old between new : Lists) → c < MOST_CONDITIONS → IsTaken c resumed old between
    → IsPut SIGNALLERS (list_at between SIGNALLERS) [] place c 0 between new
    → (s : Signalled c place resumed old between new) × IsFirst c s.took.before
unfolding signalled_by
signalled c place resumed old between new l t p =
    let out = taken_out c resumed old between l t in
    (signalled_by c place resumed old between new out.took out.room out.kept p, out.first)

-- the waiter to which a signal is given is removed, and the other lists are as they were
pub record NamedOut (c named : ℕ) (old new : Lists) : Type 0 where
  pub took : Removes c (waiting_below MOST_CONDITIONS (list_at old))
      (waiting_below MOST_CONDITIONS (list_at new)) named
  pub room : new.room ≡ old.room
  pub kept : BesideKept old new

pub named_out : (c named : ℕ) (old new : Lists) → c < MOST_CONDITIONS → IsTakenOut c named old new
    → NamedOut c named old new
named_out c named old new l t = record {
  took = Removes-taken c named old new l t;
  room = t.room;
  kept = beside_kept c _ old new l t.lists;
}

pub signalled_to : (c place named : ℕ) (old between new : Lists) → c < MOST_CONDITIONS → IsTakenOut c named old between
    → IsPut SIGNALLERS (list_at between SIGNALLERS) [] place c 0 between new
    → Signalled c place named old between new
signalled_to c place named old between new l t p =
    let out = named_out c named old between l t in
    signalled_by c place named old between new out.took out.room out.kept p

-- a place that isn't in the chain of c has no wait there
no_waits : (w : ℕ) (ws : List Waiter) → times w (places ws) ≡ 0 → filter (λ (v : Waiter). v.place == w) ws ≡ []
no_waits w [] none = refl
no_waits w (v ∷ ws) none =
    let apart : (v.place == w) ≡ false = eq_swap v.place w ∙ apart_one w v.place (omega (arith, none)) in
    rw apart (no_waits w ws (omega (arith, none)))

some_waits : (w : ℕ) (ws : List Waiter) → filter (λ (v : Waiter). v.place == w) ws ≡ [] → times w (places ws) ≡ 0
some_waits w [] none = refl
some_waits w (v ∷ ws) none = by (v.place == w) refl none (some_waits w ws)
  where
    by : (t : Bool) → (v.place == w) ≡ t
        → cond t (v ∷ filter (λ (u : Waiter). u.place == w) ws) (filter (λ (u : Waiter). u.place == w) ws) ≡ []
        → (filter (λ (u : Waiter). u.place == w) ws ≡ [] → times w (places ws) ≡ 0)
        → one w v.place + times w (places ws) ≡ 0
    by true is e rest = absurd (cc)
    by false is e rest = omega (arith, one_apart w v.place (eq_swap w v.place ∙ is), rest e)

places_on : (c : ℕ) (xs : List Link) → places (map (waiter_on c) xs) ≡ places_in xs
places_on c [] = refl
places_on c (x ∷ xs) = ap (λ l. x.place ∷ l) (places_on c xs)

-- the waits of w on c are none exactly if w isn't in the chain of c
pub waits-none : (w c : ℕ) (v : Lists) → c < MOST_CONDITIONS
    → (times w (places_in (list_at v c)) ≡ 0) ↔ (filter (λ (u : Waiter). u.place == w)
    (filter (on c) (waiting_below MOST_CONDITIONS (list_at v))) ≡ [])
waits-none w c v l =
    let chain = on_chain MOST_CONDITIONS c (list_at v) l in
    let same : times w (places (filter (on c) (waiting_below MOST_CONDITIONS (list_at v))))
    ≡ times w (places_in (list_at v c)) =
    ap (λ ws. times w (places ws)) chain ∙ ap (times w) (places_on c (list_at v c)) in (
      (λ none. no_waits w (filter (on c) (waiting_below MOST_CONDITIONS (list_at v))) (same ∙ none)),
      (λ none. sym same ∙ some_waits w (filter (on c) (waiting_below MOST_CONDITIONS (list_at v))) none),
    )

-- a test of the chain of c tells if w waits there
pub waits-listed_by : (w c : ℕ) (a : Inside) (d : Contents) (r : Bool) → c < MOST_CONDITIONS → view_of a ≡ d
    → IsTrue r ↔ (times w (places_in (list_at a.chains c)) ≢ 0)
    → IsTrue r ↔ (waits_of w c d ≢ [])
waits-listed_by w c a d r l same told =
    let none = waits-none w c a.chains l in (
      (λ yes empty. told.0 yes (none.1 (ap (λ (v : Contents). waits_of w c v) same ∙ empty))),
      (λ some. told.1 (λ zero. some (sym (ap (λ (v : Contents). waits_of w c v) same) ∙ none.0 zero))),
    )

-- w doesn't wait on c, and the contents are as they were
pub record NoWaiter (c w : ℕ) (old new : Contents) : Type 0 where
  pub nobody : waits_of w c old ≡ []
  pub same : new ≡ old

pub named_none : (c w : ℕ) (a : Inside) (new : Lists) → c < MOST_CONDITIONS → TakesOut false c w a.chains new
    → NoWaiter c w (view_of a) (view_of (record a { chains = new }))
named_none c w a new l t = record {
  nobody = (waits-none w c a.chains l).0 t.0;
  same = ap (λ (v : Lists). view_of (record a { chains = v })) t.1;
}

-- the place was taken out, or it isn't in the chain
pub named_or_none : (t : Bool) (c w : ℕ) (old new : Lists) → TakesOut t c w old new
    → ((t ≡ true) × IsTakenOut c w old new) ⊎ ((t ≡ false) × (times w (places_in (list_at old c)) ≡ 0) × (new ≡ old))
named_or_none true c w old new f = inl (refl, f)
named_or_none false c w old new f = inr (refl, f.0, f.1)

-- the notified waiter is removed from the waiters, and appended to the called
pub record Notified (c place : ℕ) (old new : Lists) : Type 0 where
  pub took : Removes c (waiting_below MOST_CONDITIONS (list_at old)) (waiting_below MOST_CONDITIONS (list_at new))
      place
  pub first : IsFirst c took.before
  pub room : new.room ≡ old.room
  pub signallers : places_in (list_at new SIGNALLERS) ≡ places_in (list_at old SIGNALLERS)
  pub called : called_in (list_at new CALLED) ≡ called_in (list_at old CALLED) ++ took.first ∷ []

-- the waiter that is removed is that of the first link of the chain
first_waiter : (c place : ℕ) (x : Link) (xs : List Link) (old : Lists) (ws : List Waiter) → c < MOST_CONDITIONS
    → list_at old c ≡ x ∷ xs
    → (t : Removes c (waiting_below MOST_CONDITIONS (list_at old)) ws place) → IsFirst c t.before
    → waiter_on c x ≡ t.first
first_waiter c place x xs old ws l is t none =
    let same : waiter_on c x ∷ map (waiter_on c) xs ≡ t.first ∷ filter (on c) ws =
    sym (on_chain MOST_CONDITIONS c (list_at old) l ∙ ap (map (waiter_on c)) is)
    ∙ filter-taken_on c _ ws place t none in
    cc

pub notified : (c : ℕ) (old new : Lists) → c < MOST_CONDITIONS → (f : IsCalled c old new)
    → Notified c f.first.place old new
notified c old new l f =
    let at : ℕ → List Link = list_at old in
    let left : ℕ → List Link = list_put c f.after at in
    let zs : List Link = at CALLED ++ f.first ∷ [] in
    let lists : list_at new ≡ list_put CALLED zs left = λ i d. f.lists d i in
    let waiters : waiting_below MOST_CONDITIONS left ≡ waiting_below MOST_CONDITIONS (list_at new) =
    sym
    (ap (waiting_below MOST_CONDITIONS) lists ∙ below_past waiter_on MOST_CONDITIONS CALLED zs left (omega arith)) in
    let r : (t : Removes c (waiting_below MOST_CONDITIONS at) (waiting_below MOST_CONDITIONS (list_at new))
    f.first.place) × IsFirst c t.before =
    subst (λ (ws : List Waiter). (t : Removes c (waiting_below MOST_CONDITIONS at) ws f.first.place)
    × IsFirst c t.before) waiters
    (taken_below MOST_CONDITIONS c [] f.first f.after at l f.was) in
    record {
      took = r.0;
      first = r.1;
      room = f.room;
      signallers = ap places_in (f.lists SIGNALLERS ∙ put_other CALLED SIGNALLERS zs left (omega arith)
          ∙ put_other c SIGNALLERS f.after at (omega arith));
      called = ap called_in (f.lists CALLED ∙ put_same CALLED zs left)
          ∙ map-append waiter_of (at CALLED) (f.first ∷ [])
          ∙ ap (λ (j : ℕ). called_in (at CALLED) ++ record {
            place = f.first.place;
            condition = j;
            priority = f.first.priority;
          } ∷ []) f.waited
          ∙ ap (λ w. called_in (at CALLED) ++ w ∷ []) (first_waiter c f.first.place f.first f.after old _ l f.was r.0
          r.1);
    }

-- the first was notified, or the chain was empty
pub called_or_none : (t : Bool) (c : ℕ) (old new : Lists) → CallsFirst t c old new
    → ((t ≡ true) × IsCalled c old new) ⊎ ((t ≡ false) × (list_at old c ≡ []) × (new ≡ old))
called_or_none true c old new f = inl (refl, f)
called_or_none false c old new f = inr (refl, f.0, f.1)
