-- Which letter of a mailbox is the most urgent, as far as the letters were searched; and what holds of a mailbox and of
-- its waiters when a letter was put in or taken out.
use Rattle.std.proofs.Common.{◌≡◌, ◌≢◌, ℕ, suc, ◌+◌, ◌<◌, ◌≤◌, List, [], ◌∷◌, ◌++◌, length, length-append, get_or, take}
use Rattle.std.proofs.Common.{drop, drop-cons, sym, ap, ◌∙◌, arith}
use Rattle.std.specs.List.{remove}
use Rattle.std.proofs.lemmas.List.{get_or-take, get_or-drop, get_or_default, length-take, length-drop, take-append-drop}
use Rattle.cookbook.specs.declared.mailbox.Letter.{Letter}
use Rattle.hoare_law.specs.Priorities.{behind_first}
use Rattle.cookbook.specs.Mailboxes.{MailRests, RoomReady, LetterReady, TakesMostUrgent}

-- the letter at `best`: none of the first i letters is more urgent, and those before it are less urgent
pub record IsBest (letters : List Letter) (best i : ℕ) : Type 0 where
  pub within : best < length letters
  pub less : (j : ℕ) (d : Letter) → j < best → (get_or letters best d).priority < (get_or letters j d).priority
  pub least : (j : ℕ) (d : Letter) → j < i → (get_or letters best d).priority ≤ (get_or letters j d).priority

-- the best of all letters is the most urgent; of equally urgent ones, the first
pub TakesMostUrgent-best : {letters others : List Letter} {best i : ℕ} {x : Letter} → IsBest letters best i
    → length letters ≤ i → x ≡ get_or letters best x → others ≡ remove letters best
    → TakesMostUrgent letters x others
TakesMostUrgent-best {letters = letters} {best = best} {x = x} is all taken left =
    let here : (d : Letter) → x ≡ get_or letters best d = λ d. taken ∙ get_or_default letters best x d is.within in
    record {
      before = take best letters;
      after = drop (suc best) letters;
      found = sym (take-append-drop best letters)
          ∙ ap (λ l. take best letters ++ l) (drop-cons letters best x is.within
          ∙ ap (λ y. y ∷ drop (suc best) letters) (sym taken));
      left = left;
      less_before = λ k d below.
          let lt : k < best = omega (arith, below, length-take best letters, is.within) in
          rw (here d, get_or-take best letters k d lt) (is.less k d lt);
      none_more_after = λ k d below.
          rw (here d, get_or-drop (suc best) letters k d)
          (is.least (suc best + k) d (omega (arith, below, length-drop (suc best) letters, all)));
    }

-- when the most urgent letter is taken out, there is one letter fewer
one_less_of : {letters others : List Letter} {x : Letter} → TakesMostUrgent letters x others
    → length letters ≡ length others + 1
one_less_of {x = x} takes =
    omega (
      arith,
      ap length takes.found,
      ap length takes.left,
      length-append takes.before (x ∷ takes.after),
      length-append takes.before takes.after,
    )

-- a sender or reader that needn't wait finds what a resumed waiter finds
pub RoomReady-at_once : {count : ℕ} {senders readers : List ℕ} → MailRests count senders readers → (count ≡ 8 → ⊥)
    → RoomReady count senders readers
RoomReady-at_once rests room = record {
  within = rests.within;
  some = omega (arith, rests.within, room);
  others = λ wait. absurd (room (rests.full wait));
  empty = rests.empty;
}

pub LetterReady-at_once : {count : ℕ} {senders readers : List ℕ} → MailRests count senders readers → (count ≡ 0 → ⊥)
    → LetterReady count senders readers
LetterReady-at_once rests some = record {
  within = rests.within;
  some = omega (arith, some);
  others = λ wait. absurd (some (rests.empty wait));
  full = rests.full;
}

-- the lists after a change of the data are those before it: `same`
module _ {d : List Letter} {q r : ℕ → List ℕ} where
  -- a letter was put in: if a process waits for mail, the first may resume; else rest holds
  pub LetterReady-put : (a : List Letter) (x : Letter) → RoomReady (length a) (q 0) (q 1) → d ≡ a ++ x ∷ [] → r ≡ q
      → r 1 ≢ [] → LetterReady (length d) (r 0) (behind_first (r 1))
  LetterReady-put a x ready is same wait =
      let one_more = length-append a (x ∷ []) in
      let none = ready.empty (rw same at wait) in
      rw (is, same) (record {
        within = omega (arith, one_more, ready.some);
        some = omega (arith, one_more);
        others = λ _. omega (arith, one_more, none);
        full = λ others. omega (arith, one_more, ready.others others);
      })

  pub MailRests-put : (a : List Letter) (x : Letter) → RoomReady (length a) (q 0) (q 1) → d ≡ a ++ x ∷ [] → r ≡ q
      → r 1 ≡ [] → MailRests (length d) (r 0) (r 1)
  MailRests-put a x ready is same nobody =
      let one_more = length-append a (x ∷ []) in
      rw is (record {
        within = omega (arith, one_more, ready.some);
        full = λ others. omega (arith, one_more, ready.others (rw same at others));
        empty = λ wait. absurd (wait nobody);
      })

  -- a letter was taken out: if a process waits for room, the first may resume; else rest holds
  pub RoomReady-taken : {a b : List Letter} {x : Letter} → LetterReady (length a) (q 0) (q 1) → TakesMostUrgent a x b
      → d ≡ b → r ≡ q → r 0 ≢ []
      → RoomReady (length d) (behind_first (r 0)) (r 1)
  RoomReady-taken ready takes is same wait =
      let one_less = one_less_of takes in
      let full = ready.full (rw same at wait) in
      rw (is, same) (record {
        within = omega (arith, one_less, full);
        some = omega (arith, one_less, full);
        others = λ _. omega (arith, one_less, full);
        empty = λ others. omega (arith, one_less, ready.others others);
      })

  pub MailRests-taken : {a b : List Letter} {x : Letter} → LetterReady (length a) (q 0) (q 1) → TakesMostUrgent a x b
      → d ≡ b → r ≡ q → r 0 ≡ []
      → MailRests (length d) (r 0) (r 1)
  MailRests-taken ready takes is same nobody =
      let one_less = one_less_of takes in
      rw is (record {
        within = omega (arith, one_less, ready.within);
        full = λ wait. absurd (wait nobody);
        empty = λ others. omega (arith, one_less, ready.others (rw same at others));
      })
