-- Which book C holds.
use Rattle.std.specs.Prelude.{ℕ, ◌≡◌}
use Rattle.hoare_law.specs.declared.event.History.{History}
use Rattle.wait_book.specs.Contents.{Contents, IsOf}

-- C holds a book, and it is of the history
pub record Holds (live : ℕ) (book : Contents) (h : History (Unit {0})) : Type 0 where
  pub live_is : live ≡ 1
  pub of : IsOf book h

-- the book is of some history, which is legal
pub record IsOfSome (book : Contents) : Type 0 where
  pub history : History (Unit {0})
  pub of : IsOf book history

-- if C holds a book (live is 1), it is of some history
abbrev pub HoldsSome : ℕ → Contents → Type 0
HoldsSome live book = live ≡ 1 → IsOfSome book
