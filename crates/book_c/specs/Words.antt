-- C's words as those of `c_handle`, and back.
use Rattle.std.specs.Borrow.{Lends, MutBor, Fml}
use Rattle.wait_book.specs.Contents.{Contents}
use Rattle.book_c.specs.contracts.legal_book.LegalBook as books
use Rattle.c_handle.specs.declared.held.Held as generic
use Rattle.c_handle.specs.contracts.held.Held as held
use Rattle.book_c.specs.declared.place.Held.{Held}
use Rattle.book_c.specs.contracts.place.Held as place

abbrev pub of_c : Held → generic.Held Contents
of_c s = record {
  live = s.live;
  spare = s.spare;
  handle = record { at = s.handle.at; alloc = s.handle.alloc; live = s.handle.live; value = s.handle.value };
  same = s.same;
  few = s.few;
}

abbrev pub to_c : generic.Held Contents → Held
to_c s = record {
  live = s.live;
  spare = s.spare;
  handle = record { at = s.handle.at; alloc = s.handle.alloc; live = s.handle.live; value = s.handle.value };
  same = s.same;
  few = s.few;
}

-- C's words end as the last value of the borrow r
abbrev pub LendsWords : MutBor Held → MutBor (generic.Held Contents) → Fml
LendsWords s r = Lends place.the_row (held.the_row books.the_row) s r to_c
