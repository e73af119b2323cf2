use Rattle.std.proofs.Common.{◌<◌, subst}
use Rattle.wait_book.specs.Contents.{Contents}
use Rattle.wait_book.specs.Insides.{view_of}
use Rattle.wait_book.proofs.Sound.{held_in_range, owed_in_range, return_in_range}
use Rattle.wait_book.proofs.book.Book.now.Goals as goal

pub returns-in-Held-clause-place : goal.returns-in-Held-clause-place
returns-in-Held-clause-place c =
    subst (λ (b : Contents). c.in-Held.k < b.sizes.places) c.self.view_is
    (held_in_range (view_of c.self.inside) c.in-Held.k c.self.invariant c.in-Held.is)

pub returns-in-Owed-clause-place : goal.returns-in-Owed-clause-place
returns-in-Owed-clause-place c =
    subst (λ (b : Contents). c.in-Owed.k < b.sizes.places) c.self.view_is
    (owed_in_range (view_of c.self.inside) c.in-Owed.k c.in-Owed.field-1 c.self.invariant c.in-Owed.is)

pub returns-in-Return-clause-place : goal.returns-in-Return-clause-place
returns-in-Return-clause-place c =
    subst (λ (b : Contents). c.in-Return.k < b.sizes.places) c.self.view_is
    (return_in_range (view_of c.self.inside) c.in-Return.k c.self.invariant c.in-Return.is)
