use Rattle.std.proofs.Common.{sym}
use Rattle.wait_book.specs.Insides.{view_of}
use Rattle.wait_book.proofs.Sound.{enters, admitted_sound}
use Rattle.wait_book.proofs.Histories.{IsOf-same, admitted_of}
use Rattle.wait_book.proofs.book.Book.admit.Goals as goal

pub invariant_of-self : goal.invariant_of-self
invariant_of-self c =
    admitted_sound _ c.args.place
    (enters c.self.view_is c.self.invariant c.requires.free c.requires.place c.requires.outside)

pub returns-clause-of : goal.returns-clause-of
returns-clause-of c = λ h o.
    admitted_of (view_of c.self.inside) c.args.place h
    (enters c.self.view_is c.self.invariant c.requires.free c.requires.place c.requires.outside)
    (IsOf-same _ _ h (sym c.self.view_is) o)
