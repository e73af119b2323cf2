use Rattle.std.proofs.Common.{◌≡◌, ◌<◌, Some, ◌∙◌, arith}
use Rattle.std.specs.Prelude.{slice_index}
use Rattle.wait_book.specs.declared.book.TheConstants.{MOST_CONDITIONS}
use Rattle.wait_book.specs.Contents.{priorities_on}
use Rattle.wait_book.specs.Insides.{view_of}
use Rattle.wait_book.proofs.Priorities as priorities
use Rattle.wait_book.proofs.Queued.{nth-chain}
use Rattle.wait_book.proofs.book.waits.BookWaits.priority.Goals as goal

pub nth_priority-requires : goal.nth_priority-requires
nth_priority-requires c =
    omega (
      arith,
      priorities.fits-condition (view_of c.self.inside) _ c.args.condition c.args.i c.self.view_is
          c.self.invariant c.requires,
      c.self.invariant.few_conditions,
    )

pub unreachable-requires : goal.unreachable-requires
unreachable-requires c =
    let below : c.args.condition < MOST_CONDITIONS =
    omega (
      arith,
      priorities.fits-condition (view_of c.self.inside) _ c.args.condition c.args.i c.self.view_is
          c.self.invariant c.requires,
      c.self.invariant.few_conditions,
    ) in
    c.in_default.not-Some _ (priorities.nth-priority c.args.condition c.args.i c.self.view_is c.self.invariant
    (c.nth_priority.ensures ∙ nth-chain c.args.condition c.args.i c.self.inside.chains below) c.requires)

pub returns : goal.returns
returns c =
    let below : c.args.condition < MOST_CONDITIONS =
    omega (
      arith,
      priorities.fits-condition (view_of c.self.inside) _ c.args.condition c.args.i c.self.view_is
          c.self.invariant c.requires,
      c.self.invariant.few_conditions,
    ) in
    let e : c.nth_priority.result ≡ Some (slice_index (priorities_on c.args.self.now c.args.condition) c.args.i) =
    priorities.nth-priority c.args.condition c.args.i c.self.view_is c.self.invariant
    (c.nth_priority.ensures ∙ nth-chain c.args.condition c.args.i c.self.inside.chains below) c.requires in
    let f : c.nth_priority.result ≡ Some c.in-Some.priority = c.in-Some.is in
    cc
