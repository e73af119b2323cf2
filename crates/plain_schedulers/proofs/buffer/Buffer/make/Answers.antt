use Rattle.std.proofs.Common.{arith, inl, inr}
use Rattle.plain_schedulers.specs.Buffers.{too_small, too_large, no_memory, made}
use Rattle.plain_schedulers.proofs.Ring.{IsRing-none, ring_view-none, BufferRests-empty}
use Rattle.plain_schedulers.proofs.buffer.Buffer.make.Goals as goal

pub returns-then-n-eq0-clause-made : goal.returns-then-n-eq0-clause-made
returns-then-n-eq0-clause-made g c = elim c.then-n-eq0.either [
  | inl none ↦ too_small none
  | inr many ↦ too_large many.1
]

pub returns-in_default-clause-made : goal.returns-in_default-clause-made
returns-in_default-clause-made g c = no_memory (omega arith) (omega arith)

pub invariant_of-result : goal.invariant_of-result
invariant_of-result g c = IsRing-none c.in-Ok.ensures (omega arith) (omega arith)

pub returns-clause-made : goal.returns-clause-made
returns-clause-made g c = rw (ring_view-none c.in-Ok.ensures) (made (omega arith) (omega arith))

pub returns-clause-rest : goal.returns-clause-rest
returns-clause-rest g c = rw (ring_view-none c.in-Ok.ensures) (BufferRests-empty c.args.n (omega arith) (omega arith))
