use Rattle.std.proofs.Common.{arith}
use Rattle.timed_schedulers.specs.Pools.{bad_size, no_memory, made}
use Rattle.timed_schedulers.proofs.pool.Pool.make.Goals as goal

pub returns-then-buffers-eq0-clause-made : goal.returns-then-buffers-eq0-clause-made
returns-then-buffers-eq0-clause-made c = bad_size (λ size. omega (arith, c.then-buffers-eq0.either, size))

pub returns-in-Ok-clause-made : goal.returns-in-Ok-clause-made
returns-in-Ok-clause-made c =
    rw c.in-Ok.ensures
    (made (record {
      some_buffer = omega arith;
      most_buffers = omega arith;
      some_stream = omega arith;
      most_streams = omega arith;
    }))

pub returns-in-Err-clause-made : goal.returns-in-Err-clause-made
returns-in-Err-clause-made c =
    no_memory
    (record {
      some_buffer = omega arith;
      most_buffers = omega arith;
      some_stream = omega arith;
      most_streams = omega arith;
    })
