use Rattle.std.proofs.Common.{rules, arith}
use Rattle.std.proofs.lemmas.Bool.{iff_false}
use Rattle.timed_schedulers.specs.Pools.{no_stream, no_buffer, not_held, may}
use Rattle.timed_schedulers.proofs.pool.Pool.judge.Goals as goal

pub returns-then-not-has_stream : goal.returns-then-not-has_stream
returns-then-not-has_stream c = no_stream (omega (arith, iff_false c.has_stream.ensures c.if-not-has_stream.true))

pub returns-then-not-has_buffer : goal.returns-then-not-has_buffer
returns-then-not-has_buffer c =
    no_buffer (search rules) (omega (arith, iff_false c.has_buffer.ensures c.if-not-has_buffer.true))

pub returns-then-not-is_held : goal.returns-then-not-is_held
returns-then-not-is_held c = not_held (search rules) (search rules) (iff_false c.is_held.ensures c.if-not-is_held.true)

pub returns-else-not-is_held : goal.returns-else-not-is_held
returns-else-not-is_held c = may (search rules) (search rules) (search rules)
