use Rattle.cookbook.proofs.Tables.{IsApartBelow}
use Rattle.cookbook.proofs.table.Table.is_apart.Given as goal

-- if a philosopher eats at one of the seats so far, none eats at the seat to the right of that one
abbrev pub invariant-loop-seat : goal.invariant-loop-seat
invariant-loop-seat l = IsApartBelow l.self-inside.eats l.seat
