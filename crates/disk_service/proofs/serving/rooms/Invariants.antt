use Rattle.std.specs.Prelude.{◌≡◌, [], vec_len, All}
use Rattle.disk_service.proofs.serving.rooms.Given as goal

-- as many rooms as were counted, all of them empty
abbrev pub invariant-loop : goal.invariant-loop
invariant-loop l = (vec_len l.rooms ≡ l.counter) × All (λ room. room.items ≡ []) l.rooms.items
