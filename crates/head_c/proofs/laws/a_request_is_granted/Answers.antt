use Rattle.head_c.proofs.Bound.{before, most}
use Rattle.head_c.proofs.laws.a_request_is_granted.Goals as goal

pub returns-clause-in_time : goal.returns-clause-in_time
returns-clause-in_time c = λ m p k n own d q rests few among meanwhile. before m p own d q rests few among meanwhile

pub returns-clause-at_most : goal.returns-clause-at_most
returns-clause-at_most c = λ m p k n own d q rests few among meanwhile. most m p own d q rests few among meanwhile
