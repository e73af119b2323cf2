use Rattle.sweep_schedulers.proofs.Granted.{is_out, release_grants, in_time, at_its_cylinder, at_most}
use Rattle.sweep_schedulers.proofs.Longest.{waits, meanwhile}
use Rattle.sweep_schedulers.proofs.laws.a_request_is_granted.Goals as goal

pub returns-clause-drive_is_out : goal.returns-clause-drive_is_out
returns-clause-drive_is_out g c = is_out

pub returns-clause-release_grants : goal.returns-clause-release_grants
returns-clause-release_grants g c = release_grants

pub returns-clause-in_time : goal.returns-clause-in_time
returns-clause-in_time g c = λ m p k n own d q is meanwhile. in_time m p own d q is meanwhile

pub returns-clause-at_its_cylinder : goal.returns-clause-at_its_cylinder
returns-clause-at_its_cylinder g c =
    λ m p k n own d q is same there meanwhile. at_its_cylinder m p own d q is same there meanwhile

pub returns-clause-at_most : goal.returns-clause-at_most
returns-clause-at_most g c = λ m p k n own d q is meanwhile. at_most m p own d q is meanwhile

pub returns-clause-longest : goal.returns-clause-longest
returns-clause-longest g c = λ drive. (waits drive, meanwhile drive)
