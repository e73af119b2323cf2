use Rattle.std.proofs.Common.{◌≡◌, ap, arith, refl, sym}
use Rattle.disk_jobs.specs.Services.{Served}
use Rattle.disk_service.specs.declared.thread_places.ThreadPlaces.{ThreadPlaces}
use Rattle.disk_service.proofs.EachJob.{for-fewer}
use Rattle.disk_service.proofs.JobsDone.{does-job}
use Rattle.disk_service.proofs.worker.serve_job.Goals as goal

pub returns-in_default-clause-sleeps : goal.returns-in_default-clause-sleeps
returns-in_default-clause-sleeps g c =
    for-fewer _ _ _ _ 0 _ 0 0 c.read_into_buffer-own.ensures.sleeps refl (omega arith)

pub returns-in_default-clause-borrows : goal.returns-in_default-clause-borrows
returns-in_default-clause-borrows g c =
    for-fewer _ _ _ _ 0 _ 0 0 c.read_into_buffer-own.ensures.borrows refl (omega arith)

pub returns-then-not-counted-clause-sleeps : goal.returns-then-not-counted-clause-sleeps
returns-then-not-counted-clause-sleeps g c =
    let same : c.add_to_totals-own.result.0.clock ≡ c.read_into_buffer-own.result.0.clock =
    ap (λ (p : ThreadPlaces). p.clock) c.add_to_totals-own.ensures.others in
    for-fewer _ _ _ _ 0 _ 0 0 c.read_into_buffer-own.ensures.sleeps (rw same refl) (omega arith)

pub returns-then-not-counted-clause-borrows : goal.returns-then-not-counted-clause-borrows
returns-then-not-counted-clause-borrows g c =
    let same : c.add_to_totals-own.result.0.pool ≡ c.read_into_buffer-own.result.0.pool =
    ap (λ (p : ThreadPlaces). p.pool) c.add_to_totals-own.ensures.others in
    for-fewer _ _ _ _ 0 _ 0 0 c.read_into_buffer-own.ensures.borrows (rw same refl) (omega arith)

pub returns-then-not-noted-clause-sleeps : goal.returns-then-not-noted-clause-sleeps
returns-then-not-noted-clause-sleeps g c =
    let counted : c.add_to_totals-own.result.0.clock ≡ c.read_into_buffer-own.result.0.clock =
    ap (λ (p : ThreadPlaces). p.clock) c.add_to_totals-own.ensures.others in
    let noted : c.write-own.result.0.clock ≡ c.add_to_totals-own.result.0.clock =
    ap (λ (p : ThreadPlaces). p.clock) c.write-own.ensures.others in
    for-fewer _ _ _ _ 0 _ 0 0 c.read_into_buffer-own.ensures.sleeps (rw noted (rw counted refl))
    (omega arith)

pub returns-then-not-noted-clause-borrows : goal.returns-then-not-noted-clause-borrows
returns-then-not-noted-clause-borrows g c =
    let counted : c.add_to_totals-own.result.0.pool ≡ c.read_into_buffer-own.result.0.pool =
    ap (λ (p : ThreadPlaces). p.pool) c.add_to_totals-own.ensures.others in
    let noted : c.write-own.result.0.pool ≡ c.add_to_totals-own.result.0.pool =
    ap (λ (p : ThreadPlaces). p.pool) c.write-own.ensures.others in
    for-fewer _ _ _ _ 0 _ 0 0 c.read_into_buffer-own.ensures.borrows (rw noted (rw counted refl))
    (omega arith)

pub returns-clause-sleeps : goal.returns-clause-sleeps
returns-clause-sleeps g c =
    let counted : c.add_to_totals-own.result.0.clock ≡ c.read_into_buffer-own.result.0.clock =
    ap (λ (p : ThreadPlaces). p.clock) c.add_to_totals-own.ensures.others in
    let noted : c.write-own.result.0.clock ≡ c.add_to_totals-own.result.0.clock =
    ap (λ (p : ThreadPlaces). p.clock) c.write-own.ensures.others in
    let asleep = rw c.in-Some.is at c.read_into_buffer-own.ensures.sleeps in
    for-fewer _ _ _ _ 0 1 0 1 asleep (rw noted (rw counted refl)) (omega arith)

pub returns-clause-borrows : goal.returns-clause-borrows
returns-clause-borrows g c =
    let counted : c.add_to_totals-own.result.0.pool ≡ c.read_into_buffer-own.result.0.pool =
    ap (λ (p : ThreadPlaces). p.pool) c.add_to_totals-own.ensures.others in
    let noted : c.write-own.result.0.pool ≡ c.add_to_totals-own.result.0.pool =
    ap (λ (p : ThreadPlaces). p.pool) c.write-own.ensures.others in
    let borrowed = rw c.in-Some.is at c.read_into_buffer-own.ensures.borrows in
    for-fewer _ _ _ _ 0 1 0 1 borrowed (rw noted (rw counted refl)) (omega arith)

pub returns-clause-job : goal.returns-clause-job
returns-clause-job g c = rw c.in-Some.is at c.read_into_buffer-own.ensures.job

pub returns-clause-does : goal.returns-clause-does
returns-clause-does g c =
    let job = rw c.in-Some.is at c.read_into_buffer-own.ensures.job in
    let cylinder = ap (λ (d : Served). d.cylinder) (sym job) in
    let reads = rw c.in-Some.is at c.read_into_buffer-own.ensures.reads in
    does-job _ _ _ _ _ c.read_into_buffer-own.ensures.others c.add_to_totals-own.ensures.others
    c.write-own.ensures.others (rw cylinder at reads) (c.add_to_totals-own.ensures.counts c.if-not-counted.false)
    (c.write-own.ensures.notes c.if-not-noted.false)
