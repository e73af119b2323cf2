-- How reading a job file continues, line by line.
use Rattle.std.proofs.Common.{◌≡◌, ◌≢◌, ℕ, ◌+◌, ◌≤◌, List, [], ◌∷◌, ◌++◌, length, Option, Some, None, Result, Ok, Err}
use Rattle.std.proofs.Common.{refl, ap, sym, ◌∙◌, append_assoc, subst, arith, inl, inr}
use Rattle.std.proofs.lemmas.List.{append-nil}
use Rattle.line_text.proofs.AfterLines.{AtLine, AtLine-first, AtLine-next, after_lines-last, after_lines-line}
use Rattle.line_text.proofs.AfterLines.{after_lines-long_line, append-line}
use Rattle.line_text.proofs.Streams.{Reads-line}
use Rattle.line_text.specs.declared.line.Ended.{Ended}
use Rattle.line_text.specs.declared.line.Ended.TheVariants as how
use Rattle.line_text.specs.declared.line.LineFault.{LineFault}
use Rattle.line_text.specs.declared.line.LineFault.TheVariants as why
use Rattle.line_text.specs.declared.line.TheConstants.{LONGEST_LINE}
use Rattle.line_text.specs.Line.{ReadsLine, IsLineFor, NoNewline, after_lines}
use Rattle.line_text.specs.Streams.{Reads}
use Rattle.disk_jobs.specs.declared.fault.ServiceFault.{ServiceFault}
use Rattle.disk_jobs.specs.declared.fault.ServiceFault.TheVariants as faults
use Rattle.disk_jobs.specs.JobLists.{JobList}
use Rattle.disk_jobs.specs.JobTexts.{Ending, Outcome, outcome, outcome_from, jobs_of, then_on, one_line, at_end, at_cut}
use Rattle.disk_jobs.specs.Readings.{BreaksOff, Gives, GivesTo, Follows, lines_of}
use Rattle.disk_jobs.proofs.Limits.{one_line-counts}
use Rattle.disk_jobs.proofs.JobFiles.{outcome_from-line, outcome_from-long_line, outcome_from-end}

-- how far reading is: of the input t0 it has t left, and what the rest spells depends on the jobs so far
pub record Going (number : ℕ) (s : Option JobList) (t0 t : List ℕ) : Type 0 where
  pub read : List ℕ
  pub text : AtLine number read t0 t
  pub goes : (e : Ending) (x : List ℕ) → outcome e (read ++ x) ≡ outcome_from e s number x

-- nothing was read yet
Going-start : (t : List ℕ) → Going 1 None t t
Going-start t = record { read = []; text = AtLine-first t; goes = λ e x. refl }

-- the last line, if it isn't empty
at_end-some : (s : Option JobList) (i : ℕ) (l : List ℕ) → (l ≡ [] → ⊥) → at_end s i l ≡ one_line s i l
at_end-some s i [] n = absurd (n refl)
at_end-some s i (b ∷ bs) n = refl

no_lines : (s : Option JobList) → lines_of s ≡ 0 → s ≡ None
no_lines None h = refl
no_lines (Some j) h = absurd (omega arith)

module _ (number : ℕ) (s : Option JobList) (t0 t : List ℕ) (g : Going number s t0 t) where
  -- what the text spells is what the rest of it spells, from the line at hand
  outcome-rest : (e : Ending) → outcome e t0 ≡ outcome_from e s number t
  outcome-rest e = ap (outcome e) g.text.whole ∙ g.goes e t

  -- if the line at hand is good, its number is one more than the number of jobs with it
  lines-read : (j : JobList) (l : List ℕ) → number ≡ lines_of s + 1 → one_line s number l ≡ Ok j
      → number ≡ length j.cylinders + 1
  lines-read j l c o = let k = one_line-counts s (Some j) number l o in omega (arith, k.0, c)

  -- what was read breaks off after the line at hand
  breaks : (l x : List ℕ) → NoNewline l → length l ≤ LONGEST_LINE → t ≡ l ++ x → BreaksOff t0 x
  breaks l x n h e = (
    g.read ++ l,
    g.text.whole ∙ ap (λ v. g.read ++ v) e ∙ sym (append_assoc g.read l x),
    g.goes at_cut l ∙ outcome_from-end at_cut s number l n h,
  )

  -- the line was too long
  Gives-long_line : (l x : List ℕ) (b : ℕ) → NoNewline l → b ≢ 10 → length l ≡ LONGEST_LINE → t ≡ l ++ b ∷ x
      → Gives t0 x (Err (faults.BadLine number))
  Gives-long_line l x b n d h e = (
    outcome-rest at_end ∙ ap (outcome_from at_end s number) e ∙ outcome_from-long_line at_end s number l b x n d h,
    inr (after_lines-long_line g.text l x b h e),
  )

  -- the line at hand is good, and it and its end are read: reading is at the next line
  Going-line : (j : JobList) (l x : List ℕ) → NoNewline l → length l ≤ LONGEST_LINE → t ≡ l ++ 10 ∷ x
      → one_line s number l ≡ Ok j
      → Going (number + 1) (Some j) t0 x
  Going-line j l x n h e o = record {
    read = g.read ++ (l ++ 10 ∷ []);
    text = AtLine-next g.text l x n e;
    goes = λ f y.
        ap (outcome f) (append-line g.read l 10 y) ∙ g.goes f (l ++ 10 ∷ y) ∙ outcome_from-line f s number l y n h
        ∙ ap (λ (v : Outcome). then_on v (λ k. outcome_from f (Some k) (number + 1) y)) o;
  }

  -- the line at hand is at fault, or there is no memory for its job
  Gives-fault : (l x : List ℕ) (f : ServiceFault) (s' : Option JobList) → NoNewline l → length l ≤ LONGEST_LINE
      → t ≡ l ++ 10 ∷ x
      → number ≡ lines_of s + 1 → Follows (one_line s number l) number s' (Err f) → GivesTo t0 x s' (Err f)
  Gives-fault l x faults.Memory s' n h e c o =
      let next : Going (number + 1) (Some o.0) t0 x = Going-line o.0 l x n h e o.1 in (
        next.read,
        o.0,
        next.text.whole,
        ap jobs_of (sym (append-nil next.read)) ∙ next.goes at_end []
            ∙ outcome_from-end at_end (Some o.0) (number + 1) [] (λ k d i. absurd (omega arith)) (omega arith),
        o.2,
        after_lines-line g.text l x n e ∙ ap (λ i. after_lines i t0) (lines-read o.0 l c o.1),
      )
  Gives-fault l x (faults.BadLine m) s' n h e c o =
      let outcome : jobs_of t0 ≡ Err (faults.BadLine number) =
      outcome-rest at_end ∙ ap (outcome_from at_end s number) e ∙ outcome_from-line at_end s number l x n h
      ∙ ap (λ (v : Outcome). then_on v (λ k. outcome_from at_end (Some k) (number + 1) x)) o.1 in
      subst (λ (i : ℕ). Gives t0 x (Err (faults.BadLine i))) (sym o.0) (outcome, inl (after_lines-line g.text l x n e))
  Gives-fault l x faults.NoHeader s' n h e c o = absurd o
  Gives-fault l x faults.Spawn s' n h e c o = absurd o
  Gives-fault l x faults.Torn s' n h e c o = absurd o
  Gives-fault l x faults.ReadFault s' n h e c o = absurd o
  Gives-fault l x faults.WriteFault s' n h e c o = absurd o

  -- the last line, which has no end
  Gives-last : (l x : List ℕ) (r : Result (Unit {0}) ServiceFault) (s' : Option JobList) → NoNewline l
      → length l ≤ LONGEST_LINE
      → t ≡ l → x ≡ [] → (l ≡ [] → ⊥) → number ≡ lines_of s + 1 → Follows (one_line s number l) number s' r
      → GivesTo t0 x s' r
  Gives-last l x r s' n h e z some c o =
      let outcome-line : jobs_of t0 ≡ one_line s number l =
      outcome-rest at_end ∙ ap (outcome_from at_end s number) e ∙ outcome_from-end at_end s number l n h
      ∙ at_end-some s number l some in
      last r s' outcome-line o
    where
      last : (r : Result (Unit {0}) ServiceFault) (s' : Option JobList) → jobs_of t0 ≡ one_line s number l
          → Follows (one_line s number l) number s' r → GivesTo t0 x s' r
      last (Ok u) None q o = absurd o
      last (Ok u) (Some j) q o = (q ∙ o, z)
      last (Err faults.Memory) s' q o = (
        t0,
        o.0,
        sym (append-nil t0) ∙ ap (λ v. t0 ++ v) (sym z),
        q ∙ o.1,
        o.2,
        after_lines-last g.text l x n e z ∙ ap (λ i. after_lines i t0) (lines-read o.0 l c o.1),
      )
      last (Err (faults.BadLine m)) s' q o =
          subst (λ (i : ℕ). Gives t0 x (Err (faults.BadLine i))) (sym o.0)
          (q ∙ o.1, inl (after_lines-last g.text l x n e z))
      last (Err faults.NoHeader) s' q o = absurd o
      last (Err faults.Spawn) s' q o = absurd o
      last (Err faults.Torn) s' q o = absurd o
      last (Err faults.ReadFault) s' q o = absurd o
      last (Err faults.WriteFault) s' q o = absurd o

  -- the input ends, before any line or after whole ones
  Gives-end : (x : List ℕ) → t ≡ [] → x ≡ [] → number ≡ lines_of s + 1 → number ≢ 1 → GivesTo t0 x s (Ok tt)
  Gives-end x e z c m =
      let outcome-end : jobs_of t0 ≡ at_end s number [] =
      outcome-rest at_end ∙ ap (outcome_from at_end s number) e
      ∙ outcome_from-end at_end s number [] (λ k d i. absurd (omega arith)) (omega arith) in
      end s outcome-end c
    where
      end : (s' : Option JobList) → jobs_of t0 ≡ at_end s' number [] → number ≡ lines_of s' + 1
          → GivesTo t0 x s' (Ok tt)
      end None q c = absurd (m c)
      end (Some j) q c = (q, z)

  Gives-no_header : (x : List ℕ) → t ≡ [] → x ≡ [] → number ≡ lines_of s + 1 → number ≡ 1
      → Gives t0 x (Err faults.NoHeader)
  Gives-no_header x e z c m =
      let none : s ≡ None = no_lines s (omega arith) in (
        outcome-rest at_end ∙ ap (outcome_from at_end s number) e
            ∙ outcome_from-end at_end s number [] (λ k d i. absurd (omega arith)) (omega arith)
            ∙ ap (λ (v : Option JobList). at_end v number []) none,
        z,
      )

-- what is known of a reader's bytes, if reading is at this line
pub record Known (k0 k : Option (List ℕ)) (number : ℕ) (s : Option JobList) : Type 0 where
  pub goes : Reads k0 k (Going number s)

pub Known-start : (k : Option (List ℕ)) → Known k k 1 None
Known-start None = record { goes = tt }
Known-start (Some t) = record { goes = Going-start t }

module _ {k0 k : Option (List ℕ)} {number : ℕ} {s : Option JobList} (h : Known k0 k number s) (m : Option (List ℕ))
    (l : List ℕ)
    (one : NoNewline l) (short : length l ≤ LONGEST_LINE) where
  -- the line at hand ends in this way
  ended : (S : List ℕ → List ℕ → Type 0) (e f : Result Ended LineFault) → e ≡ f
      → ((t0 t x : List ℕ) → Going number s t0 t → ReadsLine l f t x → S t0 x) → Reads k m (ReadsLine l e)
      → Reads k0 m S
  ended S e f is go r = Reads-line k0 k m (Going number s) S l e f is go h.goes r

  pub exit_failed : (f : LineFault) (s' : Option JobList) → f ≡ why.Failed → Reads k m (ReadsLine l (Err f))
      → Reads k0 m (λ text left. GivesTo text left s' (Err faults.ReadFault))
  exit_failed f s' e r =
      ended (λ text left. GivesTo text left s' (Err faults.ReadFault)) (Err f) (Err why.Failed) (ap Err e)
      (λ t0 t x g b. breaks number s t0 t g l x one short b) r

  pub exit_long : (f : LineFault) (s' : Option JobList) → f ≡ why.TooLong → Reads k m (ReadsLine l (Err f))
      → IsLineFor 257 l (Err f)
      → Reads k0 m (λ text left. GivesTo text left s' (Err (faults.BadLine number)))
  exit_long f s' e r fits =
      let z : length l ≡ LONGEST_LINE = (subst (λ (v : LineFault). IsLineFor 257 l (Err v)) e fits).0 in
      ended (λ text left. GivesTo text left s' (Err (faults.BadLine number))) (Err f) (Err why.TooLong) (ap Err e)
      (λ t0 t x g b. Gives-long_line number s t0 t g l x b.0 one b.1 z b.2) r

  pub exit_last : (f : Ended) (line : List ℕ) (r : Result (Unit {0}) ServiceFault) (s' : Option JobList) → f ≡ how.Last
      → line ≡ l
      → Reads k m (ReadsLine l (Ok f)) → (l ≡ [] → ⊥) → number ≡ lines_of s + 1
      → Follows (one_line s number line) number s' r
      → Reads k0 m (λ text left. GivesTo text left s' r)
  exit_last f line r s' e i q z c o = ended (λ text left. GivesTo text left s' r) (Ok f) (Ok how.Last) (ap Ok e)
      (λ t0 t x g b.
      Gives-last number s t0 t g l x r s' one short b.0 b.1 z c
      (subst (λ (v : List ℕ). Follows (one_line s number v) number s' r) i o)) q

  pub exit_done : (f : Ended) → f ≡ how.Last → Reads k m (ReadsLine l (Ok f)) → l ≡ [] → number ≡ lines_of s + 1
      → number ≢ 1
      → Reads k0 m (λ text left. GivesTo text left s (Ok tt))
  exit_done f e r z c n = ended (λ text left. GivesTo text left s (Ok tt)) (Ok f) (Ok how.Last) (ap Ok e)
      (λ t0 t x g b. Gives-end number s t0 t g x (b.0 ∙ z) b.1 c n) r

  pub exit_empty : (f : Ended) (s' : Option JobList) → f ≡ how.Last → Reads k m (ReadsLine l (Ok f)) → l ≡ []
      → number ≡ lines_of s + 1
      → number ≡ 1 → Reads k0 m (λ text left. GivesTo text left s' (Err faults.NoHeader))
  exit_empty f s' e r z c n =
      ended (λ text left. GivesTo text left s' (Err faults.NoHeader)) (Ok f) (Ok how.Last) (ap Ok e)
      (λ t0 t x g b. Gives-no_header number s t0 t g x (b.0 ∙ z) b.1 c n) r

  pub exit_fault : (f : Ended) (line : List ℕ) (bad : ServiceFault) (s' : Option JobList) → f ≡ how.Line → line ≡ l
      → Reads k m (ReadsLine l (Ok f)) → number ≡ lines_of s + 1 → Follows (one_line s number line) number s' (Err bad)
      → Reads k0 m (λ text left. GivesTo text left s' (Err bad))
  exit_fault f line bad s' e i r c o =
      ended (λ text left. GivesTo text left s' (Err bad)) (Ok f) (Ok how.Line) (ap Ok e)
      (λ t0 t x g b.
      Gives-fault number s t0 t g l x bad s' one short b c
      (subst (λ (v : List ℕ). Follows (one_line s number v) number s' (Err bad)) i o)) r

  pub next_line : (f : Ended) (line : List ℕ) (s' : Option JobList) → f ≡ how.Line → line ≡ l
      → Reads k m (ReadsLine l (Ok f)) → Follows (one_line s number line) number s' (Ok tt)
      → Known k0 m (number + 1) s'
  next_line f line None e i r o = absurd o
  next_line f line (Some j) e i r o = record {
    goes = ended (Going (number + 1) (Some j)) (Ok f) (Ok how.Line) (ap Ok e)
        (λ t0 t x g b. Going-line number s t0 t g j l x one short b
        (subst (λ (v : List ℕ). one_line s number v ≡ Ok j) i o)) r;
  }
