-- How a run continues, line by line.
use Rattle.std.proofs.Common.{◌≡◌, ◌≢◌, ℕ, suc, ◌+◌, ◌-◌, ◌<◌, ◌≤◌, List, [], ◌∷◌, ◌++◌, length, take, drop, Option}
use Rattle.std.proofs.Common.{Some, None, Result, Ok, Err}
use Rattle.std.proofs.Common.{refl, ap, sym, ◌∙◌, append_assoc, subst, eqb, cond, Bool, true, false, arith}
use Rattle.std.proofs.Common.{length-append}
use Rattle.std.proofs.KnownBytes.{Appends-nil, Appends-trans}
use Rattle.std.proofs.lemmas.List.{append-nil}
use Rattle.std.proofs.lemmas.List.Splits.{slice_split_at, slice_split_none}
use Rattle.std.specs.List.{slice_split}
use Rattle.std.specs.Result.{IsOkAnd}
use Rattle.std.specs.Io.KnownBytes.{Appends}
use Rattle.line_text.proofs.AfterLines.{AtLine, AtLine-first, AtLine-next, after_lines-last, after_lines-line}
use Rattle.line_text.proofs.AfterLines.{after_lines-long_line, append-line}
use Rattle.line_text.proofs.Streams.{Reads-line, append-take_prefix, drop-read}
use Rattle.line_text.specs.declared.line.Ended.{Ended}
use Rattle.line_text.specs.declared.line.Ended.TheVariants as how
use Rattle.line_text.specs.declared.line.LineFault.{LineFault}
use Rattle.line_text.specs.declared.line.LineFault.TheVariants as why
use Rattle.line_text.specs.declared.line.TheConstants.{LONGEST_LINE}
use Rattle.line_text.specs.Line.{ReadsLine, IsLineFor, NoNewline, after_lines, is_newline}
use Rattle.line_text.specs.Streams.{Reads, AppendsPrefix}
use Rattle.wait_book.specs.Contents.{Contents}
use Rattle.hoare_script.specs.declared.fault.ScriptFault.{ScriptFault}
use Rattle.hoare_script.specs.declared.fault.ScriptFault.TheVariants as faults
use Rattle.hoare_script.specs.declared.runs.TheConstants.{MOST_BYTES}
use Rattle.hoare_script.specs.Scripts.{State, Start, Running, Output, Ending, Outcome, output, output_from, prepend}
use Rattle.hoare_script.specs.Scripts.{stop}
use Rattle.hoare_script.specs.Scripts.{done, then_on, one_line, at_end, at_cut}
use Rattle.hoare_script.specs.Runs.{IsAt, Follows, IsGoodHeader, OnFault, Tells, Verdict, Whole}
use Rattle.hoare_script.proofs.Answering.{one_line-number}
use Rattle.hoare_script.proofs.Scripts.{output_from-line, output_from-long_line, output_from-past_limit}
use Rattle.hoare_script.proofs.Scripts.{output_from-end}

-- the state of a run: of the input t0 it has t left, and what it wrote and will write is what `told` has of the input
pub record Going (number room : ℕ) (opened : Option Contents) (old now : Option (List ℕ)) (t0 t : List ℕ) : Type 0 where
  pub state : State
  pub written : List ℕ
  pub read : List ℕ
  pub text : AtLine number read t0 t
  pub at : IsAt opened state
  pub appends : Appends old now written
  pub goes : (e : Ending) (x : List ℕ) → output e (read ++ x) ≡ prepend written (output_from e state number room x)
  pub fresh : state ≡ Start → (written ≡ []) × (number ≡ 1)
  pub counted : length read + room ≡ MOST_BYTES

-- nothing was read or written yet
Going-start : (old : Option (List ℕ)) (t : List ℕ) → Going 1 MOST_BYTES None old old t t
Going-start old t = record {
  state = Start;
  written = [];
  read = [];
  text = AtLine-first t;
  at = tt;
  appends = Appends-nil old;
  goes = λ e x. refl;
  fresh = λ h. (refl, refl);
  counted = omega arith;
}

-- the script ends with a fault, and nothing more is written
Whole-fault : (old now new : Option (List ℕ)) (w : List ℕ) (t : Output) (f : ScriptFault)
    → Appends old now w → Appends now new [] → t ≡ prepend w (stop f) → Whole t old new (Some f)
Whole-fault old now new w t f p q e = (
  subst (λ (v : Output). Appends old new v.written) (sym e) (Appends-trans old now new w [] p q),
  ap (λ (v : Output). v.fault) e,
)

-- what a line wrote, and the state of the script after it
IsOkAnd-parts : (out : Outcome) (P : List ℕ × State → Type 0) → IsOkAnd out P
    → (p : List ℕ × State) × (out ≡ Ok p) × P p
IsOkAnd-parts (Ok p) P h = (p, refl, h)
IsOkAnd-parts (Err f) P h = absurd h

-- to prepend two texts is to prepend both as one text
prepend-prepend : (w p : List ℕ) (t : Output) → prepend w (prepend p t) ≡ prepend (w ++ p) t
prepend-prepend w p t = ap (λ (v : List ℕ). record { written = v; fault = t.fault }) (sym (append_assoc w p t.written))

-- a state in which there is a book isn't the first
IsAt-start : (o : Option Contents) (s : State) → IsAt o s → s ≡ Start → o ≡ None
IsAt-start None s h e = refl
IsAt-start (Some b) Start h e = absurd h
IsAt-start (Some b) (Running h) st e = cc

-- the last line, if it isn't empty
at_end-some : (s : State) (i : ℕ) (l : List ℕ) → (l ≡ [] → ⊥) → at_end s i l ≡ then_on (one_line s i l) (λ _. done)
at_end-some s i [] n = absurd (n refl)
at_end-some s i (b ∷ bs) n = refl

module _ (number room : ℕ) (opened : Option Contents) (old now : Option (List ℕ)) (t0 t : List ℕ)
    (g : Going number room opened old now t0 t) where
  -- the rest of `told`, from the state of the run on
  output-rest : (e : Ending) → output e t0 ≡ prepend g.written (output_from e g.state number room t)
  output-rest e = ap (output e) g.text.whole ∙ g.goes e t

  -- the rest of the script is a fault, and nothing more is written
  Whole-stop : (new : Option (List ℕ)) (f : ScriptFault) → Appends now new []
      → output_from at_end g.state number room t ≡ stop f → Whole (output at_end t0) old new (Some f)
  Whole-stop new f a e =
      Whole-fault old now new g.written (output at_end t0) f g.appends a (output-rest at_end ∙ ap (prepend g.written) e)

  -- the answers to the lines before are what was written
  output-before : (output at_cut g.read).written ≡ g.written
  output-before =
      let none : output_from at_cut g.state number room [] ≡ stop faults.ReadFault =
      output_from-end at_cut g.state number room [] (λ k d h. absurd (omega arith)) (omega arith) (omega arith) in
      let all : output at_cut g.read ≡ prepend g.written (stop faults.ReadFault) =
      ap (output at_cut) (sym (append-nil g.read)) ∙ g.goes at_cut [] ∙ ap (prepend g.written) none in
      ap (λ (v : Output). v.written) all ∙ append-nil g.written

  -- the line was too long
  Tells-long_line : (l x : List ℕ) (b : ℕ) → NoNewline l → b ≢ 10 → length l ≡ LONGEST_LINE → LONGEST_LINE < room
      → t ≡ l ++ b ∷ x
      → Tells t0 x old now (Err (faults.LineTooLong number))
  Tells-long_line l x b n d h r e = (
    Whole-stop now (faults.LineTooLong number) (Appends-nil now)
        (ap (output_from at_end g.state number room) e ∙ output_from-long_line at_end g.state number room l b x n d h
        r),
    after_lines-long_line g.text l x b h e,
  )

  -- a byte past the limit
  Tells-past_limit : (l x : List ℕ) (b : ℕ) → NoNewline l → length l ≤ LONGEST_LINE → length l ≡ room → t ≡ l ++ b ∷ x
      → Tells t0 x old now (Err faults.TooMuch)
  Tells-past_limit l x b n h r e =
      let consumed : List ℕ = g.read ++ (l ++ b ∷ []) in
      let bytes : t0 ≡ consumed ++ x = g.text.whole ∙ ap (λ v. g.read ++ v) e ∙ sym (append-line g.read l b x) in
      let count : length consumed ≡ MOST_BYTES + 1 =
      omega (arith, length-append g.read (l ++ b ∷ []), length-append l (b ∷ []), g.counted, r) in (
        Whole-stop now faults.TooMuch (Appends-nil now)
            (ap (output_from at_end g.state number room) e ∙ output_from-past_limit at_end g.state number room l b x n
            h r),
        sym (ap (drop (MOST_BYTES + 1)) bytes ∙ drop-read (MOST_BYTES + 1) consumed x count),
      )

  -- a read failed
  Tells-cut : (l x : List ℕ) → NoNewline l → length l ≤ LONGEST_LINE → length l ≤ room → t ≡ l ++ x
      → Tells t0 x old now (Err faults.ReadFault)
  Tells-cut l x n h r e =
      let bytes : t0 ≡ (g.read ++ l) ++ x = g.text.whole ∙ ap (λ v. g.read ++ v) e ∙ sym (append_assoc g.read l x) in
      let fault : output at_cut (g.read ++ l) ≡ prepend g.written (stop faults.ReadFault) =
      g.goes at_cut l ∙ ap (prepend g.written) (output_from-end at_cut g.state number room l n h r) in (
        (
          g.read ++ l,
          bytes,
          Whole-fault old now now g.written (output at_cut (g.read ++ l)) faults.ReadFault g.appends
              (Appends-nil now) fault,
        ),
        (g.read ++ l, bytes),
      )

  -- a write fails in the middle of a line's answer
  Tells-break : (new : Option (List ℕ)) (x : List ℕ) (out : Outcome) (go : State → Output)
      → output_from at_end g.state number room t ≡ then_on out go → x ≡ after_lines number t0
      → IsOkAnd out (λ p. AppendsPrefix now new p.0) → Tells t0 x old new (Err faults.WriteFault)
  Tells-break new x out go e b o =
      let q : (p : List ℕ × State) × (out ≡ Ok p) × AppendsPrefix now new p.0 =
      IsOkAnd-parts out (λ p. AppendsPrefix now new p.0) o in
      let w : List ℕ = g.written in
      let p : List ℕ = q.0.0 in
      let r : List ℕ = (go q.0.1).written in
      let n : ℕ = q.2.0 in
      let next : number ≡ suc (number - 1) = omega (arith, g.text.some) in
      let all : (output at_end t0).written ≡ w ++ (p ++ r) =
      ap (λ (v : Output). v.written) (output-rest at_end ∙ ap (prepend w)
      (e ∙ ap (λ (v : Outcome). then_on v go) q.1)) in
      let some : take (length w + n) (output at_end t0).written ≡ w ++ take n p =
      ap (take (length w + n)) all ∙ sym (append-take_prefix w p r n (omega (arith, q.2.1))) in (
        (
          number - 1,
          (
            g.read,
            length w + n,
            g.text.whole ∙ ap (λ v. g.read ++ v) g.text.behind,
            b ∙ ap (λ i. after_lines i t0) next,
            omega (arith, ap length output-before),
            omega (arith, ap length all, length-append w (p ++ r), length-append p r, q.2.1),
            subst (λ (v : List ℕ). Appends old new v) (sym some)
                (Appends-trans old now new w (take n p) g.appends q.2.2),
          ),
        ),
        (number, b),
      )

  -- a line's fault
  Tells-fault : (new : Option (List ℕ)) (l x : List ℕ) (go : State → Output) (f : ScriptFault)
      → output_from at_end g.state number room t ≡ then_on (one_line g.state number l) go → x ≡ after_lines number t0
      → OnFault (one_line g.state number l) now new f → (f ≡ faults.Memory → (g.state ≡ Start) × IsGoodHeader l)
      → ((lines : List (List ℕ)) × (slice_split is_newline t ≡ l ∷ lines)) → Tells t0 x old new (Err f)
  Tells-fault new l x go faults.NoHeader e b o m a = absurd o
  Tells-fault new l x go (faults.BadLine i) e b o m a = (
    Whole-stop new (faults.BadLine i) o.1 (e ∙ ap (λ (v : Outcome). then_on v go) o.0),
    b ∙ ap (λ n. after_lines n t0) (sym (one_line-number g.state number l (faults.BadLine i) o.0)),
  )
  Tells-fault new l x go (faults.BadHeader i) e b o m a = (
    Whole-stop new (faults.BadHeader i) o.1 (e ∙ ap (λ (v : Outcome). then_on v go) o.0),
    b ∙ ap (λ n. after_lines n t0) (sym (one_line-number g.state number l (faults.BadHeader i) o.0)),
  )
  Tells-fault new l x go faults.ReadFault e b o m a = absurd o
  Tells-fault new l x go faults.WriteFault e b o m a = Tells-break new x (one_line g.state number l) go e b o
  Tells-fault new l x go faults.Memory e b o m a =
      let first : (g.written ≡ []) × (number ≡ 1) = g.fresh (m refl).0 in
      let whole : t0 ≡ t = sym (g.text.behind ∙ ap (λ n. after_lines (n - 1) t0) first.1) in (
        (
          (l, a.0, ap (slice_split is_newline) whole ∙ a.1, (m refl).1),
          Appends-trans old now new [] [] (subst (λ (v : List ℕ). Appends old now v) first.0 g.appends) o,
        ),
        b ∙ ap (λ n. after_lines n t0) first.1,
      )
  Tells-fault new l x go (faults.LineTooLong i) e b o m a = absurd o
  Tells-fault new l x go faults.TooMuch e b o m a = absurd o

  -- the answer to the last line is written
  Tells-end : (new : Option (List ℕ)) (x : List ℕ) (out : Outcome) (P : State → Type 0)
      → output_from at_end g.state number room t ≡ then_on out (λ _. done) → x ≡ []
      → IsOkAnd out (λ p. Appends now new p.0 × P p.1)
      → Tells t0 x old new (Ok tt)
  Tells-end new x out P e z o =
      let q : (p : List ℕ × State) × (out ≡ Ok p) × (Appends now new p.0 × P p.1) =
      IsOkAnd-parts out (λ p. Appends now new p.0 × P p.1) o in
      let all : output at_end t0 ≡ prepend g.written (prepend q.0.0 done) =
      output-rest at_end ∙ ap (prepend g.written) (e ∙ ap (λ (v : Outcome). then_on v (λ _. done)) q.1) in
      let text : g.written ++ q.0.0 ≡ (output at_end t0).written =
      ap (λ v. g.written ++ v) (sym (append-nil q.0.0)) ∙ sym (ap (λ (v : Output). v.written) all) in (
        (
          subst (λ (v : List ℕ). Appends old new v) text (Appends-trans old now new g.written q.0.0 g.appends q.2.0),
          ap (λ (v : Output). v.fault) all,
        ),
        z,
      )

  -- nothing follows the last whole line
  output_from-nothing : t ≡ [] → output_from at_end g.state number room t ≡ cond (eqb number 1) (stop faults.NoHeader)
      done
  output_from-nothing e =
      ap (output_from at_end g.state number room) e
      ∙ output_from-end at_end g.state number room [] (λ k d h. absurd (omega arith)) (omega arith) (omega arith)

  -- the input is empty, or ends after a whole line
  Tells-nothing : (x : List ℕ) (empty : Bool)
      → output_from at_end g.state number room t ≡ cond empty (stop faults.NoHeader) done → x ≡ []
      → Tells t0 x old now (cond empty (Err faults.NoHeader) (Ok tt))
  Tells-nothing x true e z = (Whole-stop now faults.NoHeader (Appends-nil now) e, z)
  Tells-nothing x false e z =
      let all : output at_end t0 ≡ prepend g.written done = output-rest at_end ∙ ap (prepend g.written) e in
      let text : g.written ≡ (output at_end t0).written =
      sym (append-nil g.written) ∙ sym (ap (λ (v : Output). v.written) all) in
      ((subst (λ (v : List ℕ). Appends old now v) text g.appends, ap (λ (v : Output). v.fault) all), z)

  -- the answer to a whole line is written
  Going-line : (d : Contents) (new : Option (List ℕ)) (l x : List ℕ) → NoNewline l → length l ≤ LONGEST_LINE
      → length l < room → t ≡ l ++ 10 ∷ x
      → IsOkAnd (one_line g.state number l) (λ p. Appends now new p.0 × IsAt (Some d) p.1)
      → Going (number + 1) (room - (length l + 1)) (Some d) old new t0 x
  Going-line d new l x n h r e o =
      let q : (p : List ℕ × State) × (one_line g.state number l ≡ Ok p) × (Appends now new p.0 × IsAt (Some d) p.1) =
      IsOkAnd-parts _ (λ p. Appends now new p.0 × IsAt (Some d) p.1) o in
      let line : List ℕ = l ++ 10 ∷ [] in
      record {
        state = q.0.1;
        written = g.written ++ q.0.0;
        read = g.read ++ line;
        text = AtLine-next g.text l x n e;
        at = q.2.1;
        appends = Appends-trans old now new g.written q.0.0 g.appends q.2.0;
        goes = λ f y.
            ap (output f) (append-line g.read l 10 y) ∙ g.goes f (l ++ 10 ∷ y)
            ∙ ap (prepend g.written) (output_from-line f g.state number room l y n h r
            ∙ ap (λ (v : Outcome). then_on v (λ s. output_from f s (number + 1) (room - (length l + 1)) y)) q.1)
            ∙ prepend-prepend g.written q.0.0 (output_from f q.0.1 (number + 1) (room - (length l + 1)) y);
        fresh = λ z. let bad : Some d ≡ None = IsAt-start (Some d) q.0.1 q.2.1 z in absurd (cc);
        counted = omega (arith, length-append g.read line, length-append l (10 ∷ []), g.counted, r);
      }

-- if the bytes of the reader are known, this is the state of the run: of k0, which the reader had, k is left
pub record Known (k0 k old now : Option (List ℕ)) (number room : ℕ) (opened : Option Contents) : Type 0 where
  pub goes : Reads k0 k (Going number room opened old now)

Reads-start : (k old : Option (List ℕ)) → Reads k k (Going 1 MOST_BYTES None old old)
Reads-start None old = tt
Reads-start (Some t) old = Going-start old t

-- before the first read
pub Known-start : (k old : Option (List ℕ)) → Known k k old old 1 MOST_BYTES None
Known-start k old = record { goes = Reads-start k old }

-- The exits of the loop, and its iteration: a line l was read, and m is left.
module _ {k0 k old now : Option (List ℕ)} {number room : ℕ} {opened : Option Contents}
    (h : Known k0 k old now number room opened)
    (m : Option (List ℕ)) (l : List ℕ) (one : NoNewline l) (short : length l ≤ LONGEST_LINE)
    (within : length l ≤ room) where
  -- the line that was read ends in this way
  ended : (S : List ℕ → List ℕ → Type 0) (e f : Result Ended LineFault) → e ≡ f
      → ((t0 t x : List ℕ) → Going number room opened old now t0 t → ReadsLine l f t x → S t0 x)
      → Reads k m (ReadsLine l e) → Reads k0 m S
  ended S e f is go r = Reads-line k0 k m (Going number room opened old now) S l e f is go h.goes r

  pub exit_failed : (f : LineFault) → f ≡ why.Failed → Reads k m (ReadsLine l (Err f))
      → Reads k0 m (λ text left. Tells text left old now (Err faults.ReadFault))
  exit_failed f e r =
      ended (λ text left. Tells text left old now (Err faults.ReadFault)) (Err f) (Err why.Failed) (ap Err e)
      (λ t0 t x g b. Tells-cut number room opened old now t0 t g l x one short within b) r

  pub exit_long : (f : LineFault) → f ≡ why.TooLong → Reads k m (ReadsLine l (Err f)) → IsLineFor room l (Err f)
      → Reads k0 m (λ text left. Tells text left old now (Err (faults.LineTooLong number)))
  exit_long f e r s =
      let fits : (length l ≡ LONGEST_LINE) × (LONGEST_LINE < room) =
      subst (λ (v : LineFault). IsLineFor room l (Err v)) e s in
      ended (λ text left. Tells text left old now (Err (faults.LineTooLong number))) (Err f) (Err why.TooLong)
      (ap Err e)
      (λ t0 t x g b. Tells-long_line number room opened old now t0 t g l x b.0 one b.1 fits.0 fits.1 b.2) r

  pub exit_much : (f : LineFault) → f ≡ why.TooMuch → Reads k m (ReadsLine l (Err f)) → IsLineFor room l (Err f)
      → Reads k0 m (λ text left. Tells text left old now (Err faults.TooMuch))
  exit_much f e r s =
      let fits : length l ≡ room = subst (λ (v : LineFault). IsLineFor room l (Err v)) e s in
      ended (λ text left. Tells text left old now (Err faults.TooMuch)) (Err f) (Err why.TooMuch) (ap Err e)
      (λ t0 t x g b. Tells-past_limit number room opened old now t0 t g l x b.0 one short fits b.1) r

  pub exit_end : (res : Verdict) (f : Ended) → f ≡ how.Last → Reads k m (ReadsLine l (Ok f)) → l ≡ []
      → res ≡ cond (eqb number 1) (Err faults.NoHeader) (Ok tt) → Reads k0 m (λ text left. Tells text left old now res)
  exit_end res f e r z is = ended (λ text left. Tells text left old now res) (Ok f) (Ok how.Last) (ap Ok e)
      (λ t0 t x g b.
      subst (λ (v : Verdict). Tells t0 x old now v) (sym is)
      (Tells-nothing number room opened old now t0 t g x (eqb number 1)
      (output_from-nothing number room opened old now t0 t g (b.0 ∙ z)) b.1)) r

  -- what `output_from` has of the last line
  output_from-last : (s : State) (t : List ℕ) → t ≡ l → (l ≡ [] → ⊥)
      → output_from at_end s number room t ≡ then_on (one_line s number l) (λ _. done)
  output_from-last s t e z =
      ap (output_from at_end s number room) e ∙ output_from-end at_end s number room l one short within
      ∙ at_end-some s number l z

  last_line : (n : Option (List ℕ)) (d : Option Contents) (res : Result (Unit {0}) ScriptFault) (t0 t x : List ℕ)
      → (g : Going number room opened old now t0 t) → t ≡ l → x ≡ [] → (l ≡ [] → ⊥)
      → Follows (one_line g.state number l) now n d res
      → (res ≡ Err faults.Memory → (g.state ≡ Start) × IsGoodHeader l) → Tells t0 x old n res
  last_line n d (Ok tt) t0 t x g e y z o c =
      Tells-end number room opened old now t0 t g n x (one_line g.state number l) (IsAt d)
      (output_from-last g.state t e z) y o
  last_line n d (Err f) t0 t x g e y z o c =
      Tells-fault number room opened old now t0 t g n l x (λ _. done) f (output_from-last g.state t e z)
      (after_lines-last g.text l x one e y) o (λ q. c (ap Err q))
      ([], ap (slice_split is_newline) e ∙ slice_split_none is_newline l one)

  pub exit_last : (n : Option (List ℕ)) (d : Option Contents) (res : Result (Unit {0}) ScriptFault) (f : Ended)
      (line : List ℕ)
      → f ≡ how.Last → line ≡ l → Reads k m (ReadsLine l (Ok f)) → (l ≡ [] → ⊥)
      → ((s : State) → IsAt opened s → Follows (one_line s number line) now n d res)
      → ((s : State) → IsAt opened s → res ≡ Err faults.Memory → (s ≡ Start) × IsGoodHeader line)
      → Reads k0 m (λ text left. Tells text left old n res)
  exit_last n d res f line e i r z o c = ended (λ text left. Tells text left old n res) (Ok f) (Ok how.Last) (ap Ok e)
      (λ t0 t x g b.
      last_line n d res t0 t x g b.0 b.1 z
      (subst (λ (v : List ℕ). Follows (one_line g.state number v) now n d res) i (o g.state g.at))
      (λ q. subst (λ (v : List ℕ). (g.state ≡ Start) × IsGoodHeader v) i (c g.state g.at q))) r

  pub exit_fault : (n : Option (List ℕ)) (bad : ScriptFault) (f : Ended) (line : List ℕ)
      → f ≡ how.Line → line ≡ l → Reads k m (ReadsLine l (Ok f)) → length l < room
      → ((s : State) → IsAt opened s → OnFault (one_line s number line) now n bad)
      → ((s : State) → IsAt opened s → bad ≡ faults.Memory → (s ≡ Start) × IsGoodHeader line)
      → Reads k0 m (λ text left. Tells text left old n (Err bad))
  exit_fault n bad f line e i r fits o c =
      ended (λ text left. Tells text left old n (Err bad)) (Ok f) (Ok how.Line) (ap Ok e)
      (λ t0 t x g b.
      Tells-fault number room opened old now t0 t g n l x
      (λ v. output_from at_end v (number + 1) (room - (length l + 1)) x) bad
      (ap (output_from at_end g.state number room) b ∙ output_from-line at_end g.state number room l x one short fits)
      (after_lines-line g.text l x one b)
      (subst (λ (v : List ℕ). OnFault (one_line g.state number v) now n bad) i (o g.state g.at))
      (λ q. subst (λ (v : List ℕ). (g.state ≡ Start) × IsGoodHeader v) i (c g.state g.at q))
      (slice_split is_newline x, ap (slice_split is_newline) b ∙ slice_split_at is_newline l 10 x one refl)) r

  Going-next : (n : Option (List ℕ)) (d : Option Contents) (t0 t x : List ℕ) → (d ≡ None → ⊥)
      → (g : Going number room opened old now t0 t)
      → length l < room → t ≡ l ++ 10 ∷ x → IsOkAnd (one_line g.state number l) (λ p. Appends now n p.0 × IsAt d p.1)
      → Going (number + 1) (room - (length l + 1)) d old n t0 x
  Going-next n None t0 t x i g r e o = absurd (i refl)
  Going-next n (Some d) t0 t x i g r e o = Going-line number room opened old now t0 t g d n l x one short r e o

  pub next_line : (n : Option (List ℕ)) (d : Option Contents) (f : Ended) (line : List ℕ) (size : ℕ)
      → f ≡ how.Line → line ≡ l → size ≡ length l → (d ≡ None → ⊥) → Reads k m (ReadsLine l (Ok f)) → length l < room
      → ((s : State) → IsAt opened s → IsOkAnd (one_line s number line) (λ p. Appends now n p.0 × IsAt d p.1))
      → Known k0 m old n (number + 1) (room - (size + 1)) d
  next_line n d f line size e j z i r fits o =
      let goes : Reads k0 m (Going (number + 1) (room - (length l + 1)) d old n) =
      ended (Going (number + 1) (room - (length l + 1)) d old n) (Ok f) (Ok how.Line) (ap Ok e)
      (λ t0 t x g b.
      Going-next n d t0 t x i g fits b
      (subst (λ (v : List ℕ). IsOkAnd (one_line g.state number v) (λ p. Appends now n p.0 × IsAt d p.1)) j
      (o g.state g.at))) r in
      record { goes = subst (λ (u : ℕ). Reads k0 m (Going (number + 1) (room - (u + 1)) d old n)) (sym z) goes }
