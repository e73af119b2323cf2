-- Known bytes of readers and writers.
use Rattle.std.proofs.Common.{◌≡◌, ◌∙◌, ℕ, ◌+◌, ◌-◌, ◌≤◌, List, ◌++◌, length, take, drop, Option, Some, None, Result}
use Rattle.std.proofs.Common.{ap, sym, subst, length-append, length-drop, arith}
use Rattle.std.proofs.KnownBytes.{Appends-trans}
use Rattle.std.proofs.Math.Seq.{take-add, take-append-add, drop-append_seam}
use Rattle.std.proofs.lemmas.List.{take_all, take-append-le}
use Rattle.std.specs.Io.KnownBytes.{Appends}
use Rattle.line_text.specs.declared.line.Ended.{Ended}
use Rattle.line_text.specs.declared.line.LineFault.{LineFault}
use Rattle.line_text.specs.Line.{ReadsLine}
use Rattle.line_text.specs.Streams.{Reads, AppendsPrefix}

-- more of a text is written: its next n bytes, of the at most m that were offered
pub Appends-take : (a b c : Option (List ℕ)) (bs : List ℕ) (i n m : ℕ) → length bs - i ≤ m
    → Appends a b (take i bs) → Appends b c (take n (take m (drop i bs))) → Appends a c (take (i + n) bs)
Appends-take a b c bs i n m l p q =
    let e : take m (drop i bs) ≡ drop i bs = take_all m (drop i bs) (omega (arith, length-drop i bs)) in
    subst (λ (v : List ℕ). Appends a c v) (sym (take-add i n bs))
    (Appends-trans a b c (take i bs) (take n (drop i bs)) p (subst (λ (v : List ℕ). Appends b c (take n v)) e q))

-- a line is read after what was read before, and ends in this way
pub Reads-line : (a b c : Option (List ℕ)) (P S : List ℕ → List ℕ → Type 0) (l : List ℕ) (e f : Result Ended LineFault)
    → e ≡ f
    → ((t x y : List ℕ) → P t x → ReadsLine l f x y → S t y) → Reads a b P → Reads b c (ReadsLine l e) → Reads a c S
Reads-line None b c P S l e f is go p q = tt
Reads-line (Some t) None c P S l e f is go p q = absurd p
Reads-line (Some t) (Some x) None P S l e f is go p q = absurd q
Reads-line (Some t) (Some x) (Some y) P S l e f is go p q =
    go t x y p (subst (λ (v : Result Ended LineFault). ReadsLine l v x y) is q)

-- all of one text and a prefix of the next
pub append-take_prefix : (w p r : List ℕ) (n : ℕ) → n ≤ length p → w ++ take n p ≡ take (length w + n) (w ++ (p ++ r))
append-take_prefix w p r n h = sym (take-append-add w (p ++ r) n ∙ ap (λ v. w ++ v) (take-append-le n p r h))

-- the bytes after the first n
pub drop-read : (n : ℕ) (p x : List ℕ) → length p ≡ n → drop n (p ++ x) ≡ x
drop-read n p x h = subst (λ (m : ℕ). drop m (p ++ x) ≡ x) h (drop-append_seam p x)

-- all of one text is written, and then a prefix of the next
pub AppendsPrefix-after : (a b c : Option (List ℕ)) (w p r : List ℕ) → Appends a b w → AppendsPrefix b c p
    → AppendsPrefix a c (w ++ (p ++ r))
AppendsPrefix-after a b c w p r h q = (
  length w + q.0,
  omega (arith, q.1, length-append w (p ++ r), length-append p r),
  subst (λ (v : List ℕ). Appends a c v) (append-take_prefix w p r q.0 (omega (arith, q.1)))
      (Appends-trans a b c w (take q.0 p) h q.2),
)
