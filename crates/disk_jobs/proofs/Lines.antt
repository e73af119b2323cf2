-- The lines of a report, one by one.
use Rattle.std.proofs.Common.{◌≡◌, ℕ, zero, suc, ◌+◌, ◌<◌, List, [], ◌∷◌, ◌++◌, length, get_or, take, drop, Option}
use Rattle.std.proofs.Common.{refl, ap, sym, ◌∙◌, add-one, append_assoc, length-append, subst, arith}
use Rattle.std.proofs.KnownBytes.{Appends-trans}
use Rattle.std.specs.Io.KnownBytes.{Appends}
use Rattle.line_text.proofs.Streams.{AppendsPrefix-after}
use Rattle.line_text.specs.Streams.{AppendsPrefix}
use Rattle.std.proofs.lemmas.List.{append-nil, take-append-le}
use Rattle.disk_jobs.specs.Reports.{line_text, lines_text}
use Rattle.disk_jobs.specs.Services.{Served}

-- the text of all lines is that of the lines before line i, then line i, then the others
pub lines_text-at : (ds : List Served) (i : ℕ) (d : Served) → i < length ds
    → lines_text ds ≡ lines_text (take i ds) ++ (line_text (get_or ds i d) ++ lines_text (drop (suc i) ds))
lines_text-at [] i d h = absurd (omega arith)
lines_text-at (x ∷ ds) zero d h = refl
lines_text-at (x ∷ ds) (suc i) d h =
    ap (λ v. line_text x ++ v) (lines_text-at ds i d (omega arith))
    ∙ sym
    (append_assoc (line_text x) (lines_text (take i ds)) (line_text (get_or ds i d) ++ lines_text (drop (suc i) ds)))

-- the text of the first i + 1 lines is that of the lines before line i, then line i
pub lines_text-take : (ds : List Served) (i : ℕ) (d : Served) → i < length ds
    → lines_text (take (suc i) ds) ≡ lines_text (take i ds) ++ line_text (get_or ds i d)
lines_text-take [] i d h = absurd (omega arith)
lines_text-take (x ∷ ds) zero d h = append-nil (line_text x)
lines_text-take (x ∷ ds) (suc i) d h =
    ap (λ v. line_text x ++ v) (lines_text-take ds i d (omega arith))
    ∙ sym (append_assoc (line_text x) (lines_text (take i ds)) (line_text (get_or ds i d)))

-- if line i can't be written whole, a prefix of the text is written, and not all
pub writing-breaks : (a b c : Option (List ℕ)) (ds : List Served) (i : ℕ) (d : Served) (t : List ℕ) → i < length ds
    → d ≡ get_or ds i d → t ≡ line_text d
    → Appends a b (lines_text (take i ds)) → AppendsPrefix b c t → AppendsPrefix a c (lines_text ds)
writing-breaks a b c ds i d t l is e p q =
    let text : t ≡ line_text (get_or ds i d) = e ∙ ap line_text is in
    subst (λ (v : List ℕ). AppendsPrefix a c v) (sym (lines_text-at ds i d l))
    (AppendsPrefix-after a b c (lines_text (take i ds)) (line_text (get_or ds i d)) (lines_text (drop (suc i) ds)) p
    (subst (λ (v : List ℕ). AppendsPrefix b c v) text q))

-- if line i is written after the lines before it, the first i + 1 lines are written
pub writing-goes : (a b c : Option (List ℕ)) (ds : List Served) (i : ℕ) (d : Served) (t : List ℕ) → i < length ds
    → d ≡ get_or ds i d → t ≡ line_text d
    → Appends a b (lines_text (take i ds)) → Appends b c t → Appends a c (lines_text (take (i + 1) ds))
writing-goes a b c ds i d t l is e p q =
    let text : lines_text (take i ds) ++ t ≡ lines_text (take (i + 1) ds) =
    ap (λ v. lines_text (take i ds) ++ v) (e ∙ ap line_text is) ∙ sym (lines_text-take ds i d l)
    ∙ ap (λ n. lines_text (take n ds)) (sym (add-one i)) in
    subst (λ (v : List ℕ). Appends a c v) text (Appends-trans a b c (lines_text (take i ds)) t p q)

-- if the last line can't be written whole, a prefix of the text is written, and not all
pub writing-ends : (a b c : Option (List ℕ)) (w r t : List ℕ) → t ≡ r → Appends a b w → AppendsPrefix b c t
    → AppendsPrefix a c (w ++ r)
writing-ends a b c w r t e p q =
    subst (λ (v : List ℕ). AppendsPrefix a c v) (ap (λ v. w ++ v) (append-nil r))
    (AppendsPrefix-after a b c w r [] p (subst (λ (v : List ℕ). AppendsPrefix b c v) e q))

-- a prefix of the first part is one of the whole
pub AppendsPrefix-longer : (a b : Option (List ℕ)) (w r : List ℕ) → AppendsPrefix a b w → AppendsPrefix a b (w ++ r)
AppendsPrefix-longer a b w r q = (
  q.0,
  omega (arith, q.1, length-append w r),
  subst (λ (v : List ℕ). Appends a b v) (sym (take-append-le q.0 w r (omega (arith, q.1)))) q.2,
)
