-- One line, from any state.
use Rattle.std.proofs.Common.{◌≡◌, ℕ, List, [], Option, Some, None, Result, Ok, Err, ap, ◌∙◌, ◌⊎◌, inl, inr, sym, subst}
use Rattle.std.proofs.KnownBytes.{Appends-nil}
use Rattle.std.specs.Result.{IsOkAnd}
use Rattle.std.specs.Io.KnownBytes.{Appends}
use Rattle.hoare_law.specs.declared.event.History.{History}
use Rattle.wait_book.specs.declared.steps.MakeRefused.{MakeRefused}
use Rattle.wait_book.specs.Contents.{Contents, IsOf, make_refusal}
use Rattle.hoare_script.specs.declared.fault.ScriptFault.{ScriptFault}
use Rattle.hoare_script.specs.declared.fault.ScriptFault.TheVariants as faults
use Rattle.hoare_script.specs.declared.lines.Command.{Command}
use Rattle.hoare_script.specs.declared.lines.Header.{Header}
use Rattle.hoare_script.specs.Lines.{command_of, header_of, sizes_in}
use Rattle.hoare_script.specs.Scripts.{State, Start, Running, Outcome, one_line, header_line, command_line, opened_by}
use Rattle.hoare_script.specs.Runs.{IsAt, Follows, IsGoodHeader, OnFault}

-- the line of a command, if there is a book
pub one_line-command : (b d : Contents) (i : ℕ) (line : List ℕ) (old new : Option (List ℕ))
    (r : Result (Unit {0}) ScriptFault)
    → ((h : History (Unit {0})) → IsOf b h → Follows (command_line h i line (command_of line)) old new (Some d) r)
    → (s : State) → IsAt (Some b) s → Follows (one_line s i line) old new (Some d) r
unfolding one_line
one_line-command b d i line old new r f Start st = absurd st
one_line-command b d i line old new r f (Running h) st = f h st

opens_book : (b : Contents) (k : Option (List ℕ)) (out : Outcome)
    → IsOkAnd out (λ p. (p.0 ≡ []) × IsAt (Some b) p.1) → IsOkAnd out (λ p. Appends k k p.0 × IsAt (Some b) p.1)
opens_book b k (Ok p) h = (subst (λ (v : List ℕ). Appends k k v) (sym h.0) (Appends-nil k), h.1)
opens_book b k (Err f) h = absurd h

-- a header that opens a book
pub one_line-header : (b : Contents) (i : ℕ) (line : List ℕ) (k : Option (List ℕ))
    → IsOkAnd (header_line i (header_of line)) (λ p. (p.0 ≡ []) × IsAt (Some b) p.1)
    → (s : State) → IsAt None s → IsOkAnd (one_line s i line) (λ p. Appends k k p.0 × IsAt (Some b) p.1)
unfolding one_line
one_line-header b i line k o Start st = opens_book b k (header_line i (header_of line)) o
one_line-header b i line k o (Running h) st = absurd st

-- a header that opens no book
pub one_line-no_header : (i : ℕ) (line : List ℕ) (k : Option (List ℕ)) (f : ScriptFault)
    → (((f ≡ faults.Memory) × IsGoodHeader line)
    ⊎ ((header_line i (header_of line) ≡ Err f) × (f ≡ faults.BadHeader i)))
    → (s : State) → IsAt None s → OnFault (one_line s i line) k k f
unfolding one_line
one_line-no_header i line k f (inl m) s st =
    subst (λ (v : ScriptFault). OnFault (one_line s i line) k k v) (sym m.0) (Appends-nil k)
one_line-no_header i line k f (inr w) Start st =
    subst (λ (v : ScriptFault). OnFault (header_line i (header_of line)) k k v) (sym w.1)
    (w.0 ∙ ap Err w.1, Appends-nil k)
one_line-no_header i line k f (inr w) (Running h) st = absurd st

-- the number of the line with the fault, or 0 if the fault isn't of a line
abbrev pub fault_line : ScriptFault → ℕ
fault_line (faults.BadLine i) = i
fault_line (faults.BadHeader i) = i
fault_line (faults.LineTooLong i) = i
fault_line _ = 0

command_line-number : (h : History (Unit {0})) (i : ℕ) (line : List ℕ) (c : Option Command) (f : ScriptFault)
    → command_line h i line c ≡ Err f → fault_line f ≡ i
command_line-number h i line None f e = let is : f ≡ faults.BadLine i = cc in ap fault_line is
command_line-number h i line (Some c) f e = absurd (cc)

opened_by-number : (i : ℕ) (h : Header) (r : Option MakeRefused) (f : ScriptFault) → opened_by i h r ≡ Err f
    → fault_line f ≡ i
opened_by-number i h None f e = absurd (cc)
opened_by-number i h (Some r) f e = let is : f ≡ faults.BadHeader i = cc in ap fault_line is

header_line-number : (i : ℕ) (h : Option Header) (f : ScriptFault) → header_line i h ≡ Err f → fault_line f ≡ i
header_line-number i None f e = let is : f ≡ faults.BadHeader i = cc in ap fault_line is
header_line-number i (Some h) f e = opened_by-number i h (make_refusal (sizes_in h)) f e

-- the fault of a line has the number of that line
pub one_line-number : (s : State) (i : ℕ) (line : List ℕ) (f : ScriptFault) → one_line s i line ≡ Err f
    → fault_line f ≡ i
unfolding one_line
one_line-number Start i line f e = header_line-number i (header_of line) f e
one_line-number (Running h) i line f e = command_line-number h i line (command_of line) f e
