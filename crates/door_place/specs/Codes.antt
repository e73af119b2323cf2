-- What the codes mean that C gets.
use Rattle.std.specs.Prelude.{ℕ}
use Rattle.wait_book.specs.declared.steps.Next.{Next}
use Rattle.wait_book.specs.declared.steps.Next.TheVariants.{Free, For, Held}

-- the place that resumes next or is inside, or 64 if there is none
abbrev pub code_of : Next → ℕ
code_of Free = 64
code_of (For k) = k
code_of (Held k) = k
