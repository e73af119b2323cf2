-- The text of a report.
use Rattle.std.specs.Prelude.{ℕ, List, [], ◌∷◌, ◌++◌, codes, decimal}
use Rattle.disk_jobs.specs.declared.report.Report.{Report}
use Rattle.disk_jobs.specs.Services.{Account, Served, block_of}

-- what a report says
abbrev pub account_of : Report → Account
account_of r = record { lines = r.lines.items; jobs = r.jobs; sum = r.sum }

-- the line of a job
abbrev pub line_text : Served → List ℕ
line_text d =
    codes "job " ++ (decimal d.job ++ (codes " cylinder " ++ (decimal d.cylinder
    ++ (codes " block " ++ (decimal (block_of d.cylinder) ++ 10 ∷ [])))))

-- the lines of jobs, in order
abbrev pub lines_text : List Served → List ℕ
lines_text [] = []
lines_text (d ∷ ds) = line_text d ++ lines_text ds

-- the last line: how many jobs there are, and the sum of their blocks
abbrev pub total_text : ℕ → ℕ → List ℕ
total_text n s = codes "total jobs " ++ (decimal n ++ (codes " sum " ++ (decimal s ++ 10 ∷ [])))

-- a line for each job, and the last line
abbrev pub report_text : Account → List ℕ
report_text a = lines_text a.lines ++ total_text a.jobs a.sum
