-- The kind of doors that a program's arguments name.
use Rattle.std.specs.Prelude.{ℕ, if◌then◌else◌, List, [], ◌∷◌, Option, Some, None, codes}
use Rattle.std.specs.Str.{bytes_eq}
use Rattle.disk_jobs.specs.declared.kind.Kind.{Kind}
use Rattle.disk_jobs.specs.declared.kind.Kind.TheVariants.{Baton, Ticket}

-- the kind with this name, if there is one
abbrev pub kind_named : List ℕ → Option Kind
kind_named w =
    if bytes_eq w (codes "baton") then Some Baton
    else (if bytes_eq w (codes "ticket") then Some Ticket else None)

-- no argument is `Baton`, one argument names the kind, and more arguments name none
abbrev pub kind_of_words : List (List ℕ) → Option Kind
kind_of_words [] = Some Baton
kind_of_words (w ∷ []) = kind_named w
kind_of_words (w ∷ v ∷ ws) = None
