-- Commands stay in front if more are added.
use Rattle.std.proofs.Common.{◌≡◌, List, [], ◌∷◌, ◌++◌, Option, None, Some, sym, ap, ◌∙◌}
use Rattle.std.proofs.lemmas.List.{append-nil, append_assoc}
use Rattle.hoare_script.specs.declared.lines.Command.{Command}
use Rattle.picture_program.specs.Scripts.{IsInFront, IsMore}

pub front_self : (xs : List Command) → IsInFront xs xs
front_self xs = ([], sym (append-nil xs))

pub front_more : (first old new : List Command) (command : Option Command) → IsInFront first old
    → IsMore command old new → IsInFront first new
front_more first old new None front more = absurd more
front_more first old new (Some c) front more =
    (front.0 ++ c ∷ [], more ∙ ap (λ (l : List Command). l ++ c ∷ []) front.1 ∙ append_assoc first front.0 (c ∷ []))

pub front_same : (first old new : List Command) → IsInFront first old → new ≡ old → IsInFront first new
front_same first old new front same = (front.0, same ∙ front.1)
