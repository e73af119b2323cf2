use Rattle.std.proofs.Common.{ℕ, set, replicate, ap, ◌∙◌}
use Rattle.ticket_door.proofs.Opening.{started}
use Rattle.ticket_door.proofs.laws.first_words.Goals as goal

pub returns : goal.returns
returns c =
    started c.args.first c.args.places _ c.ranges.first.fits
    (let zeros =
    c.in_ok-words.ensures.items_if_clones_equal (λ y is. is) ∙ ap (λ (n : ℕ). replicate n 0) c.words_for.ensures in
    λ i. set (set (zeros i) 8 c.args.first) 0 (c.served_as.ensures i))
