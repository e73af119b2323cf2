-- What a guarded box has in it, and a guarded box in its slot.
use Rattle.std.proofs.Common.{◌≡◌, Some, [], ◌∷◌, ap, ◌∙◌}
use Rattle.door_frame.specs.declared.guarded.Guarded.{Guarded}
use Rattle.door_frame.specs.declared.guarded.BoxContents.{BoxContents}
use Rattle.door_frame.specs.Steps.{SeatState}

-- what is read from the box is the value of the guarded box
pub unpacked : {D : Type 0} {now held : BoxContents D} {x : Guarded D} → now ≡ held → held.contents ≡ x
    → now.contents ≡ x
unpacked {D} found is = ap (λ (n : BoxContents D). n.contents) found ∙ is

-- a seat that puts what equals x into the slot has x in the slot, and its view is unchanged
pub laid_down : {D : Type 0} {m before : SeatState D} {laid : Guarded D} (x : Guarded D) → laid ≡ x → m ≡ before
    → ◌≡◌ {A = SeatState D} (m.0, (0, Some laid) ∷ []) (before.0, (0, Some x) ∷ [])
laid_down {D} {m} x same is =
    ap (λ (y : Guarded D). (m.0, (0, Some y) ∷ [])) same ∙ ap (λ (o : SeatState D). (o.0, (0, Some x) ∷ [])) is
