-- The processes that were notified on a Mesa condition and haven't resumed yet. The names here say *called* for
-- notified.
use Rattle.std.specs.Prelude.{List, [], ◌∷◌, ◌++◌, ◌==◌}
use Rattle.std.specs.List.{filter}
use Rattle.hoare_law.specs.declared.event.Event.{Event}
use Rattle.hoare_law.specs.declared.event.Event.TheVariants.{Notify, Broadcast}
use Rattle.hoare_law.specs.Events.{place_of}
use Rattle.hoare_law.specs.Waiting.{priority_of, is_last_act, waiting}
use Rattle.hoare_law.specs.Priorities.{in_order}

-- all that f makes of the elements, joined in their order; f sees the element, those that came before, and those that
-- come after it
abbrev pub join_splits : {X Y : Type 0} → (List X → X → List X → List Y) → List X → List X → List Y
join_splits f before [] = []
join_splits f before (x ∷ later) = f before x later ++ join_splits f (before ++ x ∷ []) later

-- the waits of the processes that the event notifies; f is what came before. A notify notifies the process that it
-- names, a broadcast all that wait on the condition, in the order in which signals would resume them
abbrev pub called_by : {S : Type 0} → List (Event S) → Event S → List (Event S)
called_by f (Notify k c w s) = filter (λ x. place_of x == w) (waiting c f)
called_by f (Broadcast k c s) = in_order priority_of (waiting c f)
called_by f _ = []

-- the notified processes, by their waits: of those that each event notified, the ones that did nothing since, in the
-- order of the notifications
unfoldable pub called : {S : Type 0} → List (Event S) → List (Event S)
called h = join_splits (λ before e later. filter (λ x. is_last_act x later) (called_by before e)) [] h
