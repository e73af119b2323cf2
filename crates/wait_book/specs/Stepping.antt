-- What a step adds to a history, and when it is refused.
use Rattle.std.specs.Prelude.{ℕ, ◌==◌, ◌-◌, nat_lt, List, [], ◌∷◌, Bool, true, false, if◌then◌else◌, Option, Some, None}
use Rattle.std.specs.Prelude.{⊤}
use Rattle.hoare_law.specs.declared.event.Event.{Event}
use Rattle.hoare_law.specs.declared.event.History.{History}
use Rattle.hoare_law.specs.declared.event.Event.TheVariants as event
use Rattle.hoare_law.specs.declared.turn.Turn.{Turn}
use Rattle.hoare_law.specs.declared.turn.Turn.TheVariants.{Free, Held, Owed, Return}
use Rattle.hoare_law.specs.Events.{place_of, with_event}
use Rattle.hoare_law.specs.Sizes.{IsHoare, IsMesa}
use Rattle.hoare_law.specs.Waiting.{waiting, chosen}
use Rattle.hoare_law.specs.Turns.{turn, outside}
use Rattle.wait_book.specs.declared.steps.Step.{Step}
use Rattle.wait_book.specs.declared.steps.Step.TheVariants.{Enter, Wait, Signal, Pass, Leave, Notify, Broadcast}
use Rattle.wait_book.specs.declared.steps.StepRefused.{StepRefused}
use Rattle.wait_book.specs.declared.steps.StepRefused.TheVariants.{NoPlace, NotFree, NotOutside, NotInside, NoCondition}
use Rattle.wait_book.specs.declared.steps.StepRefused.TheVariants.{WrongKind}
use Rattle.wait_book.specs.declared.steps.Next.{Next}
use Rattle.wait_book.specs.declared.steps.Next.TheVariants as next

-- the turn is that of no place
abbrev pub is_free : Turn → Bool
is_free Free = true
is_free _ = false

-- place k is inside, by this turn
abbrev pub is_held_by : ℕ → Turn → Bool
is_held_by k (Held j) = j == k
is_held_by k _ = false

-- why k can't enter: it may only if it is a place, the monitor is free and k is outside
abbrev pub enter_refusal : History (Unit {0}) → ℕ → Option StepRefused
enter_refusal h k =
    if nat_lt k h.sizes.places then
    (if is_free (turn h.events) then (if outside k h.events then None else Some NotOutside) else Some NotFree)
    else Some NoPlace

-- why k can't act: it is no place, or isn't inside; else what `further` says
abbrev pub act_refusal : History (Unit {0}) → ℕ → Option StepRefused → Option StepRefused
act_refusal h k further =
    if nat_lt k h.sizes.places then (if is_held_by k (turn h.events) then further else Some NotInside)
    else Some NoPlace

-- why a step on c is refused: c is no condition
abbrev pub condition_refusal : History (Unit {0}) → ℕ → Option StepRefused
condition_refusal h c = if nat_lt c h.sizes.conditions then None else Some NoCondition

-- condition c of n, of which the last m are Mesa conditions, is a Mesa condition if the flag is true, else one of
-- Hoare's
abbrev pub IsOfKind : ℕ → ℕ → Bool → ℕ → Type 0
IsOfKind n m true c = IsMesa n m c
IsOfKind n m false c = IsHoare n m c

-- why a step on c is refused that needs a Mesa condition (if the flag is true) or one of Hoare's (if it is false): c is
-- no condition, or of the other kind
abbrev pub kind_refusal : History (Unit {0}) → Bool → ℕ → Option StepRefused
kind_refusal h true c =
    if nat_lt c h.sizes.conditions then (if nat_lt c (h.sizes.conditions - h.sizes.mesa) then Some WrongKind else None)
    else Some NoCondition
kind_refusal h false c =
    if nat_lt c h.sizes.conditions then (if nat_lt c (h.sizes.conditions - h.sizes.mesa) then None else Some WrongKind)
    else Some NoCondition

-- the first refusal of the step that applies, if there is one
abbrev pub refusal_of : History (Unit {0}) → Step → Option StepRefused
refusal_of h (Enter k) = enter_refusal h k
refusal_of h (Wait k c p) = act_refusal h k (condition_refusal h c)
refusal_of h (Signal k c) = act_refusal h k (kind_refusal h false c)
refusal_of h (Pass k c) = act_refusal h k (kind_refusal h false c)
refusal_of h (Leave k) = act_refusal h k None
refusal_of h (Notify k c) = act_refusal h k (kind_refusal h true c)
refusal_of h (Broadcast k c) = act_refusal h k (kind_refusal h true c)

-- a signal resumes the chosen waiter, whose wait is e; if no process waits it adds nothing
abbrev pub after_signal : History (Unit {0}) → ℕ → ℕ → Option (Event (Unit {0})) → History (Unit {0})
after_signal h k c None = h
after_signal h k c (Some e) = with_event h (event.Signal k c (place_of e) tt)

-- a signal to place w, whose wait is e, resumes w; if w doesn't wait there it adds nothing
abbrev pub after_signal_to : History (Unit {0}) → ℕ → ℕ → ℕ → Option (Event (Unit {0})) → History (Unit {0})
after_signal_to h k c w None = h
after_signal_to h k c w (Some e) = with_event h (event.SignalTo k c w tt)

-- a pass resumes the chosen waiter, whose wait is e; if no process waits it is a leave
abbrev pub after_pass : History (Unit {0}) → ℕ → ℕ → Option (Event (Unit {0})) → History (Unit {0})
after_pass h k c None = with_event h (event.Leave k tt)
after_pass h k c (Some e) = with_event h (event.Pass k c (place_of e) tt)

-- a notify notifies the chosen waiter, whose wait is e; if no process waits it adds nothing
abbrev pub after_notify : History (Unit {0}) → ℕ → ℕ → Option (Event (Unit {0})) → History (Unit {0})
after_notify h k c None = h
after_notify h k c (Some e) = with_event h (event.Notify k c (place_of e) tt)

-- a broadcast notifies all waiters on c; if no process waits it adds nothing
abbrev pub after_broadcast : History (Unit {0}) → ℕ → ℕ → List (Event (Unit {0})) → History (Unit {0})
after_broadcast h k c [] = h
after_broadcast h k c (e ∷ es) = with_event h (event.Broadcast k c tt)

-- the place to which the monitor is owed, by this turn, resumes, if there is one
abbrev pub after_claim : History (Unit {0}) → Turn → History (Unit {0})
after_claim h Free = h
after_claim h (Held k) = h
after_claim h (Owed k c) = with_event h (event.Resume k c tt)
after_claim h (Return k) = with_event h (event.Back k tt)

-- the same, by the history's own turn
abbrev pub settled : History (Unit {0}) → History (Unit {0})
settled h = after_claim h (turn h.events)

-- the step, and then the place to which the monitor is owed resumes, if there is one (after a notify and a broadcast
-- there is none: the caller stays inside)
abbrev pub after_step : History (Unit {0}) → Step → History (Unit {0})
after_step h (Enter k) = with_event h (event.Admit k tt)
after_step h (Wait k c p) = settled (with_event h (event.Wait k c p tt))
after_step h (Signal k c) = settled (after_signal h k c (chosen c h.events))
after_step h (Pass k c) = settled (after_pass h k c (chosen c h.events))
after_step h (Leave k) = settled (with_event h (event.Leave k tt))
after_step h (Notify k c) = after_notify h k c (chosen c h.events)
after_step h (Broadcast k c) = after_broadcast h k c (waiting c h.events)

-- the monitor is owed to no place
abbrev pub IsSettled : Next → Type 0
IsSettled next.Free = ⊤
IsSettled (next.Held k) = ⊤
IsSettled (next.For k) = ⊥
