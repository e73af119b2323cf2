-- What a place does after a history, and which lanes and monitors show that.
use Rattle.std.specs.Prelude.{ℕ, ◌≡◌, ◌<◌, ◌↔◌, ◌==◌, true, if◌then◌else◌, List, length, slice_index_or, Option}
use Rattle.std.specs.Prelude.{Some, None, ⊤}
use Rattle.std.specs.List.{Contains}
use Rattle.hoare_law.specs.declared.event.Event.{Event}
use Rattle.hoare_law.specs.declared.event.Event.TheVariants as event
use Rattle.hoare_law.specs.declared.event.History.{History}
use Rattle.hoare_law.specs.declared.turn.Turn.{Turn}
use Rattle.hoare_law.specs.declared.turn.Turn.TheVariants as turns
use Rattle.hoare_law.specs.Events.{newest, opened, own}
use Rattle.hoare_law.specs.Turns.{turn, urgent, outside}
use Rattle.hoare_law.specs.Waiting.{waiting}
use Rattle.wait_book.specs.declared.steps.Step.{Step}
use Rattle.wait_book.specs.declared.steps.Step.TheVariants.{Enter, Wait, Signal, Pass, Leave, Notify, Broadcast}
use Rattle.wait_book.specs.Contents.{IsOf}
use Rattle.wait_book.specs.Numbers.{notified_position}
use Rattle.hoare_script.specs.declared.answers.Answer.{Answer}
use Rattle.hoare_script.specs.declared.answers.Answer.TheVariants.{Inside, Refused}
use Rattle.hoare_script.specs.declared.lines.Command.{Command}
use Rattle.hoare_script.specs.declared.lines.Command.TheVariants.{Do}
use Rattle.hoare_script.specs.declared.lines.Header.{Header}
use Rattle.hoare_script.specs.Lines.{sizes_in}
use Rattle.picture_program.specs.declared.monitor.Lane.{Lane}
use Rattle.picture_program.specs.declared.monitor.Lane.TheVariants as lanes
use Rattle.picture_program.specs.declared.monitor.Monitor.{Monitor}

-- the history in which nothing happened yet
abbrev pub opening : Header → History (Unit {0})
opening header = opened (sizes_in header) tt

-- place k does this after h: it is outside, it has the turn, it waits on a condition with a priority, it is a waiting
-- signaller, or it has this number among the notified that haven't resumed yet. The definitions are those of hoare_law,
-- and the number is that of wait_book
abbrev pub Does : History (Unit {0}) → ℕ → Lane → Type 0
Does h k lanes.Outside = outside k h.events ≡ true
Does h k lanes.Inside = turn h.events ≡ turns.Held k
Does h k (lanes.Waiting c p) = Contains (waiting c h.events) (event.Wait k c p tt)
Does h k lanes.Signalling = Contains (urgent h.events) k
Does h k (lanes.Called n) = (0 < n) × (n ≡ notified_position h.events k)

-- each of 64 places does what its lane says, and nothing else
abbrev pub AreLanes : History (Unit {0}) → List Lane → Type 0
AreLanes h drawn = (k : ℕ) → k < 64 → (lane : Lane) → Does h k lane ↔ (lane ≡ slice_index_or drawn k lanes.Outside)

-- the place that does a step
abbrev pub actor : Step → ℕ
actor (Enter k) = k
actor (Wait k c p) = k
actor (Signal k c) = k
actor (Pass k c) = k
actor (Leave k) = k
actor (Notify k c) = k
actor (Broadcast k c) = k

-- what that place does after the step, if the answer doesn't name it as the place inside
abbrev pub left_as : Step → Lane
left_as (Enter k) = lanes.Inside
left_as (Wait k c p) = lanes.Waiting c p
left_as (Signal k c) = lanes.Signalling
left_as (Pass k c) = lanes.Outside
left_as (Leave k) = lanes.Outside
left_as (Notify k c) = lanes.Inside
left_as (Broadcast k c) = lanes.Inside

-- place k after a step, by what it did before
abbrev pub last_left : Step → ℕ → Lane → Lane
last_left s k before = if actor s == k then left_as s else before

-- the same by the step's answer
abbrev pub last_answered : Step → ℕ → Lane → Answer → Lane
last_answered s k before (Refused r) = before
last_answered s k before (Inside j) = if j == k then lanes.Inside else last_left s k before
last_answered s k before _ = last_left s k before

-- the same after a command: a question changes nothing
abbrev pub last_commanded : Command → ℕ → Lane → Answer → Lane
last_commanded (Do s) k before answer = last_answered s k before answer
last_commanded _ k before answer = before

-- a place that waits by its own last step was notified since, if it has a number among the notified
abbrev pub numbered : ℕ → Lane → Lane
numbered n (lanes.Waiting c p) = if n == 0 then lanes.Waiting c p else lanes.Called n
numbered n l = l

-- what the place of an event does after it, if it wasn't notified since
abbrev pub left_by : Event (Unit {0}) → Lane
left_by (event.Wait k c p s) = lanes.Waiting c p
left_by (event.Signal k c w s) = lanes.Signalling
left_by (event.SignalTo k c w s) = lanes.Signalling
left_by (event.Pass k c w s) = lanes.Outside
left_by (event.Leave k s) = lanes.Outside
left_by _ = lanes.Inside

abbrev pub last_by : Option (Event (Unit {0})) → Lane
last_by None = lanes.Outside
last_by (Some e) = left_by e

-- what place k does by its own last event
abbrev pub last_of : History (Unit {0}) → ℕ → Lane
last_of h k = last_by (newest (own k h.events))

-- no place is owed the monitor
abbrev pub IsClaimed : Turn → Type 0
IsClaimed turns.Free = ⊤
IsClaimed (turns.Held k) = ⊤
IsClaimed (turns.Owed k c) = ⊥
IsClaimed (turns.Return k) = ⊥

-- the monitor is at the end of the history: its book is of the history, no place is owed the monitor, and it knows of
-- each place what that does by its own last event
pub record IsAt (m : Monitor) (h : History (Unit {0})) : Type 0 where
  pub book : IsOf m.opened h
  pub claimed : IsClaimed (turn h.events)
  pub long : length m.last ≡ 64
  pub each : (k : ℕ) → k < 64 → slice_index_or m.last k lanes.Outside ≡ last_of h k
