-- The contracts of the steps that only this door has: of the step, the seat before, the number found and the seat
-- after.
use Rattle.std.specs.Prelude.{◌≡◌, ℕ, ◌+◌, ◌*◌, ◌%◌, ◌^◌, List, [], ◌∷◌, ◌++◌, length, Some, None}
use Rattle.hoare_law.specs.declared.event.History.{History}
use Rattle.hoare_law.specs.declared.event.Event.TheVariants.{Admit}
use Rattle.hoare_law.specs.Lawful.{Rest, Ready}
use Rattle.door_frame.specs.Refusals.{NotOwed}
use Rattle.door_frame.specs.Steps.{SeatState, StepContract, EntryStep, EntryStepOr, Learns, Refused}
use Rattle.door_frame.specs.Steps.{due}
use Rattle.door_frame.specs.Views.{alone, asking, trying, knows}
use Rattle.door_frame.specs.declared.view.Token.TheVariants.{Ticket, Gate}
use Rattle.ticket_door.specs.Tries.{MissesTicket, NextTells, ServingTells, Reopened}
use Rattle.ticket_door.specs.Queue.{AreAhead}
use Rattle.hoare_law.specs.Admissions.{admitted}

module _ {D : Type 0} where
  -- the place k, which knew f, took the ticket after those of the places `before`, and learned the history g: there the
  -- first of these are admitted, and the places `ahead` are not yet
  pub record TakesTicket (rest : Rest D) (ready : Ready D) (places k : ℕ) (f g : History D) (before : List ℕ)
      (me : SeatState D) : Type 0 where
    pub learns : Learns rest ready g (knows k f (Some (Ticket before)) ∷ []) me
    pub ahead : List ℕ
    pub is_before : before ≡ admitted g.events ++ ahead
    pub are_ahead : AreAhead places k ahead

  -- a place takes the next ticket
  abbrev pub takes_ticket : ℕ → ℕ → Rest D → Ready D → StepContract D
  takes_ticket first places rest ready st m r m' =
      (k : ℕ) (f : History D) → m ≡ (alone k f, [])
      → (g : History D) × (before : List ℕ) × TakesTicket rest ready places k f g before m'
      × (r ≡ (first + length before) % 2 ^ 64)

  -- a poll by the place k with the ticket after those of the places `before`: if it is served, k is admitted, after
  -- exactly these places
  abbrev pub PollsTicketAt : ℕ → Rest D → Ready D → ℕ → History D → List ℕ → SeatState D → ℕ → SeatState D → Type 0
  PollsTicketAt first rest ready k f before =
      EntryStep rest ready (λ r. r ≡ (2 * (first + length before)) % 2 ^ 64) (λ log. admitted log.events ≡ before) k f
      (Admit k)

  abbrev pub polls_ticket : ℕ → Rest D → Ready D → StepContract D
  polls_ticket first rest ready st m r m' =
      (k : ℕ) (f : History D) (before : List ℕ) → m ≡ (asking k f before, [])
      → PollsTicketAt first rest ready k f before m r m'

  -- a place that tries reads a word, of which Tells holds and the history that the place learned
  abbrev pub reads : (ℕ → ℕ → History D → Type 0) → Rest D → Ready D → StepContract D
  reads Tells rest ready st m r m' = (k : ℕ) (f : History D) → m ≡ (alone k f, []) → Refused rest ready (Tells k r) k f m'

  abbrev pub reads_next : ℕ → Rest D → Ready D → StepContract D
  reads_next first = reads (NextTells first)

  abbrev pub reads_serving : ℕ → Rest D → Ready D → StepContract D
  reads_serving first = reads (ServingTells first)

  -- a place shuts the gate if SERVING is v; else it reads SERVING
  abbrev pub ClosesGateAt : ℕ → ℕ → Rest D → Ready D → ℕ → History D → ℕ → SeatState D → Type 0
  ClosesGateAt v first rest ready k f r m' =
      ((r ≡ v → ⊥) → Refused rest ready (ServingTells first k r) k f m')
      × (r ≡ v → (g : History D) × Learns rest ready g (knows k f (Some (Gate v)) ∷ []) m')

  abbrev pub closes_gate : ℕ → Rest D → Ready D → StepContract D
  closes_gate first rest ready st m r m' =
      (k : ℕ) (f : History D) → m ≡ (alone k f, []) → ClosesGateAt st.first first rest ready k f r m'

  -- the place k, which shut the gate when SERVING was v, is admitted if NEXT is w; else it learns that w is passed
  abbrev pub AdmitsTryAt : ℕ → ℕ → Rest D → Ready D → ℕ → History D → ℕ → ℕ → SeatState D → Type 0
  AdmitsTryAt w first rest ready k f v =
      EntryStepOr rest ready (Some (Gate v)) (λ r. r ≡ w) (MissesTicket first rest ready w k f v) (λ log. Unit {0}) k f
      (Admit k)

  abbrev pub admits_try : ℕ → Rest D → Ready D → StepContract D
  admits_try first rest ready st m r m' =
      (k : ℕ) (f : History D) (v : ℕ) → m ≡ (trying k f v, []) → AdmitsTryAt st.first first rest ready k f v r m'

  -- the place that shut the gate opens it again
  abbrev pub opens_gate : StepContract D
  opens_gate st m r m' = Reopened m m'

  -- a place takes its bell; if the bell wasn't rung, the place learns a history in which the monitor isn't owed to it
  abbrev pub TakesBellAt : Rest D → Ready D → ℕ → History D → ℕ → SeatState D → Type 0
  TakesBellAt rest ready k f =
      EntryStepOr rest ready None (λ r. r ≡ 1) (Refused rest ready (NotOwed k) k f) (λ log. Unit {0}) k f (due k f)

  abbrev pub takes_bell : Rest D → Ready D → StepContract D
  takes_bell rest ready st m r m' = (k : ℕ) (f : History D) → m ≡ (alone k f, []) → TakesBellAt rest ready k f r m'
