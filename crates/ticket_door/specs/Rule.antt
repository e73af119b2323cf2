-- What the words NEXT and SERVING and the bells say.
use Rattle.std.specs.Prelude.{◌≡◌, ◌⊎◌, ℕ, ◌+◌, ◌*◌, ◌%◌, ◌^◌, ◌<◌, ◌≤◌, ◌==◌, if◌then◌else◌, Bool, List, Option, Some}
use Rattle.std.specs.Prelude.{true, slice_index, length}
use Rattle.hoare_law.specs.declared.event.History.{History}
use Rattle.hoare_law.specs.declared.turn.Turn.{Turn}
use Rattle.hoare_law.specs.declared.turn.Turn.TheVariants.{Free, Held, Owed, Return}
use Rattle.hoare_law.specs.Turns.{turn, outside}
use Rattle.wait_book.specs.Contents.{one, times}
use Rattle.door_frame.specs.declared.view.Token.{Token}
use Rattle.door_frame.specs.declared.view.Token.TheVariants as token
use Rattle.door_frame.specs.Rule.{Tokens}
use Rattle.hoare_law.specs.Admissions.{admissions, admitted}
use Rattle.ticket_door.specs.Queue.{ticket_in}

-- the index of each word: each has a cache line of its own
abbrev pub next_at : ℕ
next_at = 8

abbrev pub serving_at : ℕ
serving_at = 0

abbrev pub bell_at : ℕ → ℕ
bell_at k = 8 * k + 16

-- 1 if it is somebody's turn, else 0
abbrev pub taken : Turn → ℕ
taken Free = 0
taken _ = 1

-- the bell of place k, given the turn: 1 if the monitor is owed to k, or returns to it, else 0
abbrev pub bell_value : Turn → ℕ → ℕ
bell_value Free k = 0
bell_value (Held j) k = 0
bell_value (Owed j c) k = one j k
bell_value (Return j) k = one j k

-- the holder of the gate: nobody, so that polls admit entering threads; or the place k, which tries, and shut it when
-- SERVING was v
pub data Gate : Type 0 where
  open_gate : Gate
  shut_by : ℕ → ℕ → Gate

-- what is added to SERVING while the gate is shut
abbrev pub shut : Gate → ℕ
shut open_gate = 0
shut (shut_by k v) = 1

-- the token of place j: the gate if it shut the gate, else its ticket, if it has one
abbrev pub token_in : Gate → List ℕ → List ℕ → ℕ → Option Token
token_in open_gate before queue j = ticket_in before queue j
token_in (shut_by k v) before queue j = if j == k then Some (token.Gate v) else ticket_in before queue j

-- no other place was admitted since the place k shut the gate: so at most one turn ended. And k has no ticket
pub record CloseGate (first k v served admitted : ℕ) (queue : List ℕ) : Type 0 where
  pub since : ℕ
  pub word : v ≡ (2 * (first + since)) % 2 ^ 64
  pub begins : since ≤ served
  pub few : admitted ≤ since + 1
  pub apart : times k queue ≡ 0

abbrev pub IsKept : ℕ → ℕ → ℕ → List ℕ → Gate → Type 0
IsKept first served admitted queue open_gate = Unit {0}
IsKept first served admitted queue (shut_by k v) = CloseGate first k v served admitted queue

-- the place that holds the gate, one of n, is outside or inside
abbrev pub HasHolder : {D : Type 0} → ℕ → History D → Gate → Type 0
HasHolder n log open_gate = Unit {0}
HasHolder n log (shut_by k v) = (k < n) × ((outside k log.events ≡ true) ⊎ (turn log.events ≡ Held k))

-- the words before the door opens
pub record Initial (first n : ℕ) (begun : Bool) (words : List ℕ) : Type 0 where
  pub words_are : length words ≡ 8 * n + 16
  pub next : slice_index words next_at ≡ first % 2 ^ 64
  pub serving : slice_index words serving_at ≡ (2 * first) % 2 ^ 64
  pub bells : (k : ℕ) → k < n → slice_index words (bell_at k) ≡ 0

-- the words of a door with n places whose first ticket is `first`. Tickets are counted from 0; NEXT has a ticket's
-- number plus `first`, modulo 2^64, and SERVING twice that, modulo 2^64, so that it has a bit for the gate
pub record WordsFit {D : Type 0} (first n : ℕ) (log : History D) (tokens : Tokens) (words : List ℕ) : Type 0 where
  pub words_are : length words ≡ 8 * n + 16
  -- the places with a ticket, in ticket order, from the number of admissions on: each is in the queue at most once, and
  -- is outside. So NEXT is at most n ahead of the ticket that is served (`near` of proofs/Serving), counting `ask` and
  -- `try_enter`
  pub queue : List ℕ
  pub once : (k : ℕ) → times k queue ≤ 1
  pub below : (k : ℕ) → 0 < times k queue → k < n
  pub are_outside : (k : ℕ) → 0 < times k queue → outside k log.events ≡ true
  -- the holder of the gate
  pub gate : Gate
  pub holder : HasHolder n log gate
  pub tokens_are : (k : ℕ) → tokens k ≡ token_in gate (admitted log.events) queue k
  pub next : slice_index words next_at ≡ (first + (admissions log.events + length queue)) % 2 ^ 64
  -- how often the monitor was opened to entering threads: the number of admissions, less one while a turn lasts
  pub served : ℕ
  pub due : served + taken (turn log.events) ≡ admissions log.events
  pub serving : slice_index words serving_at ≡ (2 * (first + served) + shut gate) % 2 ^ 64
  pub kept : IsKept first served (admissions log.events) queue gate
  pub bells : (k : ℕ) → k < n → slice_index words (bell_at k) ≡ bell_value (turn log.events) k

-- the door's sizes: the number of words and slots of its table, of its places, and of their wakers
pub record Sized (words slots places wakers : ℕ) : Type 0 where
  pub words_are : words ≡ 8 * places + 16
  pub slots_are : slots ≡ 1
  pub some : 0 < places
  pub most : places ≤ 64
  pub each_wakes : wakers ≡ places
