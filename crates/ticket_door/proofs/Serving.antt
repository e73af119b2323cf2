-- Tickets: a place that asks takes the next ticket, a served place enters, and a place that opens serves the next.
use Rattle.std.proofs.Common.{◌≡◌, ℕ, ◌+◌, ◌*◌, ◌<◌, ◌≤◌, ◌%◌, ◌^◌, true, List, [], ◌∷◌, ◌++◌, get_or, set, length}
use Rattle.std.proofs.Common.{◌≢◌, ◌⊎◌, inl, inr, false, true≢false, length-set, length-append}
use Rattle.std.proofs.Common.{get_or-set_same, Option, Some, None, refl, sym, ap, ◌∙◌, subst, arith}
use Rattle.std.proofs.lemmas.List.{get_or-set_other}
use mathlib.Core.Logic.{dite}
use native.Mathlib.Decide.{ℕ_discrete}
use lib.Seq.{set-get_or}
use Rattle.atomic_table.specs.Table.{Step, Allows}
use Rattle.hoare_law.specs.declared.event.Event.{Event}
use Rattle.hoare_law.specs.Sizes.{Kinds}
use Rattle.hoare_law.specs.declared.event.History.{History}
use Rattle.hoare_law.specs.declared.event.Event.TheVariants.{Admit}
use Rattle.hoare_law.specs.declared.turn.Turn.{Turn}
use Rattle.hoare_law.specs.declared.turn.Turn.TheVariants.{Free, Held}
use Rattle.hoare_law.specs.Events.{place_of, own, latest_data, with_event}
use Rattle.hoare_law.specs.Legal.{IsLegal}
use Rattle.hoare_law.specs.Lawful.{Rest, Ready, Stands}
use Rattle.hoare_law.specs.Turns.{turn, outside}
use Rattle.wait_book.specs.Contents.{times}
use Rattle.wait_book.specs.declared.steps.Next.TheVariants as next
use Rattle.wait_book.proofs.Times.{few_once, one_same}
use Rattle.door_frame.specs.declared.guarded.Guarded.{Guarded}
use Rattle.door_frame.specs.Rule.{Cells, Tokens, TableInvariant}
use Rattle.door_frame.specs.Steps.{SeatState, Gives, Learns, Notes, gives_as, notes_as}
use Rattle.door_frame.specs.Views.{alone, asking, knows}
use Rattle.hoare_law.proofs.Ended.{turn-outside}
use Rattle.hoare_law.proofs.Entering.{outside-same}
use Rattle.hoare_law.proofs.Held.{held_one, outside-held}
use Rattle.hoare_law.proofs.Turns.{outside-other}
use Rattle.door_frame.proofs.Steps as frame
use Rattle.door_frame.proofs.Views.{given_to, given_here, given_else}
use Rattle.hoare_law.specs.Admissions.{is_admit, admissions, admitted}
use Rattle.ticket_door.specs.Queue.{ticket_in, AreAhead}
use Rattle.door_frame.specs.declared.view.Token.{Token}
use Rattle.door_frame.specs.declared.view.Token.TheVariants as token
use Rattle.ticket_door.specs.Rule.{Initial, WordsFit, Gate, open_gate, shut, token_in, IsKept, next_at, serving_at}
use Rattle.ticket_door.specs.Rule.{bell_at}
use Rattle.ticket_door.specs.Rule.{taken, bell_value}
use Rattle.ticket_door.specs.Steps.{takes_ticket, polls_ticket, PollsTicketAt, TakesTicket}
use Rattle.hoare_law.proofs.Admissions.{admissions-admit, admissions-other}
use Rattle.hoare_law.proofs.Admissions.{admitted-length, admitted-admit, admitted-other}
use Rattle.ticket_door.proofs.Gate.{has_ticket, has_none, takes_ticket_tokens, takes_ticket_kept, serves_kept}
use Rattle.ticket_door.proofs.Gate.{holder_held, holder_stays}
use Rattle.ticket_door.proofs.Learning.{draws_and_learns}
use Rattle.ticket_door.proofs.Queue.{Ticket-injective, ticket_range, ticket_first, none_ticket, ticket_else}
use Rattle.ticket_door.proofs.Queue.{once_more, all_more}
use Rattle.ticket_door.proofs.Turns.{taken_le, taken_free, free_next, no_admit, held_busy, next_word, next_turn}
use Rattle.ticket_door.proofs.Turns.{still_outside}
use Rattle.ticket_door.proofs.Turns.{served_only, even_open, open_bit}

module _ {D : Type 0} (first n : ℕ) where
  -- the queue is shorter than n, if place k isn't in it
  few_others : {log : History D} {tokens : Tokens} {ws : List ℕ} (k : ℕ) → k < n → (t : WordsFit first n log tokens ws)
      → times k t.queue ≡ 0 → length t.queue < n
  few_others k small t none =
      let most =
      few_once (t.queue ++ k ∷ []) n (once_more t.queue k t.once none)
      (all_more (λ (j : ℕ). j < n) t.queue k small t.below) in
      let one_more = length-append t.queue (k ∷ []) in omega (arith, most, one_more)

  -- NEXT is near the served ticket: each place is in the queue at most once, and the place whose turn it is isn't in it
  pub near : {log : History D} {tokens : Tokens} {ws : List ℕ} → IsLegal log → log.sizes.places ≡ n
      → (t : WordsFit first n log tokens ws)
      → admissions log.events + length t.queue ≤ t.served + n
  near {log = log} legal places t = by (turn-outside log legal)
    where
      none_twice : (k : ℕ) → outside k log.events ≡ false → times k t.queue ≡ 0
      none_twice k inside = dite (ℕ_discrete (times k t.queue) 0) (λ none. none)
          (λ some. absurd (true≢false (sym (t.are_outside k (omega (arith, some))) ∙ inside)))

      by : (turn log.events ≡ Free) ⊎ ((k : ℕ) × (k < log.sizes.places) × (outside k log.events ≡ false))
          → admissions log.events + length t.queue ≤ t.served + n
      by (inl free) =
          let most = few_once t.queue n t.once t.below in
          let d = t.due in
          let nobody : taken (turn log.events) ≡ 0 = ap taken free in omega (arith, most, d, nobody)
      by (inr b) =
          let small : b.0 < n = subst (λ (m : ℕ). b.0 < m) places b.1 in
          let most = few_others b.0 small t (none_twice b.0 b.2) in
          let d = t.due in
          let one_turn = taken_le (turn log.events) in omega (arith, most, d, one_turn)

  -- one more place in the queue
  asked : (log : History D) (tokens : Tokens) (ws : List ℕ) (k : ℕ) → k < n → outside k log.events ≡ true
      → tokens k ≡ None → (t : WordsFit first n log tokens ws)
      → WordsFit first n log (given_to tokens k (Some (token.Ticket (admitted log.events ++ t.queue))))
      (set ws next_at ((get_or ws next_at 0 + 1) % 2 ^ 64))
  asked log tokens ws k small out none t =
      let x : ℕ = admissions log.events + length t.queue in
      let a : List ℕ = admitted log.events in let q : List ℕ = t.queue in
      let has : token_in t.gate a q k ≡ None = sym (t.tokens_are k) ∙ none in
      let z : times k q ≡ 0 = has_none t.gate a q k has in let wide = t.words_are in record {
        words_are = length-set ws next_at _ ∙ wide;
        queue = q ++ k ∷ [];
        once = once_more q k t.once z;
        below = all_more (λ (j : ℕ). j < n) q k small t.below;
        are_outside = all_more (λ (j : ℕ). outside j log.events ≡ true) q k out t.are_outside;
        gate = t.gate;
        holder = t.holder;
        tokens_are = takes_ticket_tokens t.gate a q k tokens t.tokens_are none;
        next =
            get_or-set_same ws next_at _ 0 (omega (arith, wide)) ∙ ap (λ (m : ℕ). (m + 1) % 2 ^ 64) t.next
            ∙ next_word first x ∙ ap (λ (m : ℕ). (first + m) % 2 ^ 64)
            (let l = length-append q (k ∷ []) in
            let same : x + 1 ≡ admissions log.events + length (q ++ k ∷ []) = omega (arith, l) in same);
        served = t.served;
        due = t.due;
        serving = get_or-set_other ws next_at serving_at _ 0 (λ e. omega (arith, e)) ∙ t.serving;
        kept = takes_ticket_kept t.gate first t.served (admissions log.events) a q k has t.kept;
        bells = λ j b. get_or-set_other ws next_at (bell_at j) _ 0 (λ e. omega (arith, e)) ∙ t.bells j b;
      }

  -- the first of the queue is admitted
  looked : (log : History D) (tokens : Tokens) (ws : List ℕ) (k : ℕ) (rest : List ℕ) (s : D)
      → (t : WordsFit first n log tokens ws) → t.gate ≡ open_gate → t.queue ≡ k ∷ rest → turn log.events ≡ Free
      → turn (with_event log (Admit k s)).events ≡ Held k
      → WordsFit first n (with_event log (Admit k s)) (given_to tokens k None) (set ws serving_at (get_or ws serving_at
      0))
  unfolding with_event
  looked log tokens ws k rest s t is_open is free held =
      let a : ℕ = admissions log.events in
      let h : History D = with_event log (Admit k s) in let more = admissions-admit log k s in
      let out : times k rest ≡ 0 = let once = subst (λ (q : List ℕ). times k q ≤ 1) is (t.once k) in
      omega (arith, once, one_same k) in
      let before : taken (turn log.events) ≡ 0 = ap taken free in
      let after : taken (turn h.events) ≡ 1 = ap taken held in
      let takes_ticket_too : (j : ℕ) → 0 < times j rest → 0 < times j t.queue = λ j some.
      subst (λ (q : List ℕ). 0 < times j q) (sym is) (omega (arith, some)) in
      subst (WordsFit first n h (given_to tokens k None)) (sym (set-get_or ws serving_at 0)) (record {
        words_are = t.words_are;
        queue = rest;
        once = λ j. let once = subst (λ (q : List ℕ). times j q ≤ 1) is (t.once j) in omega (arith, once);
        below = λ j some. t.below j (takes_ticket_too j some);
        are_outside = λ j some.
            let apart : k ≢ j = λ same. let z = subst (λ (i : ℕ). times i rest ≡ 0) same out in
            omega (arith, z, some) in
            outside-other j log.events (Admit k s) apart ∙ t.are_outside j (takes_ticket_too j some);
        gate = open_gate;
        holder = tt;
        tokens_are = λ j. dite (ℕ_discrete j k)
            (λ same. subst (λ (i : ℕ). given_to tokens k None i ≡ ticket_in (admitted h.events) rest i) (sym same)
            (given_here tokens k None ∙ sym (none_ticket (admitted h.events) rest k out)))
            (λ ne. given_else tokens k None j ne ∙ t.tokens_are j
            ∙ (λ i. token_in (is_open i) (admitted log.events) (is i) j)
            ∙ ticket_else (admitted log.events) j k rest ne
            ∙ ap (λ (b : List ℕ). ticket_in b rest j) (sym (admitted-admit log k s)));
        next = t.next ∙ ap (λ (m : ℕ). (first + m) % 2 ^ 64) (let l = ap length is in
            let same : a + length t.queue ≡ admissions h.events + length rest = omega (arith, l, more) in same);
        served = t.served;
        due = let d = t.due in omega (arith, d, before, after, more);
        serving = t.serving ∙ ap (λ (g : Gate). (2 * (first + t.served) + shut g) % 2 ^ 64) is_open;
        kept = tt;
        bells = λ j b. t.bells j b ∙ (ap (λ (u : Turn). bell_value u j) free ∙ sym
            (ap (λ (u : Turn). bell_value u j) held));
      })

  -- the next ticket is served
  next_served : (f : History D) (e : Event D) (tokens : Tokens) (ws : List ℕ) (k : ℕ) → place_of e ≡ k
      → turn f.events ≡ Held k
      → turn (with_event f e).events ≡ Free
      → is_admit e ≡ false → tokens k ≡ None → WordsFit first n f tokens ws
      → WordsFit first n (with_event f e) tokens (set ws serving_at ((get_or ws serving_at 0 + 2) % 2 ^ 64))
  next_served f e tokens ws k mine held free other none t =
      let same = admissions-other f e other in
      let wide = t.words_are in let before : taken (turn f.events) ≡ 1 = ap taken held in
      let after : taken (turn (with_event f e).events) ≡ 0 = ap taken free in record {
        words_are = length-set ws serving_at _ ∙ wide;
        queue = t.queue;
        once = t.once;
        below = t.below;
        are_outside = still_outside f e k t.queue mine (outside-held f.events k held) t.are_outside;
        gate = t.gate;
        holder = holder_stays n f e k t.gate (admitted f.events) t.queue mine (sym (t.tokens_are k) ∙ none)
            (λ j is. held_one f.events j k is held) t.holder;
        tokens_are = λ j. t.tokens_are j
            ∙ ap (λ (b : List ℕ). token_in t.gate b t.queue j) (sym (admitted-other f e other));
        next = get_or-set_other ws serving_at next_at _ 0 (λ eq. omega (arith, eq)) ∙ t.next
            ∙ ap (λ (m : ℕ). (first + (m + length t.queue)) % 2 ^ 64) (sym same);
        served = t.served + 1;
        due = let d = t.due in omega (arith, d, before, after, same);
        serving = get_or-set_same ws serving_at _ 0 (omega (arith, wide)) ∙ ap (λ (m : ℕ). (m + 2) % 2 ^ 64) t.serving
            ∙ next_turn first t.served (shut t.gate);
        kept =
            subst (λ (m : ℕ). IsKept first (t.served + 1) m t.queue t.gate) (sym same)
            (serves_kept t.gate first t.served (admissions f.events) t.queue t.kept);
        bells = λ j b. get_or-set_other ws serving_at (bell_at j) _ 0 (λ eq. omega (arith, eq)) ∙ t.bells j b
            ∙ (ap (λ (u : Turn). bell_value u j) held ∙ sym (ap (λ (u : Turn). bell_value u j) free));
      }

  -- an event by which a place stays inside changes neither the tickets nor the words
  stayed : (f : History D) (e : Event D) (tokens : Tokens) (ws : List ℕ) (k : ℕ) → place_of e ≡ k
      → turn f.events ≡ Held k
      → turn (with_event f e).events ≡ Held k
      → is_admit e ≡ false → WordsFit first n f tokens ws
      → WordsFit first n (with_event f e) tokens ws
  stayed f e tokens ws k mine held stays other t =
      let same = admissions-other f e other in
      let turns : turn f.events ≡ turn (with_event f e).events = held ∙ sym stays in record {
        words_are = t.words_are;
        queue = t.queue;
        once = t.once;
        below = t.below;
        are_outside = still_outside f e k t.queue mine (outside-held f.events k held) t.are_outside;
        gate = t.gate;
        holder = holder_held n f e k t.gate mine held stays t.holder;
        tokens_are = λ j. t.tokens_are j
            ∙ ap (λ (b : List ℕ). token_in t.gate b t.queue j) (sym (admitted-other f e other));
        next = t.next ∙ ap (λ (m : ℕ). (first + (m + length t.queue)) % 2 ^ 64) (sym same);
        served = t.served;
        due = ap (λ (u : Turn). t.served + taken u) (sym turns) ∙ t.due ∙ sym same;
        serving = t.serving;
        kept = subst (λ (m : ℕ). IsKept first t.served m t.queue t.gate) (sym same) t.kept;
        bells = λ j b. t.bells j b ∙ ap (λ (u : Turn). bell_value u j) turns;
      }

  module _ (rest : Rest D) (ready : Ready D) (kinds : Kinds) where
    abbrev K : Cells D → Type 0
    K = TableInvariant (Initial first n) (WordsFit first n) rest ready kinds n

    -- o is the next ticket of the place k, taken when NEXT was r: these places are ahead of it
    abbrev IsNext : ℕ → History D → Option Token → ℕ → Type 0
    IsNext k log o r =
        (before : List ℕ) × (o ≡ Some (token.Ticket before)) × (r ≡ (first + length before) % 2 ^ 64)
        × (ahead : List ℕ) × (before ≡ admitted log.events ++ ahead) × AreAhead n k ahead

    next_is : (log : History D) (tokens : Tokens) (ws : List ℕ) (k : ℕ) → k < n → tokens k ≡ None
        → (t : WordsFit first n log tokens ws)
        → IsNext k log (Some (token.Ticket (admitted log.events ++ t.queue))) (get_or ws next_at 0)
    next_is log tokens ws k small none t =
        let a : List ℕ = admitted log.events in
        let others = has_none t.gate a t.queue k (sym (t.tokens_are k) ∙ none) in
        let counted : admissions log.events + length t.queue ≡ length (a ++ t.queue) =
        omega (arith, admitted-length log.events, length-append a t.queue) in (
          a ++ t.queue,
          refl,
          t.next ∙ ap (λ (m : ℕ). (first + m) % 2 ^ 64) counted,
          t.queue,
          refl,
          record { once = t.once; others = others; few = few_others k small t others },
        )

    abbrev Drawn : ℕ → History D → ℕ → SeatState D → Type 0
    Drawn k f r m =
        (log : History D) × (o : Option Token) × Learns rest ready log (knows k f o ∷ []) m × IsNext k log o r

    takes : (k j : ℕ) (f g : History D) (r : ℕ) (m : SeatState D) → k ≡ j → f ≡ g → Drawn k f r m
        → (h : History D) × (before : List ℕ) × TakesTicket rest ready n j g h before m
        × (r ≡ (first + length before) % 2 ^ 64)
    takes k j f g r m place front d = (
      d.0,
      d.3.0,
      record {
        learns = subst (λ (p : ℕ × (History D × Option Token)). Learns rest ready d.0 (knows p.0 p.1.0 p.1.1 ∷ []) m)
            (λ i. (place i, (front i, d.3.1 i))) d.2;
        ahead = d.3.3;
        is_before = d.3.4;
        are_ahead = subst (λ (i : ℕ). AreAhead n i d.3.3) place d.3.5;
      },
      d.3.2,
    )

    pub takes_ticket_ok : (slots id k : ℕ) (f : History D) (st : Step (Option (Guarded D))) → outside k f.events ≡ true
        → Allows K slots id (alone k f, []) next_at (λ r. (r + 1) % 2 ^ 64)
        (takes_ticket first n rest ready st (alone k f, []))
    takes_ticket_ok slots id k f st out =
        frame.told_as K slots id (alone k f, []) next_at (λ r. (r + 1) % 2 ^ 64) _
        (takes_ticket first n rest ready st (alone k f, []))
        (λ r m (d : Drawn k f r m) j g is. let q = frame.alone_is k j f g [] [] is in takes k j f g r m q.0 q.1 d)
        (draws_and_learns (Initial first n) (WordsFit first n) rest ready kinds n slots id k next_at f None
        (λ r. (r + 1) % 2 ^ 64) (IsNext k)
        (λ log tokens ws places small same none t. let x : List ℕ = admitted log.events ++ t.queue in (
          Some (token.Ticket x),
          given_to tokens k (Some (token.Ticket x)),
          given_here tokens k (Some (token.Ticket x)),
          (λ j ne. given_else tokens k (Some (token.Ticket x)) j ne),
          asked log tokens ws k small (outside-same k f log same out) none t,
          next_is log tokens ws k small none t,
        )))

    abbrev pub Admits : ℕ → List ℕ → History D → Tokens → List ℕ → Type 0
    Admits k x log tokens ws =
        frame.BringsIn (Initial first n) (WordsFit first n) rest ready kinds k serving_at None (λ r. r)
        (λ h. admitted h.events ≡ x) log tokens ws (Admit k (latest_data log))

    brings : (k : ℕ) (x : List ℕ) (f log : History D) (tokens : Tokens) (ws : List ℕ) → n ≤ 64
        → outside k f.events ≡ true → Stands rest ready log → log.sizes.places ≡ n → k < n
        → own k log.events ≡ own k f.events → tokens k ≡ Some (token.Ticket x) → WordsFit first n log tokens ws
        → get_or ws serving_at 0 ≡ (2 * (first + length x)) % 2 ^ 64 → Admits k x log tokens ws
    brings k x f log tokens ws few out stands places small same has t hit =
        let a : List ℕ = admitted log.events in let counted = admitted-length log.events in
        let is_open : t.gate ≡ open_gate =
        even_open (first + t.served) (first + length x) t.gate (sym t.serving ∙ hit) in
        let drew = has_ticket t.gate a t.queue k x (sym (t.tokens_are k) ∙ has) in
        let r = ticket_range a t.queue k x drew in let d = t.due in
        let ahead = near stands.legal places t in
        let word : (2 * (first + t.served)) % 2 ^ 64 ≡ (2 * (first + length x)) % 2 ^ 64 =
        open_bit (first + t.served) ∙ ap (λ (g : Gate). (2 * (first + t.served) + shut g) % 2 ^ 64) (sym is_open)
        ∙ sym t.serving ∙ hit in
        let now : t.served ≡ length x =
        served_only first t.served (length x) (omega (arith, r.0, d, counted)) (omega (arith, r.1, ahead, few, counted))
        word in
        let free : turn log.events ≡ Free = taken_free (turn log.events) (omega (arith, now, d, r.0, counted)) in
        let none : taken (turn log.events) ≡ 0 = ap taken free in
        let firsts = ticket_first a t.queue k x drew (omega (arith, now, d, none, counted)) in
        let e =
        frame.enters_admit rest ready k log (subst (λ (m : ℕ). k < m) (sym places) small) free
        (outside-same k f log same out) in
        record {
          given_up = frame.given_up_free (turn log.events) free;
          enters = e;
          also = firsts.2;
          tokens' = given_to tokens k None;
          token_now = given_here tokens k None;
          others = λ j ne. given_else tokens k None j ne;
          words_fit = looked log tokens ws k firsts.0 (latest_data log) t is_open firsts.1 free e.inside;
        }

    pub polls_ticket_ok : (slots id k : ℕ) (x : List ℕ) (f : History D) (st : Step (Option (Guarded D))) → n ≤ 64
        → outside k f.events ≡ true → Allows K slots id (asking k f x, []) serving_at (λ r. r)
        (polls_ticket first rest ready st (asking k f x, []))
    polls_ticket_ok slots id k x f st few out =
        frame.told_as K slots id (asking k f x, []) serving_at (λ r. r) _
        (polls_ticket first rest ready st (asking k f x, []))
        (λ r m c j g y is. let q = frame.sole_is k j f g (Some (token.Ticket x)) (Some (token.Ticket y)) [] [] is in
        let same : x ≡ y = Ticket-injective x y q.2 in
        subst (λ (p : ℕ × (History D × List ℕ)). PollsTicketAt first rest ready p.0 p.1.0 p.1.1 (asking k f x, []) r m)
        (λ i. (q.0 i, (q.1 i, same i))) c)
        (frame.comes_ok (Initial first n) (WordsFit first n) rest ready kinds n slots id k serving_at f
        (Some (token.Ticket x)) None (Admit k) (λ r. r) (λ r. r ≡ (2 * (first + length x)) % 2 ^ 64)
        (λ log. admitted log.events ≡ x)
        (λ r. ℕ_discrete r ((2 * (first + length x)) % 2 ^ 64))
        (λ log tokens ws small t miss. refl)
        (λ log tokens ws stands places small same has t hit. brings k x f log tokens ws few out stands places small
        same has t hit))

    -- the same of a seat with that view
    pub takes_ticket_at : (slots id k : ℕ) (f : History D) (st : Step (Option (Guarded D))) (m : SeatState D)
        (start places : ℕ)
        → m ≡ (alone k f, []) → first ≡ start → n ≡ places → outside k f.events ≡ true
        → Allows K slots id m next_at (λ r. (r + 1) % 2 ^ 64) (takes_ticket start places rest ready st m)
    takes_ticket_at slots id k f st m start places is same sized out =
        subst (λ (p : SeatState D × (ℕ × ℕ)). Allows K slots id p.0 next_at (λ r. (r + 1) % 2 ^ 64)
        (takes_ticket p.1.0 p.1.1 rest ready st p.0))
        (λ i. (sym is i, (same i, sized i))) (takes_ticket_ok slots id k f st out)

    pub polls_ticket_at : (slots id k : ℕ) (x : List ℕ) (f : History D) (st : Step (Option (Guarded D)))
        (m : SeatState D) (start : ℕ)
        → m ≡ (asking k f x, []) → first ≡ start → n ≤ 64 → outside k f.events ≡ true
        → Allows K slots id m serving_at (λ r. r) (polls_ticket start rest ready st m)
    polls_ticket_at slots id k x f st m start is same few out =
        subst (λ (p : SeatState D × ℕ). Allows K slots id p.0 serving_at (λ r. r) (polls_ticket p.1 rest ready st p.0))
        (λ i. (sym is i, same i))
        (polls_ticket_ok slots id k x f st few out)

    -- a place that releases the monitor, if no place resumes, opens it to the next ticket
    pub gives_open : (slots id k : ℕ) (f : History D) (x : Guarded D) (event : D → Event D)
        (st : Step (Option (Guarded D)))
        → Gives rest ready event k f x next.Free
        → Allows K slots id (alone k f, (0, Some x) ∷ []) serving_at (λ r. (r + 2) % 2 ^ 64)
        (gives_as event st (alone k f, (0, Some x) ∷ []))
    gives_open slots id k f x event st p =
        frame.gives_ok (Initial first n) (WordsFit first n) rest ready kinds n slots id k serving_at
        (λ r. (r + 2) % 2 ^ 64) f x next.Free event st p
        (λ tokens ws places small none t. next_served f (event x.state) tokens ws k p.mine p.inside
        (free_next _ (sym p.next_is))
        (no_admit f (event x.state) p.allowed (held_busy k _ p.inside)) none t)

    -- the same of a seat with that view
    pub gives_open_at : (slots id k : ℕ) (f : History D) (x : Guarded D) (event : D → Event D)
        (st : Step (Option (Guarded D))) (m : SeatState D)
        → m ≡ (alone k f, (0, Some x) ∷ []) → Gives rest ready event k f x next.Free
        → Allows K slots id m serving_at (λ r. (r + 2) % 2 ^ 64) (gives_as event st m)
    gives_open_at slots id k f x event st m is p =
        subst (λ (q : SeatState D). Allows K slots id q serving_at (λ r. (r + 2) % 2 ^ 64) (gives_as event st q)) (sym
        is)
        (gives_open slots id k f x event st p)

    -- the place inside notifies others, by a load of SERVING
    pub notes_at : (slots id k : ℕ) (f : History D) (event : History D → Event D)
        (st : Step (Option (Guarded D))) (m : SeatState D)
        → m ≡ (alone k f, (0, None) ∷ []) → Notes rest ready (event f) k f
        → Allows K slots id m serving_at (λ r. r) (notes_as event st m)
    notes_at slots id k f event st m is p =
        frame.notes_at (Initial first n) (WordsFit first n) rest ready kinds n slots id k serving_at f event st m is p
        (λ tokens ws t. stayed f (event f) tokens ws k p.mine p.inside p.stays
        (no_admit f (event f) p.allowed (held_busy k _ p.inside)) t)
