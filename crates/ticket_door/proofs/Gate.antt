-- The holder of the gate, and the tokens then.
use Rattle.std.proofs.Common.{◌≡◌, ◌≢◌, ⊎_elim, inl, inr, ℕ, ◌+◌, eqb, cond, List, [], ◌∷◌, ◌++◌, Option, Some, None}
use Rattle.std.proofs.Common.{sym, ap, ◌∙◌, subst, arith, eq-eqb, ne_eqb, true≢false}
use mathlib.Core.Logic.{dite}
use native.Mathlib.Decide.{ℕ_discrete}
use Rattle.hoare_law.specs.declared.event.Event.{Event}
use Rattle.hoare_law.specs.declared.event.History.{History}
use Rattle.hoare_law.specs.declared.turn.Turn.TheVariants.{Held}
use Rattle.hoare_law.specs.Events.{place_of, with_event}
use Rattle.hoare_law.specs.Turns.{turn, outside}
use Rattle.hoare_law.proofs.Held.{held_one, outside-held}
use Rattle.hoare_law.proofs.Turns.{outside-other}
use Rattle.wait_book.specs.Contents.{times}
use Rattle.wait_book.proofs.Times.{one_apart, times-append}
use Rattle.door_frame.specs.declared.view.Token.{Token}
use Rattle.door_frame.specs.declared.view.Token.TheVariants as token
use Rattle.door_frame.specs.Rule.{Tokens}
use Rattle.door_frame.proofs.Views.{given_to, given_here, given_else}
use Rattle.ticket_door.specs.Queue.{ticket_in}
use Rattle.ticket_door.specs.Rule.{Gate, open_gate, shut_by, token_in, HasHolder, IsKept}
use Rattle.ticket_door.proofs.Queue.{None≢Some, ticket_only, ticket_none, none_ticket, ticket_last, ticket_kept}

-- the place that shut the gate has it
pub gate_here : (i v : ℕ) (a q : List ℕ) (k : ℕ) → k ≡ i → token_in (shut_by i v) a q k ≡ Some (token.Gate v)
gate_here i v a q k e = ap (λ b. cond b (Some (token.Gate v)) (ticket_in a q k)) (eq-eqb k i e)

pub gate_else : (i v : ℕ) (a q : List ℕ) (k : ℕ) → k ≢ i → token_in (shut_by i v) a q k ≡ ticket_in a q k
gate_else i v a q k n = ap (λ b. cond b (Some (token.Gate v)) (ticket_in a q k)) (ne_eqb k i n)

-- a place with a ticket has it by the queue
pub has_ticket : (g : Gate) (a q : List ℕ) (k : ℕ) (x : List ℕ) → token_in g a q k ≡ Some (token.Ticket x)
    → ticket_in a q k ≡ Some (token.Ticket x)
has_ticket open_gate a q k x e = e
has_ticket (shut_by i v) a q k x e = dite (ℕ_discrete k i)
    (λ same.
    let no : ◌≡◌ {A = Option Token} (Some (token.Gate v)) (Some (token.Ticket x)) =
    sym (gate_here i v a q k same) ∙ e in
    absurd (cc))
    (λ ne. sym (gate_else i v a q k ne) ∙ e)

-- a place without a token didn't shut the gate
pub not_shut : (i v : ℕ) (a q : List ℕ) (k : ℕ) → token_in (shut_by i v) a q k ≡ None → k ≢ i
not_shut i v a q k e same = None≢Some (token.Gate v) (sym e ∙ gate_here i v a q k same)

-- and isn't in the queue
pub has_none : (g : Gate) (a q : List ℕ) (k : ℕ) → token_in g a q k ≡ None → times k q ≡ 0
has_none open_gate a q k e = ticket_none a q k e
has_none (shut_by i v) a q k e =
    ticket_none a q k (sym (gate_else i v a q k (not_shut i v a q k e)) ∙ e)

-- the place that has the gate shut it
pub has_gate : (g : Gate) (a q : List ℕ) (k v : ℕ) → token_in g a q k ≡ Some (token.Gate v) → g ≡ shut_by k v
has_gate open_gate a q k v e = absurd (ticket_only a q k v e)
has_gate (shut_by i w) a q k v e = dite (ℕ_discrete k i)
    (λ same.
    let is : ◌≡◌ {A = Option Token} (Some (token.Gate w)) (Some (token.Gate v)) = sym (gate_here i w a q k same) ∙ e in
    let one : w ≡ v = gate_number is in
    λ j. shut_by (sym same j) (one j))
    (λ ne. absurd (ticket_only a q k v (sym (gate_else i w a q k ne) ∙ e)))
  where
    number : Option Token → ℕ
    number (Some (token.Gate u)) = u
    number _ = w

    gate_number : ◌≡◌ {A = Option Token} (Some (token.Gate w)) (Some (token.Gate v)) → w ≡ v
    gate_number is = ap number is

-- a place that asks takes the next ticket, whatever place has the gate
takes_ticket_here : (g : Gate) (a q : List ℕ) (k : ℕ) → token_in g a q k ≡ None
    → token_in g a (q ++ k ∷ []) k ≡ Some (token.Ticket (a ++ q))
takes_ticket_here open_gate a q k e = ticket_last a q k (ticket_none a q k e)
takes_ticket_here (shut_by i v) a q k e =
    gate_else i v a (q ++ k ∷ []) k (not_shut i v a q k e) ∙ ticket_last a q k (has_none (shut_by i v) a q k e)

-- and the other places keep what they have
takes_ticket_else : (g : Gate) (a q : List ℕ) (k j : ℕ) → j ≢ k → token_in g a (q ++ k ∷ []) j ≡ token_in g a q j
takes_ticket_else open_gate a q k j ne = ticket_kept a q k j ne
takes_ticket_else (shut_by i v) a q k j ne =
    ap (λ (o : Option Token). cond (eqb j i) (Some (token.Gate v)) o) (ticket_kept a q k j ne)

pub takes_ticket_tokens : (g : Gate) (a q : List ℕ) (k : ℕ) (tokens : Tokens)
    → ((j : ℕ) → tokens j ≡ token_in g a q j)
    → tokens k ≡ None → (j : ℕ)
    → given_to tokens k (Some (token.Ticket (a ++ q))) j ≡ token_in g a (q ++ k ∷ []) j
takes_ticket_tokens g a q k tokens are none j =
    let t : Option Token = Some (token.Ticket (a ++ q)) in
    dite (ℕ_discrete j k)
    (λ same. subst (λ (i : ℕ). given_to tokens k t i ≡ token_in g a (q ++ k ∷ []) i) (sym same)
    (given_here tokens k t ∙ sym (takes_ticket_here g a q k (sym (are k) ∙ none))))
    (λ ne. given_else tokens k t j ne ∙ are j ∙ sym (takes_ticket_else g a q k j ne))

pub takes_ticket_kept : (g : Gate) (first served x : ℕ) (a q : List ℕ) (k : ℕ) → token_in g a q k ≡ None
    → IsKept first served x q g
    → IsKept first served x (q ++ k ∷ []) g
takes_ticket_kept open_gate first served x a q k e h = tt
takes_ticket_kept (shut_by i v) first served x a q k e h = record {
  since = h.since;
  word = h.word;
  begins = h.begins;
  few = h.few;
  apart =
      let no = not_shut i v a q k e in
      let away = one_apart i k (ne_eqb i k (λ same. no (sym same))) in
      let apart = h.apart in omega (arith, times-append i q (k ∷ []), apart, away);
}

-- what holds of the gate's holder still holds after one more turn ended
pub serves_kept : (g : Gate) (first served a : ℕ) (q : List ℕ) → IsKept first served a q g
    → IsKept first (served + 1) a q g
serves_kept open_gate first served a q h = tt
serves_kept (shut_by i v) first served a q h = record {
  since = h.since;
  word = h.word;
  begins = let b = h.begins in omega (arith, b);
  few = h.few;
  apart = h.apart;
}

-- the gate's holder is where it was after an event of the place k, which has no token, if no other place than k is inside
pub holder_stays : {D : Type 0} (n : ℕ) (f : History D) (e : Event D) (k : ℕ) (g : Gate) (a q : List ℕ) → place_of e ≡ k
    → token_in g a q k ≡ None → ((j : ℕ) → turn f.events ≡ Held j → j ≡ k) → HasHolder n f g
    → HasHolder n (with_event f e) g
unfolding with_event
holder_stays n f e k open_gate a q mine none only h = tt
holder_stays n f e k (shut_by j v) a q mine none only h =
    let ne : k ≢ j = not_shut j v a q k none in (
      h.0,
      ⊎_elim (λ out. inl (outside-other j f.events e (λ same. ne (sym mine ∙ same)) ∙ out))
          (λ held. absurd (ne (sym (only j held)))) h.1,
    )

-- and after an event by which the place k stays inside
pub holder_held : {D : Type 0} (n : ℕ) (f : History D) (e : Event D) (k : ℕ) (g : Gate) → place_of e ≡ k
    → turn f.events ≡ Held k → turn (with_event f e).events ≡ Held k → HasHolder n f g → HasHolder n (with_event f e) g
unfolding with_event
holder_held n f e k open_gate mine held stays h = tt
holder_held n f e k (shut_by j v) mine held stays h = (
  h.0,
  ⊎_elim
      (λ out. inl (outside-other j f.events e
      (λ same. true≢false (sym out ∙ ap (λ i. outside i f.events) (sym same ∙ mine) ∙ outside-held f.events k held))
      ∙ out))
      (λ is. inr (stays ∙ ap (λ i. Held i) (sym (held_one f.events j k is held)))) h.1,
)

-- the place that shuts the gate has it
pub closes_gate_tokens : (a q : List ℕ) (k v : ℕ) (tokens : Tokens) → ((j : ℕ) → tokens j ≡ ticket_in a q j)
    → (j : ℕ)
    → given_to tokens k (Some (token.Gate v)) j ≡ token_in (shut_by k v) a q j
closes_gate_tokens a q k v tokens are j = ap (λ (o : Option Token). cond (eqb j k) (Some (token.Gate v)) o) (are j)

-- and when it opens the gate again, it has nothing
pub opens_gate_tokens : (a q : List ℕ) (k v : ℕ) (tokens : Tokens)
    → ((j : ℕ) → tokens j ≡ token_in (shut_by k v) a q j)
    → times k q ≡ 0 → (j : ℕ) → given_to tokens k None j ≡ ticket_in a q j
opens_gate_tokens a q k v tokens are out j = dite (ℕ_discrete j k)
    (λ same. subst (λ (i : ℕ). given_to tokens k None i ≡ ticket_in a q i) (sym same)
    (given_here tokens k None ∙ sym (none_ticket a q k out)))
    (λ ne. given_else tokens k None j ne ∙ are j ∙ gate_else k v a q j ne)
