-- The log, the fronts and the slot: each step keeps what the rule requires of them, given what it does to the words.
use Rattle.std.proofs.Common.{◌≡◌, ◌≢◌, ⊎_elim, ℕ, zero, suc, ◌+◌, ◌<◌, ◌≤◌, Bool, true, false, cond, List, [], ◌∷◌}
use Rattle.std.proofs.Common.{◌++◌, length, get_or, set, Option, Some, None, sym, refl}
use Rattle.std.proofs.Common.{ap, ◌∙◌, subst, arith, length-set, ne_eqb, append-nil}
use mathlib.Core.Logic.{dite}
use mathlib.Core.Option.{none, some}
use mathlib.Core.Option as maybe
use lib.ListN.{get_elem?}
use lib.Seq.{set-get_or}
use Rattle.atomic_table.specs.Table.{Step, Me, State, keeps, takes, gives, stepped, Allows, Splits, Joins}
use Rattle.atomic_table.proofs.Lists.{at_set, set_here, set_else, set_again}
use Rattle.hoare_law.specs.declared.event.Sizes.{Sizes}
use Rattle.hoare_law.specs.declared.event.Event.{Event}
use Rattle.hoare_law.specs.Sizes.{Kinds, sizes_at}
use Rattle.hoare_law.specs.declared.event.History.{History}
use Rattle.hoare_law.specs.declared.event.Event.TheVariants.{Admit, Resume, Back}
use Rattle.hoare_law.specs.declared.turn.Turn.{Turn}
use Rattle.hoare_law.specs.declared.turn.Turn.TheVariants.{Free, Held, Owed, Return}
use Rattle.hoare_law.specs.Events.{place_of, data_of, own, newest, latest_data, opened, with_event}
use Rattle.hoare_law.specs.Internal.WithoutData.{dataless}
use Rattle.hoare_law.specs.Lawful.{Rest, Ready, Owes, Stands}
use Rattle.hoare_law.specs.Legal.{Allowed}
use Rattle.hoare_law.specs.Priorities.{nobody}
use Rattle.hoare_law.specs.Turns.{turn, outside, IsGivenUp}
use Rattle.hoare_law.proofs.Events.{own-push, latest_data-push}
use Rattle.hoare_law.proofs.Fronts.{still_held, own-owed, own-returning}
use Rattle.hoare_law.proofs.Growth.{Begins-refl, Begins-trans, Begins-push}
use Rattle.hoare_law.proofs.Legal.{Stands-push}
use Rattle.hoare_law.proofs.Turns.{turn-push}
use Rattle.hoare_law.proofs.Owed.{owed-in_range}
use Rattle.hoare_law.proofs.Waiters.{return-in_range}
use Rattle.hoare_law.proofs.Opening.{turn-opened, Stands-opened}
use Rattle.wait_book.specs.Contents.{IsOf}
use Rattle.wait_book.specs.declared.steps.Next.{Next}
use Rattle.door_frame.specs.declared.guarded.Guarded.{Guarded}
use Rattle.door_frame.specs.declared.view.PlaceView.{PlaceView}
use Rattle.door_frame.specs.declared.view.Token.{Token}
use Rattle.door_frame.specs.declared.view.SeatView.{SeatView}
use Rattle.door_frame.specs.declared.view.SeatView.TheVariants.{Unopened, Opening, Places}
use Rattle.door_frame.specs.Rule.{Tokens, Cells, Agrees, Lies, OpenInvariant, TableInvariant, raw, lent, runs}
use Rattle.door_frame.proofs.Arrivals.{not_awaited}
use Rattle.door_frame.proofs.Refusals.{learned_now}
use Rattle.door_frame.specs.Steps.{SeatState, due, due_by, due_from, begins, opens, gives_as, Gives, notes_as, Notes}
use Rattle.door_frame.specs.Steps.{EntryStepOr, EntryStepWith, Refused, Known}
use Rattle.door_frame.specs.Steps.{Learns, learns}
use Rattle.door_frame.specs.Views.{knows, sole, alone, all_know, Each, EachOf, Without, Apart, ApartOf, knowing}
use Rattle.door_frame.specs.Views.{places_behind, first_place, no_places}
use Rattle.door_frame.proofs.Views.{only, set_only, only_at, at_end, given_to, given_here, given_else, handed}
use Rattle.door_frame.proofs.Views.{handed_here, handed_else, each_map, each_with, each-append, without}
use Rattle.door_frame.proofs.Views.{all_know_apart, apart-append}

abbrev Homes : Type 0 → Type 0
Homes D = List (maybe.Option (Option (Guarded D)))

-- the place k is owed the monitor, or is to return to it
pub data IsDue (k : ℕ) (t : Turn) : Type 0 where
  owed : (c : ℕ) → t ≡ Owed k c → IsDue k t
  returning : t ≡ Return k → IsDue k t

pub given_up_free : (t : Turn) → t ≡ Free → IsGivenUp t
given_up_free t is = subst IsGivenUp (sym is) tt

pub given_up_due : (k : ℕ) (t : Turn) → IsDue k t → IsGivenUp t
given_up_due k t (owed c is) = subst IsGivenUp (sym is) tt
given_up_due k t (returning is) = subst IsGivenUp (sym is) tt

-- a step meets each contract that its own contract implies
pub told_as : {S V : Type 0} (holds : State S V → Type 0) (slots id : ℕ) (me : Me S V) (i : ℕ) (f : ℕ → ℕ)
    (Then Other : ℕ → Me S V → Type 0)
    → ((r : ℕ) (m : Me S V) → Then r m → Other r m) → Allows holds slots id me i f Then
    → Allows holds slots id me i f Other
told_as holds slots id me i f Then Other as_ ok s kept wide at small =
    let t = ok s kept wide at small in (t.0, t.1, t.2, t.3, as_ _ _ t.4)

module _ {D : Type 0} where
  -- the contents of the first slot in hand, or d
  abbrev guarded_or : Guarded D → List (ℕ × Option (Guarded D)) → Guarded D
  guarded_or d ((m, Some y) ∷ ys) = y
  guarded_or d _ = d

  -- a place still agrees with the log after an event of another place
  grows : (n : ℕ) (log : History D) (owner : ℕ → ℕ) (tokens tokens' : Tokens) (j : ℕ) (e : Event D) (t : PlaceView D)
      → place_of e ≢ t.place → tokens' t.place ≡ tokens t.place
      → Agrees n log owner tokens j t → Agrees n (with_event log e) owner tokens' j t
  unfolding with_event
  grows n log owner tokens tokens' j e t other same h = record {
    below = h.below;
    owned = h.owned;
    begins = Begins-trans h.begins (Begins-push log e);
    own_are = own-push t.place log.events e ∙ ap (λ b. own t.place log.events ++ cond b (e ∷ []) [])
        (ne_eqb (place_of e) t.place other) ∙ append-nil (own t.place log.events) ∙ h.own_are;
    token_is = same ∙ h.token_is;
  }

  reowned : (n : ℕ) (log : History D) (owner owner' : ℕ → ℕ) (tokens : Tokens) (j j' : ℕ) (t : PlaceView D)
      → owner' t.place ≡ j' → Agrees n log owner tokens j t → Agrees n log owner' tokens j' t
  reowned n log owner owner' tokens j j' t o h =
      record { below = h.below; owned = o; begins = h.begins; own_are = h.own_are; token_is = h.token_is }

  retokened : (n : ℕ) (log : History D) (owner : ℕ → ℕ) (tokens tokens' : Tokens) (j : ℕ) (t : PlaceView D)
      → tokens' t.place ≡ tokens t.place → Agrees n log owner tokens j t
      → Agrees n log owner tokens' j t
  retokened n log owner tokens tokens' j t same h =
      record { below = h.below; owned = h.owned; begins = h.begins; own_are = h.own_are; token_is = same ∙ h.token_is }

  -- the place of a seat of one place, what it knows and its token
  abbrev pub acting : SeatView D → ℕ
  acting (Places (t ∷ ts)) = t.place
  acting _ = 0

  abbrev pub front_or : History D → SeatView D → History D
  front_or d (Places (t ∷ ts)) = t.front
  front_or d _ = d

  abbrev pub token_or : Option Token → SeatView D → Option Token
  token_or d (Places (t ∷ ts)) = t.token
  token_or d _ = d

  pub sole_is : (k j : ℕ) (f g : History D) (o p : Option Token) (c d : List (ℕ × Option (Guarded D)))
      → ◌≡◌ {A = SeatState D} (sole k f o, c) (sole j g p, d) → (k ≡ j) × (f ≡ g) × (o ≡ p) × (c ≡ d)
  sole_is k j f g o p c d e = (
    ap (λ (m : SeatState D). acting m.0) e,
    ap (λ (m : SeatState D). front_or f m.0) e,
    ap (λ (m : SeatState D). token_or o m.0) e,
    ap (λ (m : SeatState D). m.1) e,
  )

  pub alone_is : (k j : ℕ) (f g : History D) (c d : List (ℕ × Option (Guarded D)))
      → ◌≡◌ {A = SeatState D} (alone k f, c) (alone j g, d) → (k ≡ j) × (f ≡ g) × (c ≡ d)
  alone_is k j f g c d e = let s = sole_is k j f g None None c d e in (s.0, s.1, s.3)

  sizes_kept : (n : Sizes) (log : History D) (e : Event D) → log.sizes ≡ n → (with_event log e).sizes ≡ n
  unfolding with_event
  sizes_kept n log e is = is

module _ {D : Type 0} (rest : Rest D) (ready : Ready D) where
  -- the place k may enter by the event e, as far as the words don't matter
  pub record Enters (k : ℕ) (h : History D) (e : Event D) : Type 0 where
    pub allowed : Allowed h e
    pub owes : Owes rest ready h.events e
    pub mine : place_of e ≡ k
    pub inside : turn (with_event h e).events ≡ Held k

  pub enters_admit : (k : ℕ) (h : History D) → k < h.sizes.places → turn h.events ≡ Free → outside k h.events ≡ true
      → Enters k h (Admit k (latest_data h))
  unfolding with_event Owes
  enters_admit k h below free out = record {
    allowed = record { in_range = (below, tt); fits = (free, out, refl) };
    owes = tt;
    mine = refl;
    inside = turn-push h.events (Admit k (latest_data h));
  }

  pub enters_due : (k : ℕ) (h f : History D) → Stands rest ready h → own k h.events ≡ own k f.events
      → IsDue k (turn h.events) → Enters k h (due k f (latest_data h))
  unfolding with_event Owes
  enters_due k h f stands same is =
      subst (λ (l : List (Event D)). Enters k h (due_by k (newest l) (latest_data h))) same (by_turn is)
    where
      by_turn : IsDue k (turn h.events) → Enters k h (due k h (latest_data h))
      by_turn (owed c is) = let last = own-owed h k c stands.legal is in let s : D = latest_data h in
          subst (λ (o : Option (Event D)). Enters k h (due_by k o s)) (sym last.2) (record {
            allowed = record { in_range = owed-in_range h k c stands.legal is; fits = (is, refl) };
            owes = tt;
            mine = refl;
            inside = turn-push h.events (Resume k c s);
          })
      by_turn (returning is) = let last = own-returning h.events k is in let s : D = latest_data h in
          subst (λ (o : Option (Event D)). Enters k h (due_by k o s)) (sym last.1)
          (subst (λ (c : Option ℕ). Enters k h (due_from k c s)) (sym (not_awaited last.0 last.2)) (record {
            allowed = record { in_range = (return-in_range h k stands.legal is, tt); fits = (is, refl) };
            owes = tt;
            mine = refl;
            inside = turn-push h.events (Back k s);
          }))

module _ {D : Type 0} (Initial : Bool → List ℕ → Type 0) (WordsFit : History D → Tokens → List ℕ
    → Type 0) (rest : Rest D)
    (ready : Ready D) (kinds : Kinds) where
  abbrev R : ℕ → Cells D → Type 0
  R = OpenInvariant Initial WordsFit rest ready kinds

  abbrev K : ℕ → Cells D → Type 0
  K = TableInvariant Initial WordsFit rest ready kinds

  -- if a seat represents places, the door is open
  pub running : (n : ℕ) (s : Cells D) → K n s → (id : ℕ) (ts : List (PlaceView D))
      → get_elem? s.views id ≡ some (Places ts) → R n s
  running n s (runs r) id ts at = r
  running n s (raw b h e) id ts at =
      let other : Unopened n ≡ Places ts =
      only (Unopened n) (Places ts) id (ap (λ (x : List (SeatView D)). get_elem? x id) (sym e) ∙ at) in
      absurd (cc)
  running n s (lent b h e) id ts at =
      let other : Opening n ≡ Places ts =
      only (Opening n) (Places ts) id (ap (λ (x : List (SeatView D)). get_elem? x id) (sym e) ∙ at) in
      absurd (cc)

  -- the views if the seat `id` of the place k has another front and another token, and all else agrees as before
  agree_all : (n : ℕ) (s : Cells D) (r : R n s) (id k : ℕ) (f g h : History D) (o o' : Option Token) (tokens' : Tokens)
      → get_elem? s.views id ≡ some (sole k f o)
      → Agrees n h r.owner tokens' id (knows k g o')
      → ((j : ℕ) (t : PlaceView D) → t.place ≢ k → Agrees n r.log r.owner r.tokens j t → Agrees n h r.owner tokens' j t)
      → (j : ℕ) (v : SeatView D) → get_elem? (set s.views id (sole k g o')) j ≡ some v
      → EachOf (Agrees n h r.owner tokens' j) v
  agree_all n s r id k f g h o o' tokens' at here else_ j v got = let w : SeatView D = sole k g o' in ⊎_elim
      (λ (t : (j ≡ id) × (w ≡ v)). subst (λ (z : ℕ × SeatView D). EachOf (Agrees n h r.owner tokens' z.0) z.1)
      (λ i. (sym t.0 i, t.1 i)) (here, tt))
      (λ (t : (j ≢ id) × (get_elem? s.views j ≡ some v)). kept_all v t.0 (r.fronts j v t.1))
      (at_set s.views id j w v got)
    where
      kept_all : (u : SeatView D) → j ≢ id → EachOf (Agrees n r.log r.owner r.tokens j) u
          → EachOf (Agrees n h r.owner tokens' j) u
      kept_all (Places ts) ne q0 = each_map (Agrees n r.log r.owner r.tokens j) (Agrees n h r.owner tokens' j)
          (λ u q. else_ j u (λ (same : u.place ≡ k). ne (sym q.owned
          ∙ (ap r.owner same ∙ (r.fronts id (sole k f o) at).0.owned))) q) ts q0
      kept_all (Unopened m) ne q0 = q0
      kept_all (Opening m) ne q0 = q0

  -- no seat has a place twice if the seat `id` now has one place
  apart_sole : (n : ℕ) (s : Cells D) (r : R n s) (id k : ℕ) (g : History D) (o : Option Token) (j : ℕ) (v : SeatView D)
      → get_elem? (set s.views id (sole k g o)) j ≡ some v → ApartOf v
  apart_sole n s r id k g o j v got = ⊎_elim
      (λ (t : (j ≡ id) × (sole k g o ≡ v)). subst ApartOf t.1 (tt, tt))
      (λ (t : (j ≢ id) × (get_elem? s.views j ≡ some v)). r.apart j v t.1)
      (at_set s.views id j (sole k g o) v got)

  -- one more event, of the place k
  adds : (n : ℕ) (s : Cells D) (r : R n s) (id k : ℕ) (f : History D) (o o' : Option Token) (tokens' : Tokens)
      (e : Event D) (words' : List ℕ) (homes' : Homes D)
      → get_elem? s.views id ≡ some (sole k f o) → place_of e ≡ k → Allowed r.log e → Owes rest ready r.log.events e
      → length homes' ≡ 1 → tokens' k ≡ o' → ((j : ℕ) → j ≢ k → tokens' j ≡ r.tokens j)
      → WordsFit (with_event r.log e) tokens' words'
      → (IsGivenUp (turn (with_event r.log e).events) → (x : Guarded D) × (get_elem? homes' 0 ≡ some (some (Some x)))
      × Lies (with_event r.log e) x)
      → ((j : ℕ) → turn (with_event r.log e).events ≡ Held j → get_elem? homes' 0 ≡ some none)
      → R n record { words = words'; homes = homes'; views = set s.views id (sole k (with_event r.log e) o') }
  adds n s r id k f o o' tokens' e words' homes' at mine may owes deep now others words_fit home out =
      let fit = (r.fronts id (sole k f o) at).0 in let h : History D = with_event r.log e in
      let kept = sizes_kept (sizes_at kinds n) r.log e r.sized in record {
        log = h;
        owner = r.owner;
        tokens = tokens';
        one_slot = deep;
        sized = kept;
        fronts = agree_all n s r id k f h h o o' tokens' at
            (record { below = fit.below; owned = fit.owned; begins = Begins-refl h; own_are = refl; token_is = now })
            (λ j t ne q. grows n r.log r.owner r.tokens tokens' j e t (λ same. ne (sym same ∙ mine))
            (others t.place ne) q);
        apart = apart_sole n s r id k h o';
        stands = Stands-push e r.stands may owes;
        words_fit = words_fit;
        home = home;
        out = out;
      }

  -- the place k has another token, and the log and the slots in hand are unchanged
  pub draws_ok : (n slots id k i : ℕ) (f : History D) (o : Option Token) (c : List (ℕ × Option (Guarded D))) (g : ℕ → ℕ)
      (Then : Option Token → ℕ → Type 0)
      → ((log : History D) (tokens : Tokens) (ws : List ℕ) → k < n → own k log.events ≡ own k f.events → tokens k ≡ o
      → WordsFit log tokens ws → (o' : Option Token) × (tokens' : Tokens) × (tokens' k ≡ o')
      × ((j : ℕ) → j ≢ k → tokens' j ≡ tokens j) × WordsFit log tokens' (set ws i (g (get_or ws i 0))) × Then o'
      (get_or ws i 0))
      → Allows (K n) slots id (sole k f o, c) i g (λ r m'. (o' : Option Token) × (m' ≡ (sole k f o', c)) × Then o' r)
  draws_ok n slots id k i f o c g Then step_ s kept wide at small =
      let r = running n s kept id (knows k f o ∷ []) at in let fit = (r.fronts id (sole k f o) at).0 in
      let d = step_ r.log r.tokens s.words fit.below fit.own_are fit.token_is r.words_fit in (
        sole k f d.0,
        keeps,
        tt,
        runs (record {
          log = r.log;
          owner = r.owner;
          tokens = d.1;
          one_slot = r.one_slot;
          sized = r.sized;
          fronts = agree_all n s r id k f f r.log o d.0 d.1 at
              (record {
                below = fit.below;
                owned = fit.owned;
                begins = fit.begins;
                own_are = fit.own_are;
                token_is = d.2;
              })
              (λ j t ne q. retokened n r.log r.owner r.tokens d.1 j t (d.3 t.place ne) q);
          apart = apart_sole n s r id k f d.0;
          stands = r.stands;
          words_fit = d.4;
          home = r.home;
          out = r.out;
        }),
        (d.0, refl, d.5),
      )

  -- a step that changes no word and no view
  unmoved : (n : ℕ) (s : Cells D) (i id : ℕ) (v : SeatView D) (c : List (ℕ × Option (Guarded D)))
      → get_elem? s.views id ≡ some v → K n s → K n (stepped s i (get_or s.words i 0) id c v keeps)
  unmoved n s i id v c at kept =
      subst (λ (z : List ℕ × List (SeatView D)). K n record { words = z.0; homes = s.homes; views = z.1 })
      (λ j. (sym (set-get_or s.words i 0) j, sym (set_again s.views id v at) j)) kept

  -- by the event e the place k enters, which then has the token p; the word i becomes g of what it was
  pub record BringsIn (k i : ℕ) (p : Option Token) (g : ℕ → ℕ) (Also : History D → Type 0) (log : History D)
      (tokens : Tokens)
      (ws : List ℕ) (e : Event D) : Type 0 where
    pub given_up : IsGivenUp (turn log.events)
    pub enters : Enters rest ready k log e
    pub also : Also log
    pub tokens' : Tokens
    pub token_now : tokens' k ≡ p
    pub others : (j : ℕ) → j ≢ k → tokens' j ≡ tokens j
    pub words_fit : WordsFit (with_event log e) tokens' (set ws i (g (get_or ws i 0)))

  -- a step of the seat id on the word i, which becomes y, by which no slot moves and Missed holds of the seat
  abbrev pub Misses : ℕ → Cells D → ℕ → ℕ → ℕ → (SeatState D → Type 0) → Type 0
  Misses n s i id y Missed = (w : SeatView D) × K n (stepped s i y id [] w keeps) × Missed (w, [])

  -- a step that changes no word may leave the seat as it was
  pub stays_as : (n : ℕ) (s : Cells D) (i id y : ℕ) (v : SeatView D) → K n s → get_elem? s.views id ≡ some v
      → y ≡ get_or s.words i 0 → Misses n s i id y (λ m. m ≡ (v, []))
  stays_as n s i id y v kept at same =
      (v, subst (λ (z : ℕ). K n (stepped s i z id [] v keeps)) (sym same) (unmoved n s i id v [] at kept), refl)

  -- or the place k of the seat, which knew f and has the token o, learns the log
  pub learns_only : (n : ℕ) (s : Cells D) (r : R n s) (i id y k : ℕ) (f : History D) (o : Option Token)
      → get_elem? s.views id ≡ some (sole k f o) → y ≡ get_or s.words i 0
      → Misses n s i id y (Learns rest ready r.log (knows k f o ∷ []))
  learns_only n s r i id y k f o at same =
      let fit = (r.fronts id (sole k f o) at).0 in let w : SeatView D = sole k r.log o in (
        w,
        subst (λ (z : List ℕ). K n record { words = z; homes = s.homes; views = set s.views id w })
            (sym (ap (λ (z : ℕ). set s.words i z) same ∙ set-get_or s.words i 0)) (runs (record {
              log = r.log;
              owner = r.owner;
              tokens = r.tokens;
              one_slot = r.one_slot;
              sized = r.sized;
              fronts = agree_all n s r id k f r.log r.log o o r.tokens at
                  (record {
                    below = fit.below;
                    owned = fit.owned;
                    begins = Begins-refl r.log;
                    own_are = refl;
                    token_is = fit.token_is;
                  })
                  (λ j t ne q. q);
              apart = apart_sole n s r id k r.log o;
              stands = r.stands;
              words_fit = r.words_fit;
              home = r.home;
              out = r.out;
            })),
        record { me_is = refl; stands = r.stands; fits = ((fit.begins, fit.own_are), tt); apart = (tt, tt) },
      )

  -- and Cause holds of the log
  pub learns_log : (n : ℕ) (s : Cells D) (r : R n s) (i id y k : ℕ) (f : History D) (Cause : History D → Type 0)
      → get_elem? s.views id ≡ some (alone k f) → y ≡ get_or s.words i 0 → Cause r.log
      → Misses n s i id y (Refused rest ready Cause k f)
  learns_log n s r i id y k f Cause at same cause =
      let t = learns_only n s r i id y k f None at same in (t.0, t.1, learned_now t.2 cause t.2.me_is)

  -- the place k, which knew f, enters if the word is a hit, and takes the slot; else Missed holds of its seat
  pub comes_or : (n slots id k i : ℕ) (f : History D) (o p : Option Token) (event : D → Event D) (g : ℕ → ℕ)
      (Hit : ℕ → Type 0) (Missed : SeatState D → Type 0) (Also : History D → Type 0)
      → ((x : ℕ) → Dec (Hit x))
      → ((s : Cells D) (r : R n s) → get_elem? s.views id ≡ some (sole k f o) → (Hit (get_or s.words i 0) → ⊥)
      → Misses n s i id (g (get_or s.words i 0)) Missed)
      → ((log : History D) (tokens : Tokens) (ws : List ℕ) → Stands rest ready log → log.sizes.places ≡ n → k < n
      → own k log.events ≡ own k f.events → tokens k ≡ o → WordsFit log tokens ws
      → Hit (get_or ws i 0) → BringsIn k i p g Also log tokens ws (event (latest_data log)))
      → Allows (K n) slots id (sole k f o, []) i g
      (λ r m'. EntryStepOr rest ready p Hit Missed Also k f event r m')
  comes_or n slots id k i f o p event g Hit Missed Also test missed brings s kept wide at small =
      let r = running n s kept id (knows k f o ∷ []) at in let x : ℕ = get_or s.words i 0 in
      let v : SeatView D = sole k f o in
      let deep = r.one_slot in let fit = (r.fronts id v at).0 in dite (test x)
      (λ hit. let b0 = brings r.log r.tokens s.words r.stands (ap (λ (m : Sizes). m.places) r.sized) fit.below
      fit.own_are fit.token_is r.words_fit hit in let home = r.home b0.given_up in let l : Guarded D = home.0 in
      let e : Event D = event l.state in let h : History D = with_event r.log e in let w : SeatView D = sole k h p in
      let b : BringsIn k i p g Also r.log r.tokens s.words e =
      subst (λ (d : D). BringsIn k i p g Also r.log r.tokens s.words (event d)) (sym home.2.latest) b0 in
      let enters = b.enters in (
        w,
        takes 0 (Some l),
        home.1,
        runs
            (adds n s r id k f o p b.tokens' e (set s.words i (g x)) (set s.homes 0 none) at enters.mine enters.allowed
            enters.owes (length-set s.homes 0 none ∙ deep) b.token_now b.others b.words_fit
            (not_given_up l h enters.inside) (λ j held. set_here s.homes 0 none (omega (arith, deep)))),
        (
          (λ ne. absurd (ne hit)),
          λ _. (
            l,
            record {
              log = r.log;
              me_is = refl;
              begins = fit.begins;
              own_are = fit.own_are;
              stands = Stands-push e r.stands enters.allowed enters.owes;
              book = home.2.book;
            },
            b.also,
          ),
        ),
      ))
      (λ miss. let t = missed s r at miss in (t.0, keeps, tt, t.1, ((λ _. t.2), λ hit. absurd (miss hit))))
    where
      not_given_up : (l : Guarded D) (h : History D) → turn h.events ≡ Held k → IsGivenUp (turn h.events)
          → (x : Guarded D) × (get_elem? (set s.homes 0 none) 0 ≡ some (some (Some x))) × Lies h x
      not_given_up l h held up = absurd (subst IsGivenUp held up)

  -- the same, if a place that doesn't enter knows what it knew
  pub comes_ok : (n slots id k i : ℕ) (f : History D) (o p : Option Token) (event : D → Event D) (g : ℕ → ℕ)
      (Hit : ℕ → Type 0) (Also : History D → Type 0)
      → ((x : ℕ) → Dec (Hit x))
      → ((log : History D) (tokens : Tokens) (ws : List ℕ) → k < n → WordsFit log tokens ws → (Hit (get_or ws i 0) → ⊥)
      → g (get_or ws i 0) ≡ get_or ws i 0)
      → ((log : History D) (tokens : Tokens) (ws : List ℕ) → Stands rest ready log → log.sizes.places ≡ n → k < n
      → own k log.events ≡ own k f.events → tokens k ≡ o → WordsFit log tokens ws
      → Hit (get_or ws i 0) → BringsIn k i p g Also log tokens ws (event (latest_data log)))
      → Allows (K n) slots id (sole k f o, []) i g
      (λ r m'. EntryStepWith rest ready p Hit Also k f event (sole k f o, []) r m')
  comes_ok n slots id k i f o p event g Hit Also test missed =
      comes_or n slots id k i f o p event g Hit (λ m. m ≡ (sole k f o, [])) Also test
      (λ s r at miss. stays_as n s i id (g (get_or s.words i 0)) (sole k f o) (runs r) at
      (missed r.log r.tokens s.words (r.fronts id (sole k f o) at).0.below r.words_fit miss))

  lies_of : (f : History D) (e : Event D) (x : Guarded D) → data_of e ≡ x.state → IsOf x.book
      (dataless (with_event f e))
      → Lies (with_event f e) x
  lies_of f e x same book = record { latest = sym (latest_data-push f e ∙ same); book = book }

  pub gives_ok : (n slots id k i : ℕ) (g : ℕ → ℕ) (f : History D) (x : Guarded D) (next : Next) (event : D → Event D)
      (st : Step (Option (Guarded D)))
      → Gives rest ready event k f x next
      → ((tokens : Tokens) (ws : List ℕ) → f.sizes.places ≡ n → k < n → tokens k ≡ None → WordsFit f tokens ws
      → WordsFit (with_event f (event x.state)) tokens (set ws i (g (get_or ws i 0))))
      → Allows (K n) slots id (alone k f, (0, Some x) ∷ []) i g
      (λ r m'. gives_as event st (alone k f, (0, Some x) ∷ []) r m')
  gives_ok n slots id k i g f x next event st p words_fit s kept wide at small =
      let r = running n s kept id (knows k f None ∷ []) at in
      let deep = r.one_slot in let fit = (r.fronts id (alone k f) at).0 in let e : Event D = event x.state in
      let same : r.log ≡ f = still_held k f r.log r.stands.legal p.inside fit.begins fit.own_are in
      let w : SeatView D = alone k (with_event r.log e) in
      let ws' : List ℕ = set s.words i (g (get_or s.words i 0)) in
      let told : WordsFit (with_event r.log e) r.tokens ws' =
      subst (λ (h : History D). WordsFit (with_event h e) r.tokens ws') (sym same)
      (words_fit r.tokens s.words (ap (λ (h : History D). h.sizes.places) (sym same)
      ∙ ap (λ (m : Sizes). m.places) r.sized) fit.below fit.token_is
      (subst (λ (h : History D). WordsFit h r.tokens s.words) same r.words_fit)) in
      let lies : Lies (with_event r.log e) x =
      subst (λ (h : History D). Lies (with_event h e) x) (sym same) (lies_of f e x p.same_data p.book) in
      let gone : IsGivenUp (turn (with_event r.log e).events) =
      subst (λ (h : History D). IsGivenUp (turn (with_event h e).events)) (sym same) p.given_up in (
        w,
        gives,
        tt,
        runs
            (adds n s r id k f None None r.tokens e ws' (set s.homes 0 (some (Some x))) at p.mine
            (subst (λ (h : History D). Allowed h e) (sym same) p.allowed)
            (subst (λ (h : History D). Owes rest ready h.events e) (sym same) p.owes)
            (length-set s.homes 0 (some (Some x)) ∙ deep)
            fit.token_is (λ j ne. refl) told (λ _. (x, set_here s.homes 0 (some (Some x)) (omega (arith, deep)), lies))
            (λ j held. absurd (subst IsGivenUp held gone))),
        λ j g y is. let q = alone_is k j f g ((0, Some x) ∷ []) ((0, Some y) ∷ []) is in
            let is' : x ≡ y = ap (guarded_or x) q.2 in
            λ i. (alone (q.0 i) (with_event ((same ∙ q.1) i) (event (is' i).state)), []),
      )

  -- the place inside does the event and keeps the slot, and no word changes
  notes_ok : (n slots id k i : ℕ) (f : History D) (event : History D → Event D) (st : Step (Option (Guarded D)))
      → Notes rest ready (event f) k f
      → ((tokens : Tokens) (ws : List ℕ) → WordsFit f tokens ws → WordsFit (with_event f (event f)) tokens ws)
      → Allows (K n) slots id (alone k f, (0, None) ∷ []) i (λ r. r) (notes_as event st (alone k f, (0, None) ∷ []))
  notes_ok n slots id k i f event st p words_fit s kept wide at small =
      let r = running n s kept id (knows k f None ∷ []) at in
      let fit = (r.fronts id (alone k f) at).0 in
      let e : Event D = event f in
      let w : SeatView D = alone k (with_event r.log e) in
      let same : r.log ≡ f = still_held k f r.log r.stands.legal p.inside fit.begins fit.own_are in
      let out : get_elem? s.homes 0 ≡ some none = r.out k (ap (λ (h : History D). turn h.events) same ∙ p.inside) in
      let stays : turn (with_event r.log e).events ≡ Held k =
      subst (λ (h : History D). turn (with_event h e).events ≡ Held k) (sym same) p.stays in
      let told : WordsFit (with_event r.log e) r.tokens s.words =
      subst (λ (h : History D). WordsFit (with_event h e) r.tokens s.words) (sym same)
      (words_fit r.tokens s.words (subst (λ (h : History D). WordsFit h r.tokens s.words) same r.words_fit)) in
      let now : R n record { words = s.words; homes = s.homes; views = set s.views id w } =
      adds n s r id k f None None r.tokens e s.words s.homes at p.mine
      (subst (λ (h : History D). Allowed h e) (sym same) p.allowed)
      (subst (λ (h : History D). Owes rest ready h.events e) (sym same) p.owes)
      r.one_slot fit.token_is (λ j ne. refl) told (λ up. absurd (subst IsGivenUp stays up)) (λ j held. out) in (
        w,
        keeps,
        tt,
        subst (λ (ws : List ℕ). K n record { words = ws; homes = s.homes; views = set s.views id w })
            (sym (set-get_or s.words i 0)) (runs now),
        λ j g is. let q = alone_is k j f g ((0, None) ∷ []) ((0, None) ∷ []) is in
            λ i. (alone (q.0 i) (with_event ((same ∙ q.1) i) (event (q.1 i))), (0, None) ∷ []),
      )

  pub notes_at : (n slots id k i : ℕ) (f : History D) (event : History D → Event D)
      (st : Step (Option (Guarded D))) (m : SeatState D)
      → m ≡ (alone k f, (0, None) ∷ []) → Notes rest ready (event f) k f
      → ((tokens : Tokens) (ws : List ℕ) → WordsFit f tokens ws → WordsFit (with_event f (event f)) tokens ws)
      → Allows (K n) slots id m i (λ r. r) (notes_as event st m)
  notes_at n slots id k i f event st m is p words_fit =
      subst (λ (q : SeatState D). Allows (K n) slots id q i (λ r. r) (notes_as event st q)) (sym is)
      (notes_ok n slots id k i f event st p words_fit)

  pub begins_ok : (n slots id i : ℕ) (g : ℕ → ℕ) (st : Step (Option (Guarded D)))
      → ((ws : List ℕ) → Initial false ws → Initial true (set ws i (g (get_or ws i 0))))
      → Allows (K n) slots id (Unopened n, []) i g (begins st (Unopened n, []))
  begins_ok n slots id i g st starts s (raw b h e) wide at small =
      let at' : get_elem? (Unopened n ∷ []) id ≡ some (Unopened n) =
      ap (λ (x : List (SeatView D)). get_elem? x id) (sym e) ∙ at in (
        Opening n,
        takes 0 None,
        ap (λ (x : Homes D). get_elem? x 0) h,
        lent (starts s.words b) (ap (λ (x : Homes D). set x 0 none) h)
            (ap (λ (x : List (SeatView D)). set x id (Opening n)) e
            ∙ set_only (Unopened n) (Opening n) (Unopened n) id at'),
        λ m is. λ j. (Opening (count (is j)), (0, None) ∷ []),
      )
    where
      count : SeatView D → ℕ
      count (Unopened m) = m
      count _ = 0
  begins_ok n slots id i g st starts s (lent b h e) wide at small =
      let other : Opening n ≡ Unopened n = only (Opening n)
      (Unopened n) id (ap (λ (x : List (SeatView D)). get_elem? x id) (sym e) ∙ at) in absurd (cc)
  begins_ok n slots id i g st starts s (runs r) wide at small = absurd (r.fronts id (Unopened n) at)

  all_agree : (n : ℕ) (h : History D) (count k : ℕ) → k + count ≤ n
      → Each (Agrees n h (λ _. 0) (λ _. None) 0) (all_know k count h)
  all_agree n h zero k b = tt
  all_agree n h (suc count) k b = (
    record { below = omega arith; owned = refl; begins = Begins-refl h; own_are = refl; token_is = refl },
    all_agree n h count (suc k) (omega arith),
  )

  -- the door as it opens
  opens_running : (n : ℕ) (x : Guarded D) (ws : List ℕ) → Stands rest ready (opened (sizes_at kinds n) x.state)
      → IsOf x.book (opened (sizes_at kinds n) tt) → WordsFit (opened (sizes_at kinds n) x.state)
      (λ _. None) ws → R n
      (record {
        words = ws;
        homes = some (Some x) ∷ [];
        views = Places (all_know 0 n (opened (sizes_at kinds n) x.state)) ∷ [];
      })
  unfolding latest_data
  opens_running n x ws stands book words_fit = record {
    log = opened (sizes_at kinds n) x.state;
    owner = λ _. 0;
    tokens = λ _. None;
    one_slot = refl;
    sized = refl;
    fronts =
        λ j v got. subst (λ (z : ℕ × SeatView D). EachOf
        (Agrees n (opened (sizes_at kinds n) x.state) (λ _. 0) (λ _. None) z.0) z.1)
        (λ i. (
          sym (only_at (Places (all_know 0 n (opened (sizes_at kinds n) x.state))) v j got) i,
          only (Places (all_know 0 n (opened (sizes_at kinds n) x.state))) v j got i,
        ))
        (all_agree n (opened (sizes_at kinds n) x.state) n 0 (omega arith));
    apart = λ j v got. subst ApartOf (only (Places (all_know 0 n (opened (sizes_at kinds n) x.state))) v j got)
        (all_know_apart 0 n (opened (sizes_at kinds n) x.state));
    stands = stands;
    words_fit = words_fit;
    home = λ _. (x, refl, record { latest = refl; book = book });
    out = λ k held. let no : Free ≡ Held k = sym (turn-opened (sizes_at kinds n) x.state) ∙ held in absurd (cc);
  }

  pub opens_ok : (n slots id i : ℕ) (g : ℕ → ℕ) (x : Guarded D) (st : Step (Option (Guarded D)))
      → Stands rest ready (opened (sizes_at kinds n) x.state) → IsOf x.book (opened (sizes_at kinds n) tt)
      → ((ws : List ℕ) → Initial true ws → WordsFit (opened (sizes_at kinds n) x.state) (λ _. None)
      (set ws i (g (get_or ws i 0))))
      → Allows (K n) slots id (Opening n, (0, Some x) ∷ []) i g
      (λ r m'. opens kinds st (Opening n, (0, Some x) ∷ []) r m')
  opens_ok n slots id i g x st stands book words_fit s (raw b h e) wide at small =
      let other : Unopened n ≡ Opening n = only (Unopened n)
      (Opening n) id (ap (λ (y : List (SeatView D)). get_elem? y id) (sym e) ∙ at) in absurd (cc)
  opens_ok n slots id i g x st stands book words_fit s (runs r) wide at small = absurd (r.fronts id (Opening n) at)
  opens_ok n slots id i g x st stands book words_fit s (lent b h e) wide at small =
      let at' : get_elem? (Opening n ∷ []) id ≡ some (Opening n) =
      ap (λ (y : List (SeatView D)). get_elem? y id) (sym e) ∙ at in
      let o : History D = opened (sizes_at kinds n) x.state in
      let w : SeatView D = Places (all_know 0 n o) in let ws' : List ℕ = set s.words i (g (get_or s.words i 0)) in
      let s' : Cells D = record { words = ws'; homes = some (Some x) ∷ []; views = w ∷ [] } in
      let now : stepped s i (g (get_or s.words i 0)) id ((0, Some x) ∷ []) w gives ≡ s' = λ j. record {
        words = ws';
        homes = ap (λ (y : Homes D). set y 0 (some (Some x))) h j;
        views = (ap (λ (y : List (SeatView D)). set y id w) e ∙ set_only (Opening n) w (Opening n) id at') j;
      } in (
        w,
        gives,
        tt,
        subst (K n) (sym now) (runs (opens_running n x ws' stands book (words_fit s.words b))),
        λ m y is. told m y is,
      )
    where
      count : SeatView D → ℕ
      count (Opening m) = m
      count _ = 0

      told : (m : ℕ) (y : Guarded D) → ◌≡◌ {A = SeatState D} (Opening n, (0, Some x) ∷ []) (Opening m, (0, Some y) ∷ [])
          → ◌≡◌ {A = SeatState D} (Places (all_know 0 n (opened (sizes_at kinds n) x.state)), [])
          (Places (all_know 0 m (opened (sizes_at kinds m) y.state)), [])
      told m y is =
          let a : n ≡ m = ap (λ (z : SeatState D). count z.0) is in
          let b_ : x ≡ y = ap (λ (z : SeatState D). guarded_or x z.1) is in
          λ i. (Places (all_know 0 (a i) (opened (sizes_at kinds (a i)) (b_ i).state)), [])

  -- the first seat takes the empty slot, by any step that takes the words from Initial false to Initial true
  pub begins_at : (n slots id i : ℕ) (g : ℕ → ℕ) (st : Step (Option (Guarded D))) (m : SeatState D)
      → m ≡ (Unopened n, [])
      → ((ws : List ℕ) → Initial false ws → Initial true (set ws i (g (get_or ws i 0))))
      → Allows (K n) slots id m i g (begins st m)
  begins_at n slots id i g st m is starts =
      subst (λ (p : SeatState D). Allows (K n) slots id p i g (begins st p)) (sym is) (begins_ok n slots id i g st
      starts)

  -- the first seat puts the slot back with the data, by any step after which the words fit the opened door
  pub opens_at : (n slots id i : ℕ) (g : ℕ → ℕ) (x : Guarded D) (st : Step (Option (Guarded D))) (m : SeatState D)
      → m ≡ (Opening n, (0, Some x) ∷ [])
      → rest x.state nobody → IsOf x.book (opened (sizes_at kinds n) tt)
      → ((ws : List ℕ) → Initial true ws → WordsFit (opened (sizes_at kinds n) x.state) (λ _. None)
      (set ws i (g (get_or ws i 0))))
      → Allows (K n) slots id m i g (opens kinds st m)
  opens_at n slots id i g x st m is at_rest book words_fit =
      subst (λ (p : SeatState D). Allows (K n) slots id p i g (opens kinds st p)) (sym is)
      (opens_ok n slots id i g x st (Stands-opened rest ready (sizes_at kinds n) x.state at_rest) book words_fit)

  -- what a seat knows agrees with the log, and no place is in it twice
  abbrev Fits : ℕ → History D → (ℕ → ℕ) → Tokens → ℕ → SeatView D → Type 0
  Fits n log owner tokens j v = EachOf (Agrees n log owner tokens j) v × ApartOf v

  -- the rule, with other views of the same log
  views_to : (n : ℕ) (s : Cells D) (r : R n s) (owner' : ℕ → ℕ) (views' : List (SeatView D))
      → ((j : ℕ) (v : SeatView D) → get_elem? views' j ≡ some v → Fits n r.log owner' r.tokens j v)
      → R n record { words = s.words; homes = s.homes; views = views' }
  views_to n s r owner' views' fit = record {
    log = r.log;
    owner = owner';
    tokens = r.tokens;
    one_slot = r.one_slot;
    sized = r.sized;
    fronts = λ j v got. (fit j v got).0;
    apart = λ j v got. (fit j v got).1;
    stands = r.stands;
    words_fit = r.words_fit;
    home = r.home;
    out = r.out;
  }

  map_all : (n : ℕ) (log : History D) (owner owner' : ℕ → ℕ) (tokens : Tokens) (j : ℕ) (v : SeatView D)
      → ((t : PlaceView D) → Agrees n log owner tokens j t → owner' t.place ≡ j)
      → EachOf (Agrees n log owner tokens j) v → EachOf (Agrees n log owner' tokens j) v
  map_all n log owner owner' tokens j (Places ts) f h =
      each_map (Agrees n log owner tokens j) (Agrees n log owner' tokens j)
      (λ t g. reowned n log owner owner' tokens j j t (f t g) g) ts h
  map_all n log owner owner' tokens j (Unopened m) f h = h
  map_all n log owner owner' tokens j (Opening m) f h = h

  pub splits_ok : (n id k : ℕ) (f : History D) (ts : List (PlaceView D)) → Without k ts
      → Splits (K n) id (Places (knows k f None ∷ ts)) (Places ts) (alone k f)
  splits_ok n id k f ts apart s kept at =
      let r = running n s kept id (knows k f None ∷ ts) at in let v : SeatView D = Places (knows k f None ∷ ts) in
      let fit = r.fronts id v at in
      let new : ℕ = length (set s.views id (Places ts)) in let owner' : ℕ → ℕ = given_to r.owner k new in
      runs (views_to n s r owner' (set s.views id (Places ts) ++ alone k f ∷ []) (λ j u got. ⊎_elim
      (λ (here : get_elem? (set s.views id (Places ts)) j ≡ some u). ⊎_elim
      (λ (t : (j ≡ id) × (Places ts ≡ u)). subst (λ (z : ℕ × SeatView D). Fits n r.log owner' r.tokens z.0 z.1)
      (λ i. (sym t.0 i, t.1 i)) (
        each_with (λ x. x.place ≢ k) (Agrees n r.log r.owner r.tokens id) (Agrees n r.log owner' r.tokens id)
            (λ x ne h. reowned n r.log r.owner owner' r.tokens id id x
            (given_else r.owner k new x.place ne ∙ h.owned) h) ts apart fit.1,
        (r.apart id v at).1,
      ))
      (λ (t : (j ≢ id) × (get_elem? s.views j ≡ some u)). (
        map_all n r.log r.owner owner' r.tokens j u
            (λ x h. given_else r.owner k new x.place
            (λ (same : x.place ≡ k). t.0 (sym h.owned ∙ (ap r.owner same ∙ fit.0.owned))) ∙ h.owned)
            (r.fronts j u t.1),
        r.apart j u t.1,
      ))
      (at_set s.views id j (Places ts) u here))
      (λ (t : (j ≡ new) × (alone k f ≡ u)). subst (λ (z : ℕ × SeatView D). Fits n r.log owner' r.tokens z.0 z.1)
      (λ i. (sym t.0 i, t.1 i)) (
        (reowned n r.log r.owner owner' r.tokens id new (knows k f None) (given_here r.owner k new) fit.0, tt),
        (tt, tt),
      ))
      (at_end (set s.views id (Places ts)) (alone k f) u j got)))

  -- the first place is split off
  pub deals_ok : (n id k m : ℕ) (f : History D) → 0 < m
      → Splits (K n) id (Places (all_know k m f)) (places_behind (Places (all_know k m f)))
      (first_place (Places (all_know k m f)))
  deals_ok n id k zero f more = absurd (omega arith)
  deals_ok n id k (suc m) f more = splits_ok n id k f (all_know (suc k) m f) (without k (suc k) m f (omega arith))

  pub joins_ok : (n id : ℕ) (ts : List (PlaceView D)) (other : ℕ) (us : List (PlaceView D))
      → Joins (K n) id (Places ts) other (Places us) (Places (us ++ ts)) no_places
  joins_ok n id ts other us s kept at apart there =
      let r = running n s kept id ts at in let v : SeatView D = Places ts in let w : SeatView D = Places us in
      let both : SeatView D = Places (us ++ ts) in
      let fit = r.fronts id v at in let owner' : ℕ → ℕ = handed r.owner other id in
      let was : get_elem? s.views other ≡ some w = sym (set_else s.views id other both apart) ∙ there in
      runs (views_to n s r owner' (set (set s.views id both) other no_places) (λ j u got. ⊎_elim
      (λ (t : (j ≡ other) × (no_places ≡ u)). subst (Fits n r.log owner' r.tokens j) t.1 (tt, tt))
      (λ (t : (j ≢ other) × (get_elem? (set s.views id both) j ≡ some u)). ⊎_elim
      (λ (q : (j ≡ id) × (both ≡ u)). subst (λ (z : ℕ × SeatView D). Fits n r.log owner' r.tokens z.0 z.1)
      (λ i. (sym q.0 i, q.1 i)) (
        each-append (Agrees n r.log owner' r.tokens id) us ts
            (each_map (Agrees n r.log r.owner r.tokens other) (Agrees n r.log owner' r.tokens id)
            (λ x h. reowned n r.log r.owner owner' r.tokens other id x
            (handed_here r.owner other id x.place h.owned) h) us
            (r.fronts other w was))
            (each_map (Agrees n r.log r.owner r.tokens id) (Agrees n r.log owner' r.tokens id)
            (λ x h. reowned n r.log r.owner owner' r.tokens id id x
            (handed_else r.owner other id x.place (λ (e : r.owner x.place ≡ other). apart (sym e ∙ h.owned))
            ∙ h.owned) h) ts fit),
        apart-append us ts (r.apart other w was) (r.apart id v at)
            (each_map (Agrees n r.log r.owner r.tokens other) (λ x. Without x.place ts)
            (λ x h. each_map (Agrees n r.log r.owner r.tokens id) (λ y. y.place ≢ x.place)
            (λ y g same. apart (sym h.owned ∙ (ap r.owner (sym same) ∙ g.owned))) ts fit) us (r.fronts other w was)),
      ))
      (λ (q : (j ≢ id) × (get_elem? s.views j ≡ some u)). (
        map_all n r.log r.owner owner' r.tokens j u
            (λ x h. handed_else r.owner other id x.place (λ (e : r.owner x.place ≡ other). t.0 (sym h.owned ∙ e))
            ∙ h.owned)
            (r.fronts j u q.1),
        r.apart j u q.1,
      ))
      (at_set s.views id j both u t.1))
      (at_set (set s.views id both) other j no_places u got)))

  knowing_agree : (n : ℕ) (log : History D) (owner : ℕ → ℕ) (tokens : Tokens) (j : ℕ) (ts : List (PlaceView D))
      → Each (Agrees n log owner tokens j) ts
      → Each (Agrees n log owner tokens j) (knowing log ts)
  knowing_agree n log owner tokens j [] h = tt
  knowing_agree n log owner tokens j (t ∷ ts) h = (
    record { below = h.0.below; owned = h.0.owned; begins = Begins-refl log; own_are = refl; token_is = h.0.token_is },
    knowing_agree n log owner tokens j ts h.1,
  )

  knowing_without : (k : ℕ) (log : History D) (ts : List (PlaceView D)) → Without k ts → Without k (knowing log ts)
  knowing_without k log [] h = tt
  knowing_without k log (t ∷ ts) h = (h.0, knowing_without k log ts h.1)

  knowing_apart : (log : History D) (ts : List (PlaceView D)) → Apart ts → Apart (knowing log ts)
  knowing_apart log [] h = tt
  knowing_apart log (t ∷ ts) h = (knowing_without t.place log ts h.0, knowing_apart log ts h.1)

  -- a load by which the places of a seat learn the whole log
  pub learns_at : (n slots id : ℕ) (ts : List (PlaceView D)) (st : Step (Option (Guarded D))) (m : SeatState D)
      → m ≡ (Places ts, []) → Allows (K n) slots id m 0 (λ r. r) (learns rest ready st m)
  learns_at n slots id ts st m is =
      subst (λ (p : SeatState D). Allows (K n) slots id p 0 (λ r. r) (learns rest ready st p)) (sym is) step_
    where
      stands_of : SeatView D → List (PlaceView D)
      stands_of (Places us) = us
      stands_of _ = []

      step_ : Allows (K n) slots id (Places ts, []) 0 (λ r. r) (learns rest ready st (Places ts, []))
      step_ s kept wide at small = let r = running n s kept id ts at in let w : SeatView D = Places (knowing r.log ts)
          in (
            w,
            keeps,
            tt,
            subst (λ (ws : List ℕ). K n record { words = ws; homes = s.homes; views = set s.views id w })
                (sym (set-get_or s.words 0 0)) (runs (views_to n s r r.owner (set s.views id w)
                (λ j u got. ⊎_elim
                (λ (t : (j ≡ id) × (w ≡ u)). subst (λ (z : ℕ × SeatView D). Fits n r.log r.owner r.tokens z.0 z.1)
                (λ i. (sym t.0 i, t.1 i)) (
                  knowing_agree n r.log r.owner r.tokens id ts (r.fronts id (Places ts) at),
                  knowing_apart r.log ts (r.apart id (Places ts) at),
                ))
                (λ (t : (j ≢ id) × (get_elem? s.views j ≡ some u)). (r.fronts j u t.1, r.apart j u t.1))
                (at_set s.views id j w u got)))),
            λ us same. (
              r.log,
              subst (λ (vs : List (PlaceView D)). Learns rest ready r.log vs (w, []))
                  (ap (λ (m : SeatState D). stands_of m.0) same)
                  (record {
                    me_is = refl;
                    stands = r.stands;
                    fits = each_map (Agrees n r.log r.owner r.tokens id) (Known r.log) (λ t h. (h.begins, h.own_are)) ts
                        (r.fronts id (Places ts) at);
                    apart = r.apart id (Places ts) at;
                  }),
            ),
          )
