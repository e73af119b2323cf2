-- Each step of a shelf keeps the rule.
use Rattle.std.proofs.Common.{◌≡◌, ◌≢◌, ⊎_elim, ℕ, zero, suc, ◌<◌, Bool, cond, eqb, List, [], ◌∷◌}
use Rattle.std.proofs.Common.{◌++◌, length, get_or, set, replicate, Option, Some, None, sym, refl, ap, ◌∙◌, subst}
use Rattle.std.proofs.Common.{arith, eq-eqb, ne_eqb}
use mathlib.Core.Logic.{dite}
use native.Mathlib.Decide.{ℕ_discrete}
use mathlib.Core.Option.{none, some, some-injective, some-ne-none}
use mathlib.Core.Option as maybe
use lib.ListN.{get_elem?}
use lib.Seq.{set-get_or}
use Rattle.atomic_table.specs.Table.{Step, Act, Valid, keeps, takes, gives, stepped, carried_after, opening, Allows, Splits}
use Rattle.atomic_table.proofs.Lists.{at_set, set_else, at_map}
use Rattle.shelf.specs.declared.view.Change.TheVariants.{Put, Take}
use Rattle.shelf.specs.declared.view.Role.{Role}
use Rattle.shelf.specs.declared.view.Role.TheVariants.{Keeps, Fetches, Lent, Puts, Done}
use Rattle.shelf.specs.declared.view.View.{View}
use Rattle.shelf.specs.Log.{Begins, Log, shelved, taken}
use Rattle.shelf.specs.Views.{Each, AreNumbers, seen, number_of, log_of, in_hand, numbers_below}
use Rattle.shelf.specs.Rule.{Cells, Spot, on_shelf, with_seat, out, word_of, home_of, shelved_of, Collects, Agrees}
use Rattle.shelf.specs.Rule.{ShelfInvariant, all_in_hand}
use Rattle.shelf.specs.Steps as step
use Rattle.shelf.specs.Steps.{SeatState, Moment, Missed, Found}
use Rattle.shelf.proofs.Lists.{at_end, set_over, found_at, at_replicate, each_map, each_with, numbers_are, begins_refl, begins_push}
use Rattle.shelf.proofs.Lists.{begins_trans, put_here, put_else, take_here, take_else, taken_put}

module _ {T : Type 0} where
  -- the things, with the thing k now at p
  abbrev placed : (ℕ → Spot T) → ℕ → Spot T → ℕ → Spot T
  placed spots k p j = cond (eqb j k) p (spots j)

  placed_here : (spots : ℕ → Spot T) (k : ℕ) (p : Spot T) → placed spots k p k ≡ p
  placed_here spots k p = ap (λ (b : Bool). cond b p (spots k)) (eq-eqb k k refl)

  placed_else : (spots : ℕ → Spot T) (k : ℕ) (p : Spot T) (j : ℕ) → j ≢ k → placed spots k p j ≡ spots j
  placed_else spots k p j other = ap (λ (b : Bool). cond b p (spots j)) (ne_eqb j k other)

  -- what holds of the thing k at p, and of the others where they were
  placed_all : (P : ℕ → Spot T → Type 0) (spots : ℕ → Spot T) (k : ℕ) (p : Spot T) (j : ℕ) → (j ≡ k → P j p)
      → (j ≢ k → P j (spots j)) → P j (placed spots k p j)
  placed_all P spots k p j here else_ = dite (ℕ_discrete j k)
      (λ same. subst (P j) (sym (ap (λ (b : Bool). cond b p (spots j)) (eq-eqb j k same))) (here same))
      (λ other. subst (P j) (sym (placed_else spots k p j other)) (else_ other))

  -- the seat of a thing that isn't on the shelf
  abbrev seat_of : Spot T → ℕ
  seat_of (on_shelf x) = 0
  seat_of (with_seat j) = j
  seat_of (out j) = j

  -- the thing isn't with the seat j
  abbrev NotWith : Spot T → ℕ → Type 0
  NotWith p j = (p ≢ with_seat j) × (p ≢ out j)

  not_with_out : (p : Spot T) (id j : ℕ) → p ≡ out id → j ≢ id → NotWith p j
  not_with_out p id j is other = (
    (λ same. let never : ◌≡◌ {A = Spot T} (out id) (with_seat j) = sym is ∙ same in absurd (cc)),
    (λ same. other (sym (ap seat_of (sym is ∙ same)))),
  )

  not_with_seat : (p : Spot T) (id j : ℕ) → p ≡ with_seat id → j ≢ id → NotWith p j
  not_with_seat p id j is other = (
    (λ same. other (sym (ap seat_of (sym is ∙ same)))),
    (λ same. let never : ◌≡◌ {A = Spot T} (with_seat id) (out j) = sym is ∙ same in absurd (cc)),
  )

  not_with_shelf : (p : Spot T) (x : T) (j : ℕ) → p ≡ on_shelf x → NotWith p j
  not_with_shelf p x j is = (
    (λ same. let never : on_shelf x ≡ with_seat j = sym is ∙ same in absurd (cc)),
    (λ same. let never : on_shelf x ≡ out j = sym is ∙ same in absurd (cc)),
  )

  module _ (n : ℕ) where
    -- if the thing k moves, and isn't with the seat j, that seat still agrees
    kept_by : (log log' : Log T) (spots : ℕ → Spot T) (k : ℕ) (p : Spot T) (j : ℕ) (role : Role T)
        → NotWith (spots k) j → Begins log log' → (j ≡ 0 → taken log' ≡ taken log)
        → Agrees n log spots j role → Agrees n log' (placed spots k p) j role
    kept_by log log' spots k p j role apart grew took agrees = by role agrees
      where
        moved : (i : ℕ) (q : Spot T) → (spots k ≢ q) → spots i ≡ q → placed spots k p i ≡ q
        moved i q away is = placed_else spots k p i (λ same. away (ap spots (sym same) ∙ is)) ∙ is

        keeps_on : (known : Log T) (ks : List ℕ) → Collects n log spots j known ks
            → Collects n log' (placed spots k p) j known ks
        keeps_on known ks h = record {
          first = h.first;
          begins = begins_trans h.begins grew;
          takings = took h.first ∙ h.takings;
          numbers = h.numbers;
          in_hand =
              each_map (λ i. spots i ≡ with_seat 0) (λ i. placed spots k p i ≡ with_seat 0)
              (λ i is. moved i (with_seat 0) (λ same. apart.0 (same ∙ ap (λ (m : ℕ). with_seat m) (sym h.first))) is)
              ks h.in_hand;
        }

        by : (r : Role T) → Agrees n log spots j r → Agrees n log' (placed spots k p) j r
        by (Keeps known ks) h = keeps_on known ks h
        by (Fetches known ks i) h = (keeps_on known ks h.0, h.1, moved i (out j) apart.1 h.2)
        by (Lent i) h = (h.0, moved i (with_seat j) apart.0 h.1)
        by (Puts i) h = (h.0, moved i (out j) apart.1 h.1)
        by Done h = tt

    -- numbers of things that are elsewhere than the thing k
    others : (spots : ℕ → Spot T) (k : ℕ) (ks : List ℕ) → (spots k ≢ with_seat 0)
        → Each (λ j. spots j ≡ with_seat 0) ks → Each (λ j. j ≢ k) ks
    others spots k ks away =
        each_map (λ j. spots j ≡ with_seat 0) (λ j. j ≢ k) (λ j is same. away (ap spots (sym same) ∙ is)) ks

module _ {T G : Type 0} (tag : G) (n : ℕ) (Fits : ℕ → T → Type 0) where
  abbrev K : Cells T G → Type 0
  K = ShelfInvariant tag n Fits

  -- the thing k moves to p by a step of the seat, which knew where it was
  changes : (s : Cells T G) (r : K s) (id k : ℕ) (v : View T G) (role : Role T) (p : Spot T) (log' : Log T)
      → get_elem? s.views id ≡ some v → k < n
      → ((j : ℕ) → j ≢ id → NotWith (r.spots k) j)
      → Begins r.log log' → (id ≢ 0 → taken log' ≡ taken r.log)
      → ((j : ℕ) → j ≢ k → shelved j log' ≡ shelved j r.log) → shelved k log' ≡ shelved_of p
      → ((x : T) → p ≡ on_shelf x → Fits k x) → Agrees n log' (placed r.spots k p) id role
      → K record {
        words = set s.words k (word_of p);
        homes = set s.homes k (home_of p);
        views = set s.views id (seen v.tag role);
      }
  changes s r id k v role p log' at below apart grew took logged here fits own = record {
    log = log';
    spots = spots';
    words = λ j less. cells s.words word_of r.words j less;
    homes = λ j less. cells s.homes home_of r.homes j less;
    logged = λ j less. placed_all (λ i q. shelved i log' ≡ shelved_of q) r.spots k p j
        (λ same. subst (λ (i : ℕ). shelved i log' ≡ shelved_of p) (sym same) here)
        (λ other. logged j other ∙ r.logged j less);
    fits = λ j x less. placed_all (λ i q. q ≡ on_shelf x → Fits i x) r.spots k p j
        (λ same is. subst (λ (i : ℕ). Fits i x) (sym same) (fits x is))
        (λ other. r.fits j x less);
    agrees = λ j u got. ⊎_elim
        (λ (t : (j ≡ id) × (seen v.tag role ≡ u)).
        subst (λ (z : ℕ × View T G). (z.1.tag ≡ tag) × Agrees n log' spots' z.0 z.1.role)
        (λ i. (sym t.0 i, t.1 i)) ((r.agrees id v at).0, own))
        (λ (t : (j ≢ id) × (get_elem? s.views j ≡ some u)). let a = r.agrees j u t.1 in (
          a.0,
          kept_by n r.log log' r.spots k p j u.role (apart j t.0) grew
              (λ first. took (λ (none_ : id ≡ 0). t.0 (first ∙ sym none_))) a.1,
        ))
        (at_set s.views id j (seen v.tag role) u got);
  }
    where
      spots' : ℕ → Spot T
      spots' = placed r.spots k p

      cells : {A : Type 0} (l : List A) (f : Spot T → A) → ((j : ℕ) → j < n → get_elem? l j ≡ some (f (r.spots j)))
          → (j : ℕ) → j < n → get_elem? (set l k (f p)) j ≡ some (f (spots' j))
      cells {A = A} l f are j less = placed_all (λ i q. get_elem? (set l k (f p)) i ≡ some (f q)) r.spots k p j
          (λ same. subst (λ (i : ℕ). get_elem? (set l k (f p)) i ≡ some (f p)) (sym same)
          (set_over l k (f (r.spots k)) (f p) (are k below)))
          (λ other. set_else l k j (f p) other ∙ are j less)

  -- what the word k is
  word_is : (s : Cells T G) (r : K s) (k : ℕ) (p : Spot T) → k < n → r.spots k ≡ p → get_or s.words k 0 ≡ word_of p
  word_is s r k p below is = found_at s.words k _ 0 (r.words k below ∙ ap (λ (q : Spot T). some (word_of q)) is)

  pub reserves_ok : (slots id k : ℕ) (tag' : G) (st : Step (Option T))
      → Allows K slots id (seen tag' (Lent k), []) k (λ w. w) (step.reserves st (seen tag' (Lent k), []))
  reserves_ok slots id k tag' st s r wide at small =
      let v : View T G = seen tag' (Lent k) in
      let a = (r.agrees id v at).1 in (
        seen tag' (Puts k),
        takes k None,
        r.homes k a.0 ∙ ap (λ (q : Spot T). some (home_of q)) a.1,
        subst (λ (w : ℕ). K record {
          words = set s.words k w;
          homes = set s.homes k none;
          views = set s.views id (seen tag' (Puts k));
        }) (sym (word_is s r k (with_seat id) a.0 a.1))
            (changes s r id k v (Puts k) (out id) r.log at a.0 (λ j. not_with_seat (r.spots k) id j a.1)
            (begins_refl r.log) (λ _. refl) (λ j other. refl) (r.logged k a.0 ∙ ap shelved_of a.1)
            (λ x is. absurd (cc)) (a.0, placed_here r.spots k (out id))),
        λ tag'' k' is.
            let t : tag' ≡ tag'' = ap (λ (m : SeatState T G). m.0.tag) is in
            let q : k ≡ k' = ap (λ (m : SeatState T G). number_of m.0.role) is in
            λ i. (seen (t i) (Puts (q i)), (q i, None) ∷ []),
      )

  pub puts_ok : (slots id k : ℕ) (tag' : G) (x : T) (st : Step (Option T)) → Fits k x
      → Allows K slots id (seen tag' (Puts k), (k, Some x) ∷ []) k (λ _. 2)
      (λ _. step.puts st (seen tag' (Puts k), (k, Some x) ∷ []) 2)
  puts_ok slots id k tag' x st fit s r wide at small =
      let v : View T G = seen tag' (Puts k) in
      let a = (r.agrees id v at).1 in (
        seen tag' Done,
        gives,
        tt,
        changes s r id k v Done (on_shelf x) (r.log ++ Put k x ∷ []) at a.0
            (λ j. not_with_out (r.spots k) id j a.1) (begins_push r.log (Put k x)) (λ _. taken_put k x r.log)
            (λ j. put_else k j x r.log) (put_here k x r.log)
            (λ y is. subst (Fits k) (ap (thing_or x) is) fit) tt,
        λ tag'' k' y is. λ i. (seen (is i).0.tag Done, []),
      )
    where
      thing_or : T → Spot T → T
      thing_or d (on_shelf y) = y
      thing_or d q = d

  -- the collector's numbers, with one more thing that isn't with it
  one_more : (spots : ℕ → Spot T) (k : ℕ) (log known : Log T) (id : ℕ) (ks : List ℕ) → k < n
      → (spots k ≢ with_seat 0) → Collects n log spots id known ks → AreNumbers n (k ∷ ks)
  one_more spots k log known id ks below away h = (
    (below, h.numbers.0),
    (others n spots k ks away h.in_hand, h.numbers.1),
  )

  -- the views and the spots if each word, each slot and the log are as they were
  views_to : (s : Cells T G) (r : K s) (spots' : ℕ → Spot T) (views' : List (View T G))
      → ((j : ℕ) → (word_of (r.spots j) ≡ word_of (spots' j)) × (home_of (r.spots j) ≡ home_of (spots' j))
      × (shelved_of (r.spots j) ≡ shelved_of (spots' j))
      × ((x : T) → spots' j ≡ on_shelf x → r.spots j ≡ on_shelf x))
      → ((j : ℕ) (v : View T G) → get_elem? views' j ≡ some v → (v.tag ≡ tag) × Agrees n r.log spots' j v.role)
      → K record { words = s.words; homes = s.homes; views = views' }
  views_to s r spots' views' same agree = record {
    log = r.log;
    spots = spots';
    words = λ j less. r.words j less ∙ ap some (same j).0;
    homes = λ j less. r.homes j less ∙ ap some (same j).1;
    logged = λ j less. r.logged j less ∙ (same j).2;
    fits = λ j x less is. r.fits j x less ((same j).3 x is);
    agrees = agree;
  }

  alike : (p : Spot T) → (word_of p ≡ word_of p) × (home_of p ≡ home_of p) × (shelved_of p ≡ shelved_of p)
      × ((x : T) → p ≡ on_shelf x → p ≡ on_shelf x)
  alike p = (refl, refl, refl, λ x is. is)

  -- the collector learns the log
  learns : (s : Cells T G) (r : K s) (id : ℕ) (tag' : G) (known : Log T) (ks : List ℕ)
      → get_elem? s.views id ≡ some (seen tag' (Keeps known ks))
      → K record { words = s.words; homes = s.homes; views = set s.views id (seen tag' (Keeps r.log ks)) }
  learns s r id tag' known ks at =
      let a = r.agrees id (seen tag' (Keeps known ks)) at in
      views_to s r r.spots (set s.views id (seen tag' (Keeps r.log ks))) (λ j. alike (r.spots j)) (λ j u got. ⊎_elim
      (λ (t : (j ≡ id) × (seen tag' (Keeps r.log ks) ≡ u)).
      subst (λ (z : ℕ × View T G). (z.1.tag ≡ tag) × Agrees n r.log r.spots z.0 z.1.role) (λ i. (sym t.0 i, t.1 i)) (
        a.0,
        record {
          first = a.1.first;
          begins = begins_refl r.log;
          takings = refl;
          numbers = a.1.numbers;
          in_hand = a.1.in_hand;
        },
      ))
      (λ (t : (j ≢ id) × (get_elem? s.views j ≡ some u)). r.agrees j u t.1)
      (at_set s.views id j (seen tag' (Keeps r.log ks)) u got))

  pub takes_ok : (FitsBy : G → ℕ → T → Type 0) → ((k : ℕ) (x : T) → Fits k x → FitsBy tag k x) → (slots id k a b : ℕ)
      (said : maybe.Option (Option T)) (tag' : G)
      (known : Log T) (ks : List ℕ) → k < n → slots ≡ n
      → Allows K slots id (seen tag' (Keeps known ks), []) k (λ _. 1)
      (step.takes FitsBy (record { slots = slots; word = k; first = a; second = b; said = said })
      (seen tag' (Keeps known ks), []))
  takes_ok FitsBy as_ slots id k a b said tag' known ks below sized s r wide at small = by (r.spots k) refl
    where
      st : Step (Option T)
      st = record { slots = slots; word = k; first = a; second = b; said = said }

      me : SeatState T G
      me = (seen tag' (Keeps known ks), [])

      v : View T G
      v = seen tag' (Keeps known ks)

      of : (tag' ≡ tag) × Collects n r.log r.spots id known ks
      of = r.agrees id v at

      moment : Moment known r.log
      moment = record { begins = of.1.begins; takings = of.1.takings }

      Result : Type 0
      Result = (w : View T G) × (x : Act (Option T)) × Valid s.homes [] x
          × K (stepped s k 1 id [] w x)
          × step.takes FitsBy st me (get_or s.words k 0) (w, carried_after [] x)

      tag_is : (t : G) (l : Log T) (js : List ℕ) → ◌≡◌ {A = SeatState T G} me (seen t (Keeps l js), []) → tag' ≡ t
      tag_is t l js is = ap (λ (m : SeatState T G). m.0.tag) is

      missed : (p : Spot T) → r.spots k ≡ p → word_of p ≡ 1 → shelved_of p ≡ None → Result
      missed p is one none_ =
          let one_ : get_or s.words k 0 ≡ 1 = word_is s r k p below is ∙ one in (
            seen tag' (Keeps r.log ks),
            keeps,
            tt,
            subst (λ (ws : List ℕ). K record {
              words = ws;
              homes = s.homes;
              views = set s.views id (seen tag' (Keeps r.log ks));
            })
                (sym (ap (λ (w : ℕ). set s.words k w) (sym one_) ∙ set-get_or s.words k 0))
                (learns s r id tag' known ks at),
            λ t l js same.
                let ts = tag_is t l js same in
                let ls : known ≡ l = ap (λ (m : SeatState T G). log_of m.0.role) same in
                let ks_ : ks ≡ js = ap (λ (m : SeatState T G). in_hand m.0.role) same in (
                  (λ _. record {
                    log = r.log;
                    moment = subst (λ (o : Log T). Moment o r.log) ls moment;
                    absent = r.logged k below ∙ ap shelved_of is ∙ none_;
                    is = λ i. (seen (ts i) (Keeps r.log (ks_ i)), []);
                  }),
                  (λ other. absurd (other one_)),
                ),
          )

      found : (x : T) → r.spots k ≡ on_shelf x → Result
      found x is =
          let two : get_or s.words k 0 ≡ 2 = word_is s r k (on_shelf x) below is in
          let away : r.spots k ≢ with_seat 0 =
          (λ same. let never : on_shelf x ≡ with_seat 0 = sym is ∙ same in absurd (cc)) in
          let log' : Log T = r.log ++ Take k ∷ [] in
          let fit : FitsBy tag k x = as_ k x (r.fits k x below is) in
          let numbers = one_more r.spots k r.log known id ks below away of.1 in (
            seen tag' (Fetches log' ks k),
            takes k (Some x),
            r.homes k below ∙ ap (λ (q : Spot T). some (home_of q)) is,
            changes s r id k v (Fetches log' ks k) (out id) log' at below (λ j _. not_with_shelf (r.spots k) x j is)
                (begins_push r.log (Take k)) (λ other. absurd (other of.1.first))
                (λ j. take_else k j r.log) (take_here k r.log) (λ y never. absurd (cc)) (
                  record {
                    first = of.1.first;
                    begins = begins_refl log';
                    takings = refl;
                    numbers = of.1.numbers;
                    in_hand =
                        each_with (λ j. j ≢ k) (λ j. r.spots j ≡ with_seat 0)
                        (λ j. placed r.spots k (out id) j ≡ with_seat 0)
                        (λ j other with_it. placed_else r.spots k (out id) j other ∙ with_it) ks numbers.1.0 of.1.in_hand;
                  },
                  below,
                  placed_here r.spots k (out id),
                ),
            λ t l js same.
                let ts = tag_is t l js same in
                let ls : known ≡ l = ap (λ (m : SeatState T G). log_of m.0.role) same in
                let ks_ : ks ≡ js = ap (λ (m : SeatState T G). in_hand m.0.role) same in (
                  (λ one. let never : 2 ≡ 1 = sym two ∙ one in absurd (omega (arith, never))),
                  (λ _. record {
                    log = r.log;
                    moment = subst (λ (o : Log T). Moment o r.log) ls moment;
                    thing = x;
                    present = r.logged k below ∙ ap shelved_of is;
                    fits = subst (λ (g : G). FitsBy g k x) (sym of.0 ∙ ts) fit;
                    numbers =
                        subst (λ (z : ℕ × List ℕ). AreNumbers z.0 (k ∷ z.1)) (λ i. (sym sized i, ks_ i)) numbers;
                    is = λ i. (seen (ts i) (Fetches log' (ks_ i) k), (k, Some x) ∷ []);
                  }),
                ),
          )

      by : (p : Spot T) → r.spots k ≡ p → Result
      by (on_shelf x) is = found x is
      by (with_seat j) is = missed (with_seat j) is refl refl
      by (out j) is = missed (out j) is refl refl

  pub restores_ok : (slots id k : ℕ) (tag' : G) (known : Log T) (ks : List ℕ) (st : Step (Option T))
      → Allows K slots id (seen tag' (Fetches known ks k), (k, None) ∷ []) k (λ w. w)
      (step.restores st (seen tag' (Fetches known ks k), (k, None) ∷ []))
  restores_ok slots id k tag' known ks st s r wide at small =
      let v : View T G = seen tag' (Fetches known ks k) in
      let a = (r.agrees id v at).1 in
      let first = a.0.first in
      let away : r.spots k ≢ with_seat 0 =
      (λ same. let never : ◌≡◌ {A = Spot T} (out id) (with_seat 0) = sym a.2 ∙ same in absurd (cc)) in
      let numbers = one_more r.spots k r.log known id ks a.1 away a.0 in
      let p : Spot T = with_seat 0 in (
        seen tag' (Keeps known (k ∷ ks)),
        gives,
        tt,
        subst (λ (w : ℕ). K record {
          words = set s.words k w;
          homes = set s.homes k (some None);
          views = set s.views id (seen tag' (Keeps known (k ∷ ks)));
        }) (sym (word_is s r k (out id) a.1 a.2))
            (changes s r id k v (Keeps known (k ∷ ks)) p r.log at a.1 (λ j. not_with_out (r.spots k) id j a.2)
            (begins_refl r.log) (λ _. refl) (λ j other. refl) (r.logged k a.1 ∙ ap shelved_of a.2)
            (λ x is. absurd (cc))
            (record {
              first = first;
              begins = a.0.begins;
              takings = a.0.takings;
              numbers = numbers;
              in_hand = (
                placed_here r.spots k p,
                each_with (λ j. j ≢ k) (λ j. r.spots j ≡ with_seat 0) (λ j. placed r.spots k p j ≡ with_seat 0)
                    (λ j other with_it. placed_else r.spots k p j other ∙ with_it) ks numbers.1.0 a.0.in_hand,
              );
            })),
        λ t l js k' same.
            let ts : tag' ≡ t = ap (λ (m : SeatState T G). m.0.tag) same in
            let ls : known ≡ l = ap (λ (m : SeatState T G). log_of m.0.role) same in
            let ks_ : ks ≡ js = ap (λ (m : SeatState T G). in_hand m.0.role) same in
            let q : k ≡ k' = ap (λ (m : SeatState T G). last_of m.0.role) same in
            λ i. (seen (ts i) (Keeps (ls i) (q i ∷ ks_ i)), []),
      )
    where
      last_of : Role T → ℕ
      last_of (Fetches l js j) = j
      last_of _ = 0

  pub splits_ok : (id : ℕ) (tag' : G) (known : Log T) (k : ℕ) (ks : List ℕ)
      → Splits K id (seen tag' (Keeps known (k ∷ ks))) (seen tag' (Keeps known ks)) (seen tag' (Lent k))
  splits_ok id tag' known k ks s r at =
      let v : View T G = seen tag' (Keeps known (k ∷ ks)) in
      let left : View T G = seen tag' (Keeps known ks) in
      let right : View T G = seen tag' (Lent k) in
      let a = r.agrees id v at in
      let new : ℕ = length (set s.views id left) in
      let p : Spot T = with_seat new in
      let spots' : ℕ → Spot T = placed r.spots k p in
      let was : r.spots k ≡ with_seat id = a.1.in_hand.0 ∙ ap (λ (j : ℕ). with_seat j) (sym a.1.first) in
      let tagged = (λ (j : ℕ) (u : View T G). (u.tag ≡ tag) × Agrees n r.log spots' j u.role) in
      views_to s r spots' (set s.views id left ++ right ∷ [])
      (λ j. placed_all (λ i q. (word_of (r.spots i) ≡ word_of q) × (home_of (r.spots i) ≡ home_of q)
      × (shelved_of (r.spots i) ≡ shelved_of q) × ((x : T) → q ≡ on_shelf x → r.spots i ≡ on_shelf x)) r.spots k p j
      (λ same. let is : r.spots j ≡ with_seat id = ap r.spots same ∙ was in
      (ap word_of is, ap home_of is, ap shelved_of is, λ x never. absurd (cc)))
      (λ other. alike (r.spots j)))
      (λ j u got. ⊎_elim
      (λ (here : get_elem? (set s.views id left) j ≡ some u). ⊎_elim
      (λ (t : (j ≡ id) × (left ≡ u)). subst (λ (z : ℕ × View T G). tagged z.0 z.1) (λ i. (sym t.0 i, t.1 i)) (
        a.0,
        record {
          first = a.1.first;
          begins = a.1.begins;
          takings = a.1.takings;
          numbers = (a.1.numbers.0.1, a.1.numbers.1.1);
          in_hand =
              each_with (λ i. i ≢ k) (λ i. r.spots i ≡ with_seat 0) (λ i. spots' i ≡ with_seat 0)
              (λ i other with_it. placed_else r.spots k p i other ∙ with_it) ks a.1.numbers.1.0 a.1.in_hand.1;
        },
      ))
      (λ (t : (j ≢ id) × (get_elem? s.views j ≡ some u)). let b = r.agrees j u t.1 in (
        b.0,
        kept_by n r.log r.log r.spots k p j u.role (not_with_seat (r.spots k) id j was t.0) (begins_refl r.log)
            (λ _. refl) b.1,
      ))
      (at_set s.views id j left u here))
      (λ (t : (j ≡ new) × (right ≡ u)). subst (λ (z : ℕ × View T G). tagged z.0 z.1) (λ i. (sym t.0 i, t.1 i))
      (a.0, (a.1.numbers.0.0, placed_here r.spots k p)))
      (at_end (set s.views id left) right u j got))

  -- an empty shelf: the collector has all things in hand
  pub opens_ok : K (opening (replicate n 1) (replicate n None) (all_in_hand tag n))
  opens_ok = record {
    log = [];
    spots = λ _. with_seat 0;
    words = λ k less. at_replicate n k 1 less;
    homes = λ k less. at_map some (replicate n None) k None (at_replicate n k None less);
    logged = λ k less. refl;
    fits = λ k x less never. absurd (cc);
    agrees = only;
  }
    where
      all : (ks : List ℕ) → Each (λ k. ◌≡◌ {A = Spot T} (with_seat 0) (with_seat 0)) ks
      all [] = tt
      all (k ∷ ks) = (refl, all ks)

      only : (j : ℕ) (u : View T G) → get_elem? (all_in_hand tag n ∷ []) j ≡ some u
          → (u.tag ≡ tag) × Agrees n [] (λ _. with_seat 0) j u.role
      only zero u got =
          subst (λ (w : View T G). (w.tag ≡ tag) × Agrees n [] (λ _. with_seat 0) 0 w.role)
          (some-injective (all_in_hand tag n) u got) (
            refl,
            record {
              first = refl;
              begins = begins_refl [];
              takings = refl;
              numbers = numbers_are n;
              in_hand = all (numbers_below n);
            },
          )
      only (suc j) u got = absurd (some-ne-none u (sym got))
