-- A step by which a place has another token and learns the whole log.
use Rattle.std.proofs.Common.{◌≡◌, ◌≢◌, ⊎_elim, ℕ, ◌<◌, List, [], ◌∷◌, Bool, get_or, set, Option, refl, sym, ap, ◌∙◌}
use Rattle.std.proofs.Common.{subst}
use mathlib.Core.Option.{some}
use lib.ListN.{get_elem?}
use Rattle.atomic_table.specs.Table.{keeps, Allows}
use Rattle.atomic_table.proofs.Lists.{at_set}
use Rattle.hoare_law.specs.declared.event.History.{History}
use Rattle.hoare_law.specs.declared.event.Sizes.{Sizes}
use Rattle.hoare_law.specs.Sizes.{Kinds}
use Rattle.hoare_law.specs.Events.{own}
use Rattle.hoare_law.specs.Lawful.{Rest, Ready}
use Rattle.hoare_law.proofs.Growth.{Begins-refl}
use Rattle.door_frame.specs.declared.view.Token.{Token}
use Rattle.door_frame.specs.declared.view.SeatView.{SeatView}
use Rattle.door_frame.specs.declared.view.SeatView.TheVariants.{Unopened, Opening, Places}
use Rattle.door_frame.specs.Rule.{Tokens, Agrees, TableInvariant, runs}
use Rattle.door_frame.specs.Steps.{Learns}
use Rattle.door_frame.specs.Views.{knows, sole, EachOf, ApartOf}
use Rattle.door_frame.proofs.Views.{each_map}
use Rattle.door_frame.proofs.Steps.{running}

module _ {D : Type 0} where
  -- the places of another seat keep their tokens
  keep_tokens : (n : ℕ) (log : History D) (owner : ℕ → ℕ) (tokens tokens' : Tokens) (id j k : ℕ) (v : SeatView D)
      → owner k ≡ id → j ≢ id → ((i : ℕ) → i ≢ k → tokens' i ≡ tokens i)
      → EachOf (Agrees n log owner tokens j) v → EachOf (Agrees n log owner tokens' j) v
  keep_tokens n log owner tokens tokens' id j k (Places ts) mine other same h =
      each_map (Agrees n log owner tokens j) (Agrees n log owner tokens' j)
      (λ t a. record {
        below = a.below;
        owned = a.owned;
        begins = a.begins;
        own_are = a.own_are;
        token_is = same t.place (λ (is : t.place ≡ k). other (sym a.owned ∙ (ap owner is ∙ mine))) ∙ a.token_is;
      }) ts h
  keep_tokens n log owner tokens tokens' id j k (Unopened m) mine other same h = h
  keep_tokens n log owner tokens tokens' id j k (Opening m) mine other same h = h

module _ {D : Type 0} (Initial : Bool → List ℕ → Type 0) (WordsFit : History D → Tokens → List ℕ
    → Type 0) (rest : Rest D)
    (ready : Ready D) (kinds : Kinds) where
  -- `draws_ok` of the frame, for a place that also learns the log
  pub draws_and_learns : (n slots id k i : ℕ) (f : History D) (o : Option Token) (g : ℕ → ℕ)
      (Then : History D → Option Token → ℕ → Type 0)
      → ((log : History D) (tokens : Tokens) (ws : List ℕ) → log.sizes.places ≡ n → k < n
      → own k log.events ≡ own k f.events → tokens k ≡ o
      → WordsFit log tokens ws → (o' : Option Token) × (tokens' : Tokens) × (tokens' k ≡ o')
      × ((j : ℕ) → j ≢ k → tokens' j ≡ tokens j) × WordsFit log tokens' (set ws i (g (get_or ws i 0)))
      × Then log o' (get_or ws i 0))
      → Allows (TableInvariant Initial WordsFit rest ready kinds n) slots id (sole k f o, []) i g
      (λ r m'. (log : History D) × (o' : Option Token) × Learns rest ready log (knows k f o' ∷ []) m' × Then log o' r)
  draws_and_learns n slots id k i f o g Then step_ s kept wide at small =
      let r = running Initial WordsFit rest ready kinds n s kept id (knows k f o ∷ []) at in
      let fit = (r.fronts id (sole k f o) at).0 in
      let d = step_ r.log r.tokens s.words (ap (λ (m : Sizes). m.places) r.sized) fit.below fit.own_are fit.token_is
      r.words_fit in
      let w : SeatView D = sole k r.log d.0 in (
        w,
        keeps,
        tt,
        runs (record {
          log = r.log;
          owner = r.owner;
          tokens = d.1;
          one_slot = r.one_slot;
          sized = r.sized;
          fronts = λ j v got. ⊎_elim
              (λ (t : (j ≡ id) × (w ≡ v)). subst (λ (z : ℕ × SeatView D). EachOf (Agrees n r.log r.owner d.1 z.0) z.1)
              (λ i. (sym t.0 i, t.1 i)) (
                record {
                  below = fit.below;
                  owned = fit.owned;
                  begins = Begins-refl r.log;
                  own_are = refl;
                  token_is = d.2;
                },
                tt,
              ))
              (λ (t : (j ≢ id) × (get_elem? s.views j ≡ some v)).
              keep_tokens n r.log r.owner r.tokens d.1 id j k v fit.owned t.0 d.3 (r.fronts j v t.1))
              (at_set s.views id j w v got);
          apart = λ j v got. ⊎_elim
              (λ (t : (j ≡ id) × (w ≡ v)). subst ApartOf t.1 (tt, tt))
              (λ (t : (j ≢ id) × (get_elem? s.views j ≡ some v)). r.apart j v t.1)
              (at_set s.views id j w v got);
          stands = r.stands;
          words_fit = d.4;
          home = r.home;
          out = r.out;
        }),
        (
          r.log,
          d.0,
          record { me_is = refl; stands = r.stands; fits = ((fit.begins, fit.own_are), tt); apart = (tt, tt) },
          d.5,
        ),
      )
