-- `held` lends the same words under the other name: both types own the same and have the same layout in memory.
use Rattle.std.proofs.Common.{[], ◌∷◌, refl}
use mir.Syntax.{named}
use mir.Val.{vptr}
use base.Logic.{ent, sep, id⊢, fst∗}
use base.Fml.{GName, ftrue, flft}
use types.Logic.{sem}
use types.Kit.{‵, ◌⊛◌, some, later, at_ret, ◌$◌, ◌∵◌, !, qed, done, move, keep, drop, use1, split, split3, join}
use types.Kit.{fsplit3, fjoin, frame, group, pick, await, suffices}
use types.Mut.{open_ref}
use types.Run.{stop, addr, of_opd, first, blocks, exec, returns, enter}
use types.ByLocal.{alloc_all, pass_all, free_all, look_at, get, through, sets, sets_last, env}
use contract.Running.{tables}
use denote.Exit.{no}
use denote.Follow.{follows, lends_Part}
use denote.Memory.{mem, part_of}
use denote.RattleType.{RattleType}
use denote.Ref.{MutRef, mut_vals, mut_Tells}
use denote.Signature.{plain, mut_ref_to}
use denote.Steps.{nothing}
use denote.Triple.Walked.{Stays, says, stay_dropped, walk_of, ends_at, Goes-spent_ref}
use Rattle.core.proofs.alloc.Shapes.{after}
use Rattle.std.proofs.raw_atomic.Walks.{proved}
use Rattle.c_handle.specs.contracts.held.Held as generic
use Rattle.book_c.specs.contracts.legal_book.LegalBook as books
use Rattle.book_c.specs.Words.{of_c, to_c}
use Rattle.book_c.specs.contracts.place.Held.{the_row as Words}
use Rattle.book_c.specs.contracts.place.Held.held as f
use Rattle.book_c.specs.contracts.place.Held.held.Key.{name as #self}
use Rattle.book_c.proofs.place.Held.held.Statement.{statement}
use Rattle.book_c.proofs.place.Held.held.Code as code

abbrev G : RattleType
G = generic.the_row books.the_row

pub held_spec : {M : Type 1} → statement M
unfolding part_of
held_spec 𝓤 𝓛 𝓜 𝓡 wired =
    let En = f.ended in let c = f.clauses 𝓛 𝓜.mem 𝓡.returns in let 𝓣 = tables 𝓤 𝓛.H 𝓜 𝓡 𝓡.env in
    let fn = code.function in
    let hs : Stays En.signature.params En.kept = (stay_dropped (mut_ref_to (0 ∷ []) tt (plain (λ _. Words))) no, tt) in
    proved 𝓛 En hs c 𝓜 𝓡 (Goes-spent_ref 𝓛 1 (0 ∷ []) tt (plain (λ _. Words)), tt) #self fn
    (code.unfolded 𝓤 𝓛.H 𝓜 𝓡 wired)
    (λ κs. (mut_vals, tt)) (λ κs. (mut_Tells (named 0) κs.0 Words, tt)) (λ κs qs bounds a gh are.
    let κ = κs.0 in let q = qs.0 in let b = a.0.ref_ptr.0 in let o = a.0.ref_ptr.1 in let γ = a.0.ghost_name in
    let d = a.0.now in let vs = mut_vals a.0 in let W = walk_of 𝓛 En hs c in
    let y : W.Ghost = ((κs, qs, bounds, a, (vs, tt)), gh) in
    let back : (w : G.Denot) → ent 𝓤 (sep 𝓤 (sem 𝓛 ((mem G).own_at w b o)) (sem 𝓛 ftrue))
    (sem 𝓛 ((mem Words).own_at (to_c w) b o)) =
    λ w. fst∗ 𝓤 (sem 𝓛 ((mem G).own_at w b o)) (sem 𝓛 ftrue) in
    let got : GName → (MutRef (named 0) κ G).Denot = λ δ. record { ref_ptr = (b, o); ghost_name = δ; now = of_c d } in
    qed 𝓛 (((‵ (flft κ q) ⊛ ‵ ftrue) ⊛ ‵ ((MutRef (named 0) κ Words).own_val a.0 vs) ⊛ ‵ ftrue) ∷ ‵ ftrue ∷ []) ∵
    split ! $ split ! $ move ! (2 ∷ []) $ split ! $ keep ! (0 ∷ 2 ∷ []) $ fsplit3 ! $ drop ! $
    enter ! 𝓣.C 𝓣.Λ fn (vptr b o ∷ []) _ $ alloc_all ! (λ l. pass_all ! refl ((tt, tt), tt) $ let Ev = env fn.locals
    l in
    open_ref ! tt (mem Words) {x = d} {b = b} {o = o} $
    use1 𝓛 (‵ ((mem G).own_at (of_c d) b o)) (id⊢ 𝓤 (sem 𝓛 ((mem G).own_at (of_c d) b o))) $
    nothing ! $ move ! (2 ∷ 3 ∷ 4 ∷ 1 ∷ 0 ∷ []) $ group ! 5 $
    use1 𝓛 (later (some (λ (δ : GName). ‵ ((MutRef (named 0) κ G).own_val (got δ) (vptr b o ∷ [])) ⊛ ‵ (flft κ q) ⊛ ‵
    (follows Words G γ δ to_c))))
    (lends_Part 𝓛 Words G to_c (named 0) κ q b o b o γ (sem 𝓛 ftrue) back (Words.coded.code d) (Words.coded.code d)
    (of_c d)) $ await ! tt $ pick ! (λ δ. split3 ! $
    first ! $ blocks ! $ sets ! (addr ! (through ! refl (stop !))) refl (tt, tt) $ sets ! (of_opd ! (get ! refl)) refl
    (tt, tt) $
    sets_last ! (addr ! (through ! refl (stop !))) refl (tt, tt) $
    exec ! 𝓣.C 𝓣.Λ Ev (after 1 fn.body) (at_ret Ev (W.post y)) $ sets ! (of_opd ! (get ! refl)) refl (tt, tt) $
    returns ! (look_at ! 0 refl) $ free_all ! refl $
    suffices ! _ (ends_at 𝓛 En hs c y (vptr b o) (got δ) (tt, tt) (tt, tt)) $
    nothing ! $ nothing ! $ fjoin ! $ join ! $ nothing ! $ move ! (2 ∷ 0 ∷ []) $ join ! $ join ! $ frame ! $ says !
    refl $ keep ! (0 ∷ []) $ done !)))
