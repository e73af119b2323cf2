-- `fill` keeps a value in place.
use Rattle.std.proofs.Common.{◌≡◌, ℕ, List, [], ◌∷◌, ◌++◌, refl, sym, subst}
use mir.Syntax.{a_type}
use mir.Val.{Val, vptr, vunit}
use mir.MapTy.{inst_fn}
use base.Logic.{SProp, ent, emp, id⊢}
use base.Fml.{ftrue, flft}
use base.Fraction.{full_share}
use prog.Wp.{WpFn}
use types.Kit.{‵, raw, ◌⊛◌, ◌$◌, ◌∵◌, !, qed, by, move, keep, drop, use0, split, join, fsplit, fsplit3, fjoin, fjoin3}
use types.Kit.{feq_i, feq_l, rewrite, suffices}
use types.Run.{stop, fld, of_opd, unit_lit, assigns, returns, enter}
use types.ByLocal.{alloc_all, pass_all, free_all, look_at, get, get_in, through, sets}
use types.Part.{sub, whole, store_in}
use contract.Monad.{fact, fact_i}
use contract.BorrowLft.{◌⊑◌}
use contract.Running.{tables}
use denote.Exit.{no}
use denote.Memory.{cell_at}
use denote.RattleType.{RattleType, owns}
use denote.RawPtr.{block_ptr}
use denote.Signature.{types_at, plain}
use denote.Steps.{nothing, heard, opens, closes}
use denote.Param.{param, layouts}
use denote.Triple.Walked.{Stays, stay_dropped, stay_ref, walk_of, Goes-ref}
use Rattle.core.proofs.alloc.Calls.{Goes-blank}
use Rattle.std.proofs.raw_atomic.Walks.{proved_at, leaves}
use Rattle.std.specs.contracts.impls.GlobalAllocator.TheImpl as heap
use Rattle.std.proofs.alloc.Global.TheLaws as global_laws
use Rattle.c_handle.proofs.Values.{both, Loose, loose_good, loose_out}
use Rattle.c_handle.proofs.Handles.{Z, H, handle_in, handle_empty}
use Rattle.c_handle.specs.contracts.handle.Handle.fill as f
use Rattle.c_handle.specs.contracts.handle.Handle.fill.Key.{name as #self}
use Rattle.c_handle.proofs.handle.Handle.fill.Statement.{statement}
use Rattle.c_handle.proofs.handle.Handle.fill.Code as code

pub fill_spec : {M : Type 1} → statement M
fill_spec 𝓤 𝓛 𝓜 𝓡 wired T L =
    let R : RattleType = param 0 T in let Hd : RattleType = H R in let En = f.ended T in
    let c = f.clauses T 𝓛 𝓜.mem 𝓡.returns in let 𝓣 = tables 𝓤 𝓛.H 𝓜 𝓡 𝓡.env in
    let fn = inst_fn (layouts (a_type ∷ []) (T, tt)) code.function in
    let Ls : RattleType = Loose R Z global_laws.the_row_laws heap.ghosts in
    let hs : Stays En.signature.params En.kept = (
      stay_ref (0 ∷ []) tt (plain (λ _. Hd)),
      (stay_dropped (plain (λ _. Ls)) no, tt),
    ) in
    proved_at 𝓛 En hs c 𝓜 𝓡 (
      Goes-ref 𝓛 2 0 tt (plain (λ _. Hd)),
      (Goes-blank 𝓛 2 (plain (λ _. Ls)) no (λ κs x f. tt), tt),
    )
    (#self (layouts (a_type ∷ []) (T, tt))) fn (code.unfolded 𝓤 𝓛.H 𝓜 𝓡 wired (T, tt)) (λ z are.
    let κ = z.0.0.0 in let κ₁ = z.0.0.1.0 in let q = z.0.1.0 in let q₁ = z.0.1.1.0 in
    let s = z.0.3.0 in let rb = s.ref_ptr.0 in let ro = s.ref_ptr.1 in let d = s.now in let x = z.0.3.1.0 in
    let Post : Val → SProp 𝓤 = (walk_of 𝓛 En hs c).post z in
    let Run : List Val → SProp 𝓤 = λ ws. WpFn 𝓤 𝓛.H 𝓣.C 𝓣.Λ fn ws Post in
    qed 𝓛 (((‵ (flft κ q) ⊛ ‵ (flft κ₁ q₁) ⊛ ‵ ftrue) ⊛ ‵ (owns (types_at En.signature.params z.0.0) z.0.3 z.0.4))
    ∷ (raw (fact 𝓤 (κ₁ ⊑ T.lives)) ⊛ raw (fact 𝓤 (d.live ≡ 0))) ∷ []) ∵
    move ! (1 ∷ []) $ split ! $ drop ! $ heard ! (d.live ≡ 0) (λ none.
    split ! $ split ! $ move ! (2 ∷ []) $ fsplit ! $ fsplit3 ! $ feq_l ! (λ es. move ! (2 ∷ []) $ fsplit !
    $ loose_out R Z global_laws.the_row_laws heap.ghosts ! x z.0.4.1.0 (λ b o h e ea fits. move ! (2 ∷ []) $ drop ! $
    -- [the value in its block; its allocator; the loan, in two entries; the token of its lifetime; the other token]
    move ! (2 ∷ 3 ∷ 4 ∷ []) $
    let w : Val = both (vptr b o) h in
    suffices ! (Run (vptr rb ro ∷ w ∷ [])) (subst (λ (us : List Val). ent 𝓤 (Run (vptr rb ro ∷ w ∷ [])) (Run us))
    (sym (λ i. es i ++ (ea i ++ []))) (id⊢ 𝓤 (Run (vptr rb ro ∷ w ∷ [])))) $
    enter ! 𝓣.C 𝓣.Λ fn (vptr rb ro ∷ w ∷ []) Post $
    alloc_all ! (λ l. pass_all ! refl ((tt, tt), (loose_good R Z global_laws.the_row_laws heap.ghosts b o h fits, tt)) $
    opens ! tt Hd {h = d} rb ro (λ us. move ! (1 ∷ []) $ handle_empty R ! d us none (λ h' ws fits'.
    rewrite ! 1 (λ (xs : List Val). ‵ (cell_at full_share Hd.mir xs rb ro)) ws refl $
    -- [the allocator; the struct's cell; the open borrow, in three entries; the value in its block; its allocator; a
    -- token]
    sets ! (of_opd ! (get_in ! (fld ! refl (stop !)) (sub ! 0 refl (whole !)))) refl (tt, tt) $
    assigns ! (of_opd ! (get ! refl)) (through ! refl (fld ! refl (stop !)))
    (store_in ! 1 (sub ! 0 refl (whole !)) (tt, tt)) $
    sets ! (of_opd ! (unit_lit !)) refl (tt, tt) $
    move ! (5 ∷ 0 ∷ []) $ handle_in R ! (block_ptr b o) h' d.alloc 1 x.value $ move ! (1 ∷ 0 ∷ 2 ∷ 3 ∷ 4 ∷ []) $
    let d' : Hd.Denot = record { at = block_ptr b o; alloc = d.alloc; live = 1; value = x.value } in
    closes ! tt Hd d' (both (vptr b o) h' ∷ []) rb ro $
    -- [two parts of self; the token; an allocator; a token]
    returns ! (look_at ! 0 refl) $ free_all ! refl $
    use0 𝓛 (raw (fact 𝓤 (x.value ≡ x.value))) (fact_i 𝓤 (x.value ≡ x.value) (emp 𝓤) refl) $
    use0 𝓛 (raw (fact 𝓤 (◌≡◌ {A = ℕ} 1 1))) (fact_i 𝓤 (◌≡◌ {A = ℕ} 1 1) (emp 𝓤) refl) $ join ! $
    move ! (1 ∷ 2 ∷ []) $ feq_i ! (List Val) z.0.4.0 (vptr rb ro ∷ []) es $ fjoin3 ! $
    nothing ! $ nothing ! $ fjoin ! $ move ! (1 ∷ 0 ∷ []) $ fjoin ! $
    -- [what is left of the parameters; the `ensures`; the token; an allocator; a token]
    move ! (2 ∷ 4 ∷ []) $ join ! $ feq_i ! (List Val) (vunit ∷ []) (vunit ∷ []) refl $ keep ! (1 ∷ 2 ∷ 0 ∷ 3 ∷ [])
    $ by ! (leaves 𝓛 En hs c z vunit tt (d', (tt, tt)) (tt, (tt, tt))))))))))
