-- `empty` takes the value out in place.
use Rattle.std.proofs.Common.{◌≡◌, ℕ, List, [], ◌∷◌, ◌++◌, refl, sym, subst}
use mir.Syntax.{a_type}
use mir.Val.{Val, vptr}
use mir.MapTy.{inst_fn}
use base.Logic.{SProp, ent, emp, id⊢}
use base.Fml.{ftrue, flft}
use base.Fraction.{full_share}
use prog.Wp.{WpFn}
use types.Kit.{‵, raw, ◌⊛◌, ◌$◌, ◌∵◌, !, qed, by, move, keep, drop, use0, split, join, fsplit, fsplit3, fjoin, fjoin3}
use types.Kit.{feq_i, feq_l, rewrite, suffices}
use types.Run.{stop, fld, load, of_opd, no_more, and_then, assigns, returns, enter}
use types.ByLocal.{alloc_all, pass_all, free_all, look_at, get, through, sets}
use types.Part.{agg, sub, whole, look_in, store_in}
use contract.Monad.{fact, fact_i}
use contract.BorrowLft.{◌⊑◌}
use contract.Running.{tables}
use denote.Builtin.{RawPtr}
use denote.Exit.{yes}
use denote.Memory.{cell_at}
use denote.RattleType.{RattleType, owns}
use denote.RawPtr.{block_ptr, ptr_val}
use denote.Signature.{types_at, plain}
use denote.Steps.{nothing, heard, opens, closes}
use denote.Param.{param, layouts}
use denote.Triple.Walked.{Stays, stay_dropped, stay_ref, walk_of, Goes-ref}
use Rattle.core.proofs.alloc.Calls.{Goes-blank, handle_tells}
use Rattle.std.proofs.raw_atomic.Walks.{proved_at, leaves}
use Rattle.std.specs.contracts.impls.GlobalAllocator.TheImpl as heap
use Rattle.std.proofs.alloc.Global.TheLaws as global_laws
use Rattle.c_handle.proofs.Values.{both, loose_good, loose_in}
use Rattle.c_handle.proofs.Handles.{Z, H, al, ptr_good, handle_in, handle_out}
use Rattle.c_handle.specs.contracts.handle.Handle.empty as f
use Rattle.c_handle.specs.contracts.handle.Handle.empty.Key.{name as #self}
use Rattle.c_handle.proofs.handle.Handle.empty.Statement.{statement}
use Rattle.c_handle.proofs.handle.Handle.empty.Code as code

pub empty_spec : {M : Type 1} → statement M
empty_spec 𝓤 𝓛 𝓜 𝓡 wired T L =
    let R : RattleType = param 0 T in let Hd : RattleType = H R in let En = f.ended T in
    let c = f.clauses T 𝓛 𝓜.mem 𝓡.returns in let 𝓣 = tables 𝓤 𝓛.H 𝓜 𝓡 𝓡.env in
    let fn = inst_fn (layouts (a_type ∷ []) (T, tt)) code.function in
    let hs : Stays En.signature.params En.kept = (
      stay_ref (0 ∷ []) tt (plain (λ _. Hd)),
      (stay_dropped (plain (λ _. Z)) yes, (stay_dropped (plain (λ _. RawPtr)) yes, tt)),
    ) in
    proved_at 𝓛 En hs c 𝓜 𝓡 (
      Goes-ref 𝓛 2 0 tt (plain (λ _. Hd)),
      (
        Goes-blank 𝓛 2 (plain (λ _. Z)) yes (λ κs x f. tt),
        (
          Goes-blank 𝓛 2 (plain (λ _. RawPtr)) yes (λ κs x f. tt),
          tt,
        ),
      ),
    )
    (#self (layouts (a_type ∷ []) (T, tt))) fn (code.unfolded 𝓤 𝓛.H 𝓜 𝓡 wired (T, tt)) (λ z are.
    let κ = z.0.0.0 in let κ₁ = z.0.0.1.0 in let q = z.0.1.0 in let q₁ = z.0.1.1.0 in
    let s = z.0.3.0 in let rb = s.ref_ptr.0 in let ro = s.ref_ptr.1 in let d = s.now in let a = z.0.3.1.0 in
    let p = z.0.3.1.1.0 in
    let w : Val = ptr_val p in
    let Post : Val → SProp 𝓤 = (walk_of 𝓛 En hs c).post z in
    let Run : List Val → SProp 𝓤 = λ ws. WpFn 𝓤 𝓛.H 𝓣.C 𝓣.Λ fn ws Post in
    qed 𝓛 (((‵ (flft κ q) ⊛ ‵ (flft κ₁ q₁) ⊛ ‵ ftrue) ⊛ ‵ (owns (types_at En.signature.params z.0.0) z.0.3 z.0.4))
    ∷ (raw (fact 𝓤 (κ₁ ⊑ T.lives)) ⊛ raw (fact 𝓤 (d.live ≡ 1))) ∷ []) ∵
    move ! (1 ∷ []) $ split ! $ drop ! $ heard ! (d.live ≡ 1) (λ one.
    split ! $ split ! $ move ! (2 ∷ []) $ fsplit ! $ fsplit3 ! $ feq_l ! (λ es. move ! (2 ∷ []) $ fsplit !
    $ handle_tells al ! a z.0.4.1.0 (λ h ea fits. move ! (1 ∷ []) $ fsplit ! $ feq_l !
    (λ ep. drop ! $ move ! (1 ∷ 2 ∷ 3 ∷ []) $
    -- [the loan; the token of its lifetime; the allocator; the other token]
    suffices ! (Run (vptr rb ro ∷ h ∷ w ∷ [])) (subst (λ (us : List Val). ent 𝓤 (Run (vptr rb ro ∷ h ∷ w ∷ []))
    (Run us))
    (sym (λ i. es i ++ (ea i ++ (ep i ++ [])))) (id⊢ 𝓤 (Run (vptr rb ro ∷ h ∷ w ∷ [])))) $
    enter ! 𝓣.C 𝓣.Λ fn (vptr rb ro ∷ h ∷ w ∷ []) Post $ alloc_all !
    (λ l. pass_all ! refl ((tt, tt), (fits, (ptr_good p, tt))) $
    opens ! tt Hd {h = d} rb ro (λ us. move ! (1 ∷ []) $ handle_out R ! d us one (λ b o h' at_b ws fits'.
    rewrite ! 2 (λ (xs : List Val). ‵ (cell_at full_share Hd.mir xs rb ro)) ws refl $
    -- [the value in its block; its allocator; the struct's cell; the open borrow, in three entries; the allocator; a
    -- token]
    sets ! (of_opd ! (load ! (through ! refl (fld ! refl (stop !))) (look_in ! 2 (sub ! 0 refl (whole !))))) refl
    (tt, tt) $
    assigns ! (of_opd ! (get ! refl)) (through ! refl (fld ! refl (stop !)))
    (store_in ! 2 (sub ! 0 refl (whole !)) (ptr_good p)) $
    sets ! (agg ! (and_then ! (get ! refl) (and_then ! (get ! refl) (no_more !)))) refl
    (loose_good R Z global_laws.the_row_laws heap.ghosts b o h fits) $
    move ! (0 ∷ 6 ∷ []) $ loose_in R Z global_laws.the_row_laws heap.ghosts ! b o h a d.value $
    nothing ! $ move ! (0 ∷ 2 ∷ []) $ handle_in R ! p h' d.alloc 0 d.value $ move ! (2 ∷ 0 ∷ 3 ∷ 4 ∷ 5 ∷ []) $
    closes ! tt Hd (record { at = p; alloc = d.alloc; live = 0; value = d.value }) (both w h' ∷ []) rb ro $
    -- [two parts of self; the token; the result; a token]
    returns ! (look_at ! 0 refl) $ free_all ! refl $
    use0 𝓛 (raw (fact 𝓤 (◌≡◌ {A = ℕ} 0 0))) (fact_i 𝓤 (◌≡◌ {A = ℕ} 0 0) (emp 𝓤) refl) $
    use0 𝓛 (raw (fact 𝓤 (d.value ≡ d.value))) (fact_i 𝓤 (d.value ≡ d.value) (emp 𝓤) refl) $ join ! $
    move ! (1 ∷ 2 ∷ []) $ feq_i ! (List Val) z.0.4.0 (vptr rb ro ∷ []) es $ fjoin3 ! $
    nothing ! $ nothing ! $ fjoin ! $ nothing ! $ fjoin ! $ move ! (1 ∷ 0 ∷ []) $ fjoin ! $
    -- [what is left of the parameters; the `ensures`; the token; the result; a token]
    move ! (2 ∷ 4 ∷ []) $ join ! $ keep ! (0 ∷ 1 ∷ 3 ∷ 2 ∷ [])
    $ by ! (leaves 𝓛 En hs c z (both (vptr b o) h) (record { at = block_ptr b o; alloc = a; value = d.value })
    (record { at = p; alloc = d.alloc; live = 0; value = d.value }, (tt, (tt, tt))) (tt, (tt, (tt, tt))))))))))))
