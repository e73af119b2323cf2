-- `lend` lends the value, and the handle follows it.
use Rattle.std.proofs.Common.{◌≡◌, ℕ, List, [], ◌∷◌, refl, sym}
use mir.Syntax.{a_type, named}
use mir.Raw.{raw as bare}
use mir.Val.{Val, vptr}
use mir.MapTy.{inst_fn}
use base.Logic.{ent, sep}
use base.Fml.{GName, Fml, ftrue, fsep, flft}
use base.Fraction.{full_share}
use types.Logic.{sem}
use types.Kit.{‵, raw, ◌⊛◌, some, later, at_ret, ◌$◌, ◌∵◌, !, qed, done, move, keep, drop, use1, split, split3, join}
use types.Kit.{fsplit, fsplit3, fjoin, fpack, frame, group, pick, await, rewrite, suffices}
use types.Run.{stop, fld, hop, addr, of_opd, first, blocks, exec, returns, enter}
use types.ByLocal.{alloc_all, pass_all, free_all, look_at, get, through, sets, sets_last, env}
use types.Part.{sub, whole, look_in}
use contract.Monad.{fact}
use contract.BorrowLft.{◌⊑◌}
use contract.Running.{tables}
use denote.Exit.{no}
use denote.Follow.{follows, lends_Part}
use denote.Memory.{part_at, mem, cell_at, part_of, lone}
use denote.RattleType.{RattleType}
use denote.RawPtr.{Ptr, block_ptr}
use denote.Ref.{MutRef, mut_vals, mut_Tells}
use denote.Signature.{plain, mut_ref_to}
use denote.Steps.{nothing, heard, opens}
use denote.Param.{param, layouts}
use denote.Triple.Walked.{Stays, says, stay_dropped, walk_of, ends_at, Goes-spent_ref}
use Rattle.core.proofs.alloc.Shapes.{after}
use Rattle.std.proofs.raw_atomic.Walks.{proved}
use Rattle.std.specs.contracts.impls.GlobalAllocator.TheImpl as heap
use Rattle.std_alloc.specs.Box.Ownership.{box_owns}
use Rattle.c_handle.specs.Owned.{owned}
use Rattle.c_handle.specs.Lending.{with_value}
use Rattle.c_handle.proofs.Values.{both}
use Rattle.c_handle.proofs.Handles.{Z, H, handle_in, handle_out}
use Rattle.c_handle.specs.contracts.handle.Handle.lend as f
use Rattle.c_handle.specs.contracts.handle.Handle.lend.Key.{name as #self}
use Rattle.c_handle.proofs.handle.Handle.lend.Statement.{statement}
use Rattle.c_handle.proofs.handle.Handle.lend.Code as code

pub lend_spec : {M : Type 1} → statement M
unfolding part_of
lend_spec 𝓤 𝓛 𝓜 𝓡 wired T L =
    let R : RattleType = param 0 T in let Hd : RattleType = H R in let En = f.ended T in
    let c = f.clauses T 𝓛 𝓜.mem 𝓡.returns in let 𝓣 = tables 𝓤 𝓛.H 𝓜 𝓡 𝓡.env in
    let fn = inst_fn (layouts (a_type ∷ []) (T, tt)) code.function in
    let hs : Stays En.signature.params En.kept = (stay_dropped (mut_ref_to (0 ∷ []) tt (plain (λ _. Hd))) no, tt) in
    proved 𝓛 En hs c 𝓜 𝓡 (Goes-spent_ref 𝓛 2 (0 ∷ []) tt (plain (λ _. Hd)), tt) (#self (layouts (a_type ∷ []) (T, tt)))
    fn
    (code.unfolded 𝓤 𝓛.H 𝓜 𝓡 wired (T, tt))
    (λ κs. (mut_vals, tt)) (λ κs. (mut_Tells (named 0) κs.0 Hd, tt)) (λ κs qs bounds a gh are.
    let κ = κs.0 in let q = qs.0 in let rb = a.0.ref_ptr.0 in let ro = a.0.ref_ptr.1 in let γ = a.0.ghost_name in
    let d = a.0.now in let vs = mut_vals a.0 in let W = walk_of 𝓛 En hs c in
    let y : W.Ghost = ((κs, qs, bounds, a, (vs, tt)), gh) in
    let tok : Fml = heap.ghosts.dealloc_token d.alloc (bare (lone R.mir)) d.at in
    qed 𝓛 (((‵ (flft κ q) ⊛ ‵ (flft κs.1.0 qs.1.0) ⊛ ‵ ftrue) ⊛ ‵ ((MutRef (named 0) κ Hd).own_val a.0 vs) ⊛ ‵ ftrue)
    ∷ (raw (fact 𝓤 (κs.1.0 ⊑ T.lives)) ⊛ raw (fact 𝓤 (d.live ≡ 1))) ∷ []) ∵
    move ! (1 ∷ []) $ split ! $ drop ! $ heard ! (d.live ≡ 1) (λ one.
    split ! $ split ! $ move ! (2 ∷ []) $ split ! $ keep ! (0 ∷ 2 ∷ 3 ∷ []) $ fsplit3 ! $ drop ! $
    enter ! 𝓣.C 𝓣.Λ fn (vptr rb ro ∷ []) _ $ alloc_all ! (λ l. pass_all ! refl ((tt, tt), tt) $ let Ev = env fn.locals
    l in
    opens ! tt Hd {h = d} rb ro (λ us. move ! (1 ∷ []) $ handle_out R ! d us one (λ b o h at_b ws fits. fsplit ! $
    move ! (1 ∷ 2 ∷ []) $ fjoin ! $ rewrite ! 2 (λ (xs : List Val). ‵ (cell_at full_share Hd.mir xs rb ro)) ws refl $
    first ! $ blocks ! $
    sets_last ! (addr ! (through ! refl (fld ! refl (hop ! (look_in ! 2 (sub ! 0 refl (whole !))) (stop !))))) refl
    (tt, tt) $
    exec ! 𝓣.C 𝓣.Λ Ev (after 1 fn.body) (at_ret Ev (W.post y)) $ sets ! (of_opd ! (get ! refl)) refl (tt, tt) $
    move ! (0 ∷ 2 ∷ []) $ fjoin ! $ move ! (2 ∷ 3 ∷ 4 ∷ 1 ∷ 0 ∷ []) $ group ! 5 $
    let Kept : Fml = fsep (fsep (heap.ghosts.dealloc_token d.alloc (bare (lone R.mir)) (block_ptr b o))
    (Z.own_val d.alloc (h ∷ [])))
    (cell_at full_share Hd.mir (both (vptr b o) h ∷ []) rb ro) in
    let back : (w : T.Denot) → ent 𝓤 (sep 𝓤 (sem 𝓛 ((mem R).own_at w b o)) (sem 𝓛 Kept))
    (sem 𝓛 ((mem Hd).own_at (with_value d w) rb ro)) = λ w.
    qed 𝓛 (‵ (part_at R full_share w b o) ∷ ‵ Kept ∷ []) ∵ move ! (1 ∷ []) $ fsplit ! $ fsplit ! $ move !
    (3 ∷ 0 ∷ []) $ fjoin ! $
    rewrite ! 0 (λ (n : ℕ). ‵ (owned n (box_owns (heap.ghosts.dealloc_token d.alloc) R (block_ptr b o) w))) (sym one)
    refl $
    handle_in R ! (block_ptr b o) h d.alloc d.live w $
    rewrite ! 0 (λ (p : Ptr). ‵ (Hd.own_val (record { at = p; alloc = d.alloc; live = d.live; value = w })
    (both (vptr b o) h ∷ []))) (sym at_b) refl $
    move ! (1 ∷ 0 ∷ []) $ fjoin ! $ fpack ! (List Val) (λ xs. fsep (cell_at full_share Hd.mir xs rb ro)
    (Hd.own_val (with_value d w) xs)) (both (vptr b o) h ∷ []) $ done ! in
    let got : GName → (MutRef (named 0) κ R).Denot = λ δ. record { ref_ptr = (b, o); ghost_name = δ; now = d.value } in
    use1 𝓛 (later (some (λ (δ : GName). ‵ ((MutRef (named 0) κ R).own_val (got δ) (vptr b o ∷ [])) ⊛ ‵ (flft κ q) ⊛ ‵
    (follows Hd R γ δ (with_value d)))))
    (lends_Part 𝓛 Hd R (with_value d) (named 0) κ q rb ro b o γ (sem 𝓛 Kept) back (Hd.coded.code d) (Hd.coded.code d)
    d.value) $ await ! tt $ pick ! (λ δ. split3 ! $
    returns ! (look_at ! 0 refl) $ free_all ! refl $
    suffices ! _ (ends_at 𝓛 En hs c y (vptr b o) (got δ) (tt, tt) (tt, tt)) $
    nothing ! $ nothing ! $ fjoin ! $ move ! (2 ∷ 4 ∷ []) $ join ! $ move ! (1 ∷ 2 ∷ []) $ join ! $ move !
    (1 ∷ 0 ∷ []) $ join ! $
    frame ! $ says ! refl $ keep ! (0 ∷ []) $ done !))))))
