-- The machine value of a `Handle`, and what it owns. Assumes `Logic`.
use Rattle.std.proofs.Common.{◌≡◌, ℕ, List, [], ◌∷◌, ◌++◌, refl, subst}
use seplogic.Ra.Ura.{Ura}
use mir.Syntax.{impl, tnil, dnil}
use mir.Val.{Val, vstruct, of_list, has_ty}
use mir.Raw.{raw as bare}
use base.Logic.{never, via, fst∗, snd∗, guard_i}
use types.Logic.{Logic, sem}
use contract.Monad.{fact_use}
use types.Kit.{Item, Goal, Seq, Step, step, ‵, ◌$◌, move, drop, fsplit, fjoin, fpick, fpack, feq_i, feq_l, given, learn, use1}
use denote.RattleType.{RattleType, Valss}
use denote.Builtin.{RawPtr}
use denote.RawPtr.{Ptr, ptr_val, null_ptr, block_ptr, in_a_block, Testable}
use denote.Memory.{lone}
use denote.Steps.{nothing}
use denote.Param.{layout}
use denote.Struct.Struct.{within}
use denote.Struct.Owning.{shape}
use Rattle.core.proofs.alloc.Calls.{Al, handle_tells}
use Rattle.core.proofs.atomic.Steps.{Ptr-Good}
use Rattle.core.proofs.cell.Inside.{Good}
use Rattle.std.specs.contracts.alloc.Global as heap
use Rattle.std.proofs.alloc.Global.TheLaws as heap_laws
use Rattle.std.specs.contracts.impls.GlobalAllocator.TheImpl.{ghosts}
use Rattle.std.proofs.GlobalToken.{dealloc_token-Testable}
use Rattle.std.specs.declared.alloc.Global.{Global}
use Rattle.core.specs.Ptr.{points_to}
use Rattle.core.specs.declared.option.Option.{Option}
use Rattle.core.specs.declared.option.Option.TheVariants.{None, Some}
use Rattle.std_alloc.specs.Box.Ownership.{box_owns}
use Rattle.sg_c.specs.contracts.kept.Kept.{the_row}
use Rattle.lattice_algebra.specs.Operator.{Operator}
use Rattle.sg_c.specs.Held.{held}
use Rattle.sg_c.specs.contracts.handle.Handle as handle
use Rattle.sg_c.proofs.Values.{both, both_tt}

abbrev pub Z : RattleType
Z = heap.the_row

abbrev pub Handle : RattleType
Handle = handle.the_row

abbrev al : Al
al = record { row = Z; laws = heap_laws.the_row_laws; g = ghosts; d = impl [] tnil dnil; drops = impl [] tnil dnil }

pub handle_good : (p : Ptr) (h : Val) → Good (layout Z) h → Good (layout Handle) (both (ptr_val p) h)
handle_good p h fits = let at = Ptr-Good p in (both_tt (has_ty (mir.Syntax.ty_ptr) (ptr_val p)) (has_ty (layout Z) h) at.0 fits.0, (at.1, (fits.1, tt)))

module _ {M : Type 1} {𝓤 : Ura M} {𝓛 : Logic 𝓤} {K : Type 0} {Γ : List (Item 𝓤)} {G : Goal 𝓤 𝓛.H} where
  pub handle_out : K → (d : Handle.Denot) (vs : List Val)
      → ((h : Val) → vs ≡ both (ptr_val d.at) h ∷ [] → Good (layout Z) h → Seq K 𝓛 (‵ (held d.alloc d.at d.group) ∷ ‵ (Z.own_val d.alloc (h ∷ [])) ∷ Γ) G)
      → Seq K 𝓛 (‵ (Handle.own_val d vs) ∷ Γ) G
  handle_out t d vs k =
      fsplit t $ fpick t (λ vss. fsplit t $ feq_l t (λ ev. fsplit t $ feq_l t (λ ep. fsplit t $ handle_tells al t d.alloc vss.1.0 (λ h ea fits. move t (1 ∷ []) $ drop t $ move t (1 ∷ []) $
      k h (subst (λ (ws : List Val). vs ≡ vstruct (of_list (ptr_val d.at ∷ (ws ++ []))) ∷ []) ea (subst (λ (ps : List Val). vs ≡ vstruct (of_list (ps ++ (vss.1.0 ++ []))) ∷ []) ep ev)) fits))))

  pub handle_in : K → (d : Handle.Denot) (h : Val)
      → Step K 𝓛 (‵ (Handle.own_val d (both (ptr_val d.at) h ∷ [])) ∷ Γ) G (‵ (held d.alloc d.at d.group) ∷ ‵ (Z.own_val d.alloc (h ∷ [])) ∷ Γ) G
  handle_in t d h = step (λ s. let v : Val = both (ptr_val d.at) h in
      nothing t $ move t (2 ∷ 0 ∷ []) $ fjoin t $ feq_i t (List Val) (ptr_val d.at ∷ []) (ptr_val d.at ∷ []) refl $ fjoin t $ feq_i t (List Val) (v ∷ []) (v ∷ []) refl $ fjoin t $
      fpack t (Valss (RawPtr ∷ Z ∷ [])) (within (shape handle.the_type) (d.at, (((d.alloc.memory.seal, tt), tt), tt)) (v ∷ [])) (ptr_val d.at ∷ [], (h ∷ [], tt)) $ fjoin t $ s)

  -- by what is held: null and nothing, or a block, which may be compared with null
  pub either_held : K → (a : Global) (p : Ptr) (g : Option (List Operator))
      → (p ≡ null_ptr → g ≡ None → Seq K 𝓛 Γ G)
      → ((b o : ℕ) (x : List Operator) → p ≡ block_ptr b o → g ≡ Some x → Testable (block_ptr b o) → Seq K 𝓛 (‵ (box_owns (ghosts.dealloc_token a) the_row (block_ptr b o) x) ∷ Γ) G)
      → Seq K 𝓛 (‵ (held a p g) ∷ Γ) G
  either_held t a p None none one = feq_l t (λ e. none e refl)
  either_held t a p (Some x) none one =
      let τ = bare (lone the_row.mir) in
      in_a_block t p (λ q. box_owns (ghosts.dealloc_token a) the_row q x) (fst∗ 𝓤 (never 𝓤) (sem 𝓛 (ghosts.dealloc_token a τ null_ptr))) (λ b o e.
      let q : Ptr = block_ptr b o in let B = box_owns (ghosts.dealloc_token a) the_row q x in
      use1 𝓛 (given (Testable q) (‵ B)) (fact_use 𝓤 (Testable q) (via 𝓤 _ (snd∗ 𝓤 (sem 𝓛 (points_to the_row q x)) (sem 𝓛 (ghosts.dealloc_token a τ q))) (dealloc_token-Testable 𝓛 a τ q)) (guard_i 𝓤 (Testable q) (sem 𝓛 B))) $
      learn t (λ s. one b o x e refl s))
