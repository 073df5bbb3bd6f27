-- Where control is: ends by place, and one front after the other.
use Rattle.std.proofs.Common.{◌≡◌, ℕ, zero, suc, ◌+◌, ◌<◌, ◌≤◌, true, false, List, [], ◌∷◌, ◌++◌, append_assoc, length, drop, get_or, refl, ap, ◌∙◌, sym, arith}
use Rattle.std.specs.Prelude.{ltb}
use Rattle.std.proofs.Math.Numerals.{add-one}
use Rattle.std.proofs.lemmas.Bool.Decides.{nat_tests}
use Rattle.st_program.specs.declared.residuals.Residual as GResidual
use Rattle.st_program.specs.declared.trees.Child as GChild
use Rattle.st_program.specs.Plain.{plain_child, plain_children}
use Rattle.st_program.specs.Residuals.{plain_residual, plain_residuals}
use Rattle.st_program.specs.Tree.{Processes, no_process, beside}
use Rattle.st_program.proofs.Rows.{child_is}
use Rattle.spl_semantics.specs.Control.{front, fronts}
use Rattle.trace_player.specs.Fronts.{end_at}

end-found : (cs : List GChild.Child) (k : ℕ) (c : GChild.Child) → k < length cs → c ≡ get_or cs k c → (GChild.out-Child c).end ≡ end_at (plain_children cs) k
end-found [] k c h e = absurd (omega (arith, h))
end-found (x ∷ cs) zero c h e = sym (ap (λ y. end_at (beside (plain_child y) (plain_children cs)) zero) (sym e) ∙ ap (λ y. end_at (beside y (plain_children cs)) zero) (child_is c))
end-found (GChild.Child' size row end ∷ cs) (suc k) c h e = end-found cs k c (omega (arith, h)) e

end-absent : (cs : List GChild.Child) (k : ℕ) → length cs ≤ k → 0 ≡ end_at (plain_children cs) k
end-absent [] k h = refl
end-absent (c ∷ cs) zero h = absurd (omega (arith, h))
end-absent (GChild.Child' size row end ∷ cs) (suc k) h = end-absent cs k (omega (arith, h))

-- the end that the code finds, or that there is none
pub end_found : (cs : List GChild.Child) (k : ℕ) (c : GChild.Child) → true ≡ ltb k (length cs) → c ≡ get_or cs k c → (GChild.out-Child c).end ≡ end_at (plain_children cs) k
end_found cs k c lt is = end-found cs k c (grind (arith, nat_tests)) is

pub end_absent : (cs : List GChild.Child) (k : ℕ) → false ≡ ltb k (length cs) → 0 ≡ end_at (plain_children cs) k
end_absent cs k past = end-absent cs k (grind (arith, nat_tests))

-- the fronts from a place on
abbrev pub fronts_from : Processes → List GResidual.Residual → List GChild.Child → ℕ → List ℕ
fronts_from p rs cs k = fronts (plain_residuals (drop k rs)) p (plain_children (drop k cs))

fronts-suc : (p : Processes) (rs : List GResidual.Residual) (cs : List GChild.Child) (k : ℕ) (r : GResidual.Residual) → k < length rs → r ≡ get_or rs k r
    → fronts_from p rs cs k ≡ front (plain_residual r) p (end_at (plain_children cs) k) ++ fronts_from p rs cs (suc k)
fronts-suc p [] cs k r h e = absurd (omega (arith, h))
fronts-suc p (x ∷ rs) [] zero r h e = ap (λ y. front (plain_residual y) p 0 ++ fronts (plain_residuals rs) p no_process) (sym e)
fronts-suc p (x ∷ rs) (GChild.Child' size row end ∷ cs) zero r h e = ap (λ y. front (plain_residual y) p end ++ fronts (plain_residuals rs) p (plain_children cs)) (sym e)
fronts-suc p (x ∷ rs) [] (suc k) r h e = without k (fronts-suc p rs [] k r (omega (arith, h)) e)
  where
    without : (k : ℕ) → fronts_from p rs [] k ≡ front (plain_residual r) p 0 ++ fronts_from p rs [] (suc k) → fronts_from p (x ∷ rs) [] (suc k) ≡ front (plain_residual r) p 0 ++ fronts_from p (x ∷ rs) [] (suc (suc k))
    without zero h = h
    without (suc k) h = h
fronts-suc p (x ∷ rs) (GChild.Child' size row end ∷ cs) (suc k) r h e = fronts-suc p rs cs k r (omega (arith, h)) e

-- one front more
pub fronts-next : (p : Processes) (rs : List GResidual.Residual) (cs : List GChild.Child) (k : ℕ) (r : GResidual.Residual) → k < length rs → r ≡ get_or rs k r
    → (before after whole : List ℕ) (end : ℕ) → end ≡ end_at (plain_children cs) k → after ≡ before ++ front (plain_residual r) p end
    → before ++ fronts_from p rs cs k ≡ whole → after ++ fronts_from p rs cs (k + 1) ≡ whole
fronts-next p rs cs k r lt is before after whole end end_is made h =
    let rest = fronts_from p rs cs (k + 1) in
    ap (λ l. l ++ rest) (made ∙ ap (λ e. before ++ front (plain_residual r) p e) end_is)
    ∙ append_assoc before (front (plain_residual r) p (end_at (plain_children cs) k)) rest
    ∙ ap (λ j. before ++ (front (plain_residual r) p (end_at (plain_children cs) k) ++ fronts_from p rs cs j)) (add-one k)
    ∙ ap (λ l. before ++ l) (sym (fronts-suc p rs cs k r lt is))
    ∙ h
