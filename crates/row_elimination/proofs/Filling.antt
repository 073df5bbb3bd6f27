use Rattle.std.proofs.Common.{◌≡◌, ℕ, zero, suc, ◌+◌, ◌<◌, Some, None, List, [], ◌∷◌, length, get_or, drop, ap, sym, subst, ◌∙◌, arith, ℤ}
use Rattle.std.specs.Prelude.{option_and_then, slice_set}
use Rattle.std.specs.Option.{option_map}
use Rattle.std.proofs.lemmas.List.{drop_more}
use Rattle.row_elimination.specs.declared.stage.Used.{Used}
use Rattle.row_elimination.specs.Places.{use_plain}
use Rattle.row_elimination.specs.Runs.{uses_plain}
use Rattle.elimination_laws.specs.Points.{pointed, value_for}

pointed-none : (v i : ℕ) (us : List Used) (values : List ℤ) → pointed (v + i) (uses_plain (drop i us)) values ≡ None → pointed v (uses_plain us) values ≡ None
pointed-none v zero us values h = let e : v + 0 ≡ v = omega arith in subst (λ k. pointed k (uses_plain us) values ≡ None) e h
pointed-none v (suc i) [] values h = absurd (cc)
pointed-none v (suc i) (u ∷ us) values h =
    let e : v + suc i ≡ v + 1 + i = omega arith in
    let r = pointed-none (v + 1) i us values (subst (λ k. pointed k (uses_plain (drop i us)) values ≡ None) e h) in
    ap (option_and_then (λ above. option_map (λ z. slice_set above v z) (value_for v above (use_plain u)))) r

fails-here : (k : ℕ) (us : List Used) (u : Used) (start values : List ℤ) → k < length us → u ≡ get_or us k u → pointed (k + 1) (uses_plain (drop (k + 1) us)) start ≡ Some values → value_for k values (use_plain u) ≡ None → pointed k (uses_plain (drop k us)) start ≡ None
fails-here k us u start values h e s n =
    ap (λ l. pointed k (uses_plain l) start) (drop_more us k u h ∙ ap (λ x. x ∷ drop (k + 1) us) (sym e))
    ∙ ap (option_and_then (λ above. option_map (λ z. slice_set above k z) (value_for k above (use_plain u)))) s
    ∙ ap (option_map (λ z. slice_set values k z)) n

pub fails : (k m : ℕ) (us : List Used) (u : Used) (start values : List ℤ) → k + 1 ≡ m → k < length us → u ≡ get_or us k u → pointed m (uses_plain (drop m us)) start ≡ Some values → value_for k values (use_plain u) ≡ None → pointed 0 (uses_plain us) start ≡ None
fails k m us u start values e h i s n =
    let t = subst (λ m. pointed m (uses_plain (drop m us)) start ≡ Some values) (sym e) s in
    let z : 0 + k ≡ k = omega arith in
    pointed-none 0 k us start (subst (λ j. pointed j (uses_plain (drop k us)) start ≡ None) (sym z) (fails-here k us u start values h i t n))
