-- What the code reads of the levels of a node.
use Rattle.std.proofs.Common.{◌≡◌, ◌∙◌, ap, sym, refl, arith, ℕ, zero, suc, ◌+◌, ◌-◌, ◌<◌, ◌≤◌, Bool, true, false, ◌&&◌, ◌==◌, if◌then◌else◌, List, [], ◌∷◌, ◌++◌, append_assoc, length, map, min, drop, get_or, slice_get, slice_index_or, Some, None, Vec, Global}
use Rattle.std.proofs.lemmas.Option.{none-some}
use Rattle.std.proofs.lemmas.List.{drop_more, drop_all, length-drop}
use Rattle.st_linear.specs.Linear.{Linear}
use Rattle.st_form.specs.Formula.{Formula, row}
use Rattle.temporal_goals.specs.Texts.{PlainLevel, PlainNestedNode}
use Rattle.temporal_goals.specs.Plain.{plain_level, plain_nested_node}
use Rattle.temporal_goals.specs.declared.nested.Level.{Level}
use Rattle.temporal_goals.specs.declared.nested.NestedNode.{NestedNode}
use Rattle.vc_generator.specs.Building.{at_least_both}
use Rattle.vc_generator.specs.Plain.{plain_case}
use Rattle.vc_generator.specs.declared.building.Case.{Case}
use Rattle.rule_laws.specs.NestedNet.{top_at, base_at, group_at, agree, agreeing, pairs_below, ranked_forms}
use Rattle.rule_fits.specs.Fitting.{CanFall}
use Rattle.transition_system.specs.Systems.{System}
use Rattle.rule_laws.specs.Names.{enabled_of}
use Rattle.nested_net.specs.Asked.{LevelsCanFall}
use Rattle.nested_net.specs.Walk.{free_within, free_cases, plain_lists}

-- the numbers and the group at a depth
pub top_some : (ls : List Level) (k : ℕ) (l : Level) (d : Linear) → slice_get ls k ≡ Some l → l.top ≡ top_at k (map plain_level ls) d
top_some [] k l d e = absurd (none-some l e)
top_some (x ∷ xs) zero l d e = let same : x ≡ l = cc in ap (λ z. z.top) (sym same)
top_some (x ∷ xs) (suc k) l d e = top_some xs k l d e

pub top_none : (ls : List Level) (k : ℕ) (d : Linear) → slice_get ls k ≡ None → d ≡ top_at k (map plain_level ls) d
top_none [] k d e = refl
top_none (x ∷ xs) zero d e = absurd (none-some x (sym e))
top_none (x ∷ xs) (suc k) d e = top_none xs k d e

pub base_some : (ls : List Level) (k : ℕ) (l : Level) (d : Linear) → slice_get ls k ≡ Some l → l.base ≡ base_at k (map plain_level ls) d
base_some [] k l d e = absurd (none-some l e)
base_some (x ∷ xs) zero l d e = let same : x ≡ l = cc in ap (λ z. z.base) (sym same)
base_some (x ∷ xs) (suc k) l d e = base_some xs k l d e

pub base_none : (ls : List Level) (k : ℕ) (d : Linear) → slice_get ls k ≡ None → d ≡ base_at k (map plain_level ls) d
base_none [] k d e = refl
base_none (x ∷ xs) zero d e = absurd (none-some x (sym e))
base_none (x ∷ xs) (suc k) d e = base_none xs k d e

pub group_some : (ls : List Level) (k : ℕ) (l : Level) → slice_get ls k ≡ Some l → Some l.group ≡ group_at k (map plain_level ls)
group_some [] k l e = absurd (none-some l e)
group_some (x ∷ xs) zero l e = let same : x ≡ l = cc in ap (λ z. Some z.group) (sym same)
group_some (x ∷ xs) (suc k) l e = group_some xs k l e

pub group_none : (ls : List Level) (k : ℕ) → slice_get ls k ≡ None → None ≡ group_at k (map plain_level ls)
group_none [] k e = refl
group_none (x ∷ xs) zero e = absurd (none-some x (sym e))
group_none (x ∷ xs) (suc k) e = group_none xs k e

-- a number at a depth can be lowered
pub base-can-fall : (ls : List PlainLevel) (d : Linear) (k : ℕ) → LevelsCanFall ls → CanFall d → CanFall (base_at k ls d)
base-can-fall [] d k all h = h
base-can-fall (l ∷ ls) d zero all h = all.0
base-can-fall (l ∷ ls) d (suc k) all h = base-can-fall ls d k all.1 h

-- agreement of too few levels, and of the next ones
pub too-few : (k : ℕ) (ls ms : List Level) → length ls < k → agree k (map plain_level ls) (map plain_level ms) ≡ false
too-few zero ls ms h = absurd (omega arith)
too-few (suc k) [] ms h = refl
too-few (suc k) (l ∷ ls) [] h = refl
too-few (suc k) (l ∷ ls) (m ∷ ms) h = ap (λ b. (m.group == l.group) && b) (too-few k ls ms (omega arith)) ∙ and-false (m.group == l.group)
  where
    and-false : (b : Bool) → b && false ≡ false
    and-false true = refl
    and-false false = refl

pub too-few-others : (k : ℕ) (ls ms : List Level) → length ms < k → agree k (map plain_level ls) (map plain_level ms) ≡ false
too-few-others zero ls ms h = absurd (omega arith)
too-few-others (suc k) [] ms h = refl
too-few-others (suc k) (l ∷ ls) [] h = refl
too-few-others (suc k) (l ∷ ls) (m ∷ ms) h = ap (λ b. (m.group == l.group) && b) (too-few-others k ls ms (omega arith)) ∙ and-false (m.group == l.group)
  where
    and-false : (b : Bool) → b && false ≡ false
    and-false true = refl
    and-false false = refl

pub agree-next : (n i : ℕ) (ls ms : List Level) (l m : Level) → i < n → i < length ls → i < length ms → l ≡ get_or ls i l → m ≡ get_or ms i m
    → agree (n - i) (map plain_level (drop i ls)) (map plain_level (drop i ms)) ≡ (m.group == l.group) && agree (n - (i + 1)) (map plain_level (drop (i + 1) ls)) (map plain_level (drop (i + 1) ms))
agree-next n i ls ms l m below low high is as-well =
    let more : n - i ≡ suc (n - (i + 1)) = omega arith in
    ap (λ k. agree k (map plain_level (drop i ls)) (map plain_level (drop i ms))) more
    ∙ ap (λ xs. agree (suc (n - (i + 1))) (map plain_level xs) (map plain_level (drop i ms))) (drop_more ls i l low ∙ ap (λ z. z ∷ drop (i + 1) ls) (sym is))
    ∙ ap (λ xs. agree (suc (n - (i + 1))) (map plain_level (l ∷ drop (i + 1) ls)) (map plain_level xs)) (drop_more ms i m high ∙ ap (λ z. z ∷ drop (i + 1) ms) (sym as-well))

pub agree-end : (n i : ℕ) (ls ms : List Level) → n ≤ i → agree (n - i) (map plain_level (drop i ls)) (map plain_level (drop i ms)) ≡ true
agree-end n i ls ms past = let none : n - i ≡ 0 = omega arith in ap (λ k. agree k (map plain_level (drop i ls)) (map plain_level (drop i ms))) none

-- the pairs of the next levels
pub pairs-next : (n i : ℕ) (ls ms : List Level) (l m : Level) → i < n → i < length ls → i < length ms → l ≡ get_or ls i l → m ≡ get_or ms i m
    → pairs_below (n - i) (map plain_level (drop i ls)) (map plain_level (drop i ms))
    ≡ (m.base, l.base) ∷ (m.top, l.top) ∷ pairs_below (n - (i + 1)) (map plain_level (drop (i + 1) ls)) (map plain_level (drop (i + 1) ms))
pairs-next n i ls ms l m below low high is as-well =
    let more : n - i ≡ suc (n - (i + 1)) = omega arith in
    ap (λ k. pairs_below k (map plain_level (drop i ls)) (map plain_level (drop i ms))) more
    ∙ ap (λ xs. pairs_below (suc (n - (i + 1))) (map plain_level xs) (map plain_level (drop i ms))) (drop_more ls i l low ∙ ap (λ z. z ∷ drop (i + 1) ls) (sym is))
    ∙ ap (λ xs. pairs_below (suc (n - (i + 1))) (map plain_level (l ∷ drop (i + 1) ls)) (map plain_level xs)) (drop_more ms i m high ∙ ap (λ z. z ∷ drop (i + 1) ms) (sym as-well))

pairs-none : (k : ℕ) (ls ms : List Level) → min (min k (length ls)) (length ms) ≡ 0 → pairs_below k (map plain_level ls) (map plain_level ms) ≡ []
pairs-none zero ls ms h = refl
pairs-none (suc k) [] ms h = refl
pairs-none (suc k) (l ∷ ls) [] h = refl
pairs-none (suc k) (l ∷ ls) (m ∷ ms) h = absurd (omega arith)

pub pairs-end : (n i : ℕ) (ls ms : List Level) → min (min n (length ls)) (length ms) ≤ i → pairs_below (n - i) (map plain_level (drop i ls)) (map plain_level (drop i ms)) ≡ []
pairs-end n i ls ms past =
    let one = length-drop i ls in
    let other = length-drop i ms in
    pairs-none (n - i) (drop i ls) (drop i ms) (omega arith)

-- the next level of a walk over ranks
top-behind : (ls : List Level) (i : ℕ) (d : Linear) → top_at 0 (map plain_level (drop i ls)) d ≡ top_at i (map plain_level ls) d
top-behind [] zero d = refl
top-behind [] (suc i) d = refl
top-behind (l ∷ ls) zero d = refl
top-behind (l ∷ ls) (suc i) d = top-behind ls i d

pub ranked-next : (ls : List Level) (i : ℕ) (l : Level) (d : Linear) → i < length ls → l ≡ get_or ls i l
    → ranked_forms (map plain_level (drop i ls)) d ≡ row l.base ∷ at_least_both l.top l.base (top_at (i + 1) (map plain_level ls) d) ∷ ranked_forms (map plain_level (drop (i + 1) ls)) d
ranked-next ls i l d below is =
    ap (λ xs. ranked_forms (map plain_level xs) d) (drop_more ls i l below ∙ ap (λ z. z ∷ drop (i + 1) ls) (sym is))
    ∙ ap (λ t. row l.base ∷ at_least_both l.top l.base t ∷ ranked_forms (map plain_level (drop (i + 1) ls)) d) (top-behind ls (i + 1) d)

pub ranked-end : (ls : List Level) (i : ℕ) (d : Linear) → length ls ≤ i → ranked_forms (map plain_level (drop i ls)) d ≡ row d ∷ []
ranked-end ls i d past = ap (λ xs. ranked_forms (map plain_level xs) d) (drop_all i ls past)

-- the next node of a walk over those that agree
pub agreeing-next : (k : ℕ) (ls : List PlainLevel) (xs : List NestedNode) (i : ℕ) (x : NestedNode) → i < length xs → x ≡ get_or xs i x
    → agreeing k ls (map plain_nested_node (drop i xs)) ≡ (if agree k ls (map plain_level x.levels.items) then plain_nested_node x ∷ agreeing k ls (map plain_nested_node (drop (i + 1) xs)) else agreeing k ls (map plain_nested_node (drop (i + 1) xs)))
agreeing-next k ls xs i x below is = ap (λ ys. agreeing k ls (map plain_nested_node ys)) (drop_more xs i x below ∙ ap (λ z. z ∷ drop (i + 1) xs) (sym is))

-- a list of lists by number
pub list_some : (vs : List (Vec Case Global)) (i : ℕ) (v : Vec Case Global) → slice_get vs i ≡ Some v → map plain_case v.items ≡ slice_index_or (plain_lists vs) i []
list_some [] i v e = absurd (none-some v e)
list_some (x ∷ xs) zero v e = let same : x ≡ v = cc in ap (λ z. map plain_case z.items) (sym same)
list_some (x ∷ xs) (suc i) v e = list_some xs i v e

pub list_none : (vs : List (Vec Case Global)) (i : ℕ) → slice_get vs i ≡ None → [] ≡ slice_index_or (plain_lists vs) i []
list_none [] i e = refl
list_none (x ∷ xs) zero e = absurd (none-some x (sym e))
list_none (x ∷ xs) (suc i) e = list_none xs i e

-- free steps at a depth are those within one group more
pub frees-by : (system : System) (nodes : List PlainNestedNode) (n : PlainNestedNode) (k count : ℕ) (enabled : Formula) → count ≡ suc k → enabled ≡ enabled_of system (group_at k n.levels)
    → map (free_within enabled count n) (agreeing count n.levels nodes) ≡ free_cases system nodes n k
frees-by system nodes n k count enabled counts is =
    ap (λ c. map (free_within enabled c n) (agreeing c n.levels nodes)) counts ∙ ap (λ f. map (free_within f (suc k) n) (agreeing (suc k) n.levels nodes)) is

-- a walk that has appended the next part
pub moved-on : {A : Type 0} (old new part rest left whole : List A) → new ≡ old ++ part → left ≡ part ++ rest → old ++ left ≡ whole → new ++ rest ≡ whole
moved-on old new part rest left whole appended next all =
    ap (λ xs. xs ++ rest) appended ∙ append_assoc old part rest ∙ ap (λ xs. old ++ xs) (sym next) ∙ all

-- the first two levels that differ, and two that don't
pub differ : (b tail left whole : Bool) → left ≡ b && tail → left ≡ whole → b ≡ false → false ≡ whole
differ b tail left whole next all e = sym (ap (λ z. z && tail) e) ∙ sym next ∙ all

pub same-so-far : (b tail left whole : Bool) → left ≡ b && tail → left ≡ whole → b ≡ true → tail ≡ whole
same-so-far b tail left whole next all e = sym (ap (λ z. z && tail) e) ∙ sym next ∙ all
