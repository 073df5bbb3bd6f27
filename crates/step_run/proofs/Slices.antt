-- A search that goes from slice to slice.
use Rattle.std.proofs.Common.{◌≡◌, ℕ, zero, suc, ◌+◌, ◌-◌, ◌<◌, ◌≤◌, true, List, [], ◌∷◌, ◌++◌, length, get_or, take, drop, add-one, append_assoc, append-nil, length-append, length-take, length-drop, codes, ap, ◌∙◌, sym, subst, arith, refl}
use Rattle.std.proofs.lemmas.List.{length-map}
use Rattle.st_form.specs.Condition.{Implication}
use Rattle.st_form.specs.Shared.{plain_condition}
use Rattle.st_form.specs.declared.conditions.Condition.{Condition}
use Rattle.st_certificate.specs.Tree.{Tree}
use Rattle.farkas_check.specs.Problem.{Setting}
use Rattle.search_verdicts.specs.declared.verdict.Verdict.{Verdict}
use Rattle.search_verdicts.specs.Plain.{plain_verdict}
use Rattle.cert_text.specs.Spelling.{block_text}
use Rattle.step_report.specs.Goals.{blocks_text, certificates_text}
use Rattle.discharge.specs.Verdicts.{IsAnswer, AreAnswers}
use Rattle.block_laws.specs.Plain.{plains}
use Rattle.step_plan.specs.declared.ended.Ended.{Ended}
use Rattle.step_plan.specs.declared.stage.Stage.{Stage}
use Rattle.step_plan.specs.declared.stage.Stage.TheVariants.{On, Over}
use Rattle.step_plan.specs.Outcome.{Outcome, ended_view}
use Rattle.step_run.specs.Conditions.{Posed, setting_of}
use Rattle.step_run.specs.Verified.{Verified, all_found, left_open, given_up, found_before, by_verdict, verdict_on, verified_from, search_ended, searched, nodes_in}
use Rattle.step_run.specs.Deciding.{is_valid, tree_in, trees_in, AreValid, EndsAt, found_from, all_before, FoundTo, EndsFrom, AreNext}
use Rattle.step_run.proofs.Verdicts.{verdict_is, by_valid, answers_same, modest_answers}

-- certificates before what is found behind them
before_append : (ts us : List Tree) (found : Verified) → all_before (ts ++ us) found ≡ all_before ts (all_before us found)
before_append [] us found = refl
before_append (t ∷ ts) us found = ap (found_before t) (before_append ts us found)

before_all : (ts us : List Tree) → all_before ts (all_found us) ≡ all_found (ts ++ us)
before_all [] us = refl
before_all (t ∷ ts) us = ap (found_before t) (before_all ts us)

first_ended : (x : Posed) (all : List Tree → Outcome) (t : Tree) (found : Verified) → search_ended x all (found_before t found) ≡ search_ended x (λ ts. all (t ∷ ts)) found
first_ended x all t (all_found ts) = refl
first_ended x all t (left_open n c path state) = refl
first_ended x all t (given_up n c path stage) = refl

before_ended : (x : Posed) (all : List Tree → Outcome) (ts : List Tree) (found : Verified) → search_ended x all (all_before ts found) ≡ search_ended x (λ us. all (ts ++ us)) found
before_ended x all [] found = refl
before_ended x all (t ∷ ts) found = first_ended x all t (all_before ts found) ∙ before_ended x (λ us. all (t ∷ us)) ts found

-- from one place to another
pub found_on : (x : Posed) (from mid to : ℕ) (ts us : List Tree) → FoundTo x from mid ts → FoundTo x mid to us → FoundTo x from to (ts ++ us)
found_on x from mid to ts us first more = first ∙ ap (all_before ts) more ∙ sym (before_append ts us (found_from x to))

pub ends_on : (x : Posed) (from place : ℕ) (ts : List Tree) (o : Outcome) → FoundTo x from place ts → EndsFrom x place o → EndsFrom x from o
ends_on x from place ts o found ends = λ all. ends (λ us. all (ts ++ us)) ∙ sym (before_ended x all ts (found_from x place)) ∙ ap (search_ended x all) (sym found)

-- the condition at a place comes first
rest_at : (cs : List Condition) (place : ℕ) (any : Condition) → place < length cs → drop place (plains cs) ≡ plain_condition (get_or cs place any) ∷ drop (suc place) (plains cs)
rest_at [] place any lt = absurd (omega (arith, lt))
rest_at (c ∷ cs) zero any lt = refl
rest_at (c ∷ cs) (suc place) any lt = rest_at cs place any (omega (arith, lt))

module _ (x : Posed) (cs : List Condition) (are : x.conditions ≡ plains cs) where
  pub found_step : (place : ℕ) (any : Condition) → place < length cs
      → found_from x place ≡ by_verdict (place + 1) (plain_condition (get_or cs place any)) (found_from x (place + 1)) (verdict_on (setting_of x.program) (plain_condition (get_or cs place any)))
  unfolding found_from
  found_step place any lt =
      let k = setting_of x.program in
      let c = plain_condition (get_or cs place any) in
      let behind : drop (suc place) (plains cs) ≡ drop (place + 1) x.conditions = ap (λ (m : ℕ). drop m (plains cs)) (sym (add-one place)) ∙ ap (drop (place + 1)) (sym are) in
      ap (verified_from k (place + 1)) (ap (drop place) are ∙ rest_at cs place any lt ∙ ap (λ (l : List Implication). c ∷ l) behind)

  -- by the verdict on it
  found_at : (place : ℕ) (any : Condition) (v : Verdict) → place < length cs → IsAnswer (setting_of x.program) (get_or cs place any) v
      → found_from x place ≡ by_verdict (place + 1) (plain_condition (get_or cs place any)) (found_from x (place + 1)) (plain_verdict v)
  found_at place any v lt answer =
      found_step place any lt ∙ ap (by_verdict (place + 1) (plain_condition (get_or cs place any)) (found_from x (place + 1))) (verdict_is (setting_of x.program) (get_or cs place any) v answer)

  pub one_found : (place : ℕ) (any : Condition) (v : Verdict) → place < length cs → IsAnswer (setting_of x.program) (get_or cs place any) v → is_valid v ≡ true → FoundTo x place (place + 1) (tree_in v ∷ [])
  one_found place any v lt answer valid = found_at place any v lt answer ∙ by_valid (place + 1) (plain_condition (get_or cs place any)) (found_from x (place + 1)) v valid

  pub one_ends : (place : ℕ) (any : Condition) (v : Verdict) (ended : Ended) → place < length cs → IsAnswer (setting_of x.program) (get_or cs place any) v
      → EndsAt x (place + 1) (plain_condition (get_or cs place any)) v (Over ended) → EndsFrom x place (ended_view ended)
  one_ends place any v ended lt answer ends = λ all. ends.0 (found_from x (place + 1)) all ∙ ap (search_ended x all) (sym (found_at place any v lt answer))

-- the verdict on the condition at a place of a slice
pub in_front : (cs : List Condition) (n i : ℕ) (any : Condition) → i < n → get_or (take n cs) i any ≡ get_or cs i any
in_front cs zero i any lt = absurd (omega (arith, lt))
in_front [] (suc n) i any lt = refl
in_front (c ∷ cs) (suc n) zero any lt = refl
in_front (c ∷ cs) (suc n) (suc i) any lt = in_front cs n i any (omega (arith, lt))

pub behind_front : (cs : List Condition) (m i : ℕ) (any : Condition) → get_or (drop m cs) i any ≡ get_or cs (m + i) any
behind_front cs zero i any = ap (λ (j : ℕ). get_or cs j any) (let e : i ≡ 0 + i = omega arith in e)
behind_front [] (suc m) i any = refl
behind_front (c ∷ cs) (suc m) i any = behind_front cs m i any ∙ ap (λ (j : ℕ). get_or (c ∷ cs) j any) (let e : suc (m + i) ≡ suc m + i = omega arith in e)

answer_in : (k : Setting) (cs : List Condition) (vs : List Verdict) (i : ℕ) (any : Condition) (v : Verdict) → AreAnswers k cs vs → i < length vs → v ≡ get_or vs i v → IsAnswer k (get_or cs i any) v
answer_in k cs [] i any v a lt is = absurd (omega (arith, lt))
answer_in k [] (w ∷ vs) i any v a lt is = absurd a
answer_in k (c ∷ cs) (w ∷ vs) zero any v a lt is = subst (IsAnswer k c) (sym is) a.0
answer_in k (c ∷ cs) (w ∷ vs) (suc i) any v a lt is = answer_in k cs vs i any v a.1 (omega (arith, lt)) is

answer_at : (k : Setting) (cs : List Condition) (vs : List Verdict) (from i : ℕ) (any : Condition) (v : Verdict) → AreAnswers k (take (length vs) (drop from cs)) vs → i < length vs → v ≡ get_or vs i v
    → IsAnswer k (get_or cs (from + i) any) v
answer_at k cs vs from i any v a lt is =
    subst (λ (c : Condition). IsAnswer k c v) (in_front (drop from cs) (length vs) i any lt ∙ behind_front cs from i any) (answer_in k (take (length vs) (drop from cs)) vs i any v a lt is)

-- one verdict more
trees_more : (vs : List Verdict) (i : ℕ) (v : Verdict) → i < length vs → v ≡ get_or vs i v → trees_in (take (suc i) vs) ≡ trees_in (take i vs) ++ tree_in v ∷ []
trees_more [] i v lt is = absurd (omega (arith, lt))
trees_more (w ∷ vs) zero v lt is = ap (λ (u : Verdict). tree_in u ∷ []) (sym is)
trees_more (w ∷ vs) (suc i) v lt is = ap (λ (ts : List Tree). tree_in w ∷ ts) (trees_more vs i v (omega (arith, lt)) is)

valid_more : (vs : List Verdict) (i : ℕ) (v : Verdict) → i < length vs → v ≡ get_or vs i v → is_valid v ≡ true → AreValid (take i vs) → AreValid (take (suc i) vs)
valid_more [] i v lt is valid all = absurd (omega (arith, lt))
valid_more (w ∷ vs) zero v lt is valid all = (ap is_valid (sym is) ∙ valid, tt)
valid_more (w ∷ vs) (suc i) v lt is valid all = (all.0, valid_more vs i v (omega (arith, lt)) is valid all.1)

pub some_of : (cs : List Condition) → 0 < length cs → Condition
some_of [] some = absurd (omega (arith, some))
some_of (c ∷ cs) some = c

-- how far verdicts on the conditions from a place on have been looked at
pub record Looked (x : Posed) (from : ℕ) (vs : List Verdict) (i : ℕ) : Type 0 where
  pub valid : AreValid (take i vs)
  pub found : FoundTo x from (from + i) (trees_in (take i vs))

module _ (x : Posed) (cs : List Condition) (vs : List Verdict) (from i : ℕ) (v : Verdict) (are : x.conditions ≡ plains cs) (within : from + length vs ≤ length cs) where
  module _ (answers : AreAnswers (setting_of x.program) (take (length vs) (drop from cs)) vs) (lt : i < length vs) (is : v ≡ get_or vs i v) (looked : Looked x from vs i) where
    answer : (any : Condition) → IsAnswer (setting_of x.program) (get_or cs (from + i) any) v
    answer any = answer_at (setting_of x.program) cs vs from i any v answers lt is

    -- as the code has it, which says it of the condition at a place whatever stands for one that isn't there
    pub one_looked : (place : ℕ) (s : Stage (Unit {0})) (u : Unit {0}) → place ≡ from + i → s ≡ On u → ((any : Condition) → EndsAt x (place + 1) (plain_condition (get_or cs place any)) v s) → Looked x from vs (i + 1)
    one_looked place s u at is_on ends =
        let any = some_of cs (omega (arith, within, lt)) in
        let valid : is_valid v ≡ true = subst (EndsAt x (place + 1) (plain_condition (get_or cs place any)) v) is_on (ends any) in
        let one = one_found x cs are (from + i) any v (omega (arith, within, lt)) (answer any) valid in
        let more = found_on x from (from + i) (from + i + 1) (trees_in (take i vs)) (tree_in v ∷ []) looked.found one in
        let sum : from + i + 1 ≡ from + (i + 1) = omega arith in
        let there : FoundTo x from (from + (i + 1)) (trees_in (take i vs) ++ tree_in v ∷ []) = subst (λ (m : ℕ). FoundTo x from m (trees_in (take i vs) ++ tree_in v ∷ [])) sum more in
        let next : suc i ≡ i + 1 = sym (add-one i) in
        record {
          valid = subst (λ (m : ℕ). AreValid (take m vs)) next (valid_more vs i v lt is valid looked.valid);
          found = subst (λ (m : ℕ). FoundTo x from (from + (i + 1)) (trees_in (take m vs))) next (subst (FoundTo x from (from + (i + 1))) (sym (trees_more vs i v lt is)) there);
        }

    pub looked_ends : (place : ℕ) (s : Stage (Unit {0})) (ended : Ended) → place ≡ from + i → s ≡ Over ended → ((any : Condition) → EndsAt x (place + 1) (plain_condition (get_or cs place any)) v s) → EndsFrom x from (ended_view ended)
    looked_ends place s ended at is_over ends =
        let any = some_of cs (omega (arith, within, lt)) in
        let here = subst (EndsAt x (place + 1) (plain_condition (get_or cs place any)) v) is_over (ends any) in
        let there : EndsAt x (from + i + 1) (plain_condition (get_or cs (from + i) any)) v (Over ended) = subst (λ (p : ℕ). EndsAt x (p + 1) (plain_condition (get_or cs p any)) v (Over ended)) at here in
        ends_on x from (from + i) (trees_in (take i vs)) (ended_view ended) looked.found (one_ends x cs are (from + i) any v ended (omega (arith, within, lt)) (answer any) there)

-- the verdicts on a slice, as many as its conditions
pub next_answers : (k : Setting) (cs : List Condition) (vs : List Verdict) (from to : ℕ) → from ≤ to → to ≤ length cs → AreAnswers k (take (to - from) (drop from cs)) vs
    → (from + length vs ≡ to) × AreAnswers k (take (length vs) (drop from cs)) vs
next_answers k cs vs from to order within answers =
    let same = answers_same k (take (to - from) (drop from cs)) vs answers in
    let front = length-take (to - from) (drop from cs) in
    let rest = length-drop from cs in
    let sized : length vs ≡ to - from = omega (arith, order, within, same, front, rest) in
    (omega (arith, order, sized), subst (λ (m : ℕ). AreAnswers k (take m (drop from cs)) vs) (sym sized) answers)

pub goes_next : (x : Posed) (cs : List Condition) (vs : List Verdict) (place to : ℕ) → x.conditions ≡ plains cs → place < to → to ≤ length cs → AreAnswers (setting_of x.program) (take (to - place) (drop place cs)) vs
    → AreValid vs × FoundTo x place (place + length vs) (trees_in vs) → AreNext x place vs
goes_next x cs vs place to are order within answers settled =
    let next = next_answers (setting_of x.program) cs vs place to (omega (arith, order)) within answers in
    let sized : length x.conditions ≡ length cs = ap length are ∙ length-map cs plain_condition in
    record {
      some = omega (arith, order, next.0);
      within = omega (arith, within, next.0, sized);
      valid = settled.0;
      modest = modest_answers (setting_of x.program) (take (to - place) (drop place cs)) vs answers;
      found = settled.1;
    }

-- how far a search has come, and what is kept of the certificates
pub record Come (x : Posed) (place : ℕ) (Kept : List Tree → Type 0) : Type 0 where
  pub within : place ≤ length x.conditions
  pub trees : List Tree
  pub as_many : length trees ≡ place
  pub found : FoundTo x 0 place trees
  pub kept : Kept trees

pub trees_length : (vs : List Verdict) → length (trees_in vs) ≡ length vs
trees_length [] = refl
trees_length (v ∷ vs) = ap suc (trees_length vs)

pub come_on : (x : Posed) (place : ℕ) (Kept Keeps : List Tree → Type 0) (vs : List Verdict) → Come x place Kept → AreNext x place vs → ((ts : List Tree) → length ts ≡ place → Kept ts → Keeps (ts ++ trees_in vs)) → Come x (place + length vs) Keeps
come_on x place Kept Keeps vs come next keep = record {
  within = next.within;
  trees = come.trees ++ trees_in vs;
  as_many = (let a = length-append come.trees (trees_in vs) in let b = trees_length vs in let c = come.as_many in omega (arith, a, b, c));
  found = found_on x 0 place (place + length vs) come.trees (trees_in vs) come.found next.found;
  kept = keep come.trees come.as_many come.kept;
}

-- the same by one condition
pub come_one : (x : Posed) (place : ℕ) (Kept Keeps : List Tree → Type 0) (t : Tree) → place < length x.conditions → Come x place Kept → FoundTo x place (place + 1) (t ∷ []) → ((ts : List Tree) → length ts ≡ place → Kept ts → Keeps (ts ++ t ∷ [])) → Come x (place + 1) Keeps
come_one x place Kept Keeps t below come next keep = record {
  within = omega (arith, below);
  trees = come.trees ++ t ∷ [];
  as_many = (let a = length-append come.trees (t ∷ []) in let c = come.as_many in omega (arith, a, c));
  found = found_on x 0 place (place + 1) come.trees (t ∷ []) come.found next;
  kept = keep come.trees come.as_many come.kept;
}

-- the outcome, at the end and where the run ends before
unsearched : (x : Posed) (all : List Tree → Outcome) → searched x all ≡ search_ended x all (found_from x 0)
unfolding searched found_from
unsearched x all = refl

drop_all : (cs : List Implication) (n : ℕ) → length cs ≤ n → drop n cs ≡ []
drop_all [] zero h = refl
drop_all [] (suc n) h = refl
drop_all (c ∷ cs) zero h = absurd (omega (arith, h))
drop_all (c ∷ cs) (suc n) h = drop_all cs n (omega (arith, h))

none_left : (x : Posed) (place : ℕ) → length x.conditions ≤ place → found_from x place ≡ all_found []
unfolding found_from
none_left x place h = ap (verified_from (setting_of x.program) (place + 1)) (drop_all x.conditions place h)

pub come_to_end : (x : Posed) (place : ℕ) (Kept : List Tree → Type 0) (all : List Tree → Outcome) → length x.conditions ≤ place → Come x place Kept → (ts : List Tree) × Kept ts × (searched x all ≡ all ts)
come_to_end x place Kept all past come = (
  come.trees,
  come.kept,
  unsearched x all ∙ ap (search_ended x all) (come.found ∙ ap (all_before come.trees) (none_left x place past) ∙ before_all come.trees []) ∙ ap all (append-nil come.trees),
)

pub come_over : (x : Posed) (place : ℕ) (Kept : List Tree → Type 0) (all : List Tree → Outcome) (o : Outcome) → Come x place Kept → EndsFrom x place o → o ≡ searched x all
come_over x place Kept all o come ends = ends_on x 0 place come.trees o come.found ends all ∙ sym (unsearched x all)

-- the nodes of all certificates
pub nodes_append : (ts us : List Tree) → nodes_in (ts ++ us) ≡ nodes_in ts + nodes_in us
nodes_append [] us = (let e : nodes_in us ≡ 0 + nodes_in us = omega arith in e)
nodes_append (t ∷ ts) us = let rest = nodes_append ts us in omega (arith, rest)

-- the blocks of all certificates
blocks_append : (n : ℕ) (ts us : List Tree) → blocks_text n (ts ++ us) ≡ blocks_text n ts ++ blocks_text (n + length ts) us
blocks_append n [] us = ap (λ (m : ℕ). blocks_text m us) (let e : n ≡ n + 0 = omega arith in e)
blocks_append n (t ∷ ts) us =
    ap (λ (l : List ℕ). block_text n t ++ l) (blocks_append (n + 1) ts us ∙ ap (λ (m : ℕ). blocks_text (n + 1) ts ++ blocks_text m us) (let e : n + 1 + length ts ≡ n + suc (length ts) = omega arith in e))
    ∙ sym (append_assoc (block_text n t) (blocks_text (n + 1) ts) (blocks_text (n + suc (length ts)) us))

pub certificates_append : (ts us : List Tree) (first : ℕ) → first ≡ length ts + 1 → certificates_text ts ++ blocks_text first us ≡ certificates_text (ts ++ us)
certificates_append ts us first is =
    ap (λ (m : ℕ). certificates_text ts ++ blocks_text m us) (let e : first ≡ 1 + length ts = omega (arith, is) in e)
    ∙ append_assoc (codes "version 2;\n") (blocks_text 1 ts) (blocks_text (1 + length ts) us) ∙ ap (λ (l : List ℕ). codes "version 2;\n" ++ l) (sym (blocks_append 1 ts us))

pub written_one : (ts : List Tree) (t : Tree) (place : ℕ) → length ts ≡ place → certificates_text ts ++ block_text (place + 1) t ≡ certificates_text (ts ++ t ∷ [])
written_one ts t place many =
    ap (λ (l : List ℕ). certificates_text ts ++ l) (sym (append-nil (block_text (place + 1) t))) ∙ certificates_append ts (t ∷ []) (place + 1) (let e : place + 1 ≡ length ts + 1 = omega (arith, many) in e)
