use Rattle.std.proofs.Common.{◌≡◌, ℕ, ◌+◌, ◌-◌, ◌<◌, true, false, List, [], ◌∷◌, ◌++◌, map, length, take, drop, get_or, refl, ap, ◌∙◌, sym, Option, Some, None, arith, append_assoc, replicate, suc, ◌≤◌}
use Rattle.std.specs.Prelude.{◌==◌, slice_set}
use Rattle.std.proofs.lemmas.List.{drop_more, take_more, append-nil}
use Rattle.st_linear.specs.Linear.{Linear}
use Rattle.st_form.specs.Formula.{Formula, Formulas, truth_value, row, equal, bool_var, at, negation, every, some, none, more}
use Rattle.st_form.specs.Simple.{append, opened}
use Rattle.st_form.specs.Plain.{plain, plain_list}
use Rattle.st_form.specs.declared.Form.{Form}
use Rattle.st_form.proofs.Simples.{plain_list-append}
use Rattle.control_states.specs.declared.alternative.Alternative.{Alternative}
use Rattle.control_states.specs.Control.{ControlFacts}
use Rattle.st_linear.specs.declared.rows.Line.{Line}
use Rattle.farkas_check.specs.Problem.{Problem, posed, case_problems, with_conjuncts, split_problems, in_place, disjuncts_of, split_by, split_from, rows_with, rows_of, lines_with, lines_of}

map-append : {A B : Type 0} (f : A → B) (xs ys : List A) → map f (xs ++ ys) ≡ map f xs ++ map f ys
map-append f [] ys = refl
map-append f (x ∷ xs) ys = ap (λ l. f x ∷ l) (map-append f xs ys)

-- one more in front of what is to come
pub pushed : {A B : Type 0} (f : A → B) (xs : List A) (x : A) (rest whole : List B) → map f xs ++ (f x ∷ rest) ≡ whole → map f (xs ++ x ∷ []) ++ rest ≡ whole
pushed f xs x rest whole h = ap (λ l. l ++ rest) (map-append f xs (x ∷ [])) ∙ append_assoc (map f xs) (f x ∷ []) rest ∙ h

pub case-more : (k : ControlFacts) (p : Problem) (fs : Formulas) (c : ℕ) (choices : List Alternative) (i : ℕ) (d : Alternative) (q : Problem) → i < length choices
    → q ≡ posed k (slice_set p.cases c (Some (get_or choices i d))) p.truths fs → q ∷ case_problems k p fs c (drop (i + 1) choices) ≡ case_problems k p fs c (drop i choices)
case-more k p fs c choices i d q h e = ap (λ x. x ∷ case_problems k p fs c (drop (i + 1) choices)) e ∙ sym (ap (case_problems k p fs c) (drop_more choices i d h))

listed : (fs : List Form) (i : ℕ) (f : Form) → i < length fs → f ≡ get_or fs i f → plain_list (drop i fs) ≡ more (plain f) (plain_list (drop (i + 1) fs))
listed fs i f h e = ap plain_list (drop_more fs i f h) ∙ ap (λ g. more (plain g) (plain_list (drop (i + 1) fs))) (sym e)

pub split-more : (p : Problem) (before behind : Formulas) (ds : List Form) (i : ℕ) (f : Form) (q : Problem) → i < length ds → f ≡ get_or ds i f
    → q ≡ with_conjuncts p (Some (append before (append (opened (plain f)) behind))) → q ∷ split_problems p (in_place before (plain_list (drop (i + 1) ds)) behind) ≡ split_problems p (in_place before (plain_list (drop i ds)) behind)
split-more p before behind ds i f q h a e =
    ap (λ x. x ∷ split_problems p (in_place before (plain_list (drop (i + 1) ds)) behind)) e ∙ sym (ap (λ g. split_problems p (in_place before g behind)) (listed ds i f h a))

front : (fs : List Form) (i : ℕ) (f : Form) → i < length fs → f ≡ get_or fs i f → append (plain_list (take i fs)) (more (plain f) none) ≡ plain_list (take (i + 1) fs)
front fs i f h e =
    let next : take (i + 1) fs ≡ take i fs ++ get_or fs i f ∷ [] = take_more fs i f h in
    ap (λ g. append (plain_list (take i fs)) (more (plain g) none)) e ∙ sym (ap plain_list next ∙ plain_list-append (take i fs) (get_or fs i f ∷ []))

at-formula : (fs : List Form) (i : ℕ) (f : Form) (k : ℕ) → i < length fs → f ≡ get_or fs i f
    → split_from (plain_list (take i fs)) k (plain_list (drop i fs)) ≡ split_by (plain_list (take i fs)) k (plain_list (drop (i + 1) fs)) (λ j. split_from (plain_list (take (i + 1) fs)) j (plain_list (drop (i + 1) fs))) (disjuncts_of (plain f))
at-formula fs i f k h e =
    ap (split_from (plain_list (take i fs)) k) (listed fs i f h e)
    ∙ ap (λ b. split_by (plain_list (take i fs)) k (plain_list (drop (i + 1) fs)) (λ j. split_from b j (plain_list (drop (i + 1) fs))) (disjuncts_of (plain f))) (front fs i f h e)

-- no disjunction: on to the next
pub split-on : (fs : List Form) (i : ℕ) (f : Form) (k : ℕ) (whole : Option (List Formulas)) → i < length fs → f ≡ get_or fs i f → None ≡ disjuncts_of (plain f)
    → split_from (plain_list (take i fs)) k (plain_list (drop i fs)) ≡ whole → split_from (plain_list (take (i + 1) fs)) k (plain_list (drop (i + 1) fs)) ≡ whole
split-on fs i f k whole h e n g = let s = rw (← n) at (at-formula fs i f k h e) in sym s ∙ g

-- an earlier disjunction: on to the next
pub split-past : (fs : List Form) (i : ℕ) (f : Form) (k : ℕ) (gs : Formulas) (whole : Option (List Formulas)) → i < length fs → f ≡ get_or fs i f → Some gs ≡ disjuncts_of (plain f) → (k == 0) ≡ false
    → split_from (plain_list (take i fs)) k (plain_list (drop i fs)) ≡ whole → split_from (plain_list (take (i + 1) fs)) (k - 1) (plain_list (drop (i + 1) fs)) ≡ whole
split-past fs i f k gs whole h e n z g = let s = rw (← n, z) at (at-formula fs i f k h e) in sym s ∙ g

-- the disjunction
pub split-here : (fs : List Form) (i : ℕ) (f : Form) (k : ℕ) (gs : Formulas) (whole : Option (List Formulas)) → i < length fs → f ≡ get_or fs i f → Some gs ≡ disjuncts_of (plain f) → (k == 0) ≡ true
    → split_from (plain_list (take i fs)) k (plain_list (drop i fs)) ≡ whole → Some (in_place (plain_list (take i fs)) gs (plain_list (drop (i + 1) fs))) ≡ whole
split-here fs i f k gs whole h e n z g = let s = rw (← n, z) at (at-formula fs i f k h e) in sym s ∙ g

pub rows_with-front : (f : Formula) (rest : List Linear) → rows_with f rest ≡ rows_with f [] ++ rest
rows_with-front (row f) rest = refl
rows_with-front (equal f) rest = refl
rows_with-front (truth_value b) rest = refl
rows_with-front (bool_var v) rest = refl
rows_with-front (at l) rest = refl
rows_with-front (negation f) rest = refl
rows_with-front (every fs) rest = refl
rows_with-front (some fs) rest = refl

lines_with-front : (f : Formula) (rest : List Line) → lines_with f rest ≡ lines_with f [] ++ rest
lines_with-front (row f) rest = refl
lines_with-front (equal f) rest = refl
lines_with-front (truth_value b) rest = refl
lines_with-front (bool_var v) rest = refl
lines_with-front (at l) rest = refl
lines_with-front (negation f) rest = refl
lines_with-front (every fs) rest = refl
lines_with-front (some fs) rest = refl

pub rows-more : (out m whole : List Linear) (fs : List Form) (i : ℕ) (f : Form) → i < length fs → f ≡ get_or fs i f → m ≡ rows_with (plain f) [] → out ++ rows_of (plain_list (drop i fs)) ≡ whole → (out ++ m) ++ rows_of (plain_list (drop (i + 1) fs)) ≡ whole
rows-more out m whole fs i f h e a g =
    append_assoc out m (rows_of (plain_list (drop (i + 1) fs)))
    ∙ ap (λ l. out ++ (l ++ rows_of (plain_list (drop (i + 1) fs)))) a
    ∙ ap (λ l. out ++ l) (sym (ap rows_of (listed fs i f h e) ∙ rows_with-front (plain f) (rows_of (plain_list (drop (i + 1) fs))))) ∙ g

pub lines-more : (out m whole : List Line) (fs : List Form) (i : ℕ) (f : Form) → i < length fs → f ≡ get_or fs i f → m ≡ lines_with (plain f) [] → out ++ lines_of (plain_list (drop i fs)) ≡ whole → (out ++ m) ++ lines_of (plain_list (drop (i + 1) fs)) ≡ whole
lines-more out m whole fs i f h e a g =
    append_assoc out m (lines_of (plain_list (drop (i + 1) fs)))
    ∙ ap (λ l. out ++ (l ++ lines_of (plain_list (drop (i + 1) fs)))) a
    ∙ ap (λ l. out ++ l) (sym (ap lines_of (listed fs i f h e) ∙ lines_with-front (plain f) (lines_of (plain_list (drop (i + 1) fs))))) ∙ g

-- one of n equal elements more
pub one-less : {A : Type 0} (out : List A) (n i : ℕ) (a : A) (whole : List A) → i < n → out ++ replicate (n - i) a ≡ whole → (out ++ a ∷ []) ++ replicate (n - (i + 1)) a ≡ whole
one-less out n i a whole h g =
    let e : n - i ≡ suc (n - (i + 1)) = omega arith in
    append_assoc out (a ∷ []) (replicate (n - (i + 1)) a) ∙ sym (ap (λ k. out ++ replicate k a) e) ∙ g

pub none-left : {A : Type 0} (out : List A) (n i : ℕ) (a : A) (whole : List A) → n ≤ i → out ++ replicate (n - i) a ≡ whole → out ≡ whole
none-left out n i a whole h g =
    let e : n - i ≡ 0 = omega arith in
    sym (append-nil out) ∙ sym (ap (λ k. out ++ replicate k a) e) ∙ g
