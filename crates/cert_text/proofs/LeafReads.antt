use Rattle.std.proofs.Common.{◌≡◌, ℕ, ◌+◌, ◌<◌, ◌≤◌, Bool, true, false, cond, ◌||◌, List, [], ◌∷◌, ◌++◌, map, refl, sym, ap, ◌∙◌, arith, nat_le, ◌==◌, ℤ}
use Rattle.std.proofs.Common.{append_assoc}
use Rattle.std.proofs.lemmas.List.{append-nil}
use Rattle.std.proofs.lemmas.Bool.Decides.{nat_tests}
use Rattle.cert_text.specs.declared.scan.Want.{Want}
use Rattle.cert_text.specs.declared.scan.Want.TheVariants as wants
use Rattle.cert_text.specs.declared.scan.Action.{Action}
use Rattle.cert_text.specs.declared.scan.Action.TheVariants as actions
use Rattle.cert_text.specs.declared.scan.Given.TheVariants as givens
use Rattle.cert_text.specs.declared.scan.Token.{Token}
use Rattle.cert_text.specs.declared.scan.Token.TheVariants as tokens
use Rattle.cert_text.specs.Control.{behind}
use Rattle.st_certificate.specs.Tree.{Tree, farkas, linear}
use Rattle.cert_text.specs.Tree.{Built, Open, signed_of}
use Rattle.cert_text.specs.Grammar.{Int, entry_of, pick_tokens, picks_tokens, picks_over, line_tokens, lines_tokens, lines_over, int_tokens, term_tokens, terms_tokens, more_terms, terms_over, is_long, is_long_entry, is_long_pick, AreTerms}
use Rattle.cert_text.specs.Run.{Run, passed, go, run, scan_at, want_behind}
use Rattle.cert_text.proofs.PickReads.{joined_over, go_cond, not_none, one_less}

-- what is built, nothing half read but these
abbrev pub built_with : List Tree → List Open → List (ℕ × ℕ) → List (ℕ × ℤ) → List (ℕ × ℤ) → Built
built_with ts os ps ls es = record { trees = ts; outer = os; picks = ps; lines = ls; terms = es }

abbrev pub built_at : List Tree → List Open → Built
built_at ts os = built_with ts os [] [] []

pub behind_is : (number : ℕ) (second : Bool) (want : Want) (depth trees d : ℕ) (action : Action) → behind (scan_at number second want depth trees) d action ≡ givens.On (scan_at number second (want_behind d) d trees) action
behind_is number second want depth trees d action = elim (d == 0) as (λ b. cond b (givens.On (scan_at number second wants.End d trees) action) (givens.On (scan_at number second (wants.Tree true) d trees) action) ≡ givens.On (scan_at number second (cond b wants.End (wants.Tree true)) d trees) action) [ true ↦ refl | false ↦ refl ]

pub cond_under : (b : Bool) (x y z : Run) → (b ≡ false → y ≡ z) → cond b x y ≡ cond b x z
cond_under true x y z h = refl
cond_under false x y z h = h refl

pick_read : (number : ℕ) (second : Bool) (depth trees count : ℕ) (p : ℕ × ℕ) (k : List Token) (ts : List Tree) (os : List Open) (xs : List (ℕ × ℕ)) → run (pick_tokens p k) (scan_at number second (wants.Row false count) depth trees) (built_with ts os xs [] []) ≡ cond (is_long_pick count p.0 p.1) passed (run k (scan_at number second (wants.MorePicks false (count + 1)) depth trees) (built_with ts os (xs ++ p ∷ []) [] []))
pick_read number second depth trees count p k ts os xs = simp (not_none, go_cond, joined_over, one_less)

picks_closed_read : (number : ℕ) (second : Bool) (depth trees count : ℕ) (k : List Token) (ts : List Tree) (os : List Open) (xs : List (ℕ × ℕ)) → run (tokens.Sign 93 ∷ k) (scan_at number second (wants.MorePicks false count) depth trees) (built_with ts os xs [] []) ≡ run k (scan_at number second (want_behind depth) depth trees) (built_at (ts ++ farkas xs ∷ []) os)
picks_closed_read number second depth trees count k ts os xs = ap (λ g. go g (built_with ts os xs [] []) (run k)) (behind_is number second (wants.MorePicks false count) depth trees depth actions.Farkas)

picks_read : (number : ℕ) (second : Bool) (depth trees count : ℕ) (ps : List (ℕ × ℕ)) (k : List Token) (ts : List Tree) (os : List Open) (xs : List (ℕ × ℕ)) → run (picks_tokens ps (tokens.Sign 93 ∷ k)) (scan_at number second (wants.MorePicks false count) depth trees) (built_with ts os xs [] []) ≡ cond (picks_over count ps) passed (run k (scan_at number second (want_behind depth) depth trees) (built_at (ts ++ farkas (xs ++ ps) ∷ []) os))
picks_read number second depth trees count [] k ts os xs = picks_closed_read number second depth trees count k ts os xs ∙ ap (λ ys. run k (scan_at number second (want_behind depth) depth trees) (built_at (ts ++ farkas ys ∷ []) os)) (sym (append-nil xs))
picks_read number second depth trees count (p ∷ ps) k ts os xs =
    pick_read number second depth trees count p (picks_tokens ps (tokens.Sign 93 ∷ k)) ts os xs
    ∙ ap (cond (is_long_pick count p.0 p.1) passed) (picks_read number second depth trees (count + 1) ps k ts os (xs ++ p ∷ []) ∙ ap (λ ys. cond (picks_over (count + 1) ps) passed (run k (scan_at number second (want_behind depth) depth trees) (built_at (ts ++ farkas ys ∷ []) os))) (append_assoc xs (p ∷ []) ps))
    ∙ joined_over (is_long_pick count p.0 p.1) (picks_over (count + 1) ps) (run k (scan_at number second (want_behind depth) depth trees) (built_at (ts ++ farkas (xs ++ p ∷ ps) ∷ []) os))

-- the picks of a leaf, to their closing bracket
pub leaf_read : (number : ℕ) (second : Bool) (depth trees : ℕ) (p : ℕ × ℕ) (ps : List (ℕ × ℕ)) (k : List Token) (ts : List Tree) (os : List Open) → run (tokens.Sign 91 ∷ pick_tokens p (picks_tokens ps (tokens.Sign 93 ∷ k))) (scan_at number second (wants.Picks false) depth trees) (built_at ts os) ≡ cond (picks_over 0 (p ∷ ps)) passed (run k (scan_at number second (want_behind depth) depth trees) (built_at (ts ++ farkas (p ∷ ps) ∷ []) os))
leaf_read number second depth trees p ps k ts os =
    pick_read number second depth trees 0 p (picks_tokens ps (tokens.Sign 93 ∷ k)) ts os []
    ∙ ap (cond (is_long_pick 0 p.0 p.1) passed) (picks_read number second depth trees 1 ps k ts os (p ∷ []))
    ∙ joined_over (is_long_pick 0 p.0 p.1) (picks_over 1 ps) (run k (scan_at number second (want_behind depth) depth trees) (built_at (ts ++ farkas (p ∷ ps) ∷ []) os))

line_read : (number : ℕ) (second : Bool) (depth trees count row : ℕ) (negative : Bool) (n : ℕ) (k : List Token) (ts : List Tree) (os : List Open) (xs : List (ℕ × ℤ)) → run (line_tokens (row, (negative, n)) k) (scan_at number second (wants.Row true count) depth trees) (built_with ts os [] xs []) ≡ cond (is_long_pick count row n) passed (run k (scan_at number second (wants.MorePicks true (count + 1)) depth trees) (built_with ts os [] (xs ++ (row, signed_of negative n) ∷ []) []))
line_read number second depth trees count row true n k ts os xs = simp (not_none, go_cond, joined_over, one_less)
line_read number second depth trees count row false n k ts os xs = simp (not_none, go_cond, joined_over, one_less)

lines_closed_read : (number : ℕ) (second : Bool) (depth trees count : ℕ) (k : List Token) (ts : List Tree) (os : List Open) (xs : List (ℕ × ℤ)) → run (tokens.Sign 93 ∷ k) (scan_at number second (wants.MorePicks true count) depth trees) (built_with ts os [] xs []) ≡ run k (scan_at number second (want_behind depth) depth trees) (built_at (ts ++ linear xs ∷ []) os)
lines_closed_read number second depth trees count k ts os xs = ap (λ g. go g (built_with ts os [] xs []) (run k)) (behind_is number second (wants.MorePicks true count) depth trees depth actions.Linear)

lines_read : (number : ℕ) (second : Bool) (depth trees count : ℕ) (ps : List (ℕ × Int)) (k : List Token) (ts : List Tree) (os : List Open) (xs : List (ℕ × ℤ)) → run (lines_tokens ps (tokens.Sign 93 ∷ k)) (scan_at number second (wants.MorePicks true count) depth trees) (built_with ts os [] xs []) ≡ cond (lines_over count ps) passed (run k (scan_at number second (want_behind depth) depth trees) (built_at (ts ++ linear (xs ++ map entry_of ps) ∷ []) os))
lines_read number second depth trees count [] k ts os xs = lines_closed_read number second depth trees count k ts os xs ∙ ap (λ ys. run k (scan_at number second (want_behind depth) depth trees) (built_at (ts ++ linear ys ∷ []) os)) (sym (append-nil xs))
lines_read number second depth trees count (p ∷ ps) k ts os xs =
    line_read number second depth trees count p.0 p.1.0 p.1.1 (lines_tokens ps (tokens.Sign 93 ∷ k)) ts os xs
    ∙ ap (cond (is_long_pick count p.0 p.1.1) passed) (lines_read number second depth trees (count + 1) ps k ts os (xs ++ entry_of p ∷ []) ∙ ap (λ ys. cond (lines_over (count + 1) ps) passed (run k (scan_at number second (want_behind depth) depth trees) (built_at (ts ++ linear ys ∷ []) os))) (append_assoc xs (entry_of p ∷ []) (map entry_of ps)))
    ∙ joined_over (is_long_pick count p.0 p.1.1) (lines_over (count + 1) ps) (run k (scan_at number second (want_behind depth) depth trees) (built_at (ts ++ linear (xs ++ map entry_of (p ∷ ps)) ∷ []) os))

pub linear_read : (number : ℕ) (second : Bool) (depth trees : ℕ) (p : ℕ × Int) (ps : List (ℕ × Int)) (k : List Token) (ts : List Tree) (os : List Open) → run (tokens.Sign 91 ∷ line_tokens p (lines_tokens ps (tokens.Sign 93 ∷ k))) (scan_at number second (wants.Picks true) depth trees) (built_at ts os) ≡ cond (lines_over 0 (p ∷ ps)) passed (run k (scan_at number second (want_behind depth) depth trees) (built_at (ts ++ linear (map entry_of (p ∷ ps)) ∷ []) os))
linear_read number second depth trees p ps k ts os =
    line_read number second depth trees 0 p.0 p.1.0 p.1.1 (lines_tokens ps (tokens.Sign 93 ∷ k)) ts os []
    ∙ ap (cond (is_long_pick 0 p.0 p.1.1) passed) (lines_read number second depth trees 1 ps k ts os (entry_of p ∷ []))
    ∙ joined_over (is_long_pick 0 p.0 p.1.1) (lines_over 1 ps) (run k (scan_at number second (want_behind depth) depth trees) (built_at (ts ++ linear (map entry_of (p ∷ ps)) ∷ []) os))

no_zero : (n : ℕ) → 0 < n → (n == 0) ≡ false
no_zero n h = grind (arith, nat_tests)

rises : (v low : ℕ) → low ≤ v → nat_le (v + 1) low ≡ false
rises v low h = grind (arith, nat_tests)

term_read : (number : ℕ) (second : Bool) (depth trees : ℕ) (first : Bool) (low v : ℕ) (negative : Bool) (n : ℕ) (k : List Token) (ts : List Tree) (os : List Open) (es : List (ℕ × ℤ)) → low ≤ v → 0 < n → run (term_tokens (v, (negative, n)) k) (scan_at number second (wants.Coefficient first false low) depth trees) (built_with ts os [] [] es) ≡ cond (is_long_entry n || is_long (v + 1)) passed (run k (scan_at number second (wants.MoreTerms (v + 1)) depth trees) (built_with ts os [] [] (es ++ (v, signed_of negative n) ∷ [])))
term_read number second depth trees first low v true n k ts os es l p = let a = no_zero n p in let b = rises v low l in simp (a, b, go_cond, joined_over, one_less)
term_read number second depth trees first low v false n k ts os es l p = let a = no_zero n p in let b = rises v low l in simp (a, b, go_cond, joined_over, one_less)

-- behind a term: the terms that are left, and the sign before the constant
more_terms_read : (number : ℕ) (second : Bool) (depth trees last : ℕ) (us : List (ℕ × Int)) (k : List Token) (ts : List Tree) (os : List Open) (es : List (ℕ × ℤ)) → AreTerms last us → run (more_terms us (tokens.Sign 59 ∷ k)) (scan_at number second (wants.MoreTerms last) depth trees) (built_with ts os [] [] es) ≡ cond (terms_over us) passed (run k (scan_at number second (wants.Constant false) depth trees) (built_with ts os [] [] (es ++ map entry_of us)))
more_terms_read number second depth trees last [] k ts os es h = ap (λ ys. run k (scan_at number second (wants.Constant false) depth trees) (built_with ts os [] [] ys)) (sym (append-nil es))
more_terms_read number second depth trees last (u ∷ us) k ts os es h =
    let over = is_long_entry u.1.1 || is_long (u.0 + 1) in
    let done = λ (ys : List (ℕ × ℤ)). run k (scan_at number second (wants.Constant false) depth trees) (built_with ts os [] [] ys) in
    term_read number second depth trees false last u.0 u.1.0 u.1.1 (more_terms us (tokens.Sign 59 ∷ k)) ts os es h.0 h.1
    ∙ ap (cond over passed) (more_terms_read number second depth trees (u.0 + 1) us k ts os (es ++ entry_of u ∷ []) h.2 ∙ ap (λ ys. cond (terms_over us) passed (done ys)) (append_assoc es (entry_of u ∷ []) (map entry_of us)))
    ∙ joined_over over (terms_over us) (done (es ++ map entry_of (u ∷ us)))

pub terms_read : (number : ℕ) (second : Bool) (depth trees : ℕ) (us : List (ℕ × Int)) (k : List Token) (ts : List Tree) (os : List Open) → AreTerms 0 us → run (terms_tokens us (tokens.Sign 59 ∷ k)) (scan_at number second (wants.Coefficient true false 0) depth trees) (built_at ts os) ≡ cond (terms_over us) passed (run k (scan_at number second (wants.Constant false) depth trees) (built_with ts os [] [] (map entry_of us)))
terms_read number second depth trees [] k ts os h = refl
terms_read number second depth trees (u ∷ us) k ts os h =
    let over = is_long_entry u.1.1 || is_long (u.0 + 1) in
    term_read number second depth trees true 0 u.0 u.1.0 u.1.1 (more_terms us (tokens.Sign 59 ∷ k)) ts os [] h.0 h.1
    ∙ ap (cond over passed) (more_terms_read number second depth trees (u.0 + 1) us k ts os (entry_of u ∷ []) h.2)
    ∙ joined_over over (terms_over us) (run k (scan_at number second (wants.Constant false) depth trees) (built_with ts os [] [] (map entry_of (u ∷ us))))

pub constant_read : (number : ℕ) (second : Bool) (depth trees : ℕ) (negative : Bool) (n : ℕ) (k : List Token) (built : Built) → run (int_tokens (negative, n) (tokens.Sign 93 ∷ k)) (scan_at number second (wants.Constant false) depth trees) built ≡ cond (is_long_entry n) passed (run k (scan_at number second (wants.CutBranches negative n) depth trees) built)
constant_read number second depth trees true n k built = simp go_cond
constant_read number second depth trees false n k built = simp go_cond
