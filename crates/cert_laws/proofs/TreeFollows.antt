-- How the control goes along the tokens of cuts, trees and whole blocks.
use Rattle.std.proofs.Common.{◌≡◌, ℕ, ◌+◌, ◌-◌, ◌<◌, ◌≤◌, ◌^◌, Bool, true, false, cond, List, [], ◌∷◌, refl, sym, ap, ◌∙◌, subst, arith, nat_lt, nat_le, ◌==◌}
use Rattle.std.proofs.lemmas.Bool.Decides.{nat_tests}
use Rattle.cert_text.specs.declared.scan.Word.{Word}
use Rattle.cert_text.specs.declared.scan.Word.TheVariants as words
use Rattle.cert_text.specs.declared.scan.Branching.{Branching}
use Rattle.cert_text.specs.declared.scan.Branching.TheVariants as nodes
use Rattle.cert_text.specs.declared.scan.Token.{Token}
use Rattle.cert_text.specs.declared.scan.Token.TheVariants as tokens
use Rattle.cert_text.specs.declared.scan.Want.{Want}
use Rattle.cert_text.specs.declared.scan.Want.TheVariants as wants
use Rattle.cert_text.specs.declared.scan.Scan.{Scan}
use Rattle.cert_text.specs.declared.scan.Action.{Action}
use Rattle.cert_text.specs.declared.scan.Action.TheVariants as actions
use Rattle.cert_text.specs.declared.scan.Given.TheVariants as givens
use Rattle.cert_text.specs.Control.{give, behind, tree_begun}
use Rattle.cert_text.specs.Run.{want_behind}
use Rattle.cert_text.specs.Grammar.{Int, int_tokens, pick_tokens, picks_tokens, line_tokens, lines_tokens, term_tokens, terms_tokens, more_terms, AreTerms, Written, Rows, w_absurd, w_farkas, w_linear, w_node, w_cut, w_last, w_and, tree_tokens, rows_tokens, block_tokens, word_of_node, IsProper, AreProper, tree_count, row_count, none_left, is_long, is_long_entry}
use Rattle.cert_laws.specs.Limits.{int_marks, pick_marks, picks_marks, line_marks, lines_marks, term_marks, more_marks, terms_marks, tree_marks, rows_marks, block_marks}
use Rattle.cert_laws.proofs.Follows.{stopped, Follows, stopped_lt, not_over, limited, some_given, small_same, deep_enough, one_less, more_than_none, not_none, At, on_step, behind_is, number_step, pick_follows, picks_follow, line_follows, lines_follow}
use Rattle.basic_laws.proofs.Numbers.{same_test as same_number}

not_risen : (n last : ℕ) → last ≤ n → last < 2 ^ 63 → nat_le (stopped (n + 1)) last ≡ false
unfolding stopped
not_risen n last h k = grind (arith, nat_tests)

entry_small : (n : ℕ) → is_long_entry n ≡ false → n < 2 ^ 63
entry_small n e = not_over n 1152921504606846976 (omega arith) e

long_small : (n : ℕ) → is_long n ≡ false → n < 2 ^ 63
long_small n e = not_over n 4294967295 (omega arith) e

module _ (number : ℕ) (second : Bool) where
  abbrev Sc : Want → ℕ → ℕ → Scan
  Sc want d trees = At number second want d trees

  sign_step : (c : ℕ) (ts : List Token) (ms : List Bool) (s s1 : Scan) (a : Action) → give s (tokens.Sign c) ≡ givens.On s1 a → Follows ts ms s1 → Follows (tokens.Sign c ∷ ts) (false ∷ ms) s
  sign_step c ts ms s s1 a e f = on_step number second (tokens.Sign c) ts ms s s1 a refl refl e f

  -- terms

  variable_follows : (negative : Bool) (size last v d trees : ℕ) (ts : List Token) (ms : List Bool) → last < 2 ^ 63 → last ≤ v → (is_long (v + 1) ≡ false → Follows ts ms (Sc (wants.MoreTerms (v + 1)) d trees)) → Follows (tokens.Number (v + 1) ∷ ts) (is_long (v + 1) ∷ ms) (Sc (wants.Variable negative size last) d trees)
  variable_follows negative size last v d trees ts ms l r f =
      number_step number second (is_long (v + 1)) (v + 1) ts ms (Sc (wants.Variable negative size last) d trees) (Sc (wants.MoreTerms (v + 1)) d trees) (actions.Term (v + 1) negative size)
      (ap (λ c. cond c givens.Wrong (cond (nat_lt 4294967295 (stopped (v + 1))) givens.Over (givens.On (Sc (wants.MoreTerms (stopped (v + 1))) d trees) (actions.Term (stopped (v + 1)) negative size)))) (not_risen v last r l)
      ∙ ap (λ c. cond c givens.Over (givens.On (Sc (wants.MoreTerms (stopped (v + 1))) d trees) (actions.Term (stopped (v + 1)) negative size))) (stopped_lt (v + 1) 4294967295 (omega arith))
      ∙ limited (is_long (v + 1)) (v + 1) (λ x. givens.On (Sc (wants.MoreTerms x) d trees) (actions.Term x negative size)) (long_small (v + 1)))
      (long_small (v + 1)) f

  size_follows : (first negative : Bool) (n last v d trees : ℕ) (ts : List Token) (ms : List Bool) → last < 2 ^ 63 → last ≤ v → 0 < n → (is_long (v + 1) ≡ false → Follows ts ms (Sc (wants.MoreTerms (v + 1)) d trees)) → Follows (tokens.Number n ∷ tokens.Sign 58 ∷ tokens.Number (v + 1) ∷ ts) (is_long_entry n ∷ false ∷ is_long (v + 1) ∷ ms) (Sc (wants.Coefficient first negative last) d trees)
  size_follows first negative n last v d trees ts ms l r z f =
      number_step number second (is_long_entry n) n (tokens.Sign 58 ∷ tokens.Number (v + 1) ∷ ts) (false ∷ is_long (v + 1) ∷ ms) (Sc (wants.Coefficient first negative last) d trees) (Sc (wants.Colon negative n last) d trees) actions.Nothing
      (some_given n 1152921504606846976 (λ x. givens.On (Sc (wants.Colon negative x last) d trees) actions.Nothing) z (omega arith)) (entry_small n)
      (λ e. sign_step 58 (tokens.Number (v + 1) ∷ ts) (is_long (v + 1) ∷ ms) (Sc (wants.Colon negative n last) d trees) (Sc (wants.Variable negative n last) d trees) actions.Nothing refl (variable_follows negative n last v d trees ts ms l r f))

  term_follows : (t : ℕ × Int) (first : Bool) (last d trees : ℕ) (ts : List Token) (ms : List Bool) → last < 2 ^ 63 → last ≤ t.0 → 0 < t.1.1 → (is_long (t.0 + 1) ≡ false → Follows ts ms (Sc (wants.MoreTerms (t.0 + 1)) d trees)) → Follows (term_tokens t ts) (term_marks t ms) (Sc (wants.Coefficient first false last) d trees)
  term_follows t first last d trees ts ms l r z f = by t.1.0 where
    by : (c : Bool) → Follows (cond c (tokens.Sign 45 ∷ tokens.Number t.1.1 ∷ tokens.Sign 58 ∷ tokens.Number (t.0 + 1) ∷ ts) (tokens.Number t.1.1 ∷ tokens.Sign 58 ∷ tokens.Number (t.0 + 1) ∷ ts)) (cond c (false ∷ is_long_entry t.1.1 ∷ false ∷ is_long (t.0 + 1) ∷ ms) (is_long_entry t.1.1 ∷ false ∷ is_long (t.0 + 1) ∷ ms)) (Sc (wants.Coefficient first false last) d trees)
    by true =
        sign_step 45 (tokens.Number t.1.1 ∷ tokens.Sign 58 ∷ tokens.Number (t.0 + 1) ∷ ts) (is_long_entry t.1.1 ∷ false ∷ is_long (t.0 + 1) ∷ ms) (Sc (wants.Coefficient first false last) d trees) (Sc (wants.Coefficient false true last) d trees) actions.Nothing refl
        (size_follows false true t.1.1 last t.0 d trees ts ms l r z f)
    by false = size_follows first false t.1.1 last t.0 d trees ts ms l r z f

  more_follow : (us : List (ℕ × Int)) (last d trees : ℕ) (ts : List Token) (ms : List Bool) → last < 2 ^ 63 → AreTerms last us → Follows ts ms (Sc (wants.Constant false) d trees) → Follows (more_terms us (tokens.Sign 59 ∷ ts)) (more_marks us (false ∷ ms)) (Sc (wants.MoreTerms last) d trees)
  more_follow [] last d trees ts ms l h f = sign_step 59 ts ms (Sc (wants.MoreTerms last) d trees) (Sc (wants.Constant false) d trees) actions.Nothing refl f
  more_follow (u ∷ us) last d trees ts ms l h f =
      sign_step 44 (term_tokens u (more_terms us (tokens.Sign 59 ∷ ts))) (term_marks u (more_marks us (false ∷ ms))) (Sc (wants.MoreTerms last) d trees) (Sc (wants.Coefficient false false last) d trees) actions.Nothing refl
      (term_follows u false last d trees (more_terms us (tokens.Sign 59 ∷ ts)) (more_marks us (false ∷ ms)) l h.0 h.1 (λ e. more_follow us (u.0 + 1) d trees ts ms (long_small (u.0 + 1) e) h.2 f))

  terms_follow : (us : List (ℕ × Int)) (d trees : ℕ) (ts : List Token) (ms : List Bool) → AreTerms 0 us → Follows ts ms (Sc (wants.Constant false) d trees) → Follows (terms_tokens us (tokens.Sign 59 ∷ ts)) (terms_marks us (false ∷ ms)) (Sc (wants.Coefficient true false 0) d trees)
  terms_follow [] d trees ts ms h f = sign_step 59 ts ms (Sc (wants.Coefficient true false 0) d trees) (Sc (wants.Constant false) d trees) actions.Nothing refl f
  terms_follow (u ∷ us) d trees ts ms h f = term_follows u true 0 d trees (more_terms us (tokens.Sign 59 ∷ ts)) (more_marks us (false ∷ ms)) (omega arith) h.0 h.1 (λ e. more_follow us (u.0 + 1) d trees ts ms (long_small (u.0 + 1) e) h.2 f)

  -- the constant of a cut, and its brackets

  constant_given : (negative : Bool) (n d trees : ℕ) → cond (nat_lt 1152921504606846976 (stopped n)) givens.Over (givens.On (Sc (wants.ConstantEnd negative (stopped n)) d trees) actions.Nothing) ≡ cond (is_long_entry n) givens.Over (givens.On (Sc (wants.ConstantEnd negative n) d trees) actions.Nothing)
  constant_given negative n d trees =
      ap (λ c. cond c givens.Over (givens.On (Sc (wants.ConstantEnd negative (stopped n)) d trees) actions.Nothing)) (stopped_lt n 1152921504606846976 (omega arith))
      ∙ limited (is_long_entry n) n (λ x. givens.On (Sc (wants.ConstantEnd negative x) d trees) actions.Nothing) (entry_small n)

  braces_follow : (negative : Bool) (n d trees : ℕ) (ts : List Token) (ms : List Bool) → nat_le 400 d ≡ false → Follows ts ms (Sc (wants.Tree false) (d + 1) trees) → Follows (tokens.Sign 93 ∷ tokens.Sign 123 ∷ ts) (false ∷ false ∷ ms) (Sc (wants.ConstantEnd negative n) d trees)
  braces_follow negative n d trees ts ms e f =
      sign_step 93 (tokens.Sign 123 ∷ ts) (false ∷ ms) (Sc (wants.ConstantEnd negative n) d trees) (Sc (wants.CutBranches negative n) d trees) actions.Nothing refl
      (sign_step 123 ts ms (Sc (wants.CutBranches negative n) d trees) (Sc (wants.Tree false) (d + 1) trees) (actions.Cut negative n) (ap (λ c. cond c givens.Over (givens.On (Sc (wants.Tree false) (d + 1) trees) (actions.Cut negative n))) e) f)

  constant_follows : (c : Int) (d trees : ℕ) (ts : List Token) (ms : List Bool) → nat_le 400 d ≡ false → Follows ts ms (Sc (wants.Tree false) (d + 1) trees) → Follows (int_tokens c (tokens.Sign 93 ∷ tokens.Sign 123 ∷ ts)) (int_marks (is_long_entry c.1) c (false ∷ false ∷ ms)) (Sc (wants.Constant false) d trees)
  constant_follows c d trees ts ms e f = by c.0 where
    from : (negative : Bool) → Follows (tokens.Number c.1 ∷ tokens.Sign 93 ∷ tokens.Sign 123 ∷ ts) (is_long_entry c.1 ∷ false ∷ false ∷ ms) (Sc (wants.Constant negative) d trees)
    from negative = number_step number second (is_long_entry c.1) c.1 (tokens.Sign 93 ∷ tokens.Sign 123 ∷ ts) (false ∷ false ∷ ms) (Sc (wants.Constant negative) d trees) (Sc (wants.ConstantEnd negative c.1) d trees) actions.Nothing (constant_given negative c.1 d trees) (entry_small c.1) (λ o. braces_follow negative c.1 d trees ts ms e f)

    by : (s : Bool) → Follows (cond s (tokens.Sign 45 ∷ tokens.Number c.1 ∷ tokens.Sign 93 ∷ tokens.Sign 123 ∷ ts) (tokens.Number c.1 ∷ tokens.Sign 93 ∷ tokens.Sign 123 ∷ ts)) (cond s (false ∷ is_long_entry c.1 ∷ false ∷ false ∷ ms) (is_long_entry c.1 ∷ false ∷ false ∷ ms)) (Sc (wants.Constant false) d trees)
    by true = sign_step 45 (tokens.Number c.1 ∷ tokens.Sign 93 ∷ tokens.Sign 123 ∷ ts) (is_long_entry c.1 ∷ false ∷ false ∷ ms) (Sc (wants.Constant false) d trees) (Sc (wants.Constant true) d trees) actions.Nothing refl (from true)
    by false = from false

  -- trees

  one_deeper : (d : ℕ) → want_behind (d + 1) ≡ wants.Tree true
  one_deeper d = ap (λ c. cond c wants.End (wants.Tree true)) (not_none d)

  -- a word that begins a tree
  begins_follow : (w : Word) (end : Bool) (d trees : ℕ) (s1 : Scan) (a : Action) (ts : List Token) (ms : List Bool) → give (Sc (wants.Tree end) d trees) (tokens.Word w) ≡ cond (none_left trees d) givens.Over (givens.On s1 a) → (none_left trees d ≡ false → Follows ts ms s1) → Follows (tokens.Word w ∷ ts) (none_left trees d ∷ ms) (Sc (wants.Tree end) d trees)
  begins_follow w end d trees s1 a ts ms e f = (s1, a, e, tt, λ z. (refl, f z))

  node_given : (b : Branching) (end : Bool) (d trees : ℕ) → give (Sc (wants.Tree end) d trees) (tokens.Word (word_of_node b)) ≡ cond (none_left trees d) givens.Over (givens.On (Sc (wants.Subject b) d (trees + 1)) actions.Nothing)
  node_given nodes.Case end d trees = refl
  node_given nodes.Truth end d trees = refl
  node_given nodes.Split end d trees = refl

  -- behind the brackets of a leaf
  leaf_ends : (signed : Bool) (n d trees : ℕ) (ts : List Token) (ms : List Bool) → Follows ts ms (Sc (want_behind d) d trees) → Follows (tokens.Sign 93 ∷ ts) (false ∷ ms) (Sc (wants.MorePicks signed n) d trees)
  leaf_ends true n d trees ts ms f = sign_step 93 ts ms (Sc (wants.MorePicks true n) d trees) (Sc (want_behind d) d trees) actions.Linear (behind_is number second (wants.MorePicks true n) d d trees actions.Linear) f
  leaf_ends false n d trees ts ms f = sign_step 93 ts ms (Sc (wants.MorePicks false n) d trees) (Sc (want_behind d) d trees) actions.Farkas (behind_is number second (wants.MorePicks false n) d d trees actions.Farkas) f

  subject_follows : (b : Branching) (n d trees : ℕ) (ts : List Token) (ms : List Bool) → nat_le 400 d ≡ false → Follows ts ms (Sc (wants.Tree false) (d + 1) trees) → Follows (tokens.Number (n + 1) ∷ tokens.Sign 123 ∷ ts) (is_long (n + 1) ∷ false ∷ ms) (Sc (wants.Subject b) d trees)
  subject_follows b n d trees ts ms e f =
      number_step number second (is_long (n + 1)) (n + 1) (tokens.Sign 123 ∷ ts) (false ∷ ms) (Sc (wants.Subject b) d trees) (Sc (wants.Branches b (n + 1)) d trees) actions.Nothing
      (some_given (n + 1) 4294967295 (λ x. givens.On (Sc (wants.Branches b x) d trees) actions.Nothing) (omega arith) (omega arith)) (long_small (n + 1))
      (λ o. sign_step 123 ts ms (Sc (wants.Branches b (n + 1)) d trees) (Sc (wants.Tree false) (d + 1) trees) (actions.Enter b (n + 1)) (ap (λ c. cond c givens.Over (givens.On (Sc (wants.Tree false) (d + 1) trees) (actions.Enter b (n + 1)))) e) f)

  leave_follows : (d trees : ℕ) (ts : List Token) (ms : List Bool) → Follows ts ms (Sc (want_behind d) d trees) → Follows (tokens.Sign 125 ∷ ts) (false ∷ ms) (Sc (wants.Tree true) (d + 1) trees)
  leave_follows d trees ts ms f =
      sign_step 125 ts ms (Sc (wants.Tree true) (d + 1) trees) (Sc (want_behind d) d trees) actions.Leave
      (ap (λ c. cond c (behind (Sc (wants.Tree true) (d + 1) trees) (d + 1 - 1) actions.Leave) givens.Wrong) (more_than_none d)
      ∙ ap (λ n. behind (Sc (wants.Tree true) (d + 1) trees) n actions.Leave) (one_less d)
      ∙ behind_is number second (wants.Tree true) (d + 1) d trees actions.Leave) f

  abbrev Ends : ℕ → ℕ → List Token → List Bool → Type 0
  Ends d trees ts ms = Follows ts ms (Sc (want_behind d) d trees)

  counted : (d m n : ℕ) (ts : List Token) (ms : List Bool) → m ≡ n → Ends d m ts ms → Ends d n ts ms
  counted d m n ts ms e f = subst (λ k. Ends d k ts ms) e f

  mutual
    tree_follows : (w : Written) (end : Bool) (d trees : ℕ) (ts : List Token) (ms : List Bool) → IsProper second w → Ends d (trees + tree_count w) ts ms → Follows (tree_tokens w ts) (tree_marks trees d w ms) (Sc (wants.Tree end) d trees)
    tree_follows w_absurd end d trees ts ms h f = begins_follow words.Absurd end d trees (Sc (want_behind d) d (trees + 1)) actions.Absurd ts ms (ap (cond (none_left trees d) givens.Over) (behind_is number second (wants.Tree end) d d (trees + 1) actions.Absurd)) (λ e. f)
    tree_follows (w_farkas p ps) end d trees ts ms h f =
        let ks = tokens.Sign 93 ∷ ts in
        let ns = false ∷ ms in
        let ps_ts = pick_tokens p (picks_tokens ps ks) in
        let ps_ms = pick_marks 0 p (picks_marks 1 ps ns) in
        begins_follow words.Farkas end d trees (Sc (wants.Picks false) d (trees + 1)) actions.Nothing (tokens.Sign 91 ∷ ps_ts) (false ∷ ps_ms) refl (λ e.
        sign_step 91 ps_ts ps_ms (Sc (wants.Picks false) d (trees + 1)) (Sc (wants.Row false 0) d (trees + 1)) actions.Nothing refl
        (pick_follows number second p 0 d (trees + 1) (picks_tokens ps ks) (picks_marks 1 ps ns) (picks_follow number second ps 1 d (trees + 1) ks ns (λ n. leaf_ends false n d (trees + 1) ts ms f))))
    tree_follows (w_linear p ps) end d trees ts ms h f =
        let ks = tokens.Sign 93 ∷ ts in
        let ns = false ∷ ms in
        let ps_ts = line_tokens p (lines_tokens ps ks) in
        let ps_ms = line_marks 0 p (lines_marks 1 ps ns) in
        begins_follow words.Linear end d trees (Sc (wants.Picks true) d (trees + 1)) actions.Nothing (tokens.Sign 91 ∷ ps_ts) (false ∷ ps_ms) (ap (λ v. cond v (tree_begun (Sc (wants.Tree end) d trees) (wants.Picks true)) givens.Wrong) h) (λ e.
        sign_step 91 ps_ts ps_ms (Sc (wants.Picks true) d (trees + 1)) (Sc (wants.Row true 0) d (trees + 1)) actions.Nothing refl
        (line_follows number second p 0 d (trees + 1) (lines_tokens ps ks) (lines_marks 1 ps ns) (lines_follow number second ps 1 d (trees + 1) ks ns (λ n. leaf_ends true n d (trees + 1) ts ms f))))
    tree_follows (w_node b n ws) end d trees ts ms h f =
        let ks = rows_tokens ws (tokens.Sign 125 ∷ ts) in
        let ns = rows_marks (trees + 1) (d + 1) ws (false ∷ ms) in
        begins_follow (word_of_node b) end d trees (Sc (wants.Subject b) d (trees + 1)) actions.Nothing (tokens.Number (n + 1) ∷ tokens.Sign 123 ∷ ks) (is_long (n + 1) ∷ false ∷ ns) (node_given b end d trees) (λ e.
        subject_follows b n d (trees + 1) ks ns (deep_enough trees d e)
        (rows_follow ws false d (trees + 1) ts ms h (counted d (trees + (1 + row_count ws)) (trees + 1 + row_count ws) ts ms (omega arith) f)))
    tree_follows (w_cut us c ws) end d trees ts ms h f =
        let ks = rows_tokens ws (tokens.Sign 125 ∷ ts) in
        let ns = rows_marks (trees + 1) (d + 1) ws (false ∷ ms) in
        let cs_ts = int_tokens c (tokens.Sign 93 ∷ tokens.Sign 123 ∷ ks) in
        let cs_ms = int_marks (is_long_entry c.1) c (false ∷ false ∷ ns) in
        begins_follow words.Cut end d trees (Sc wants.Terms d (trees + 1)) actions.Nothing (tokens.Sign 91 ∷ terms_tokens us (tokens.Sign 59 ∷ cs_ts)) (false ∷ terms_marks us (false ∷ cs_ms)) refl (λ e.
        sign_step 91 (terms_tokens us (tokens.Sign 59 ∷ cs_ts)) (terms_marks us (false ∷ cs_ms)) (Sc wants.Terms d (trees + 1)) (Sc (wants.Coefficient true false 0) d (trees + 1)) actions.Nothing refl
        (terms_follow us d (trees + 1) cs_ts cs_ms h.0 (constant_follows c d (trees + 1) ks ns (deep_enough trees d e)
        (rows_follow ws false d (trees + 1) ts ms h.1 (counted d (trees + (1 + row_count ws)) (trees + 1 + row_count ws) ts ms (omega arith) f)))))

    rows_follow : (ws : Rows) (end : Bool) (d trees : ℕ) (ts : List Token) (ms : List Bool) → AreProper second ws → Ends d (trees + row_count ws) ts ms → Follows (rows_tokens ws (tokens.Sign 125 ∷ ts)) (rows_marks trees (d + 1) ws (false ∷ ms)) (Sc (wants.Tree end) (d + 1) trees)
    rows_follow (w_last w) end d trees ts ms h f = tree_follows w end (d + 1) trees (tokens.Sign 125 ∷ ts) (false ∷ ms) h (subst (λ x. Follows (tokens.Sign 125 ∷ ts) (false ∷ ms) (Sc x (d + 1) (trees + tree_count w))) (sym (one_deeper d)) (leave_follows d (trees + tree_count w) ts ms f))
    rows_follow (w_and w ws) end d trees ts ms h f =
        tree_follows w end (d + 1) trees (rows_tokens ws (tokens.Sign 125 ∷ ts)) (rows_marks (trees + tree_count w) (d + 1) ws (false ∷ ms)) h.0
        (subst (λ x. Follows (rows_tokens ws (tokens.Sign 125 ∷ ts)) (rows_marks (trees + tree_count w) (d + 1) ws (false ∷ ms)) (Sc x (d + 1) (trees + tree_count w))) (sym (one_deeper d))
        (rows_follow ws true d (trees + tree_count w) ts ms h.1 (counted d (trees + (tree_count w + row_count ws)) (trees + tree_count w + row_count ws) ts ms (omega arith) f)))

  pub block_follows : (header : Bool) (w : Written) → number < 2 ^ 63 → IsProper second w → Follows (block_tokens number w []) (block_marks w) (Sc (wants.Block header) 0 0)
  block_follows header w n h =
      let ks = tree_tokens w (tokens.Sign 59 ∷ []) in
      let ns = tree_marks 0 0 w (false ∷ []) in
      on_step number second (tokens.Word words.Cert) (tokens.Number number ∷ ks) (false ∷ ns) (Sc (wants.Block header) 0 0) (Sc wants.BlockNumber 0 0) actions.Nothing refl tt refl
      (number_step number second false number ks ns (Sc wants.BlockNumber 0 0) (Sc (wants.Tree false) 0 0) actions.Nothing
      (ap (λ m. cond (m == number) (givens.On (Sc (wants.Tree false) 0 0) actions.Nothing) givens.Wrong) (small_same number n) ∙ ap (λ c. cond c (givens.On (Sc (wants.Tree false) 0 0) actions.Nothing) givens.Wrong) (same_number number)) (λ e. n) (λ e.
      tree_follows w false 0 0 (tokens.Sign 59 ∷ []) (false ∷ []) h
      (sign_step 59 [] [] (Sc wants.End 0 (0 + tree_count w)) (Sc wants.Whole 0 (0 + tree_count w)) actions.Nothing refl refl)))
