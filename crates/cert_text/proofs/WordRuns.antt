-- A word that ends is one step: what the letters refuse while they grow is no word that may stand there.
use Rattle.std.proofs.Common.{◌≡◌, ℕ, suc, ◌+◌, ◌<◌, Bool, true, false, cond, ◌&&◌, ◌||◌, nat_lt, nat_eq, List, [], ◌∷◌, ◌++◌, length, ◌≤◌, take, drop, codes, Option, Some, None, refl, sym, ap, subst, ◌∙◌, arith, append_assoc}
use Rattle.std.specs.List.{starts_with, prefix_len}
use Rattle.std.specs.Str.{bytes_eq}
use Rattle.std.proofs.lemmas.List.{append-nil, length-append}
use Rattle.std.proofs.lemmas.Slice.Eq.{bytes_eq-Decides, starts_is}
use Rattle.std.proofs.lemmas.Bool.Decides.{nat_tests, Decides-eqb}
use Rattle.cert_text.specs.declared.scan.Word.{Word}
use Rattle.cert_text.specs.declared.scan.Word.TheVariants as words
use Rattle.cert_text.specs.declared.scan.Token.TheVariants as tokens
use Rattle.cert_text.specs.declared.scan.Want.{Want}
use Rattle.cert_text.specs.declared.scan.Want.TheVariants as wants
use Rattle.cert_text.specs.declared.scan.Scan.{Scan}
use Rattle.cert_text.specs.declared.scan.Given.{Given}
use Rattle.cert_text.specs.declared.scan.Given.TheVariants as givens
use Rattle.cert_text.specs.declared.progress.Stage.TheVariants as stages
use Rattle.cert_text.specs.Control.{give, give_at, at_block, at_tree, fits_word, fits_word_at, begins_tree, word_of, begins}
use Rattle.cert_text.specs.Letters.{is_blank, is_letter, is_digit}
use Rattle.cert_text.specs.Tree.{Built, applied}
use Rattle.cert_text.specs.Reading.{going, malformed, idle, letters, is_whole, staged, token_taken, word_ended, word_grown, number_grown, and_begun, step, after}
use Rattle.cert_text.proofs.Stopping.{stopped_after}

clash : {A : Type 0} (x : Bool) → x ≡ false → x ≡ true → A
clash x f t = cc

left_no : (x y : Bool) → (x || y) ≡ false → x ≡ false
left_no true y h = h
left_no false y h = refl

right_no : (x y : Bool) → (x || y) ≡ false → y ≡ false
right_no true y h = cc
right_no false y h = h

right_of : (x y : Bool) → x ≡ true → (x && y) ≡ false → y ≡ false
right_of true y e h = h
right_of false y e h = cc

-- the letters of a word
abbrev spelling : Word → List ℕ
spelling words.Version = codes "version"
spelling words.Cert = codes "cert"
spelling words.Absurd = codes "absurd"
spelling words.Farkas = codes "farkas"
spelling words.Linear = codes "linear"
spelling words.Case = codes "case"
spelling words.Truth = codes "bool"
spelling words.Split = codes "split"
spelling words.Cut = codes "cut"

-- a version may stand where a header may
by_header : (header begun : Bool) (g : Given) → (header && begun) ≡ false → begun ≡ true → cond header g givens.Wrong ≡ givens.Wrong
by_header true begun g f b = clash begun f b
by_header false begun g f b = refl

unfit_block : (scan : Scan) (header : Bool) (w : Word) (p : List ℕ) → (begins p (codes "cert") || (header && begins p (codes "version"))) ≡ false → begins p (spelling w) ≡ true → at_block scan header (tokens.Word w) ≡ givens.Wrong
unfit_block scan header words.Cert p f b = clash (begins p (codes "cert")) (left_no _ _ f) b
unfit_block scan header words.Version p f b = by_header header (begins p (codes "version")) _ (right_no _ _ f) b
unfit_block scan header words.Absurd p f b = refl
unfit_block scan header words.Farkas p f b = refl
unfit_block scan header words.Linear p f b = refl
unfit_block scan header words.Case p f b = refl
unfit_block scan header words.Truth p f b = refl
unfit_block scan header words.Split p f b = refl
unfit_block scan header words.Cut p f b = refl

unfit_tree : (scan : Scan) (end : Bool) (w : Word) (p : List ℕ) → begins_tree scan.second p ≡ false → begins p (spelling w) ≡ true → at_tree scan end (tokens.Word w) ≡ givens.Wrong
unfit_tree scan end words.Absurd p f b = clash _ (left_no _ _ (left_no _ _ (left_no _ _ (left_no _ _ (left_no _ _ (left_no _ _ f)))))) b
unfit_tree scan end words.Farkas p f b = clash _ (right_no _ _ (left_no _ _ (left_no _ _ (left_no _ _ (left_no _ _ (left_no _ _ f)))))) b
unfit_tree scan end words.Case p f b = clash _ (right_no _ _ (left_no _ _ (left_no _ _ (left_no _ _ (left_no _ _ f))))) b
unfit_tree scan end words.Truth p f b = clash _ (right_no _ _ (left_no _ _ (left_no _ _ (left_no _ _ f)))) b
unfit_tree scan end words.Split p f b = clash _ (right_no _ _ (left_no _ _ (left_no _ _ f))) b
unfit_tree scan end words.Cut p f b = clash _ (right_no _ _ (left_no _ _ f)) b
unfit_tree scan end words.Linear p f b = by_header scan.second (begins p (codes "linear")) _ (right_no _ _ f) b
unfit_tree scan end words.Cert p f b = refl
unfit_tree scan end words.Version p f b = refl

unfit : (want : Want) (scan : Scan) (w : Word) (p : List ℕ) → fits_word_at want scan.second p ≡ false → begins p (spelling w) ≡ true → give_at want scan (tokens.Word w) ≡ givens.Wrong
unfit (wants.Block header) scan w p f b = unfit_block scan header w p f b
unfit wants.HeaderNumber scan w p f b = refl
unfit wants.HeaderEnd scan w p f b = refl
unfit wants.BlockNumber scan w p f b = refl
unfit (wants.Tree end) scan w p f b = unfit_tree scan end w p f b
unfit (wants.Subject branching) scan w p f b = refl
unfit (wants.Branches branching n) scan w p f b = refl
unfit (wants.Picks signed) scan w p f b = refl
unfit (wants.Row signed count) scan w p f b = refl
unfit (wants.Times signed count row) scan w p f b = refl
unfit (wants.Multiplier signed count row) scan w p f b = refl
unfit (wants.Negative count row) scan w p f b = refl
unfit (wants.MorePicks signed count) scan w p f b = refl
unfit wants.Terms scan w p f b = refl
unfit (wants.Coefficient first negative last) scan w p f b = refl
unfit (wants.Colon negative size last) scan w p f b = refl
unfit (wants.Variable negative size last) scan w p f b = refl
unfit (wants.MoreTerms last) scan w p f b = refl
unfit (wants.Constant negative) scan w p f b = refl
unfit (wants.ConstantEnd negative size) scan w p f b = refl
unfit (wants.CutBranches negative size) scan w p f b = refl
unfit wants.End scan w p f b = refl
unfit wants.Whole scan w p f b = refl

begun_by : (p cs word : List ℕ) → word ≡ p ++ cs → begins p word ≡ true
unfolding begins
begun_by p cs word e = (starts_is Decides-eqb word p (starts_with nat_eq word p) refl).1 cs e

short : (w : Word) → length (spelling w) ≤ 7
short words.Version = omega arith
short words.Cert = omega arith
short words.Absurd = omega arith
short words.Farkas = omega arith
short words.Linear = omega arith
short words.Case = omega arith
short words.Truth = omega arith
short words.Split = omega arith
short words.Cut = omega arith

-- letters that are refused are those of no word that may stand there
module _ (start end : ℕ) (scan : Scan) (built : Built) where
  abbrev IsRefused : Option Word → Type 0
  IsRefused w = word_ended start end scan built w ≡ malformed start

  by_test : (c : Bool) (w : Word) (next : Option Word) → (c ≡ true → IsRefused (Some w)) → IsRefused next → IsRefused (cond c (Some w) next)
  by_test true w next f g = f refl
  by_test false w next f g = g

  refused_as : (ls : List ℕ) (b : ℕ) (cs : List ℕ) (w : Word) → (nat_lt (length ls) 8 && fits_word scan (ls ++ b ∷ [])) ≡ false → bytes_eq (ls ++ (b ∷ cs)) (spelling w) ≡ true → IsRefused (Some w)
  refused_as ls b cs w f e =
      let is : ls ++ (b ∷ cs) ≡ spelling w = (bytes_eq-Decides (ls ++ (b ∷ cs)) (spelling w)).0 e in
      let split : spelling w ≡ (ls ++ b ∷ []) ++ cs = sym is ∙ sym (append_assoc ls (b ∷ []) cs) in
      let long : length ls + length (b ∷ cs) ≡ length (spelling w) = sym (length-append ls (b ∷ cs)) ∙ ap length is in
      let few : nat_lt (length ls) 8 ≡ true = (let s = short w in let m : length ls < 8 = omega (arith, long, s) in grind (arith, nat_tests)) in
      let wrong : give scan (tokens.Word w) ≡ givens.Wrong = unfit scan.want scan w (ls ++ b ∷ []) (right_of _ _ few f) (begun_by (ls ++ b ∷ []) cs (spelling w) split) in
      ap (λ g. token_taken start end g built) wrong

  pub refused_word : (ls : List ℕ) (b : ℕ) (cs : List ℕ) → (nat_lt (length ls) 8 && fits_word scan (ls ++ b ∷ [])) ≡ false → IsRefused (word_of (ls ++ (b ∷ cs)))
  unfolding word_of
  refused_word ls b cs f =
      by_test _ words.Version _ (λ e. refused_as ls b cs words.Version f e) (
      by_test _ words.Cert _ (λ e. refused_as ls b cs words.Cert f e) (
      by_test _ words.Absurd _ (λ e. refused_as ls b cs words.Absurd f e) (
      by_test _ words.Farkas _ (λ e. refused_as ls b cs words.Farkas f e) (
      by_test _ words.Linear _ (λ e. refused_as ls b cs words.Linear f e) (
      by_test _ words.Case _ (λ e. refused_as ls b cs words.Case f e) (
      by_test _ words.Truth _ (λ e. refused_as ls b cs words.Truth f e) (
      by_test _ words.Split _ (λ e. refused_as ls b cs words.Split f e) (
      by_test _ words.Cut _ (λ e. refused_as ls b cs words.Cut f e) refl))))))))

-- where a token has ended, the byte behind it begins what is next
pub taken_then : (start end at b : ℕ) (g : Given) (built : Built) → step at (token_taken start end g built) b ≡ and_begun at b (token_taken start end g built)
unfolding step
taken_then start end at b (givens.On scan action) built = by (is_whole scan.want) where
  by : (w : Bool) → step at (staged (cond w (stages.Whole end) stages.Going) scan (applied action built) idle) b ≡ and_begun at b (staged (cond w (stages.Whole end) stages.Going) scan (applied action built) idle)
  by true = refl
  by false = refl
taken_then start end at b givens.Wrong built = refl
taken_then start end at b givens.Over built = refl

ended_then : (start end at b : ℕ) (scan : Scan) (built : Built) (w : Option Word) → step at (word_ended start end scan built w) b ≡ and_begun at b (word_ended start end scan built w)
unfolding step
ended_then start end at b scan built (Some w) = taken_then start end at b (give scan (tokens.Word w)) built
ended_then start end at b scan built None = refl

module _ (start : ℕ) (scan : Scan) (built : Built) where
  -- behind some letters of a word, k more of it lead to where the whole word leads
  abbrev WordLeads : ℕ → List ℕ → List ℕ → ℕ → Type 0
  WordLeads at ls bs k = after at (going scan built (letters start ls)) bs ≡ after (at + k) (word_ended start (at + k) scan built (word_of (ls ++ take k bs))) (drop k bs)

  no_more : (at : ℕ) (ls : List ℕ) (b : ℕ) (bs : List ℕ) → is_letter b ≡ false → WordLeads at ls (b ∷ bs) 0
  unfolding step
  no_more at ls b bs e =
      ap (λ l. after (at + 1) (cond l (word_grown start scan built ls b) (and_begun at b (word_ended start at scan built (word_of ls)))) bs) e
      ∙ ap (λ s. after (at + 1) s bs) (sym (ended_then start at at b scan built (word_of ls)))
      ∙ ap (λ xs. after at (word_ended start at scan built (word_of xs)) (b ∷ bs)) (sym (append-nil ls))
      ∙ ap (λ n. after n (word_ended start n scan built (word_of (ls ++ []))) (b ∷ bs)) (omega arith)

  grown_leads : (at : ℕ) (ls : List ℕ) (b : ℕ) (bs : List ℕ) (k : ℕ) (f : Bool) → (nat_lt (length ls) 8 && fits_word scan (ls ++ b ∷ [])) ≡ f → WordLeads (at + 1) (ls ++ b ∷ []) bs k → after (at + 1) (cond f (going scan built (letters start (ls ++ b ∷ []))) (malformed start)) bs ≡ after (at + suc k) (word_ended start (at + suc k) scan built (word_of (ls ++ (b ∷ take k bs)))) (drop k bs)
  grown_leads at ls b bs k true e h =
      h
      ∙ ap (λ xs. after (at + 1 + k) (word_ended start (at + 1 + k) scan built (word_of xs)) (drop k bs)) (append_assoc ls (b ∷ []) (take k bs))
      ∙ ap (λ n. after n (word_ended start n scan built (word_of (ls ++ (b ∷ take k bs)))) (drop k bs)) (omega arith)
  grown_leads at ls b bs k false e h =
      stopped_after (at + 1) (malformed start) bs refl
      ∙ sym (ap (λ s. after (at + suc k) s (drop k bs)) (refused_word start (at + suc k) scan built ls b (take k bs) e) ∙ stopped_after (at + suc k) (malformed start) (drop k bs) refl)

  one_more : (at : ℕ) (ls : List ℕ) (b : ℕ) (bs : List ℕ) (k : ℕ) → is_letter b ≡ true → WordLeads (at + 1) (ls ++ b ∷ []) bs k → WordLeads at ls (b ∷ bs) (suc k)
  unfolding step
  one_more at ls b bs k e h =
      ap (λ l. after (at + 1) (cond l (word_grown start scan built ls b) (and_begun at b (word_ended start at scan built (word_of ls)))) bs) e
      ∙ grown_leads at ls b bs k _ refl h

  word_run : (at : ℕ) (ls bs : List ℕ) → prefix_len is_letter bs < length bs → WordLeads at ls bs (prefix_len is_letter bs)
  word_run at ls [] h = absurd (omega arith)
  word_run at ls (b ∷ bs) h = by (is_letter b) refl h (λ m. word_run (at + 1) (ls ++ b ∷ []) bs m) where
    by : (l : Bool) → is_letter b ≡ l → cond l (1 + prefix_len is_letter bs) 0 < length (b ∷ bs) → (prefix_len is_letter bs < length bs → WordLeads (at + 1) (ls ++ b ∷ []) bs (prefix_len is_letter bs)) → WordLeads at ls (b ∷ bs) (cond l (1 + prefix_len is_letter bs) 0)
    by true e m next = let n : suc (prefix_len is_letter bs) ≡ 1 + prefix_len is_letter bs = omega arith in subst (WordLeads at ls (b ∷ bs)) n (one_more at ls b bs (prefix_len is_letter bs) e (next (omega arith)))
    by false e m next = no_more at ls b bs e

letter_no_blank : (b : ℕ) → is_letter b ≡ true → is_blank b ≡ false
letter_no_blank b h = grind (arith, nat_tests)

first_letter : (at b : ℕ) (scan : Scan) (built : Built) → is_letter b ≡ true → step at (going scan built idle) b ≡ step at (going scan built (letters at [])) b
unfolding step
first_letter at b scan built e =
    let rest = cond (is_digit b) (number_grown at scan built 0 b) (token_taken at (at + 1) (give scan (tokens.Sign b)) built) in
    ap (λ x. cond x (going scan built idle) (cond (is_letter b) (word_grown at scan built [] b) rest)) (letter_no_blank b e)
    ∙ ap (λ x. cond x (word_grown at scan built [] b) rest) e
    ∙ sym (ap (λ x. cond x (word_grown at scan built [] b) (and_begun at b (word_ended at at scan built (word_of [])))) e)

-- a whole word in front, behind which other bytes stand
pub word_in_front : (at k : ℕ) (scan : Scan) (built : Built) (bs : List ℕ) → k ≡ prefix_len is_letter bs → 0 < k → k < length bs → after (at + k) (word_ended at (at + k) scan built (word_of (take k bs))) (drop k bs) ≡ after at (going scan built idle) bs
word_in_front at k scan built [] is some more = absurd (omega arith)
word_in_front at k scan built (b ∷ bs) is some more = sym (ap (λ s. after (at + 1) s bs) (first_letter at b scan built (letter (is_letter b) (subst (λ n. 0 < n) is some))) ∙ subst (WordLeads at scan built at [] (b ∷ bs)) (sym is) (word_run at scan built at [] (b ∷ bs) (subst (λ n. n < length (b ∷ bs)) is more))) where
  letter : (l : Bool) → 0 < cond l (1 + prefix_len is_letter bs) 0 → l ≡ true
  letter true h = refl
  letter false h = absurd (omega arith)
