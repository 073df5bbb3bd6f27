-- Blanks, words and numbers are read by their bytes.
use Rattle.std.proofs.Common.{◌≡◌, ℕ, ◌+◌, ◌-◌, ◌*◌, ◌^◌, ◌<◌, ◌≤◌, true, false, cond, List, [], ◌∷◌, ◌++◌, length, refl, sym, ap, subst, ◌∙◌, arith, Some, None, Bool, Option, codes}
use Rattle.std.proofs.lemmas.Bool.Decides.{nat_tests}
use Rattle.std.specs.Str.{bytes_eq}
use Rattle.std.proofs.lemmas.Slice.Eq.{bytes_eq-Decides}
use Rattle.cert_text.specs.declared.scan.Word.{Word}
use Rattle.cert_text.specs.declared.scan.Word.TheVariants as words
use Rattle.cert_text.specs.declared.scan.Token.TheVariants as tokens
use Rattle.cert_text.specs.declared.scan.Scan.{Scan}
use Rattle.cert_text.specs.declared.scan.Action.{Action}
use Rattle.cert_text.specs.declared.scan.Given.TheVariants as givens
use Rattle.cert_text.specs.declared.progress.Stage.TheVariants as stages
use Rattle.cert_text.specs.Control.{give, fits_number, word_of}
use Rattle.cert_text.specs.Letters.{is_blank, is_letter, is_digit, grown}
use Rattle.cert_text.specs.Tree.{Built, applied}
use Rattle.cert_text.specs.Reading.{going, malformed, idle, letters, digits, step, after, staged, is_whole, word_grown, number_grown, token_taken, word_ended, and_begun}
use Rattle.cert_laws.specs.Spelled.{letters_of, AreAll, value_behind, IsSign}
use Rattle.cert_laws.proofs.Prefixes.{NotHeader, prefix_fits}
use Rattle.cert_text.proofs.NumberRuns.{blank_step}

pub blanks_read : (bs rest : List ℕ) (at : ℕ) (scan : Scan) (built : Built) → AreAll is_blank bs → after at (going scan built idle) (bs ++ rest) ≡ after (at + length bs) (going scan built idle) rest
blanks_read [] rest at scan built h = ap (λ n. after n (going scan built idle) rest) (omega arith)
blanks_read (b ∷ bs) rest at scan built h =
    ap (λ s. after (at + 1) s (bs ++ rest)) (blank_step at b scan built h.0)
    ∙ blanks_read bs rest (at + 1) scan built h.1
    ∙ ap (λ n. after n (going scan built idle) rest) (omega arith)

pub sign_step : (at c : ℕ) (scan : Scan) (built : Built) → IsSign c → step at (going scan built idle) c ≡ token_taken at (at + 1) (give scan (tokens.Sign c)) built
unfolding step
sign_step at c scan built h =
    let taken = token_taken at (at + 1) (give scan (tokens.Sign c)) built in
    ap (λ x. cond x (going scan built idle) (cond (is_letter c) (word_grown at scan built [] c) (cond (is_digit c) (number_grown at scan built 0 c) taken))) h.0
    ∙ ap (λ x. cond x (word_grown at scan built [] c) (cond (is_digit c) (number_grown at scan built 0 c) taken)) h.1
    ∙ ap (λ x. cond x (number_grown at scan built 0 c) taken) h.2

-- a word or a number has ended, and the byte behind it begins what is next
pub ended : (start at x : ℕ) (s : Scan) (a : Action) (built : Built) → is_whole s.want ≡ false → and_begun at x (token_taken start at (givens.On s a) built) ≡ step at (going s (applied a built) idle) x
unfolding step
ended start at x s a built g = ap (λ w. and_begun at x (staged (cond w (stages.Whole at) stages.Going) s (applied a built) idle)) g

word_is : (w : Word) → word_of (letters_of w) ≡ Some w
unfolding word_of
word_is words.Version = refl
word_is words.Cert = refl
word_is words.Absurd = refl
word_is words.Farkas = refl
word_is words.Linear = refl
word_is words.Case = refl
word_is words.Truth = refl
word_is words.Split = refl
word_is words.Cut = refl

pub word_ends : (start at x : ℕ) (scan : Scan) (built : Built) (w : Word) → is_letter x ≡ false → step at (going scan built (letters start (letters_of w))) x ≡ and_begun at x (token_taken start at (give scan (tokens.Word w)) built)
unfolding step
word_ends start at x scan built w h =
    ap (λ l. cond l (word_grown start scan built (letters_of w) x) (and_begun at x (word_ended start at scan built (word_of (letters_of w))))) h
    ∙ ap (λ o. and_begun at x (word_ended start at scan built o)) (word_is w)

pub number_ends : (start at x n : ℕ) (scan : Scan) (built : Built) → is_digit x ≡ false → step at (going scan built (digits start n)) x ≡ and_begun at x (token_taken start at (give scan (tokens.Number n)) built)
unfolding step
number_ends start at x n scan built h = ap (λ l. cond l (number_grown start scan built n x) (and_begun at x (token_taken start at (give scan (tokens.Number n)) built))) h

-- a number is at least what its first digits are
pub value_least : (n : ℕ) (ds : List ℕ) → n ≤ value_behind n ds
value_least n [] = omega arith
value_least n (d ∷ ds) = let e = value_least (n * 10 + (d - 48)) ds in omega (arith, e)

digit_value : (d : ℕ) → is_digit d ≡ true → d - 48 ≤ 9
digit_value d h = grind (arith, nat_tests)

prefixes_fit : (scan : Scan) (n : ℕ) (ds : List ℕ) → NotHeader scan.want → scan.number < 2 ^ 32 → AreAll is_digit ds → fits_number scan (value_behind n ds) ≡ true → fits_number scan n ≡ true
prefixes_fit scan n [] i h k f = f
prefixes_fit scan n (d ∷ ds) i h k f = prefix_fits scan.want scan.number n (d - 48) h (digit_value d k.0) (prefixes_fit scan (n * 10 + (d - 48)) ds i h k.1 f) i

grown_is : (n d : ℕ) → n * 10 + (d - 48) < 2 ^ 64 → grown n d ≡ n * 10 + (d - 48)
unfolding grown
grown_is n d h = grind arith

pub digit_step : (at place n d : ℕ) (scan : Scan) (built : Built) → is_digit d ≡ true → n * 10 + (d - 48) < 2 ^ 64 → fits_number scan (n * 10 + (d - 48)) ≡ true → step at (going scan built (digits place n)) d ≡ going scan built (digits place (n * 10 + (d - 48)))
unfolding step
digit_step at place n d scan built k s f =
    ap (λ x. cond x (number_grown place scan built n d) (and_begun at d (token_taken place at (give scan (tokens.Number n)) built))) k
    ∙ ap (λ m. cond (fits_number scan m) (going scan built (digits place m)) (malformed place)) (grown_is n d s)
    ∙ ap (λ x. cond x (going scan built (digits place (n * 10 + (d - 48)))) (malformed place)) f

digits_read : (ds rest : List ℕ) (at place n : ℕ) (scan : Scan) (built : Built) → NotHeader scan.want → scan.number < 2 ^ 32 → AreAll is_digit ds → value_behind n ds < 2 ^ 64 → fits_number scan (value_behind n ds) ≡ true → after at (going scan built (digits place n)) (ds ++ rest) ≡ after (at + length ds) (going scan built (digits place (value_behind n ds))) rest
digits_read [] rest at place n scan built i h k s f = ap (λ m. after m (going scan built (digits place n)) rest) (omega arith)
digits_read (d ∷ ds) rest at place n scan built i h k s f =
    let m = n * 10 + (d - 48) in
    let least = value_least m ds in
    let small : m < 2 ^ 64 = omega (arith, least, s) in
    ap (λ t. after (at + 1) t (ds ++ rest)) (digit_step at place n d scan built k.0 small (prefixes_fit scan m ds i h k.1 f))
    ∙ digits_read ds rest (at + 1) place m scan built i h k.1 s f
    ∙ ap (λ j. after j (going scan built (digits place (value_behind m ds))) rest) (omega arith)

digit_no_blank : (d : ℕ) → is_digit d ≡ true → is_blank d ≡ false
digit_no_blank d h = grind (arith, nat_tests)

digit_no_letter : (d : ℕ) → is_digit d ≡ true → is_letter d ≡ false
digit_no_letter d h = grind (arith, nat_tests)

pub first_digit : (at d : ℕ) (scan : Scan) (built : Built) → is_digit d ≡ true → step at (going scan built idle) d ≡ step at (going scan built (digits at 0)) d
unfolding step
first_digit at d scan built k =
    let taken = token_taken at (at + 1) (give scan (tokens.Sign d)) built in
    ap (λ x. cond x (going scan built idle) (cond (is_letter d) (word_grown at scan built [] d) (cond (is_digit d) (number_grown at scan built 0 d) taken))) (digit_no_blank d k)
    ∙ ap (λ x. cond x (word_grown at scan built [] d) (cond (is_digit d) (number_grown at scan built 0 d) taken)) (digit_no_letter d k)
    ∙ ap (λ x. cond x (number_grown at scan built 0 d) taken) k
    ∙ sym (ap (λ x. cond x (number_grown at scan built 0 d) (and_begun at d (token_taken at at (give scan (tokens.Number 0)) built))) k)

-- the digits of a number, of which more could follow
pub number_read : (d : ℕ) (ds rest : List ℕ) (at : ℕ) (scan : Scan) (built : Built) → NotHeader scan.want → scan.number < 2 ^ 32 → AreAll is_digit (d ∷ ds) → value_behind 0 (d ∷ ds) < 2 ^ 64 → fits_number scan (value_behind 0 (d ∷ ds)) ≡ true → after at (going scan built idle) ((d ∷ ds) ++ rest) ≡ after (at + length (d ∷ ds)) (going scan built (digits at (value_behind 0 (d ∷ ds)))) rest
number_read d ds rest at scan built i h k s f =
    ap (λ t. after (at + 1) t (ds ++ rest)) (first_digit at d scan built k.0)
    ∙ digits_read (d ∷ ds) rest at at 0 scan built i h k s f

-- letters that are read as a word spell it

same_bytes : (xs ys : List ℕ) → bytes_eq xs ys ≡ true → xs ≡ ys
same_bytes xs ys h = (bytes_eq-Decides xs ys).0 h

abbrev IsWord : List ℕ → Word → Type 0
IsWord ls w = ls ≡ letters_of w

abbrev value_in : Word → Option Word → Word
value_in v (Some w) = w
value_in v None = v

or_next : (c : Bool) (ls : List ℕ) (v w : Word) (next : Option Word) → (c ≡ true → IsWord ls v) → (next ≡ Some w → IsWord ls w) → cond c (Some v) next ≡ Some w → IsWord ls w
or_next true ls v w next f g h = subst (IsWord ls) (ap (value_in v) h) (f refl)
or_next false ls v w next f g h = g h

no_word : (ls : List ℕ) (w : Word) → None ≡ Some w → IsWord ls w
no_word ls w h = cc

pub spelled_word : (ls : List ℕ) (w : Word) → word_of ls ≡ Some w → IsWord ls w
unfolding word_of
spelled_word ls w =
    or_next (bytes_eq ls (codes "version")) ls words.Version w _ (λ e. same_bytes ls (codes "version") e) (
    or_next (bytes_eq ls (codes "cert")) ls words.Cert w _ (λ e. same_bytes ls (codes "cert") e) (
    or_next (bytes_eq ls (codes "absurd")) ls words.Absurd w _ (λ e. same_bytes ls (codes "absurd") e) (
    or_next (bytes_eq ls (codes "farkas")) ls words.Farkas w _ (λ e. same_bytes ls (codes "farkas") e) (
    or_next (bytes_eq ls (codes "linear")) ls words.Linear w _ (λ e. same_bytes ls (codes "linear") e) (
    or_next (bytes_eq ls (codes "case")) ls words.Case w _ (λ e. same_bytes ls (codes "case") e) (
    or_next (bytes_eq ls (codes "bool")) ls words.Truth w _ (λ e. same_bytes ls (codes "bool") e) (
    or_next (bytes_eq ls (codes "split")) ls words.Split w _ (λ e. same_bytes ls (codes "split") e) (
    or_next (bytes_eq ls (codes "cut")) ls words.Cut w _ (λ e. same_bytes ls (codes "cut") e) (
    no_word ls w)))))))))
