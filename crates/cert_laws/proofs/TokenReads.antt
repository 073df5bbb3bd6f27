-- Forward, one token: a token that is taken is read by its bytes and ended by the next byte; one that passes a limit is refused
-- for it there.
use Rattle.std.proofs.Common.{◌≡◌, ℕ, ◌+◌, ◌^◌, ◌<◌, Bool, true, false, cond, List, [], ◌∷◌, ◌++◌, length, refl, sym, ap, ◌∙◌, subst, arith, ◌==◌}
use Rattle.std.proofs.lemmas.Bool.Decides.{nat_tests}
use Rattle.cert_text.specs.declared.scan.Word.{Word}
use Rattle.cert_text.specs.declared.scan.Word.TheVariants as words
use Rattle.cert_text.specs.declared.scan.Token.{Token}
use Rattle.cert_text.specs.declared.scan.Token.TheVariants as tokens
use Rattle.cert_text.specs.declared.scan.Want.{Want}
use Rattle.cert_text.specs.declared.scan.Want.TheVariants as wants
use Rattle.cert_text.specs.declared.scan.Scan.{Scan}
use Rattle.cert_text.specs.declared.scan.Action.{Action}
use Rattle.cert_text.specs.declared.scan.Given.{Given}
use Rattle.cert_text.specs.declared.scan.Given.TheVariants as givens
use Rattle.cert_text.specs.declared.progress.Stage.TheVariants as stages
use Rattle.cert_text.specs.Control.{give, give_at, fits_number}
use Rattle.cert_text.specs.Letters.{is_digit, grown}
use Rattle.cert_text.specs.Tree.{Built, applied}
use Rattle.cert_text.specs.Reading.{going, malformed, over, idle, digits, step, after, staged, is_whole, number_grown, token_taken, and_begun}
use Rattle.cert_text.specs.Run.{scan_at}
use Rattle.cert_text.proofs.Stopping.{stopped_after, after-append}
use Rattle.cert_laws.specs.Spelled.{letters_of, AreAll, value_behind, IsSpelling, EndsAt}
use Rattle.cert_laws.proofs.Givens.{is_inside, OnlyOn, NumberTaken, number_taken, WordTaken, word_taken, Reads, absurd_reads, farkas_reads, case_reads, bool_reads, split_reads, cut_reads, linear_reads}
use Rattle.cert_laws.proofs.Prefixes.{NotHeader, begins_itself}
use Rattle.cert_laws.proofs.Lexing.{sign_step, ended, word_ends, number_ends, number_read, first_digit}
use Rattle.cert_laws.proofs.BlockRead.{not_header}
use Rattle.cert_laws.proofs.Seams.{grown_behind, stopped_value, stopped_none, stopped_small}
use Rattle.cert_laws.proofs.Follows.{stopped, as_read}
use Rattle.cert_laws.proofs.Opens.{is_wrong}

no_truth : false ≡ true → ⊥
no_truth h = cc

-- taken

pub sign_on : (c : ℕ) (more : List ℕ) (at : ℕ) (scan : Scan) (built : Built) (s1 : Scan) (a : Action) → give scan (tokens.Sign c) ≡ givens.On s1 a → is_whole s1.want ≡ false → IsSpelling (c ∷ []) (tokens.Sign c) → after at (going scan built idle) (c ∷ more) ≡ after (at + 1) (going s1 (applied a built) idle) more
sign_on c more at scan built s1 a e w sp =
    ap (λ q. after (at + 1) q more) (sign_step at c scan built sp.1 ∙ ap (λ g. token_taken at (at + 1) g built) e ∙ ap (λ v. staged (cond v (stages.Whole (at + 1)) stages.Going) s1 (applied a built) idle) w)

pub word_on : (w : Word) (x : ℕ) (xs : List ℕ) (at : ℕ) (scan : Scan) (built : Built) (s1 : Scan) (a : Action) → give scan (tokens.Word w) ≡ givens.On s1 a → WordTaken scan w s1 → EndsAt (tokens.Word w) (x ∷ xs) → after at (going scan built idle) (letters_of w ++ x ∷ xs) ≡ after (at + length (letters_of w)) (going s1 (applied a built) idle) (x ∷ xs)
word_on w x xs at scan built s1 a e k f =
    let p = at + length (letters_of w) in
    after-append at (going scan built idle) (letters_of w) (x ∷ xs)
    ∙ ap (λ q. after p q (x ∷ xs)) (k.reads at built)
    ∙ ap (λ q. after (p + 1) q xs) (word_ends at p x scan built w f ∙ ap (λ g. and_begun p x (token_taken at p g built)) e ∙ ended at p x s1 a built k.goes)

number_on : (d : ℕ) (ds : List ℕ) (x : ℕ) (xs : List ℕ) (at : ℕ) (scan : Scan) (built : Built) (s1 : Scan) (a : Action) → scan.number < 2 ^ 32 → is_inside scan.want ≡ true → give scan (tokens.Number (value_behind 0 (d ∷ ds))) ≡ givens.On s1 a → NumberTaken scan.want scan.number (value_behind 0 (d ∷ ds)) s1 → AreAll is_digit (d ∷ ds) → is_digit x ≡ false → after at (going scan built idle) ((d ∷ ds) ++ x ∷ xs) ≡ after (at + length (d ∷ ds)) (going s1 (applied a built) idle) (x ∷ xs)
number_on d ds x xs at scan built s1 a n i e k all f =
    let p = at + length (d ∷ ds) in
    number_read d ds (x ∷ xs) at scan built (not_header scan.want i) n all k.small k.fits
    ∙ ap (λ q. after (p + 1) q xs) (number_ends at p x (value_behind 0 (d ∷ ds)) scan built f ∙ ap (λ g. and_begun p x (token_taken at p g built)) e ∙ ended at p x s1 a built k.goes)

pub token_on : (t : Token) (cs : List ℕ) (x : ℕ) (xs : List ℕ) (at : ℕ) (scan : Scan) (built : Built) (s1 : Scan) (a : Action) → scan.number < 2 ^ 32 → is_inside scan.want ≡ true → give scan t ≡ givens.On s1 a → is_whole s1.want ≡ false → IsSpelling cs t → EndsAt t (x ∷ xs) → after at (going scan built idle) (cs ++ x ∷ xs) ≡ after (at + length cs) (going s1 (applied a built) idle) (x ∷ xs)
token_on (tokens.Sign c) cs x xs at scan built s1 a n i e w sp f =
    ap (λ l. after at (going scan built idle) (l ++ x ∷ xs)) sp.0 ∙ sign_on c (x ∷ xs) at scan built s1 a e w (refl, sp.1) ∙ ap (λ l. after (at + length l) (going s1 (applied a built) idle) (x ∷ xs)) (sym sp.0)
token_on (tokens.Word w) cs x xs at scan built s1 a n i e g sp f =
    ap (λ l. after at (going scan built idle) (l ++ x ∷ xs)) sp
    ∙ word_on w x xs at scan built s1 a e (subst (OnlyOn (WordTaken scan w)) e (word_taken scan.number scan.second scan.want scan.depth scan.trees w i)) f
    ∙ ap (λ l. after (at + length l) (going s1 (applied a built) idle) (x ∷ xs)) (sym sp)
token_on (tokens.Number m) cs x xs at scan built s1 a n i e g sp f =
    let v = value_behind 0 (sp.0 ∷ sp.1) in
    let e2 = ap (λ y. give scan (tokens.Number y)) sp.4 ∙ e in
    ap (λ l. after at (going scan built idle) (l ++ x ∷ xs)) sp.2
    ∙ number_on sp.0 sp.1 x xs at scan built s1 a n i e2 (subst (OnlyOn (NumberTaken scan.want scan.number v)) e2 (number_taken scan.want scan v i n)) sp.3 f
    ∙ ap (λ l. after (at + length l) (going s1 (applied a built) idle) (x ∷ xs)) (sym sp.2)

-- past a limit

-- a word that may stand is read letter by letter, also where it passes a limit
tree_word_reads : (number : ℕ) (second end : Bool) (d trees : ℕ) (w : Word) → is_wrong (give_at (wants.Tree end) (scan_at number second (wants.Tree end) d trees) (tokens.Word w)) ≡ false → Reads (scan_at number second (wants.Tree end) d trees) w
tree_word_reads number second end d trees words.Version e = absurd (no_truth (sym e))
tree_word_reads number second end d trees words.Cert e = absurd (no_truth (sym e))
tree_word_reads number second end d trees words.Absurd e = absurd_reads number second end d trees
tree_word_reads number second end d trees words.Farkas e = farkas_reads number second end d trees
tree_word_reads number second end d trees words.Case e = case_reads number second end d trees
tree_word_reads number second end d trees words.Truth e = bool_reads number second end d trees
tree_word_reads number second end d trees words.Split e = split_reads number second end d trees
tree_word_reads number second end d trees words.Cut e = cut_reads number second end d trees
tree_word_reads number true end d trees words.Linear e = linear_reads number end d trees
tree_word_reads number false end d trees words.Linear e = absurd (no_truth (sym e))

word_reads : (number : ℕ) (second : Bool) (want : Want) (d trees : ℕ) (w : Word) → is_inside want ≡ true → is_wrong (give_at want (scan_at number second want d trees) (tokens.Word w)) ≡ false → Reads (scan_at number second want d trees) w
word_reads number second (wants.Tree end) d trees w i e = tree_word_reads number second end d trees w e
word_reads number second (wants.Block header) d trees w i e = absurd (no_truth i)
word_reads number second _ d trees w i e = absurd (no_truth (sym e))

-- digits where any number may stand
digits_any : (ds rest : List ℕ) (at place n : ℕ) (scan : Scan) (built : Built) → ((m : ℕ) → fits_number scan m ≡ true) → AreAll is_digit ds → after at (going scan built (digits place n)) (ds ++ rest) ≡ after (at + length ds) (going scan built (digits place (grown_behind n ds))) rest
unfolding step
digits_any [] rest at place n scan built f h = ap (λ m. after m (going scan built (digits place n)) rest) (let e : at ≡ at + 0 = omega arith in e)
digits_any (d ∷ ds) rest at place n scan built f h =
    ap (λ q. after (at + 1) q (ds ++ rest)) (ap (λ x. cond x (number_grown place scan built n d) (and_begun at d (token_taken place at (give scan (tokens.Number n)) built))) h.0 ∙ ap (λ x. cond x (going scan built (digits place (grown n d))) (malformed place)) (f (grown n d)))
    ∙ digits_any ds rest (at + 1) place (grown n d) scan built f h.1
    ∙ ap (λ m. after m (going scan built (digits place (grown_behind n (d ∷ ds)))) rest) (let e : at + 1 + length ds ≡ at + length (d ∷ ds) = omega arith in e)

abbrev Forward : Scan → ℕ → List ℕ → Type 0
Forward scan d ds = (at : ℕ) (built : Built) (rest : List ℕ) → after at (going scan built idle) ((d ∷ ds) ++ rest) ≡ after (at + length (d ∷ ds)) (going scan built (digits at (stopped (value_behind 0 (d ∷ ds))))) rest

any_forward : (scan : Scan) (d : ℕ) (ds : List ℕ) → ((m : ℕ) → fits_number scan m ≡ true) → AreAll is_digit (d ∷ ds) → Forward scan d ds
any_forward scan d ds f h at built rest =
    ap (λ q. after (at + 1) q (ds ++ rest)) (first_digit at d scan built h.0)
    ∙ digits_any (d ∷ ds) rest at at 0 scan built f h
    ∙ ap (λ m. after (at + length (d ∷ ds)) (going scan built (digits at m)) rest) (ap (λ m. grown_behind m (d ∷ ds)) (sym stopped_none) ∙ stopped_value (d ∷ ds) 0)

same_number : (n number : ℕ) → (n == number) ≡ true → number < 2 ^ 32 → n < 2 ^ 63
same_number n number e h = grind (arith, nat_tests)

if_right : (c : Bool) (g : Given) → is_wrong (cond c g givens.Wrong) ≡ false → c ≡ true
if_right true g h = refl
if_right false g h = absurd (no_truth (sym h))

wider : (v : ℕ) → v < 2 ^ 63 → v < 2 ^ 64
wider v h = omega (arith, h)

block_forward : (scan : Scan) (d : ℕ) (ds : List ℕ) → scan.want ≡ wants.BlockNumber → scan.number < 2 ^ 32 → (stopped (value_behind 0 (d ∷ ds)) == scan.number) ≡ true → AreAll is_digit (d ∷ ds) → Forward scan d ds
block_forward scan d ds w n e h at built rest =
    let v = value_behind 0 (d ∷ ds) in
    let small = same_number (stopped v) scan.number e n in
    let s = stopped_small v small in
    let tiny = subst (λ m. m < 2 ^ 63) s small in
    let fits = ap (λ x. fits_number (record scan { want = x }) v) w ∙ begins_itself scan.number v (ap (λ m. m == scan.number) (sym s) ∙ e) in
    number_read d ds rest at scan built (subst NotHeader (sym w) tt) n h (wider v tiny) fits
    ∙ ap (λ m. after (at + length (d ∷ ds)) (going scan built (digits at m)) rest) (sym s)

number_forward : (number : ℕ) (second : Bool) (want : Want) (depth trees d : ℕ) (ds : List ℕ) → number < 2 ^ 32 → is_inside want ≡ true → is_wrong (give_at want (scan_at number second want depth trees) (tokens.Number (stopped (value_behind 0 (d ∷ ds))))) ≡ false → AreAll is_digit (d ∷ ds) → Forward (scan_at number second want depth trees) d ds
number_forward number second wants.BlockNumber depth trees d ds n i e h = block_forward (scan_at number second wants.BlockNumber depth trees) d ds refl n (if_right _ _ e) h
number_forward number second wants.HeaderNumber depth trees d ds n i e h = absurd (no_truth i)
number_forward number second (wants.Subject branching) depth trees d ds n i e h = any_forward (scan_at number second (wants.Subject branching) depth trees) d ds (λ m. refl) h
number_forward number second (wants.Row signed count) depth trees d ds n i e h = any_forward (scan_at number second (wants.Row signed count) depth trees) d ds (λ m. refl) h
number_forward number second (wants.Multiplier signed count row) depth trees d ds n i e h = any_forward (scan_at number second (wants.Multiplier signed count row) depth trees) d ds (λ m. refl) h
number_forward number second (wants.Negative count row) depth trees d ds n i e h = any_forward (scan_at number second (wants.Negative count row) depth trees) d ds (λ m. refl) h
number_forward number second (wants.Coefficient first negative last) depth trees d ds n i e h = any_forward (scan_at number second (wants.Coefficient first negative last) depth trees) d ds (λ m. refl) h
number_forward number second (wants.Variable negative size last) depth trees d ds n i e h = any_forward (scan_at number second (wants.Variable negative size last) depth trees) d ds (λ m. refl) h
number_forward number second (wants.Constant negative) depth trees d ds n i e h = any_forward (scan_at number second (wants.Constant negative) depth trees) d ds (λ m. refl) h
number_forward number second _ depth trees d ds n i e h = absurd (no_truth (sym e))

over_is : (g : Given) → g ≡ givens.Over → is_wrong g ≡ false
over_is g e = ap is_wrong e

pub token_over : (t : Token) (cs : List ℕ) (x : ℕ) (xs : List ℕ) (at : ℕ) (scan : Scan) (built : Built) → scan.number < 2 ^ 32 → is_inside scan.want ≡ true → give scan (as_read t) ≡ givens.Over → IsSpelling cs t → EndsAt t (x ∷ xs) → after at (going scan built idle) (cs ++ x ∷ xs) ≡ over at
token_over (tokens.Sign c) cs x xs at scan built n i e sp f =
    ap (λ l. after at (going scan built idle) (l ++ x ∷ xs)) sp.0
    ∙ ap (λ q. after (at + 1) q (x ∷ xs)) (sign_step at c scan built sp.1 ∙ ap (λ g. token_taken at (at + 1) g built) e)
    ∙ stopped_after (at + 1) (over at) (x ∷ xs) refl
token_over (tokens.Word w) cs x xs at scan built n i e sp f =
    let p = at + length (letters_of w) in
    ap (λ l. after at (going scan built idle) (l ++ x ∷ xs)) sp
    ∙ after-append at (going scan built idle) (letters_of w) (x ∷ xs)
    ∙ ap (λ q. after p q (x ∷ xs)) (word_reads scan.number scan.second scan.want scan.depth scan.trees w i (over_is (give scan (tokens.Word w)) e) at built)
    ∙ ap (λ q. after (p + 1) q xs) (word_ends at p x scan built w f ∙ ap (λ g. and_begun p x (token_taken at p g built)) e)
    ∙ stopped_after (p + 1) (over at) xs refl
token_over (tokens.Number m) cs x xs at scan built n i e sp f =
    let v = value_behind 0 (sp.0 ∷ sp.1) in
    let p = at + length (sp.0 ∷ sp.1) in
    let e2 = ap (λ y. give scan (tokens.Number (stopped y))) sp.4 ∙ e in
    ap (λ l. after at (going scan built idle) (l ++ x ∷ xs)) sp.2
    ∙ number_forward scan.number scan.second scan.want scan.depth scan.trees sp.0 sp.1 n i (over_is (give scan (tokens.Number (stopped v))) e2) sp.3 at built (x ∷ xs)
    ∙ ap (λ q. after (p + 1) q xs) (number_ends at p x (stopped v) scan built f ∙ ap (λ g. and_begun p x (token_taken at p g built)) e2)
    ∙ stopped_after (p + 1) (over at) xs refl
