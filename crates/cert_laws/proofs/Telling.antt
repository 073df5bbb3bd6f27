-- What the machine does with any bytes can be told in tokens.
use Rattle.std.proofs.Common.{◌≡◌, ℕ, ◌+◌, ◌<◌, ◌^◌, Bool, true, false, cond, ◌&&◌, inl, inr, List, [], ◌∷◌, ◌++◌, length, refl, sym, ap, ◌∙◌, subst, arith, nat_lt, Option, Some, None, append_assoc}
use Rattle.std.proofs.lemmas.List.{length-append, append-nil}
use Rattle.cert_text.specs.declared.scan.Word.{Word}
use Rattle.cert_text.specs.declared.scan.Token.{Token}
use Rattle.cert_text.specs.declared.scan.Token.TheVariants as tokens
use Rattle.cert_text.specs.declared.scan.Scan.{Scan}
use Rattle.cert_text.specs.declared.scan.Action.{Action}
use Rattle.cert_text.specs.declared.scan.Given.{Given}
use Rattle.cert_text.specs.declared.scan.Given.TheVariants as givens
use Rattle.cert_text.specs.declared.progress.Stage.TheVariants as stages
use Rattle.cert_text.specs.Control.{give, fits_word, fits_number, word_of}
use Rattle.cert_text.specs.Letters.{is_blank, is_letter, is_digit, grown}
use Rattle.cert_text.specs.Tree.{Built, applied}
use Rattle.cert_text.specs.Reading.{State, Pending, going, malformed, over, whole, idle, letters, digits, step, after, begun, staged, is_whole, word_grown, number_grown, token_taken, word_ended, and_begun}
use Rattle.cert_text.proofs.Stopping.{stopped_after, after-append}
use Rattle.cert_laws.specs.Spelled.{AreAll, value_behind, IsSign, IsSpelling, EndsAt}
use Rattle.cert_laws.specs.Refused.{runs_on, IsOfToken}
use Rattle.cert_laws.proofs.Givens.{OnlyOn}
use Rattle.cert_laws.proofs.Seams.{grown_behind, digits_more, letters_stop, digits_stop, letters_end, digits_end, stopped_value, stopped_none, stopped_small, IsDigits, IsExact, first_exact, more_exact}
use Rattle.cert_laws.proofs.Lexing.{spelled_word}
use Rattle.cert_laws.proofs.Writing.{all_more, ends_sign}
use Rattle.cert_laws.proofs.Small.{IsSmall, small_number}
use Rattle.cert_laws.proofs.Stays.{Keeps, number_keeps, on_then}
use Rattle.cert_laws.proofs.Follows.{stopped, as_read}
use Rattle.cert_laws.proofs.Told.{IsOpen, IsRefused, HasEnded, l_open, l_wrong, l_over, l_whole, Told, last_told, blank_told, token_told}

no_truth : false ≡ true → ⊥
no_truth h = cc

-- what is pending is the bytes cs, which began at start
abbrev Part : Scan → Built → Pending → List ℕ → ℕ → ℕ → Type 0
Part scan built p cs start at = (at ≡ start + length cs) × IsOpen scan p cs start × (after start (going scan built idle) cs ≡ going scan built p)

-- a scan from which a block goes on
abbrev pub IsFine : Scan → Type 0
IsFine scan = (scan.number < 2 ^ 32) × (is_whole scan.want ≡ false)

abbrev Tells : List ℕ → Type 0
Tells bs = (at : ℕ) (scan : Scan) (built : Built) (p : Pending) (cs : List ℕ) (start : ℕ) → IsFine scan → Part scan built p cs start at → Told (cs ++ bs) start scan built (after at (going scan built p) bs)

-- where the machine has stopped

stays_wrong : (at place : ℕ) (bs : List ℕ) → after at (malformed place) bs ≡ malformed place
stays_wrong at place bs = stopped_after at (malformed place) bs refl

stays_over : (at place : ℕ) (bs : List ℕ) → after at (over place) bs ≡ over place
stays_over at place bs = stopped_after at (over place) bs refl

stays_whole : (at end : ℕ) (s : Scan) (b : Built) (bs : List ℕ) → after at (whole end s b) bs ≡ whole end s b
stays_whole at end s b bs = stopped_after at (whole end s b) bs refl

here : (n : ℕ) → n ≡ n + 0
here n = omega arith

wrong_told : (cs rest : List ℕ) (start at : ℕ) (scan : Scan) (built : Built) → is_whole scan.want ≡ false → IsOfToken cs → IsRefused scan built start cs rest → (bs : List ℕ) → Told (cs ++ rest) start scan built (after at (malformed start) bs)
wrong_told cs rest start at scan built w o r bs =
    last_told (cs ++ rest) start scan built (after at (malformed start) bs) w (l_wrong [] cs rest refl tt o (subst (λ n. IsRefused scan built n cs rest) (here start) r) (stays_wrong at start bs ∙ ap malformed (here start)))

over_told : (cs rest : List ℕ) (t : Token) (start at : ℕ) (scan : Scan) (built : Built) → is_whole scan.want ≡ false → IsSpelling cs t → EndsAt t rest → HasEnded t rest → give scan (as_read t) ≡ givens.Over → (bs : List ℕ) → Told (cs ++ rest) start scan built (after at (over start) bs)
over_told cs rest t start at scan built w sp f e g bs =
    last_told (cs ++ rest) start scan built (after at (over start) bs) w (l_over [] cs rest t refl tt sp f e g (stays_over at start bs ∙ ap over (here start)))

whole_told : (cs rest : List ℕ) (t : Token) (start at end : ℕ) (scan : Scan) (built : Built) (s1 : Scan) (a : Action) (bs : List ℕ) → is_whole scan.want ≡ false → IsSpelling cs t → EndsAt t rest → IsExact t scan.want cs → give scan t ≡ givens.On s1 a → is_whole s1.want ≡ true → Told (cs ++ rest) start scan built (after at (whole end s1 (applied a built)) bs)
whole_told cs rest t start at end scan built s1 a bs w sp f x g z =
    last_told (cs ++ rest) start scan built (after at (whole end s1 (applied a built)) bs) w (l_whole [] cs rest t s1 a end refl tt sp f x g z (stays_whole at end s1 (applied a built) bs))

-- a letter or a digit more
more_told : (grows : Bool) (p : Pending) (cs bs : List ℕ) (start at : ℕ) (scan : Scan) (built : Built) → IsFine scan → Tells bs → at ≡ start + length cs → after start (going scan built idle) cs ≡ cond grows (going scan built p) (malformed start) → (grows ≡ true → IsOpen scan p cs start) → IsOfToken cs → Told (cs ++ bs) start scan built (after at (cond grows (going scan built p) (malformed start)) bs)
more_told true p cs bs start at scan built n more l e i o = more at scan built p cs start n (l, i refl, e)
more_told false p cs bs start at scan built n more l e i o = wrong_told cs bs start at scan built n.1 o (inl e) bs

-- a sign

sign_on : (ends : Bool) (x : ℕ) (bs : List ℕ) (at : ℕ) (scan : Scan) (built : Built) (s1 : Scan) (a : Action) → is_whole scan.want ≡ false → is_whole s1.want ≡ ends → s1.number < 2 ^ 32 → give scan (tokens.Sign x) ≡ givens.On s1 a → IsSign x → Tells bs → Told (x ∷ bs) at scan built (after (at + 1) (staged (cond ends (stages.Whole (at + 1)) stages.Going) s1 (applied a built) idle) bs)
sign_on true x bs at scan built s1 a w z n e sign more = whole_told (x ∷ []) bs (tokens.Sign x) at (at + 1) (at + 1) scan built s1 a bs w (refl, sign) (ends_sign x bs) tt e z
sign_on false x bs at scan built s1 a w z n e sign more =
    token_told (x ∷ []) (tokens.Sign x) bs at (at + 1) scan built s1 a (after (at + 1) (going s1 (applied a built) idle) bs) refl (refl, sign) (ends_sign x bs) tt e
    (more (at + 1) s1 (applied a built) idle [] (at + 1) (n, z) (here (at + 1), refl, refl))

sign_told : (g : Given) (x : ℕ) (bs : List ℕ) (at : ℕ) (scan : Scan) (built : Built) → is_whole scan.want ≡ false → give scan (tokens.Sign x) ≡ g → OnlyOn (λ s. s.number < 2 ^ 32) g → IsSign x → after at (going scan built idle) (x ∷ []) ≡ token_taken at (at + 1) g built → Tells bs → Told (x ∷ bs) at scan built (after (at + 1) (token_taken at (at + 1) g built) bs)
sign_told (givens.On s1 a) x bs at scan built w e n sign r more = sign_on (is_whole s1.want) x bs at scan built s1 a w refl n e sign more
sign_told givens.Wrong x bs at scan built w e n sign r more = wrong_told (x ∷ []) bs at (at + 1) scan built w (x, [], refl, inr (inr (sign, refl))) (inl r) bs
sign_told givens.Over x bs at scan built w e n sign r more = over_told (x ∷ []) bs (tokens.Sign x) at (at + 1) scan built w (refl, sign) (ends_sign x bs) tt e bs

below : (scan : Scan) (t : Token) → scan.number < 2 ^ 32 → OnlyOn (λ s. s.number < 2 ^ 32) (give scan t)
below scan t n = on_then (Keeps scan.number) (λ s. s.number < 2 ^ 32) (give scan t) (λ s e. subst (λ m. m < 2 ^ 32) (sym e) n) (number_keeps scan.want scan t)

-- where nothing is pending

letter_open : (scan : Scan) (at x : ℕ) → is_letter x ≡ true → (nat_lt 0 8 && fits_word scan (x ∷ [])) ≡ true → IsOpen scan (letters at (x ∷ [])) (x ∷ []) at
letter_open scan at x h f = (refl, refl, x, [], refl, (h, tt), f)

first_value : (x : ℕ) → grown 0 x ≡ stopped (value_behind 0 (x ∷ []))
first_value x = ap (λ n. grown n x) (sym stopped_none) ∙ stopped_value (x ∷ []) 0

digit_open : (scan : Scan) (at x : ℕ) → is_digit x ≡ true → fits_number scan (grown 0 x) ≡ true → IsOpen scan (digits at (grown 0 x)) (x ∷ []) at
digit_open scan at x h f = (refl, x, [], refl, (h, tt), first_value x, f, first_exact scan.want scan.number x h f)

idle_by : (blank letter digit : Bool) (x : ℕ) (bs : List ℕ) (at : ℕ) (scan : Scan) (built : Built) → is_blank x ≡ blank → is_letter x ≡ letter → is_digit x ≡ digit → IsFine scan → Tells bs → after at (going scan built idle) (x ∷ []) ≡ cond blank (going scan built idle) (cond letter (word_grown at scan built [] x) (cond digit (number_grown at scan built 0 x) (token_taken at (at + 1) (give scan (tokens.Sign x)) built))) → Told (x ∷ bs) at scan built (after (at + 1) (cond blank (going scan built idle) (cond letter (word_grown at scan built [] x) (cond digit (number_grown at scan built 0 x) (token_taken at (at + 1) (give scan (tokens.Sign x)) built)))) bs)
idle_by true letter digit x bs at scan built e f g n more r = blank_told x bs at scan built (after (at + 1) (going scan built idle) bs) e (more (at + 1) scan built idle [] (at + 1) n (here (at + 1), refl, refl))
idle_by false true digit x bs at scan built e f g n more r = more_told (nat_lt 0 8 && fits_word scan (x ∷ [])) (letters at (x ∷ [])) (x ∷ []) bs at (at + 1) scan built n more refl r (letter_open scan at x f) (x, [], refl, inl (f, tt))
idle_by false false true x bs at scan built e f g n more r = more_told (fits_number scan (grown 0 x)) (digits at (grown 0 x)) (x ∷ []) bs at (at + 1) scan built n more refl r (digit_open scan at x g) (x, [], refl, inr (inl (g, tt)))
idle_by false false false x bs at scan built e f g n more r = sign_told (give scan (tokens.Sign x)) x bs at scan built n.1 refl (below scan (tokens.Sign x) n.0) (e, f, g) r more

idle_told : (x : ℕ) (bs : List ℕ) (at : ℕ) (scan : Scan) (built : Built) → IsFine scan → Tells bs → Told (x ∷ bs) at scan built (after (at + 1) (begun at x scan built) bs)
unfolding step
idle_told x bs at scan built n more = idle_by (is_blank x) (is_letter x) (is_digit x) x bs at scan built refl refl refl n more refl

-- a word or a number that ends before x; as the machine has it, it gives g

pending_on : (ends : Bool) (t : Token) (cs : List ℕ) (x : ℕ) (bs : List ℕ) (start at : ℕ) (scan : Scan) (built : Built) (s1 : Scan) (a : Action) → is_whole scan.want ≡ false → is_whole s1.want ≡ ends → s1.number < 2 ^ 32 → at ≡ start + length cs → IsSpelling cs t → EndsAt t (x ∷ bs) → IsExact t scan.want cs → give scan t ≡ givens.On s1 a → Tells bs → Told (cs ++ x ∷ bs) start scan built (after (at + 1) (and_begun at x (staged (cond ends (stages.Whole at) stages.Going) s1 (applied a built) idle)) bs)
pending_on true t cs x bs start at scan built s1 a w z n l sp f i e more = whole_told cs (x ∷ bs) t start (at + 1) at scan built s1 a bs w sp f i e z
pending_on false t cs x bs start at scan built s1 a w z n l sp f i e more =
    token_told cs t (x ∷ bs) start at scan built s1 a (after (at + 1) (begun at x s1 (applied a built)) bs) l sp f i e (idle_told x bs at s1 (applied a built) (n, z) more)

pending_told : (g : Given) (t : Token) (cs : List ℕ) (x : ℕ) (bs : List ℕ) (start at : ℕ) (scan : Scan) (built : Built) → is_whole scan.want ≡ false → OnlyOn (λ s. s.number < 2 ^ 32) g → at ≡ start + length cs → IsSpelling cs t → EndsAt t (x ∷ bs) → IsExact t scan.want cs → ((s1 : Scan) (a : Action) → g ≡ givens.On s1 a → give scan t ≡ givens.On s1 a) → (g ≡ givens.Over → give scan (as_read t) ≡ givens.Over) → HasEnded t (x ∷ bs) → IsOfToken cs → runs_on cs (x ∷ bs) ≡ false → ((z : ℕ) → runs_on cs (z ∷ []) ≡ false → after start (going scan built idle) (cs ++ z ∷ []) ≡ and_begun at z (token_taken start at g built)) → Tells bs → Told (cs ++ x ∷ bs) start scan built (after (at + 1) (and_begun at x (token_taken start at g built)) bs)
pending_told (givens.On s1 a) t cs x bs start at scan built w n l sp f i on_is over_is e o r blank more = pending_on (is_whole s1.want) t cs x bs start at scan built s1 a w refl n l sp f i (on_is s1 a refl) more
pending_told givens.Wrong t cs x bs start at scan built w n l sp f i on_is over_is e o r blank more = wrong_told cs (x ∷ bs) start (at + 1) scan built w o (inr (x, bs, refl, r, blank)) bs
pending_told givens.Over t cs x bs start at scan built w n l sp f i on_is over_is e o r blank more = over_told cs (x ∷ bs) t start (at + 1) scan built w sp f e (over_is refl) bs

-- a byte more behind what is pending
one_more : (start at : ℕ) (scan : Scan) (built : Built) (p : Pending) (cs : List ℕ) (x : ℕ) → at ≡ start + length cs → after start (going scan built idle) cs ≡ going scan built p → after start (going scan built idle) (cs ++ x ∷ []) ≡ step at (going scan built p) x
one_more start at scan built p cs x l e = after-append start (going scan built idle) cs (x ∷ []) ∙ ap (λ q. step (start + length cs) q x) e ∙ ap (λ n. step n (going scan built p) x) (sym l)

longer : (start at x : ℕ) (cs : List ℕ) → at ≡ start + length cs → at + 1 ≡ start + length (cs ++ x ∷ [])
longer start at x cs l = let e = length-append cs (x ∷ []) in omega (arith, l, e)

regrouped : (cs : List ℕ) (x : ℕ) (bs : List ℕ) (start : ℕ) (scan : Scan) (built : Built) (q : State) → Told ((cs ++ x ∷ []) ++ bs) start scan built q → Told (cs ++ x ∷ bs) start scan built q
regrouped cs x bs start scan built q r = subst (λ xs. Told xs start scan built q) (append_assoc cs (x ∷ []) bs) r

-- words

none_told : (cs : List ℕ) (x : ℕ) (bs : List ℕ) (start at : ℕ) (scan : Scan) (built : Built) → is_whole scan.want ≡ false → IsOfToken cs → runs_on cs (x ∷ bs) ≡ false → ((z : ℕ) → runs_on cs (z ∷ []) ≡ false → after start (going scan built idle) (cs ++ z ∷ []) ≡ malformed start) → Told (cs ++ x ∷ bs) start scan built (after (at + 1) (malformed start) bs)
none_told cs x bs start at scan built w o r blank = wrong_told cs (x ∷ bs) start (at + 1) scan built w o (inr (x, bs, refl, r, blank)) bs

word_by : (w : Option Word) (ls : List ℕ) (x : ℕ) (bs : List ℕ) (start at : ℕ) (scan : Scan) (built : Built) → word_of ls ≡ w → IsFine scan → at ≡ start + length ls → AreAll is_letter ls → IsOfToken ls → is_letter x ≡ false → ((z : ℕ) → runs_on ls (z ∷ []) ≡ false → after start (going scan built idle) (ls ++ z ∷ []) ≡ and_begun at z (word_ended start at scan built w)) → Tells bs → Told (ls ++ x ∷ bs) start scan built (after (at + 1) (and_begun at x (word_ended start at scan built w)) bs)
word_by (Some w) ls x bs start at scan built e n l h o k blank more =
    pending_told (give scan (tokens.Word w)) (tokens.Word w) ls x bs start at scan built n.1 (below scan (tokens.Word w) n.0) l (spelled_word ls w e) k tt (λ s a g. g) (λ g. g) (x, bs, refl) o (letters_stop ls x bs h k) blank more
word_by None ls x bs start at scan built e n l h o k blank more = none_told ls x bs start at scan built n.1 o (letters_stop ls x bs h k) blank

some_letters : (ls : List ℕ) (c : ℕ) (more : List ℕ) → ls ≡ c ∷ more → AreAll is_letter ls → IsOfToken ls
some_letters ls c more e h = (c, more, e, inl (subst (AreAll is_letter) e h))

longer_letters : (scan : Scan) (start : ℕ) (ls : List ℕ) (c x : ℕ) (more : List ℕ) → ls ≡ c ∷ more → AreAll is_letter ls → is_letter x ≡ true → (nat_lt (length ls) 8 && fits_word scan (ls ++ x ∷ [])) ≡ true → IsOpen scan (letters start (ls ++ x ∷ [])) (ls ++ x ∷ []) start
longer_letters scan start ls c x more e h k f = (refl, refl, c, more ++ x ∷ [], ap (λ xs. xs ++ x ∷ []) e, all_more is_letter ls x h k, both (nat_lt (length ls) 8) (fits_word scan (ls ++ x ∷ [])) f) where
  both : (a b : Bool) → (a && b) ≡ true → b ≡ true
  both true b g = g
  both false b g = absurd (no_truth g)

letters_by : (letter : Bool) (ls : List ℕ) (c : ℕ) (tail : List ℕ) (x : ℕ) (bs : List ℕ) (start at : ℕ) (scan : Scan) (built : Built) → is_letter x ≡ letter → ls ≡ c ∷ tail → AreAll is_letter ls → IsFine scan → at ≡ start + length ls → after start (going scan built idle) (ls ++ x ∷ []) ≡ cond letter (word_grown start scan built ls x) (and_begun at x (word_ended start at scan built (word_of ls))) → ((z : ℕ) → runs_on ls (z ∷ []) ≡ false → after start (going scan built idle) (ls ++ z ∷ []) ≡ and_begun at z (word_ended start at scan built (word_of ls))) → Tells bs → Told (ls ++ x ∷ bs) start scan built (after (at + 1) (cond letter (word_grown start scan built ls x) (and_begun at x (word_ended start at scan built (word_of ls)))) bs)
letters_by true ls c tail x bs start at scan built k e h n l r blank more =
    regrouped ls x bs start scan built _ (more_told (nat_lt (length ls) 8 && fits_word scan (ls ++ x ∷ [])) (letters start (ls ++ x ∷ [])) (ls ++ x ∷ []) bs start (at + 1) scan built n more (longer start at x ls l) r (longer_letters scan start ls c x tail e h k)
    (some_letters (ls ++ x ∷ []) c (tail ++ x ∷ []) (ap (λ xs. xs ++ x ∷ []) e) (all_more is_letter ls x h k)))
letters_by false ls c tail x bs start at scan built k e h n l r blank more = word_by (word_of ls) ls x bs start at scan built refl n l h (some_letters ls c tail e h) k blank more

-- numbers

longer_digits : (scan : Scan) (start n x d : ℕ) (ds : List ℕ) → AreAll is_digit (d ∷ ds) → n ≡ stopped (value_behind 0 (d ∷ ds)) → IsDigits scan.want (d ∷ ds) → is_digit x ≡ true → fits_number scan (grown n x) ≡ true → IsOpen scan (digits start (grown n x)) ((d ∷ ds) ++ x ∷ []) start
longer_digits scan start n x d ds h v i k f =
    let at_first = stopped_value (d ∷ ds) 0 in
    let machine : n ≡ grown_behind 0 (d ∷ ds) = v ∙ sym at_first ∙ ap (λ m. grown_behind m (d ∷ ds)) stopped_none in
    (refl, d, ds ++ x ∷ [], refl, all_more is_digit (d ∷ ds) x h k, ap (λ m. grown m x) machine ∙ sym (digits_more (d ∷ ds) x 0) ∙ ap (λ m. grown_behind m ((d ∷ ds) ++ x ∷ [])) (sym stopped_none) ∙ stopped_value ((d ∷ ds) ++ x ∷ []) 0, f, more_exact scan.want scan.number n x (d ∷ ds) k i machine f)

digits_by : (digit : Bool) (d : ℕ) (ds : List ℕ) (n x : ℕ) (bs : List ℕ) (start at : ℕ) (scan : Scan) (built : Built) → is_digit x ≡ digit → AreAll is_digit (d ∷ ds) → n ≡ stopped (value_behind 0 (d ∷ ds)) → IsDigits scan.want (d ∷ ds) → IsFine scan → at ≡ start + length (d ∷ ds) → after start (going scan built idle) ((d ∷ ds) ++ x ∷ []) ≡ cond digit (number_grown start scan built n x) (and_begun at x (token_taken start at (give scan (tokens.Number n)) built)) → ((z : ℕ) → runs_on (d ∷ ds) (z ∷ []) ≡ false → after start (going scan built idle) ((d ∷ ds) ++ z ∷ []) ≡ and_begun at z (token_taken start at (give scan (tokens.Number n)) built)) → Tells bs → Told ((d ∷ ds) ++ x ∷ bs) start scan built (after (at + 1) (cond digit (number_grown start scan built n x) (and_begun at x (token_taken start at (give scan (tokens.Number n)) built))) bs)
digits_by true d ds n x bs start at scan built k h v i m l r blank more =
    regrouped (d ∷ ds) x bs start scan built _ (more_told (fits_number scan (grown n x)) (digits start (grown n x)) ((d ∷ ds) ++ x ∷ []) bs start (at + 1) scan built m more (longer start at x (d ∷ ds) l) r (longer_digits scan start n x d ds h v i k)
    (d, ds ++ x ∷ [], refl, inr (inl (all_more is_digit (d ∷ ds) x h k))))
digits_by false d ds n x bs start at scan built k h v i m l r blank more =
    pending_told (give scan (tokens.Number n)) (tokens.Number value) (d ∷ ds) x bs start at scan built m.1 (below scan (tokens.Number n) m.0) l (d, ds, refl, h, refl) k i
    (λ s a g. ap (λ y. give scan (tokens.Number y)) (exact s a g) ∙ g) (λ g. ap (λ y. give scan (tokens.Number y)) (sym v) ∙ g) (x, bs, refl) (d, ds, refl, inr (inl h)) (digits_stop (d ∷ ds) x bs h k) blank more where
      value : ℕ
      value = value_behind 0 (d ∷ ds)

      small : (g : Given) (s : Scan) (a : Action) → g ≡ givens.On s a → OnlyOn (IsSmall n) g → n < 2 ^ 63
      small g s a e o = subst (OnlyOn (IsSmall n)) e o

      exact : (s : Scan) (a : Action) → give scan (tokens.Number n) ≡ givens.On s a → value ≡ n
      exact s a g = sym (v ∙ stopped_small value (subst (λ y. y < 2 ^ 63) v (small (give scan (tokens.Number n)) s a g (small_number scan.want scan n m.0))))

letters_told : (ls : List ℕ) (c : ℕ) (tail : List ℕ) (x : ℕ) (bs : List ℕ) (start at : ℕ) (scan : Scan) (built : Built) → ls ≡ c ∷ tail → AreAll is_letter ls → IsFine scan → at ≡ start + length ls → after start (going scan built idle) ls ≡ going scan built (letters start ls) → Tells bs → Told (ls ++ x ∷ bs) start scan built (after (at + 1) (step at (going scan built (letters start ls)) x) bs)
unfolding step
letters_told ls c tail x bs start at scan built e h n l r more = letters_by (is_letter x) ls c tail x bs start at scan built refl e h n l (one_more start at scan built (letters start ls) ls x l r) (λ z e2. one_more start at scan built (letters start ls) ls z l r ∙ ap (λ y. cond y (word_grown start scan built ls z) (and_begun at z (word_ended start at scan built (word_of ls)))) (letters_end c tail z [] (subst (AreAll is_letter) e h) (ap (λ xs. runs_on xs (z ∷ [])) (sym e) ∙ e2))) more

digits_told : (d : ℕ) (ds : List ℕ) (m x : ℕ) (bs : List ℕ) (start at : ℕ) (scan : Scan) (built : Built) → AreAll is_digit (d ∷ ds) → m ≡ stopped (value_behind 0 (d ∷ ds)) → IsDigits scan.want (d ∷ ds) → IsFine scan → at ≡ start + length (d ∷ ds) → after start (going scan built idle) (d ∷ ds) ≡ going scan built (digits start m) → Tells bs → Told ((d ∷ ds) ++ x ∷ bs) start scan built (after (at + 1) (step at (going scan built (digits start m)) x) bs)
unfolding step
digits_told d ds m x bs start at scan built h v i n l r more = digits_by (is_digit x) d ds m x bs start at scan built refl h v i n l (one_more start at scan built (digits start m) (d ∷ ds) x l r) (λ z e2. one_more start at scan built (digits start m) (d ∷ ds) z l r ∙ ap (λ y. cond y (number_grown start scan built m z) (and_begun at z (token_taken start at (give scan (tokens.Number m)) built))) (digits_end d ds z [] h e2)) more

idle_step : (x : ℕ) (bs : List ℕ) (at : ℕ) (scan : Scan) (built : Built) → IsFine scan → Tells bs → Told (x ∷ bs) at scan built (after (at + 1) (step at (going scan built idle) x) bs)
unfolding step
idle_step x bs at scan built n more = idle_told x bs at scan built n more

pub telling : (bs : List ℕ) → Tells bs
telling [] at scan built p cs start n part = last_told (cs ++ []) start scan built (going scan built p) n.1 (l_open [] cs p (append-nil cs) tt (subst (IsOpen scan p cs) (here start) part.1) refl)
telling (x ∷ bs) at scan built idle cs start n part =
    let e : at ≡ start = part.0 ∙ ap (λ xs. start + length xs) part.1 ∙ sym (here start) in
    subst (λ xs. Told (xs ++ x ∷ bs) start scan built (after (at + 1) (step at (going scan built idle) x) bs)) (sym part.1) (subst (λ m. Told (x ∷ bs) m scan built (after (at + 1) (step at (going scan built idle) x) bs)) e (idle_step x bs at scan built n (telling bs)))
telling (x ∷ bs) at scan built (letters st ls) cs start n part =
    let o = part.1 in
    let r = ap (after start (going scan built idle)) (sym o.0) ∙ part.2 ∙ ap (λ m. going scan built (letters m ls)) o.1 in
    let l : at ≡ start + length ls = part.0 ∙ ap (λ xs. start + length xs) o.0 in
    subst (λ xs. Told (xs ++ x ∷ bs) start scan built (after (at + 1) (step at (going scan built (letters st ls)) x) bs)) (sym o.0)
    (subst (λ m. Told (ls ++ x ∷ bs) start scan built (after (at + 1) (step at (going scan built (letters m ls)) x) bs)) (sym o.1)
    (letters_told ls o.2 o.3 x bs start at scan built o.4 o.5 n l r (telling bs)))
telling (x ∷ bs) at scan built (digits st m) cs start n part =
    let o = part.1 in
    let r = ap (after start (going scan built idle)) (sym o.3) ∙ part.2 ∙ ap (λ k. going scan built (digits k m)) o.0 in
    let l : at ≡ start + length (o.1 ∷ o.2) = part.0 ∙ ap (λ xs. start + length xs) o.3 in
    subst (λ xs. Told (xs ++ x ∷ bs) start scan built (after (at + 1) (step at (going scan built (digits st m)) x) bs)) (sym o.3)
    (subst (λ k. Told ((o.1 ∷ o.2) ++ x ∷ bs) start scan built (after (at + 1) (step at (going scan built (digits k m)) x) bs)) (sym o.0)
    (digits_told o.1 o.2 m x bs start at scan built o.4 o.5 (subst (IsDigits scan.want) o.3 o.7) n l r (telling bs)))

-- from where nothing is pending
pub told : (bs : List ℕ) (at : ℕ) (scan : Scan) (built : Built) → IsFine scan → Told bs at scan built (after at (going scan built idle) bs)
told bs at scan built n = telling bs at scan built idle [] at n (here at, refl, refl)
