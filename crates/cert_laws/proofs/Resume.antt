-- Where tokens were taken, other bytes may follow them: the machine goes on from where they lead.
use Rattle.std.proofs.Common.{◌≡◌, ℕ, ◌+◌, ◌<◌, ◌^◌, Bool, true, false, List, [], ◌∷◌, ◌++◌, length, refl, sym, ap, ◌∙◌, subst, arith}
use Rattle.cert_text.specs.declared.scan.Word.{Word}
use Rattle.cert_text.specs.declared.scan.Word.TheVariants as words
use Rattle.cert_text.specs.declared.scan.Token.{Token}
use Rattle.cert_text.specs.declared.scan.Token.TheVariants as tokens
use Rattle.cert_text.specs.declared.scan.Want.{Want}
use Rattle.cert_text.specs.declared.scan.Want.TheVariants as wants
use Rattle.cert_text.specs.declared.scan.Scan.{Scan}
use Rattle.cert_text.specs.declared.scan.Action.{Action}
use Rattle.cert_text.specs.declared.scan.Given.TheVariants as givens
use Rattle.cert_text.specs.Control.{give, give_at, begins}
use Rattle.cert_text.specs.Letters.{is_digit}
use Rattle.cert_text.specs.Tree.{Built, applied}
use Rattle.cert_text.specs.Reading.{going, idle, step, after, is_whole, token_taken, and_begun}
use Rattle.cert_text.specs.Run.{scan_at}
use Rattle.cert_text.proofs.Stopping.{after-append}
use Rattle.cert_laws.specs.Spelled.{letters_of, value_behind, IsSpelling, EndsAt}
use Rattle.cert_laws.proofs.Givens.{OnlyOn, Reads, cert_reads}
use Rattle.cert_laws.proofs.Lexing.{ended, word_ends, number_ends, first_digit, digit_step}
use Rattle.cert_laws.proofs.BlockRead.{whole_is}
use Rattle.cert_laws.proofs.Stays.{Keeps, number_keeps}
use Rattle.cert_laws.proofs.Seams.{IsExact}
use Rattle.cert_laws.proofs.Told as told
use Rattle.cert_laws.proofs.Begun.{IsSome}
use Rattle.cert_laws.proofs.TokenReads.{sign_on, token_on}
use Rattle.cert_laws.proofs.Forward.{some_behind, one_read}

no_truth : false ≡ true → ⊥
no_truth h = cc

no_given : (s : Scan) (a : Action) → givens.Wrong ≡ givens.On s a → ⊥
no_given s a e = cc

abbrev Next : Scan → Built → Scan → Action → List ℕ → List ℕ → ℕ → Type 0
Next scan built s1 a cs more at = after at (going scan built idle) (cs ++ more) ≡ after (at + length cs) (going s1 (applied a built) idle) more

word_next : (w : Word) (x : ℕ) (xs : List ℕ) (at : ℕ) (scan : Scan) (built : Built) (s1 : Scan) (a : Action) → give scan (tokens.Word w) ≡ givens.On s1 a → Reads scan w → is_whole s1.want ≡ false → EndsAt (tokens.Word w) (x ∷ xs) → Next scan built s1 a (letters_of w) (x ∷ xs) at
word_next w x xs at scan built s1 a e k z f =
    let p = at + length (letters_of w) in
    after-append at (going scan built idle) (letters_of w) (x ∷ xs)
    ∙ ap (λ q. after p q (x ∷ xs)) (k at built)
    ∙ ap (λ q. after (p + 1) q xs) (word_ends at p x scan built w f ∙ ap (λ g. and_begun p x (token_taken at p g built)) e ∙ ended at p x s1 a built z)

version_reads : (number : ℕ) (second : Bool) (depth trees : ℕ) → Reads (scan_at number second (wants.Block true) depth trees) words.Version
unfolding step begins
version_reads number second depth trees at built = refl

block_next : (t : Token) (number : ℕ) (second header : Bool) (depth trees : ℕ) (cs : List ℕ) (x : ℕ) (xs : List ℕ) (at : ℕ) (built : Built) (s1 : Scan) (a : Action) → give_at (wants.Block header) (scan_at number second (wants.Block header) depth trees) t ≡ givens.On s1 a → is_whole s1.want ≡ false → IsSpelling cs t → EndsAt t (x ∷ xs) → Next (scan_at number second (wants.Block header) depth trees) built s1 a cs (x ∷ xs) at
block_next (tokens.Word words.Cert) number second header depth trees cs x xs at built s1 a e z sp f =
    subst (λ l. Next (scan_at number second (wants.Block header) depth trees) built s1 a l (x ∷ xs) at) (sym sp) (word_next words.Cert x xs at (scan_at number second (wants.Block header) depth trees) built s1 a e (cert_reads number second header depth trees) z f)
block_next (tokens.Word words.Version) number second true depth trees cs x xs at built s1 a e z sp f =
    subst (λ l. Next (scan_at number second (wants.Block true) depth trees) built s1 a l (x ∷ xs) at) (sym sp) (word_next words.Version x xs at (scan_at number second (wants.Block true) depth trees) built s1 a e (version_reads number second depth trees) z f)
block_next (tokens.Word words.Version) number second false depth trees cs x xs at built s1 a e z sp f = absurd (no_given s1 a e)
block_next (tokens.Word words.Absurd) number second header depth trees cs x xs at built s1 a e z sp f = absurd (no_given s1 a e)
block_next (tokens.Word words.Farkas) number second header depth trees cs x xs at built s1 a e z sp f = absurd (no_given s1 a e)
block_next (tokens.Word words.Linear) number second header depth trees cs x xs at built s1 a e z sp f = absurd (no_given s1 a e)
block_next (tokens.Word words.Case) number second header depth trees cs x xs at built s1 a e z sp f = absurd (no_given s1 a e)
block_next (tokens.Word words.Truth) number second header depth trees cs x xs at built s1 a e z sp f = absurd (no_given s1 a e)
block_next (tokens.Word words.Split) number second header depth trees cs x xs at built s1 a e z sp f = absurd (no_given s1 a e)
block_next (tokens.Word words.Cut) number second header depth trees cs x xs at built s1 a e z sp f = absurd (no_given s1 a e)
block_next (tokens.Number n) number second header depth trees cs x xs at built s1 a e z sp f = absurd (no_given s1 a e)
block_next (tokens.Sign c) number second header depth trees cs x xs at built s1 a e z sp f = absurd (no_given s1 a e)

-- the number of a header
two_next : (n : ℕ) (number : ℕ) (second : Bool) (depth trees : ℕ) (x : ℕ) (xs : List ℕ) (at : ℕ) (built : Built) (s1 : Scan) (a : Action) → n ≡ 2 → give_at wants.HeaderNumber (scan_at number second wants.HeaderNumber depth trees) (tokens.Number n) ≡ givens.On s1 a → is_whole s1.want ≡ false → is_digit x ≡ false → Next (scan_at number second wants.HeaderNumber depth trees) built s1 a (50 ∷ []) (x ∷ xs) at
two_next n number second depth trees x xs at built s1 a v e z f =
    let scan = scan_at number second wants.HeaderNumber depth trees in
    let g = ap (λ m. give scan (tokens.Number m)) (sym v) ∙ e in
    ap (λ q. after (at + 1) q (x ∷ xs)) (first_digit at 50 scan built refl ∙ digit_step at at 0 50 scan built refl (omega arith) refl)
    ∙ ap (λ q. after (at + 1 + 1) q xs) (number_ends at (at + 1) x 2 scan built f ∙ ap (λ y. and_begun (at + 1) x (token_taken at (at + 1) y built)) g ∙ ended at (at + 1) x s1 a built z)

header_next : (t : Token) (number : ℕ) (second : Bool) (depth trees : ℕ) (cs : List ℕ) (x : ℕ) (xs : List ℕ) (at : ℕ) (built : Built) (s1 : Scan) (a : Action) → give_at wants.HeaderNumber (scan_at number second wants.HeaderNumber depth trees) t ≡ givens.On s1 a → is_whole s1.want ≡ false → IsSpelling cs t → EndsAt t (x ∷ xs) → IsExact t wants.HeaderNumber cs → Next (scan_at number second wants.HeaderNumber depth trees) built s1 a cs (x ∷ xs) at
header_next (tokens.Word w) number second depth trees cs x xs at built s1 a e z sp f i = absurd (no_given s1 a e)
header_next (tokens.Sign c) number second depth trees cs x xs at built s1 a e z sp f i = absurd (no_given s1 a e)
header_next (tokens.Number n) number second depth trees cs x xs at built s1 a e z sp f i =
    subst (λ l. Next (scan_at number second wants.HeaderNumber depth trees) built s1 a l (x ∷ xs) at) (sym i) (two_next n number second depth trees x xs at built s1 a (value sp) e z f) where
      value : IsSpelling cs (tokens.Number n) → n ≡ 2
      value s = sym s.4 ∙ ap (value_behind 0) (sym s.2 ∙ i)

end_next : (t : Token) (number : ℕ) (second : Bool) (depth trees : ℕ) (cs : List ℕ) (x : ℕ) (xs : List ℕ) (at : ℕ) (built : Built) (s1 : Scan) (a : Action) → give_at wants.HeaderEnd (scan_at number second wants.HeaderEnd depth trees) t ≡ givens.On s1 a → is_whole s1.want ≡ false → IsSpelling cs t → Next (scan_at number second wants.HeaderEnd depth trees) built s1 a cs (x ∷ xs) at
end_next (tokens.Word w) number second depth trees cs x xs at built s1 a e z sp = absurd (no_given s1 a e)
end_next (tokens.Number n) number second depth trees cs x xs at built s1 a e z sp = absurd (no_given s1 a e)
end_next (tokens.Sign c) number second depth trees cs x xs at built s1 a e z sp =
    subst (λ l. Next (scan_at number second wants.HeaderEnd depth trees) built s1 a l (x ∷ xs) at) (sym sp.0) (sign_on c (x ∷ xs) at (scan_at number second wants.HeaderEnd depth trees) built s1 a e z (refl, sp.1))

-- a token that is taken, wherever it stands
any_next : (want : Want) (t : Token) (number : ℕ) (second : Bool) (depth trees : ℕ) (cs : List ℕ) (x : ℕ) (xs : List ℕ) (at : ℕ) (built : Built) (s1 : Scan) (a : Action) → number < 2 ^ 32 → give_at want (scan_at number second want depth trees) t ≡ givens.On s1 a → is_whole s1.want ≡ false → IsSpelling cs t → EndsAt t (x ∷ xs) → IsExact t want cs → Next (scan_at number second want depth trees) built s1 a cs (x ∷ xs) at
any_next (wants.Block header) t number second depth trees cs x xs at built s1 a n e z sp f i = block_next t number second header depth trees cs x xs at built s1 a e z sp f
any_next wants.HeaderNumber t number second depth trees cs x xs at built s1 a n e z sp f i = header_next t number second depth trees cs x xs at built s1 a e z sp f i
any_next wants.HeaderEnd t number second depth trees cs x xs at built s1 a n e z sp f i = end_next t number second depth trees cs x xs at built s1 a e z sp
any_next want t number second depth trees cs x xs at built s1 a n e z sp f i = token_on t cs x xs at (scan_at number second want depth trees) built s1 a n refl e z sp f

-- a scan that is reached on the way is not whole
still_going : (ts : List Token) (front next : List ℕ) (scan : Scan) (built : Built) (s : Scan) (b : Built) → told.Reads front ts next scan built s b → is_whole s.want ≡ false → is_whole scan.want ≡ false
still_going [] front next scan built s b r w = ap (λ q. is_whole q.want) r.1 ∙ w
still_going (t ∷ ts) front next scan built s b r w = by (is_whole scan.want) refl where
  by : (c : Bool) → is_whole scan.want ≡ c → is_whole scan.want ≡ false
  by false e = e
  by true e = absurd (no_given r.3 r.4 (ap (λ want. give (record scan { want = want }) t) (sym (whole_is scan.want e)) ∙ r.10))

pub resume : (ts : List Token) (front next tail : List ℕ) (at : ℕ) (scan : Scan) (built : Built) (s : Scan) (b : Built) → scan.number < 2 ^ 32 → told.Reads front ts next scan built s b → is_whole s.want ≡ false → IsSome tail → ((t : Token) (xs : List ℕ) → EndsAt t (xs ++ next) → EndsAt t (xs ++ tail)) → after at (going scan built idle) (front ++ tail) ≡ after (at + length front) (going s b idle) tail
resume [] front next tail at scan built s b n r w some j =
    ap (λ xs. after at (going scan built idle) (xs ++ tail)) r.0
    ∙ ap (λ q. after at (going q built idle) tail) r.1
    ∙ ap (λ c. after at (going s c idle) tail) r.2
    ∙ ap (λ m. after m (going s b idle) tail) (none at ∙ ap (λ xs. at + length xs) (sym r.0)) where
      none : (m : ℕ) → m ≡ m + 0
      none m = omega arith
resume (t ∷ ts) front next tail at scan built s b n r w some j =
    let z = some_behind r.2 tail some in
    let p = at + length r.0 in
    let k = subst (OnlyOn (Keeps scan.number)) r.10 (number_keeps scan.want scan t) in
    let one = subst (λ xs. Next scan built r.3 r.4 r.1 xs p) (sym z.2)
    (any_next scan.want t scan.number scan.second scan.depth scan.trees r.1 z.0 z.1 p built r.3 r.4 n r.10 (still_going ts r.2 next r.3 (applied r.4 built) s b r.11 w) r.7 (subst (EndsAt t) z.2 (j t r.2 r.8)) r.9) in
    one_read r.0 r.1 r.2 tail front at scan built r.3 s (applied r.4 built) b r.5 r.6 one
    (resume ts r.2 next tail (p + length r.1) r.3 (applied r.4 built) s b (subst (λ m. m < 2 ^ 32) (sym k) n) r.11 w some j)
