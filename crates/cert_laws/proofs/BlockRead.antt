-- Bytes that spell a block are read as it: token by token, each taken where its bytes end.
use Rattle.std.proofs.Common.{◌≡◌, ℕ, ◌+◌, ◌-◌, ◌^◌, ◌<◌, Bool, true, false, cond, List, [], ◌∷◌, ◌++◌, length, drop, refl, sym, ap, ◌∙◌, subst, arith, append_assoc, nat_lt, ◌&&◌}
use Rattle.std.proofs.lemmas.List.{length-append}
use Rattle.std.proofs.Math.Seq.{drop-append_seam}
use Rattle.cert_text.specs.declared.scan.Word.{Word}
use Rattle.cert_text.specs.declared.scan.Word.TheVariants as words
use Rattle.cert_text.specs.declared.scan.Token.{Token}
use Rattle.cert_text.specs.declared.scan.Token.TheVariants as tokens
use Rattle.cert_text.specs.declared.scan.Want.{Want}
use Rattle.cert_text.specs.declared.scan.Want.TheVariants as wants
use Rattle.cert_text.specs.declared.scan.Scan.{Scan}
use Rattle.cert_text.specs.declared.scan.Action.{Action}
use Rattle.cert_text.specs.declared.scan.Given.{Given}
use Rattle.cert_text.specs.declared.scan.Given.TheVariants as givens
use Rattle.cert_text.specs.declared.progress.Stage.TheVariants as stages
use Rattle.cert_text.specs.Control.{give}
use Rattle.cert_text.specs.Letters.{is_digit}
use Rattle.cert_text.specs.declared.scan.Action.TheVariants as actions
use Rattle.st_certificate.specs.Tree.{Tree}
use Rattle.cert_text.specs.Tree.{Built, applied, last_tree}
use Rattle.cert_text.specs.Reading.{State, going, whole, idle, letters, digits, step, after, start, staged, is_whole, token_taken, and_begun}
use Rattle.cert_text.specs.Run.{Run, on, wrong, passed, go, run, scan_at}
use Rattle.cert_text.specs.Grammar.{Written, IsBlock, block_tokens, tree_tokens, tree_count, meaning}
use Rattle.cert_text.specs.Held.{Held, answer_of, answer_at, taken_from, taken_at}
use Rattle.cert_text.specs.Answer.{block}
use Rattle.cert_text.proofs.Stopping.{stopped_after, after-append}
use Rattle.cert_text.proofs.LeafReads.{built_at}
use Rattle.cert_text.proofs.TreeReads.{block_read}
use Rattle.cert_laws.specs.Spelled.{letters_of, AreAll, IsSpelling, EndsAt, Spells, IsSign, value_behind}
use Rattle.cert_laws.proofs.Givens.{is_inside, OnlyOn, NumberTaken, number_taken, SignTaken, sign_taken, WordTaken, word_taken, cert_taken}
use Rattle.cert_laws.proofs.Prefixes.{NotHeader}
use Rattle.cert_laws.proofs.Lexing.{blanks_read, sign_step, ended, word_ends, number_ends, number_read}

no_truth : false ≡ true → ⊥
no_truth h = cc

abbrev empty : List ℕ
empty = []

-- where a run of tokens goes on, its first token was taken
abbrev pub Taken : (Scan → Type 0) → Given → Built → List Token → Scan → Built → Type 0
Taken p g built ts s b = (s1 : Scan) × (a : Action) × (g ≡ givens.On s1 a) × p s1 × (run ts s1 (applied a built) ≡ on s b)

pub was_taken : (p : Scan → Type 0) (g : Given) (built : Built) (ts : List Token) (s : Scan) (b : Built) → OnlyOn p g → go g built (run ts) ≡ on s b → Taken p g built ts s b
was_taken p (givens.On s1 a) built ts s b h r = (s1, a, refl, h, r)
was_taken p givens.Wrong built ts s b h r = cc
was_taken p givens.Over built ts s b h r = cc

abbrev scan_in : Scan → Run → Scan
scan_in s (on t b) = t
scan_in s wrong = s
scan_in s passed = s

abbrev built_in : Built → Run → Built
built_in c (on t b) = b
built_in c wrong = c
built_in c passed = c

abbrev pub First : List ℕ → Type 0
First bs = (x : ℕ) × (xs : List ℕ) × (bs ≡ x ∷ xs)

first_letter : (w : Word) → First (letters_of w)
first_letter words.Version = (_, _, refl)
first_letter words.Cert = (_, _, refl)
first_letter words.Absurd = (_, _, refl)
first_letter words.Farkas = (_, _, refl)
first_letter words.Linear = (_, _, refl)
first_letter words.Case = (_, _, refl)
first_letter words.Truth = (_, _, refl)
first_letter words.Split = (_, _, refl)
first_letter words.Cut = (_, _, refl)

first_of : (t : Token) (cs : List ℕ) → IsSpelling cs t → First cs
first_of (tokens.Word w) cs h = let f = first_letter w in (f.0, f.1, h ∙ f.2)
first_of (tokens.Number n) cs h = (h.0, h.1, h.2)
first_of (tokens.Sign c) cs h = (c, [], h.0)

first_joined : (bs cs rest : List ℕ) → First cs → First (bs ++ (cs ++ rest))
first_joined [] cs rest f = (f.0, f.1 ++ rest, ap (λ xs. xs ++ rest) f.2)
first_joined (x ∷ xs) cs rest f = (x, xs ++ (cs ++ rest), refl)

pub first_byte : (bs : List ℕ) (t : Token) (ts : List Token) → Spells bs (t ∷ ts) → First bs
first_byte bs t ts h = let f = first_joined h.0 h.1 h.2 (first_of t h.1 h.5) in (f.0, f.1, h.3 ∙ f.2)

-- a token was read and what is next goes on as if nothing were pending
goes_on : (ts : List Token) (more rest : List ℕ) (at : ℕ) (state : State) (s1 s : Scan) (b1 b : Built) → Spells more ts → run ts s1 b1 ≡ on s b → is_whole s1.want ≡ false → is_whole s.want ≡ true → ((x : ℕ) (xs : List ℕ) → more ≡ x ∷ xs → step at state x ≡ step at (going s1 b1 idle) x) → after at state (more ++ rest) ≡ after at (going s1 b1 idle) (more ++ rest)
goes_on [] more rest at state s1 s b1 b h r g w f = absurd (no_truth (sym g ∙ ap (λ q. is_whole (scan_in s1 q).want) r ∙ w))
goes_on (t ∷ ts) more rest at state s1 s b1 b h r g w f =
    let first = first_byte more t ts h in
    ap (λ xs. after at state (xs ++ rest)) first.2
    ∙ ap (λ q. after (at + 1) q (first.1 ++ rest)) (f first.0 first.1 first.2)
    ∙ sym (ap (λ xs. after at (going s1 b1 idle) (xs ++ rest)) first.2)

-- what is left of a block is read
abbrev Next : List Token → List ℕ → List ℕ → Scan → Built → Type 0
Next ts more rest s b = (at : ℕ) (s1 : Scan) (b1 : Built) → s1.number < 2 ^ 32 → is_inside s1.want ≡ true → is_whole s1.want ≡ false → run ts s1 b1 ≡ on s b → after at (going s1 b1 idle) (more ++ rest) ≡ whole (at + length more) s b

pub not_header : (want : Want) → is_inside want ≡ true → NotHeader want
not_header (wants.Block header) i = tt
not_header wants.HeaderNumber i = absurd (no_truth i)
not_header wants.HeaderEnd i = tt
not_header wants.BlockNumber i = tt
not_header (wants.Tree end) i = tt
not_header (wants.Subject branching) i = tt
not_header (wants.Branches branching m) i = tt
not_header (wants.Picks signed) i = tt
not_header (wants.Row signed count) i = tt
not_header (wants.Times signed count row) i = tt
not_header (wants.Multiplier signed count row) i = tt
not_header (wants.Negative count row) i = tt
not_header (wants.MorePicks signed count) i = tt
not_header wants.Terms i = tt
not_header (wants.Coefficient first negative last) i = tt
not_header (wants.Colon negative size last) i = tt
not_header (wants.Variable negative size last) i = tt
not_header (wants.MoreTerms last) i = tt
not_header (wants.Constant negative) i = tt
not_header (wants.ConstantEnd negative size) i = tt
not_header (wants.CutBranches negative size) i = tt
not_header wants.End i = tt
not_header wants.Whole i = tt

pub whole_is : (want : Want) → is_whole want ≡ true → want ≡ wants.Whole
whole_is (wants.Block header) i = absurd (no_truth i)
whole_is wants.HeaderNumber i = absurd (no_truth i)
whole_is wants.HeaderEnd i = absurd (no_truth i)
whole_is wants.BlockNumber i = absurd (no_truth i)
whole_is (wants.Tree end) i = absurd (no_truth i)
whole_is (wants.Subject branching) i = absurd (no_truth i)
whole_is (wants.Branches branching m) i = absurd (no_truth i)
whole_is (wants.Picks signed) i = absurd (no_truth i)
whole_is (wants.Row signed count) i = absurd (no_truth i)
whole_is (wants.Times signed count row) i = absurd (no_truth i)
whole_is (wants.Multiplier signed count row) i = absurd (no_truth i)
whole_is (wants.Negative count row) i = absurd (no_truth i)
whole_is (wants.MorePicks signed count) i = absurd (no_truth i)
whole_is wants.Terms i = absurd (no_truth i)
whole_is (wants.Coefficient first negative last) i = absurd (no_truth i)
whole_is (wants.Colon negative size last) i = absurd (no_truth i)
whole_is (wants.Variable negative size last) i = absurd (no_truth i)
whole_is (wants.MoreTerms last) i = absurd (no_truth i)
whole_is (wants.Constant negative) i = absurd (no_truth i)
whole_is (wants.ConstantEnd negative size) i = absurd (no_truth i)
whole_is (wants.CutBranches negative size) i = absurd (no_truth i)
whole_is wants.End i = absurd (no_truth i)
whole_is wants.Whole i = refl

-- behind the last sign of a block nothing more is looked at
after_sign : (whole_now : Bool) (ts : List Token) (more rest : List ℕ) (at : ℕ) (s1 s : Scan) (b1 b : Built) → is_whole s1.want ≡ whole_now → s1.number < 2 ^ 32 → is_inside s1.want ≡ true → Spells more ts → run ts s1 b1 ≡ on s b → Next ts more rest s b → after at (staged (cond whole_now (stages.Whole at) stages.Going) s1 b1 idle) (more ++ rest) ≡ whole (at + length more) s b
after_sign false ts more rest at s1 s b1 b g n i h r next = next at s1 b1 n i g r
after_sign true [] more rest at s1 s b1 b g n i h r next =
    stopped_after at (whole at s1 b1) (more ++ rest) refl
    ∙ ap (λ t. whole at t b1) (ap (scan_in s1) r)
    ∙ ap (λ c. whole at s c) (ap (built_in b1) r)
    ∙ ap (λ m. whole m s b) (ends at ∙ ap (λ xs. at + length xs) (sym h)) where
      ends : (n : ℕ) → n ≡ n + length (empty)
      ends n = omega arith
after_sign true (t ∷ ts) more rest at s1 s b1 b g n i h r next = absurd (stuck (ap (λ want. go (give (record s1 { want = want }) t) b1 (run ts)) (sym (whole_is s1.want g)) ∙ r)) where
  stuck : wrong ≡ on s b → ⊥
  stuck e = cc

sign_read : (c : ℕ) (ts : List Token) (more rest : List ℕ) (at : ℕ) (scan : Scan) (built : Built) (s : Scan) (b : Built) → scan.number < 2 ^ 32 → is_inside scan.want ≡ true → go (give scan (tokens.Sign c)) built (run ts) ≡ on s b → IsSign c → Spells more ts → Next ts more rest s b → after at (going scan built idle) (c ∷ (more ++ rest)) ≡ whole (at + 1 + length more) s b
sign_read c ts more rest at scan built s b n i r sign h next =
    let k = was_taken (SignTaken scan.number) (give scan (tokens.Sign c)) built ts s b (sign_taken scan.want scan c i) r in
    ap (λ q. after (at + 1) q (more ++ rest)) (sign_step at c scan built sign ∙ ap (λ g. token_taken at (at + 1) g built) k.2)
    ∙ after_sign (is_whole k.0.want) ts more rest (at + 1) k.0 s (applied k.1 built) b refl (subst (λ m. m < 2 ^ 32) (sym k.3.1) n) k.3.0 h k.4 next

word_read : (w : Word) (ts : List Token) (more rest : List ℕ) (at : ℕ) (scan : Scan) (built : Built) (s1 : Scan) (a : Action) (s : Scan) (b : Built) → scan.number < 2 ^ 32 → give scan (tokens.Word w) ≡ givens.On s1 a → WordTaken scan w s1 → run ts s1 (applied a built) ≡ on s b → is_whole s.want ≡ true → EndsAt (tokens.Word w) more → Spells more ts → Next ts more rest s b → after at (going scan built idle) (letters_of w ++ (more ++ rest)) ≡ whole (at + length (letters_of w) + length more) s b
word_read w ts more rest at scan built s1 a s b n e k r z f h next =
    let p = at + length (letters_of w) in
    after-append at (going scan built idle) (letters_of w) (more ++ rest)
    ∙ ap (λ q. after p q (more ++ rest)) (k.reads at built)
    ∙ goes_on ts more rest p (going scan built (letters at (letters_of w))) s1 s (applied a built) b h r k.goes z (λ x xs m.
    word_ends at p x scan built w (subst (EndsAt (tokens.Word w)) m f) ∙ ap (λ g. and_begun p x (token_taken at p g built)) e ∙ ended at p x s1 a built k.goes)
    ∙ next p s1 (applied a built) (subst (λ m. m < 2 ^ 32) (sym k.same) n) k.inside k.goes r

number_token : (d : ℕ) (ds : List ℕ) (ts : List Token) (more rest : List ℕ) (at : ℕ) (scan : Scan) (built : Built) (s : Scan) (b : Built) → scan.number < 2 ^ 32 → is_inside scan.want ≡ true → go (give scan (tokens.Number (value_behind 0 (d ∷ ds)))) built (run ts) ≡ on s b → is_whole s.want ≡ true → AreAll is_digit (d ∷ ds) → EndsAt (tokens.Number (value_behind 0 (d ∷ ds))) more → Spells more ts → Next ts more rest s b → after at (going scan built idle) ((d ∷ ds) ++ (more ++ rest)) ≡ whole (at + length (d ∷ ds) + length more) s b
number_token d ds ts more rest at scan built s b n i r z digits_all f h next =
    let v = value_behind 0 (d ∷ ds) in
    let p = at + length (d ∷ ds) in
    let k = was_taken (NumberTaken scan.want scan.number v) (give scan (tokens.Number v)) built ts s b (number_taken scan.want scan v i n) r in
    let s1 = k.0 in
    let a = k.1 in
    let t = k.3 in
    number_read d ds (more ++ rest) at scan built (not_header scan.want i) n digits_all t.small t.fits
    ∙ goes_on ts more rest p (going scan built (digits at v)) s1 s (applied a built) b h k.4 t.goes z (λ x xs m.
    number_ends at p x v scan built (subst (EndsAt (tokens.Number v)) m f) ∙ ap (λ g. and_begun p x (token_taken at p g built)) k.2 ∙ ended at p x s1 a built t.goes)
    ∙ next p s1 (applied a built) (subst (λ m. m < 2 ^ 32) (sym t.same) n) t.inside t.goes k.4

-- one token and what is left
token_read : (t : Token) (cs : List ℕ) (ts : List Token) (more rest : List ℕ) (at : ℕ) (scan : Scan) (built : Built) (s : Scan) (b : Built) → scan.number < 2 ^ 32 → is_inside scan.want ≡ true → go (give scan t) built (run ts) ≡ on s b → is_whole s.want ≡ true → IsSpelling cs t → EndsAt t more → Spells more ts → Next ts more rest s b → after at (going scan built idle) (cs ++ (more ++ rest)) ≡ whole (at + length cs + length more) s b
token_read (tokens.Word w) cs ts more rest at scan built s b n i r z sp f h next =
    let k = was_taken (WordTaken scan w) (give scan (tokens.Word w)) built ts s b (word_taken scan.number scan.second scan.want scan.depth scan.trees w i) r in
    ap (λ xs. after at (going scan built idle) (xs ++ (more ++ rest))) sp
    ∙ word_read w ts more rest at scan built k.0 k.1 s b n k.2 k.3 k.4 z f h next
    ∙ ap (λ xs. whole (at + length xs + length more) s b) (sym sp)
token_read (tokens.Number m) cs ts more rest at scan built s b n i r z sp f h next =
    let v = value_behind 0 (sp.0 ∷ sp.1) in
    let e = sym sp.4 in
    ap (λ xs. after at (going scan built idle) (xs ++ (more ++ rest))) sp.2
    ∙ number_token sp.0 sp.1 ts more rest at scan built s b n i (ap (λ x. go (give scan (tokens.Number x)) built (run ts)) sp.4 ∙ r) z sp.3 (subst (λ x. EndsAt (tokens.Number x) more) e f) h next
    ∙ ap (λ xs. whole (at + length xs + length more) s b) (sym sp.2)
token_read (tokens.Sign c) cs ts more rest at scan built s b n i r z sp f h next =
    ap (λ xs. after at (going scan built idle) (xs ++ (more ++ rest))) sp.0
    ∙ sign_read c ts more rest at scan built s b n i r sp.1 h next
    ∙ ap (λ xs. whole (at + length xs + length more) s b) (sym sp.0)

-- the bytes of a token with its blanks, and what follows
pub regrouped : (blanks cs more rest : List ℕ) → (blanks ++ (cs ++ more)) ++ rest ≡ blanks ++ (cs ++ (more ++ rest))
regrouped blanks cs more rest = append_assoc blanks (cs ++ more) rest ∙ ap (λ xs. blanks ++ xs) (append_assoc cs more rest)

reached : (at : ℕ) (bs blanks cs more : List ℕ) → bs ≡ blanks ++ (cs ++ more) → at + length blanks + length cs + length more ≡ at + length bs
reached at bs blanks cs more e =
    let a = length-append blanks (cs ++ more) in
    let c = length-append cs more in
    let d = ap length e in
    omega (arith, a, c, d)

tokens_read : (ts : List Token) (bs rest : List ℕ) (at : ℕ) (scan : Scan) (built : Built) (s : Scan) (b : Built) → scan.number < 2 ^ 32 → is_inside scan.want ≡ true → is_whole scan.want ≡ false → is_whole s.want ≡ true → run ts scan built ≡ on s b → Spells bs ts → after at (going scan built idle) (bs ++ rest) ≡ whole (at + length bs) s b
tokens_read [] bs rest at scan built s b n i g z r h = absurd (no_truth (sym g ∙ ap (λ q. is_whole (scan_in scan q).want) r ∙ z))
tokens_read (t ∷ ts) bs rest at scan built s b n i g z r h =
    ap (λ xs. after at (going scan built idle) (xs ++ rest)) h.3
    ∙ ap (after at (going scan built idle)) (regrouped h.0 h.1 h.2 rest)
    ∙ blanks_read h.0 (h.1 ++ (h.2 ++ rest)) at scan built h.4
    ∙ token_read t h.1 ts h.2 rest (at + length h.0) scan built s b n i r z h.5 h.6 h.7 (λ p s1 b1 n1 i1 g1 r1. tokens_read ts h.2 rest p s1 b1 s b n1 i1 g1 z r1 h.7)
    ∙ ap (λ m. whole m s b) (reached at bs h.0 h.1 h.2 h.3)

-- `cert` before all that
pub block_tokens_read : (number : ℕ) (second header : Bool) (ts : List Token) (bs rest : List ℕ) (at : ℕ) (built : Built) (s : Scan) (b : Built) → number < 2 ^ 32 → is_whole s.want ≡ true → run ts (scan_at number second wants.BlockNumber 0 0) built ≡ on s b → Spells bs (tokens.Word words.Cert ∷ ts) → after at (going (scan_at number second (wants.Block header) 0 0) built idle) (bs ++ rest) ≡ whole (at + length bs) s b
block_tokens_read number second header ts bs rest at built s b n z r h =
    let scan = scan_at number second (wants.Block header) 0 0 in
    ap (λ xs. after at (going scan built idle) (xs ++ rest)) h.3
    ∙ ap (after at (going scan built idle)) (regrouped h.0 h.1 h.2 rest)
    ∙ blanks_read h.0 (h.1 ++ (h.2 ++ rest)) at scan built h.4
    ∙ ap (λ xs. after (at + length h.0) (going scan built idle) (xs ++ (h.2 ++ rest))) h.5
    ∙ word_read words.Cert ts h.2 rest (at + length h.0) scan built (scan_at number second wants.BlockNumber 0 0) actions.Nothing s b n refl (cert_taken number second header 0 0) r z h.6 h.7 (λ p s1 b1 n1 i1 g1 r1. tokens_read ts h.2 rest p s1 b1 s b n1 i1 g1 z r1 h.7)
    ∙ ap (λ xs. whole (at + length h.0 + length xs + length h.2) s b) (sym h.5)
    ∙ ap (λ m. whole m s b) (reached at bs h.0 h.1 h.2 h.3)

-- a block's tokens lead to its end
led : (number : ℕ) (second : Bool) (w : Written) → IsBlock number second w → run (block_tokens number w []) (scan_at number second (wants.Block false) 0 0) (built_at [] []) ≡ on (scan_at number second wants.Whole 0 (0 + tree_count w)) (built_at (meaning w ∷ []) [])
led number second w p = block_read number false second w [] p.proper ∙ ap (λ c. cond c passed (on (scan_at number second wants.Whole 0 (0 + tree_count w)) (built_at (meaning w ∷ []) []))) p.within

pub spelled-from : (header : Bool) (number : ℕ) (second : Bool) (w : Written) (bs rest : List ℕ) (at : ℕ) → number < 2 ^ 32 → IsBlock number second w → Spells bs (block_tokens number w []) → after at (going (scan_at number second (wants.Block header) 0 0) (built_at [] []) idle) (bs ++ rest) ≡ whole (at + length bs) (scan_at number second wants.Whole 0 (0 + tree_count w)) (built_at (meaning w ∷ []) [])
spelled-from header number second w bs rest at n p h = block_tokens_read number second header (tokens.Number number ∷ tree_tokens w (tokens.Sign 59 ∷ [])) bs rest at (built_at [] []) (scan_at number second wants.Whole 0 (0 + tree_count w)) (built_at (meaning w ∷ []) []) n refl (led number second w p) h

spelled-read : (number : ℕ) (second : Bool) (w : Written) (bs rest : List ℕ) (at : ℕ) → number < 2 ^ 32 → IsBlock number second w → Spells bs (block_tokens number w []) → after at (start number second) (bs ++ rest) ≡ whole (at + length bs) (scan_at number second wants.Whole 0 (0 + tree_count w)) (built_at (meaning w ∷ []) [])
spelled-read number second w bs rest at n p h = spelled-from (nat_lt number 2 && cond second false true) number second w bs rest at n p h

pub only_last : (t : Tree) → last_tree (t ∷ []) ≡ t
unfolding last_tree
only_last t = refl

left_over : (place : ℕ) (bs rest : List ℕ) → drop (place + length bs - place) (bs ++ rest) ≡ rest
left_over place bs rest = ap (λ n. drop n (bs ++ rest)) (omega arith) ∙ drop-append_seam bs rest

pub block-answered : (h : Held) (w : Written) (bs rest : List ℕ) → h.number < 2 ^ 32 → IsBlock h.number h.second w → Spells bs (block_tokens h.number w []) → h.bytes ≡ bs ++ rest → (answer_of h ≡ block h.number (meaning w)) × (taken_from h ≡ record h { bytes = rest; place = h.place + length bs; number = h.number + 1 })
block-answered h w bs rest n p s e =
    let done = ap (after h.place (start h.number h.second)) e ∙ spelled-read h.number h.second w bs rest h.place n p s in (
      ap (λ q. answer_at q h) done ∙ ap (block h.number) (only_last (meaning w)),
      ap (λ q. taken_at q h) done ∙ ap (λ xs. record h { bytes = drop (h.place + length bs - h.place) xs; place = h.place + length bs; number = h.number + 1 }) e ∙ ap (λ xs. record h { bytes = xs; place = h.place + length bs; number = h.number + 1 }) (left_over h.place bs rest),
    )
