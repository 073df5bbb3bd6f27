-- Forward, along the tokens of a block: up to the first that passes a limit each is read, and that one is refused for it. So a
-- text of a block, limits aside, is read whole or passes a limit; it is never wrong.
use Rattle.std.proofs.Common.{◌≡◌, ℕ, ◌+◌, ◌<◌, ◌^◌, Bool, true, false, cond, ◌⊎◌, inl, inr, List, [], ◌∷◌, ◌++◌, length, refl, sym, ap, ◌∙◌, subst, arith}
use Rattle.std.proofs.lemmas.List.{length-append}
use Rattle.cert_text.specs.declared.scan.Word.TheVariants as words
use Rattle.cert_text.specs.declared.scan.Token.{Token}
use Rattle.cert_text.specs.declared.scan.Token.TheVariants as tokens
use Rattle.cert_text.specs.declared.scan.Want.TheVariants as wants
use Rattle.cert_text.specs.declared.scan.Scan.{Scan}
use Rattle.cert_text.specs.declared.scan.Action.{Action}
use Rattle.cert_text.specs.declared.scan.Action.TheVariants as actions
use Rattle.cert_text.specs.declared.scan.Given.{Given}
use Rattle.cert_text.specs.declared.scan.Given.TheVariants as givens
use Rattle.cert_text.specs.Control.{give}
use Rattle.cert_text.specs.Letters.{is_blank}
use Rattle.cert_text.specs.Tree.{Built, applied}
use Rattle.cert_text.specs.Reading.{going, idle, after, is_whole}
use Rattle.cert_text.specs.Run.{Run, on, wrong, passed, go, run, scan_at}
use Rattle.cert_laws.specs.Spelled.{letters_of, AreAll, IsSpelling, EndsAt}
use Rattle.cert_laws.specs.Refused.{IsFirstMarked, HasNoMark}
use Rattle.cert_laws.proofs.Givens.{is_inside, OnlyOn, cert_taken}
use Rattle.cert_laws.proofs.Lexing.{blanks_read}
use Rattle.cert_laws.proofs.BlockRead.{regrouped, whole_is}
use Rattle.cert_laws.proofs.Stays.{Stays, stays}
use Rattle.cert_laws.proofs.Follows.{as_read, Follows}
use Rattle.cert_laws.proofs.TokenReads.{word_on, token_on}

no_truth : false ≡ true → ⊥
no_truth h = cc

-- bytes that spell tokens, each ended also by what is next
abbrev pub SpelledTo : List ℕ → List Token → List ℕ → Type 0
SpelledTo bs [] next = bs ≡ []
SpelledTo bs (t ∷ ts) next =
    (blanks : List ℕ) × (cs : List ℕ) × (rest : List ℕ) × (bs ≡ blanks ++ (cs ++ rest)) × AreAll is_blank blanks × IsSpelling cs t × EndsAt t (rest ++ next) × SpelledTo rest ts next

abbrev scan_in : Scan → Run → Scan
scan_in s (on t b) = t
scan_in s wrong = s
scan_in s passed = s

-- a run that goes on has not been whole before
still_going : (w : Bool) (ts : List Token) (s1 s : Scan) (b1 b : Built) → is_whole s1.want ≡ w → is_whole s.want ≡ false → run ts s1 b1 ≡ on s b → w ≡ false
still_going false ts s1 s b1 b e w r = refl
still_going true [] s1 s b1 b e w r = absurd (no_truth (sym w ∙ ap (λ q. is_whole (scan_in s q).want) (sym r) ∙ e))
still_going true (t ∷ ts) s1 s b1 b e w r = absurd (stuck (ap (λ want. go (give (record s1 { want = want }) t) b1 (run ts)) (sym (whole_is s1.want e)) ∙ r)) where
  stuck : wrong ≡ on s b → ⊥
  stuck q = cc

abbrev pub FirstTaken : Token → List Token → Scan → Built → Scan → Built → Type 0
FirstTaken t ts scan built s b = (s1 : Scan) × (a : Action) × (give scan t ≡ givens.On s1 a) × (run ts s1 (applied a built) ≡ on s b)

pub first_taken : (g : Given) (t : Token) (ts : List Token) (scan : Scan) (built : Built) (s : Scan) (b : Built) → give scan t ≡ g → go g built (run ts) ≡ on s b → FirstTaken t ts scan built s b
first_taken (givens.On s1 a) t ts scan built s b e r = (s1, a, e, r)
first_taken givens.Wrong t ts scan built s b e r = absurd (stuck r) where
  stuck : wrong ≡ on s b → ⊥
  stuck q = cc
first_taken givens.Over t ts scan built s b e r = absurd (stuck r) where
  stuck : passed ≡ on s b → ⊥
  stuck q = cc

abbrev pub IsSome : List ℕ → Type 0
IsSome bs = (x : ℕ) × (xs : List ℕ) × (bs ≡ x ∷ xs)

pub some_behind : (rest next : List ℕ) → IsSome next → IsSome (rest ++ next)
some_behind [] next s = s
some_behind (x ∷ rest) next s = (x, rest ++ next, refl)

placed : (at : ℕ) (bs blanks cs rest : List ℕ) → bs ≡ blanks ++ (cs ++ rest) → at + length blanks + length cs + length rest ≡ at + length bs
placed at bs blanks cs rest e =
    let a = length-append blanks (cs ++ rest) in
    let b = length-append cs rest in
    let c = ap length e in
    omega (arith, a, b, c)

-- blanks and a token in front of what is read then
pub one_read : (blanks cs rest next bs : List ℕ) (at : ℕ) (scan : Scan) (built : Built) (s1 s : Scan) (b1 b : Built) → bs ≡ blanks ++ (cs ++ rest) → AreAll is_blank blanks → (after (at + length blanks) (going scan built idle) (cs ++ (rest ++ next)) ≡ after (at + length blanks + length cs) (going s1 b1 idle) (rest ++ next)) → (after (at + length blanks + length cs) (going s1 b1 idle) (rest ++ next) ≡ after (at + length blanks + length cs + length rest) (going s b idle) next) → after at (going scan built idle) (bs ++ next) ≡ after (at + length bs) (going s b idle) next
one_read blanks cs rest next bs at scan built s1 s b1 b e h f g =
    ap (λ xs. after at (going scan built idle) (xs ++ next)) e
    ∙ ap (after at (going scan built idle)) (regrouped blanks cs rest next)
    ∙ blanks_read blanks (cs ++ (rest ++ next)) at scan built h
    ∙ f ∙ g
    ∙ ap (λ n. after n (going s b idle) next) (placed at bs blanks cs rest e)

-- tokens that are taken, from inside of a block on
pub reads : (ts : List Token) (bs next : List ℕ) (at : ℕ) (scan : Scan) (built : Built) (s : Scan) (b : Built) → IsSome next → scan.number < 2 ^ 32 → is_inside scan.want ≡ true → is_whole s.want ≡ false → run ts scan built ≡ on s b → SpelledTo bs ts next → after at (going scan built idle) (bs ++ next) ≡ after (at + length bs) (going s b idle) next
reads [] bs next at scan built s b some n i w r h =
    ap (λ xs. after at (going scan built idle) (xs ++ next)) h
    ∙ ap (λ q. after at (going q built idle) next) (ap (scan_in scan) r)
    ∙ ap (λ c. after at (going s c idle) next) (ap (built_in built) r)
    ∙ ap (λ m. after m (going s b idle) next) (none at ∙ ap (λ xs. at + length xs) (sym h)) where
      built_in : Built → Run → Built
      built_in c (on q d) = d
      built_in c wrong = c
      built_in c passed = c

      none : (m : ℕ) → m ≡ m + 0
      none m = omega arith
reads (t ∷ ts) bs next at scan built s b some n i w r h =
    let k = first_taken (give scan t) t ts scan built s b refl r in
    let s1 = k.0 in
    let st = subst (OnlyOn (Stays scan)) k.2 (stays scan.want scan t i) in
    let z = some_behind h.2 next some in
    let p = at + length h.0 in
    let one = subst (λ xs. after p (going scan built idle) (h.1 ++ xs) ≡ after (p + length h.1) (going s1 (applied k.1 built) idle) xs) (sym z.2)
    (token_on t h.1 z.0 z.1 p scan built s1 k.1 n i k.2 (still_going (is_whole s1.want) ts s1 s (applied k.1 built) b refl w k.3) h.5 (subst (EndsAt t) z.2 h.6)) in
    one_read h.0 h.1 h.2 next bs at scan built s1 s (applied k.1 built) b h.3 h.4 one
    (reads ts h.2 next (p + length h.1) s1 (applied k.1 built) s b some (subst (λ m. m < 2 ^ 32) (sym st.0) n) st.2 w k.3 h.7)

-- the same from `cert` on
pub reads_block : (number : ℕ) (second header : Bool) (ts : List Token) (bs next : List ℕ) (at : ℕ) (built : Built) (s : Scan) (b : Built) → IsSome next → number < 2 ^ 32 → is_whole s.want ≡ false → run ts (scan_at number second wants.BlockNumber 0 0) built ≡ on s b → SpelledTo bs (tokens.Word words.Cert ∷ ts) next → after at (going (scan_at number second (wants.Block header) 0 0) built idle) (bs ++ next) ≡ after (at + length bs) (going s b idle) next
reads_block number second header ts bs next at built s b some n w r h =
    let scan = scan_at number second (wants.Block header) 0 0 in
    let s1 = scan_at number second wants.BlockNumber 0 0 in
    let z = some_behind h.2 next some in
    let p = at + length h.0 in
    let word = word_on words.Cert z.0 z.1 p scan built s1 actions.Nothing refl (cert_taken number second header 0 0) (subst (EndsAt (tokens.Word words.Cert)) z.2 h.6) in
    let one = subst (λ cs. after p (going scan built idle) (cs ++ (h.2 ++ next)) ≡ after (p + length cs) (going s1 built idle) (h.2 ++ next)) (sym h.5)
    (subst (λ xs. after p (going scan built idle) (letters_of words.Cert ++ xs) ≡ after (p + length (letters_of words.Cert)) (going s1 built idle) xs) (sym z.2) word) in
    one_read h.0 h.1 h.2 next bs at scan built s1 s built b h.3 h.4 one (reads ts h.2 next (p + length h.1) s1 built s b some n refl w r h.7)

-- the first token that passes a limit

abbrev pub Marked : List Token → List Bool → Type 0
Marked ts ms = (before : List Token) × (t : Token) × (us : List Token) × (ts ≡ before ++ t ∷ us) × IsFirstMarked before ms

pub find : (ts : List Token) (ms : List Bool) (s : Scan) → Follows ts ms s → Marked ts ms ⊎ HasNoMark ms
find [] [] s f = inr tt
find [] (m ∷ ms) s f = absurd f
find (t ∷ ts) [] s f = absurd f
find (t ∷ ts) (true ∷ ms) s f = inl ([], t, ts, refl, refl)
find (t ∷ ts) (false ∷ ms) s f = by (find ts ms f.0 (f.4 refl).1) where
  by : Marked ts ms ⊎ HasNoMark ms → Marked (t ∷ ts) (false ∷ ms) ⊎ HasNoMark (false ∷ ms)
  by (inl m) = inl (t ∷ m.0, m.1, m.2, ap (λ k. t ∷ k) m.3, (refl, m.4))
  by (inr n) = inr (refl, n)

-- the token is exact, and what it gives
taken_unmarked : (t : Token) (m : Bool) (s s1 : Scan) (a : Action) → m ≡ false → as_read t ≡ t → give s (as_read t) ≡ cond m givens.Over (givens.On s1 a) → give s t ≡ givens.On s1 a
taken_unmarked t m s s1 a e r g = ap (give s) (sym r) ∙ g ∙ ap (λ c. cond c givens.Over (givens.On s1 a)) e

abbrev pub RunsTo : List Token → Token → Scan → Built → Type 0
RunsTo before t scan built = (s : Scan) × (b : Built) × (run before scan built ≡ on s b) × (give s (as_read t) ≡ givens.Over)

pub run_marked : (before : List Token) (t : Token) (us : List Token) (ms : List Bool) (scan : Scan) (built : Built) → Follows (before ++ t ∷ us) ms scan → IsFirstMarked before ms → RunsTo before t scan built
run_marked before t us [] scan built f m = absurd m
run_marked [] t us (c ∷ ms) scan built f m = (scan, built, refl, f.2 ∙ ap (λ x. cond x givens.Over (givens.On f.0 f.1)) m)
run_marked (v ∷ before) t us (c ∷ ms) scan built f m =
    let k = f.4 m.0 in
    let r = run_marked before t us ms f.0 (applied f.1 built) k.1 m.1 in
    (r.0, r.1, ap (λ g. go g built (run before)) (taken_unmarked v c scan f.0 f.1 m.0 k.0 f.2) ∙ r.2, r.3)

pub run_all : (ts : List Token) (ms : List Bool) (scan : Scan) (built : Built) → Follows ts ms scan → HasNoMark ms → (s : Scan) × (b : Built) × (run ts scan built ≡ on s b) × (is_whole s.want ≡ true)
run_all [] [] scan built f n = (scan, built, refl, f)
run_all [] (m ∷ ms) scan built f n = absurd f
run_all (t ∷ ts) [] scan built f n = absurd f
run_all (t ∷ ts) (m ∷ ms) scan built f n =
    let k = f.4 n.0 in
    let r = run_all ts ms f.0 (applied f.1 built) k.1 n.1 in
    (r.0, r.1, ap (λ g. go g built (run ts)) (taken_unmarked t m scan f.0 f.1 n.0 k.0 f.2) ∙ r.2, r.3)
