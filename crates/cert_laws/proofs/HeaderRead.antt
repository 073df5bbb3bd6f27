-- A header before the first block leads on to it, by the rules of version 2.
use Rattle.std.proofs.Common.{◌≡◌, ℕ, ◌+◌, ◌^◌, ◌<◌, Bool, true, false, cond, ◌&&◌, List, [], ◌∷◌, ◌++◌, length, drop, refl, sym, ap, ◌∙◌, arith, append_assoc, codes, nat_lt, ◌-◌}
use Rattle.std.proofs.lemmas.List.{length-append}
use Rattle.std.proofs.Math.Seq.{drop-append_seam}
use Rattle.std.proofs.lemmas.Bool.Decides.{nat_tests}
use Rattle.cert_text.specs.declared.scan.Word.TheVariants as words
use Rattle.cert_text.specs.declared.scan.Want.TheVariants as wants
use Rattle.cert_text.specs.declared.scan.Action.TheVariants as actions
use Rattle.cert_text.specs.declared.scan.Scan.{Scan}
use Rattle.cert_text.specs.Letters.{is_blank, is_letter, is_digit}
use Rattle.cert_text.specs.Control.{begins}
use Rattle.cert_text.specs.Tree.{Built}
use Rattle.cert_text.specs.Reading.{State, going, idle, letters, digits, step, after, start}
use Rattle.cert_text.specs.Run.{scan_at}
use Rattle.cert_text.specs.Grammar.{Written, IsBlock, block_tokens, meaning}
use Rattle.cert_text.specs.Held.{Held, answer_of, answer_at, taken_from, taken_at}
use Rattle.cert_text.specs.Answer.{block}
use Rattle.cert_text.proofs.Stopping.{after-append}
use Rattle.cert_text.proofs.LeafReads.{built_at}
use Rattle.cert_laws.specs.Spelled.{AreAll, Spells, IsHeader}
use Rattle.cert_laws.proofs.Lexing.{blanks_read, sign_step, ended, word_ends, number_ends, first_digit, digit_step}
use Rattle.cert_laws.proofs.BlockRead.{spelled-from, only_last}

pub version_reads : (at : ℕ) (number : ℕ) (built : Built) → after at (going (scan_at number false (wants.Block true) 0 0) built idle) (codes "version") ≡ going (scan_at number false (wants.Block true) 0 0) built (letters at (codes "version"))
unfolding step begins
version_reads at number built = refl

pub blank_no_letter : (x : ℕ) → is_blank x ≡ true → is_letter x ≡ false
blank_no_letter x h = grind (arith, nat_tests)

pub blank_no_digit : (x : ℕ) → is_blank x ≡ true → is_digit x ≡ false
blank_no_digit x h = grind (arith, nat_tests)

-- behind a word or number, where blanks and then another byte follow
then_blanks : (bs : List ℕ) (c : ℕ) (more : List ℕ) (at : ℕ) (state : State) (s : Scan) (built : Built) → AreAll is_blank bs → ((x : ℕ) → is_blank x ≡ true → step at state x ≡ step at (going s built idle) x) → step at state c ≡ step at (going s built idle) c → after at state (bs ++ c ∷ more) ≡ after at (going s built idle) (bs ++ c ∷ more)
then_blanks [] c more at state s built h f e = ap (λ q. after (at + 1) q more) e
then_blanks (b ∷ bs) c more at state s built h f e = ap (λ q. after (at + 1) q (bs ++ c ∷ more)) (f b h.0)

abbrev pub Before : ℕ → Built → State
Before number built = going (scan_at number false (wants.Block true) 0 0) built idle

abbrev pub Behind : ℕ → Built → State
Behind number built = going (scan_at number true (wants.Block false) 0 0) built idle

abbrev At2 : ℕ → Scan
At2 number = scan_at number false wants.HeaderNumber 0 0

abbrev AtEnd : ℕ → Scan
AtEnd number = scan_at number false wants.HeaderEnd 0 0

sign_part : (number : ℕ) (built : Built) (bs rest : List ℕ) (at : ℕ) → AreAll is_blank bs → after at (going (AtEnd number) built idle) (bs ++ 59 ∷ rest) ≡ after (at + length bs + 1) (Behind number built) rest
sign_part number built bs rest at h =
    blanks_read bs (59 ∷ rest) at (AtEnd number) built h
    ∙ ap (λ q. after (at + length bs + 1) q rest) (sign_step (at + length bs) 59 (AtEnd number) built (refl, refl, refl))

two_part : (number : ℕ) (built : Built) (at : ℕ) → step at (going (At2 number) built idle) 50 ≡ going (At2 number) built (digits at 2)
two_part number built at = first_digit at 50 (At2 number) built refl ∙ digit_step at at 0 50 (At2 number) built refl (omega arith) refl

number_part : (number : ℕ) (built : Built) (bs cs rest : List ℕ) (at : ℕ) → AreAll is_blank bs → AreAll is_blank cs → after at (going (At2 number) built idle) (bs ++ 50 ∷ (cs ++ 59 ∷ rest)) ≡ after (at + length bs + 1 + length cs + 1) (Behind number built) rest
number_part number built bs cs rest at h k =
    let p = at + length bs in
    blanks_read bs (50 ∷ (cs ++ 59 ∷ rest)) at (At2 number) built h
    ∙ ap (λ q. after (p + 1) q (cs ++ 59 ∷ rest)) (two_part number built p)
    ∙ then_blanks cs 59 rest (p + 1) (going (At2 number) built (digits p 2)) (AtEnd number) built k
    (λ x b. number_ends p (p + 1) x 2 (At2 number) built (blank_no_digit x b) ∙ ended p (p + 1) x (AtEnd number) actions.Nothing built refl)
    (number_ends p (p + 1) 59 2 (At2 number) built refl ∙ ended p (p + 1) 59 (AtEnd number) actions.Nothing built refl)
    ∙ sign_part number built cs rest (p + 1) k

header_read : (number : ℕ) (built : Built) (front bs cs rest : List ℕ) (at : ℕ) → AreAll is_blank front → AreAll is_blank bs → AreAll is_blank cs → after at (Before number built) (front ++ (codes "version" ++ (bs ++ 50 ∷ (cs ++ 59 ∷ rest)))) ≡ after (at + length front + 7 + length bs + 1 + length cs + 1) (Behind number built) rest
header_read number built front bs cs rest at g h k =
    let scan = scan_at number false (wants.Block true) 0 0 in
    let p = at + length front in
    let more = bs ++ 50 ∷ (cs ++ 59 ∷ rest) in
    blanks_read front (codes "version" ++ more) at scan built g
    ∙ after-append p (going scan built idle) (codes "version") more
    ∙ ap (λ q. after (p + 7) q more) (version_reads p number built)
    ∙ then_blanks bs 50 (cs ++ 59 ∷ rest) (p + 7) (going scan built (letters p (codes "version"))) (At2 number) built h
    (λ x b. word_ends p (p + 7) x scan built words.Version (blank_no_letter x b) ∙ ended p (p + 7) x (At2 number) actions.Nothing built refl)
    (word_ends p (p + 7) 50 scan built words.Version refl ∙ ended p (p + 7) 50 (At2 number) actions.Nothing built refl)
    ∙ number_part number built bs cs rest (p + 7) h k

-- a header's bytes and what follows
pub regrouped : (front bs cs rest : List ℕ) → (front ++ (codes "version" ++ (bs ++ 50 ∷ (cs ++ 59 ∷ [])))) ++ rest ≡ front ++ (codes "version" ++ (bs ++ 50 ∷ (cs ++ 59 ∷ rest)))
regrouped front bs cs rest =
    append_assoc front (codes "version" ++ (bs ++ 50 ∷ (cs ++ 59 ∷ []))) rest
    ∙ ap (λ xs. front ++ (codes "version" ++ xs)) (append_assoc bs (50 ∷ (cs ++ 59 ∷ [])) rest)
    ∙ ap (λ xs. front ++ (codes "version" ++ (bs ++ 50 ∷ xs))) (append_assoc cs (59 ∷ []) rest)

reached : (at : ℕ) (head front bs cs : List ℕ) → head ≡ front ++ (codes "version" ++ (bs ++ 50 ∷ (cs ++ 59 ∷ []))) → at + length front + 7 + length bs + 1 + length cs + 1 ≡ at + length head
reached at head front bs cs e =
    let a = length-append front (codes "version" ++ (bs ++ 50 ∷ (cs ++ 59 ∷ []))) in
    let b = length-append bs (50 ∷ (cs ++ 59 ∷ [])) in
    let c = length-append cs (59 ∷ []) in
    let d = ap length e in
    omega (arith, a, b, c, d)

pub header_taken : (number : ℕ) (built : Built) (head rest : List ℕ) (at : ℕ) → IsHeader head → after at (Before number built) (head ++ rest) ≡ after (at + length head) (Behind number built) rest
header_taken number built head rest at h =
    ap (λ xs. after at (Before number built) (xs ++ rest)) h.3
    ∙ ap (after at (Before number built)) (regrouped h.0 h.1 h.2 rest)
    ∙ header_read number built h.0 h.1 h.2 rest at h.4 h.5 h.6
    ∙ ap (λ n. after n (Behind number built) rest) (reached at head h.0 h.1 h.2 h.3)

pub first_start : (number : ℕ) (second : Bool) → nat_lt number 2 ≡ true → second ≡ false → start number second ≡ Before number (built_at [] [])
first_start number second l e = ap (λ b. going (scan_at number b (wants.Block (nat_lt number 2 && cond b false true)) 0 0) (built_at [] []) idle) e ∙ ap (λ b. going (scan_at number false (wants.Block (b && true)) 0 0) (built_at [] []) idle) l

first_small : (n : ℕ) → nat_lt n 2 ≡ true → n < 2 ^ 32
first_small n h = grind (arith, nat_tests)

left_over : (place : ℕ) (head bs rest : List ℕ) → drop (place + length head + length bs - place) (head ++ (bs ++ rest)) ≡ rest
left_over place head bs rest =
    let a = length-append head bs in
    ap (λ n. drop n (head ++ (bs ++ rest))) (let e : place + length head + length bs - place ≡ length (head ++ bs) = omega (arith, a) in e)
    ∙ ap (drop (length (head ++ bs))) (sym (append_assoc head bs rest))
    ∙ drop-append_seam (head ++ bs) rest

pub header-answered : (h : Held) (w : Written) (head bs rest : List ℕ) → nat_lt h.number 2 ≡ true → h.second ≡ false → IsHeader head → IsBlock h.number true w → Spells bs (block_tokens h.number w []) → h.bytes ≡ head ++ (bs ++ rest) → (answer_of h ≡ block h.number (meaning w)) × (taken_from h ≡ record h { bytes = rest; place = h.place + length head + length bs; number = h.number + 1; second = true })
header-answered h w head bs rest l f i p s e =
    let q = h.place + length head in
    let done =
    ap (after h.place (start h.number h.second)) e
    ∙ ap (λ t. after h.place t (head ++ (bs ++ rest))) (first_start h.number h.second l f)
    ∙ header_taken h.number (built_at [] []) head (bs ++ rest) h.place i
    ∙ spelled-from false h.number true w bs rest q (first_small h.number l) p s in (
      ap (λ t. answer_at t h) done ∙ ap (block h.number) (only_last (meaning w)),
      ap (λ t. taken_at t h) done ∙ ap (λ xs. record h { bytes = drop (q + length bs - h.place) xs; place = q + length bs; number = h.number + 1; second = true }) e ∙ ap (λ xs. record h { bytes = xs; place = q + length bs; number = h.number + 1; second = true }) (left_over h.place head bs rest),
    )
