-- Tokens that were taken and then one that passes a limit begin a block, and it is the first of that block that is marked.
use Rattle.std.proofs.Common.{◌≡◌, ℕ, ◌<◌, ◌^◌, Bool, true, false, cond, ◌||◌, List, [], ◌∷◌, ◌++◌, refl, sym, ap, ◌∙◌, subst, arith, nat_lt, nat_le, ◌==◌}
use Rattle.std.proofs.lemmas.Bool.Decides.{nat_tests}
use Rattle.cert_text.specs.declared.scan.Token.{Token}
use Rattle.cert_text.specs.declared.scan.Token.TheVariants as tokens
use Rattle.cert_text.specs.declared.scan.Want.{Want}
use Rattle.cert_text.specs.declared.scan.Want.TheVariants as wants
use Rattle.cert_text.specs.declared.scan.Scan.{Scan}
use Rattle.cert_text.specs.declared.scan.Action.{Action}
use Rattle.cert_text.specs.declared.scan.Given.{Given}
use Rattle.cert_text.specs.declared.scan.Given.TheVariants as givens
use Rattle.cert_text.specs.Control.{give, give_at}
use Rattle.cert_text.specs.Tree.{Built, applied}
use Rattle.cert_text.specs.Run.{scan_at}
use Rattle.cert_laws.specs.Refused.{IsFirstMarked}
use Rattle.cert_laws.proofs.Givens.{is_inside, OnlyOn}
use Rattle.cert_laws.proofs.Small.{IsSmall, small_number}
use Rattle.cert_laws.proofs.Stays.{Keeps, number_keeps, Stays, stays}
use Rattle.cert_laws.proofs.Ends.{Completes}
use Rattle.cert_laws.proofs.Leads.{Leads, leads}
use Rattle.cert_laws.proofs.Follows.{stopped, as_read, Follows, small_same, stopped_lt, stopped_le}
use Rattle.cert_laws.proofs.Told.{Reads}

no_truth : false ≡ true → ⊥
no_truth h = cc

-- a limit is passed by the exact number too

over_if : (c : Bool) (s : Scan) (a : Action) → cond c givens.Over (givens.On s a) ≡ givens.Over → c ≡ true
over_if true s a e = refl
over_if false s a e = absurd (apart e) where
  apart : givens.On s a ≡ givens.Over → ⊥
  apart g = cc

abbrev OrWrong : Bool → Given → Type 0
OrWrong c g = (c ≡ false) × (g ≡ givens.Over)

or_wrong : (c : Bool) (g : Given) → cond c givens.Wrong g ≡ givens.Over → OrWrong c g
or_wrong true g e = absurd (apart e) where
  apart : givens.Wrong ≡ givens.Over → ⊥
  apart q = cc
or_wrong false g e = (refl, e)

never_over : (c : Bool) (s : Scan) (a : Action) → cond c (givens.On s a) givens.Wrong ≡ givens.Over → ⊥
never_over true s a e = apart e where
  apart : givens.On s a ≡ givens.Over → ⊥
  apart q = cc
never_over false s a e = apart e where
  apart : givens.Wrong ≡ givens.Over → ⊥
  apart q = cc

wrong_over : givens.Wrong ≡ givens.Over → ⊥
wrong_over e = cc

not_zero : (n : ℕ) → (stopped n == 0) ≡ false → (n == 0) ≡ false
unfolding stopped
not_zero n h = grind (arith, nat_tests)

not_below : (n last : ℕ) → nat_le (stopped n) last ≡ false → nat_le n last ≡ false
unfolding stopped
not_below n last h = grind (arith, nat_tests)

lt_too : (n limit : ℕ) → limit < 2 ^ 63 → nat_lt limit (stopped n) ≡ true → nat_lt limit n ≡ true
lt_too n limit l e = sym (stopped_lt n limit l) ∙ e

le_too : (n limit : ℕ) → limit < 2 ^ 63 → nat_le limit (stopped n) ≡ true → nat_le limit n ≡ true
le_too n limit l e = sym (stopped_le n limit l) ∙ e

passed_by : (c : Bool) (g : Given) → c ≡ true → cond c givens.Over g ≡ givens.Over
passed_by c g e = ap (λ x. cond x givens.Over g) e

right_by : (c : Bool) (g : Given) → c ≡ false → g ≡ givens.Over → cond c givens.Wrong g ≡ givens.Over
right_by c g e f = ap (λ x. cond x givens.Wrong g) e ∙ f

number_over : (want : Want) (number : ℕ) (second : Bool) (d trees n : ℕ) → give_at want (scan_at number second want d trees) (tokens.Number (stopped n)) ≡ givens.Over → give_at want (scan_at number second want d trees) (tokens.Number n) ≡ givens.Over
number_over wants.HeaderNumber number second d trees n e = absurd (never_over _ _ _ e)
number_over wants.BlockNumber number second d trees n e = absurd (never_over _ _ _ e)
number_over (wants.Subject branching) number second d trees n e =
    let f = or_wrong (stopped n == 0) _ e in
    right_by (n == 0) _ (not_zero n f.0) (passed_by (nat_lt 4294967295 n) _ (lt_too n 4294967295 (omega arith) (over_if (nat_lt 4294967295 (stopped n)) _ _ f.1)))
number_over (wants.Row signed count) number second d trees n e =
    let f = or_wrong (stopped n == 0) _ e in
    right_by (n == 0) _ (not_zero n f.0) (passed_by (nat_lt 4294967295 n || nat_le 4096 count) _ (ap (λ c. c || nat_le 4096 count) (sym (stopped_lt n 4294967295 (omega arith))) ∙ over_if (nat_lt 4294967295 (stopped n) || nat_le 4096 count) _ _ f.1))
number_over (wants.Multiplier signed count row) number second d trees n e = passed_by (nat_le 1099511627776 n) _ (le_too n 1099511627776 (omega arith) (over_if (nat_le 1099511627776 (stopped n)) _ _ e))
number_over (wants.Negative count row) number second d trees n e = passed_by (nat_le 1099511627776 n) _ (le_too n 1099511627776 (omega arith) (over_if (nat_le 1099511627776 (stopped n)) _ _ e))
number_over (wants.Coefficient first negative last) number second d trees n e =
    let f = or_wrong (stopped n == 0) _ e in
    right_by (n == 0) _ (not_zero n f.0) (passed_by (nat_lt 1152921504606846976 n) _ (lt_too n 1152921504606846976 (omega arith) (over_if (nat_lt 1152921504606846976 (stopped n)) _ _ f.1)))
number_over (wants.Variable negative size last) number second d trees n e =
    let f = or_wrong (nat_le (stopped n) last) _ e in
    right_by (nat_le n last) _ (not_below n last f.0) (passed_by (nat_lt 4294967295 n) _ (lt_too n 4294967295 (omega arith) (over_if (nat_lt 4294967295 (stopped n)) _ _ f.1)))
number_over (wants.Constant negative) number second d trees n e = passed_by (nat_lt 1152921504606846976 n) _ (lt_too n 1152921504606846976 (omega arith) (over_if (nat_lt 1152921504606846976 (stopped n)) _ _ e))
number_over _ number second d trees n e = absurd (wrong_over e)

pub exact_over : (t : Token) (scan : Scan) → give scan (as_read t) ≡ givens.Over → give scan t ≡ givens.Over
exact_over (tokens.Word w) scan e = e
exact_over (tokens.Sign c) scan e = e
exact_over (tokens.Number n) scan e = number_over scan.want scan.number scan.second scan.depth scan.trees n e

-- what completes the block behind tokens that were taken completes it in front of them, with them
pub tokens_back : (number : ℕ) (ts : List Token) (bs next : List ℕ) (scan : Scan) (built : Built) (s : Scan) (b : Built) (ks : List Token) → scan.number ≡ number → is_inside scan.want ≡ true → Reads bs ts next scan built s b → Completes number s.second s.want s.depth ks → Completes number scan.second scan.want scan.depth (ts ++ ks)
tokens_back number [] bs next scan built s b ks n i r h = subst (λ q. Completes number q.second q.want q.depth ks) (sym r.1) h
tokens_back number (t ∷ ts) bs next scan built s b ks n i r h =
    let s1 = r.3 in
    let e = ap (λ m. give_at scan.want (scan_at m scan.second scan.want scan.depth scan.trees) t) (sym n) ∙ r.10 in
    let l = subst (Leads number scan.second (Completes number scan.second scan.want scan.depth) t) e (leads number scan.second scan.want scan.depth scan.trees t i) in
    let st = subst (OnlyOn (Stays scan)) r.10 (stays scan.want scan t i) in
    let more = tokens_back number ts r.2 next s1 (applied r.4 built) s b ks (st.0 ∙ n) st.2 r.11 h in
    l (ts ++ ks) (subst (λ v. Completes number v s1.want s1.depth (ts ++ ks)) st.1 more)

-- marks

marked_if : (c : Bool) (s : Scan) (a : Action) → givens.Over ≡ cond c givens.Over (givens.On s a) → c ≡ true
marked_if c s a e = over_if c s a (sym e)

abbrev Unmarked : Bool → Scan → Scan → Type 0
Unmarked c s s1 = (c ≡ false) × (s ≡ s1)

unmarked_if : (c : Bool) (s s1 : Scan) (a a1 : Action) → givens.On s1 a1 ≡ cond c givens.Over (givens.On s a) → Unmarked c s s1
unmarked_if true s s1 a a1 e = absurd (apart e) where
  apart : givens.On s1 a1 ≡ givens.Over → ⊥
  apart g = cc
unmarked_if false s s1 a a1 e = (refl, sym (ap (scan_in s) e)) where
  scan_in : Scan → Given → Scan
  scan_in q (givens.On t c) = t
  scan_in q givens.Wrong = q
  scan_in q givens.Over = q

-- a token that is taken is exact
taken_exact : (t : Token) (scan s : Scan) (a : Action) → scan.number < 2 ^ 32 → give scan t ≡ givens.On s a → as_read t ≡ t
taken_exact (tokens.Word w) scan s a n e = refl
taken_exact (tokens.Sign c) scan s a n e = refl
taken_exact (tokens.Number m) scan s a n e = ap (λ y. tokens.Number y) (small_same m (subst (OnlyOn (IsSmall m)) e (small_number scan.want scan m n)))

pub first_marked : (ts : List Token) (bs next : List ℕ) (t : Token) (us : List Token) (ms : List Bool) (scan : Scan) (built : Built) (s : Scan) (b : Built) → scan.number < 2 ^ 32 → Reads bs ts next scan built s b → Follows (ts ++ t ∷ us) ms scan → give s (as_read t) ≡ givens.Over → IsFirstMarked ts ms
first_marked [] bs next t us [] scan built s b n r f g = absurd f
first_marked [] bs next t us (c ∷ ms) scan built s b n r f g = marked_if c f.0 f.1 (sym g ∙ ap (λ q. give q (as_read t)) (sym r.1) ∙ f.2)
first_marked (v ∷ ts) bs next t us [] scan built s b n r f g = absurd f
first_marked (v ∷ ts) bs next t us (c ∷ ms) scan built s b n r f g =
    let exact = taken_exact v scan r.3 r.4 n r.10 in
    let u = unmarked_if c f.0 r.3 f.1 r.4 (sym (ap (give scan) exact ∙ r.10) ∙ f.2) in
    let kept = subst (OnlyOn (Keeps scan.number)) r.10 (number_keeps scan.want scan v) in
    (u.0, first_marked ts r.2 next t us ms r.3 (applied r.4 built) s b (subst (λ m. m < 2 ^ 32) (sym kept) n) r.11 (subst (Follows (ts ++ t ∷ us) ms) u.1 (f.4 u.0).1) g)
