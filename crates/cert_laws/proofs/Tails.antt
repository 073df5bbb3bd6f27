-- Bytes that complete a text of the next block from what may stand next; and how they grow by the tokens in front of them.
use Rattle.std.proofs.Common.{◌≡◌, ℕ, Bool, true, false, cond, ◌⊎◌, inl, inr, List, [], ◌∷◌, ◌++◌, refl, sym, ap, ◌∙◌, subst, arith, codes, ◌==◌}
use Rattle.std.proofs.lemmas.Bool.Decides.{nat_tests}
use Rattle.cert_text.specs.declared.scan.Word.TheVariants as words
use Rattle.cert_text.specs.declared.scan.Token.{Token}
use Rattle.cert_text.specs.declared.scan.Token.TheVariants as tokens
use Rattle.cert_text.specs.declared.scan.Want.{Want}
use Rattle.cert_text.specs.declared.scan.Want.TheVariants as wants
use Rattle.cert_text.specs.declared.scan.Scan.{Scan}
use Rattle.cert_text.specs.declared.scan.Action.{Action}
use Rattle.cert_text.specs.declared.scan.Given.{Given}
use Rattle.cert_text.specs.declared.scan.Given.TheVariants as givens
use Rattle.cert_text.specs.Control.{give, give_at}
use Rattle.cert_text.specs.Letters.{is_blank}
use Rattle.cert_text.specs.Tree.{Built, applied}
use Rattle.cert_text.specs.Run.{scan_at}
use Rattle.cert_text.specs.Grammar.{Written, tree_tokens, IsProper}
use Rattle.cert_laws.specs.Spelled.{AreAll, IsSpelling, EndsAt, Spells, IsHeader}
use Rattle.cert_laws.proofs.Givens.{is_inside, OnlyOn}
use Rattle.cert_laws.proofs.Stays.{Keeps, number_keeps, Stays, stays}
use Rattle.cert_laws.proofs.BlockRead.{regrouped}
use Rattle.cert_laws.proofs.HeaderRead.{regrouped as header_regrouped}
use Rattle.cert_laws.proofs.Ends.{Goes, Completes}
use Rattle.cert_laws.proofs.Leads.{Leads, leads}
use Rattle.cert_laws.proofs.Seams.{IsExact}
use Rattle.cert_laws.proofs.Told.{Reads}

no_truth : false ≡ true → ⊥
no_truth h = cc

no_given : (s : Scan) (a : Action) → givens.Wrong ≡ givens.On s a → ⊥
no_given s a e = cc

abbrev pub scan_in : Scan → Given → Scan
scan_in s (givens.On t a) = t
scan_in s givens.Wrong = s
scan_in s givens.Over = s

-- a token in front of bytes that spell tokens
pub in_front : (blanks cs rest : List ℕ) (t : Token) (ks : List Token) → AreAll is_blank blanks → IsSpelling cs t → EndsAt t rest → Spells rest ks → Spells (blanks ++ (cs ++ rest)) (t ∷ ks)
in_front blanks cs rest t ks b sp f h = (blanks, cs, rest, refl, b, sp, f, h)

same_two : (n : ℕ) → (n == 2) ≡ true → n ≡ 2
same_two n h = grind (arith, nat_tests)

same_sign : (c : ℕ) → (c == 59) ≡ true → c ≡ 59
same_sign c h = grind (arith, nat_tests)

pub if_given : (P : Type 0) (c : Bool) (x : Given) (s : Scan) (a : Action) → (c ≡ true → x ≡ givens.On s a → P) → cond c x givens.Wrong ≡ givens.On s a → P
if_given P true x s a f e = f refl e
if_given P false x s a f e = absurd (no_given s a e)

module _ (number : ℕ) where
  -- a block's text, and behind its tree what closes what is open
  abbrev pub ABlock : Bool → ℕ → List ℕ → Type 0
  ABlock second d bs = (w : Written) × (k : List Token) × IsProper second w × Goes second d k × Spells bs (tokens.Word words.Cert ∷ tokens.Number number ∷ tree_tokens w k)

  abbrev pub AHeaded : ℕ → List ℕ → Type 0
  AHeaded d bs = (head : List ℕ) × (rest : List ℕ) × (bs ≡ head ++ rest) × IsHeader head × ABlock true d rest

  -- from inside of a header on
  abbrev pub ABehind : ℕ → List ℕ → Type 0
  ABehind d bs = (behind : List ℕ) × (rest : List ℕ) × (bs ≡ behind ++ 59 ∷ rest) × AreAll is_blank behind × ABlock true d rest

  abbrev pub ANumber : ℕ → List ℕ → Type 0
  ANumber d bs = (between : List ℕ) × (rest : List ℕ) × (bs ≡ between ++ 50 ∷ rest) × AreAll is_blank between × ABehind d rest

  abbrev pub Inside : Bool → Want → ℕ → List ℕ → Type 0
  Inside second want d bs = (ks : List Token) × Spells bs ks × Completes number second want d ks

  abbrev pub Tail : Bool → Want → ℕ → List ℕ → Type 0
  Tail second (wants.Block header) d bs = ABlock second d bs ⊎ ((header ≡ true) × AHeaded d bs)
  Tail second wants.HeaderNumber d bs = ANumber d bs
  Tail second wants.HeaderEnd d bs = ABehind d bs
  Tail second want d bs = Inside second want d bs

  abbrev pub TailOf : Scan → List ℕ → Type 0
  TailOf s bs = Tail s.second s.want s.depth bs

  pub inside_of : (second : Bool) (want : Want) (d : ℕ) (bs : List ℕ) → is_inside want ≡ true → Tail second want d bs → Inside second want d bs
  inside_of second (wants.Block header) d bs i h = absurd (no_truth i)
  inside_of second wants.HeaderNumber d bs i h = absurd (no_truth i)
  inside_of second wants.HeaderEnd d bs i h = absurd (no_truth i)
  inside_of second _ d bs i h = h

  pub inside_to : (second : Bool) (want : Want) (d : ℕ) (bs : List ℕ) → is_inside want ≡ true → Inside second want d bs → Tail second want d bs
  inside_to second (wants.Block header) d bs i h = absurd (no_truth i)
  inside_to second wants.HeaderNumber d bs i h = absurd (no_truth i)
  inside_to second wants.HeaderEnd d bs i h = absurd (no_truth i)
  inside_to second _ d bs i h = h

  -- one token, spelled by cs, in front of what completes the block behind it
  abbrev Front : List ℕ → List ℕ → List ℕ → Token → Want → Type 0
  Front blanks cs rest t want = AreAll is_blank blanks × IsSpelling cs t × EndsAt t rest × IsExact t want cs

  step_inside : (second : Bool) (want : Want) (d trees : ℕ) (t : Token) (s1 : Scan) (a : Action) (blanks cs rest : List ℕ) → is_inside want ≡ true → give_at want (scan_at number second want d trees) t ≡ givens.On s1 a → Front blanks cs rest t want → TailOf s1 rest → Tail second want d (blanks ++ (cs ++ rest))
  step_inside second want d trees t s1 a blanks cs rest i e f h =
      let l = subst (Leads number second (Completes number second want d) t) e (leads number second want d trees t i) in
      let st = subst (OnlyOn (Stays (scan_at number second want d trees))) e (stays want (scan_at number second want d trees) t i) in
      let k = inside_of second s1.want s1.depth rest st.2 (subst (λ v. Tail v s1.want s1.depth rest) st.1 h) in
      inside_to second want d (blanks ++ (cs ++ rest)) i (t ∷ k.0, in_front blanks cs rest t k.0 f.0 f.1 f.2 k.1, l k.0 k.2)

  pub begins_block : (second : Bool) (d : ℕ) (blanks cs rest : List ℕ) → AreAll is_blank blanks → IsSpelling cs (tokens.Word words.Cert) → EndsAt (tokens.Word words.Cert) rest → Inside second wants.BlockNumber d rest → ABlock second d (blanks ++ (cs ++ rest))
  begins_block second d blanks cs rest b sp f h =
      let c = h.2 in
      let t = c.2 in
      (t.0, t.1, t.3, t.4, in_front blanks cs rest (tokens.Word words.Cert) (tokens.Number number ∷ tree_tokens t.0 t.1) b sp f (subst (Spells rest) (c.1 ∙ ap (λ k. tokens.Number number ∷ k) t.2) h.1))

  pub begins_header : (d : ℕ) (blanks cs rest : List ℕ) → AreAll is_blank blanks → IsSpelling cs (tokens.Word words.Version) → ANumber d rest → AHeaded d (blanks ++ (cs ++ rest))
  begins_header d blanks cs rest b sp n =
      let e = n.4 in
      let between = n.0 in
      let behind = e.0 in
      let text = between ++ 50 ∷ (behind ++ 59 ∷ []) in (
        blanks ++ (codes "version" ++ text),
        e.1,
        ap (λ xs. blanks ++ (xs ++ rest)) sp ∙ ap (λ xs. blanks ++ (codes "version" ++ xs)) (n.2 ∙ ap (λ xs. between ++ 50 ∷ xs) e.2) ∙ sym (header_regrouped blanks between behind e.1),
        (blanks, between, behind, refl, b, n.3, e.3),
        e.4,
      )

  step_block : (second header : Bool) (d trees : ℕ) (t : Token) (s1 : Scan) (a : Action) (blanks cs rest : List ℕ) → give_at (wants.Block header) (scan_at number second (wants.Block header) d trees) t ≡ givens.On s1 a → Front blanks cs rest t (wants.Block header) → TailOf s1 rest → Tail second (wants.Block header) d (blanks ++ (cs ++ rest))
  step_block second header d trees (tokens.Word words.Cert) s1 a blanks cs rest e f h =
      inl (begins_block second d blanks cs rest f.0 f.1 f.2 (subst (λ s. TailOf s rest) (sym (ap (scan_in s1) e)) h))
  step_block second header d trees (tokens.Word words.Version) s1 a blanks cs rest e f h =
      if_given (Tail second (wants.Block header) d (blanks ++ (cs ++ rest))) header _ s1 a (λ g q. inr (g, begins_header d blanks cs rest f.0 f.1 (subst (λ s. TailOf s rest) (sym (ap (scan_in s1) q)) h))) e
  step_block second header d trees (tokens.Word words.Absurd) s1 a blanks cs rest e f h = absurd (no_given s1 a e)
  step_block second header d trees (tokens.Word words.Farkas) s1 a blanks cs rest e f h = absurd (no_given s1 a e)
  step_block second header d trees (tokens.Word words.Linear) s1 a blanks cs rest e f h = absurd (no_given s1 a e)
  step_block second header d trees (tokens.Word words.Case) s1 a blanks cs rest e f h = absurd (no_given s1 a e)
  step_block second header d trees (tokens.Word words.Truth) s1 a blanks cs rest e f h = absurd (no_given s1 a e)
  step_block second header d trees (tokens.Word words.Split) s1 a blanks cs rest e f h = absurd (no_given s1 a e)
  step_block second header d trees (tokens.Word words.Cut) s1 a blanks cs rest e f h = absurd (no_given s1 a e)
  step_block second header d trees (tokens.Number n) s1 a blanks cs rest e f h = absurd (no_given s1 a e)
  step_block second header d trees (tokens.Sign c) s1 a blanks cs rest e f h = absurd (no_given s1 a e)

  step_number : (second : Bool) (d trees : ℕ) (t : Token) (s1 : Scan) (a : Action) (blanks cs rest : List ℕ) → give_at wants.HeaderNumber (scan_at number second wants.HeaderNumber d trees) t ≡ givens.On s1 a → Front blanks cs rest t wants.HeaderNumber → TailOf s1 rest → ANumber d (blanks ++ (cs ++ rest))
  step_number second d trees (tokens.Word w) s1 a blanks cs rest e f h = absurd (no_given s1 a e)
  step_number second d trees (tokens.Sign c) s1 a blanks cs rest e f h = absurd (no_given s1 a e)
  step_number second d trees (tokens.Number n) s1 a blanks cs rest e f h =
      if_given (ANumber d (blanks ++ (cs ++ rest))) (n == 2) _ s1 a (λ g q. (blanks, rest, ap (λ xs. blanks ++ (xs ++ rest)) f.3, f.0, subst (λ s. TailOf s rest) (sym (ap (scan_in s1) q)) h)) e

  step_end : (second : Bool) (d trees : ℕ) (t : Token) (s1 : Scan) (a : Action) (blanks cs rest : List ℕ) → give_at wants.HeaderEnd (scan_at number second wants.HeaderEnd d trees) t ≡ givens.On s1 a → Front blanks cs rest t wants.HeaderEnd → TailOf s1 rest → ABehind d (blanks ++ (cs ++ rest))
  step_end second d trees (tokens.Word w) s1 a blanks cs rest e f h = absurd (no_given s1 a e)
  step_end second d trees (tokens.Number n) s1 a blanks cs rest e f h = absurd (no_given s1 a e)
  step_end second d trees (tokens.Sign c) s1 a blanks cs rest e f h =
      if_given (ABehind d (blanks ++ (cs ++ rest))) (c == 59) _ s1 a (λ g q.
      (blanks, rest, ap (λ xs. blanks ++ (xs ++ rest)) (f.1.0 ∙ ap (λ x. x ∷ []) (same_sign c g)), f.0, plain (subst (λ s. TailOf s rest) (sym (ap (scan_in s1) q)) h))) e where
        plain : ABlock true d rest ⊎ ((false ≡ true) × AHeaded d rest) → ABlock true d rest
        plain (inl b) = b
        plain (inr b) = absurd (no_truth b.0)

  step_any : (want : Want) (second : Bool) (d trees : ℕ) (t : Token) (s1 : Scan) (a : Action) (blanks cs rest : List ℕ) → give_at want (scan_at number second want d trees) t ≡ givens.On s1 a → Front blanks cs rest t want → TailOf s1 rest → Tail second want d (blanks ++ (cs ++ rest))
  step_any (wants.Block header) second d trees t s1 a blanks cs rest e f h = step_block second header d trees t s1 a blanks cs rest e f h
  step_any wants.HeaderNumber second d trees t s1 a blanks cs rest e f h = step_number second d trees t s1 a blanks cs rest e f h
  step_any wants.HeaderEnd second d trees t s1 a blanks cs rest e f h = step_end second d trees t s1 a blanks cs rest e f h
  step_any want second d trees t s1 a blanks cs rest e f h = step_inside second want d trees t s1 a blanks cs rest refl e f h

  pub step_back : (scan : Scan) (t : Token) (s1 : Scan) (a : Action) (blanks cs rest : List ℕ) → scan.number ≡ number → give scan t ≡ givens.On s1 a → Front blanks cs rest t scan.want → TailOf s1 rest → TailOf scan (blanks ++ (cs ++ rest))
  step_back scan t s1 a blanks cs rest n e f h = step_any scan.want scan.second scan.depth scan.trees t s1 a blanks cs rest (ap (λ m. give_at scan.want (scan_at m scan.second scan.want scan.depth scan.trees) t) (sym n) ∙ e) f h

  -- what may be put in place of what is next: it ends what is next to end
  abbrev pub Joins : List ℕ → List ℕ → Type 0
  Joins next tail = (t : Token) (xs : List ℕ) → EndsAt t (xs ++ next) → EndsAt t (xs ++ tail)

  pub tail_back : (ts : List Token) (front next tail : List ℕ) (scan : Scan) (built : Built) (s : Scan) (b : Built) → scan.number ≡ number → Reads front ts next scan built s b → Joins next tail → TailOf s tail → TailOf scan (front ++ tail)
  tail_back [] front next tail scan built s b n r j h = subst (λ xs. TailOf scan (xs ++ tail)) (sym r.0) (subst (λ q. TailOf q tail) (sym r.1) h)
  tail_back (t ∷ ts) front next tail scan built s b n r j h =
      let blanks = r.0 in
      let cs = r.1 in
      let rest = r.2 in
      let kept = subst (OnlyOn (Keeps scan.number)) r.10 (number_keeps scan.want scan t) in
      let more = tail_back ts rest next tail r.3 (applied r.4 built) s b (kept ∙ n) r.11 j h in
      subst (TailOf scan) (sym (ap (λ xs. xs ++ tail) r.5 ∙ regrouped blanks cs rest tail)) (step_back scan t r.3 r.4 blanks cs (rest ++ tail) n r.10 (r.6, r.7, j t rest r.8, r.9) more)
