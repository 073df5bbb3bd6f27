-- Where taken tokens lead from the start: nowhere yet, into a header, right behind it, or into a block, with a header before it or
-- without.
use Rattle.std.proofs.Common.{◌≡◌, ℕ, Bool, true, false, ◌||◌, ◌⊎◌, inl, inr, List, [], ◌∷◌, ◌++◌, refl, sym, ap, ◌∙◌, subst, arith, codes, nat_lt, ◌==◌}
use Rattle.std.proofs.lemmas.Bool.Decides.{nat_tests}
use Rattle.cert_text.specs.declared.scan.Word.TheVariants as words
use Rattle.cert_text.specs.declared.scan.Token.{Token}
use Rattle.cert_text.specs.declared.scan.Token.TheVariants as tokens
use Rattle.cert_text.specs.declared.scan.Want.TheVariants as wants
use Rattle.cert_text.specs.declared.scan.Scan.{Scan}
use Rattle.cert_text.specs.declared.scan.Action.{Action}
use Rattle.cert_text.specs.declared.scan.Action.TheVariants as actions
use Rattle.cert_text.specs.declared.scan.Given.{Given}
use Rattle.cert_text.specs.declared.scan.Given.TheVariants as givens
use Rattle.cert_text.specs.Letters.{is_blank}
use Rattle.cert_text.specs.Tree.{Built, applied}
use Rattle.cert_text.specs.Run.{scan_at}
use Rattle.cert_text.specs.Held.{Held}
use Rattle.cert_laws.specs.Spelled.{AreAll, IsFront}
use Rattle.cert_laws.proofs.Begun.{both, first_of, Start, none_built}
use Rattle.cert_laws.proofs.HeaderRead.{regrouped}
use Rattle.cert_laws.proofs.Told.{Reads}
use Rattle.cert_laws.proofs.Tails.{if_given, scan_in}

no_truth : false ≡ true → ⊥
no_truth h = cc

no_given : (s : Scan) (a : Action) → givens.Wrong ≡ givens.On s a → ⊥
no_given s a e = cc

abbrev action_in : Action → Given → Action
action_in c (givens.On s a) = a
action_in c givens.Wrong = c
action_in c givens.Over = c

pub data Fronts (h : Held) (front next : List ℕ) (ts : List Token) (s : Scan) (b : Built) : Type 0 where
  f_none : front ≡ [] → ts ≡ [] → s ≡ Start h → Fronts h front next ts s b
  f_header : (s.want ≡ wants.HeaderNumber) ⊎ (s.want ≡ wants.HeaderEnd) → Fronts h front next ts s b
  f_behind : IsFront true h front → s ≡ scan_at h.number true (wants.Block false) 0 0 → Fronts h front next ts s b
  f_block : (header : Bool) (head bs : List ℕ) (us : List Token) (flag : Bool) → front ≡ head ++ bs → IsFront header h head → Reads bs (tokens.Word words.Cert ∷ us) next (scan_at h.number (header || h.second) (wants.Block flag) 0 0) none_built s b → Fronts h front next ts s b

module _ (h : Held) (next : List ℕ) (s : Scan) (b : Built) where
  Behind : Scan
  Behind = scan_at h.number true (wants.Block false) 0 0

  -- the three tokens of a header, by their bytes
  abbrev HeaderText : List ℕ → List ℕ → Type 0
  HeaderText front rest = (one : List ℕ) × (two : List ℕ) × (three : List ℕ) × (front ≡ one ++ (codes "version" ++ (two ++ 50 ∷ (three ++ 59 ∷ rest)))) × AreAll is_blank one × AreAll is_blank two × AreAll is_blank three

  abbrev head_of : {front rest : List ℕ} → HeaderText front rest → List ℕ
  head_of t = t.0 ++ (codes "version" ++ (t.1 ++ 50 ∷ (t.2 ++ 59 ∷ [])))

  -- behind a whole header
  behind : (ts all : List Token) (front rest : List ℕ) → first_of h ≡ true → HeaderText front rest → Reads rest ts next (scan_at h.number true (wants.Block false) 0 0) none_built s b → Fronts h front next all s b
  behind ts all front rest f t r = by ts r where
    is_front : IsFront true h (t.0 ++ (codes "version" ++ (t.1 ++ 50 ∷ (t.2 ++ 59 ∷ []))))
    is_front = let g = both (nat_lt h.number 2) h.second f in (g.0, g.1, (t.0, t.1, t.2, refl, t.4, t.5, t.6))

    joined : front ≡ (t.0 ++ (codes "version" ++ (t.1 ++ 50 ∷ (t.2 ++ 59 ∷ [])))) ++ rest
    joined = t.3 ∙ sym (regrouped t.0 t.1 t.2 rest)

    by : (us : List Token) → Reads rest us next (scan_at h.number true (wants.Block false) 0 0) none_built s b → Fronts h front next all s b
    by [] q = f_behind (t_front (t.3 ∙ ap (λ xs. t.0 ++ (codes "version" ++ (t.1 ++ 50 ∷ (t.2 ++ 59 ∷ xs)))) q.0)) (sym q.1) where
      t_front : front ≡ t.0 ++ (codes "version" ++ (t.1 ++ 50 ∷ (t.2 ++ 59 ∷ []))) → IsFront true h front
      t_front e = subst (IsFront true h) (sym e) is_front
    by (tokens.Word words.Cert ∷ us) q = f_block true _ rest us false joined is_front q
    by (tokens.Word words.Version ∷ us) q = absurd (no_given q.3 q.4 q.10)
    by (tokens.Word words.Absurd ∷ us) q = absurd (no_given q.3 q.4 q.10)
    by (tokens.Word words.Farkas ∷ us) q = absurd (no_given q.3 q.4 q.10)
    by (tokens.Word words.Linear ∷ us) q = absurd (no_given q.3 q.4 q.10)
    by (tokens.Word words.Case ∷ us) q = absurd (no_given q.3 q.4 q.10)
    by (tokens.Word words.Truth ∷ us) q = absurd (no_given q.3 q.4 q.10)
    by (tokens.Word words.Split ∷ us) q = absurd (no_given q.3 q.4 q.10)
    by (tokens.Word words.Cut ∷ us) q = absurd (no_given q.3 q.4 q.10)
    by (tokens.Number n ∷ us) q = absurd (no_given q.3 q.4 q.10)
    by (tokens.Sign c ∷ us) q = absurd (no_given q.3 q.4 q.10)

  -- what is read behind a token whose scan and action are known
  pub moved : (ts : List Token) (rest : List ℕ) (s1 s2 : Scan) (a1 a2 : Action) → givens.On s1 a1 ≡ givens.On s2 a2 → Reads rest ts next s2 (applied a2 none_built) s b → Reads rest ts next s1 (applied a1 none_built) s b
  moved ts rest s1 s2 a1 a2 e r = subst (λ q. Reads rest ts next q (applied a1 none_built) s b) (sym (ap (scan_in s1) e)) (subst (λ c. Reads rest ts next s2 (applied c none_built) s b) (sym (ap (action_in a1) e)) r)

  same_two : (n : ℕ) → (n == 59) ≡ true → n ≡ 59
  same_two n e = grind (arith, nat_tests)

  -- behind `version 2`
  at_end : (ts all : List Token) (front rest one two : List ℕ) → first_of h ≡ true → front ≡ one ++ (codes "version" ++ (two ++ 50 ∷ rest)) → AreAll is_blank one → AreAll is_blank two → Reads rest ts next (scan_at h.number h.second wants.HeaderEnd 0 0) none_built s b → Fronts h front next all s b
  at_end [] all front rest one two f e c d r = f_header (inr (ap (λ q. q.want) (sym r.1)))
  at_end (tokens.Word w ∷ ts) all front rest one two f e c d r = absurd (no_given r.3 r.4 r.10)
  at_end (tokens.Number n ∷ ts) all front rest one two f e c d r = absurd (no_given r.3 r.4 r.10)
  at_end (tokens.Sign x ∷ ts) all front rest one two f e c d r =
      if_given (Fronts h front next all s b) (x == 59) _ r.3 r.4 (λ g q.
      behind ts all front r.2 f (one, two, r.0, e ∙ ap (λ xs. one ++ (codes "version" ++ (two ++ 50 ∷ xs))) (r.5 ∙ ap (λ xs. r.0 ++ (xs ++ r.2)) (r.7.0 ∙ ap (λ y. y ∷ []) (same_two x g))), c, d, r.6)
      (moved ts r.2 _ r.3 actions.Nothing r.4 q r.11)) r.10

  -- behind `version`
  at_number : (ts all : List Token) (front rest one : List ℕ) → first_of h ≡ true → front ≡ one ++ (codes "version" ++ rest) → AreAll is_blank one → Reads rest ts next (scan_at h.number h.second wants.HeaderNumber 0 0) none_built s b → Fronts h front next all s b
  at_number [] all front rest one f e c r = f_header (inl (ap (λ q. q.want) (sym r.1)))
  at_number (tokens.Word w ∷ ts) all front rest one f e c r = absurd (no_given r.3 r.4 r.10)
  at_number (tokens.Sign x ∷ ts) all front rest one f e c r = absurd (no_given r.3 r.4 r.10)
  at_number (tokens.Number n ∷ ts) all front rest one f e c r =
      if_given (Fronts h front next all s b) (n == 2) _ r.3 r.4 (λ g q.
      at_end ts all front r.2 one r.0 f (e ∙ ap (λ xs. one ++ (codes "version" ++ xs)) (r.5 ∙ ap (λ xs. r.0 ++ (xs ++ r.2)) r.9)) c r.6
      (moved ts r.2 _ r.3 actions.Nothing r.4 q r.11)) r.10

  pub fronts : (ts : List Token) (front : List ℕ) → Reads front ts next (Start h) none_built s b → Fronts h front next ts s b
  fronts [] front r = f_none r.0 refl (sym r.1)
  fronts (tokens.Word words.Cert ∷ ts) front r = f_block false [] front ts (first_of h) refl refl r
  fronts (tokens.Word words.Version ∷ ts) front r =
      if_given (Fronts h front next (tokens.Word words.Version ∷ ts) s b) (first_of h) _ r.3 r.4 (λ g q.
      at_number ts (tokens.Word words.Version ∷ ts) front r.2 r.0 g (r.5 ∙ ap (λ xs. r.0 ++ (xs ++ r.2)) r.7) r.6
      (moved ts r.2 _ r.3 actions.Nothing r.4 q r.11)) r.10
  fronts (tokens.Word words.Absurd ∷ ts) front r = absurd (no_given r.3 r.4 r.10)
  fronts (tokens.Word words.Farkas ∷ ts) front r = absurd (no_given r.3 r.4 r.10)
  fronts (tokens.Word words.Linear ∷ ts) front r = absurd (no_given r.3 r.4 r.10)
  fronts (tokens.Word words.Case ∷ ts) front r = absurd (no_given r.3 r.4 r.10)
  fronts (tokens.Word words.Truth ∷ ts) front r = absurd (no_given r.3 r.4 r.10)
  fronts (tokens.Word words.Split ∷ ts) front r = absurd (no_given r.3 r.4 r.10)
  fronts (tokens.Word words.Cut ∷ ts) front r = absurd (no_given r.3 r.4 r.10)
  fronts (tokens.Number n ∷ ts) front r = absurd (no_given r.3 r.4 r.10)
  fronts (tokens.Sign c ∷ ts) front r = absurd (no_given r.3 r.4 r.10)
