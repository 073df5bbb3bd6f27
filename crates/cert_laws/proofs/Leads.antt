-- What a token that may stand leads to: with what completes the block behind it, the token completes the block before it; and a
-- token that passes a limit has something that completes the block behind it, too. So each state of the control can be completed.
use Rattle.std.proofs.Common.{◌≡◌, ℕ, ◌+◌, ◌-◌, ◌<◌, Bool, true, false, cond, ◌&&◌, ◌||◌, ◌⊎◌, inl, inr, List, [], ◌∷◌, refl, sym, ap, ◌∙◌, subst, arith, nat_lt, nat_le, ◌==◌}
use Rattle.cert_text.specs.declared.scan.Word.{Word}
use Rattle.cert_text.specs.declared.scan.Word.TheVariants as words
use Rattle.cert_text.specs.declared.scan.Branching.{Branching}
use Rattle.cert_text.specs.declared.scan.Branching.TheVariants as nodes
use Rattle.cert_text.specs.declared.scan.Token.{Token}
use Rattle.cert_text.specs.declared.scan.Token.TheVariants as tokens
use Rattle.cert_text.specs.declared.scan.Want.{Want}
use Rattle.cert_text.specs.declared.scan.Want.TheVariants as wants
use Rattle.cert_text.specs.declared.scan.Scan.{Scan}
use Rattle.cert_text.specs.declared.scan.Action.{Action}
use Rattle.cert_text.specs.declared.scan.Action.TheVariants as actions
use Rattle.cert_text.specs.declared.scan.Given.{Given}
use Rattle.cert_text.specs.declared.scan.Given.TheVariants as givens
use Rattle.cert_text.specs.Control.{give_at, at_tree, behind, only_sign, is_full, picks_closed}
use Rattle.cert_text.specs.Run.{scan_at}
use Rattle.cert_text.specs.Grammar.{int_tokens, more_terms, w_absurd, w_farkas, w_linear, w_node, w_cut, word_of_node}
use Rattle.cert_laws.proofs.Givens.{is_inside}
use Rattle.cert_laws.proofs.Ends.{Goes, g_end, g_leave, g_tree, goes, ARow, row_from, ATree, ABrace, IsAllowed, AMore, AnInt, APick, SomeTerms, AVariable, AColon, ACoefficient, AnEnd, Brackets, Completes, AreSpellable, ending}
use Rattle.cert_laws.proofs.Plain.{plain_picks, int_plain, lines_plain, same_if, one_more, some_size, risen, not_zero, left_one, both}
use Rattle.basic_laws.proofs.Numbers.{is_zero}

no_truth : false ≡ true → ⊥
no_truth h = cc

module _ (number : ℕ) (second : Bool) where
  abbrev pub Done : Scan → List Token → Type 0
  Done s ks = Completes number second s.want s.depth ks

  -- what a token gives
  abbrev pub Leads : (List Token → Type 0) → Token → Given → Type 0
  Leads p t (givens.On s a) = (ks : List Token) → Done s ks → p (t ∷ ks)
  Leads p t givens.Wrong = Unit {0}
  Leads p t givens.Over = (ks : List Token) × p (t ∷ ks) × AreSpellable ks

  leads_if : (p : List Token → Type 0) (t : Token) (c : Bool) (x y : Given) → (c ≡ true → Leads p t x) → (c ≡ false → Leads p t y) → Leads p t (cond c x y)
  leads_if p t true x y f g = f refl
  leads_if p t false x y f g = g refl

  -- a limit, or on
  or_on : (p : List Token → Type 0) (t : Token) (c : Bool) (s : Scan) (a : Action) → ((ks : List Token) → Done s ks → p (t ∷ ks)) → Leads p t (cond c givens.Over (givens.On s a))
  or_on p t true s a f = let e = ending number second s.want s.depth in (e.0, f e.0 e.1, e.2)
  or_on p t false s a f = f

  sign_leads : (p : List Token → Type 0) (t : Token) (sign : ℕ) (g : Given) → (t ≡ tokens.Sign sign → Leads p t g) → Leads p t (only_sign t sign g)
  sign_leads p (tokens.Word w) sign g f = tt
  sign_leads p (tokens.Number n) sign g f = tt
  sign_leads p (tokens.Sign c) sign g f = leads_if p (tokens.Sign c) (c == sign) g givens.Wrong (λ e. f (ap (λ x. tokens.Sign x) (same_if c sign e))) (λ e. tt)

  abbrev At : Want → ℕ → ℕ → Scan
  At want depth trees = scan_at number second want depth trees

  goes_on : (d : ℕ) (ks : List Token) → 0 < d → ATree second d ks ⊎ ABrace second true d ks → Goes second d ks
  goes_on d ks z (inl h) = g_tree d ks h.0 h.1 z h.2 h.3 h.4
  goes_on d ks z (inr h) = g_leave d ks h.1 h.2 h.3 h.4 h.5

  behind_leads : (p : List Token → Type 0) (t : Token) (want : Want) (d0 d trees : ℕ) (a : Action) → ((ks : List Token) → Goes second d ks → p (t ∷ ks)) → Leads p t (behind (At want d0 trees) d a)
  behind_leads p t want d0 d trees a f =
      leads_if p t (d == 0) _ _
      (λ e ks h. f ks (g_end d ks (is_zero d e) h))
      (λ e ks h. f ks (goes_on d ks (not_zero d e) h))

  over_behind : (p : List Token → Type 0) (t : Token) (full : Bool) (want : Want) (d0 d trees : ℕ) (a : Action) → ((ks : List Token) → Goes second d ks → p (t ∷ ks)) → Leads p t (cond full givens.Over (behind (At want d0 trees) d a))
  over_behind p t true want d0 d trees a f = let g = goes second d in (g.0, f g.0 g.1, g.2)
  over_behind p t false want d0 d trees a f = behind_leads p t want d0 d trees a f

  a_row : (d : ℕ) (ks : List Token) → ATree second (d + 1) ks ⊎ ABrace second false (d + 1) ks → ARow second d ks
  a_row d ks (inl h) = let r = row_from second (d + 1) h.1 d h.0 h.4 refl h.3 in (r.0, r.1, h.2 ∙ r.2, r.3, r.4)
  a_row d ks (inr h) = absurd (no_truth h.0)

  node_tree : (branching : Branching) (d n : ℕ) (k : List Token) → ARow second d k → ATree second d (tokens.Word (word_of_node branching) ∷ tokens.Number (n + 1) ∷ tokens.Sign 123 ∷ k)
  node_tree branching d n k r = (w_node branching n r.0, r.1, ap (λ j. tokens.Word (word_of_node branching) ∷ tokens.Number (n + 1) ∷ tokens.Sign 123 ∷ j) r.2, r.3, r.4)

  farkas_tree : (d : ℕ) (k : List Token) → APick second false d k → ATree second d (tokens.Word words.Farkas ∷ tokens.Sign 91 ∷ k)
  farkas_tree d k r =
      let i = r.3 in
      let m = i.4 in
      (w_farkas (r.0, i.0.1) (plain_picks m.0), m.1, ap (λ j. tokens.Word words.Farkas ∷ tokens.Sign 91 ∷ j) (r.2 ∙ ap (λ j. tokens.Number (r.0 + 1) ∷ tokens.Sign 42 ∷ j) (i.2 ∙ int_plain i.0 i.1 i.3 ∙ ap (λ j. tokens.Number i.0.1 ∷ j) (m.2 ∙ lines_plain m.0 (tokens.Sign 93 ∷ m.1) m.3))), tt, m.4)

  linear_tree : (d : ℕ) (k : List Token) → second ≡ true → APick second true d k → ATree second d (tokens.Word words.Linear ∷ tokens.Sign 91 ∷ k)
  linear_tree d k v r =
      let i = r.3 in
      let m = i.4 in
      (w_linear (r.0, i.0) m.0, m.1, ap (λ j. tokens.Word words.Linear ∷ tokens.Sign 91 ∷ j) (r.2 ∙ ap (λ j. tokens.Number (r.0 + 1) ∷ tokens.Sign 42 ∷ j) (i.2 ∙ ap (int_tokens i.0) m.2)), v, m.4)

  cut_tree : (d : ℕ) (k : List Token) → ACoefficient second false 0 d k ⊎ AnEnd second true d k → ATree second d (tokens.Word words.Cut ∷ tokens.Sign 91 ∷ k)
  cut_tree d k (inr e) =
      let c = e.3 in
      let r = c.3 in
      (w_cut [] c.0 r.0, r.1, ap (λ j. tokens.Word words.Cut ∷ tokens.Sign 91 ∷ j) (e.2 ∙ ap (λ j. tokens.Sign 59 ∷ j) (c.2 ∙ ap (λ j. int_tokens c.0 (tokens.Sign 93 ∷ tokens.Sign 123 ∷ j)) r.2)), (tt, r.3), r.4)
  cut_tree d k (inl t) =
      let o = t.4 in
      let v = o.2 in
      let m = v.4 in
      let c = m.4 in
      let r = c.3 in
      (w_cut ((v.0, t.0) ∷ m.0) c.0 r.0, r.1, ap (λ j. tokens.Word words.Cut ∷ tokens.Sign 91 ∷ j) (t.2 ∙ ap (int_tokens t.0) (o.1 ∙ ap (λ j. tokens.Sign 58 ∷ j) (v.2 ∙ ap (λ j. tokens.Number (v.0 + 1) ∷ j) (m.2 ∙ ap (λ j. more_terms m.0 (tokens.Sign 59 ∷ j)) (c.2 ∙ ap (λ j. int_tokens c.0 (tokens.Sign 93 ∷ tokens.Sign 123 ∷ j)) r.2))))), ((omega arith, t.3, m.3), r.3), r.4)

  abbrev Trees : Bool → ℕ → List Token → Type 0
  Trees end d ks = ATree second d ks ⊎ ABrace second end d ks

  -- a word that begins a tree
  word_leads : (end : Bool) (d trees : ℕ) (w : Word) → Leads (Trees end d) (tokens.Word w) (at_tree (At (wants.Tree end) d trees) end (tokens.Word w))
  word_leads end d trees words.Absurd = over_behind (Trees end d) (tokens.Word words.Absurd) (is_full (At (wants.Tree end) d trees)) (wants.Tree end) d d (trees + 1) actions.Absurd (λ ks g. inl (w_absurd, ks, refl, tt, g))
  word_leads end d trees words.Farkas = or_on (Trees end d) (tokens.Word words.Farkas) (is_full (At (wants.Tree end) d trees)) _ _ (λ ks h. inl (subst (λ j. ATree second d (tokens.Word words.Farkas ∷ j)) (sym h.1) (farkas_tree d h.0 h.2)))
  word_leads end d trees words.Linear = leads_if (Trees end d) (tokens.Word words.Linear) second _ _ (λ v. or_on (Trees end d) (tokens.Word words.Linear) (is_full (At (wants.Tree end) d trees)) _ _ (λ ks h. inl (subst (λ j. ATree second d (tokens.Word words.Linear ∷ j)) (sym h.1) (linear_tree d h.0 v h.2)))) (λ v. tt)
  word_leads end d trees words.Case = or_on (Trees end d) (tokens.Word words.Case) (is_full (At (wants.Tree end) d trees)) _ _ (λ ks h. inl (subst (λ j. ATree second d (tokens.Word words.Case ∷ j)) (sym h.2) (node_tree nodes.Case d h.0 h.1 h.3)))
  word_leads end d trees words.Truth = or_on (Trees end d) (tokens.Word words.Truth) (is_full (At (wants.Tree end) d trees)) _ _ (λ ks h. inl (subst (λ j. ATree second d (tokens.Word words.Truth ∷ j)) (sym h.2) (node_tree nodes.Truth d h.0 h.1 h.3)))
  word_leads end d trees words.Split = or_on (Trees end d) (tokens.Word words.Split) (is_full (At (wants.Tree end) d trees)) _ _ (λ ks h. inl (subst (λ j. ATree second d (tokens.Word words.Split ∷ j)) (sym h.2) (node_tree nodes.Split d h.0 h.1 h.3)))
  word_leads end d trees words.Cut = or_on (Trees end d) (tokens.Word words.Cut) (is_full (At (wants.Tree end) d trees)) _ _ (λ ks h. inl (subst (λ j. ATree second d (tokens.Word words.Cut ∷ j)) (sym h.1) (cut_tree d h.0 h.2)))
  word_leads end d trees words.Cert = tt
  word_leads end d trees words.Version = tt

  -- a number where one may stand

  subject_leads : (branching : Branching) (d trees n : ℕ) → Leads (Completes number second (wants.Subject branching) d) (tokens.Number n) (give_at (wants.Subject branching) (At (wants.Subject branching) d trees) (tokens.Number n))
  subject_leads branching d trees n =
      leads_if (Completes number second (wants.Subject branching) d) (tokens.Number n) (n == 0) _ _ (λ e. tt)
      (λ e. or_on (Completes number second (wants.Subject branching) d) (tokens.Number n) (nat_lt 4294967295 n) _ _
      (λ ks h. (n - 1, h.0, ap (λ m. tokens.Number m ∷ ks) (one_more n e) ∙ ap (λ k. tokens.Number (n - 1 + 1) ∷ k) h.1, h.2)))

  row_leads : (signed : Bool) (count d trees n : ℕ) → Leads (APick second signed d) (tokens.Number n) (give_at (wants.Row signed count) (At (wants.Row signed count) d trees) (tokens.Number n))
  row_leads signed count d trees n =
      leads_if (APick second signed d) (tokens.Number n) (n == 0) _ _ (λ e. tt)
      (λ e. or_on (APick second signed d) (tokens.Number n) (nat_lt 4294967295 n || nat_le 4096 count) _ _
      (λ ks h. (n - 1, h.0, ap (λ m. tokens.Number m ∷ ks) (one_more n e) ∙ ap (λ k. tokens.Number (n - 1 + 1) ∷ k) h.1, h.2)))

  coefficient_leads : (first negative : Bool) (last d trees n : ℕ) → Leads (Completes number second (wants.Coefficient first negative last) d) (tokens.Number n) (give_at (wants.Coefficient first negative last) (At (wants.Coefficient first negative last) d trees) (tokens.Number n))
  coefficient_leads first negative last d trees n =
      leads_if (Completes number second (wants.Coefficient first negative last) d) (tokens.Number n) (n == 0) _ _ (λ e. tt)
      (λ e. or_on (Completes number second (wants.Coefficient first negative last) d) (tokens.Number n) (nat_lt 1152921504606846976 n) _ _ (λ ks h. inl (one negative ks (some_size n e) h))) where
        one : (sign : Bool) (ks : List Token) → 0 < n → AColon second last d ks → ACoefficient second sign last d (tokens.Number n ∷ ks)
        one true ks z h = (n, ks, refl, z, h)
        one false ks z h = ((false, n), ks, refl, z, h)

  variable_leads : (negative : Bool) (size last d trees n : ℕ) → Leads (AVariable second last d) (tokens.Number n) (give_at (wants.Variable negative size last) (At (wants.Variable negative size last) d trees) (tokens.Number n))
  variable_leads negative size last d trees n =
      leads_if (AVariable second last d) (tokens.Number n) (nat_le n last) _ _ (λ e. tt)
      (λ e. or_on (AVariable second last d) (tokens.Number n) (nat_lt 4294967295 n) _ _
      (λ ks h. let r = risen n last e in (n - 1, ks, ap (λ m. tokens.Number m ∷ ks) r.0, r.1, subst (λ m. SomeTerms second m d ks) r.0 h)))

  constant_leads : (negative : Bool) (d trees n : ℕ) → Leads (Completes number second (wants.Constant negative) d) (tokens.Number n) (give_at (wants.Constant negative) (At (wants.Constant negative) d trees) (tokens.Number n))
  constant_leads true d trees n = or_on (Completes number second (wants.Constant true) d) (tokens.Number n) (nat_lt 1152921504606846976 n) _ _ (λ ks h. (n, ks, refl, h))
  constant_leads false d trees n = or_on (Completes number second (wants.Constant false) d) (tokens.Number n) (nat_lt 1152921504606846976 n) _ _ (λ ks h. ((false, n), h.0, ap (λ k. tokens.Number n ∷ k) h.1, h.2))

  multiplier_leads : (signed : Bool) (count row d trees n : ℕ) → Leads (AnInt second signed d) (tokens.Number n) (give_at (wants.Multiplier signed count row) (At (wants.Multiplier signed count row) d trees) (tokens.Number n))
  multiplier_leads signed count row d trees n = or_on (AnInt second signed d) (tokens.Number n) (nat_le 1099511627776 n) _ _ (λ ks h. ((false, n), ks, refl, plain signed, h)) where
    plain : (s : Bool) → IsAllowed s (false, n)
    plain true = tt
    plain false = refl

  -- inside a block each token leads
  pub leads : (want : Want) (d trees : ℕ) (t : Token) → is_inside want ≡ true → Leads (Completes number second want d) t (give_at want (At want d trees) t)
  leads (wants.Block header) d trees t i = absurd (no_truth i)
  leads wants.HeaderNumber d trees t i = absurd (no_truth i)
  leads wants.HeaderEnd d trees t i = absurd (no_truth i)
  leads wants.BlockNumber d trees (tokens.Word w) i = tt
  leads wants.BlockNumber d trees (tokens.Sign c) i = tt
  leads wants.BlockNumber d trees (tokens.Number n) i = leads_if (Completes number second wants.BlockNumber d) (tokens.Number n) (n == number) _ _ (λ e ks h. (ks, ap (λ m. tokens.Number m ∷ ks) (same_if n number e), first ks h)) (λ e. tt) where
    first : (ks : List Token) → ATree second d ks ⊎ ABrace second false d ks → ATree second d ks
    first ks (inl h) = h
    first ks (inr h) = absurd (no_truth h.0)
  leads (wants.Tree end) d trees (tokens.Word w) i = word_leads end d trees w
  leads (wants.Tree end) d trees (tokens.Number n) i = tt
  leads (wants.Tree end) d trees (tokens.Sign c) i =
      leads_if (Trees end d) (tokens.Sign c) (c == 125) _ _ (λ e. leads_if (Trees end d) (tokens.Sign c) (end && nat_lt 0 d) _ _
      (λ f. let g = both end (nat_lt 0 d) f in behind_leads (Trees end d) (tokens.Sign c) (wants.Tree end) d (d - 1) trees actions.Leave (λ ks h. inr (g.0, d - 1, ks, left_one d g.1, ap (λ x. tokens.Sign x ∷ ks) (same_if c 125 e), h))) (λ f. tt)) (λ e. tt)
  leads (wants.Subject branching) d trees (tokens.Word w) i = tt
  leads (wants.Subject branching) d trees (tokens.Number n) i = subject_leads branching d trees n
  leads (wants.Subject branching) d trees (tokens.Sign c) i = tt
  leads (wants.Branches branching n) d trees t i = sign_leads (Completes number second (wants.Branches branching n) d) t 123 _ (λ e. or_on (Completes number second (wants.Branches branching n) d) t (nat_le 400 d) _ _ (λ ks h. (ks, ap (λ u. u ∷ ks) e, a_row d ks h)))
  leads (wants.Picks signed) d trees t i = sign_leads (Completes number second (wants.Picks signed) d) t 91 _ (λ e ks h. (ks, ap (λ u. u ∷ ks) e, h))
  leads (wants.Row signed count) d trees (tokens.Word w) i = tt
  leads (wants.Row signed count) d trees (tokens.Number n) i = row_leads signed count d trees n
  leads (wants.Row signed count) d trees (tokens.Sign c) i = tt
  leads (wants.Times signed count row) d trees t i = sign_leads (Completes number second (wants.Times signed count row) d) t 42 _ (λ e ks h. (ks, ap (λ u. u ∷ ks) e, h))
  leads (wants.Multiplier signed count row) d trees (tokens.Word w) i = tt
  leads (wants.Multiplier signed count row) d trees (tokens.Number n) i = multiplier_leads signed count row d trees n
  leads (wants.Multiplier true count row) d trees (tokens.Sign c) i = leads_if (AnInt second true d) (tokens.Sign c) (c == 45) _ givens.Wrong (λ e ks h. ((true, h.0), h.1, ap (λ x. tokens.Sign x ∷ ks) (same_if c 45 e) ∙ ap (λ k. tokens.Sign 45 ∷ k) h.2, tt, h.3)) (λ e. tt)
  leads (wants.Multiplier false count row) d trees (tokens.Sign c) i = leads_if (AnInt second false d) (tokens.Sign c) (c == 45) givens.Wrong givens.Wrong (λ e. tt) (λ e. tt)
  leads (wants.Negative count row) d trees (tokens.Word w) i = tt
  leads (wants.Negative count row) d trees (tokens.Number n) i = or_on (Completes number second (wants.Negative count row) d) (tokens.Number n) (nat_le 1099511627776 n) _ _ (λ ks h. (n, ks, refl, h))
  leads (wants.Negative count row) d trees (tokens.Sign c) i = tt
  leads (wants.MorePicks signed count) d trees (tokens.Word w) i = tt
  leads (wants.MorePicks signed count) d trees (tokens.Number n) i = tt
  leads (wants.MorePicks signed count) d trees (tokens.Sign c) i =
      leads_if (AMore second signed d) (tokens.Sign c) (c == 44) _ _
      (λ e ks h. let n = h.3 in let m = n.4 in ((h.0, n.0) ∷ m.0, m.1, ap (λ x. tokens.Sign x ∷ ks) (same_if c 44 e) ∙ ap (λ k. tokens.Sign 44 ∷ k) (h.2 ∙ ap (λ k. tokens.Number (h.0 + 1) ∷ tokens.Sign 42 ∷ k) (n.2 ∙ ap (int_tokens n.0) m.2)), (n.3, m.3), m.4))
      (λ e. leads_if (AMore second signed d) (tokens.Sign c) (c == 93) _ _ (λ f. behind_leads (AMore second signed d) (tokens.Sign c) (wants.MorePicks signed count) d d trees (picks_closed signed) (λ ks g. ([], ks, ap (λ x. tokens.Sign x ∷ ks) (same_if c 93 f), tt, g))) (λ f. tt))
  leads wants.Terms d trees t i = sign_leads (Completes number second wants.Terms d) t 91 _ (λ e ks h. (ks, ap (λ u. u ∷ ks) e, h))
  leads (wants.Coefficient first negative last) d trees (tokens.Word w) i = tt
  leads (wants.Coefficient first negative last) d trees (tokens.Number n) i = coefficient_leads first negative last d trees n
  leads (wants.Coefficient first negative last) d trees (tokens.Sign c) i =
      leads_if (Completes number second (wants.Coefficient first negative last) d) (tokens.Sign c) (c == 45) _ _
      (λ e. leads_if (Completes number second (wants.Coefficient first negative last) d) (tokens.Sign c) negative _ _ (λ f. tt) (λ f ks h. inl (subst (λ s. ACoefficient second s last d (tokens.Sign c ∷ ks)) (sym f) (minus ks (same_if c 45 e) h))))
      (λ e. leads_if (Completes number second (wants.Coefficient first negative last) d) (tokens.Sign c) (c == 59) _ _
      (λ f. leads_if (Completes number second (wants.Coefficient first negative last) d) (tokens.Sign c) first _ _ (λ g ks h. inr (g, ks, ap (λ x. tokens.Sign x ∷ ks) (same_if c 59 f), h)) (λ g. tt)) (λ f. tt)) where
        minus : (ks : List Token) → c ≡ 45 → ACoefficient second true last d ks ⊎ AnEnd second false d ks → ACoefficient second false last d (tokens.Sign c ∷ ks)
        minus ks e (inl h) = ((true, h.0), h.1, ap (λ x. tokens.Sign x ∷ ks) e ∙ ap (λ k. tokens.Sign 45 ∷ k) h.2, h.3, h.4)
        minus ks e (inr h) = absurd (no_truth h.0)
  leads (wants.Colon negative size last) d trees t i = sign_leads (AColon second last d) t 58 _ (λ e ks h. (ks, ap (λ u. u ∷ ks) e, h))
  leads (wants.Variable negative size last) d trees (tokens.Word w) i = tt
  leads (wants.Variable negative size last) d trees (tokens.Number n) i = variable_leads negative size last d trees n
  leads (wants.Variable negative size last) d trees (tokens.Sign c) i = tt
  leads (wants.MoreTerms last) d trees (tokens.Word w) i = tt
  leads (wants.MoreTerms last) d trees (tokens.Number n) i = tt
  leads (wants.MoreTerms last) d trees (tokens.Sign c) i =
      leads_if (SomeTerms second last d) (tokens.Sign c) (c == 44) _ _ (λ e ks h. more ks (same_if c 44 e) h)
      (λ e. leads_if (SomeTerms second last d) (tokens.Sign c) (c == 59) _ _ (λ f ks h. ([], ks, ap (λ x. tokens.Sign x ∷ ks) (same_if c 59 f), tt, h)) (λ f. tt)) where
        more : (ks : List Token) → c ≡ 44 → ACoefficient second false last d ks ⊎ AnEnd second false d ks → SomeTerms second last d (tokens.Sign c ∷ ks)
        more ks e (inr h) = absurd (no_truth h.0)
        more ks e (inl h) =
            let o = h.4 in
            let v = o.2 in
            let m = v.4 in
            ((v.0, h.0) ∷ m.0, m.1, ap (λ x. tokens.Sign x ∷ ks) e ∙ ap (λ k. tokens.Sign 44 ∷ k) (h.2 ∙ ap (int_tokens h.0) (o.1 ∙ ap (λ j. tokens.Sign 58 ∷ j) (v.2 ∙ ap (λ j. tokens.Number (v.0 + 1) ∷ j) m.2))), (v.3, h.3, m.3), m.4)
  leads (wants.Constant negative) d trees (tokens.Word w) i = tt
  leads (wants.Constant negative) d trees (tokens.Number n) i = constant_leads negative d trees n
  leads (wants.Constant true) d trees (tokens.Sign c) i = leads_if (Completes number second (wants.Constant true) d) (tokens.Sign c) (c == 45) givens.Wrong givens.Wrong (λ e. tt) (λ e. tt)
  leads (wants.Constant false) d trees (tokens.Sign c) i = leads_if (Completes number second (wants.Constant false) d) (tokens.Sign c) (c == 45) _ givens.Wrong (λ e ks h. let b = h.3 in ((true, h.0), b.0, ap (λ x. tokens.Sign x ∷ ks) (same_if c 45 e) ∙ ap (λ k. tokens.Sign 45 ∷ k) (h.2 ∙ ap (λ k. tokens.Number h.0 ∷ k) b.1), b.2)) (λ e. tt)
  leads (wants.ConstantEnd negative size) d trees t i = sign_leads (Brackets second d) t 93 _ (λ e ks h. (h.0, ap (λ u. u ∷ ks) e ∙ ap (λ k. tokens.Sign 93 ∷ k) h.1, h.2))
  leads (wants.CutBranches negative size) d trees t i = sign_leads (Completes number second (wants.CutBranches negative size) d) t 123 _ (λ e. or_on (Completes number second (wants.CutBranches negative size) d) t (nat_le 400 d) _ _ (λ ks h. (ks, ap (λ u. u ∷ ks) e, a_row d ks h)))
  leads wants.End d trees t i = sign_leads (Completes number second wants.End d) t 59 _ (λ e ks h. ap (λ u. u ∷ ks) e ∙ ap (λ k. tokens.Sign 59 ∷ k) h)
  leads wants.Whole d trees t i = tt
