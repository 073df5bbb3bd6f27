-- The walk that gathers what is needed: its begin, a turn and its end; and likewise of what is left.
use Rattle.std.proofs.Common.{◌≡◌, ◌∙◌, ℕ, zero, suc, ◌+◌, ◌<◌, ◌≤◌, List, [], ◌∷◌, ◌++◌, ◌⊎◌, inl, inr, length, refl, ap, sym, subst, arith}
use Rattle.std.specs.Prelude.{Option, Some, None, slice_get}
use Rattle.std.specs.Option.{option_map}
use Rattle.std.specs.List.{Contains}
use Rattle.std.proofs.lemmas.List.Elements.{All-contains, Contains-append_left, Contains-append_right, Contains-append_cases, Contains-push, Contains-push_cases}
use Rattle.temporal_goals.specs.Texts.{PlainStep, invariant}
use Rattle.rule_fits.specs.Obeying.{IsLemma, CiteLemmas}
use Rattle.cited_steps.specs.Needed.{Cites, Needs, goal, cited, AreNeeded, AreUnneeded}
use Rattle.cited_steps.specs.Looking.{AreGathered, AreLeft}

within : {X : Type 0} (xs : List X) (n : ℕ) (x : X) → slice_get xs n ≡ Some x → n < length xs
within [] n x e = absurd (cc)
within (y ∷ ys) zero x e = omega arith
within (y ∷ ys) (suc n) x e = let h : n < length ys = within ys n x e in omega (arith, h)

lemma_within : (earlier : List PlainStep) (m : ℕ) → IsLemma earlier m → m < length earlier
lemma_within earlier m (p, e) = go (slice_get earlier m) refl e
  where
    go : (o : Option PlainStep) → slice_get earlier m ≡ o → option_map (λ s. s.goal) o ≡ Some (invariant p) → m < length earlier
    go None is e = absurd (cc)
    go (Some s) is e = within earlier m s is

length_more : (earlier : List PlainStep) (s : PlainStep) → length (earlier ++ s ∷ []) ≡ suc (length earlier)
length_more [] s = refl
length_more (x ∷ xs) s = ap suc (length_more xs s)

-- a step cites steps in front of it
cited_before : (earlier steps : List PlainStep) (n m : ℕ) → CiteLemmas earlier steps → Cites steps n m → m < length earlier + n
cited_before earlier [] n m cites (s, there, among) = absurd (cc)
cited_before earlier (s ∷ steps) zero m cites (t, there, among) =
    let same : s ≡ t = some_same s t there in
    let below : m < length earlier = lemma_within earlier m (All-contains (IsLemma earlier) s.cited m cites.0 (subst (λ (x : PlainStep). Contains x.cited m) (sym same) among)) in
    omega (arith, below)
  where
    some_same : (x y : PlainStep) → Some x ≡ Some y → x ≡ y
    some_same x y e = cc
cited_before earlier (s ∷ steps) (suc n) m cites (t, there, among) =
    let below : m < length (earlier ++ s ∷ []) + n = cited_before (earlier ++ s ∷ []) steps n m cites.1 (t, there, among) in
    let more : length (earlier ++ s ∷ []) ≡ suc (length earlier) = length_more earlier s in
    omega (arith, below, more)

same_step : (x y : PlainStep) → Some x ≡ Some y → x ≡ y
same_step x y e = cc

at_least : (n k : ℕ) → n ≤ k → (k ≡ n) ⊎ (suc n ≤ k)
at_least zero zero le = inl refl
at_least zero (suc k) le = inr (omega arith)
at_least (suc n) zero le = absurd (omega (arith, le))
at_least (suc n) (suc k) le = one_more (at_least n k (omega (arith, le)))
  where
    one_more : (k ≡ n) ⊎ (suc n ≤ k) → (suc k ≡ suc n) ⊎ (suc (suc n) ≤ suc k)
    one_more (inl same) = inl (ap suc same)
    one_more (inr past) = inr (omega (arith, past))

module _ (steps : List PlainStep) (goals : List ℕ) (cites : CiteLemmas [] steps) where
  before : (n m : ℕ) → Cites steps n m → m < n
  before n m c = let h : m < 0 + n = cited_before [] steps n m cites c in omega (arith, h)

  -- the step isn't needed
  pub passed : (n : ℕ) (ns : List ℕ) → (Contains ns n → ⊥) → AreGathered steps goals (suc n) ns → AreGathered steps goals n ns
  passed n ns unneeded g = record { begun = g.begun; alone = g.alone; closed = λ k m low has c. by_place k m has c (at_least n k low) }
    where
      by_place : (k m : ℕ) → Contains ns k → Cites steps k m → (k ≡ n) ⊎ (suc n ≤ k) → Contains ns m
      by_place k m has c (inl same) = absurd (unneeded (subst (Contains ns) same has))
      by_place k m has c (inr past) = g.closed k m past has c

  -- the step is needed, so what it cites is gathered
  pub added : (n : ℕ) (s : PlainStep) (ns : List ℕ) → slice_get steps n ≡ Some s → Contains ns n → AreGathered steps goals (suc n) ns → AreGathered steps goals n (ns ++ s.cited)
  added n s ns there needed g = record {
    begun = λ k h. Contains-append_left ns s.cited k (g.begun k h);
    alone = λ k has. of_either k (Contains-append_cases ns s.cited k has);
    closed = λ k m low has c. by_place k m c (at_least n k low) (Contains-append_cases ns s.cited k has);
  }
    where
      of_either : (k : ℕ) → Contains ns k ⊎ Contains s.cited k → Needs steps goals k
      of_either k (inl old) = g.alone k old
      of_either k (inr new) = cited n k (g.alone n needed) (s, there, new)

      of_it : (m : ℕ) → Cites steps n m → Contains (ns ++ s.cited) m
      of_it m (t, at, among) = Contains-append_right ns s.cited m (subst (λ (x : PlainStep). Contains x.cited m) (same_step t s (sym at ∙ there)) among)

      by_place : (k m : ℕ) → Cites steps k m → (k ≡ n) ⊎ (suc n ≤ k) → Contains ns k ⊎ Contains s.cited k → Contains (ns ++ s.cited) m
      by_place k m c (inl same) has = of_it m (subst (λ (x : ℕ). Cites steps x m) same c)
      by_place k m c (inr past) (inl old) = Contains-append_left ns s.cited m (g.closed k m past old c)
      by_place k m c (inr past) (inr new) = let h : k < n = before n k (s, there, new) in absurd (omega (arith, h, past))

  -- nothing has been looked at
  pub begun : (n : ℕ) → length steps ≤ n → AreGathered steps goals n goals
  begun n past = record { begun = λ k h. h; alone = goal; closed = λ k m low has c. nowhere k m low c }
    where
      nowhere : (k m : ℕ) → n ≤ k → Cites steps k m → Contains goals m
      nowhere k m low (s, there, among) = let h : k < length steps = within steps k s there in absurd (omega (arith, h, low, past))

  -- all have been looked at
  pub ended : (ns : List ℕ) → AreGathered steps goals 0 ns → AreNeeded steps goals ns
  ended ns g = record { all = all; alone = g.alone }
    where
      all : (n : ℕ) → Needs steps goals n → Contains ns n
      all n (goal m h) = g.begun m h
      all n (cited k m needed c) = g.closed k m (omega arith) (all k needed) c

earlier_or_it : (n k : ℕ) → k < suc n → (k < n) ⊎ (n ≡ k)
earlier_or_it n k low = of_order (at_least k n (omega (arith, low)))
  where
    of_order : (n ≡ k) ⊎ (suc k ≤ n) → (k < n) ⊎ (n ≡ k)
    of_order (inl same) = inr same
    of_order (inr past) = inl (omega (arith, past))

module _ (needed : List ℕ) where
  pub none_left : AreLeft needed 0 []
  none_left = record { all = λ k low unneeded. absurd (omega (arith, low)); alone = λ k has. absurd (nowhere k has) }
    where
      nowhere : (k : ℕ) → Contains [] k → ⊥
      nowhere k (i, low, is) = omega (arith, low)

  -- a number that isn't needed is left
  pub one_left : (n : ℕ) (ns : List ℕ) → (Contains needed n → ⊥) → AreLeft needed n ns → AreLeft needed (suc n) (ns ++ n ∷ [])
  one_left n ns free l = record {
    all = λ k low kept. of_place k kept (earlier_or_it n k low);
    alone = λ k has. of_either k (Contains-push_cases ns n k has);
  }
    where
      of_place : (k : ℕ) → (Contains needed k → ⊥) → (k < n) ⊎ (n ≡ k) → Contains (ns ++ n ∷ []) k
      of_place k kept (inl low) = Contains-append_left ns (n ∷ []) k (l.all k low kept)
      of_place k kept (inr same) = subst (Contains (ns ++ n ∷ [])) same (Contains-push ns n)

      of_either : (k : ℕ) → Contains ns k ⊎ (n ≡ k) → (k < suc n) × (Contains needed k → ⊥)
      of_either k (inl old) = let h : k < n = (l.alone k old).0 in (omega (arith, h), (l.alone k old).1)
      of_either k (inr same) = (omega (arith, same), subst (λ (x : ℕ). Contains needed x → ⊥) same free)

  -- a number that is needed isn't
  pub none_more : (n : ℕ) (ns : List ℕ) → Contains needed n → AreLeft needed n ns → AreLeft needed (suc n) ns
  none_more n ns taken l = record {
    all = λ k low free. of_place k free (earlier_or_it n k low);
    alone = λ k has. more k (l.alone k has);
  }
    where
      of_place : (k : ℕ) → (Contains needed k → ⊥) → (k < n) ⊎ (n ≡ k) → Contains ns k
      of_place k free (inl low) = l.all k low free
      of_place k free (inr same) = absurd (free (subst (Contains needed) same taken))

      more : (k : ℕ) → (k < n) × (Contains needed k → ⊥) → (k < suc n) × (Contains needed k → ⊥)
      more k (low, free) = (omega (arith, low), free)

-- what is left of the needed steps are those that no goal needs
pub unneeded : (steps : List PlainStep) (goals ns left : List ℕ) (n : ℕ) → n ≡ length steps → AreNeeded steps goals ns → AreLeft ns n left → AreUnneeded steps goals left
unneeded steps goals ns left n same are l = record {
  all = λ k low free. l.all k (omega (arith, low, same)) (λ has. free (are.alone k has));
  alone = λ k has. less k (l.alone k has);
}
  where
    less : (k : ℕ) → (k < n) × (Contains ns k → ⊥) → (k < length steps) × (Needs steps goals k → ⊥)
    less k (low, free) = (omega (arith, low, same), λ needs. free (are.all k needs))
