-- What blocks that wait for their check come to.
use Rattle.std.proofs.Common.{◌≡◌, ℕ, suc, zero, ◌+◌, ◌<◌, ◌≤◌, List, [], ◌∷◌, ◌++◌, length, take, drop, get_or, refl, sym, ◌∙◌, ap, arith, subst, Bool, true, false, cond, length-take}
use Rattle.std.specs.Prelude.{Some, None, slice_get}
use Rattle.st_form.specs.Condition.{Implication}
use Rattle.st_form.specs.Shared.{plain_condition}
use Rattle.st_form.specs.declared.conditions.Condition.{Condition}
use Rattle.st_certificate.specs.Tree.{Tree}
use Rattle.st_certificate.specs.Plain.{plain as tree_of}
use Rattle.farkas_check.specs.Problem.{Setting}
use Rattle.cert_text.specs.declared.reader.Block.{Block}
use Rattle.cert_text.specs.Answer.{block}
use Rattle.cert_text.specs.Held.{Held, answer_of, taken_from}
use Rattle.block_validity.specs.First.{Proves, ProveBefore, Fails, IsFirstFailing}
use Rattle.step_report.specs.declared.conditions.Reason.{Reason}
use Rattle.step_report.specs.declared.conditions.Reason.TheVariants.{NotValid}
use Rattle.block_laws.specs.Tests.{is_certificate}
use Rattle.block_laws.specs.Checked.{tree_tested, reason_of, block_tested, behind_block, block_judged, Checked, refused, checked_from, pending_from}
use Rattle.block_laws.specs.Plain.{trees, plains}
use Rattle.block_laws.proofs.Tests.{certificate_is, certificate_of}

module _ (k : Setting) where
  -- one block more is taken
  pub pend_more : (n : ℕ) (cs : List Implication) (ts : List Tree) (t : Tree) (m : ℕ) (h : Held) → length ts < length cs → answer_of h ≡ block m t
      → pending_from k n cs (ts ++ t ∷ []) (taken_from h) ≡ pending_from k n cs ts h
  unfolding behind_block block_tested
  pend_more n [] ts t m h left answer = absurd (omega (arith, left))
  pend_more n (c ∷ cs) [] t m h left answer = ap (λ a. block_judged n c (checked_from k (n + 1) cs (taken_from h)) (reason_of k c a)) (sym answer)
  pend_more n (c ∷ cs) (x ∷ ts) t m h left answer = ap (λ (more : Checked). block_judged n c more (tree_tested k c x)) (pend_more (n + 1) cs ts t m h (omega (arith, left)) answer)

  proved_here : (c : Condition) (b : Block) → Proves k c b → tree_tested k (plain_condition c) (tree_of b.certificate) ≡ None
  proved_here c b h = ap (λ x. cond x None (Some NotValid)) (certificate_of k (plain_condition c).given (plain_condition c).shown (tree_of b.certificate) h)

  failed_here : (c : Condition) (b : Block) → (Proves k c b → ⊥) → tree_tested k (plain_condition c) (tree_of b.certificate) ≡ Some NotValid
  failed_here c b never = by (is_certificate k (plain_condition c).given (plain_condition c).shown (tree_of b.certificate)) refl where
    by : (x : Bool) → is_certificate k (plain_condition c).given (plain_condition c).shown (tree_of b.certificate) ≡ x → cond x None (Some NotValid) ≡ Some NotValid
    by true e = absurd (never (certificate_is k (plain_condition c).given (plain_condition c).shown (tree_of b.certificate) e))
    by false e = refl

  -- the conditions of all blocks are discharged
  pend_all : (n : ℕ) (ys : List Condition) (bs : List Block) (zs : List Implication) (h : Held) → length ys ≡ length bs → ProveBefore k ys bs (length ys)
      → pending_from k n (plains ys ++ zs) (trees bs) h ≡ checked_from k (n + length bs) zs h
  pend_all n [] [] zs h size valid = ap (λ (m : ℕ). checked_from k m zs h) (omega arith)
  pend_all n [] (b ∷ bs) zs h size valid = absurd (omega (arith, size))
  pend_all n (y ∷ ys) [] zs h size valid = absurd (omega (arith, size))
  pend_all n (y ∷ ys) (b ∷ bs) zs h size valid =
      let rest = pend_all (n + 1) ys bs zs h (omega (arith, size)) (λ i c x below there block_there. valid (suc i) c x (omega (arith, below)) there block_there) in
      let sum : n + 1 + length bs ≡ n + length (b ∷ bs) = omega arith in
      ap (block_judged n (plain_condition y) (pending_from k (n + 1) (plains ys ++ zs) (trees bs) h)) (proved_here y b (valid 0 y b (omega arith) refl refl))
      ∙ rest ∙ ap (λ (m : ℕ). checked_from k m zs h) sum

  some_same : {A : Type 0} (x y : A) → Some x ≡ Some y → x ≡ y
  some_same x y e = cc

  -- the block at a place is the first that isn't valid
  pend_fails : (n : ℕ) (ys : List Condition) (bs : List Block) (i : ℕ) (zs : List Implication) (h : Held) (any : Condition) → ProveBefore k ys bs i → Fails k ys bs i
      → pending_from k n (plains ys ++ zs) (trees bs) h ≡ refused (n + i) (plain_condition (get_or ys i any)) NotValid
  pend_fails n [] bs i zs h any valid fails = cc (fails.condition_there)
  pend_fails n (y ∷ ys) [] i zs h any valid fails = cc (fails.block_there)
  pend_fails n (y ∷ ys) (b ∷ bs) zero zs h any valid fails =
      let condition : y ≡ fails.condition = some_same y fails.condition fails.condition_there in
      let same : b ≡ fails.block = some_same b fails.block fails.block_there in
      let no : Proves k y b → ⊥ = λ e. fails.refused (subst (λ (x : Block). Proves k fails.condition x) same (subst (λ (c : Condition). Proves k c b) condition e)) in
      ap (block_judged n (plain_condition y) (pending_from k (n + 1) (plains ys ++ zs) (trees bs) h)) (failed_here y b no)
      ∙ ap (λ (m : ℕ). refused m (plain_condition y) NotValid) (omega arith)
  pend_fails n (y ∷ ys) (b ∷ bs) (suc i) zs h any valid fails =
      let rest = pend_fails (n + 1) ys bs i zs h any (λ j c x below there block_there. valid (suc j) c x (omega (arith, below)) there block_there)
      (record { condition = fails.condition; block = fails.block; condition_there = fails.condition_there; block_there = fails.block_there; refused = fails.refused }) in
      let sum : n + 1 + i ≡ n + suc i = omega arith in
      ap (block_judged n (plain_condition y) (pending_from k (n + 1) (plains ys ++ zs) (trees bs) h)) (proved_here y b (valid 0 y b (omega arith) refl refl))
      ∙ rest ∙ ap (λ (m : ℕ). refused m (plain_condition (get_or ys i any)) NotValid) sum

  plains_cut : (m : ℕ) (cs : List Condition) → plains (take m cs) ++ plains (drop m cs) ≡ plains cs
  plains_cut zero cs = refl
  plains_cut (suc m) [] = refl
  plains_cut (suc m) (c ∷ cs) = ap (λ l. plain_condition c ∷ l) (plains_cut m cs)

  get_front : (m : ℕ) (cs : List Condition) (i : ℕ) (any : Condition) → i < m → get_or (take m cs) i any ≡ get_or cs i any
  get_front zero cs i any lt = absurd (omega arith)
  get_front (suc m) [] i any lt = refl
  get_front (suc m) (c ∷ cs) zero any lt = refl
  get_front (suc m) (c ∷ cs) (suc i) any lt = get_front m cs i any (omega arith)

  there_below : (bs : List Block) (i : ℕ) (b : Block) → slice_get bs i ≡ Some b → i < length bs
  there_below [] i b e = cc
  there_below (x ∷ bs) zero b e = omega arith
  there_below (x ∷ bs) (suc i) b e = let h = there_below bs i b e in omega arith

  -- the first conditions and their blocks
  module _ (cs : List Condition) (bs : List Block) (h : Held) (within : length bs ≤ length cs) where
    whole : (n : ℕ) → pending_from k n (plains cs) (trees bs) h ≡ pending_from k n (plains (take (length bs) cs) ++ plains (drop (length bs) cs)) (trees bs) h
    whole n = ap (λ l. pending_from k n l (trees bs) h) (sym (plains_cut (length bs) cs))

    pub all_discharged : IsFirstFailing k (take (length bs) cs) bs None → pending_from k 1 (plains cs) (trees bs) h ≡ checked_from k (length bs + 1) (plains (drop (length bs) cs)) h
    all_discharged valid =
        whole 1 ∙ pend_all 1 (take (length bs) cs) bs (plains (drop (length bs) cs)) h (omega (arith, within, length-take (length bs) cs)) valid
        ∙ ap (λ (m : ℕ). checked_from k m (plains (drop (length bs) cs)) h) (omega arith)

    pub one_refused : (i : ℕ) (any : Condition) → IsFirstFailing k (take (length bs) cs) bs (Some i) → pending_from k 1 (plains cs) (trees bs) h ≡ refused (i + 1) (plain_condition (get_or cs i any)) NotValid
    one_refused i any fails =
        let below = there_below bs i fails.1.block fails.1.block_there in
        whole 1 ∙ pend_fails 1 (take (length bs) cs) bs i (plains (drop (length bs) cs)) h any fails.0 fails.1
        ∙ ap (λ c. refused (1 + i) (plain_condition c) NotValid) (get_front (length bs) cs i any below) ∙ ap (λ (m : ℕ). refused m (plain_condition (get_or cs i any)) NotValid) (omega arith)

  -- the next condition has no block
  pub none_next : (cs : List Condition) (m n : ℕ) (h : Held) (any : Condition) (reason : Reason) → m < length cs → block_tested k (plain_condition (get_or cs m any)) h ≡ Some reason
      → checked_from k n (plains (drop m cs)) h ≡ refused n (plain_condition (get_or cs m any)) reason
  none_next [] m n h any reason lt is = absurd (omega arith)
  none_next (c ∷ cs) zero n h any reason lt is = ap (block_judged n (plain_condition c) (checked_from k (n + 1) (plains cs) (behind_block h))) is
  none_next (c ∷ cs) (suc m) n h any reason lt is = none_next cs m n h any reason (omega arith) is
