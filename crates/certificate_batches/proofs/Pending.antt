-- Blocks that wait for their check, of conditions from a place on.
use Rattle.std.proofs.Common.{◌≡◌, ℕ, ◌+◌, ◌<◌, ◌≤◌, List, [], ◌∷◌, length, take, drop, refl, sym, ◌∙◌, ap, subst, arith, ◌-◌, length-take, length-drop}
use Rattle.std.specs.Prelude.{Option, Some, None}
use Rattle.std.proofs.lemmas.List.{drop-drop}
use Rattle.std.proofs.lemmas.Option.{slice_get_within}
use Rattle.st_form.specs.Condition.{Implication}
use Rattle.st_form.specs.Shared.{plain_condition}
use Rattle.st_form.specs.declared.conditions.Condition.{Condition}
use Rattle.st_certificate.specs.Tree.{Tree}
use Rattle.farkas_check.specs.Problem.{Setting}
use Rattle.cert_text.specs.declared.reader.Block.{Block}
use Rattle.cert_text.specs.Held.{Held}
use Rattle.cert_laws.specs.Laws.{closed}
use Rattle.block_validity.specs.First.{AreCheckable, IsFirstFailing}
use Rattle.search_laws.specs.Searchable.{AreSearchable}
use Rattle.discharge.proofs.Halves.{left-searchable, right-searchable}
use Rattle.script_obligations.specs.Laws.{AreLimitedBlocks, SearchableIsCheckable}
use Rattle.step_report.specs.declared.conditions.Reason.{Reason}
use Rattle.step_report.specs.declared.conditions.Reason.TheVariants.{NotValid}
use Rattle.block_laws.specs.Checked.{Checked, all_valid, refused, tree_tested, block_tested, behind_block, block_judged, checked_from, pending_from}
use Rattle.block_laws.specs.Plain.{trees, plains}
use Rattle.block_laws.proofs.Pending.{all_discharged, one_refused}
use Rattle.certificate_batches.specs.declared.finding.Finding.{Finding}
use Rattle.certificate_batches.specs.declared.finding.Finding.TheVariants.{Refused}
use Rattle.certificate_batches.specs.declared.batches.Batches.{Batches}
use Rattle.certificate_batches.specs.Finding.{finding_of}
use Rattle.certificate_batches.specs.Batches.{rest_found, comes_to}

-- the same with numbers that begin later
later : ℕ → Checked → Checked
later d (all_valid h) = all_valid h
later d (refused n c reason) = refused (n + d) c reason

later_judged : (d n : ℕ) (c : Implication) (more : Checked) (t : Option Reason) → block_judged (n + d) c (later d more) t ≡ later d (block_judged n c more t)
unfolding later
later_judged d n c more None = refl
later_judged d n c more (Some reason) = refl

next_later : (d n : ℕ) → n + d + 1 ≡ n + 1 + d
next_later d n = omega arith

module _ (k : Setting) where
  checked_later : (d n : ℕ) (cs : List Implication) (h : Held) → checked_from k (n + d) cs h ≡ later d (checked_from k n cs h)
  unfolding later
  checked_later d n [] h = refl
  checked_later d n (c ∷ cs) h =
      ap (λ (m : ℕ). block_judged (n + d) c (checked_from k m cs (behind_block h)) (block_tested k c h)) (next_later d n)
      ∙ ap (λ (x : Checked). block_judged (n + d) c x (block_tested k c h)) (checked_later d (n + 1) cs (behind_block h))
      ∙ later_judged d n c (checked_from k (n + 1) cs (behind_block h)) (block_tested k c h)

  pending_later : (d n : ℕ) (cs : List Implication) (ts : List Tree) (h : Held) → pending_from k (n + d) cs ts h ≡ later d (pending_from k n cs ts h)
  unfolding later
  pending_later d n cs [] h = checked_later d n cs h
  pending_later d n [] (t ∷ ts) h = refl
  pending_later d n (c ∷ cs) (t ∷ ts) h =
      ap (λ (m : ℕ). block_judged (n + d) c (pending_from k m cs ts h) (tree_tested k c t)) (next_later d n)
      ∙ ap (λ (x : Checked). block_judged (n + d) c x (tree_tested k c t)) (pending_later d (n + 1) cs ts h)
      ∙ later_judged d n c (pending_from k (n + 1) cs ts h) (tree_tested k c t)

  -- the first of some conditions that isn't discharged, by its place
  refused_at : (ys : List Condition) (bs : List Block) (h : Held) (i : ℕ) → length bs ≤ length ys → IsFirstFailing k (take (length bs) ys) bs (Some i)
      → (c : Implication) × (pending_from k 1 (plains ys) (trees bs) h ≡ refused (i + 1) c NotValid)
  refused_at [] [] h i within fails = cc (fails.1.block_there)
  refused_at [] (b ∷ bs) h i within fails = absurd (omega (arith, within))
  refused_at (y ∷ ys) bs h i within fails = (_, one_refused k (y ∷ ys) bs h within i y fails)

  module _ (cs : List Condition) (d : ℕ) (bs : List Block) (h : Held) (within : d + length bs ≤ length cs) where
    fits : length bs ≤ length (drop d cs)
    fits = omega (arith, within, length-drop d cs)

    from : pending_from k (d + 1) (plains (drop d cs)) (trees bs) h ≡ later d (pending_from k 1 (plains (drop d cs)) (trees bs) h)
    from = ap (λ (m : ℕ). pending_from k m (plains (drop d cs)) (trees bs) h) (omega arith) ∙ pending_later d 1 (plains (drop d cs)) (trees bs) h

    -- the conditions of all blocks are discharged
    pub batch_discharged : IsFirstFailing k (take (length bs) (drop d cs)) bs None
        → checked_from k (d + length bs + 1) (plains (drop (d + length bs) cs)) h ≡ pending_from k (d + 1) (plains (drop d cs)) (trees bs) h
    batch_discharged valid =
        let rest : drop (length bs) (drop d cs) ≡ drop (d + length bs) cs = drop-drop (length bs) d cs ∙ ap (λ (m : ℕ). drop m cs) (omega arith) in
        sym (from ∙ ap (later d) (all_discharged k (drop d cs) bs h fits valid) ∙ sym (checked_later d (length bs + 1) (plains (drop (length bs) (drop d cs))) h)
        ∙ ap (λ (m : ℕ). checked_from k m (plains (drop (length bs) (drop d cs))) h) (omega arith) ∙ ap (λ (l : List Condition). checked_from k (d + length bs + 1) (plains l) h) rest)

    -- the condition of one block isn't
    pub batch_refused : (i : ℕ) → IsFirstFailing k (take (length bs) (drop d cs)) bs (Some i) → Refused (d + i + 1) NotValid ≡ finding_of (pending_from k (d + 1) (plains (drop d cs)) (trees bs) h)
    unfolding later
    batch_refused i fails =
        let at = refused_at (drop d cs) bs h i fits fails in
        sym (ap finding_of from ∙ ap (λ (x : Checked). finding_of (later d x)) at.1 ∙ ap (λ (m : ℕ). Refused m NotValid) (omega arith))

  -- the same of the batch of the code, which is so many conditions from a place on
  module _ (cs : List Condition) (d n : ℕ) (bs given : List Block) (sized : n ≡ length bs) (same : given ≡ bs) (within : d + length bs ≤ length cs) where
    abbrev batch : List Condition
    batch = take (d + n - d) (drop d cs)

    as_taken : (o p : Option ℕ) → o ≡ p → IsFirstFailing k batch given o → IsFirstFailing k (take (length bs) (drop d cs)) bs p
    as_taken o p is first =
        let size : d + n - d ≡ length bs = omega (arith, sized) in
        subst (IsFirstFailing k (take (length bs) (drop d cs)) bs) is (subst (λ (x : List Block). IsFirstFailing k (take (length bs) (drop d cs)) x o) same
        (subst (λ (m : ℕ). IsFirstFailing k (take m (drop d cs)) given o) size first))

    pub failing_within : (o : Option ℕ) (i : ℕ) → o ≡ Some i → IsFirstFailing k batch given o → i < length bs
    failing_within o i is first = let fails = as_taken o (Some i) is first in slice_get_within bs i fails.1.block fails.1.block_there

    pub all_of_batch : (h : Held) (o : Option ℕ) → o ≡ None → IsFirstFailing k batch given o
        → checked_from k (d + n + 1) (plains (drop (d + n) cs)) h ≡ pending_from k (d + 1) (plains (drop d cs)) (trees bs) h
    all_of_batch h o is first =
        ap (λ (m : ℕ). checked_from k (d + m + 1) (plains (drop (d + m) cs)) h) sized ∙ batch_discharged cs d bs h within (as_taken o None is first)

    pub one_of_batch : (h : Held) (o : Option ℕ) (i : ℕ) → o ≡ Some i → IsFirstFailing k batch given o → Refused (d + i + 1) NotValid ≡ finding_of (pending_from k (d + 1) (plains (drop d cs)) (trees bs) h)
    one_of_batch h o i is first = batch_refused cs d bs h within i (as_taken o (Some i) is first)

    pub checkable : SearchableIsCheckable → (v : ℕ) → AreSearchable v cs → AreLimitedBlocks bs → AreCheckable batch given
    checkable law v searchable limited =
        subst (AreCheckable batch) (sym same)
        (law v batch bs (left-searchable v (d + n - d) (drop d cs) (right-searchable v d cs searchable)) limited (omega (arith, sized, within, length-take (d + n - d) (drop d cs), length-drop d cs)))

  next_refused : (ys : List Condition) (n : ℕ) (h : Held) (reason : Reason) → 0 < length ys → ((c : Implication) → block_tested k c h ≡ Some reason)
      → finding_of (checked_from k n (plains ys) h) ≡ Refused n reason
  next_refused [] n h reason some lacks = absurd (omega (arith, some))
  next_refused (y ∷ ys) n h reason some lacks = ap (λ (t : Option Reason). finding_of (block_judged n (plain_condition y) (checked_from k (n + 1) (plains ys) (behind_block h)) t)) (lacks (plain_condition y))

  -- the next condition has no block
  pub none_further : (cs : List Condition) (d : ℕ) (h : Held) (reason : Reason) → d < length cs → ((c : Implication) → block_tested k c h ≡ Some reason)
      → Refused (d + 1) reason ≡ finding_of (pending_from k (d + 1) (plains (drop d cs)) [] h)
  none_further cs d h reason left lacks = sym (next_refused (drop d cs) (d + 1) h reason (omega (arith, left, length-drop d cs)) lacks)

  -- ---- what all comes to
  pub unsettled_is : (cs : List Condition) (b : Batches) (rest : List ℕ) → b.settled ≡ None
      → comes_to k cs b rest ≡ finding_of (pending_from k (b.discharged + 1) (plains (drop b.discharged cs)) (trees b.blocks.items) (closed b.reader rest))
  unfolding comes_to
  unsettled_is cs b rest none = ap (λ (o : Option Finding). rest_found k o (b.discharged + 1) (plains (drop b.discharged cs)) (trees b.blocks.items) (closed b.reader rest)) none

  pub settled_is : (cs : List Condition) (b : Batches) (rest : List ℕ) (f : Finding) → b.settled ≡ Some f → comes_to k cs b rest ≡ f
  unfolding comes_to
  settled_is cs b rest f some = ap (λ (o : Option Finding). rest_found k o (b.discharged + 1) (plains (drop b.discharged cs)) (trees b.blocks.items) (closed b.reader rest)) some
