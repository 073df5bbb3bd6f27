-- What is asked of conditions and blocks holds of those behind; the answers of two halves are those of the whole.
use Rattle.std.proofs.Common.{◌≡◌, ◌∙◌, ℕ, zero, suc, ◌+◌, ◌-◌, ◌/◌, ◌<◌, ◌≤◌, Bool, true, false, List, [], ◌∷◌, ◌++◌, length, take, drop, refl, ap, sym, subst, arith, inl, inr, ◌⊎◌, append_assoc, append-nil}
use Rattle.std.specs.Prelude.{slice_get, Option, Some, None, IfSome, option_map, nat_le, cond, Result, Ok, Err, IfOk}
use Rattle.std.proofs.lemmas.Option.{slice_get_within}
use Rattle.std.proofs.lemmas.Bool.Decides.{nat_tests}
use Rattle.st_form.specs.declared.conditions.Condition.{Condition}
use Rattle.cert_text.specs.declared.reader.Block.{Block}
use Rattle.farkas_check.specs.Problem.{Setting}
use Rattle.search_verdicts.specs.declared.verdict.Verdict.{Verdict}
use Rattle.discharge.specs.declared.shares.Share.{Share}
use Rattle.discharge.specs.Dealt.{every, dealt, left_half, right_half, lesser_place}
use Rattle.block_validity.specs.First.{AreCheckable, Proves, ProveBefore, Fails, IsFirstFailing}
use Rattle.discharge.specs.Verdicts.{IsAnswer, AreAnswers}
use Rattle.search_laws.specs.Searchable.{AreSearchable}
use Rattle.discharge.proofs.Dealing.{InTurn, dealt_in_turn, first_there, between_there, every_all, every_within}

-- ---- what is asked
pub right-checkable : (m : ℕ) (cs : List Condition) (bs : List Block) → AreCheckable cs bs → AreCheckable (drop m cs) (drop m bs)
right-checkable zero cs bs h = h
right-checkable (suc m) [] [] h = tt
right-checkable (suc m) [] (b ∷ bs) h = absurd h
right-checkable (suc m) (c ∷ cs) [] h = absurd h
right-checkable (suc m) (c ∷ cs) (b ∷ bs) h = right-checkable m cs bs h.1

-- as many blocks as conditions
pub checkable-sizes : (cs : List Condition) (bs : List Block) → AreCheckable cs bs → length cs ≡ length bs
checkable-sizes [] [] h = refl
checkable-sizes [] (b ∷ bs) h = absurd h
checkable-sizes (c ∷ cs) [] h = absurd h
checkable-sizes (c ∷ cs) (b ∷ bs) h = ap suc (checkable-sizes cs bs h.1)

pub left-searchable : (n m : ℕ) (cs : List Condition) → AreSearchable n cs → AreSearchable n (take m cs)
left-searchable n zero cs h = tt
left-searchable n (suc m) [] h = tt
left-searchable n (suc m) (c ∷ cs) h = (h.0, left-searchable n m cs h.1)

pub right-searchable : (n m : ℕ) (cs : List Condition) → AreSearchable n cs → AreSearchable n (drop m cs)
right-searchable n zero cs h = h
right-searchable n (suc m) [] h = tt
right-searchable n (suc m) (c ∷ cs) h = right-searchable n m cs h.1

-- ---- verdicts
-- answers to conditions, with those to the conditions that are left, answer all
abbrev pub AnswerSoFar : Setting → List Condition → List Verdict → List Condition → Type 0
AnswerSoFar k cs vs left = (ws : List Verdict) → AreAnswers k left ws → AreAnswers k cs (vs ++ ws)

pub answers-more : (k : Setting) (cs left more : List Condition) (vs us : List Verdict) (c : Condition) (v : Verdict) → left ≡ c ∷ more → us ≡ vs ++ v ∷ [] → IsAnswer k c v
    → AnswerSoFar k cs vs left → AnswerSoFar k cs us more
answers-more k cs left more vs us c v e put a h ws g =
    subst (AreAnswers k cs) (sym (append_assoc vs (v ∷ []) ws) ∙ ap (λ (l : List Verdict). l ++ ws) (sym put))
    (h (v ∷ ws) (subst (λ (l : List Condition). AreAnswers k l (v ∷ ws)) (sym e) (a, g)))

pub answers-all : (k : Setting) (cs left : List Condition) (vs : List Verdict) → left ≡ [] → AnswerSoFar k cs vs left → AreAnswers k cs vs
answers-all k cs left vs e h = subst (AreAnswers k cs) (append-nil vs) (h [] (subst (λ (l : List Condition). AreAnswers k l []) (sym e) tt))

-- ---- the first failing place of a piece
-- a place so many places behind
abbrev pub place_behind : ℕ → Option ℕ → Option ℕ
place_behind i None = None
place_behind i (Some j) = Some (i + j)

-- that of what is left is that of the whole, so many places behind
abbrev pub Ahead : Setting → List Condition → List Block → ℕ → List Condition → List Block → Type 0
Ahead k cs bs i left left_blocks = (o : Option ℕ) → IsFirstFailing k left left_blocks o → IsFirstFailing k cs bs (place_behind i o)

pub ahead-begun : (k : Setting) (cs : List Condition) (bs : List Block) → Ahead k cs bs 0 cs bs
ahead-begun k cs bs None h = h
ahead-begun k cs bs (Some j) h = let same : j ≡ 0 + j = omega arith in subst (λ (i : ℕ). IsFirstFailing k cs bs (Some i)) same h

some-same : {A : Type 0} (x y : A) → Some x ≡ Some y → x ≡ y
some-same x y e = cc

before-next : (k : Setting) (c : Condition) (b : Block) (cs : List Condition) (bs : List Block) (n : ℕ) → Proves k c b → ProveBefore k cs bs n → ProveBefore k (c ∷ cs) (b ∷ bs) (suc n)
before-next k c b cs bs n p h zero d x l e f =
    subst (λ (y : Block). Proves k d y) (some-same b x f) (subst (λ (y : Condition). Proves k y b) (some-same c d e) p)
before-next k c b cs bs n p h (suc i) d x l e f = h i d x (omega (arith, l)) e f

failing-next : (k : Setting) (c : Condition) (b : Block) (cs : List Condition) (bs : List Block) (o : Option ℕ) → Proves k c b → IsFirstFailing k cs bs o
    → IsFirstFailing k (c ∷ cs) (b ∷ bs) (option_map suc o)
failing-next k c b cs bs None p h = before-next k c b cs bs (length cs) p h
failing-next k c b cs bs (Some i) p h = (
  before-next k c b cs bs i p h.0,
  record { condition = h.1.condition; block = h.1.block; condition_there = h.1.condition_there; block_there = h.1.block_there; refused = h.1.refused },
)

failing-here : (k : Setting) (c : Condition) (b : Block) (cs : List Condition) (bs : List Block) → (Proves k c b → ⊥) → IsFirstFailing k (c ∷ cs) (b ∷ bs) (Some 0)
failing-here k c b cs bs refused = (
  λ i d x l e f. absurd (omega (arith, l)),
  record { condition = c; block = b; condition_there = refl; block_there = refl; refused = refused },
)

module _ (k : Setting) (cs : List Condition) (bs : List Block) (i : ℕ) (left more : List Condition) (left_blocks more_blocks : List Block) (c : Condition) (b : Block)
    (e : left ≡ c ∷ more) (f : left_blocks ≡ b ∷ more_blocks) (h : Ahead k cs bs i left left_blocks) where
  from : (o : Option ℕ) → IsFirstFailing k (c ∷ more) (b ∷ more_blocks) o → IsFirstFailing k cs bs (place_behind i o)
  from o g = h o (subst (λ (l : List Block). IsFirstFailing k left l o) (sym f) (subst (λ (l : List Condition). IsFirstFailing k l (b ∷ more_blocks) o) (sym e) g))

  pub ahead-next : Proves k c b → Ahead k cs bs (i + 1) more more_blocks
  ahead-next p o g = subst (IsFirstFailing k cs bs) (moved o) (from (option_map suc o) (failing-next k c b more more_blocks o p g)) where
    moved : (o : Option ℕ) → place_behind i (option_map suc o) ≡ place_behind (i + 1) o
    moved None = refl
    moved (Some j) = let sum : i + suc j ≡ i + 1 + j = omega arith in ap Some sum

  pub ahead-fails : (Proves k c b → ⊥) → IsFirstFailing k cs bs (Some i)
  ahead-fails refused = let sum : i + 0 ≡ i = omega arith in subst (λ (j : ℕ). IsFirstFailing k cs bs (Some j)) sum (from (Some 0) (failing-here k c b more more_blocks refused))

pub ahead-done : (k : Setting) (cs : List Condition) (bs : List Block) (i : ℕ) (left : List Condition) (left_blocks : List Block) → left ≡ [] → Ahead k cs bs i left left_blocks → IsFirstFailing k cs bs None
ahead-done k cs bs i left left_blocks e h = h None (subst (λ (l : List Condition). IsFirstFailing k l left_blocks None) (sym e) (λ j c b l there. absurd (omega (arith, l))))

-- ---- the first failing place of two halves
pub failing-within : (k : Setting) (cs : List Condition) (bs : List Block) (j : ℕ) → IsFirstFailing k cs bs (Some j) → j < length cs
failing-within k cs bs j h = slice_get_within cs j h.1.condition h.1.condition_there

-- a place is one of the first half's or of the second's
abbrev Half : ℕ → Type 0
Half i = ((j : ℕ) × (i ≡ j + j)) ⊎ ((j : ℕ) × (i ≡ j + j + 1))

half : (i : ℕ) → Half i
half zero = inl (0, refl)
half (suc i) = next (half i) where
  next : Half i → Half (suc i)
  next (inl (j, e)) = inr (j, omega (arith, e))
  next (inr (j, e)) = inl (j + 1, omega (arith, e))

module _ (k : Setting) (all firsts betweens : List Condition) (blocks first_blocks between_blocks : List Block) (t : InTurn all firsts betweens) (u : InTurn blocks first_blocks between_blocks) where
  first-is : (j : ℕ) → slice_get all (j + j) ≡ slice_get firsts j
  first-is j = ap (λ (l : List Condition). slice_get l (j + j)) t.woven_is ∙ first_there firsts betweens j t.no_more t.no_fewer

  first-block : (j : ℕ) → slice_get blocks (j + j) ≡ slice_get first_blocks j
  first-block j = ap (λ (l : List Block). slice_get l (j + j)) u.woven_is ∙ first_there first_blocks between_blocks j u.no_more u.no_fewer

  between-is : (j : ℕ) → slice_get all (j + j + 1) ≡ slice_get betweens j
  between-is j = ap (λ (l : List Condition). slice_get l (j + j + 1)) t.woven_is ∙ between_there firsts betweens j t.no_more t.no_fewer

  between-block : (j : ℕ) → slice_get blocks (j + j + 1) ≡ slice_get between_blocks j
  between-block j = ap (λ (l : List Block). slice_get l (j + j + 1)) u.woven_is ∙ between_there first_blocks between_blocks j u.no_more u.no_fewer

  -- each half is proved as far as it reaches below a place
  before-both : (n a b : ℕ) → ((j : ℕ) → j < length firsts → j + j < n → j < a) → ((j : ℕ) → j < length betweens → j + j + 1 < n → j < b)
      → ProveBefore k firsts first_blocks a → ProveBefore k betweens between_blocks b → ProveBefore k all blocks n
  before-both n a b few fewer h g i c x l e f = by (half i) where
    by : Half i → Proves k c x
    by (inl (j, at)) =
        let there = sym (first-is j) ∙ ap (slice_get all) (sym at) ∙ e in
        h j c x (few j (slice_get_within firsts j c there) (omega (arith, l, at))) there (sym (first-block j) ∙ ap (slice_get blocks) (sym at) ∙ f)
    by (inr (j, at)) =
        let there = sym (between-is j) ∙ ap (slice_get all) (sym at) ∙ e in
        g j c x (fewer j (slice_get_within betweens j c there) (omega (arith, l, at))) there (sym (between-block j) ∙ ap (slice_get blocks) (sym at) ∙ f)

  fails-first : (j : ℕ) → Fails k firsts first_blocks j → Fails k all blocks (j + j)
  fails-first j h = record { condition = h.condition; block = h.block; condition_there = first-is j ∙ h.condition_there; block_there = first-block j ∙ h.block_there; refused = h.refused }

  fails-between : (j : ℕ) → Fails k betweens between_blocks j → Fails k all blocks (j + j + 1)
  fails-between j h = record { condition = h.condition; block = h.block; condition_there = between-is j ∙ h.condition_there; block_there = between-block j ∙ h.block_there; refused = h.refused }

  lesser : (i j : ℕ) → IsFirstFailing k firsts first_blocks (Some i) → IsFirstFailing k betweens between_blocks (Some j) → IsFirstFailing k all blocks (lesser_place (Some i) (Some j))
  lesser i j h g = by (nat_le i j) refl where
    by : (c : Bool) → nat_le i j ≡ c → IsFirstFailing k all blocks (cond c (Some (i + i)) (Some (j + j + 1)))
    by true e =
        let less : i ≤ j = grind (arith, nat_tests) in
        (before-both (i + i) i j (λ m s l. omega (arith, l)) (λ m s l. omega (arith, l, less)) h.0 g.0, fails-first i h.1)
    by false e =
        let less : j < i = grind (arith, nat_tests) in
        (before-both (j + j + 1) i j (λ m s l. omega (arith, l, less)) (λ m s l. omega (arith, l)) h.0 g.0, fails-between j g.1)

  pub failing-both : (o p : Option ℕ) → IsFirstFailing k firsts first_blocks o → IsFirstFailing k betweens between_blocks p → IsFirstFailing k all blocks (lesser_place o p)
  failing-both None None h g = before-both (length all) (length firsts) (length betweens) (λ j s l. s) (λ j s l. s) h g
  failing-both (Some i) None h g = (before-both (i + i) i (length betweens) (λ j s l. omega (arith, l)) (λ j s l. s) h.0 g, fails-first i h.1)
  failing-both None (Some i) h g = (before-both (i + i + 1) (length firsts) i (λ j s l. s) (λ j s l. omega (arith, l)) h g.0, fails-between i g.1)
  failing-both (Some i) (Some j) h g = lesser i j h g

pub failing-dealt : (k : Setting) (share : Share) (cs : List Condition) (bs : List Block) (o p : Option ℕ) → IsFirstFailing k (dealt (right_half share) cs) (dealt (right_half share) bs) o
    → IsFirstFailing k (dealt (left_half share) (drop share.stride cs)) (dealt (left_half share) (drop share.stride bs)) p → IsFirstFailing k (dealt share cs) (dealt share bs) (lesser_place o p)
failing-dealt k share cs bs =
    failing-both k (dealt share cs) (dealt (right_half share) cs) (dealt (left_half share) (drop share.stride cs)) (dealt share bs) (dealt (right_half share) bs)
    (dealt (left_half share) (drop share.stride bs)) (dealt_in_turn share cs) (dealt_in_turn share bs)

-- places of halves are within the whole
pub first-fits : (k : Setting) (share : Share) (cs : List Condition) (bs : List Block) (o : Option ℕ) → IsFirstFailing k (dealt (right_half share) cs) bs o → IfSome o (λ i. i + i < share.count)
first-fits k share cs bs None h = tt
first-fits k share cs bs (Some i) h =
    omega (arith, failing-within k (dealt (right_half share) cs) bs i h, every_within (share.stride + share.stride) (share.count - share.count / 2) cs)

pub between-fits : (k : Setting) (share : Share) (cs : List Condition) (bs : List Block) (o : Option ℕ) → IsFirstFailing k (dealt (left_half share) cs) bs o → IfSome o (λ j. j + j + 1 < share.count)
between-fits k share cs bs None h = tt
between-fits k share cs bs (Some j) h =
    omega (arith, failing-within k (dealt (left_half share) cs) bs j h, every_within (share.stride + share.stride) (share.count / 2) cs)

-- ---- one share of all
pub first-of-all : (k : Setting) (cs : List Condition) (bs : List Block) → AreCheckable cs bs → (o : Option ℕ) → IsFirstFailing k (every 1 (length cs) cs) (every 1 (length cs) bs) o → IsFirstFailing k cs bs o
first-of-all k cs bs asked o h =
    let blocks : every 1 (length cs) bs ≡ bs = ap (λ (n : ℕ). every 1 n bs) (checkable-sizes cs bs asked) ∙ every_all bs in
    subst (λ (l : List Block). IsFirstFailing k cs l o) blocks (subst (λ (l : List Condition). IsFirstFailing k l (every 1 (length cs) bs) o) (every_all cs) h)

-- what is so of a result is so of its value
pub told : {A E : Type 0} (r : Result A E) (P : A → Type 0) (x : A) → r ≡ Ok x → IfOk r P → P x
told r P x e h = rw e at h

pub if-ok : {A E : Type 0} (r : Result A E) (P Q : A → Type 0) → ((x : A) → P x → Q x) → IfOk r P → IfOk r Q
if-ok (Ok x) P Q f h = f x h
if-ok (Err x) P Q f h = h
