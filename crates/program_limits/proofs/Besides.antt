-- Readers within the limits beside readers without them: what is counted in what was read is counted in the order of the text.
use Rattle.std.proofs.Common.{◌≡◌, ℕ, zero, suc, Bool, true, false, cond, List, [], ◌∷◌, ◌++◌, Option, Some, None, Ok, Err, refl, sym, ap, subst, ◌∙◌, append-nil, append_assoc}
use Rattle.st_tokens.specs.Stream.{Stream, behind}
use Rattle.st_reading.specs.declared.mark.Mark.{Mark}
use Rattle.st_reading.specs.declared.sign.Sign.{Sign}
use Rattle.st_reading.specs.Reading.{Stop, other, Read, ◌>>=◌, ahead, place_of, size, expected, gives, then_reads, Turn, leaves, goes, turned, on_operator, chain, only, Carried, counting, linked}
use Rattle.st_reading.specs.Faults.{Passed}
use Rattle.st_reading.proofs.Soundness.{split, values}
use Rattle.expression_parser.specs.Reading.{Reader}
use Rattle.spl_parser.specs.Programs.{Limits, Totals}
use Rattle.program_limits.specs.Order.{all_counts}
use Rattle.program_limits.proofs.Walking.{step, Meets, meets_value, meets_test, meets_behind}

pub all_append : {A : Type 0} (counts : A → List Passed) (xs : List A) (y : A) → all_counts counts (xs ++ y ∷ []) ≡ all_counts counts xs ++ counts y
all_append counts [] y = append-nil (counts y)
all_append counts (x ∷ xs) y = ap (λ z. counts x ++ z) (all_append counts xs y) ∙ sym (append_assoc (counts x) (all_counts counts xs) (counts y))

module _ (limit : Limits) where
  -- What was counted behind `before`, up to `after`, is met.
  pub record Beside {A : Type 0} (o : Read Passed A) (x : A) (rest : Stream) (t : Totals) (before after : List Passed) (u : Totals) : Type 0 where
    pub counts : List Passed
    pub is : after ≡ before ++ counts
    pub meets : Meets limit o x rest counts t u

  -- `ev` is what is counted up to a value's end, `st` how many there are then.
  abbrev pub BesideAt : {A : Type 0} → Totals → List Passed → (A → List Passed) → (A → Totals) → Read Passed A → Read Passed A → Type 0
  BesideAt {A} t before ev st o p = (x : A) (rest : Stream) → p ≡ Ok (x, rest) → Beside o x rest t before (ev x) (st x)

  abbrev pub Besides : {A : Type 0} → Totals → List Passed → (A → List Passed) → (A → Totals) → Reader A → Reader A → Type 0
  Besides t before ev st r p = (s : Stream) → BesideAt t before ev st (r s) (p s)

  pub beside_bind : {A B : Type 0} (t : Totals) (before : List Passed) (ev : A → List Passed) (st : A → Totals) (ev2 : B → List Passed) (st2 : B → Totals) (r p : Reader A) (q w : A → Reader B)
      → Besides t before ev st r p → ((x : A) → Besides (st x) (ev x) ev2 st2 (q x) (w x)) → Besides t before ev2 st2 (then_reads r q) (then_reads p w)
  beside_bind t before ev st ev2 st2 r p q w first second s y rest h =
      let k = split p w s y rest h in
      let a = first s k.value k.middle k.first in
      let b = second k.value k.middle y rest k.second in
      record {
        counts = a.counts ++ b.counts;
        is = b.is ∙ ap (λ z. z ++ b.counts) a.is ∙ append_assoc before a.counts b.counts;
        meets = meets_behind limit (r s) q k.value k.middle y rest a.counts b.counts t (st k.value) (st2 y) a.meets b.meets;
      }

  -- nothing is counted
  pub beside_value : {A : Type 0} (t : Totals) (before : List Passed) (ev : A → List Passed) (st : A → Totals) (y : A) (m : Stream) → before ≡ ev y → t ≡ st y → BesideAt t before ev st (Ok (y, m)) (Ok (y, m))
  beside_value {A} t before ev st y m e g x rest h =
      let v = values {X = Passed} {A = A} (Ok (y, m)) y x m rest refl h in
      record { counts = []; is = ap ev (sym v.0) ∙ sym e ∙ sym (append-nil before); meets = meets_value limit y x m rest t (st x) v.0 v.1 (g ∙ ap st v.0) }

  -- one is counted, if there may be one more
  pub beside_one : {A : Type 0} (t u : Totals) (before : List Passed) (ev : A → List Passed) (st : A → Totals) (may : Bool) (c : Passed) → step limit t c ≡ cond may (Ok u) (Err c) → (y : A) (m : Stream) → ev y ≡ before ++ c ∷ [] → u ≡ st y
      → BesideAt t before ev st (cond may (Ok (y, m)) (Err (other c))) (Ok (y, m))
  beside_one {A} t u before ev st may c can y m e g x rest h =
      let v = values {X = Passed} {A = A} (Ok (y, m)) y x m rest refl h in
      record { counts = c ∷ []; is = ap ev (sym v.0) ∙ e; meets = meets_test limit t u (st x) c may can (Ok (y, m)) x rest [] (meets_value limit y x m rest u (st x) v.0 v.1 (g ∙ ap st v.0)) }

  pub beside_gives : {A : Type 0} (t : Totals) (before : List Passed) (ev : A → List Passed) (st : A → Totals) (y : A) → before ≡ ev y → t ≡ st y → Besides t before ev st (gives y) (gives y)
  beside_gives t before ev st y e g s = beside_value t before ev st y s e g

  -- a reader that counts nothing
  pub beside_same : {A : Type 0} (t : Totals) (before : List Passed) (r : Reader A) → Besides t before (λ x. before) (λ x. t) r r
  beside_same {A} t before r s x rest h = subst (λ (o : Read Passed A). Beside o x rest t before before t) (sym h) (beside_value t before (λ x. before) (λ x. t) x rest refl refl x rest refl)

  -- a reader of values in which nothing is counted
  pub beside_known : {A : Type 0} (t : Totals) (before : List Passed) (ev : A → List Passed) (st : A → Totals) (r : Reader A) → ((s : Stream) (x : A) (rest : Stream) → r s ≡ Ok (x, rest) → (before ≡ ev x) × (t ≡ st x)) → Besides t before ev st r r
  beside_known {A} t before ev st r known s x rest h =
      let k = known s x rest h in
      record { counts = []; is = sym k.0 ∙ sym (append-nil before); meets = subst (λ (o : Read Passed A). Meets limit o x rest [] t (st x)) (sym h) (meets_value limit x x rest rest t (st x) refl refl k.1) }

  -- the same, by other names
  pub beside_equal : {A : Type 0} (t : Totals) (before : List Passed) (r p : Reader A) → r ≡ p → Besides t before (λ x. before) (λ x. t) r p
  beside_equal {A} t before r p e = subst (λ (w : Reader A). Besides t before (λ x. before) (λ x. t) r w) e (beside_same t before r)

  -- behind one that counts nothing
  pub beside_behind : {A B : Type 0} (t : Totals) (before : List Passed) (ev : B → List Passed) (st : B → Totals) (r : Reader A) (q w : A → Reader B) → ((x : A) → Besides t before ev st (q x) (w x)) → Besides t before ev st (then_reads r q) (then_reads r w)
  beside_behind t before ev st r q w h = beside_bind t before (λ x. before) (λ x. t) ev st r r q w (beside_same t before r) h

  pub beside_fault : {A : Type 0} (t : Totals) (before : List Passed) (ev : A → List Passed) (st : A → Totals) (o : Read Passed A) (f : Stop Passed) → BesideAt t before ev st o (Err f)
  beside_fault t before ev st o f x rest h = cc

  pub beside_cond : {A : Type 0} (t : Totals) (before : List Passed) (ev : A → List Passed) (st : A → Totals) (b : Bool) (o o2 p p2 : Read Passed A) → BesideAt t before ev st o p → BesideAt t before ev st o2 p2 → BesideAt t before ev st (cond b o o2) (cond b p p2)
  beside_cond t before ev st true o o2 p p2 g h = g
  beside_cond t before ev st false o o2 p p2 g h = h

  pub beside_operator : {O A : Type 0} (t : Totals) (before : List Passed) (ev : A → List Passed) (st : A → Totals) (c : Option O) (o p : Read Passed A) (go go2 : O → Read Passed A) → BesideAt t before ev st o p → ((x : O) → BesideAt t before ev st (go x) (go2 x))
      → BesideAt t before ev st (on_operator c o go) (on_operator c p go2)
  beside_operator t before ev st None o p go go2 g h = g
  beside_operator t before ev st (Some x) o p go go2 g h = h x

  -- a value seen by f, of which the same is counted
  pub beside_map : {A B : Type 0} (t : Totals) (before : List Passed) (ev : A → List Passed) (st : A → Totals) (ev2 : B → List Passed) (st2 : B → Totals) (f : A → B) (r p : Reader A) → ((x : A) → ev x ≡ ev2 (f x)) → ((x : A) → st x ≡ st2 (f x)) → Besides t before ev st r p
      → Besides t before ev2 st2 (then_reads r (λ x. gives (f x))) (then_reads p (λ x. gives (f x)))
  beside_map t before ev st ev2 st2 f r p e g h = beside_bind t before ev st ev2 st2 r p (λ x. gives (f x)) (λ x. gives (f x)) h (λ x. beside_gives (st x) (ev x) ev2 st2 (f x) (e x) (g x))

  -- the same, said in other words
  pub beside_as : {A : Type 0} (t : Totals) (before : List Passed) (ev ev2 : A → List Passed) (st : A → Totals) (o p : Read Passed A) → ((x : A) → ev x ≡ ev2 x) → BesideAt t before ev st o p → BesideAt t before ev2 st o p
  beside_as t before ev ev2 st o p e h x rest g = let b = h x rest g in record { counts = b.counts; is = sym (e x) ∙ b.is; meets = b.meets }

  -- where a turn leads
  abbrev pub led : {B S C : Type 0} → (B → C) → (S → C) → Turn B S → C
  led at_end on (leaves b) = at_end b
  led at_end on (goes x) = on x

  beside_turned : {B S : Type 0} (ev : S → List Passed) (st : S → Totals) (ev2 : B → List Passed) (st2 : B → Totals) (next next2 : S → Reader B) → ((x : S) → Besides (st x) (ev x) ev2 st2 (next x) (next2 x))
      → (y : Turn B S) → Besides (led st2 st y) (led ev2 ev y) ev2 st2 (turned next y) (turned next2 y)
  beside_turned ev st ev2 st2 next next2 h (leaves b) s = beside_value (st2 b) (ev2 b) ev2 st2 b s refl refl
  beside_turned ev st ev2 st2 next next2 h (goes x) s = h x s

  module _ {O B S : Type 0} (op : Sign → Option O) (turn turn2 : O → ℕ → S → Reader (Turn B S)) (finish finish2 : S → Reader B) (ev : S → List Passed) (st : S → Totals) (ev2 : B → List Passed) (st2 : B → Totals)
      (at_turn : (o : O) (place : ℕ) (x : S) → Besides (st x) (ev x) (led ev2 ev) (led st2 st) (turn o place x) (turn2 o place x)) (at_finish : (x : S) → Besides (st x) (ev x) ev2 st2 (finish x) (finish2 x)) where
    pub beside_chain : (k : ℕ) (x : S) → Besides (st x) (ev x) ev2 st2 (chain op turn finish k x) (chain op turn2 finish2 k x)
    unfolding chain
    beside_chain zero x s = at_finish x s
    beside_chain (suc k) x s =
        beside_operator (st x) (ev x) ev2 st2 (op (ahead s)) (finish x s) (finish2 x s) (λ o. turn o (place_of s) x (behind s) >>= λ y. turned (λ z m. chain op turn finish k z m) y.0 y.1) (λ o. turn2 o (place_of s) x (behind s) >>= λ y. turned (λ z m. chain op turn2 finish2 k z m) y.0 y.1) (at_finish x s)
        (λ o. beside_bind (st x) (ev x) (led ev2 ev) (led st2 st) ev2 st2 (turn o (place_of s) x) (turn2 o (place_of s) x) (turned (λ z m. chain op turn finish k z m)) (turned (λ z m. chain op turn2 finish2 k z m)) (at_turn o (place_of s) x)
        (beside_turned ev st ev2 st2 (λ z m. chain op turn finish k z m) (λ z m. chain op turn2 finish2 k z m) (λ y. beside_chain k y)) (behind s))

  -- LISTS, whose items carry on how many there are
  module _ {N A : Type 0} (counts : A → List Passed) (st : N → Totals) where
    -- an item, whatever was counted before
    abbrev pub ItemBesides : (N → Reader (Carried N A)) → (N → Reader (Carried N A)) → Type 0
    ItemBesides r p = (n : N) (before : List Passed) → Besides (st n) before (λ x. before ++ counts x.0) (λ x. st x.1) (r n) (p n)

    module _ {O : Type 0} (r p : O → N → Reader (Carried N A)) (items : (o : O) → ItemBesides (r o) (p o)) (before : List Passed) where
      link_turn : (o : O) (place : ℕ) (xs : Carried N (List A))
          → Besides (st xs.1) (before ++ all_counts counts xs.0) (led {B = Carried N (List A)} (λ ys. before ++ all_counts counts ys.0) (λ ys. before ++ all_counts counts ys.0)) (led (λ ys. st ys.1) (λ ys. st ys.1)) (counting r o place xs) (counting p o place xs)
      link_turn o place xs =
          beside_map (st xs.1) (before ++ all_counts counts xs.0) (λ x. (before ++ all_counts counts xs.0) ++ counts x.0) (λ x. st x.1) (led {B = Carried N (List A)} (λ ys. before ++ all_counts counts ys.0) (λ ys. before ++ all_counts counts ys.0)) (led (λ ys. st ys.1) (λ ys. st ys.1)) (λ x. goes (xs.0 ++ x.0 ∷ [], x.1)) (r o xs.1) (p o xs.1)
          (λ x. append_assoc before (all_counts counts xs.0) (counts x.0) ∙ ap (λ z. before ++ z) (sym (all_append counts xs.0 x.0))) (λ x. refl) (items o xs.1 (before ++ all_counts counts xs.0))

      pub beside_counting : (op : Sign → Option O) (k : ℕ) (xs : Carried N (List A)) → Besides (st xs.1) (before ++ all_counts counts xs.0) (λ ys. before ++ all_counts counts ys.0) (λ ys. st ys.1) (chain op (counting r) gives k xs) (chain op (counting p) gives k xs)
      beside_counting op k xs =
          beside_chain op (counting r) (counting p) gives gives (λ ys. before ++ all_counts counts ys.0) (λ ys. st ys.1) (λ ys. before ++ all_counts counts ys.0) (λ ys. st ys.1) link_turn
          (λ ys. beside_gives (st ys.1) (before ++ all_counts counts ys.0) (λ ys. before ++ all_counts counts ys.0) (λ ys. st ys.1) ys refl refl) k xs

    pub beside_linked : (mark : Mark) (r p : N → Reader (Carried N A)) → ItemBesides r p → (before : List Passed) (xs : Carried N (List A)) → Besides (st xs.1) (before ++ all_counts counts xs.0) (λ ys. before ++ all_counts counts ys.0) (λ ys. st ys.1) (linked mark r xs) (linked mark p xs)
    beside_linked mark r p items before xs s = beside_counting (λ (o : Unit {0}). r) (λ o. p) (λ o. items) before (only mark) (size s) xs s

    -- one item, and further ones
    pub beside_row : (mark : Mark) (r p : N → Reader (Carried N A)) → ItemBesides r p → (n : N) (before : List Passed) → Besides (st n) before (λ ys. before ++ all_counts counts ys.0) (λ ys. st ys.1) (then_reads (r n) (λ x. linked mark r (x.0 ∷ [], x.1))) (then_reads (p n) (λ x. linked mark p (x.0 ∷ [], x.1)))
    beside_row mark r p items n before =
        beside_bind (st n) before (λ x. before ++ all_counts counts (x.0 ∷ [])) (λ x. st x.1) (λ ys. before ++ all_counts counts ys.0) (λ ys. st ys.1) (r n) (p n) (λ x. linked mark r (x.0 ∷ [], x.1)) (λ x. linked mark p (x.0 ∷ [], x.1))
        (λ s. beside_as (st n) before (λ x. before ++ counts x.0) (λ x. before ++ all_counts counts (x.0 ∷ [])) (λ x. st x.1) (r n s) (p n s) (λ x. ap (λ z. before ++ z) (sym (append-nil (counts x.0)))) (items n before s))
        (λ x. beside_linked mark r p items before (x.0 ∷ [], x.1))

    two : (before : List Passed) (x y : A) → (before ++ counts x) ++ counts y ≡ before ++ all_counts counts (x ∷ y ∷ [])
    two before x y = append_assoc before (counts x) (counts y) ∙ ap (λ z. before ++ (counts x ++ z)) (sym (append-nil (counts y)))

    -- two items, and further ones
    pub beside_row2 : (mark : Mark) (r p : N → Reader (Carried N A)) → ItemBesides r p → (n : N) (before : List Passed)
        → Besides (st n) before (λ ys. before ++ all_counts counts ys.0) (λ ys. st ys.1) (then_reads (r n) (λ x. then_reads (expected mark) (λ m. then_reads (r x.1) (λ y. linked mark r (x.0 ∷ y.0 ∷ [], y.1))))) (then_reads (p n) (λ x. then_reads (expected mark) (λ m. then_reads (p x.1) (λ y. linked mark p (x.0 ∷ y.0 ∷ [], y.1)))))
    beside_row2 mark r p items n before =
        beside_bind (st n) before (λ x. before ++ counts x.0) (λ x. st x.1) (λ ys. before ++ all_counts counts ys.0) (λ ys. st ys.1) (r n) (p n) (λ x. then_reads (expected mark) (λ m. then_reads (r x.1) (λ y. linked mark r (x.0 ∷ y.0 ∷ [], y.1)))) (λ x. then_reads (expected mark) (λ m. then_reads (p x.1) (λ y. linked mark p (x.0 ∷ y.0 ∷ [], y.1)))) (items n before)
        (λ x. beside_behind (st x.1) (before ++ counts x.0) (λ ys. before ++ all_counts counts ys.0) (λ ys. st ys.1) (expected mark) (λ m. then_reads (r x.1) (λ y. linked mark r (x.0 ∷ y.0 ∷ [], y.1))) (λ m. then_reads (p x.1) (λ y. linked mark p (x.0 ∷ y.0 ∷ [], y.1)))
        (λ m. beside_bind (st x.1) (before ++ counts x.0) (λ y. before ++ all_counts counts (x.0 ∷ y.0 ∷ [])) (λ y. st y.1) (λ ys. before ++ all_counts counts ys.0) (λ ys. st ys.1) (r x.1) (p x.1) (λ y. linked mark r (x.0 ∷ y.0 ∷ [], y.1)) (λ y. linked mark p (x.0 ∷ y.0 ∷ [], y.1))
        (λ s. beside_as (st x.1) (before ++ counts x.0) (λ y. (before ++ counts x.0) ++ counts y.0) (λ y. before ++ all_counts counts (x.0 ∷ y.0 ∷ [])) (λ y. st y.1) (r x.1 s) (p x.1 s) (λ y. two before x.0 y.0) (items x.1 (before ++ counts x.0) s))
        (λ y. beside_linked mark r p items before (x.0 ∷ y.0 ∷ [], y.1))))
