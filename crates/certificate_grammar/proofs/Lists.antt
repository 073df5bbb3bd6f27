-- Items with commas between them: as they are written, and as the grammar has them.
use Rattle.std.proofs.Common.{◌≡◌, List, [], ◌∷◌, ◌++◌, map, sym, ap, ◌∙◌, append_assoc}
use Rattle.cert_text.specs.declared.scan.Token.{Token}
use Rattle.cert_text.specs.declared.scan.Token.TheVariants.{Sign}
use Rattle.certificate_grammar.specs.Grammar.{Listed, one, more}

abbrev pub AllGood : {X : Type 0} → (X → Type 0) → List X → Type 0
AllGood P [] = Unit {0}
AllGood P (x ∷ xs) = P x × AllGood P xs

-- a way to write items: their tokens in front of others, and what an item means; a good one is within its limits
pub record Way (X A : Type 0) : Type 1 where
  pub tokens : X → List Token → List Token
  pub listed : List X → List Token → List Token
  pub view : X → A
  pub Good : X → Type 0
  pub none : (k : List Token) → listed [] k ≡ k
  pub some : (x : X) (xs : List X) (k : List Token) → listed (x ∷ xs) k ≡ Sign 44 ∷ tokens x (listed xs k)

-- an item as it is written
pub record Wrote {X A : Type 0} (w : Way X A) (ts : List Token) (a : A) : Type 0 where
  pub item : X
  pub spelled : (k : List Token) → w.tokens item k ≡ ts ++ k
  pub means : w.view item ≡ a
  pub good : w.Good item

pub record Stands {X A : Type 0} (w : Way X A) (is_item : List Token → A → Type 0) (x : X) : Type 0 where
  pub ts : List Token
  pub spelled : (k : List Token) → w.tokens x k ≡ ts ++ k
  pub is : is_item ts (w.view x)

-- items as they are written
pub record WroteAll {X A : Type 0} (w : Way X A) (ts : List Token) (vs : List A) : Type 0 where
  pub item : X
  pub items : List X
  pub spelled : (k : List Token) → w.tokens item (w.listed items k) ≡ ts ++ k
  pub means : map w.view (item ∷ items) ≡ vs
  pub good : AllGood w.Good (item ∷ items)

pub record StandAll {X A : Type 0} (w : Way X A) (is_item : List Token → A → Type 0) (x : X) (xs : List X) : Type 0 where
  pub ts : List Token
  pub spelled : (k : List Token) → w.tokens x (w.listed xs k) ≡ ts ++ k
  pub is : Listed is_item ts (map w.view (x ∷ xs))

module _ {X A : Type 0} (w : Way X A) (is_item : List Token → A → Type 0) where
  pub all_written : (wrote : (ts : List Token) (a : A) → is_item ts a → Wrote w ts a) (ts : List Token) (vs : List A) → Listed is_item ts vs → WroteAll w ts vs
  all_written wrote ts vs (one {x = a} h) =
      let r = wrote ts a h in
      record {
        item = r.item;
        items = [];
        spelled = λ k. ap (w.tokens r.item) (w.none k) ∙ r.spelled k;
        means = ap (λ b. b ∷ []) r.means;
        good = (r.good, tt);
      }
  all_written wrote ts vs (more {a} {b} {x} {xs} h hs) =
      let r = wrote a x h in
      let rs = all_written wrote b xs hs in
      record {
        item = r.item;
        items = rs.item ∷ rs.items;
        spelled = λ k. (
            ap (w.tokens r.item) (w.some rs.item rs.items k) ∙ ap (λ l. w.tokens r.item (Sign 44 ∷ l)) (rs.spelled k) ∙ r.spelled (Sign 44 ∷ (b ++ k))
            ∙ sym (append_assoc a (Sign 44 ∷ b) k)
            );
        means = ap (λ c. c ∷ map w.view (rs.item ∷ rs.items)) r.means ∙ ap (λ cs. x ∷ cs) rs.means;
        good = (r.good, rs.good);
      }

  pub all_stand : (stands : (x : X) → w.Good x → Stands w is_item x) (x : X) (xs : List X) → AllGood w.Good (x ∷ xs) → StandAll w is_item x xs
  all_stand stands x [] g =
      let r = stands x g.0 in
      record { ts = r.ts; spelled = λ k. ap (w.tokens x) (w.none k) ∙ r.spelled k; is = one r.is }
  all_stand stands x (y ∷ ys) g =
      let r = stands x g.0 in
      let rs = all_stand stands y ys g.1 in
      record {
        ts = r.ts ++ Sign 44 ∷ rs.ts;
        spelled = λ k. (
            ap (w.tokens x) (w.some y ys k) ∙ ap (λ l. w.tokens x (Sign 44 ∷ l)) (rs.spelled k) ∙ r.spelled (Sign 44 ∷ (rs.ts ++ k))
            ∙ sym (append_assoc r.ts (Sign 44 ∷ rs.ts) k)
            );
        is = more r.is rs.is;
      }
