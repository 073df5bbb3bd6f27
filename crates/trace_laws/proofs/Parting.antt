-- Steps by statements of a part of the text, no two of one name.
use Rattle.std.proofs.Common.{◌≡◌, Bool, true, false, List, [], ◌∷◌, ◌++◌, map, sym, ap, ◌∙◌, subst}
use Rattle.std.specs.Prelude.{if◌then◌else◌}
use Rattle.st_form.specs.declared.conditions.Part.{Part}
use Rattle.st_form.specs.declared.conditions.TransName.{TransName}
use Rattle.st_form.specs.declared.conditions.TransName.TheVariants.{Step}
use Rattle.st_program.specs.Tree.{occurrence}
use Rattle.st_program.specs.Member.{Member, here, there}
use Rattle.st_program.specs.Spots.{Spot}
use Rattle.spl_semantics.specs.Going.{Act, around}
use Rattle.spl_semantics.proofs.Members.{member_none, member_left, member_right, member_cases, member_map}
use Rattle.basic_laws.proofs.Types.{either}
use Rattle.trace_laws.proofs.Numbers.{Apart}

-- the name is one of a statement of a part of the text
pub record NameIn (xs : List Spot) (name : TransName) : Type 0 where
  pub spot : Spot
  pub is_in : Member spot xs
  pub part : Part
  pub name_is : name ≡ Step (occurrence spot.stmt) part

-- steps by statements of a part of the text, no two of one name
pub record Separate {X : Type 0} (xs : List Spot) (acts : List (Act X)) : Type 0 where
  pub named : (a : Act X) → Member a acts → NameIn xs a.name
  pub single : (a b : Act X) → Member a acts → Member b acts → a.name ≡ b.name → a ≡ b

pub nothing : {X : Type 0} (xs : List Spot) → Separate {X = X} xs []
nothing xs = record { named = λ a m. member_none m; single = λ a b m i e. member_none m }

pub of_one : {A : Type 0} {a b : A} → Member a (b ∷ []) → a ≡ b
of_one (here e) = e
of_one (there m) = member_none m

pub one : {X : Type 0} (xs : List Spot) (y : Spot) → Member y xs → (part : Part) (a : Act X) → a.name ≡ Step (occurrence y.stmt) part → Separate xs (a ∷ [])
one xs y is part a e = record {
  named = λ b m. record { spot = y; is_in = is; part = part; name_is = ap (λ z. z.name) (of_one m) ∙ e };
  single = λ b c m i q. of_one m ∙ sym (of_one i);
}

pub by_test : {X : Type 0} (xs : List Spot) (t : Bool) (acts others : List (Act X)) → Separate xs acts → Separate xs others → Separate xs (if t then acts else others)
by_test xs true acts others f g = f
by_test xs false acts others f g = g

-- seen from around, and as a part of more text
pub around_all : {X Y : Type 0} (xs : List Spot) (f : X → Y) (acts : List (Act X)) → Separate xs acts → Separate xs (map (around f) acts)
around_all xs f acts h = record {
  named = λ a m. let r = member_map (around f) a acts m in subst (λ z. NameIn xs z.name) (sym r.2) (h.named r.0 r.1);
  single = λ a b m i e.
      let r = member_map (around f) a acts m in
      let q = member_map (around f) b acts i in
      let same : r.0.name ≡ q.0.name = sym (ap (λ z. z.name) r.2) ∙ e ∙ ap (λ z. z.name) q.2 in
      r.2 ∙ ap (around f) (h.single r.0 q.0 r.1 q.1 same) ∙ sym q.2;
}

pub widened : {X : Type 0} (xs ys : List Spot) (acts : List (Act X)) → ((y : Spot) → Member y xs → Member y ys) → Separate xs acts → Separate ys acts
widened xs ys acts sub h = record {
  named = λ a m. let n = h.named a m in record { spot = n.spot; is_in = sub n.spot n.is_in; part = n.part; name_is = n.name_is };
  single = h.single;
}

-- steps of parts of the text that have no statement in common
apart_names : (xs ys : List Spot) (m n : TransName) → Apart xs ys → NameIn xs m → NameIn ys n → m ≡ n → ⊥
apart_names xs ys m n apart a b e =
    let f : Step (occurrence a.spot.stmt) a.part ≡ Step (occurrence b.spot.stmt) b.part = sym a.name_is ∙ e ∙ b.name_is in
    let g : occurrence a.spot.stmt ≡ occurrence b.spot.stmt = cc in
    apart a.spot b.spot a.is_in b.is_in g

pub both : {X : Type 0} (xs ys : List Spot) (acts others : List (Act X)) → Apart xs ys → Separate xs acts → Separate ys others → Separate (xs ++ ys) (acts ++ others)
both xs ys acts others apart f g = record {
  named = λ a m. either (member_cases acts m)
      (λ m. let n = f.named a m in record { spot = n.spot; is_in = member_left ys n.is_in; part = n.part; name_is = n.name_is })
      (λ m. let n = g.named a m in record { spot = n.spot; is_in = member_right xs n.is_in; part = n.part; name_is = n.name_is });
  single = λ a b m i e. either (member_cases acts m)
      (λ m. either (member_cases acts i) (λ i. f.single a b m i e) (λ i. absurd (apart_names xs ys a.name b.name apart (f.named a m) (g.named b i) e)))
      (λ m. either (member_cases acts i) (λ i. absurd (apart_names xs ys b.name a.name apart (f.named b i) (g.named a m) (sym e))) (λ i. g.single a b m i e));
}
