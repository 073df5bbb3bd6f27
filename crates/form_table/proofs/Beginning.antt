-- The list of a condition's conjuncts is what its formulas' simplified parts give, gathered at once.
use Rattle.std.proofs.Common.{◌≡◌, ℕ, ◌+◌, ◌<◌, ◌≤◌, Bool, true, false, List, [], ◌∷◌, ◌++◌, length, map, drop, get_or, refl, ap, subst, ◌∙◌, sym, Option, Some, None, Vec, arith}
use Rattle.std.specs.Prelude.{option_and_then}
use Rattle.std.specs.Option.{option_map}
use Rattle.std.specs.Global.{Global}
use Rattle.std.proofs.lemmas.List.{drop_all, drop_more}
use Rattle.st_linear.specs.Linear.{Linear}
use Rattle.st_form.specs.Formula.{Formula, Formulas, truth_value, row, equal, bool_var, at, negation, every, some, none, more, formulas}
use Rattle.st_form.specs.Plain.{plain, plain_list}
use Rattle.st_form.specs.Shared.{case_of, together}
use Rattle.st_form.specs.Simple.{Decided, nothing, append, parts, gathered, joined_parts, simple, simples, IsModest, AreModest}
use Rattle.st_form.specs.declared.formulas.Form.{Form}
use Rattle.st_form.proofs.Simples.{append-none}
use Rattle.search_laws.specs.Forms.{AllForms, AllFormsOf}
use Rattle.search_laws.proofs.Shapes.{Keeps, IsPart, IfParts, gathered-parts, simples-whole}
use Rattle.form_table.specs.Table.{listed, joined, Is, Extends, AreThere}
use Rattle.form_table.specs.Lists.{IsListed, first_conjuncts}
use Rattle.form_table.proofs.Making.{listed-later}
use Rattle.form_table.proofs.Taking.{listed-append}
use Rattle.search_laws.proofs.Refuting.{Any}

keeps-any : Keeps Any
keeps-any = record { divided = λ f h. tt; negated = λ f h. tt; lowered = λ f h. tt; complement = λ f h. tt }

mutual
  any-forms : (f : Formula) → AllForms Any f
  any-forms (truth_value b) = tt
  any-forms (row f) = tt
  any-forms (equal f) = tt
  any-forms (bool_var v) = tt
  any-forms (at l) = tt
  any-forms (negation f) = any-forms f
  any-forms (every fs) = any-forms-of fs
  any-forms (some fs) = any-forms-of fs

  any-forms-of : (fs : Formulas) → AllFormsOf Any fs
  any-forms-of none = tt
  any-forms-of (more f fs) = (any-forms f, any-forms-of fs)

alone : (all : Bool) (f : Formula) → IsPart Any f all → parts all f ≡ Some (more f none)
alone all (truth_value b) h = absurd h
alone all (row f) h = refl
alone all (equal f) h = refl
alone all (bool_var v) h = refl
alone all (at l) h = refl
alone all (negation f) h = refl
alone true (every fs) h = absurd h
alone false (every fs) h = refl
alone true (some fs) h = refl
alone false (some fs) h = absurd h

again : (all : Bool) (o : Option Formulas) → IfParts Any all o → parts all (joined_parts all o) ≡ o
again true None h = refl
again false None h = refl
again true (Some none) h = refl
again false (Some none) h = refl
again all (Some (more f none)) h = alone all f h.0
again true (Some (more f (more g fs))) h = refl
again false (Some (more f (more g fs))) h = refl

-- a whole that was joined of parts gives them again
gathered-again : (d : Decided) (all plus : Bool) (fs : Formulas) → parts all (joined_parts all (gathered all (simples d fs plus))) ≡ gathered all (simples d fs plus)
gathered-again d all plus fs = again all (gathered all (simples d fs plus)) (gathered-parts Any all (simples d fs plus) (simples-whole Any keeps-any d fs plus (any-forms-of fs)))

abbrev both : Option Formulas → Option Formulas → Option Formulas
both o p = option_and_then (λ gs. option_map (append gs) p) o

both-none : (o : Option Formulas) → both o None ≡ None
both-none None = refl
both-none (Some gs) = refl

gathered-one : (all : Bool) (f : Formula) → gathered all (more f none) ≡ parts all f
gathered-one all f = by (parts all f)
  where
    by : (o : Option Formulas) → both o (Some none) ≡ o
    by None = refl
    by (Some gs) = ap Some (append-none gs)

first-both : (given : Formulas) (shown : Formula) → first_conjuncts (every given) shown ≡ both (gathered true (simples nothing given true)) (gathered true (more (simple nothing shown false) none))
first-both given shown =
    gathered-again nothing true true (more (every given) (more (negation shown) none))
    ∙ ap (λ o. both o (gathered true (more (simple nothing shown false) none))) (gathered-again nothing true true given)

-- ---- what is shown
pub denied-cases : (cases : Formulas) → gathered true (simples nothing cases false) ≡ gathered true (more (simple nothing (some cases) false) none)
denied-cases cases = sym (gathered-one true (simple nothing (some cases) false) ∙ gathered-again nothing true false cases)

pub denied-two : (fs : List Form) → 2 ≤ length fs → joined_parts false (gathered false (simples nothing (plain_list fs) false)) ≡ simple nothing (together (map plain fs)) false
denied-two [] h = absurd (omega (arith, h))
denied-two (f ∷ []) h = absurd (omega (arith, h))
denied-two (f ∷ g ∷ fs) h = refl

pub modest-two : (fs : List Form) → 2 ≤ length fs → IsModest (together (map plain fs)) → AreModest (plain_list fs)
modest-two [] h m = absurd (omega (arith, h))
modest-two (f ∷ []) h m = absurd (omega (arith, h))
modest-two (f ∷ g ∷ fs) h m = m

-- what is left of a list of cases
pub next-case : (cs : List (Vec Form Global)) (i : ℕ) (c : Vec Form Global) (g : Formula) → i < length cs → c ≡ get_or cs i c → g ≡ simple nothing (case_of c) false
    → simples nothing (formulas (map case_of (drop i cs))) false ≡ more g (simples nothing (formulas (map case_of (drop (i + 1) cs))) false)
next-case cs i c g l e m =
    ap (λ x. simples nothing (formulas (map case_of x)) false) (drop_more cs i c l)
    ∙ ap (λ x. more (simple nothing (case_of x) false) (simples nothing (formulas (map case_of (drop (i + 1) cs))) false)) (sym e)
    ∙ ap (λ x. more x (simples nothing (formulas (map case_of (drop (i + 1) cs))) false)) (sym m)

pub modest-case : (cs : List (Vec Form Global)) (i : ℕ) (c : Vec Form Global) → i < length cs → c ≡ get_or cs i c → AreModest (formulas (map case_of (drop i cs)))
    → IsModest (case_of c) × AreModest (formulas (map case_of (drop (i + 1) cs)))
modest-case cs i c l e h =
    let p = subst (λ x. AreModest (formulas (map case_of x))) (drop_more cs i c l) h in
    (subst (λ x. IsModest (case_of x)) (sym e) p.0, p.1)

pub no-case : (cs : List (Vec Form Global)) (i : ℕ) → length cs ≤ i → simples nothing (formulas (map case_of (drop i cs))) false ≡ none
no-case cs i l = ap (λ x. simples nothing (formulas (map case_of x)) false) (drop_all i cs l)

-- ---- the whole list
pub list-none-given : (ts : List Formula) (given : Formulas) (shown : Formula) → None ≡ gathered true (simples nothing given true) → IsListed ts None (first_conjuncts (every given) shown)
list-none-given ts given shown e =
    let whole : None ≡ first_conjuncts (every given) shown = ap (λ o. both o (gathered true (more (simple nothing shown false) none))) e ∙ sym (first-both given shown) in
    subst (IsListed ts None) whole tt

pub list-none-shown : (ts : List Formula) (given : Formulas) (shown : Formula) → None ≡ gathered true (more (simple nothing shown false) none) → IsListed ts None (first_conjuncts (every given) shown)
list-none-shown ts given shown e =
    let whole : None ≡ first_conjuncts (every given) shown =
    sym (both-none (gathered true (simples nothing given true))) ∙ ap (both (gathered true (simples nothing given true))) e ∙ sym (first-both given shown) in
    subst (IsListed ts None) whole tt

pub list-both : (us vs ws : List Formula) (out rest new : List ℕ) (n : ℕ) (given : Formulas) (shown : Formula) → Extends us vs → AreThere us out
    → Some (listed us out) ≡ gathered true (simples nothing given true) → Some (listed vs rest) ≡ gathered true (more (simple nothing shown false) none)
    → new ≡ out ++ rest → Is ws n (joined true (listed vs new)) → IsListed ws (Some n) (first_conjuncts (every given) shown)
list-both us vs ws out rest new n given shown x h e k a m =
    let all : listed vs new ≡ append (listed us out) (listed vs rest) =
    ap (listed vs) a ∙ listed-append vs out rest ∙ ap (λ l. append l (listed vs rest)) (listed-later us vs out x h) in
    let whole : Some (listed vs new) ≡ first_conjuncts (every given) shown =
    ap Some all ∙ ap (λ o. both o (Some (listed vs rest))) e ∙ ap (both (gathered true (simples nothing given true))) k ∙ sym (first-both given shown) in
    subst (IsListed ws (Some n)) whole m
