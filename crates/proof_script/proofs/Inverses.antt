-- What was read by readers that went through, part by part.
use Rattle.std.proofs.Common.{◌≡◌, ℕ, ◌<◌, ◌≤◌, Bool, true, false, cond, nat_lt, All, List, [], ◌∷◌, ◌++◌, length, length-append, Option, Some, None, Ok, Err, refl, subst, arith}
use Rattle.std.proofs.lemmas.List.Elements.{All-nil, All-push}
use Rattle.st_tokens.specs.Stream.{Stream, behind}
use Rattle.st_reading.proofs.Judged.{both, given}
use Rattle.st_reading.specs.declared.mark.Mark.{Mark}
use Rattle.st_reading.specs.declared.mark.Mark.TheVariants as marks
use Rattle.st_reading.specs.Sign.{is}
use Rattle.st_reading.specs.Reading.{Stop, Read, ahead, place_of, expected, gives, then_reads, on_operator, leaves, goes, only, listing, further, size}
use Rattle.st_form.specs.Formula.{Formula}
use Rattle.expression_typer.specs.Naming.{names_of}
use Rattle.assertions.specs.Reading.{form_of}
use Rattle.diagram_reader.proofs.Inverses.{going, chain_keeps}
use Rattle.st_reading.specs.Breaches.{Breach, Reader}
use Rattle.proof_script.specs.Faults.{one_too_many}
use Rattle.proof_script.specs.Listing.{Setting, optional, behind_mark, counted, further_counted, listed, bracketed, formula_of, listed_formula_of}
use Rattle.basic_laws.proofs.Numbers.{less}

module _ {A : Type 0} where
  never : (place : ℕ) (r : Read Breach A) (y : A) (rest : Stream) → one_too_many place r ≡ Ok (y, rest) → ⊥
  never place (Ok x) y rest h = cc
  never place (Err f) y rest h = cc

  -- what stands behind a mark
  pub behind_it : (mark : Mark) (r : Reader A) (y : A) (s rest : Stream) → behind_mark mark r s ≡ Ok (y, rest) → (m : Stream) × (r m ≡ Ok (y, rest))
  behind_it mark r y s rest h = let a = both (expected {X = Breach} mark s) _ (y, rest) h in (a.value.1, a.second)

  -- what holds of nothing, and of whatever may stand behind a mark
  pub optionally : (mark : Mark) (r : Reader A) (P : Option A → Type 0) → P None → ((x : A) (m rest : Stream) → r m ≡ Ok (x, rest) → P (Some x)) → (o : Option A) (s rest : Stream) → optional mark r s ≡ Ok (o, rest) → P o
  optionally mark r P none some o s rest h = at_test (is (ahead s) mark) h
    where
      at_test : (b : Bool) → cond b (then_reads r (λ x. gives (Some x)) (behind s)) (Ok (None, s)) ≡ Ok (o, rest) → P o
      at_test true h = let a = both (r (behind s)) _ (o, rest) h in subst P (given (Some a.value.0) o a.value.1 rest a.second) (some a.value.0 (behind s) a.value.1 a.first)
      at_test false h = subst P (given None o s rest h) none

-- the operator that stood ahead
pub operated : {A O : Type 0} (o : Option O) (f : Stop Breach) (go : O → Read Breach A) (y : A × Stream) → on_operator o (Err f) go ≡ Ok y → (x : O) × (o ≡ Some x) × (go x ≡ Ok y)
operated None f go y h = absurd cc
operated (Some x) f go y h = (x, refl, h)

-- at most 64 are listed
pub listed_few : (g : Setting) (before : ℕ) (s : Stream) (f : Formula) (rest : Stream) → listed_formula_of g before s ≡ Ok (f, rest) → before < 64
unfolding listed_formula_of
listed_few g before s f rest h = at_test (nat_lt before 64) refl h
  where
    at_test : (b : Bool) → nat_lt before 64 ≡ b → cond b (formula_of g s) (one_too_many (place_of s) (form_of (names_of g.names) s)) ≡ Ok (f, rest) → before < 64
    at_test true is h = less before 64 is
    at_test false is h = absurd (never (place_of s) (form_of (names_of g.names) s) f rest h)

-- and what is listed is a formula
pub few_listed : (g : Setting) (before : ℕ) (s : Stream) (f : Formula) (rest : Stream) → listed_formula_of g before s ≡ Ok (f, rest) → formula_of g s ≡ Ok (f, rest)
unfolding listed_formula_of
few_listed g before s f rest h = at_test (nat_lt before 64) h
  where
    at_test : (b : Bool) → cond b (formula_of g s) (one_too_many (place_of s) (form_of (names_of g.names) s)) ≡ Ok (f, rest) → formula_of g s ≡ Ok (f, rest)
    at_test true h = h
    at_test false h = absurd (never (place_of s) (form_of (names_of g.names) s) f rest h)

-- What holds of each item holds of all that are listed, and there are at most 64.
module _ {A : Type 0} (mark : Mark) (r : ℕ → Reader A) (P : A → Type 0) (each : (before : ℕ) (x : A) (s rest : Stream) → r before s ≡ Ok (x, rest) → (before < 64) × P x) where
  abbrev pub Fitting : List A → Type 0
  Fitting xs = (length xs ≤ 64) × All P xs

  pushed : (o : Unit {0}) (place : ℕ) (xs ys : List A) (s rest : Stream) → Fitting xs → counted {B = List A} r o place xs s ≡ Ok (goes ys, rest) → Fitting ys
  pushed o place xs ys s rest p h =
      let b = both (r (length xs) s) (λ x. gives {X = Breach} (going {B = List A} (xs ++ x.0 ∷ [])) x.1) (goes ys, rest) h in
      let e : going {B = List A} (xs ++ b.value.0 ∷ []) ≡ goes ys = given (going {B = List A} (xs ++ b.value.0 ∷ [])) (goes ys) b.value.1 rest b.second in
      let i : xs ++ b.value.0 ∷ [] ≡ ys = cc in
      let f = each (length xs) b.value.0 s b.value.1 b.first in
      let few = f.0 in
      let long = length-append xs (b.value.0 ∷ []) in
      subst Fitting i (omega (arith, few, long), All-push P xs b.value.0 p.1 f.1)

  leaves_never : (o : Unit {0}) (place : ℕ) (xs ys : List A) (s rest : Stream) → Fitting xs → counted {B = List A} r o place xs s ≡ Ok (leaves ys, rest) → Fitting ys
  leaves_never o place xs ys s rest p h =
      let b = both (r (length xs) s) (λ x. gives {X = Breach} (going {B = List A} (xs ++ x.0 ∷ [])) x.1) (leaves ys, rest) h in
      let e : going {B = List A} (xs ++ b.value.0 ∷ []) ≡ leaves ys = given (going {B = List A} (xs ++ b.value.0 ∷ [])) (leaves ys) b.value.1 rest b.second in
      absurd cc

  ended : (xs ys : List A) (s rest : Stream) → Fitting xs → gives {X = Breach} xs s ≡ Ok (ys, rest) → Fitting ys
  ended xs ys s rest p h = subst Fitting (given xs ys s rest h) p

  pushed_some : (o : Unit {0}) (place : ℕ) (xs ys : List A) (s rest : Stream) → 0 < length xs → counted {B = List A} r o place xs s ≡ Ok (goes ys, rest) → 0 < length ys
  pushed_some o place xs ys s rest p h =
      let b = both (r (length xs) s) (λ x. gives {X = Breach} (going {B = List A} (xs ++ x.0 ∷ [])) x.1) (goes ys, rest) h in
      let e : going {B = List A} (xs ++ b.value.0 ∷ []) ≡ goes ys = given (going {B = List A} (xs ++ b.value.0 ∷ [])) (goes ys) b.value.1 rest b.second in
      let i : xs ++ b.value.0 ∷ [] ≡ ys = cc in
      let long = length-append xs (b.value.0 ∷ []) in
      subst (λ (zs : List A). 0 < length zs) i (omega (arith, long))

  leaves_some : (o : Unit {0}) (place : ℕ) (xs ys : List A) (s rest : Stream) → 0 < length xs → counted {B = List A} r o place xs s ≡ Ok (leaves ys, rest) → 0 < length ys
  leaves_some o place xs ys s rest p h =
      let b = both (r (length xs) s) (λ x. gives {X = Breach} (going {B = List A} (xs ++ x.0 ∷ [])) x.1) (leaves ys, rest) h in
      let e : going {B = List A} (xs ++ b.value.0 ∷ []) ≡ leaves ys = given (going {B = List A} (xs ++ b.value.0 ∷ [])) (leaves ys) b.value.1 rest b.second in
      absurd cc

  ended_some : (xs ys : List A) (s rest : Stream) → 0 < length xs → gives {X = Breach} xs s ≡ Ok (ys, rest) → 0 < length ys
  ended_some xs ys s rest p h = subst (λ (zs : List A). 0 < length zs) (given xs ys s rest h) p

  pub further_fits : (xs ys : List A) (s rest : Stream) → Fitting xs → further_counted mark r xs s ≡ Ok (ys, rest) → Fitting ys
  further_fits xs ys s rest p h = chain_keeps (only mark) (counted r) gives Fitting Fitting pushed leaves_never ended (size s) xs s ys rest p h

  -- what is listed stays
  pub further_some : (xs ys : List A) (s rest : Stream) → 0 < length xs → further_counted mark r xs s ≡ Ok (ys, rest) → 0 < length ys
  further_some xs ys s rest p h = chain_keeps (only mark) (counted r) gives (λ zs. 0 < length zs) (λ zs. 0 < length zs) pushed_some leaves_some ended_some (size s) xs s ys rest p h

  pub listed_fits : (ys : List A) (s rest : Stream) → listed mark r s ≡ Ok (ys, rest) → Fitting ys
  listed_fits ys s rest h =
      let a = both (r 0 s) _ (ys, rest) h in
      further_fits (a.value.0 ∷ []) ys a.value.1 rest (omega arith, All-push P [] a.value.0 (All-nil P) (each 0 a.value.0 s a.value.1 a.first).1) a.second

module _ {A : Type 0} (r : ℕ → Reader A) (P : A → Type 0) (each : (before : ℕ) (x : A) (s rest : Stream) → r before s ≡ Ok (x, rest) → (before < 64) × P x) where
  pub bracketed_fits : (ys : List A) (s rest : Stream) → bracketed r s ≡ Ok (ys, rest) → (length ys ≤ 64) × All P ys
  bracketed_fits ys s rest h =
      let a = both (expected {X = Breach} marks.OpenBlock s) _ (ys, rest) h in
      let b = both (listed marks.Semicolon r a.value.1) _ (ys, rest) a.second in
      let c = both (expected {X = Breach} marks.CloseBlock b.value.1) _ (ys, rest) b.second in
      let e : b.value.0 ≡ ys = given b.value.0 ys c.value.1 rest c.second in
      subst (λ (xs : List A). (length xs ≤ 64) × All P xs) e (listed_fits marks.Semicolon r P each b.value.0 a.value.1 b.value.1 b.first)

-- What holds of each further item holds of all of them.
module _ {A : Type 0} (mark : Mark) (r : Reader A) (P : A → Type 0) (each : (x : A) (s rest : Stream) → r s ≡ Ok (x, rest) → P x) where
  pushed_all : (o : Unit {0}) (place : ℕ) (xs ys : List A) (s rest : Stream) → All P xs → listing {B = List A} r o place xs s ≡ Ok (goes ys, rest) → All P ys
  pushed_all o place xs ys s rest p h =
      let b = both (r s) (λ x. gives {X = Breach} (going {B = List A} (xs ++ x.0 ∷ [])) x.1) (goes ys, rest) h in
      let e : going {B = List A} (xs ++ b.value.0 ∷ []) ≡ goes ys = given (going {B = List A} (xs ++ b.value.0 ∷ [])) (goes ys) b.value.1 rest b.second in
      let i : xs ++ b.value.0 ∷ [] ≡ ys = cc in
      subst (All P) i (All-push P xs b.value.0 p (each b.value.0 s b.value.1 b.first))

  leaves_none : (o : Unit {0}) (place : ℕ) (xs ys : List A) (s rest : Stream) → All P xs → listing {B = List A} r o place xs s ≡ Ok (leaves ys, rest) → All P ys
  leaves_none o place xs ys s rest p h =
      let b = both (r s) (λ x. gives {X = Breach} (going {B = List A} (xs ++ x.0 ∷ [])) x.1) (leaves ys, rest) h in
      let e : going {B = List A} (xs ++ b.value.0 ∷ []) ≡ leaves ys = given (going {B = List A} (xs ++ b.value.0 ∷ [])) (leaves ys) b.value.1 rest b.second in
      absurd cc

  pub further_all : (xs ys : List A) (s rest : Stream) → All P xs → further mark r xs s ≡ Ok (ys, rest) → All P ys
  further_all xs ys s rest p h = chain_keeps (only mark) (listing r) gives (All P) (All P) pushed_all leaves_none (λ xs ys s rest p h. subst (All P) (given xs ys s rest h) p) (size s) xs s ys rest p h
