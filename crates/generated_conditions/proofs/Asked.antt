-- The conditions that the rules ask: what is entailed, and moves over the modes.
use Rattle.std.proofs.Common.{◌≡◌, refl, ap, ◌∙◌, ℕ, ◌+◌, false, List, [], ◌∷◌, ◌++◌, map, Option, Some, None, arith}
use Rattle.std.specs.List.{enumerate_from}
use Rattle.st_form.specs.Formula.{Formula, Formulas, truth_value, row, equal, bool_var, at, negation, every, some, none, more, formulas, atoms, atoms_of}
use Rattle.st_form.specs.declared.conditions.CondName.{CondName}
use Rattle.st_form.specs.declared.conditions.Premise.{Premise}
use Rattle.st_form.specs.declared.conditions.Premise.TheVariants.{Start, Keep, Move}
use Rattle.transition_system.specs.Systems.{PlainMode, PlainTransition, System}
use Rattle.transition_system.specs.Meaning.{enabling_of}
use Rattle.vc_generator.specs.Atoms.{PlainCase, mode_atoms}
use Rattle.vc_generator.specs.Building.{Draft, listed, conjuncts as parts, start_of, entails_of, triple_of, moved_of}
use Rattle.vc_generator.specs.Walks.{each_mode, numbered_from, plainly, by_mode}
use Rattle.generated_conditions.specs.Cases.{Case, onto, stated, one_of}
use Rattle.generated_conditions.specs.Scripts.{conjuncts, asks, entails, moves, always}
use Rattle.generated_conditions.proofs.Lists.{flat_map-same, numbered, numbered_singly}
use Rattle.generated_conditions.proofs.Sizes.{atoms-lemmas, atoms-enabling}
use Rattle.generated_conditions.proofs.Agreeing.{Agree, same_sizes, same_formulas}

same_parts : (f : Formula) → conjuncts f ≡ parts f
same_parts (truth_value b) = refl
same_parts (row f) = refl
same_parts (equal f) = refl
same_parts (bool_var v) = refl
same_parts (at l) = refl
same_parts (negation f) = refl
same_parts (some fs) = refl
same_parts (every fs) = go fs
  where
    go : (fs : Formulas) → conjuncts (every fs) ≡ listed fs
    go none = refl
    go (more f fs) = λ i. f ∷ go fs i

atoms-parts : (f : Formula) → atoms_of (formulas (parts f)) ≡ atoms f
atoms-parts (truth_value b) = refl
atoms-parts (row f) = refl
atoms-parts (equal f) = refl
atoms-parts (bool_var v) = refl
atoms-parts (at l) = refl
atoms-parts (negation f) = omega arith
atoms-parts (some fs) = omega arith
atoms-parts (every fs) = go fs
  where
    go : (fs : Formulas) → atoms_of (formulas (listed fs)) ≡ atoms_of fs
    go none = refl
    go (more f fs) = ap (λ n. atoms f + n) (go fs)

drafts : {m n : ℕ} {given shown other : Formula} (name : CondName) → m ≡ n → shown ≡ other
    → ◌≡◌ {A = Draft} (record { wide = m; condition = record { given = given; shown = shown; name = name } }) (record { wide = n; condition = record { given = given; shown = other; name = name } })
drafts {given} name p q = λ i. record { wide = p i; condition = record { given = given; shown = q i; name = name } }

module _ (step : ℕ) (system : System) (lemmas : List Formula) where
  pub entailed : (premise : Premise) (node : Option ℕ) (f g : Formula) → entails step system lemmas premise node f g ≡ entails_of lemmas f g (plainly step premise node)
  entailed premise node f g = drafts (plainly step premise node) (let split = atoms-lemmas lemmas (f ∷ []) in omega arith) refl

  pub started : (f : Formula) → asks step system lemmas Start None None 0 (lemmas ++ conjuncts system.initial) (f, atoms f) ≡ start_of system lemmas f (plainly step Start None)
  started f =
      ap (λ fs. asks step system lemmas Start None None 0 (lemmas ++ fs) (f, atoms f)) (same_parts system.initial)
      ∙ drafts (plainly step Start None) (let split = atoms-lemmas lemmas (parts system.initial) in let whole = atoms-parts system.initial in omega arith) refl

  mode-size : (m : PlainMode) (f : Formula) → atoms_of (formulas (lemmas ++ f ∷ enabling_of m)) ≡ mode_atoms m lemmas f
  mode-size m f =
      let split = atoms-lemmas lemmas (f ∷ enabling_of m) in
      let whole = atoms-enabling m in
      omega arith

  walked : (premise : Premise) (node : Option ℕ) (f : Formula) (shown : ℕ → PlainMode → Formula × ℕ) (made : ℕ → PlainTransition → ℕ → PlainMode → Draft)
      → ((n : ℕ) (t : PlainTransition) (k : ℕ) (m : PlainMode) → asks step system lemmas premise node (Some t.name) k (lemmas ++ f ∷ enabling_of m) (shown n m) ≡ made n t k m)
      → moves step system lemmas premise node f shown ≡ each_mode (λ n t k m. made n t k m ∷ []) system
  walked premise node f shown made h =
      flat_map-same
      (λ (x : ℕ × PlainTransition). map (λ (y : ℕ × PlainMode). asks step system lemmas premise node (Some x.1.name) y.0 (lemmas ++ f ∷ enabling_of y.1) (shown x.0 y.1)) (enumerate_from 1 x.1.modes))
      (λ x. numbered_from (λ k m. made x.0 x.1 k m ∷ []) 1 x.1.modes)
      (enumerate_from 0 system.transitions)
      (λ x. ap (λ (d : ℕ → PlainMode → Draft). map (λ (y : ℕ × PlainMode). d y.0 y.1) (enumerate_from 1 x.1.modes)) (λ i k m. h x.0 x.1 k m i) ∙ numbered_singly (λ k m. made x.0 x.1 k m) 1 x.1.modes)
      ∙ numbered (λ n t. numbered_from (λ k m. made n t k m ∷ []) 1 t.modes) 0 system.transitions

  -- by the one formula that a mode leads to
  pub led : (premise : Premise) (node : Option ℕ) (f g : Formula)
      → moves step system lemmas premise node f (λ t m. stated m (onto g [] [])) ≡ each_mode (λ n t k m. triple_of m lemmas f g (truth_value false) (by_mode step premise node t.name k) ∷ []) system
  led premise node f g = walked premise node f (λ t m. stated m (onto g [] [])) (λ n t k m. triple_of m lemmas f g (truth_value false) (by_mode step premise node t.name k))
      (λ n t k m. drafts (by_mode step premise node (t.name) k) (let size = mode-size m f in omega arith) refl)

  -- by cases
  pub moved : (node : Option ℕ) (f : Formula) (cases : ℕ → List Case) (before : ℕ → List PlainCase) → ((n : ℕ) → Agree (cases n) (before n))
      → moves step system lemmas Move node f (λ t m. one_of m (cases t)) ≡ each_mode (λ n t k m. moved_of m lemmas f (before n) (by_mode step Move node t.name k) ∷ []) system
  moved node f cases before h = walked Move node f (λ t m. one_of m (cases t)) (λ n t k m. moved_of m lemmas f (before n) (by_mode step Move node t.name k))
      (λ n t k m. drafts (by_mode step Move node (t.name) k)
      (let size = mode-size m f in let whole = same_sizes m (cases n) (before n) (h n) in omega arith)
      (λ i. some (formulas (same_formulas m (cases n) (before n) (h n) i))))

  pub kept : (f : Formula) → always step system lemmas f ≡ start_of system lemmas f (plainly step Start None)
      ∷ each_mode (λ n t k m. triple_of m lemmas f f (truth_value false) (by_mode step Keep None t.name k) ∷ []) system
  kept f = λ i. started f i ∷ led Keep None f f i
