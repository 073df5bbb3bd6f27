-- Nodes of nets behind any number of others: a formula with its place, and what follows it.
use Rattle.std.proofs.Common.{◌≡◌, ℕ, ◌+◌, Bool, true, false, cond, List, [], ◌++◌, Ok, Err, refl, sym, ap, subst, ◌∙◌, append-nil}
use Rattle.std.specs.Prelude.{nat_lt}
use Rattle.st_tokens.specs.Stream.{Stream}
use Rattle.st_reading.specs.declared.sign.Sign.{Sign}
use Rattle.st_reading.specs.Reading.{Read, ◌>>=◌, gives, then_reads}
use Rattle.st_reading.specs.Rule as rules
use Rattle.st_reading.specs.Breaches.{Breach, Reader, broke}
use Rattle.st_reading.specs.BrokenRules.{Broken}
use Rattle.st_reading.specs.Steady.{Within, Wide}
use Rattle.st_reading.proofs.LawfulPhrases.{LawfulPhrase}
use Rattle.st_form.specs.Formula.{Formula}
use Rattle.expression_parser.specs.Calm.{calm}
use Rattle.expression_typer.specs.Naming.{names_of}
use Rattle.assertions.specs.Reading.{truth_of}
use Rattle.proof_script.specs.Listing.{Setting, listed_formula_of}
use Rattle.script_grammar.specs.RawScripts.{RawUnit}
use Rattle.script_grammar.specs.Breaking.{one_too_many_rules}
use Rattle.script_grammar.specs.Rules.{form_rules}
use Rattle.script_grammar.proofs.RawUnits.{raw}
use Rattle.script_grammar.proofs.UnitLaws.{forms, typed_unit}
use Rattle.script_grammar.proofs.ListedForms.{too_many, judged_few, judged_many}
use Rattle.script_grammar.proofs.JudgedPairs.{pairs}
use Rattle.script_grammar.proofs.Judges.{Judges, pair_so, seen_so, weaker_so}
use Rattle.script_grammar.proofs.PlacedUnits.{placed, placed_so, unit_begins, unit_place}
use Rattle.script_grammar.proofs.CompletedItems.{Pending}

-- what is read next does the same
pub under : {A B : Type 0} (r : Reader A) (q q2 : A → Reader B) → ((x : A) (s : Stream) → q x s ≡ q2 x s) → (s : Stream) → then_reads r q s ≡ then_reads r q2 s
under {A} r q q2 same s = at_read (r s)
  where
    at_read : (o : Read Breach A) → (o >>= λ x. q x.0 x.1) ≡ (o >>= λ x. q2 x.0 x.1)
    at_read (Ok x) = same x.0 x.1
    at_read (Err f) = refl

-- a node that begins there lacks a helper, if that is so
abbrev pub Owes : {A : Type 0} → Bool → ℕ → Pending A → Type 0
Owes wrong place x = (x.wrong ≡ wrong) × (x.breach ≡ broke rules.NoHelper place)

-- Behind the formula `rest` is read; `Owed` says what is known of it, with the formula's place.
module _ (g : Setting) {A B R : Type 0} {front2 next : Sign → Bool} (meets : Within front2 calm) (q : LawfulPhrase Breach B front2 next) (fits : Wide front2 next next q.phrase.reader) (count : B → ℕ) (rest_rules : ℕ → B → List (Broken Breach)) (rest : ℕ × Formula → Reader A) (Owed : ℕ → B → A → Type 0)
    (rest_so : (f : ℕ × Formula) → Judges next (rest f) q.phrase.reader count rest_rules (Owed f.0)) (make : RawUnit × B → R) (form : R → RawUnit) (is_form : (p : RawUnit × B) → form (make p) ≡ p.0) (size : R → ℕ) (is_size : (p : RawUnit × B) → size (make p) ≡ p.0.size + count p.1)
    (own : ℕ → R → List (Broken Breach)) (is_own : (at : ℕ) (p : RawUnit × B) → own at (make p) ≡ form_rules g at p.0 ++ rest_rules (at + p.0.size) p.1) (Fits : R → A → Type 0) (is_fit : (p : RawUnit × B) (x : A) → Owed p.0.place p.1 x → Fits (make p) x) where
  abbrev pub placed_item : ℕ → Reader A
  placed_item before = then_reads (placed (listed_formula_of g before)) rest

  abbrev raw_item : Reader R
  raw_item = then_reads (pairs (raw forms) q.phrase.reader) (λ p. gives (make p))

  abbrev Known : ℕ → R → A → Type 0
  Known before x a = (nat_lt before 64 ≡ true) × Fits x a

  few_so : (before : ℕ) → nat_lt before 64 ≡ true → Judges next (placed_item before) raw_item size own (Known before)
  few_so before few =
      seen_so make size own (Known before) is_size is_own (λ p x m. (few, is_fit p x m))
      (pair_so {makes = λ p x. Owed p.0.place p.1 x} meets q fits (placed_so unit_place (unit_begins forms) form_so) (λ u f m. weaker_so (λ c x. Owed u.place c x) (λ c x o. subst (λ n. Owed n c x) m.0 o) (rest_so f)))
    where
      form_so : Judges calm (listed_formula_of g before) (raw forms) (λ u. u.size) (form_rules g) (λ u f. typed_unit (truth_of (names_of g.names)) u ≡ Ok f)
      form_so = record { judged = λ at s. judged_few g before few at s }

  never : (u : RawUnit) (f : Formula) → too_many u ≡ Ok f → ⊥
  never u f h = absurd cc

  -- one too many
  over_so : (before : ℕ) → nat_lt before 64 ≡ false → Judges next (placed_item before) raw_item size (λ at x. one_too_many_rules at (form x)) (Known before)
  over_so before over =
      seen_so make size (λ at x. one_too_many_rules at (form x)) (Known before) is_size (λ at p. ap (λ u. one_too_many_rules at u) (is_form p) ∙ sym (append-nil (one_too_many_rules at p.0))) (λ p x m. m)
      (pair_so {count2 = count} {rules2 = λ b at c. []} {makes = λ p x. Known before (make p) x} meets q fits (placed_so unit_place (unit_begins forms) form_so) (λ u f m. absurd (never u f.1 m.1)))
    where
      form_so : Judges calm (listed_formula_of g before) (raw forms) (λ u. u.size) one_too_many_rules (λ u f. too_many u ≡ Ok f)
      form_so = record { judged = λ at s. judged_many g before over at s }

  abbrev ItemSo : ℕ → Bool → Type 0
  ItemSo before b = Judges next (placed_item before) raw_item size (λ at x. cond b (own at x) (one_too_many_rules at (form x))) (Known before)

  pub placed_item_so : (before : ℕ) → ItemSo before (nat_lt before 64)
  placed_item_so before = at_test (nat_lt before 64) refl
    where
      at_test : (b : Bool) → nat_lt before 64 ≡ b → ItemSo before (nat_lt before 64)
      at_test true e = subst (ItemSo before) (sym e) (few_so before e)
      at_test false e = subst (ItemSo before) (sym e) (over_so before e)
