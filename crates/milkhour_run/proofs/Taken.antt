-- The words of each question ask for its request.
use Rattle.std.proofs.Common.{ℕ, List, subst, sym, ◌∷◌, [], ◌++◌, ◌≡◌, ◌≤◌, refl, inr, eqb, false, true, arith, codes}
use Rattle.std.proofs.lemmas.Bool.Decides.{nat_tests}
use Rattle.std.specs.Prelude.{Some}
use Rattle.std.specs.Fmt.{decimal}
use Rattle.clap.specs.Words.{Text}
use Rattle.step_words.specs.Forms.{IsFileName, IsOption, NamedForms}
use Rattle.step_words.specs.Request.{request_of}
use Rattle.milkhour_run.specs.declared.question.Question.{Question}
use Rattle.milkhour_run.specs.declared.question.Question.TheVariants.{Check, Verify, Prove, Trace, Invariants}
use Rattle.milkhour_run.specs.Asked.{asked, command_words}

-- a word whose first byte is no hyphen is a name
word : (b : ℕ) (r : Text) → eqb b 45 ≡ false → IsFileName (b ∷ r)
word b r e = λ is. (let same : eqb b 45 ≡ true = grind (arith, nat_tests) in cc)

program : IsFileName (codes "program")
program = word 112 [] refl

proof : IsFileName (codes "proof")
proof = word 112 [] refl

third : IsFileName (codes "third")
third = word 116 [] refl

option : (n : ℕ) → 1 ≤ n → n ≤ 64 → IsOption (codes "--workers" ∷ decimal n ∷ [])
option n least most = inr (n, least, most, refl)

pub taken : NamedForms → (q : Question) (n : ℕ) → 1 ≤ n → n ≤ 64 → request_of (codes "step" ∷ (command_words q ++ (codes "--workers" ∷ decimal n ∷ []))) ≡ Some (asked q)
unfolding asked
taken forms Check n least most = forms.check _ _ _ program proof third (codes "step") _ (option n least most)
taken forms Verify n least most = forms.verify _ _ program proof (codes "step") _ (option n least most)
taken forms Prove n least most = forms.prove _ _ program proof (codes "step") _ (option n least most)
taken forms Trace n least most = forms.trace _ _ _ program proof third (codes "step") _ (option n least most)
taken forms Invariants n least most = forms.invariants _ program (codes "step") _ (option n least most)

-- whatever words these are
pub asks : NamedForms → (q : Question) (n : ℕ) → 1 ≤ n → n ≤ 64 → (words : List Text) → words ≡ codes "step" ∷ (command_words q ++ (codes "--workers" ∷ decimal n ∷ [])) → request_of words ≡ Some (asked q)
asks forms q n least most words are = subst (λ (ws : List Text). request_of ws ≡ Some (asked q)) (sym are) (taken forms q n least most)
