-- The named word forms are taken.
use Rattle.std.proofs.Common.{ℕ, List, [], ◌∷◌, ◌++◌, ◌≡◌, refl, ◌∙◌, subst, sym, inl, inr, ◌≤◌, ◌==◌, true, false, eqb, arith, codes, zero, suc}
use Rattle.std.proofs.lemmas.Bool.Decides.{nat_tests}
use Rattle.std.specs.Prelude.{Some, pos}
use Rattle.std.specs.Fmt.{decimal, digits}
use Rattle.clap.specs.Words.{Text}
use Rattle.clap.specs.ValueTests.{is_signed_in}
use Rattle.step_words.specs.Forms.{IsFileName, IsOption, NamedForms}
use Rattle.step_words.specs.Request.{makes, request_of, request_for}
use Rattle.step_words.proofs.Walking.{AreNames, Few, Walks, behind_names, behind_number, no_hyphen, walks_all, walks_none, walks_option}
use Rattle.step_words.proofs.Ending.{asks_for, number_command, number_names, number_ok, plain_command, plain_names, plain_ok, takes_by}
use Rattle.step_words.proofs.Workers.{all_pass, number_of, pass_below, passes}

-- the words of a command with its names, and with an extra behind
pub form : (command : Text) → IsFileName command → (names : List Text) → Few names → AreNames names → (program : Text) (extra : List Text) → IsOption extra
    → request_of (program ∷ command ∷ (names ++ extra)) ≡ request_for command names
form [] ek names few are program extra is = absurd ek
form (k ∷ ks) nk [] few are program extra is = absurd few
form (k ∷ ks) nk (m ∷ ms) few are program extra (inl none) =
    let ek : eqb k 45 ≡ false = no_hyphen k nk in
    let end = behind_names (k ∷ ks) (m ∷ ms) in
    let w = walks_all k ks ek (m ∷ ms) extra end few are (subst (λ (o : List Text). Walks end o end) (sym none) (walks_none end)) in
    asks_for (program ∷ (k ∷ ks) ∷ ((m ∷ ms) ++ extra)) (k ∷ ks) (m ∷ ms)
    (takes_by program ((k ∷ ks) ∷ ((m ∷ ms) ++ extra)) end (k ∷ ks) (m ∷ ms) w (plain_ok k ks ek (m ∷ ms) few) (plain_command k ks ek (m ∷ ms)) (plain_names k ks ek (m ∷ ms) few))
form (k ∷ ks) nk (m ∷ ms) few are program extra (inr number) =
    let ek : eqb k 45 ≡ false = no_hyphen k nk in
    with_number k ks ek (m ∷ ms) few are program extra (decimal number.0) number.3 (pass_below 64 number.0 all_pass number.1 number.2)
  where
    with_number : (k : ℕ) (ks : Text) → eqb k 45 ≡ false → (names : List Text) → Few names → AreNames names → (program : Text) (extra : List Text) (v : Text) → extra ≡ codes "--workers" ∷ v ∷ [] → passes v ≡ true
        → request_of (program ∷ (k ∷ ks) ∷ (names ++ extra)) ≡ request_for (k ∷ ks) names
    with_number k ks ek [] few are program extra v is pass = absurd few
    with_number k ks ek (m ∷ ms) few are program extra [] is pass = cc
    with_number k ks ek (m ∷ ms) few are program extra (d ∷ ds) is pass =
        let number = number_of (d == 45) (is_signed_in (pos 1) (pos 64) (d ∷ ds)) pass in
        let end = behind_number (k ∷ ks) (m ∷ ms) (d ∷ ds) in
        let w = walks_all k ks ek (m ∷ ms) extra end few are
        (subst (λ (o : List Text). Walks (behind_names (k ∷ ks) (m ∷ ms)) o end) (sym is) (walks_option k ks ek m ms d ds few number.0)) in
        asks_for (program ∷ (k ∷ ks) ∷ ((m ∷ ms) ++ extra)) (k ∷ ks) (m ∷ ms)
        (takes_by program ((k ∷ ks) ∷ ((m ∷ ms) ++ extra)) end (k ∷ ks) (m ∷ ms) w (number_ok k ks ek (m ∷ ms) (d ∷ ds) few number.1)
        (number_command k ks ek (m ∷ ms) (d ∷ ds)) (number_names k ks ek (m ∷ ms) (d ∷ ds)))

-- a literal word is no extra
word : (b : ℕ) (r : Text) → eqb b 45 ≡ false → IsFileName (b ∷ r)
word b r e = λ is. (let same : eqb b 45 ≡ true = grind (arith, nat_tests) in cc)

-- the workload's numbers
workload_word : (n : ℕ) → 1 ≤ n → n ≤ 4 → IsFileName (decimal n) × (request_for (codes "workload") (decimal n ∷ []) ≡ Some (makes n))
unfolding digits
workload_word zero least most = absurd (omega (arith, least))
workload_word (suc zero) least most = (word 49 [] refl, refl)
workload_word (suc (suc zero)) least most = (word 50 [] refl, refl)
workload_word (suc (suc (suc zero))) least most = (word 51 [] refl, refl)
workload_word (suc (suc (suc (suc zero)))) least most = (word 52 [] refl, refl)
workload_word (suc (suc (suc (suc (suc n))))) least most = absurd (omega (arith, most))

pub named_forms : NamedForms
named_forms = record {
  check = λ p q c hp hq hc program extra is. form (codes "check") (word 99 [] refl) (p ∷ q ∷ c ∷ []) tt (hp, (hq, (hc, tt))) program extra is;
  verify = λ p q hp hq program extra is. form (codes "verify") (word 118 [] refl) (p ∷ q ∷ []) tt (hp, (hq, tt)) program extra is;
  prove = λ p q hp hq program extra is. form (codes "prove") (word 112 [] refl) (p ∷ q ∷ []) tt (hp, (hq, tt)) program extra is;
  workload = λ n least most program extra is. (
      let w = workload_word n least most in
      form (codes "workload") (word 119 [] refl) (decimal n ∷ []) tt (w.0, tt) program extra is ∙ w.1
      );
  trace = λ p q s hp hq hs program extra is. form (codes "trace") (word 116 [] refl) (p ∷ q ∷ s ∷ []) tt (hp, (hq, (hs, tt))) program extra is;
  invariants = λ p hp program extra is. form (codes "invariants") (word 105 [] refl) (p ∷ []) tt (hp, tt) program extra is;
}
