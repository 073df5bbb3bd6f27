-- One number more.
use Rattle.std.proofs.Common.{◌≡◌, ℕ, suc, ◌+◌, ◌-◌, ◌<◌, List, ◌++◌, sym, ap, ◌∙◌, arith, append_assoc}
use Rattle.step_workload.specs.Parts.{each_from}

each_one : (text : ℕ → List ℕ) (i last : ℕ) → i < last + 1 → each_from text i (last + 1 - i) ≡ text i ++ each_from text (i + 1) (last + 1 - (i + 1))
each_one text i last lt = let size : last + 1 - i ≡ suc (last + 1 - (i + 1)) = omega arith in ap (each_from text i) size

pub each_more : (text : ℕ → List ℕ) (i last : ℕ) (old new whole : List ℕ) → i < last + 1 → new ≡ old ++ text i → old ++ each_from text i (last + 1 - i) ≡ whole
    → new ++ each_from text (i + 1) (last + 1 - (i + 1)) ≡ whole
each_more text i last old new whole lt is so_far =
    let rest = each_from text (i + 1) (last + 1 - (i + 1)) in
    ap (λ l. l ++ rest) is ∙ append_assoc old (text i) rest ∙ ap (λ l. old ++ l) (sym (each_one text i last lt)) ∙ so_far

-- one part more behind
further : (old mid part more whole : List ℕ) → mid ≡ old ++ part → whole ≡ mid ++ more → whole ≡ old ++ (part ++ more)
further old mid part more whole is end = end ∙ ap (λ l. l ++ more) is ∙ append_assoc old part more

pub chain4 : (old m1 m2 m3 whole a b c d : List ℕ) → m1 ≡ old ++ a → m2 ≡ m1 ++ b → m3 ≡ m2 ++ c → whole ≡ m3 ++ d → whole ≡ old ++ (((a ++ b) ++ c) ++ d)
chain4 old m1 m2 m3 whole a b c d e1 e2 e3 e4 = further old m3 ((a ++ b) ++ c) d whole (further old m2 (a ++ b) c m3 (further old m1 a b m2 e1 e2) e3) e4

pub chain5 : (old m1 m2 m3 m4 whole a b c d e : List ℕ) → m1 ≡ old ++ a → m2 ≡ m1 ++ b → m3 ≡ m2 ++ c → m4 ≡ m3 ++ d → whole ≡ m4 ++ e → whole ≡ old ++ ((((a ++ b) ++ c) ++ d) ++ e)
chain5 old m1 m2 m3 m4 whole a b c d e e1 e2 e3 e4 e5 = further old m4 (((a ++ b) ++ c) ++ d) e whole (chain4 old m1 m2 m3 m4 a b c d e1 e2 e3 e4) e5
