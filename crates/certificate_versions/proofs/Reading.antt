-- Certificates that a reader takes, one behind the other.
use Rattle.std.proofs.Common.{◌≡◌, ℕ, ◌+◌, ◌≤◌, List, [], ◌∷◌, ◌++◌, map, Option, Some, Ok, ap, subst, ◌∙◌, sym, arith}
use Rattle.std.specs.declared.vec.Vec.{Vec}
use Rattle.std.specs.declared.alloc.Global.{Global}
use Rattle.std.proofs.lemmas.List.{map-append}
use Rattle.st_certificate.specs.Tree.{Tree}
use Rattle.st_certificate.specs.Plain.{plain}
use Rattle.st_certificate.specs.declared.Certificate.{Certificate}
use Rattle.cert_text.specs.Held.{Held, answer_of, outcome, taken_at, taken_from}
use Rattle.cert_text.specs.Reading.{State, going, malformed, over, whole}
use Rattle.shared_certificates.specs.Nodes.{Shared, certificates}
use Rattle.shared_writing.specs.Writing.{text_of}
use Rattle.certificate_versions.specs.Versions.{AreAll, AreRead, IsNext, Shares, told_tree}

-- one certificate more
pub read-more : (h k : Held) (ts : List Tree) (t : Tree) → AreRead h ts k → told_tree (answer_of k) ≡ Some t → AreRead h (ts ++ t ∷ []) (taken_from k)
read-more h k [] t e is = (ap (λ g. told_tree (answer_of g)) e ∙ is, ap taken_from e)
read-more h k (u ∷ ts) t r is = (r.0, read-more (taken_from h) k ts t r.1 is)

-- the next number is larger by one at most
rises : (s : State) (h : Held) → (taken_at s h).number ≤ h.number + 1
rises (going scan built pending) h = omega (arith)
rises (malformed place) h = omega (arith)
rises (over place) h = omega (arith)
rises (whole end scan built) h = omega (arith)

pub number-rises : (h : Held) → (taken_from h).number ≤ h.number + 1
number-rises h = rises (outcome h) h

-- a table that has the certificates that are read
pub shares : (h : Held) (ts : List Tree) (t : Shared) (v : Vec ℕ Global) → AreAll h ts → certificates t ≡ ts → v.items ≡ text_of t → Shares h (Ok v)
shares h ts t v a e is = (t, subst (AreAll h) (sym e) a, is)

-- the next certificate is pushed behind the others
pub kept-more : (h k m : Held) (out : List Certificate) (c : Certificate) (o : Option Certificate) (more : List Certificate) → AreRead h (map plain out) k → IsNext k (Ok o) → o ≡ Some c
    → m ≡ taken_from k → more ≡ out ++ c ∷ [] → AreRead h (map plain more) m
kept-more h k m out c o more r next is left pushed =
    subst (AreRead h (map plain more)) (sym left)
    (subst (λ ts. AreRead h ts (taken_from k)) (sym (ap (map plain) pushed ∙ map-append plain out (c ∷ [])))
    (read-more h k (map plain out) (plain c) r (subst (λ o. IsNext k (Ok o)) is next)))

pub few-more : (k m : Held) (n : ℕ) → m ≡ taken_from k → k.number ≤ n + 1 → m.number ≤ n + 1 + 1
few-more k m n left few = subst (λ (g : Held). g.number ≤ n + 1 + 1) (sym left) (omega (arith, number-rises k, few))
