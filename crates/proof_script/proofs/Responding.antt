-- A response stops where its rule does.
use Rattle.std.proofs.Common.{◌≡◌, ℕ, Option, Ok, refl, sym, subst}
use Rattle.st_tokens.specs.Stream.{Stream}
use Rattle.st_reading.specs.declared.mark.Mark.TheVariants as marks
use Rattle.st_reading.specs.Reading.{Stop, Read, IsStop, expected, ◌>>=◌}
use Rattle.st_reading.specs.Breaches.{Breach}
use Rattle.st_reading.proofs.Loops.{stop_as}
use Rattle.st_linear.specs.Linear.{Linear}
use Rattle.st_form.specs.Formula.{Formula}
use Rattle.proof_script.specs.Listing.{Setting, behind_mark, formula_of, sum_of}
use Rattle.proof_script.specs.Rules.{rule_of}
use Rattle.proof_script.specs.Steps.{response_of}

module _ {A B : Type 0} (e : Option (Stop Breach)) (r : Read Breach A) (q : A × Stream → Read Breach B) where
  at_first : IsStop e r → IsStop e (r >>= q)
  at_first h = stop_as e r (r >>= q) (λ f c. rw c refl) h

  behind_it : (p : A × Stream) → r ≡ Ok p → IsStop e (q p) → IsStop e (r >>= q)
  behind_it p is h = subst (λ (o : Read Breach A). IsStop e (o >>= q)) (sym is) h

module _ (g : Setting) (e : Option (Stop Breach)) (p q : Formula) (n : Linear) (a b : ℕ) (s s1 s2 s3 s4 s5 : Stream) (start : formula_of g s ≡ Ok (p, s1)) (leads : expected {X = Breach} marks.Leads s1 ≡ Ok (a, s2)) (end : formula_of g s2 ≡ Ok (q, s3))
    (within : expected {X = Breach} marks.Within s3 ≡ Ok (b, s4)) (bound : sum_of g s4 ≡ Ok (n, s5)) where
  by_stops : IsStop e (behind_mark marks.By (rule_of g) s5) → IsStop e (response_of g s)
  unfolding response_of
  by_stops h =
      behind_it e (formula_of g s) _ (p, s1) start
      (behind_it e (behind_mark marks.Leads (formula_of g) s1) _ (q, s3) (rw leads end)
      (behind_it e (behind_mark marks.Within (sum_of g) s3) _ (n, s5) (rw within bound) (at_first e (behind_mark marks.By (rule_of g) s5) _ h)))

  -- no `by`
  pub response_stops : IsStop e (expected {X = Breach} marks.By s5) → IsStop e (response_of g s)
  response_stops h = by_stops (at_first e (expected marks.By s5) _ h)

  -- no rule
  pub rule_stops : (c : ℕ) (s6 : Stream) → expected {X = Breach} marks.By s5 ≡ Ok (c, s6) → IsStop e (rule_of g s6) → IsStop e (response_of g s)
  rule_stops c s6 by h = by_stops (behind_it e (expected marks.By s5) _ (c, s6) by h)
