-- A reader stops where one of its parts stops.
use Rattle.std.proofs.Common.{◌≡◌, ℕ, false, is_some, Option, Some, None, Ok, refl, sym, subst}
use Rattle.st_tokens.specs.Stream.{Stream}
use Rattle.st_reading.specs.declared.mark.Mark.TheVariants as marks
use Rattle.st_reading.specs.Reading.{Stop, Read, IsStop, ◌>>=◌, expected}
use Rattle.st_reading.proofs.Loops.{stop_as}
use Rattle.st_form.specs.Formula.{Formula}
use Rattle.st_form.specs.declared.formulas.Form.{Form}
use Rattle.st_reading.specs.declared.fault.ParseFault.{ParseFault}
use Rattle.st_reading.specs.declared.fault.ParseFault.TheVariants as parsing
use Rattle.st_reading.specs.Breaches.{Breach, IsRefused, Takes}
use Rattle.diagram_reader.specs.Drawn.{Setting, terminal_view}
use Rattle.diagram_reader.specs.Drawing.{formula_of, terminal_of}

module _ {A B : Type 0} (r : Read Breach A) (q : A × Stream → Read Breach B) (e : Option (Stop Breach)) where
  at_first : IsStop e r → IsStop e (r >>= q)
  at_first h = stop_as e r (r >>= q) (λ f c. rw c refl) h

  behind_it : (p : A × Stream) → r ≡ Ok p → IsStop e (q p) → IsStop e (r >>= q)
  behind_it p is h = subst (λ (o : Read Breach A). IsStop e (o >>= q)) (sym is) h

module _ (g : Setting) (e : Option (Stop Breach)) (place : ℕ) (s s1 s2 : Stream) (m : ℕ) (f : Formula) (colon : expected {X = Breach} marks.Colon s ≡ Ok (m, s1)) (form : formula_of g s1 ≡ Ok (f, s2)) where
  -- the terminal node has no `;`
  pub terminal_stops : (before : Option Formula) → is_some before ≡ false → IsStop e (expected {X = Breach} marks.Semicolon s2) → IsStop e (terminal_of g place before s)
  unfolding terminal_of
  terminal_stops (Some b) none h = cc
  terminal_stops None none h = behind_it (expected marks.Colon s) _ e (m, s1) colon (behind_it (formula_of g s1) _ e (f, s2) form (at_first (expected marks.Semicolon s2) _ e h))

-- a refusal that the code took over
pub refused_stop : {A : Type 0} (e : ParseFault) (seen : Option (Stop Breach)) (r : Read Breach A) → Takes e seen → IsRefused e r → IsStop seen r
refused_stop (parsing.Syntax place) seen r takes h = subst (λ (o : Option (Stop Breach)). IsStop o r) (sym takes) h
refused_stop (parsing.Token f) seen r takes h = subst (λ (o : Option (Stop Breach)). IsStop o r) (sym takes) h
refused_stop (parsing.Limit kind place) seen r takes h = absurd h
refused_stop parsing.Memory seen r takes h = absurd h

pub terminal_some : (o : Option Form) → is_some (terminal_view o) ≡ is_some o
terminal_some None = refl
terminal_some (Some f) = refl
