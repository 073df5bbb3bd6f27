-- What is judged, with the place at which it begins.
use Rattle.std.proofs.Common.{◌≡◌, ℕ, Bool, List, [], ◌∷◌, Ok, Err, refl, sym, ap, ◌∙◌}
use Rattle.st_tokens.specs.Stream.{◌++>◌, Lexeme, Stream, ends, breaks, more}
use Rattle.st_reading.specs.declared.sign.Sign.{Sign}
use Rattle.st_reading.specs.Reading.{Read, place_of, fault_place}
use Rattle.st_reading.specs.Breaches.{Breach, Reader}
use Rattle.st_reading.specs.BrokenRules.{Broken}
use Rattle.st_reading.specs.Steady.{Head, end, fault, token, head}
use Rattle.st_reading.proofs.Streams.{same_through}
use Rattle.st_reading.proofs.Judging.{JudgedAt, good, bad, alike}
use Rattle.expression_parser.specs.ExpressionTree.{Expr}
use Rattle.expression_parser.proofs.FormulaTheorems.{quiet}
use Rattle.script_grammar.specs.RawScripts.{RawUnit}
use Rattle.script_grammar.specs.FirstFaults.{IsSyntactic}
use Rattle.script_grammar.proofs.Greedy.{not_both}
use Rattle.script_grammar.proofs.RawUnits.{Expressions, Any, raw, raw_back, the_unit}
use Rattle.script_grammar.proofs.Judges.{Judges}

abbrev pub unit_place : RawUnit → ℕ
unit_place u = u.place

-- a unit begins with a token
no_unit : (x : Expressions) (e : Expr) → Any x [] e → ⊥
no_unit x e l = not_both (x.reader l.0 (ends 0)) (e, ends 0) ((x.needs l.0).fault 0) (x.complete l.0 [] e l.1 (ends 0) quiet) ((x.needs l.0).refuses 0)

pub unit_begins : (x : Expressions) (s : Stream) (u : RawUnit) (rest : Stream) → raw x s ≡ Ok (u, rest) → unit_place u ≡ place_of s
unit_begins x s u rest h = let b = raw_back x s u rest h in at_text b.text b.tree b.spells b.is_unit b.is_cut
  where
    at_text : (ts : List Lexeme) (e : Expr) → Any x ts e → u ≡ the_unit ts e → s ≡ ts ++> rest → u.place ≡ place_of s
    at_text [] e l k c = absurd (no_unit x e l)
    at_text (t ∷ ts) e l k c = ap (λ (v : RawUnit). v.place) k ∙ ap place_of (sym c)

head_place : Head → ℕ
head_place (end p) = p
head_place (fault f) = fault_place f
head_place (token t) = t.start

place_at : (s : Stream) → place_of s ≡ head_place (head s)
unfolding head_place
place_at (ends p) = refl
place_at (breaks f) = refl
place_at (more t s) = refl

pub place_same : (s after : Stream) → head after ≡ head s → place_of after ≡ place_of s
place_same s after h = place_at after ∙ ap head_place h ∙ sym (place_at s)

abbrev pub with_place : {A : Type 0} → ℕ → Read Breach A → Read Breach (ℕ × A)
with_place n (Ok x) = Ok ((n, x.0), x.1)
with_place n (Err f) = Err f

abbrev pub placed : {A : Type 0} → Reader A → Reader (ℕ × A)
placed r s = with_place (place_of s) (r s)

-- what is known of it, and that it is the place
abbrev pub Placed : {A B : Type 0} → (B → ℕ) → (B → A → Type 0) → B → ℕ × A → Type 0
Placed seen makes b q = (q.0 ≡ seen b) × makes b q.1

module _ {A B : Type 0} {next : Sign → Bool} {judge : Reader A} {plain : Reader B} {count : B → ℕ} {rules : ℕ → B → List (Broken Breach)} {makes : B → A → Type 0} (seen : B → ℕ) (begins : (s : Stream) (b : B) (rest : Stream) → plain s ≡ Ok (b, rest) → seen b ≡ place_of s) where
  pub placed_so : Judges next judge plain count rules makes → Judges next (placed judge) plain count rules (Placed seen makes)
  placed_so j = record { judged = λ at s. placed_at at s (j.judged at s) }
    where
      placed_at : (at : ℕ) (s : Stream) → JudgedAt IsSyntactic next at judge plain count (rules at) makes s → JudgedAt IsSyntactic next at (placed judge) plain count (rules at) (Placed seen makes) s
      placed_at at s (good ts b a rest is_cut go go2 many none made) =
          good ts b (place_of s, a) rest is_cut go
          (λ after h. ap (with_place (place_of (ts ++> after))) (go2 after h) ∙ ap (λ n. Ok ((n, a), after)) (place_same (ts ++> rest) (ts ++> after) (same_through ts rest after h) ∙ ap place_of (sym is_cut)))
          many none (sym (begins s b rest (ap plain is_cut ∙ go rest refl)), made)
      placed_at at s (bad t ts rest first open_to is_cut found settles stops told v onward) = bad t ts rest first open_to is_cut found settles (λ after h. ap (with_place t.start) (stops after h)) told v onward
      placed_at at s (alike f p e k) = alike f p (ap (with_place (place_of s)) e) k
