-- The terminal node of a drawing: the place, and its formula.
use Rattle.std.proofs.Common.{◌≡◌, ℕ, ◌+◌, Bool, true, false, cond, List, [], ◌∷◌, ◌++◌, Option, Some, None, Ok, Err, refl, sym, ap, ◌∙◌, arith, append-nil}
use Rattle.std.specs.Prelude.{is_some}
use Rattle.st_tokens.specs.Stream.{Lexeme, Stream, ends, more}
use Rattle.st_reading.specs.declared.mark.Mark.TheVariants as marks
use Rattle.st_reading.specs.Rule as rules
use Rattle.st_reading.specs.Sign.{sign_of, is}
use Rattle.st_reading.specs.Reading.{Read, ◌>>=◌, other, syntax, expected, gives, then_reads}
use Rattle.st_reading.specs.Breaches.{Breach, Reader, broke, unless}
use Rattle.st_reading.specs.BrokenRules.{Broken}
use Rattle.st_reading.specs.Phrases.{after_mark}
use Rattle.st_reading.specs.Spelling.{Is, behind_it}
use Rattle.st_reading.specs.Steady.{moves, wider, anything}
use Rattle.st_reading.proofs.Tokens.{among}
use Rattle.st_reading.proofs.Phrases.{made}
use Rattle.st_reading.proofs.ListSoundness.{one_mark}
use Rattle.st_reading.proofs.LawfulPhrases.{LawfulPhrase}
use Rattle.st_form.specs.Formula.{Formula}
use Rattle.temporal_goals.specs.declared.diagrams.DiagramKind.{DiagramKind}
use Rattle.expression_parser.specs.Calm.{calm}
use Rattle.expression_typer.specs.Naming.{names_of}
use Rattle.assertions.specs.Reading.{truth_of}
use Rattle.diagram_reader.specs.Drawn.{Drawing, with_terminal}
use Rattle.diagram_reader.specs.Drawing as drawings
use Rattle.diagram_reader.specs.declared.item.Item.TheVariants as items
use Rattle.proof_script.specs.Faults.{drawn}
use Rattle.proof_script.specs.Listing.{Setting, formula_of}
use Rattle.script_grammar.specs.RawScripts.{RawUnit, RawItem, raw_terminal}
use Rattle.script_grammar.specs.Sizes.{item_size}
use Rattle.script_grammar.specs.Drawings.{IsRawTerminal, spells_terminal}
use Rattle.script_grammar.specs.Breaking.{broken_where}
use Rattle.script_grammar.specs.Rules.{form_rules, item_rules}
use Rattle.script_grammar.specs.Theorems.{Forms, Sums}
use Rattle.script_grammar.specs.FirstFaults.{drawing_over}
use Rattle.script_grammar.proofs.RawUnits.{raw, raw_lawful}
use Rattle.script_grammar.proofs.UnitLaws.{forms, judged_form, typed_unit}
use Rattle.script_grammar.proofs.JudgedPairs.{both_of, made_lawful, pair_lawful}
use Rattle.script_grammar.proofs.Judges.{Judges, Whatever, pair_so, made_so, seen_so, as_so, mark_so, place_so, plain_mark_so, weaker_so}
use Rattle.script_grammar.proofs.Citations.{loose_lawful}
use Rattle.script_grammar.proofs.NamedSteps.{semicolon, semicolon_lawful}
use Rattle.script_grammar.proofs.DrawnMarks.{colon_mark, terminal_mark, semicolon_only_calm, Adds}
use Rattle.script_grammar.proofs.DrawnReaders.{nothing_read, drawn_then, drawn_expected, formula_drawn}

-- expr ";"
abbrev pub formed_lawful : LawfulPhrase Breach (RawUnit × ℕ) anything anything
formed_lawful = pair_lawful anything calm semicolon anything semicolon_only_calm refl (raw_lawful forms) (wider (λ g h. refl)) semicolon_lawful refl

-- ":" expr ";"
abbrev pub named_lawful : LawfulPhrase Breach (ℕ × (RawUnit × ℕ)) (among (marks.Colon ∷ [])) anything
named_lawful = loose_lawful (among (marks.Colon ∷ [])) anything anything anything (λ g h. refl) colon_mark (moves refl (syntax 0) refl) formed_lawful (λ g h. refl) (λ g h. refl)

abbrev pub terminal_parts : LawfulPhrase Breach (ℕ × (ℕ × (RawUnit × ℕ))) (among (marks.Terminal ∷ [])) anything
terminal_parts = pair_lawful (among (marks.Terminal ∷ [])) anything (among (marks.Colon ∷ [])) anything (λ g h. refl) refl terminal_mark (moves refl (syntax 0) refl) named_lawful refl

abbrev pub the_terminal : ℕ × (ℕ × (RawUnit × ℕ)) → RawItem
the_terminal q = raw_terminal q.0 q.1.1.0

abbrev pub terminal_lawful : LawfulPhrase Breach RawItem (among (marks.Terminal ∷ [])) anything
terminal_lawful = made_lawful (among (marks.Terminal ∷ [])) anything the_terminal terminal_parts (moves refl (syntax 0) refl)

-- "terminal" ":" expr ";"
pub data TerminalItem : List Lexeme → RawItem → Type 0 where
  terminal_item : (t : Lexeme) (ts : List Lexeme) (f : RawUnit) → Is marks.Terminal t → IsRawTerminal Forms Sums ts f → TerminalItem (t ∷ ts) (raw_terminal t.start f)

pub to_terminal : (ts : List Lexeme) (x : RawItem) → terminal_lawful.phrase.language ts x → TerminalItem ts x
to_terminal ts x (made us q (behind_it a b p z (one_mark t e) (made k1 k2 (behind_it c d n w (one_mark v f) (made k3 k4 (behind_it h i u m lu (made k5 o (one_mark y s)))))))) =
    terminal_item t (v ∷ (h ++ y ∷ [])) u e (spells_terminal (v ∷ h) y u (after_mark v h u f lu) s)

pub from_terminal : (ts : List Lexeme) (x : RawItem) → TerminalItem ts x → terminal_lawful.phrase.language ts x
from_terminal ts x (terminal_item t us u e (spells_terminal vs y u2 (after_mark v h u3 f lu) s)) =
    made (t ∷ (v ∷ (h ++ y ∷ []))) (both_of t.start (both_of v.start (both_of u y.start)))
    (behind_it (t ∷ []) (v ∷ (h ++ y ∷ [])) t.start (both_of t.start (both_of v.start (both_of u y.start))) (one_mark t e)
    (made (v ∷ (h ++ y ∷ [])) (both_of v.start (both_of u y.start)) (behind_it (v ∷ []) (h ++ y ∷ []) v.start (both_of v.start (both_of u y.start)) (one_mark v f)
    (made (h ++ y ∷ []) (both_of u y.start) (behind_it h (y ∷ []) u (both_of u y.start) lu (made (y ∷ []) y.start (one_mark y s)))))))

-- JUDGED
module _ (g : Setting) (kind : DiagramKind) (highest : ℕ) (d : Drawing) where
  abbrev formed : Reader Formula
  formed = then_reads (formula_of g) (λ f. then_reads (expected marks.Semicolon) (λ z. gives f))

  abbrev named : Reader Formula
  named = then_reads (expected marks.Colon) (λ m. formed)

  abbrev added : Unit {0} → Reader Drawing
  added u = then_reads named (λ f. gives (with_terminal f d))

  abbrev pub terminal_judge : Reader Drawing
  terminal_judge = then_reads (then_reads (expected marks.Terminal) (λ place. unless (is_some d.terminal) (broke rules.Twice place) tt)) added

  formed_so : Judges anything formed formed_lawful.phrase.reader (λ q. q.0.size + 1) (λ at q. form_rules g at q.0 ++ []) Whatever
  formed_so = pair_so {makes = Whatever} semicolon_only_calm semicolon_lawful (moves refl (syntax 0) refl) form_so (λ u f m. weaker_so Whatever (λ n a k. tt) (plain_mark_so marks.Semicolon f))
    where
      form_so : Judges calm (formula_of g) (raw forms) (λ u. u.size) (form_rules g) (λ u f. typed_unit (truth_of (names_of g.names)) u ≡ Ok f)
      form_so = record { judged = λ at s. judged_form g at s }

  named_so : Judges anything named named_lawful.phrase.reader (λ q. 1 + (q.1.0.size + 1)) (λ at q. [] ++ (form_rules g (at + 1) q.1.0 ++ [])) Whatever
  named_so = pair_so {makes = Whatever} (λ g h. refl) formed_lawful (wider (λ g h. refl)) (place_so marks.Colon) (λ n k m. formed_so)

  added_so : (u : Unit {0}) → Judges anything (added u) named_lawful.phrase.reader (λ q. 1 + (q.1.0.size + 1)) (λ at q. [] ++ (form_rules g (at + 1) q.1.0 ++ [])) (λ q y. (f : Formula) × (y ≡ with_terminal f d))
  added_so u = made_so (λ f. with_terminal f d) (λ q y. (f : Formula) × (y ≡ with_terminal f d)) (λ q f m. (f, refl)) named_so

  terminal_ruled : (at : ℕ) (q : ℕ × (ℕ × (RawUnit × ℕ))) → item_rules g kind highest d at (the_terminal q) ≡ broken_where (is_some d.terminal) (at + 1) (broke rules.Twice q.0) ++ ([] ++ (form_rules g ((at + 1) + 1) q.1.1.0 ++ []))
  terminal_ruled at q = ap (λ z. broken_where (is_some d.terminal) (at + 1) (broke rules.Twice q.0) ++ z) (sym (append-nil (form_rules g ((at + 1) + 1) q.1.1.0)))

  pub terminal_so : Judges anything terminal_judge terminal_lawful.phrase.reader item_size (item_rules g kind highest d) (Adds d)
  terminal_so =
      seen_so the_terminal item_size (item_rules g kind highest d) (Adds d) (λ q. omega arith) terminal_ruled (λ q y m. m)
      (pair_so {makes = λ q y. (f : Formula) × (y ≡ with_terminal f d)} (λ g h. refl) named_lawful (moves refl (syntax 0) refl) (mark_so marks.Terminal (is_some d.terminal) (λ place. broke rules.Twice place) tt) (λ n u m. added_so u))

  -- the reader of diagrams does so, behind its first token
  body_drawn : (s : Stream) → drawn (then_reads (then_reads (expected marks.Colon) (λ m. then_reads (drawings.formula_of (drawing_over g kind highest)) (λ f. then_reads (expected marks.Semicolon) (λ z. gives f)))) (λ f. gives (with_terminal f d)) s) ≡ added tt s
  body_drawn s =
      drawn_then (then_reads (expected marks.Colon) (λ m. then_reads (drawings.formula_of (drawing_over g kind highest)) (λ f. then_reads (expected marks.Semicolon) (λ z. gives f)))) named (λ f. gives (with_terminal f d)) (λ f. gives (with_terminal f d))
      (λ k. drawn_then (expected marks.Colon) (expected marks.Colon) (λ m. then_reads (drawings.formula_of (drawing_over g kind highest)) (λ f. then_reads (expected marks.Semicolon) (λ z. gives f))) (λ m. formed) (drawn_expected marks.Colon)
      (λ m n. drawn_then (drawings.formula_of (drawing_over g kind highest)) (formula_of g) (λ f. then_reads (expected marks.Semicolon) (λ z. gives f)) (λ f. then_reads (expected marks.Semicolon) (λ z. gives f)) (formula_drawn g kind highest)
      (λ f o. drawn_then (expected marks.Semicolon) (expected marks.Semicolon) (λ z. gives f) (λ z. gives f) (drawn_expected marks.Semicolon) (λ z v. refl) o) n) k) (λ f k. refl) s

  pub terminal_drawn : (t : Lexeme) (s : Stream) → is (sign_of t) marks.Terminal ≡ true → drawn (drawings.item_of (drawing_over g kind highest) items.Terminal t.start d s) ≡ terminal_judge (more t s)
  unfolding drawings.item_of drawings.terminal_of
  terminal_drawn t s e = at_test (is_some d.terminal) ∙ sym (ap (λ (o : Read Breach ℕ). (o >>= λ p. unless (is_some d.terminal) (broke rules.Twice p.0) tt p.1) >>= λ u. added u.0 u.1) (let k : expected {X = Breach} marks.Terminal (more t s) ≡ Ok (t.start, s) = rw e refl in k))
    where
      at_test : (b : Bool)
          → drawn (cond b (Err (other (broke rules.Twice t.start))) (then_reads (expected marks.Colon) (λ m. then_reads (drawings.formula_of (drawing_over g kind highest)) (λ f. then_reads (expected marks.Semicolon) (λ z. gives f))) s) >>= λ f. gives (with_terminal f.0 d) f.1)
          ≡ (cond b (Err (other (broke rules.Twice t.start))) (nothing_read s) >>= λ u. added u.0 u.1)
      at_test true = refl
      at_test false = body_drawn s
