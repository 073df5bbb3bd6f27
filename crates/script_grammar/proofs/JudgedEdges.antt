-- Edges of a drawing.
use Rattle.std.proofs.Common.{◌≡◌, ℕ, ◌+◌, Bool, true, false, cond, not, List, [], ◌∷◌, ◌++◌, Result, Ok, Err, refl, sym, ap, subst, ◌∙◌, arith, append_assoc, append-nil}
use Rattle.std.specs.Prelude.{◌||◌}
use Rattle.st_tokens.specs.Stream.{Lexeme, Stream, ends, more}
use Rattle.st_reading.specs.declared.mark.Mark.TheVariants as marks
use Rattle.st_reading.specs.declared.sign.Sign.{Sign}
use Rattle.st_reading.specs.declared.sign.Sign.TheVariants as signs
use Rattle.st_reading.specs.Mark.{number}
use Rattle.st_reading.specs.Rule as rules
use Rattle.st_reading.specs.Sign.{sign_of, is}
use Rattle.st_reading.specs.Reading.{Read, ◌>>=◌, syntax, is_name, expected, gives, then_reads, further}
use Rattle.st_reading.specs.Breaches.{Breach, Reader, broke, unless}
use Rattle.st_reading.specs.BrokenRules.{Broken}
use Rattle.st_reading.specs.Phrases.{after_mark}
use Rattle.st_reading.specs.Spelling.{Is, behind_it, row}
use Rattle.st_reading.specs.Steady.{Within, moves, wider, anything}
use Rattle.st_reading.proofs.Numbers.{is_marked}
use Rattle.st_reading.proofs.Steadiness.{bind_ok}
use Rattle.st_reading.proofs.Tokens.{among, but, marks_within}
use Rattle.st_reading.proofs.Phrases.{made}
use Rattle.st_reading.proofs.ListSoundness.{one_mark}
use Rattle.st_reading.proofs.LawfulPhrases.{LawfulPhrase}
use Rattle.st_reading.proofs.Judging.{JudgedAt}
use Rattle.st_reading.proofs.JudgedParts.{judged_as, Turns}
use Rattle.temporal_goals.specs.Texts.{PlainDrawnNode, PlainEdge}
use Rattle.temporal_goals.specs.declared.diagrams.DiagramKind.{DiagramKind}
use Rattle.diagram_reader.specs.Drawn.{Drawing, is_known, is_upward, with_edge}
use Rattle.diagram_reader.specs.Drawing as drawings
use Rattle.diagram_reader.specs.Drawing.{known_of}
use Rattle.diagram_reader.specs.declared.item.Item.TheVariants as items
use Rattle.proof_script.specs.Faults.{drawn}
use Rattle.proof_script.specs.Listing.{Setting, transition_of}
use Rattle.script_grammar.specs.RawScripts.{RawNumber, RawTransition, RawEdge, RawItem, raw_edge}
use Rattle.script_grammar.specs.Sizes.{item_size, marked_size, transition_size}
use Rattle.script_grammar.specs.Drawings.{IsRawEdge, IsReference, spells_edge}
use Rattle.script_grammar.specs.Breaking.{broken_where, found_at, marked_rules}
use Rattle.script_grammar.specs.Rules.{item_rules, known_rules, transition_rules}
use Rattle.script_grammar.specs.FirstFaults.{IsSyntactic, drawing_over}
use Rattle.script_grammar.proofs.RawReferences.{no_dot, reference_lawful}
use Rattle.script_grammar.proofs.JudgedReferences.{said}
use Rattle.script_grammar.proofs.References.{judged_transition}
use Rattle.script_grammar.proofs.JudgedTokens.{by_token, token_judge, judged_token}
use Rattle.script_grammar.proofs.TokenLaws.{judged_known, known_is, knowing, number_at, number_lawful, refused_by}
use Rattle.script_grammar.proofs.JudgedPairs.{both_of, made_lawful, pair_lawful}
use Rattle.script_grammar.proofs.Judges.{Judges, Whatever, pair_so, made_so, seen_so, as_so, place_so, plain_mark_so, weaker_so, regroup}
use Rattle.script_grammar.proofs.MarkedItems.{further_none, items_lawful, items_front, items_or_next}
use Rattle.script_grammar.proofs.JudgedLists.{alike_so}
use Rattle.script_grammar.proofs.Citations.{loose_lawful}
use Rattle.script_grammar.proofs.NamedSteps.{semicolon, semicolon_lawful}
use Rattle.script_grammar.proofs.Unbroken.{same4}
use Rattle.script_grammar.proofs.DrawnMarks.{arrow_mark, edge_mark, on_mark, Adds}
use Rattle.script_grammar.proofs.DrawnReaders.{drawn_then, drawn_expected, drawn_further, drawn_unless, known_drawn, number_drawn, transition_number}

-- "edge" ..
pub data EdgeItem : List Lexeme → RawItem → Type 0 where
  edge_item : (t : Lexeme) (ts : List Lexeme) (e : RawEdge) → Is marks.Edge t → IsRawEdge ts e → EdgeItem (t ∷ ts) (raw_edge t.start e)

-- trans { "," trans } ";"
pub comma_undotted : no_dot (signs.Marked marks.Comma) ≡ true
unfolding number
comma_undotted = refl

pub semicolon_not_comma : Within semicolon (but marks.Comma)
unfolding number
semicolon_not_comma = marks_within (but marks.Comma) (marks.Semicolon ∷ []) refl

pub semicolon_undotted : Within semicolon no_dot
unfolding number
semicolon_undotted = marks_within no_dot (marks.Semicolon ∷ []) refl

abbrev pub more_front : Sign → Bool
more_front = items_front marks.Comma is_name no_dot semicolon comma_undotted semicolon_not_comma semicolon_undotted reference_lawful

abbrev pub more_lawful : LawfulPhrase Breach (List RawTransition) more_front semicolon
more_lawful = items_lawful marks.Comma is_name no_dot semicolon comma_undotted semicolon_not_comma semicolon_undotted reference_lawful

pub more_or_next : Within semicolon more_front
more_or_next g h = items_or_next marks.Comma is_name no_dot semicolon comma_undotted semicolon_not_comma semicolon_undotted reference_lawful g h

pub more_undotted : Within more_front no_dot
more_undotted g h = at_test (is g marks.Comma) refl h
  where
    at_test : (b : Bool) → is g marks.Comma ≡ b → (b || semicolon g) ≡ true → no_dot g ≡ true
    at_test true e k = ap no_dot (is_marked g marks.Comma e) ∙ comma_undotted
    at_test false e k = semicolon_undotted g k

abbrev pub closed_lawful : LawfulPhrase Breach (List RawTransition × ℕ) more_front anything
closed_lawful = pair_lawful more_front semicolon semicolon anything (λ g h. h) refl more_lawful (wider more_or_next) semicolon_lawful refl

pub closed_needs : closed_lawful.phrase.reader (ends 0) ≡ Err (syntax 0)
closed_needs = bind_ok more_lawful.phrase.reader (λ xs. then_reads (expected marks.Semicolon) (λ m. gives (both_of xs m))) (ends 0) [] (ends 0) (further_none marks.Comma reference_lawful.phrase.reader reference_lawful.lawful.one [] (ends 0) refl)

abbrev pub first_lawful : LawfulPhrase Breach (RawTransition × (List RawTransition × ℕ)) is_name anything
first_lawful = pair_lawful is_name no_dot more_front anything more_undotted refl reference_lawful (moves refl (syntax 0) refl) closed_lawful closed_needs

abbrev pub on_lawful : LawfulPhrase Breach (ℕ × (RawTransition × (List RawTransition × ℕ))) (among (marks.On ∷ [])) anything
on_lawful = pair_lawful (among (marks.On ∷ [])) anything is_name anything (λ g h. refl) refl on_mark (moves refl (syntax 0) refl) first_lawful refl

abbrev pub to_lawful : LawfulPhrase Breach (RawNumber × (ℕ × (RawTransition × (List RawTransition × ℕ)))) anything anything
to_lawful = pair_lawful anything anything (among (marks.On ∷ [])) anything (λ g h. refl) refl number_lawful (wider (λ g h. refl)) on_lawful refl

abbrev pub arrow_lawful : LawfulPhrase Breach (ℕ × (RawNumber × (ℕ × (RawTransition × (List RawTransition × ℕ))))) (among (marks.Implies ∷ [])) anything
arrow_lawful = loose_lawful (among (marks.Implies ∷ [])) anything anything anything (λ g h. refl) arrow_mark (moves refl (syntax 0) refl) to_lawful (λ g h. refl) (λ g h. refl)

abbrev pub from_lawful : LawfulPhrase Breach (RawNumber × (ℕ × (RawNumber × (ℕ × (RawTransition × (List RawTransition × ℕ)))))) anything anything
from_lawful = pair_lawful anything anything (among (marks.Implies ∷ [])) anything (λ g h. refl) refl number_lawful (wider (λ g h. refl)) arrow_lawful refl

abbrev pub edge_parts : LawfulPhrase Breach (ℕ × (RawNumber × (ℕ × (RawNumber × (ℕ × (RawTransition × (List RawTransition × ℕ))))))) (among (marks.Edge ∷ [])) anything
edge_parts = loose_lawful (among (marks.Edge ∷ [])) anything anything anything (λ g h. refl) edge_mark (moves refl (syntax 0) refl) from_lawful (λ g h. refl) (λ g h. refl)

abbrev pub the_raw_edge : ℕ × (RawNumber × (ℕ × (RawNumber × (ℕ × (RawTransition × (List RawTransition × ℕ)))))) → RawItem
the_raw_edge q = raw_edge q.0 (record { from = q.1.0; to = q.1.1.1.0; on = q.1.1.1.1.1.0 ∷ q.1.1.1.1.1.1.0 })

abbrev pub edge_lawful : LawfulPhrase Breach RawItem (among (marks.Edge ∷ [])) anything
edge_lawful = made_lawful (among (marks.Edge ∷ [])) anything the_raw_edge edge_parts (moves refl (syntax 0) refl)

pub to_edge : (ts : List Lexeme) (x : RawItem) → edge_lawful.phrase.language ts x → EdgeItem ts x
to_edge ts x (made us q (behind_it a0 b0 p0 z0 (one_mark t e) (made k0 j0 (behind_it a b i z1 li (made k1 j1 (behind_it a1 c m z2 (one_mark v f) (made k2 j2 (behind_it d h j z3 lj (made k3 j3 (behind_it a2 o n z4 (one_mark w k) (made k4 j4 (behind_it r1 r2 x1 z5 lx (made k5 j5 (behind_it y1 y2 xs z6 ly (made k6 j6 (one_mark s es)))))))))))))))) =
    edge_item t (a ++ (v ∷ (d ++ (w ∷ (r1 ++ (y1 ++ s ∷ [])))))) (record { from = i; to = j; on = x1 ∷ xs }) e
    (subst (λ (z : List Lexeme). IsRawEdge (a ++ (v ∷ (d ++ (w ∷ z)))) (record { from = i; to = j; on = x1 ∷ xs })) (append_assoc r1 y1 (s ∷ []))
    (spells_edge a (v ∷ d) (w ∷ (r1 ++ y1)) s i j (x1 ∷ xs) li (after_mark v d j f lj) (after_mark w (r1 ++ y1) (x1 ∷ xs) k (row r1 y1 x1 xs lx ly)) es))

pub from_edge : (ts : List Lexeme) (x : RawItem) → EdgeItem ts x → edge_lawful.phrase.language ts x
from_edge ts x (edge_item t us eo e (spells_edge a b c s i j on li (after_mark v d j2 f lj) (after_mark w g0 on2 k (row r1 y1 x1 xs lx ly)) es)) =
    subst (λ (z : List Lexeme). edge_lawful.phrase.language (t ∷ (a ++ (v ∷ (d ++ (w ∷ z))))) (raw_edge t.start (record { from = i; to = j; on = x1 ∷ xs }))) (sym (append_assoc r1 y1 (s ∷ [])))
    (made (t ∷ (a ++ (v ∷ (d ++ (w ∷ (r1 ++ (y1 ++ s ∷ []))))))) (both_of t.start (both_of i (both_of v.start (both_of j (both_of w.start (both_of x1 (both_of xs s.start)))))))
    (behind_it (t ∷ []) (a ++ (v ∷ (d ++ (w ∷ (r1 ++ (y1 ++ s ∷ [])))))) t.start (both_of t.start (both_of i (both_of v.start (both_of j (both_of w.start (both_of x1 (both_of xs s.start))))))) (one_mark t e)
    (made (a ++ (v ∷ (d ++ (w ∷ (r1 ++ (y1 ++ s ∷ [])))))) (both_of i (both_of v.start (both_of j (both_of w.start (both_of x1 (both_of xs s.start)))))) (behind_it a (v ∷ (d ++ (w ∷ (r1 ++ (y1 ++ s ∷ []))))) i (both_of i (both_of v.start (both_of j (both_of w.start (both_of x1 (both_of xs s.start)))))) li
    (made (v ∷ (d ++ (w ∷ (r1 ++ (y1 ++ s ∷ []))))) (both_of v.start (both_of j (both_of w.start (both_of x1 (both_of xs s.start))))) (behind_it (v ∷ []) (d ++ (w ∷ (r1 ++ (y1 ++ s ∷ [])))) v.start (both_of v.start (both_of j (both_of w.start (both_of x1 (both_of xs s.start))))) (one_mark v f)
    (made (d ++ (w ∷ (r1 ++ (y1 ++ s ∷ [])))) (both_of j (both_of w.start (both_of x1 (both_of xs s.start)))) (behind_it d (w ∷ (r1 ++ (y1 ++ s ∷ []))) j (both_of j (both_of w.start (both_of x1 (both_of xs s.start)))) lj
    (made (w ∷ (r1 ++ (y1 ++ s ∷ []))) (both_of w.start (both_of x1 (both_of xs s.start))) (behind_it (w ∷ []) (r1 ++ (y1 ++ s ∷ [])) w.start (both_of w.start (both_of x1 (both_of xs s.start))) (one_mark w k)
    (made (r1 ++ (y1 ++ s ∷ [])) (both_of x1 (both_of xs s.start)) (behind_it r1 (y1 ++ s ∷ []) x1 (both_of x1 (both_of xs s.start)) lx
    (made (y1 ++ s ∷ []) (both_of xs s.start) (behind_it y1 (s ∷ []) xs (both_of xs s.start) ly (made (s ∷ []) s.start (one_mark s es))))))))))))))))

-- THE TARGET, which may not stand higher
module _ (kind : DiagramKind) (nodes : List PlainDrawnNode) (from place : ℕ) where
  abbrev pub aiming : RawNumber → Result ℕ Breach
  aiming n = refused_by (not (is_known n.number nodes)) (broke rules.UnknownNode n.place) (refused_by (is_upward kind from n.number) (broke rules.Upward place) (Ok n.number))

  abbrev pub aim_rules : ℕ → RawNumber → List (Broken Breach)
  aim_rules at n = known_rules nodes at n ++ broken_where (is_upward kind from n.number) (at + 1) (broke rules.Upward place)

  abbrev pub aimed : Reader ℕ
  aimed = then_reads (known_of nodes) (λ j. unless (is_upward kind from j) (broke rules.Upward place) j)

  aim_is : (s : Stream) → aimed s ≡ token_judge number_at aiming s
  aim_is s = ap (λ (r : Read Breach ℕ). r >>= λ j. unless (is_upward kind from j.0) (broke rules.Upward place) j.0 j.1) (known_is nodes s) ∙ at_read (by_token number_at s)
    where
      at_tests : (n : RawNumber) (m : Stream) (b c : Bool) → is_upward kind from n.number ≡ c
          → (said (refused_by b (broke rules.UnknownNode n.place) (Ok n.number)) m >>= λ j. unless (is_upward kind from j.0) (broke rules.Upward place) j.0 j.1) ≡ said (refused_by b (broke rules.UnknownNode n.place) (refused_by c (broke rules.Upward place) (Ok n.number))) m
      at_tests n m true c e = refl
      at_tests n m false true e = rw e refl
      at_tests n m false false e = rw e refl

      at_read : (r : Read Breach RawNumber) → ((r >>= λ x. said (knowing nodes x.0) x.1) >>= λ j. unless (is_upward kind from j.0) (broke rules.Upward place) j.0 j.1) ≡ (r >>= λ x. said (aiming x.0) x.1)
      at_read (Ok x) = at_tests x.0 x.1 (not (is_known x.0.number nodes)) (is_upward kind from x.0.number) refl
      at_read (Err f) = refl

  aim_kept : (at : ℕ) (n : RawNumber) (k : ℕ) → aiming n ≡ Ok k → aim_rules at n ≡ []
  aim_kept at n k h = at_tests (not (is_known n.number nodes)) (is_upward kind from n.number) h
    where
      at_tests : (b c : Bool) → refused_by b (broke rules.UnknownNode n.place) (refused_by c (broke rules.Upward place) (Ok n.number)) ≡ Ok k → broken_where b (at + 1) (broke rules.UnknownNode n.place) ++ broken_where c (at + 1) (broke rules.Upward place) ≡ []
      at_tests true c e = absurd cc
      at_tests false true e = absurd cc
      at_tests false false e = refl

  aim_told : (at : ℕ) (n : RawNumber) (f : Breach) → aiming n ≡ Err f → (further : List (Broken Breach)) × (aim_rules at n ≡ found_at (at + 1) f ∷ further)
  aim_told at n f h = at_tests (not (is_known n.number nodes)) (is_upward kind from n.number) h
    where
      at_tests : (b c : Bool) → refused_by b (broke rules.UnknownNode n.place) (refused_by c (broke rules.Upward place) (Ok n.number)) ≡ Err f
          → (further : List (Broken Breach)) × (broken_where b (at + 1) (broke rules.UnknownNode n.place) ++ broken_where c (at + 1) (broke rules.Upward place) ≡ found_at (at + 1) f ∷ further)
      at_tests true c e = (broken_where c (at + 1) (broke rules.Upward place), ap (λ z. found_at (at + 1) z ∷ broken_where c (at + 1) (broke rules.Upward place)) (let same : broke rules.UnknownNode n.place ≡ f = cc in same))
      at_tests false true e = ([], ap (λ z. found_at (at + 1) z ∷ []) (let same : broke rules.Upward place ≡ f = cc in same))
      at_tests false false e = absurd cc

  pub aim_so : Judges anything aimed number_lawful.phrase.reader (λ n. 1) aim_rules (λ n k. aiming n ≡ Ok k)
  aim_so = as_so aimed number_lawful.phrase.reader aim_is (λ s. refl) (record { judged = λ at s. judged_token number_at aiming aim_rules aim_kept aim_told anything at s })

-- what is known is the number that is read
pub knowing_is : (nodes : List PlainDrawnNode) (n : RawNumber) (k : ℕ) → knowing nodes n ≡ Ok k → n.number ≡ k
knowing_is nodes n k h = at_test (not (is_known n.number nodes)) h
  where
    at_test : (b : Bool) → refused_by b (broke rules.UnknownNode n.place) (Ok n.number) ≡ Ok k → n.number ≡ k
    at_test true e = absurd cc
    at_test false e = let same : n.number ≡ k = cc in same

-- JUDGED
module _ (g : Setting) (kind : DiagramKind) (highest : ℕ) (d : Drawing) where
  abbrev the_edge : ℕ → ℕ → List ℕ → PlainEdge
  the_edge i j on = record { from = i; to = j; on = on }

  abbrev taken : Reader ℕ
  taken = transition_number g kind highest

  abbrev closed : ℕ → ℕ → List ℕ → Reader PlainEdge
  closed i j on = then_reads (expected marks.Semicolon) (λ z. gives (the_edge i j on))

  abbrev more_taken : ℕ → Reader (List ℕ)
  more_taken n = further marks.Comma taken (n ∷ [])

  abbrev listed : ℕ → ℕ → ℕ → Reader PlainEdge
  listed i j n = then_reads (more_taken n) (λ on. closed i j on)

  abbrev first : ℕ → ℕ → Reader PlainEdge
  first i j = then_reads taken (λ n. listed i j n)

  abbrev behind_on : ℕ → ℕ → Reader PlainEdge
  behind_on i j = then_reads (expected marks.On) (λ m. first i j)

  abbrev aim : ℕ → ℕ → Reader PlainEdge
  aim place i = then_reads (aimed kind d.nodes i place) (λ j. behind_on i j)

  abbrev arrow : ℕ → ℕ → Reader PlainEdge
  arrow place i = then_reads (expected marks.Implies) (λ m. aim place i)

  abbrev begun : ℕ → Reader PlainEdge
  begun place = then_reads (known_of d.nodes) (λ i. arrow place i)

  abbrev added : ℕ → Reader Drawing
  added place = then_reads (begun place) (λ e. gives (with_edge e d))

  abbrev pub edge_judge : Reader Drawing
  edge_judge = then_reads (expected marks.Edge) added

  abbrev on_rules : ℕ → RawTransition → ℕ → List RawTransition → List (Broken Breach)
  on_rules n x m xs = transition_rules g n x ++ (marked_rules transition_size (transition_rules g) m xs ++ [])

  taken_so : Judges no_dot taken reference_lawful.phrase.reader transition_size (transition_rules g) Whatever
  taken_so = made_so (λ t. t.0) Whatever (λ b a m. tt) (record { judged = λ at s. judged_transition g at s })

  closed_so : (i j : ℕ) (n : ℕ) → Judges anything (listed i j n) closed_lawful.phrase.reader (λ q. marked_size transition_size q.0 + 1) (λ at q. marked_rules transition_size (transition_rules g) at q.0 ++ []) Whatever
  closed_so i j n =
      pair_so {makes = Whatever} (λ g h. h) semicolon_lawful (moves refl (syntax 0) refl)
      (alike_so marks.Comma is_name no_dot semicolon comma_undotted semicolon_not_comma semicolon_undotted reference_lawful (moves refl (syntax 0) refl) transition_size (transition_rules g) taken Whatever taken_so (n ∷ []))
      (λ xs on m. weaker_so Whatever (λ z a k. tt) (plain_mark_so marks.Semicolon (the_edge i j on)))

  first_so : (i j : ℕ) → Judges anything (first i j) first_lawful.phrase.reader (λ q. transition_size q.0 + (marked_size transition_size q.1.0 + 1)) (λ at q. on_rules at q.0 (at + transition_size q.0) q.1.0) Whatever
  first_so i j = pair_so {makes = Whatever} more_undotted closed_lawful (moves refl (syntax 0) closed_needs) taken_so (λ x n m. closed_so i j n)

  on_so : (i j : ℕ) → Judges anything (behind_on i j) on_lawful.phrase.reader (λ q. 1 + (transition_size q.1.0 + (marked_size transition_size q.1.1.0 + 1))) (λ at q. [] ++ on_rules (at + 1) q.1.0 ((at + 1) + transition_size q.1.0) q.1.1.0) Whatever
  on_so i j = pair_so {makes = Whatever} (λ g h. refl) first_lawful (moves refl (syntax 0) refl) (place_so marks.On) (λ n k m. first_so i j)

  to_so : (place i : ℕ) → Judges anything (aim place i) to_lawful.phrase.reader (λ q. 1 + (1 + (transition_size q.1.1.0 + (marked_size transition_size q.1.1.1.0 + 1))))
      (λ at q. aim_rules kind d.nodes i place at q.0 ++ ([] ++ on_rules ((at + 1) + 1) q.1.1.0 (((at + 1) + 1) + transition_size q.1.1.0) q.1.1.1.0)) Whatever
  to_so place i = pair_so {makes = Whatever} (λ g h. refl) on_lawful (moves refl (syntax 0) refl) (aim_so kind d.nodes i place) (λ n j m. on_so i j)

  arrow_so : (place i : ℕ) → Judges anything (arrow place i) arrow_lawful.phrase.reader (λ q. 1 + (1 + (1 + (transition_size q.1.1.1.0 + (marked_size transition_size q.1.1.1.1.0 + 1)))))
      (λ at q. [] ++ (aim_rules kind d.nodes i place (at + 1) q.1.0 ++ ([] ++ on_rules (((at + 1) + 1) + 1) q.1.1.1.0 ((((at + 1) + 1) + 1) + transition_size q.1.1.1.0) q.1.1.1.1.0))) Whatever
  arrow_so place i = pair_so {makes = Whatever} (λ g h. refl) to_lawful (wider (λ g h. refl)) (place_so marks.Implies) (λ n k m. to_so place i)

  begun_so : (place : ℕ) → Judges anything (begun place) from_lawful.phrase.reader (λ q. 1 + (1 + (1 + (1 + (transition_size q.1.1.1.1.0 + (marked_size transition_size q.1.1.1.1.1.0 + 1))))))
      (λ at q. known_rules d.nodes at q.0 ++ ([] ++ (aim_rules kind d.nodes q.0.number place ((at + 1) + 1) q.1.1.0 ++ ([] ++ on_rules ((((at + 1) + 1) + 1) + 1) q.1.1.1.1.0 (((((at + 1) + 1) + 1) + 1) + transition_size q.1.1.1.1.0) q.1.1.1.1.1.0)))) Whatever
  begun_so place =
      pair_so {rules2 = λ b at q. [] ++ (aim_rules kind d.nodes b.number place (at + 1) q.1.0 ++ ([] ++ on_rules (((at + 1) + 1) + 1) q.1.1.1.0 ((((at + 1) + 1) + 1) + transition_size q.1.1.1.0) q.1.1.1.1.0))} {makes = Whatever} (λ g h. refl) arrow_lawful (moves refl (syntax 0) refl)
      (record { judged = λ at s. judged_known d.nodes at s })
      (λ n i m. subst (λ k. Judges anything (arrow place k) arrow_lawful.phrase.reader (λ q. 1 + (1 + (1 + (transition_size q.1.1.1.0 + (marked_size transition_size q.1.1.1.1.0 + 1)))))
      (λ at q. [] ++ (aim_rules kind d.nodes n.number place (at + 1) q.1.0 ++ ([] ++ on_rules (((at + 1) + 1) + 1) q.1.1.1.0 ((((at + 1) + 1) + 1) + transition_size q.1.1.1.0) q.1.1.1.1.0))) Whatever) (knowing_is d.nodes n i m) (arrow_so place n.number))

  -- an edge more is drawn
  abbrev Joins : {B : Type 0} → B → Drawing → Type 0
  Joins b y = (x : PlainEdge) × (y ≡ with_edge x d)

  added_so : (place : ℕ) → Judges anything (added place) from_lawful.phrase.reader (λ q. 1 + (1 + (1 + (1 + (transition_size q.1.1.1.1.0 + (marked_size transition_size q.1.1.1.1.1.0 + 1))))))
      (λ at q. known_rules d.nodes at q.0 ++ ([] ++ (aim_rules kind d.nodes q.0.number place ((at + 1) + 1) q.1.1.0 ++ ([] ++ on_rules ((((at + 1) + 1) + 1) + 1) q.1.1.1.1.0 (((((at + 1) + 1) + 1) + 1) + transition_size q.1.1.1.1.0) q.1.1.1.1.1.0)))) Joins
  added_so place = made_so (λ e. with_edge e d) Joins (λ q e m. (e, refl)) (begun_so place)

  edge_ruled : (at : ℕ) (q : ℕ × (RawNumber × (ℕ × (RawNumber × (ℕ × (RawTransition × (List RawTransition × ℕ))))))) → item_rules g kind highest d at (the_raw_edge q)
      ≡ [] ++ (known_rules d.nodes (at + 1) q.1.0 ++ ([] ++ (aim_rules kind d.nodes q.1.0.number q.0 (((at + 1) + 1) + 1) q.1.1.1.0 ++ ([] ++ on_rules (((((at + 1) + 1) + 1) + 1) + 1) q.1.1.1.1.1.0 ((((((at + 1) + 1) + 1) + 1) + 1) + transition_size q.1.1.1.1.1.0) q.1.1.1.1.1.1.0))))
  edge_ruled at q =
      let i = q.1.0 in
      let j = q.1.1.1.0 in
      let x = q.1.1.1.1.1.0 in
      let xs = q.1.1.1.1.1.1.0 in
      let e1 : at + 1 + 2 ≡ ((at + 1) + 1) + 1 = omega arith in
      let e2 : at + 1 + 3 ≡ (((at + 1) + 1) + 1) + 1 = omega arith in
      let e3 : at + 1 + 3 + 1 ≡ ((((at + 1) + 1) + 1) + 1) + 1 = omega arith in
      let e4 : at + 1 + 3 + (1 + transition_size x) ≡ (((((at + 1) + 1) + 1) + 1) + 1) + transition_size x = omega arith in
      ap (λ z. known_rules d.nodes (at + 1) i ++ z)
      (same4 (λ n1 n2 n3 n4. known_rules d.nodes n1 j ++ (broken_where (is_upward kind i.number j.number) n2 (broke rules.Upward q.0) ++ (transition_rules g n3 x ++ marked_rules transition_size (transition_rules g) n4 xs))) e1 e2 e3 e4
      ∙ ap (λ z. known_rules d.nodes (((at + 1) + 1) + 1) j ++ (broken_where (is_upward kind i.number j.number) ((((at + 1) + 1) + 1) + 1) (broke rules.Upward q.0) ++ (transition_rules g (((((at + 1) + 1) + 1) + 1) + 1) x ++ z)))
      (sym (append-nil (marked_rules transition_size (transition_rules g) ((((((at + 1) + 1) + 1) + 1) + 1) + transition_size x) xs)))
      ∙ sym (append_assoc (known_rules d.nodes (((at + 1) + 1) + 1) j) (broken_where (is_upward kind i.number j.number) ((((at + 1) + 1) + 1) + 1) (broke rules.Upward q.0)) (on_rules (((((at + 1) + 1) + 1) + 1) + 1) x ((((((at + 1) + 1) + 1) + 1) + 1) + transition_size x) xs)))

  pub edge_so : Judges anything edge_judge edge_lawful.phrase.reader item_size (item_rules g kind highest d) (Adds d)
  edge_so =
      seen_so the_raw_edge item_size (item_rules g kind highest d) (Adds d) (λ q. omega arith) edge_ruled (λ q y m. m)
      (pair_so {rules2 = λ place at q. known_rules d.nodes at q.0 ++ ([] ++ (aim_rules kind d.nodes q.0.number place ((at + 1) + 1) q.1.1.0 ++ ([] ++ on_rules ((((at + 1) + 1) + 1) + 1) q.1.1.1.1.0 (((((at + 1) + 1) + 1) + 1) + transition_size q.1.1.1.1.0) q.1.1.1.1.1.0)))} {makes = Joins}
      (λ g h. refl) from_lawful (wider (λ g h. refl)) (place_so marks.Edge)
      (λ n k e. subst (λ place. Judges anything (added place) from_lawful.phrase.reader (λ q. 1 + (1 + (1 + (1 + (transition_size q.1.1.1.1.0 + (marked_size transition_size q.1.1.1.1.1.0 + 1))))))
      (λ at q. known_rules d.nodes at q.0 ++ ([] ++ (aim_rules kind d.nodes q.0.number n ((at + 1) + 1) q.1.1.0 ++ ([] ++ on_rules ((((at + 1) + 1) + 1) + 1) q.1.1.1.1.0 (((((at + 1) + 1) + 1) + 1) + transition_size q.1.1.1.1.0) q.1.1.1.1.1.0)))) Joins) (sym e) (added_so n)))

  -- the reader of diagrams does so, behind its first token
  abbrev raw_first : ℕ → ℕ → Reader PlainEdge
  raw_first i j = then_reads (drawings.numbers_of (drawing_over g kind highest)) (λ on. closed i j on)

  abbrev raw_on : ℕ → ℕ → Reader PlainEdge
  raw_on i j = then_reads (expected marks.On) (λ m. raw_first i j)

  abbrev raw_checked : ℕ → ℕ → ℕ → Reader PlainEdge
  raw_checked place i j = then_reads (unless (is_upward kind i j) (broke rules.Upward place) j) (λ j. raw_on i j)

  abbrev raw_aim : ℕ → ℕ → Reader PlainEdge
  raw_aim place i = then_reads (known_of d.nodes) (λ j. raw_checked place i j)

  abbrev raw_arrow : ℕ → ℕ → Reader PlainEdge
  raw_arrow place i = then_reads (expected marks.Implies) (λ m. raw_aim place i)

  abbrev raw_begun : ℕ → Reader PlainEdge
  raw_begun place = then_reads (known_of d.nodes) (λ i. raw_arrow place i)

  abbrev numbers : Reader (List ℕ)
  numbers = then_reads taken more_taken

  numbers_drawn : (s : Stream) → drawn (drawings.numbers_of (drawing_over g kind highest) s) ≡ numbers s
  unfolding drawings.numbers_of
  numbers_drawn s =
      drawn_then (drawings.transition_number_of (drawing_over g kind highest)) taken (λ n. further marks.Comma (drawings.transition_number_of (drawing_over g kind highest)) (n ∷ [])) more_taken (number_drawn g kind highest)
      (λ n k. drawn_further marks.Comma (drawings.transition_number_of (drawing_over g kind highest)) taken (number_drawn g kind highest) (n ∷ []) k) s

  closed_drawn : (i j : ℕ) (on : List ℕ) (s : Stream) → drawn (closed i j on s) ≡ closed i j on s
  closed_drawn i j on s = drawn_then (expected marks.Semicolon) (expected marks.Semicolon) (λ z. gives (the_edge i j on)) (λ z. gives (the_edge i j on)) (drawn_expected marks.Semicolon) (λ z k. refl) s

  first_drawn : (i j : ℕ) (s : Stream) → drawn (raw_first i j s) ≡ first i j s
  first_drawn i j s = drawn_then (drawings.numbers_of (drawing_over g kind highest)) numbers (λ on. closed i j on) (λ on. closed i j on) numbers_drawn (λ on k. closed_drawn i j on k) s ∙ regroup taken more_taken (λ on. closed i j on) s

  on_drawn : (i j : ℕ) (s : Stream) → drawn (raw_on i j s) ≡ behind_on i j s
  on_drawn i j s = drawn_then (expected marks.On) (expected marks.On) (λ m. raw_first i j) (λ m. first i j) (drawn_expected marks.On) (λ m k. first_drawn i j k) s

  abbrev checked : ℕ → ℕ → ℕ → Reader PlainEdge
  checked place i j = then_reads (unless (is_upward kind i j) (broke rules.Upward place) j) (λ j. behind_on i j)

  checked_drawn : (place i j : ℕ) (s : Stream) → drawn (raw_checked place i j s) ≡ checked place i j s
  checked_drawn place i j s =
      drawn_then (unless (is_upward kind i j) (broke rules.Upward place) j) (unless (is_upward kind i j) (broke rules.Upward place) j) (λ j. raw_on i j) (λ j. behind_on i j) (λ k. drawn_unless (is_upward kind i j) rules.Upward place j k) (λ j k. on_drawn i j k) s

  aim_drawn : (place i : ℕ) (s : Stream) → drawn (raw_aim place i s) ≡ aim place i s
  aim_drawn place i s =
      drawn_then (known_of d.nodes) (known_of d.nodes) (λ j. raw_checked place i j) (λ j. checked place i j) (known_drawn d.nodes) (λ j k. checked_drawn place i j k) s
      ∙ sym (regroup (known_of d.nodes) (λ j. unless (is_upward kind i j) (broke rules.Upward place) j) (λ j. behind_on i j) s)

  arrow_drawn : (place i : ℕ) (s : Stream) → drawn (raw_arrow place i s) ≡ arrow place i s
  arrow_drawn place i s = drawn_then (expected marks.Implies) (expected marks.Implies) (λ m. raw_aim place i) (λ m. aim place i) (drawn_expected marks.Implies) (λ m k. aim_drawn place i k) s

  begun_drawn : (place : ℕ) (s : Stream) → drawn (raw_begun place s) ≡ begun place s
  begun_drawn place s = drawn_then (known_of d.nodes) (known_of d.nodes) (λ i. raw_arrow place i) (λ i. arrow place i) (known_drawn d.nodes) (λ i k. arrow_drawn place i k) s

  pub edge_drawn : (t : Lexeme) (s : Stream) → is (sign_of t) marks.Edge ≡ true → drawn (drawings.item_of (drawing_over g kind highest) items.Edge t.start d s) ≡ edge_judge (more t s)
  unfolding drawings.item_of drawings.edge_of
  edge_drawn t s e =
      drawn_then (raw_begun t.start) (begun t.start) (λ x. gives (with_edge x d)) (λ x. gives (with_edge x d)) (begun_drawn t.start) (λ x k. refl) s
      ∙ sym (ap (λ (o : Read Breach ℕ). o >>= λ p. added p.0 p.1) (let k : expected {X = Breach} marks.Edge (more t s) ≡ Ok (t.start, s) = rw e refl in k))
