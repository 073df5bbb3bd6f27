-- Nodes of a drawing, whatever ranks and helpers its kind has.
use Rattle.std.proofs.Common.{◌≡◌, ℕ, ◌+◌, Bool, true, false, cond, not, ◌&&◌, nat_lt, List, [], ◌∷◌, ◌++◌, length, Option, Some, None, Ok, Err, refl, sym, ap, subst, ◌∙◌, arith, append_assoc}
use Rattle.std.specs.Prelude.{is_none}
use Rattle.st_tokens.specs.declared.limit.LimitKind.TheVariants as limits
use Rattle.st_tokens.specs.Stream.{Lexeme, Stream, ends, more}
use Rattle.st_reading.specs.declared.mark.Mark.TheVariants as marks
use Rattle.st_reading.specs.declared.sign.Sign.{Sign}
use Rattle.st_reading.specs.declared.sign.Sign.TheVariants as signs
use Rattle.st_reading.specs.Rule as rules
use Rattle.st_reading.specs.Sign.{sign_of, is}
use Rattle.st_reading.specs.Reading.{Read, ◌>>=◌, other, syntax, expected, gives, then_reads}
use Rattle.st_reading.specs.Breaches.{Breach, Reader, broke, limited, unless}
use Rattle.st_reading.specs.BrokenRules.{Broken}
use Rattle.st_reading.specs.Phrases.{after_mark}
use Rattle.st_reading.specs.Spelling.{Is, behind_it}
use Rattle.st_reading.specs.Steady.{Within, Wide, moves, wider, anything}
use Rattle.st_reading.proofs.Steadiness.{bind_ok}
use Rattle.st_reading.proofs.Tokens.{among}
use Rattle.st_reading.proofs.Phrases.{made}
use Rattle.st_reading.proofs.ListSoundness.{one_mark}
use Rattle.st_reading.proofs.LawfulPhrases.{LawfulPhrase}
use Rattle.st_linear.specs.Linear.{Linear}
use Rattle.st_form.specs.Formula.{Formula}
use Rattle.temporal_goals.specs.Texts.{PlainDrawnNode}
use Rattle.temporal_goals.specs.declared.diagrams.DiagramKind.{DiagramKind}
use Rattle.expression_parser.specs.Calm.{calm}
use Rattle.expression_parser.proofs.FormulaTheorems.{quiet}
use Rattle.expression_typer.specs.Naming.{names_of}
use Rattle.assertions.specs.Reading.{truth_of}
use Rattle.diagram_reader.specs.Drawn.{Drawing, has_helpers, is_above, is_known, with_node}
use Rattle.diagram_reader.specs.Drawing as drawings
use Rattle.diagram_reader.specs.declared.item.Item.TheVariants as items
use Rattle.proof_script.specs.Faults.{drawn}
use Rattle.proof_script.specs.Listing.{Setting, formula_of}
use Rattle.script_grammar.specs.RawScripts.{RawUnit, RawTransition, RawNumber, RawDrawnNode, RawItem, raw_node}
use Rattle.script_grammar.specs.Sizes.{drawn_node_size, item_size, optional_size, transition_size, unit_size}
use Rattle.script_grammar.specs.Drawings.{IsRawDrawnNode, IsRawHelper, IsRawRank, spells_drawn_node}
use Rattle.script_grammar.specs.Breaking.{broken_where, optional_rules}
use Rattle.script_grammar.specs.Rules.{form_rules, helper_rules, item_rules, new_number_rules, sum_rules}
use Rattle.script_grammar.specs.Theorems.{Forms, Sums}
use Rattle.script_grammar.specs.FirstFaults.{drawing_over}
use Rattle.script_grammar.proofs.RawUnits.{raw, raw_lawful}
use Rattle.script_grammar.proofs.UnitLaws.{forms, judged_form, typed_unit}
use Rattle.script_grammar.proofs.TokenLaws.{judged_new, newly, number_lawful, number_placed, refused_by}
use Rattle.script_grammar.proofs.JudgedOptions.{SameThere}
use Rattle.script_grammar.proofs.JudgedPairs.{both_of, made_lawful, pair_lawful}
use Rattle.script_grammar.proofs.Judges.{Judges, Whatever, pair_so, made_so, seen_so, as_so, mark_so, place_so, weaker_so}
use Rattle.script_grammar.proofs.Citations.{loose_lawful, step_end}
use Rattle.script_grammar.proofs.NamedSteps.{semicolon, semicolon_ends, semicolon_lawful}
use Rattle.script_grammar.proofs.Unbroken.{same4}
use Rattle.script_grammar.proofs.DrawnMarks.{colon_mark, node_mark, Adds}
use Rattle.script_grammar.proofs.DrawnReaders.{nothing_read, drawn_then, drawn_expected, drawn_unless, formula_drawn, new_number_drawn}

-- "node" ..
pub data NodeItem (kind : DiagramKind) : List Lexeme → RawItem → Type 0 where
  node_item : (t : Lexeme) (ts : List Lexeme) (n : RawDrawnNode) → Is marks.Node t → IsRawDrawnNode Forms Sums kind ts n → NodeItem kind (t ∷ ts) (raw_node t.start n)

module _ (hf : Sign → Bool) (helper : LawfulPhrase Breach (Option RawTransition) hf step_end) (helper_fits : Within step_end hf) (helper_none : helper.phrase.reader (ends 0) ≡ Ok (None, ends 0)) where
  pub semicolon_fits : Within semicolon hf
  semicolon_fits g h = helper_fits g (semicolon_ends g h)

  -- helper, ";"
  abbrev pub helped_lawful : LawfulPhrase Breach (Option RawTransition × ℕ) hf anything
  helped_lawful = pair_lawful hf step_end semicolon anything semicolon_ends refl helper (wider semicolon_fits) semicolon_lawful refl

  pub helped_needs : helped_lawful.phrase.reader (ends 0) ≡ Err (syntax 0)
  helped_needs = bind_ok helper.phrase.reader (λ h. then_reads (expected marks.Semicolon) (λ z. gives (both_of h z))) (ends 0) None (ends 0) helper_none

  module _ (rf rmid : Sign → Bool) (rank : LawfulPhrase Breach (Option RawUnit) rf rmid) (rank_calm : Within rf calm) (meets : Within hf rmid) (rank_wide : Wide rf hf rmid rank.phrase.reader)
      (ranked_needs : then_reads rank.phrase.reader (λ r. then_reads helped_lawful.phrase.reader (λ h. gives (both_of r h))) (ends 0) ≡ Err (syntax 0)) where
    -- rank, helper, ";"
    abbrev pub ranked_lawful : LawfulPhrase Breach (Option RawUnit × (Option RawTransition × ℕ)) rf anything
    ranked_lawful = pair_lawful rf rmid hf anything meets refl rank rank_wide helped_lawful helped_needs

    abbrev pub formed_lawful : LawfulPhrase Breach (RawUnit × (Option RawUnit × (Option RawTransition × ℕ))) anything anything
    formed_lawful = pair_lawful anything calm rf anything rank_calm refl (raw_lawful forms) (wider (λ g h. refl)) ranked_lawful ranked_needs

    abbrev pub named_lawful : LawfulPhrase Breach (ℕ × (RawUnit × (Option RawUnit × (Option RawTransition × ℕ)))) (among (marks.Colon ∷ [])) anything
    named_lawful = loose_lawful (among (marks.Colon ∷ [])) anything anything anything (λ g h. refl) colon_mark (moves refl (syntax 0) refl) formed_lawful (λ g h. refl) (λ g h. refl)

    abbrev pub numbered_lawful : LawfulPhrase Breach (RawNumber × (ℕ × (RawUnit × (Option RawUnit × (Option RawTransition × ℕ))))) anything anything
    numbered_lawful = pair_lawful anything anything (among (marks.Colon ∷ [])) anything (λ g h. refl) refl number_lawful (wider (λ g h. refl)) named_lawful refl

    abbrev pub node_parts : LawfulPhrase Breach (ℕ × (RawNumber × (ℕ × (RawUnit × (Option RawUnit × (Option RawTransition × ℕ)))))) (among (marks.Node ∷ [])) anything
    node_parts = loose_lawful (among (marks.Node ∷ [])) anything anything anything (λ g h. refl) node_mark (moves refl (syntax 0) refl) numbered_lawful (λ g h. refl) (λ g h. refl)

    abbrev pub the_node : ℕ × (RawNumber × (ℕ × (RawUnit × (Option RawUnit × (Option RawTransition × ℕ))))) → RawItem
    the_node q = raw_node q.0 (record { number = q.1.0; form = q.1.1.1.0; rank = q.1.1.1.1.0; helper = q.1.1.1.1.1.0 })

    abbrev pub node_lawful : LawfulPhrase Breach RawItem (among (marks.Node ∷ [])) anything
    node_lawful = made_lawful (among (marks.Node ∷ [])) anything the_node node_parts (moves refl (syntax 0) refl)

    module _ (kind : DiagramKind) (to_rank : (ts : List Lexeme) (r : Option RawUnit) → rank.phrase.language ts r → IsRawRank Forms Sums kind ts r) (from_rank : (ts : List Lexeme) (r : Option RawUnit) → IsRawRank Forms Sums kind ts r → rank.phrase.language ts r)
        (to_helper : (ts : List Lexeme) (h : Option RawTransition) → helper.phrase.language ts h → IsRawHelper Forms Sums kind ts h) (from_helper : (ts : List Lexeme) (h : Option RawTransition) → IsRawHelper Forms Sums kind ts h → helper.phrase.language ts h) where
      pub to_node : (ts : List Lexeme) (x : RawItem) → node_lawful.phrase.language ts x → NodeItem kind ts x
      to_node ts x (made us q (behind_it a0 b0 p0 z0 (one_mark t e) (made k0 j0 (behind_it a b n z1 ln (made k1 j1 (behind_it a1 c m z2 (one_mark v f) (made k2 j2 (behind_it d i u z3 lu (made k3 j3 (behind_it h o r z4 lr (made k4 j4 (behind_it w y l z5 lh (made k5 j5 (one_mark s es)))))))))))))) =
          node_item t (a ++ (v ∷ (d ++ (h ++ (w ++ s ∷ []))))) (record { number = n; form = u; rank = r; helper = l }) e (spells_drawn_node a (v ∷ d) h w s n u r l ln (after_mark v d u f lu) (to_rank h r lr) (to_helper w l lh) es)

      pub from_node : (ts : List Lexeme) (x : RawItem) → NodeItem kind ts x → node_lawful.phrase.language ts x
      from_node ts x (node_item t us whole e (spells_drawn_node a b h w s n u r l ln (after_mark v d u2 f lu) lr lh es)) =
          made (t ∷ (a ++ (v ∷ (d ++ (h ++ (w ++ s ∷ [])))))) (both_of t.start (both_of n (both_of v.start (both_of u (both_of r (both_of l s.start))))))
          (behind_it (t ∷ []) (a ++ (v ∷ (d ++ (h ++ (w ++ s ∷ []))))) t.start (both_of t.start (both_of n (both_of v.start (both_of u (both_of r (both_of l s.start)))))) (one_mark t e)
          (made (a ++ (v ∷ (d ++ (h ++ (w ++ s ∷ []))))) (both_of n (both_of v.start (both_of u (both_of r (both_of l s.start))))) (behind_it a (v ∷ (d ++ (h ++ (w ++ s ∷ [])))) n (both_of n (both_of v.start (both_of u (both_of r (both_of l s.start))))) ln
          (made (v ∷ (d ++ (h ++ (w ++ s ∷ [])))) (both_of v.start (both_of u (both_of r (both_of l s.start)))) (behind_it (v ∷ []) (d ++ (h ++ (w ++ s ∷ []))) v.start (both_of v.start (both_of u (both_of r (both_of l s.start)))) (one_mark v f)
          (made (d ++ (h ++ (w ++ s ∷ []))) (both_of u (both_of r (both_of l s.start))) (behind_it d (h ++ (w ++ s ∷ [])) u (both_of u (both_of r (both_of l s.start))) lu
          (made (h ++ (w ++ s ∷ [])) (both_of r (both_of l s.start)) (behind_it h (w ++ s ∷ []) r (both_of r (both_of l s.start)) (from_rank h r lr)
          (made (w ++ s ∷ []) (both_of l s.start) (behind_it w (s ∷ []) l (both_of l s.start) (from_helper w l lh) (made (s ∷ []) s.start (one_mark s es)))))))))))))

      -- JUDGED
      module _ (g : Setting) (highest : ℕ) (rank_judge : Reader (Option Linear)) (helper_judge : Reader (Option ℕ)) (rank_so : Judges rmid rank_judge rank.phrase.reader (optional_size unit_size) (optional_rules (sum_rules g)) Whatever)
          (helper_so : Judges step_end helper_judge helper.phrase.reader (optional_size transition_size) (optional_rules (helper_rules g)) SameThere) (d : Drawing) where
        abbrev the_plain : ℕ × ℕ → Formula → Option Linear → Option ℕ → PlainDrawnNode
        the_plain n f r h = record { number = n.0; form = f; rank = r; helper = h }

        abbrev ended : ℕ × ℕ → Formula → Option Linear → Option ℕ → Reader PlainDrawnNode
        ended n f r h = then_reads (expected marks.Semicolon) (λ z. unless (has_helpers kind && is_none h) (broke rules.NoHelper n.1) (the_plain n f r h))

        abbrev helped : ℕ × ℕ → Formula → Option Linear → Reader PlainDrawnNode
        helped n f r = then_reads helper_judge (λ h. ended n f r h)

        abbrev ranked : ℕ × ℕ → Formula → Reader PlainDrawnNode
        ranked n f = then_reads rank_judge (λ r. helped n f r)

        abbrev formed : ℕ × ℕ → Reader PlainDrawnNode
        formed n = then_reads (formula_of g) (λ f. ranked n f)

        abbrev named : ℕ × ℕ → Reader PlainDrawnNode
        named n = then_reads (expected marks.Colon) (λ m. formed n)

        abbrev numbered : Reader PlainDrawnNode
        numbered = then_reads (drawings.new_number_of (drawing_over g kind highest) d.nodes) (λ n. named n)

        abbrev added : Unit {0} → Reader Drawing
        added u = then_reads numbered (λ n. gives (with_node n d))

        abbrev pub node_judge : Reader Drawing
        node_judge = then_reads (then_reads (expected marks.Node) (λ place. unless (not (nat_lt (length d.nodes) 64)) (limited limits.Nodes place) tt)) added

        abbrev no_helper : ℕ → Option RawTransition → ℕ → List (Broken Breach)
        no_helper place h at = broken_where (has_helpers kind && is_none h) at (broke rules.NoHelper place)

        module _ (n : RawNumber) where
          abbrev the_number : ℕ × ℕ
          the_number = number_placed n.number n.place

          abbrev Numbered : {B : Type 0} → B → PlainDrawnNode → Type 0
          Numbered b x = x.number ≡ n.number

          ended_so : (f : Formula) (r : Option Linear) (h : Option ℕ) (l : Option RawTransition) → is_none h ≡ is_none l → Judges anything (ended the_number f r h) semicolon_lawful.phrase.reader (λ z. 1) (λ at z. no_helper n.place l (at + 1)) Numbered
          ended_so f r h l e =
              subst (λ b. Judges anything (ended the_number f r h) semicolon_lawful.phrase.reader (λ z. 1) (λ at z. broken_where (has_helpers kind && b) (at + 1) (broke rules.NoHelper n.place)) Numbered) e
              (weaker_so Numbered (λ z x k. ap (λ (y : PlainDrawnNode). y.number) k) (mark_so marks.Semicolon (has_helpers kind && is_none h) (λ z. broke rules.NoHelper n.place) (the_plain the_number f r h)))

          helped_so : (f : Formula) (r : Option Linear) → Judges anything (helped the_number f r) helped_lawful.phrase.reader (λ q. optional_size transition_size q.0 + 1) (λ at q. optional_rules (helper_rules g) at q.0 ++ no_helper n.place q.0 ((at + optional_size transition_size q.0) + 1)) Numbered
          helped_so f r = pair_so {rules2 = λ l at z. no_helper n.place l (at + 1)} {makes = Numbered} semicolon_ends semicolon_lawful (moves refl (syntax 0) refl) helper_so (λ l h m. ended_so f r h l m)

          ranked_so : (f : Formula) → Judges anything (ranked the_number f) ranked_lawful.phrase.reader (λ q. optional_size unit_size q.0 + (optional_size transition_size q.1.0 + 1))
              (λ at q. optional_rules (sum_rules g) at q.0 ++ (optional_rules (helper_rules g) (at + optional_size unit_size q.0) q.1.0 ++ no_helper n.place q.1.0 (((at + optional_size unit_size q.0) + optional_size transition_size q.1.0) + 1))) Numbered
          ranked_so f = pair_so {makes = Numbered} meets helped_lawful (moves refl (syntax 0) helped_needs) rank_so (λ b r m. helped_so f r)

          form_so : Judges calm (formula_of g) (raw forms) (λ u. u.size) (form_rules g) (λ u f. typed_unit (truth_of (names_of g.names)) u ≡ Ok f)
          form_so = record { judged = λ at s. judged_form g at s }

          formed_so : Judges anything (formed the_number) formed_lawful.phrase.reader (λ q. q.0.size + (optional_size unit_size q.1.0 + (optional_size transition_size q.1.1.0 + 1)))
              (λ at q. form_rules g at q.0 ++ (optional_rules (sum_rules g) (at + q.0.size) q.1.0 ++ (optional_rules (helper_rules g) ((at + q.0.size) + optional_size unit_size q.1.0) q.1.1.0 ++ no_helper n.place q.1.1.0 ((((at + q.0.size) + optional_size unit_size q.1.0) + optional_size transition_size q.1.1.0) + 1)))) Numbered
          formed_so = pair_so {makes = Numbered} rank_calm ranked_lawful (moves refl (syntax 0) ranked_needs) form_so (λ u f m. ranked_so f)

          named_so : Judges anything (named the_number) named_lawful.phrase.reader (λ q. 1 + (q.1.0.size + (optional_size unit_size q.1.1.0 + (optional_size transition_size q.1.1.1.0 + 1))))
              (λ at q. [] ++ (form_rules g (at + 1) q.1.0 ++ (optional_rules (sum_rules g) ((at + 1) + q.1.0.size) q.1.1.0 ++ (optional_rules (helper_rules g) (((at + 1) + q.1.0.size) + optional_size unit_size q.1.1.0) q.1.1.1.0 ++ no_helper n.place q.1.1.1.0 (((((at + 1) + q.1.0.size) + optional_size unit_size q.1.1.0) + optional_size transition_size q.1.1.1.0) + 1))))) Numbered
          named_so = pair_so {makes = Numbered} (λ g h. refl) formed_lawful (wider (λ g h. refl)) (place_so marks.Colon) (λ m k e. formed_so)

        -- the number that is judged is the one that is read
        newly_is : (n : RawNumber) (k : ℕ × ℕ) → newly g kind highest d.nodes n ≡ Ok k → number_placed n.number n.place ≡ k
        newly_is n k h = at_tests (is_known n.number d.nodes) (is_above kind highest n.number) h
          where
            at_tests : (b c : Bool) → refused_by b (broke rules.Twice n.place) (refused_by c (broke rules.UnknownNode n.place) (Ok (number_placed n.number n.place))) ≡ Ok k → number_placed n.number n.place ≡ k
            at_tests true c e = absurd cc
            at_tests false true e = absurd cc
            at_tests false false e = let same : number_placed n.number n.place ≡ k = cc in same

        abbrev node_rules : ℕ → RawNumber × (ℕ × (RawUnit × (Option RawUnit × (Option RawTransition × ℕ)))) → List (Broken Breach)
        node_rules at q =
            new_number_rules kind highest d.nodes at q.0
            ++ ([] ++ (form_rules g ((at + 1) + 1) q.1.1.0 ++ (optional_rules (sum_rules g) (((at + 1) + 1) + q.1.1.0.size) q.1.1.1.0 ++ (optional_rules (helper_rules g) ((((at + 1) + 1) + q.1.1.0.size) + optional_size unit_size q.1.1.1.0) q.1.1.1.1.0
            ++ no_helper q.0.place q.1.1.1.1.0 ((((((at + 1) + 1) + q.1.1.0.size) + optional_size unit_size q.1.1.1.0) + optional_size transition_size q.1.1.1.1.0) + 1)))))

        abbrev node_count : RawNumber × (ℕ × (RawUnit × (Option RawUnit × (Option RawTransition × ℕ)))) → ℕ
        node_count q = 1 + (1 + (q.1.1.0.size + (optional_size unit_size q.1.1.1.0 + (optional_size transition_size q.1.1.1.1.0 + 1))))

        number_so : Judges anything (drawings.new_number_of (drawing_over g kind highest) d.nodes) number_lawful.phrase.reader (λ n. 1) (new_number_rules kind highest d.nodes) (λ n k. newly g kind highest d.nodes n ≡ Ok k)
        number_so = record { judged = λ at s. judged_new g kind highest d.nodes at s }

        numbered_so : Judges anything numbered numbered_lawful.phrase.reader node_count node_rules (λ q x. x.number ≡ q.0.number)
        numbered_so =
            pair_so {makes = λ q x. x.number ≡ q.0.number} (λ g h. refl) named_lawful (moves refl (syntax 0) refl) number_so
            (λ n k m. subst (λ j. Judges anything (named j) named_lawful.phrase.reader (λ q. 1 + (q.1.0.size + (optional_size unit_size q.1.1.0 + (optional_size transition_size q.1.1.1.0 + 1))))
            (λ at q. [] ++ (form_rules g (at + 1) q.1.0 ++ (optional_rules (sum_rules g) ((at + 1) + q.1.0.size) q.1.1.0 ++ (optional_rules (helper_rules g) (((at + 1) + q.1.0.size) + optional_size unit_size q.1.1.0) q.1.1.1.0 ++ no_helper n.place q.1.1.1.0 (((((at + 1) + q.1.0.size) + optional_size unit_size q.1.1.0) + optional_size transition_size q.1.1.1.0) + 1))))) (λ q x. x.number ≡ n.number))
            (newly_is n k m) (named_so n))

        abbrev AddsNode : RawNumber → Drawing → Type 0
        AddsNode n y = (x : PlainDrawnNode) × (y ≡ with_node x d) × (x.number ≡ n.number)

        added_so : (u : Unit {0}) → Judges anything (added u) numbered_lawful.phrase.reader node_count node_rules (λ q y. AddsNode q.0 y)
        added_so u = made_so (λ n. with_node n d) (λ q y. AddsNode q.0 y) (λ q x m. (x, refl, m)) numbered_so

        abbrev rest_rules : RawUnit → Option RawUnit → Option RawTransition → ℕ → ℕ → ℕ → ℕ → ℕ → List (Broken Breach)
        rest_rules f r h place n1 n2 n3 n4 = form_rules g n1 f ++ (optional_rules (sum_rules g) n2 r ++ (optional_rules (helper_rules g) n3 h ++ no_helper place h n4))

        node_ruled : (at : ℕ) (q : ℕ × (RawNumber × (ℕ × (RawUnit × (Option RawUnit × (Option RawTransition × ℕ)))))) → item_rules g kind highest d at (the_node q) ≡ broken_where (not (nat_lt (length d.nodes) 64)) (at + 1) (limited limits.Nodes q.0) ++ node_rules (at + 1) q.1
        node_ruled at q =
            let n = q.1.0 in
            let f = q.1.1.1.0 in
            let r = q.1.1.1.1.0 in
            let h = q.1.1.1.1.1.0 in
            let e1 : at + 1 + 2 ≡ ((at + 1) + 1) + 1 = omega arith in
            let e2 : at + 1 + 2 + f.size ≡ (((at + 1) + 1) + 1) + f.size = omega arith in
            let e3 : at + 1 + 2 + f.size + optional_size unit_size r ≡ ((((at + 1) + 1) + 1) + f.size) + optional_size unit_size r = omega arith in
            let e4 : at + 1 + (2 + f.size + optional_size unit_size r + optional_size transition_size h + 1) ≡ (((((at + 1) + 1) + 1) + f.size) + optional_size unit_size r) + optional_size transition_size h + 1 = omega arith in
            ap (λ z. broken_where (not (nat_lt (length d.nodes) 64)) (at + 1) (limited limits.Nodes q.0) ++ z)
            (ap (λ z. broken_where (is_known n.number d.nodes) ((at + 1) + 1) (broke rules.Twice n.place) ++ (broken_where (is_above kind highest n.number) ((at + 1) + 1) (broke rules.UnknownNode n.place) ++ z)) (same4 (rest_rules f r h n.place) e1 e2 e3 e4)
            ∙ sym (append_assoc (broken_where (is_known n.number d.nodes) ((at + 1) + 1) (broke rules.Twice n.place)) (broken_where (is_above kind highest n.number) ((at + 1) + 1) (broke rules.UnknownNode n.place))
            (rest_rules f r h n.place (((at + 1) + 1) + 1) ((((at + 1) + 1) + 1) + f.size) (((((at + 1) + 1) + 1) + f.size) + optional_size unit_size r) ((((((at + 1) + 1) + 1) + f.size) + optional_size unit_size r) + optional_size transition_size h + 1))))

        pub node_so : Judges anything node_judge node_lawful.phrase.reader item_size (item_rules g kind highest d) (Adds d)
        node_so =
            seen_so the_node item_size (item_rules g kind highest d) (Adds d) (λ q. omega arith) node_ruled (λ q y m. m)
            (pair_so {makes = λ q y. AddsNode q.1.0 y} (λ g h. refl) numbered_lawful (wider (λ g h. refl)) (mark_so marks.Node (not (nat_lt (length d.nodes) 64)) (λ place. limited limits.Nodes place) tt) (λ n u m. added_so u))

        -- the reader of diagrams does so, behind its first token
        module _ (rank_drawn : (s : Stream) → drawn (drawings.rank_of (drawing_over g kind highest) s) ≡ rank_judge s) (helper_drawn : (s : Stream) → drawn (drawings.helper_of (drawing_over g kind highest) s) ≡ helper_judge s) where
          abbrev raw_helped : ℕ × ℕ → Formula → Option Linear → Reader PlainDrawnNode
          raw_helped n f r = then_reads (drawings.helper_of (drawing_over g kind highest)) (λ h. ended n f r h)

          abbrev raw_ranked : ℕ × ℕ → Formula → Reader PlainDrawnNode
          raw_ranked n f = then_reads (drawings.rank_of (drawing_over g kind highest)) (λ r. raw_helped n f r)

          abbrev raw_formed : ℕ × ℕ → Reader PlainDrawnNode
          raw_formed n = then_reads (drawings.formula_of (drawing_over g kind highest)) (λ f. raw_ranked n f)

          abbrev raw_named : ℕ × ℕ → Reader PlainDrawnNode
          raw_named n = then_reads (expected marks.Colon) (λ m. raw_formed n)

          abbrev raw_numbered : Reader PlainDrawnNode
          raw_numbered = then_reads (drawings.new_number_of (drawing_over g kind highest) d.nodes) (λ n. raw_named n)

          ended_drawn : (n : ℕ × ℕ) (f : Formula) (r : Option Linear) (h : Option ℕ) (s : Stream) → drawn (ended n f r h s) ≡ ended n f r h s
          ended_drawn n f r h s =
              drawn_then (expected marks.Semicolon) (expected marks.Semicolon) (λ z. unless (has_helpers kind && is_none h) (broke rules.NoHelper n.1) (the_plain n f r h)) (λ z. unless (has_helpers kind && is_none h) (broke rules.NoHelper n.1) (the_plain n f r h))
              (drawn_expected marks.Semicolon) (λ z k. drawn_unless (has_helpers kind && is_none h) rules.NoHelper n.1 (the_plain n f r h) k) s

          helped_drawn : (n : ℕ × ℕ) (f : Formula) (r : Option Linear) (s : Stream) → drawn (raw_helped n f r s) ≡ helped n f r s
          helped_drawn n f r s = drawn_then (drawings.helper_of (drawing_over g kind highest)) helper_judge (λ h. ended n f r h) (λ h. ended n f r h) helper_drawn (λ h k. ended_drawn n f r h k) s

          ranked_drawn : (n : ℕ × ℕ) (f : Formula) (s : Stream) → drawn (raw_ranked n f s) ≡ ranked n f s
          ranked_drawn n f s = drawn_then (drawings.rank_of (drawing_over g kind highest)) rank_judge (λ r. raw_helped n f r) (λ r. helped n f r) rank_drawn (λ r k. helped_drawn n f r k) s

          formed_drawn : (n : ℕ × ℕ) (s : Stream) → drawn (raw_formed n s) ≡ formed n s
          formed_drawn n s = drawn_then (drawings.formula_of (drawing_over g kind highest)) (formula_of g) (λ f. raw_ranked n f) (λ f. ranked n f) (formula_drawn g kind highest) (λ f k. ranked_drawn n f k) s

          named_drawn : (n : ℕ × ℕ) (s : Stream) → drawn (raw_named n s) ≡ named n s
          named_drawn n s = drawn_then (expected marks.Colon) (expected marks.Colon) (λ m. raw_formed n) (λ m. formed n) (drawn_expected marks.Colon) (λ m k. formed_drawn n k) s

          numbered_drawn : (s : Stream) → drawn (raw_numbered s) ≡ numbered s
          numbered_drawn s =
              drawn_then (drawings.new_number_of (drawing_over g kind highest) d.nodes) (drawings.new_number_of (drawing_over g kind highest) d.nodes) (λ n. raw_named n) (λ n. named n) (new_number_drawn g kind highest d.nodes) (λ n k. named_drawn n k) s

          pub node_drawn : (t : Lexeme) (s : Stream) → is (sign_of t) marks.Node ≡ true → drawn (drawings.item_of (drawing_over g kind highest) items.Node t.start d s) ≡ node_judge (more t s)
          unfolding drawings.item_of drawings.node_of drawings.numbered_node_of
          node_drawn t s e =
              at_test (nat_lt (length d.nodes) 64)
              ∙ sym (ap (λ (o : Read Breach ℕ). (o >>= λ p. unless (not (nat_lt (length d.nodes) 64)) (limited limits.Nodes p.0) tt p.1) >>= λ u. added u.0 u.1) (let k : expected {X = Breach} marks.Node (more t s) ≡ Ok (t.start, s) = rw e refl in k))
            where
              at_test : (b : Bool) → drawn (cond b (raw_numbered s) (Err (other (limited limits.Nodes t.start))) >>= λ n. gives (with_node n.0 d) n.1) ≡ (cond (not b) (Err (other (limited limits.Nodes t.start))) (nothing_read s) >>= λ u. added u.0 u.1)
              at_test false = refl
              at_test true = drawn_then raw_numbered numbered (λ n. gives (with_node n d)) (λ n. gives (with_node n d)) numbered_drawn (λ n k. refl) s
