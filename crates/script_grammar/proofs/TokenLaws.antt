-- Citations, and the numbers of nodes: refused exactly at their first fault.
use Rattle.std.proofs.Common.{◌≡◌, ℕ, suc, ◌+◌, Bool, true, false, cond, List, [], ◌∷◌, ◌++◌, Option, Some, None, Result, Ok, Err, refl, sym, ap, ◌∙◌, not, nat_lt, length, position, slice_get, arith}
use Rattle.std.specs.Prelude.{if◌then◌else◌}
use Rattle.std.specs.Option.{option_map}
use Rattle.std.specs.List.{position_or_len}
use Rattle.std.specs.Str.{bytes_eq}
use Rattle.std.proofs.lemmas.Bool.Decides.{nat_tests}
use Rattle.std.proofs.lemmas.Slice.Eq.{bytes_eq-Decides}
use Rattle.st_tokens.specs.Stream.{◌++>◌, Lexeme, Stream, ends, breaks, more}
use Rattle.st_reading.specs.declared.sign.Sign.{Sign}
use Rattle.st_reading.specs.declared.sign.Sign.TheVariants as signs
use Rattle.st_reading.specs.Sign.{sign_of}
use Rattle.st_reading.specs.Rule as rules
use Rattle.st_reading.specs.Reading.{Read, ◌>>=◌, Stop, other, Label, ahead, is_name, label_of, named, gives, refusal, then_reads, on_operator}
use Rattle.st_reading.specs.Breaches.{Breach, Reader, broke, numeral_in, numeral_of, present, unless}
use Rattle.st_reading.specs.BrokenRules.{Broken}
use Rattle.st_reading.specs.Spelling.{Cut, Sound, OneName}
use Rattle.st_reading.specs.Steady.{Viable, SteadyAt, anything}
use Rattle.st_reading.proofs.Spelled.{one_spelled}
use Rattle.st_reading.proofs.Soundness.{sound_shrinks, taken}
use Rattle.st_reading.proofs.Steadiness.{at_one, at_stuck}
use Rattle.st_reading.proofs.ListCompleteness.{Complete}
use Rattle.st_reading.proofs.JudgedParts.{judged_as}
use Rattle.st_reading.proofs.Judging.{JudgedAt}
use Rattle.st_reading.proofs.LawfulPhrases.{LawfulPhrase, name_lawful}
use Rattle.st_program.specs.Names.{names_in}
use Rattle.temporal_goals.specs.Texts.{PlainDrawnNode, PlainStep}
use Rattle.temporal_goals.specs.declared.diagrams.DiagramKind.{DiagramKind}
use Rattle.expression_parser.proofs.Quiet.{zero_token, zero_spelled}
use Rattle.expression_typer.specs.Naming.{is_text, variable_at, variable_named}
use Rattle.diagram_reader.specs.Drawing.{known_of, new_number_of}
use Rattle.diagram_reader.specs.Drawn as diagrams
use Rattle.diagram_reader.specs.Drawn.{is_above, is_known}
use Rattle.proof_script.specs.Listing.{Setting}
use Rattle.proof_script.specs.Steps.{Earlier, cited_of, earlier_of, is_invariance, step_named}
use Rattle.script_grammar.specs.RawScripts.{RawNumber}
use Rattle.script_grammar.specs.Drawings.{IsNumeral, spells_numeral}
use Rattle.script_grammar.specs.Meaning.{lemma_called, one_later, step_called}
use Rattle.script_grammar.specs.Breaking.{broken_where, found_at}
use Rattle.script_grammar.specs.Rules.{cited_rules, known_rules, lemma_rules, new_number_rules}
use Rattle.script_grammar.specs.FirstFaults.{IsSyntactic, CitationsFirstFault, KnownNumbersFirstFault, NewNumbersFirstFault, drawing_over}
use Rattle.script_grammar.proofs.RawReferences.{name_token, name_spelled}
use Rattle.script_grammar.proofs.JudgedReferences.{said}
use Rattle.script_grammar.proofs.JudgedTokens.{by_token, token_judge, judged_token, name_at, named_is}
use Rattle.script_grammar.proofs.PartLaws.{stops_at_first}

-- LOOK-UPS: the reader finds a step by its place among the names
one_less : (m : ℕ) → 1 + m ≡ suc m
one_less m = omega arith

some_below : (l : ℕ) → nat_lt 0 (suc l) ≡ true
some_below l = grind (arith, nat_tests)

below_next : (m l : ℕ) → nat_lt m l ≡ true → nat_lt (suc m) (suc l) ≡ true
below_next m l h = grind (arith, nat_tests)

not_below_next : (m l : ℕ) → nat_lt m l ≡ false → nat_lt (suc m) (suc l) ≡ false
not_below_next m l h = grind (arith, nat_tests)

position_first : (p : List ℕ → Bool) (x : List ℕ) (xs : List (List ℕ)) → position p (x ∷ xs) ≡ cond (p x) (Some 0) (option_map suc (position p xs))
position_first p x xs = at_test (p x)
  where
    at_order : (m l : ℕ) (b : Bool) → nat_lt m l ≡ b → cond (nat_lt (suc m) (suc l)) (Some (suc m)) None ≡ option_map suc (cond b (Some m) None)
    at_order m l true e = let f = below_next m l e in rw f refl
    at_order m l false e = let f = not_below_next m l e in rw f refl

    at_test : (b : Bool) → cond (nat_lt (cond (not b) (1 + position_or_len p xs) 0) (suc (length xs))) (Some (cond (not b) (1 + position_or_len p xs) 0)) None ≡ cond b (Some 0) (option_map suc (position p xs))
    at_test true = let f = some_below (length xs) in rw f refl
    at_test false = ap (λ k. cond (nat_lt k (suc (length xs))) (Some k) None) (one_less (position_or_len p xs)) ∙ at_order (position_or_len p xs) (length xs) (nat_lt (position_or_len p xs) (length xs)) refl

entry_later : (e : List ℕ × Bool) (es : Earlier) (o : Option ℕ) → variable_at (e ∷ es) (option_map suc o) ≡ option_map one_later (variable_at es o)
entry_later e es None = refl
entry_later e es (Some k) = at_entry (slice_get es k)
  where
    at_entry : (o : Option (List ℕ × Bool)) → option_map {U = ℕ × Bool} (λ v. (suc k, v.1)) o ≡ option_map one_later (option_map {U = ℕ × Bool} (λ v. (k, v.1)) o)
    at_entry None = refl
    at_entry (Some v) = refl

same_test : (xs ys : List ℕ) → bytes_eq xs ys ≡ bytes_eq ys xs
same_test xs ys = at_test (bytes_eq xs ys) (bytes_eq ys xs) refl refl
  where
    at_test : (b c : Bool) → b ≡ bytes_eq xs ys → c ≡ bytes_eq ys xs → b ≡ c
    at_test true true e f = refl
    at_test false false e f = refl
    at_test true false e f = let same : bytes_eq ys xs ≡ true = (bytes_eq-Decides ys xs).1 (sym ((bytes_eq-Decides xs ys).0 (sym e))) in cc
    at_test false true e f = let same : bytes_eq xs ys ≡ true = (bytes_eq-Decides xs ys).1 (sym ((bytes_eq-Decides ys xs).0 (sym f))) in cc

found_same : (steps : List PlainStep) (name : List ℕ) → variable_named (earlier_of steps) name ≡ step_called steps name
found_same [] name = refl
found_same (s ∷ steps) name =
    ap (variable_at (earlier_of (s ∷ steps))) (position_first (λ k. bytes_eq name k) s.name (names_in (earlier_of steps)))
    ∙ at_test (bytes_eq name s.name)
    ∙ ap (λ b. if b then Some (0, is_invariance s.goal) else option_map one_later (variable_named (earlier_of steps) name)) (same_test name s.name)
    ∙ ap (λ o. if bytes_eq s.name name then Some (0, is_invariance s.goal) else option_map one_later o) (found_same steps name)
  where
    at_test : (b : Bool) → variable_at (earlier_of (s ∷ steps)) (cond b (Some 0) (option_map suc (position (λ k. bytes_eq name k) (names_in (earlier_of steps))))) ≡ (if b then Some (0, is_invariance s.goal) else option_map one_later (variable_named (earlier_of steps) name))
    at_test true = refl
    at_test false = entry_later (s.name, is_invariance s.goal) (earlier_of steps) (position (λ k. bytes_eq name k) (names_in (earlier_of steps)))

lemma_same : (steps : List PlainStep) (name : List ℕ) → step_named (earlier_of steps) name ≡ lemma_called steps name
lemma_same steps name = ap (λ o. if is_text name then o else None) (found_same steps name)

-- CITATIONS
module _ (before : List PlainStep) where
  abbrev pub cited_by : Label → Option (ℕ × Bool) → Result ℕ Breach
  cited_by l None = Err (broke rules.UnknownLemma l.place)
  cited_by l (Some e) = cond (not e.1) (Err (broke rules.NotInvariant l.place)) (Ok e.0)

  abbrev pub citing : Label → Result ℕ Breach
  citing l = cited_by l (lemma_called before l.text)

  cited_so : (l : Label) (o : Option (ℕ × Bool)) (s : Stream) → then_reads (present (broke rules.UnknownLemma l.place) o) (λ e. unless (not e.1) (broke rules.NotInvariant l.place) e.0) s ≡ said (cited_by l o) s
  cited_so l None s = refl
  cited_so l (Some e) s = at_bool (not e.1)
    where
      at_bool : (b : Bool) → unless b (broke rules.NotInvariant l.place) e.0 s ≡ said (cond b (Err (broke rules.NotInvariant l.place)) (Ok e.0)) s
      at_bool true = refl
      at_bool false = refl

  cited_is : (s : Stream) → cited_of (earlier_of before) s ≡ token_judge name_at citing s
  unfolding cited_of
  cited_is s = ap (λ (r : Read Breach Label). r >>= λ x. then_reads (present (broke rules.UnknownLemma x.0.place) (step_named (earlier_of before) x.0.text)) (λ e. unless (not e.1) (broke rules.NotInvariant x.0.place) e.0) x.1) (named_is s) ∙ at_read (by_token name_at s)
    where
      at_read : (r : Read Breach Label) → (r >>= λ x. then_reads (present (broke rules.UnknownLemma x.0.place) (step_named (earlier_of before) x.0.text)) (λ e. unless (not e.1) (broke rules.NotInvariant x.0.place) e.0) x.1) ≡ (r >>= λ x. said (citing x.0) x.1)
      at_read (Ok x) = ap (λ o. then_reads (present (broke rules.UnknownLemma x.0.place) o) (λ e. unless (not e.1) (broke rules.NotInvariant x.0.place) e.0) x.1) (lemma_same before x.0.text) ∙ cited_so x.0 (lemma_called before x.0.text) x.1
      at_read (Err f) = refl

  cited_kept : (at : ℕ) (l : Label) (n : ℕ) → citing l ≡ Ok n → cited_rules before at l ≡ []
  cited_kept at l n h = at_found (lemma_called before l.text) h
    where
      at_bool : (b : Bool) (k : ℕ) → cond b (Err (broke rules.NotInvariant l.place)) (Ok k) ≡ Ok n → broken_where b (at + 1) (broke rules.NotInvariant l.place) ≡ []
      at_bool true k h = absurd cc
      at_bool false k h = refl

      at_found : (o : Option (ℕ × Bool)) → cited_by l o ≡ Ok n → lemma_rules (at + 1) l o ≡ []
      at_found None h = absurd cc
      at_found (Some e) h = at_bool (not e.1) e.0 h

  cited_told : (at : ℕ) (l : Label) (f : Breach) → citing l ≡ Err f → (further : List (Broken Breach)) × (cited_rules before at l ≡ found_at (at + 1) f ∷ further)
  cited_told at l f h = at_found (lemma_called before l.text) h
    where
      at_bool : (b : Bool) (k : ℕ) → cond b (Err (broke rules.NotInvariant l.place)) (Ok k) ≡ Err f → (further : List (Broken Breach)) × (broken_where b (at + 1) (broke rules.NotInvariant l.place) ≡ found_at (at + 1) f ∷ further)
      at_bool true k h = ([], ap (λ z. found_at (at + 1) z ∷ []) (let e : broke rules.NotInvariant l.place ≡ f = cc in e))
      at_bool false k h = absurd cc

      at_found : (o : Option (ℕ × Bool)) → cited_by l o ≡ Err f → (further : List (Broken Breach)) × (lemma_rules (at + 1) l o ≡ found_at (at + 1) f ∷ further)
      at_found None h = ([], ap (λ z. found_at (at + 1) z ∷ []) (let e : broke rules.UnknownLemma l.place ≡ f = cc in e))
      at_found (Some e) h = at_bool (not e.1) e.0 h

  pub judged_cited : (at : ℕ) (s : Stream) → JudgedAt IsSyntactic anything at (cited_of (earlier_of before)) named (λ l. 1) (cited_rules before at) (λ l n. citing l ≡ Ok n) s
  judged_cited at s =
      judged_as IsSyntactic anything at (token_judge name_at citing) (by_token name_at) (λ l. 1) (cited_rules before at) (λ l n. citing l ≡ Ok n) (cited_of (earlier_of before)) named s (λ after h. cited_is after) (λ after h. named_is after)
      (judged_token name_at citing (cited_rules before) cited_kept cited_told anything at s)

pub citations_first_fault : CitationsFirstFault
citations_first_fault before = stops_at_first is_name anything refl (name_lawful name_token name_spelled refl) (cited_rules before 0) (cited_of (earlier_of before)) (λ l. 1) (λ l n. citing before l ≡ Ok n) (judged_cited before 0)

-- NUMERALS
abbrev pub number_placed : ℕ → ℕ → ℕ × ℕ
number_placed n place = (n, place)

abbrev pub number_with : Lexeme → Option ℕ → Option RawNumber
number_with t None = None
number_with t (Some n) = Some (record { number = n; place = t.start })

abbrev pub number_at : Lexeme → Option RawNumber
number_at t = number_with t (numeral_in (sign_of t))

abbrev pub raw_number : Reader RawNumber
raw_number = by_token number_at

is_numeral : (g : Sign) (n : ℕ) → numeral_in g ≡ Some n → g ≡ signs.Numeral n
is_numeral signs.Name n h = absurd cc
is_numeral (signs.Numeral k) n h = let e : k ≡ n = cc in ap signs.Numeral e
is_numeral signs.Other n h = absurd cc
is_numeral signs.Nothing n h = absurd cc
is_numeral (signs.Marked k) n h = absurd cc

pub number_sound : Sound raw_number IsNumeral
number_sound (ends place) x rest h = absurd cc
number_sound (breaks f) x rest h = absurd cc
number_sound (more t s) x rest h = at_sign (numeral_in (sign_of t)) refl h
  where
    at_sign : (o : Option ℕ) → o ≡ numeral_in (sign_of t) → on_operator {A = Read Breach RawNumber} (number_with t o) (Err (refusal (more t s))) (λ n. Ok (n, s)) ≡ Ok (x, rest) → Cut IsNumeral (more t s) x rest
    at_sign None e h = absurd cc
    at_sign (Some n) e h = taken {X = Breach} IsNumeral (t ∷ []) (gives (record { number = n; place = t.start }) s) (record { number = n; place = t.start }) x s rest refl h (spells_numeral t n (is_numeral (sign_of t) n (sym e)))

pub number_complete : Complete anything raw_number IsNumeral
number_complete ts x (spells_numeral t n e) after h = rw e refl

number_viable : Viable anything anything raw_number []
unfolding zero_token
number_viable = record { others = zero_token ∷ []; spelled = one_spelled zero_token zero_spelled; value = record { number = 0; place = 0 }; begins = λ n after h. refl; reads = λ after h. refl }

pub number_law : (s : Stream) → SteadyAt {I = Unit {0}} anything anything raw_number (λ i. raw_number) s
number_law (ends p) = at_stuck anything anything raw_number (λ i. raw_number) (ends p) no_number (λ i. no_number) (λ i. number_viable)
  where
    no_number : (after : Stream) → ahead after ≡ signs.Nothing → raw_number after ≡ Err (refusal after)
    no_number (ends q) h = refl
    no_number (breaks f) h = refl
    no_number (more t s) h = rw h refl
number_law (breaks f) = at_stuck anything anything raw_number (λ i. raw_number) (breaks f) no_number (λ i. no_number) (λ i. number_viable)
  where
    no_number : (after : Stream) → ahead after ≡ signs.Nothing → raw_number after ≡ Err (refusal after)
    no_number (ends q) h = refl
    no_number (breaks f) h = refl
    no_number (more t s) h = rw h refl
number_law (more t s) = at_sign (numeral_in (sign_of t)) refl
  where
    no_number : numeral_in (sign_of t) ≡ None → (after : Stream) → ahead after ≡ sign_of t → raw_number after ≡ Err (refusal after)
    no_number e (ends q) h = refl
    no_number e (breaks f) h = refl
    no_number e (more u m) h = rw (h, e) refl

    at_sign : (o : Option ℕ) → numeral_in (sign_of t) ≡ o → SteadyAt {I = Unit {0}} anything anything raw_number (λ i. raw_number) (more t s)
    at_sign None e = at_stuck anything anything raw_number (λ i. raw_number) (more t s) (no_number e) (λ i. no_number e) (λ i. number_viable)
    at_sign (Some n) e = at_one anything anything raw_number (λ i. raw_number) t (record { number = n; place = t.start }) s (λ after. rw e refl) (λ i after. rw e refl)

abbrev pub number_lawful : LawfulPhrase Breach RawNumber anything anything
number_lawful = record {
  phrase = record { reader = raw_number; language = IsNumeral; sound = number_sound; complete = number_complete; begins = λ ts x l after h. refl };
  lawful = record { law = number_law; one = sound_shrinks raw_number IsNumeral number_sound; each = λ i. sound_shrinks raw_number IsNumeral number_sound };
}

abbrev pub refused_by : {A : Type 0} → Bool → Breach → Result A Breach → Result A Breach
refused_by wrong f r = cond wrong (Err f) r

broken_told : (b : Bool) (n : ℕ) (f : Breach) → b ≡ true → broken_where b n f ≡ found_at n f ∷ []
broken_told true n f h = refl
broken_told false n f h = absurd cc

-- of nodes that are drawn
module _ (nodes : List PlainDrawnNode) where
  abbrev pub knowing : RawNumber → Result ℕ Breach
  knowing n = refused_by (not (is_known n.number nodes)) (broke rules.UnknownNode n.place) (Ok n.number)

  pub known_is : (s : Stream) → known_of nodes s ≡ token_judge number_at knowing s
  unfolding known_of numeral_of
  known_is (ends p) = refl
  known_is (breaks f) = refl
  known_is (more t s) = at_sign (numeral_in (sign_of t))
    where
      at_bool : (n : ℕ) (b : Bool) → unless b (broke rules.UnknownNode t.start) n s ≡ said (cond b (Err (broke rules.UnknownNode t.start)) (Ok n)) s
      at_bool n true = refl
      at_bool n false = refl

      at_sign : (o : Option ℕ) → (on_operator {A = Read Breach (ℕ × ℕ)} o (Err (refusal (more t s))) (λ n. Ok (number_placed n t.start, s)) >>= λ x. unless (not (is_known x.0.0 nodes)) (broke rules.UnknownNode x.0.1) x.0.0 x.1)
          ≡ (on_operator {A = Read Breach RawNumber} (number_with t o) (Err (refusal (more t s))) (λ n. Ok (n, s)) >>= λ x. said (knowing x.0) x.1)
      at_sign None = refl
      at_sign (Some n) = at_bool n (not (is_known n nodes))

  known_kept : (at : ℕ) (n : RawNumber) (k : ℕ) → knowing n ≡ Ok k → known_rules nodes at n ≡ []
  known_kept at n k h = at_bool (not (is_known n.number nodes)) h
    where
      at_bool : (b : Bool) → refused_by b (broke rules.UnknownNode n.place) (Ok n.number) ≡ Ok k → broken_where b (at + 1) (broke rules.UnknownNode n.place) ≡ []
      at_bool true h = absurd cc
      at_bool false h = refl

  known_told : (at : ℕ) (n : RawNumber) (f : Breach) → knowing n ≡ Err f → (further : List (Broken Breach)) × (known_rules nodes at n ≡ found_at (at + 1) f ∷ further)
  known_told at n f h = at_bool (not (is_known n.number nodes)) h
    where
      at_bool : (b : Bool) → refused_by b (broke rules.UnknownNode n.place) (Ok n.number) ≡ Err f → (further : List (Broken Breach)) × (broken_where b (at + 1) (broke rules.UnknownNode n.place) ≡ found_at (at + 1) f ∷ further)
      at_bool true h = ([], ap (λ z. found_at (at + 1) z ∷ []) (let e : broke rules.UnknownNode n.place ≡ f = cc in e))
      at_bool false h = absurd cc

  pub judged_known : (at : ℕ) (s : Stream) → JudgedAt IsSyntactic anything at (known_of nodes) raw_number (λ n. 1) (known_rules nodes at) (λ n k. knowing n ≡ Ok k) s
  judged_known at s =
      judged_as IsSyntactic anything at (token_judge number_at knowing) raw_number (λ n. 1) (known_rules nodes at) (λ n k. knowing n ≡ Ok k) (known_of nodes) raw_number s (λ after h. known_is after) (λ after h. refl)
      (judged_token number_at knowing (known_rules nodes) known_kept known_told anything at s)

pub known_numbers_first_fault : KnownNumbersFirstFault
known_numbers_first_fault nodes = stops_at_first anything anything refl number_lawful (known_rules nodes 0) (known_of nodes) (λ n. 1) (λ n k. knowing nodes n ≡ Ok k) (judged_known nodes 0)

-- of new nodes
module _ (g : Setting) (kind : DiagramKind) (highest : ℕ) (nodes : List PlainDrawnNode) where
  abbrev pub newly : RawNumber → Result (ℕ × ℕ) Breach
  newly n = refused_by (is_known n.number nodes) (broke rules.Twice n.place) (refused_by (is_above kind highest n.number) (broke rules.UnknownNode n.place) (Ok (number_placed n.number n.place)))

  new_is : (s : Stream) → new_number_of (drawing_over g kind highest) nodes s ≡ token_judge number_at newly s
  unfolding new_number_of numeral_of
  new_is (ends p) = refl
  new_is (breaks f) = refl
  new_is (more t s) = at_sign (numeral_in (sign_of t))
    where
      at_above : (n : ℕ) (c : Bool) → unless c (broke rules.UnknownNode t.start) (number_placed n t.start) s ≡ said (refused_by c (broke rules.UnknownNode t.start) (Ok (number_placed n t.start))) s
      at_above n true = refl
      at_above n false = refl

      at_twice : (n : ℕ) (b : Bool) → (unless b (broke rules.Twice t.start) (number_placed n t.start) s >>= λ x. unless (is_above kind highest x.0.0) (broke rules.UnknownNode x.0.1) x.0 x.1)
          ≡ said (refused_by b (broke rules.Twice t.start) (refused_by (is_above kind highest n) (broke rules.UnknownNode t.start) (Ok (number_placed n t.start)))) s
      at_twice n true = refl
      at_twice n false = at_above n (is_above kind highest n)

      at_sign : (o : Option ℕ)
          → (on_operator {A = Read Breach (ℕ × ℕ)} o (Err (refusal (more t s))) (λ n. Ok (number_placed n t.start, s)) >>= λ x. then_reads (unless (is_known x.0.0 nodes) (broke rules.Twice x.0.1) x.0) (λ n. unless (is_above kind highest n.0) (broke rules.UnknownNode n.1) n) x.1)
          ≡ (on_operator {A = Read Breach RawNumber} (number_with t o) (Err (refusal (more t s))) (λ n. Ok (n, s)) >>= λ x. said (newly x.0) x.1)
      at_sign None = refl
      at_sign (Some n) = at_twice n (is_known n nodes)

  new_kept : (at : ℕ) (n : RawNumber) (k : ℕ × ℕ) → newly n ≡ Ok k → new_number_rules kind highest nodes at n ≡ []
  new_kept at n k h = at_bools (is_known n.number nodes) (is_above kind highest n.number) h
    where
      at_bools : (b c : Bool) → refused_by b (broke rules.Twice n.place) (refused_by c (broke rules.UnknownNode n.place) (Ok (number_placed n.number n.place))) ≡ Ok k
          → broken_where b (at + 1) (broke rules.Twice n.place) ++ broken_where c (at + 1) (broke rules.UnknownNode n.place) ≡ []
      at_bools true c h = absurd cc
      at_bools false true h = absurd cc
      at_bools false false h = refl

  new_told : (at : ℕ) (n : RawNumber) (f : Breach) → newly n ≡ Err f → (further : List (Broken Breach)) × (new_number_rules kind highest nodes at n ≡ found_at (at + 1) f ∷ further)
  new_told at n f h = at_bools (is_known n.number nodes) (is_above kind highest n.number) h
    where
      at_bools : (b c : Bool) → refused_by b (broke rules.Twice n.place) (refused_by c (broke rules.UnknownNode n.place) (Ok (number_placed n.number n.place))) ≡ Err f
          → (further : List (Broken Breach)) × (broken_where b (at + 1) (broke rules.Twice n.place) ++ broken_where c (at + 1) (broke rules.UnknownNode n.place) ≡ found_at (at + 1) f ∷ further)
      at_bools true c h = (broken_where c (at + 1) (broke rules.UnknownNode n.place), ap (λ z. found_at (at + 1) z ∷ broken_where c (at + 1) (broke rules.UnknownNode n.place)) (let e : broke rules.Twice n.place ≡ f = cc in e))
      at_bools false true h = ([], ap (λ z. found_at (at + 1) z ∷ []) (let e : broke rules.UnknownNode n.place ≡ f = cc in e))
      at_bools false false h = absurd cc

  pub judged_new : (at : ℕ) (s : Stream) → JudgedAt IsSyntactic anything at (new_number_of (drawing_over g kind highest) nodes) raw_number (λ n. 1) (new_number_rules kind highest nodes at) (λ n k. newly n ≡ Ok k) s
  judged_new at s =
      judged_as IsSyntactic anything at (token_judge number_at newly) raw_number (λ n. 1) (new_number_rules kind highest nodes at) (λ n k. newly n ≡ Ok k) (new_number_of (drawing_over g kind highest) nodes) raw_number s (λ after h. new_is after) (λ after h. refl)
      (judged_token number_at newly (new_number_rules kind highest nodes) new_kept new_told anything at s)

pub new_numbers_first_fault : NewNumbersFirstFault
new_numbers_first_fault g kind highest nodes =
    stops_at_first anything anything refl number_lawful (new_number_rules kind highest nodes 0) (new_number_of (drawing_over g kind highest) nodes) (λ n. 1) (λ n k. newly g kind highest nodes n ≡ Ok k) (judged_new g kind highest nodes 0)
