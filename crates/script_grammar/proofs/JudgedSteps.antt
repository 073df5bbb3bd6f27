-- Steps, judged: name ":" claim [ "using" names ] ";", behind the token that says the claim.
use Rattle.std.proofs.Common.{◌≡◌, ℕ, ◌+◌, Bool, true, false, List, [], ◌∷◌, ◌++◌, Err, refl, sym, ap, ◌∙◌, arith, append_assoc, append-nil}
use Rattle.std.specs.Prelude.{codes}
use Rattle.st_tokens.specs.Stream.{Lexeme, Stream, ends, IsSpelled}
use Rattle.st_reading.specs.declared.mark.Mark.{Mark}
use Rattle.st_reading.specs.declared.mark.Mark.TheVariants as marks
use Rattle.st_reading.specs.declared.sign.Sign.{Sign}
use Rattle.st_reading.specs.declared.sign.Sign.TheVariants as signs
use Rattle.st_reading.specs.Mark.{number}
use Rattle.expression_parser.specs.Calm.{calm, calm_but}
use Rattle.st_reading.specs.Sign.{declaring_word, basic_word, compound_word, step_word, rule_word, drawing_word}
use Rattle.st_reading.specs.Reading.{Read, ◌>>=◌, Label, syntax, ahead, is_name, refusal, expected, gives, then_reads}
use Rattle.st_reading.specs.Breaches.{Breach, Reader}
use Rattle.st_reading.specs.BrokenRules.{Broken}
use Rattle.st_reading.specs.Spelling.{Is}
use Rattle.st_reading.specs.Steady.{Within, moves, wider, anything}
use Rattle.st_reading.proofs.Tokens.{among}
use Rattle.st_reading.proofs.LawfulPhrases.{LawfulPhrase}
use Rattle.temporal_goals.specs.Texts.{PlainStep}
use Rattle.proof_script.specs.declared.steps.Claim.{Claim}
use Rattle.proof_script.specs.declared.steps.Claim.TheVariants as claims
use Rattle.proof_script.specs.Listing.{Setting, behind_mark}
use Rattle.proof_script.specs.Steps.{citations_of, claimed_of, earlier_of, ends_rule, invariance_of, is_invariance, new_name_of, response_of, step_of}
use Rattle.script_grammar.specs.RawScripts.{RawClaim, RawStep}
use Rattle.script_grammar.specs.Sizes.{claim_size, label_size, marked_size, step_size}
use Rattle.script_grammar.specs.Meaning.{claim_meant}
use Rattle.script_grammar.specs.Breaking.{broken_where, marked_rules}
use Rattle.script_grammar.specs.Rules.{cited_rules, name_rules, step_rules}
use Rattle.script_grammar.specs.FirstFaults.{InvarianceStepsFirstFault, ResponseStepsFirstFault, WaitingStepsFirstFault}
use Rattle.script_grammar.proofs.RawReferences.{no_dot}
use Rattle.script_grammar.proofs.References.{Names, judged_name}
use Rattle.script_grammar.proofs.JudgedPairs.{after_lawful}
use Rattle.script_grammar.proofs.JudgedItems.{keyword}
use Rattle.script_grammar.proofs.JudgedClaims.{by_next, by_quiet, invariance_lawful, invariance_parts_so, the_invariance}
use Rattle.script_grammar.proofs.Judges.{Judges, pair_so, made_so, weaker_so, seen_so, as_so, after_so, same_so, plain_mark_so, regroup}
use Rattle.script_grammar.proofs.ListedNodes.{under}
use Rattle.script_grammar.proofs.Citations.{a_name, citations_so, step_end_within, using_front}
use Rattle.script_grammar.proofs.CompletedItems.{Pending}
use Rattle.script_grammar.proofs.NamedSteps.{cited_lawful, cited_needs, claimed_lawful, semicolon_ends, semicolon_lawful, step_lawful, the_step, using_within}
use Rattle.script_grammar.proofs.EndedClaims.{guarded, guarded_so, neither_ends}
use Rattle.script_grammar.proofs.ClaimRules.{Claimed, FitsClaim, claim_ruled, count_breach, own_claim_rules, uncounted, uncounted_same, without_levels, wrong_count}
use Rattle.script_grammar.proofs.JudgedResponses.{response_lawful, response_parts_so, the_response}
use Rattle.script_grammar.proofs.WaitingClaims.{waiting_judge, waiting_lawful, waiting_same, waiting_so}
use Rattle.script_grammar.proofs.PartLaws.{stops_at_first}

-- BEHIND A CLAIM
module _ (before : List PlainStep) (name : List ℕ) where
  abbrev with_name : Claimed → List ℕ → PlainStep
  with_name claim cited = record { name = name; goal = claim.0; rule = claim.1; cited = cited }

  abbrev closing : Claimed → List ℕ → Reader PlainStep
  closing claim cited = then_reads (expected marks.Semicolon) (λ m. gives (with_name claim cited))

  abbrev pub ended : Claimed → Reader PlainStep
  ended claim = then_reads (citations_of (earlier_of before)) (closing claim)

  pub ended_refuses : (claim : Claimed) (s : Stream) → ends_rule (ahead s) ≡ false → ended claim s ≡ Err (refusal s)
  unfolding citations_of
  ended_refuses claim s e = let k = neither_ends s e in let f = k.0 in let h = k.1 in rw (f, h) refl

  abbrev pub IsEnded : Claimed → PlainStep → Type 0
  IsEnded claim x = (x.name ≡ name) × (x.goal ≡ claim.0)

  pub ended_so : (claim : Claimed) → Judges anything (ended claim) cited_lawful.phrase.reader (λ q. marked_size label_size q.0 + 1) (λ at q. marked_rules label_size (cited_rules before) at q.0 ++ []) (λ q x. IsEnded claim x)
  ended_so claim =
      pair_so {makes = λ q x. IsEnded claim x} semicolon_ends semicolon_lawful (moves refl (syntax 0) refl) (citations_so before)
      (λ ls cited m. weaker_so (λ n x. IsEnded claim x) (λ n x e. (ap (λ (z : PlainStep). z.name) e, ap (λ (z : PlainStep). z.goal) e)) (plain_mark_so marks.Semicolon (with_name claim cited)))

-- what a step is, as far as later ones see it
abbrev pub IsMade : Setting → RawStep → PlainStep → Type 0
IsMade g s x = (x.name ≡ s.name.text) × (is_invariance x.goal ≡ is_invariance (claim_meant g s.claim).0)

-- behind the token that says what is claimed
abbrev pub later_size : RawStep → ℕ
later_size s = 2 + claim_size s.claim + marked_size label_size s.cited + 1

abbrev pub later_rules : Setting → List PlainStep → ℕ → RawStep → List (Broken Breach)
later_rules g before at s =
    name_rules before at s.name ++ (own_claim_rules g (at + 1 + 1) s.claim ++ (broken_where (wrong_count s.claim) (at + 1 + (1 + claim_size s.claim) + 1) (count_breach s.claim) ++ (marked_rules label_size (cited_rules before) (at + 1 + (1 + claim_size s.claim)) s.cited ++ [])))

pub step_sized : (s : RawStep) → step_size s ≡ 1 + later_size s
step_sized s = omega arith

pub step_ruled : (g : Setting) (before : List PlainStep) (at : ℕ) (s : RawStep) → step_rules g before at s ≡ later_rules g before (at + 1) s
step_ruled g before at s =
    let names = name_rules before (at + 1) s.name in
    let own : List (Broken Breach) = own_claim_rules g (at + 1 + 1 + 1) s.claim in
    let cited : List (Broken Breach) = marked_rules label_size (cited_rules before) (at + 1 + 1 + (1 + claim_size s.claim)) s.cited in
    let due : List (Broken Breach) = broken_where (wrong_count s.claim) (at + 1 + 1 + (1 + claim_size s.claim) + 1) (count_breach s.claim) in
    let e : at + 3 ≡ at + 1 + 1 + 1 = omega arith in
    let f : at + 3 + claim_size s.claim ≡ at + 1 + 1 + (1 + claim_size s.claim) = omega arith in
    ap (λ z. names ++ (z ++ marked_rules label_size (cited_rules before) (at + 3 + claim_size s.claim) s.cited)) (claim_ruled g (at + 3) s.claim)
    ∙ ap (λ n. names ++ ((own_claim_rules g n s.claim ++ broken_where (wrong_count s.claim) (at + 3 + claim_size s.claim + 1) (count_breach s.claim)) ++ marked_rules label_size (cited_rules before) (at + 3 + claim_size s.claim) s.cited)) e
    ∙ ap (λ n. names ++ ((own ++ broken_where (wrong_count s.claim) (n + 1) (count_breach s.claim)) ++ marked_rules label_size (cited_rules before) n s.cited)) f
    ∙ ap (λ z. names ++ z) (append_assoc own due cited)
    ∙ ap (λ z. names ++ (own ++ (due ++ z))) (sym (append-nil cited))

-- `r` reads the claim, and whether its levels are another number.
module _ (g : Setting) (before : List PlainStep) (inner : Sign → Bool) (quiet : inner signs.Nothing ≡ true) (follows : Within using_front inner) (c : LawfulPhrase Breach RawClaim anything inner) (r : Reader (Pending Claimed))
    (claim_so : Judges inner r c.phrase.reader claim_size (own_claim_rules g) (FitsClaim g)) where
  abbrev due_rules : RawClaim → ℕ → List Label × ℕ → List (Broken Breach)
  due_rules x at q = broken_where (wrong_count x) (at + 1) (count_breach x) ++ (marked_rules label_size (cited_rules before) at q.0 ++ [])

  abbrev guards : List ℕ → Pending Claimed → Reader PlainStep
  guards name q = guarded q.wrong q.breach (ended before name q.item)

  abbrev claimed : List ℕ → Reader PlainStep
  claimed name = then_reads (then_reads (expected marks.Colon) (λ m. r)) (guards name)

  abbrev pub named_judge : Reader PlainStep
  named_judge = then_reads (new_name_of (earlier_of before)) claimed

  abbrev IsClaimed : List ℕ → RawClaim → PlainStep → Type 0
  IsClaimed name x y = (y.name ≡ name) × (is_invariance y.goal ≡ is_invariance (claim_meant g x).0)

  guards_so : (name : List ℕ) (x : RawClaim) (q : Pending Claimed) → FitsClaim g x q → Judges anything (guards name q) cited_lawful.phrase.reader (λ z. marked_size label_size z.0 + 1) (due_rules x) (λ z y. IsClaimed name x y)
  guards_so name x q m =
      same_so (λ z. marked_size label_size z.0 + 1) (due_rules x) (λ z. refl) (λ at z. let e = m.0 in let f = m.1 in rw (e, f) refl)
      (weaker_so (λ z y. IsClaimed name x y) (λ z y k. (k.0, ap is_invariance k.1 ∙ m.2))
      (guarded_so q.breach (ended before name q.item) (ended_refuses before name q.item) (λ z. marked_size label_size z.0 + 1) (λ at z. marked_rules label_size (cited_rules before) at z.0 ++ []) (λ z y. IsEnded before name q.item y) q.wrong (ended_so before name q.item)))

  claimed_so : (name : List ℕ) → Judges anything (claimed name) (claimed_lawful inner quiet follows c).phrase.reader (λ z. (1 + claim_size z.0) + (marked_size label_size z.1.0 + 1)) (λ at z. own_claim_rules g (at + 1) z.0 ++ due_rules z.0 (at + (1 + claim_size z.0)) z.1) (λ z y. IsClaimed name z.0 y)
  claimed_so name = pair_so {rules2 = due_rules} {makes = λ z y. IsClaimed name z.0 y} follows cited_lawful (moves refl (syntax 0) cited_needs) (after_so marks.Colon c (wider (λ g h. refl)) claim_so) (λ x q m. guards_so name x q m)

  name_so : Judges anything (new_name_of (earlier_of before)) a_name.phrase.reader label_size (name_rules before) (Names before)
  name_so = record { judged = λ at s. judged_name before at s }

  named_so : Judges anything named_judge (step_lawful inner quiet follows c).phrase.reader later_size (later_rules g before) (IsMade g)
  named_so =
      seen_so (the_step inner quiet follows c) later_size (later_rules g before) (IsMade g) (λ q. omega arith) (λ at q. refl) (λ q x m. m)
      (pair_so {makes = λ z y. IsClaimed z.0.text z.1.0 y} (λ g h. refl) (claimed_lawful inner quiet follows c) (moves refl (syntax 0) refl) name_so
      (λ l name m. weaker_so (λ z y. IsClaimed l.text z.0 y) (λ z y k. (k.0 ∙ sym m, k.1)) (claimed_so name)))

  -- as the reader of scripts reads it
  pub named_step_so : (claim : Claim) → ((name : List ℕ) (s : Stream) → then_reads (claimed_of g claim) (ended before name) s ≡ then_reads r (guards name) s) → Judges anything (step_of g claim (earlier_of before)) (step_lawful inner quiet follows c).phrase.reader later_size (later_rules g before) (IsMade g)
  unfolding step_of
  named_step_so claim same = as_so (step_of g claim (earlier_of before)) (step_lawful inner quiet follows c).phrase.reader reads (λ s. refl) named_so
    where
      behind_colon : (name : List ℕ) (s : Stream) → then_reads (behind_mark marks.Colon (claimed_of g claim)) (ended before name) s ≡ claimed name s
      behind_colon name s =
          regroup (expected marks.Colon) (λ m. claimed_of g claim) (ended before name) s
          ∙ under (expected marks.Colon) (λ m. then_reads (claimed_of g claim) (ended before name)) (λ m. then_reads r (guards name)) (λ m k. same name k) s
          ∙ sym (regroup (expected marks.Colon) (λ m. r) (guards name) s)

      reads : (s : Stream) → step_of g claim (earlier_of before) s ≡ named_judge s
      reads s = under (new_name_of (earlier_of before)) (λ name. then_reads (behind_mark marks.Colon (claimed_of g claim)) (ended before name)) claimed behind_colon s

-- EACH CLAIM
pub using_by : by_next (signs.Marked marks.Using) ≡ true
unfolding number calm calm_but
using_by = refl

pub ending_by : by_next (signs.Marked marks.Semicolon) ≡ true
unfolding number calm calm_but
ending_by = refl

pub follows_by : Within using_front by_next
follows_by = using_within by_next using_by (step_end_within by_next ending_by by_quiet)

pub follows_undotted : Within using_front no_dot
unfolding number
follows_undotted = using_within no_dot refl (step_end_within no_dot refl refl)

pub using_quiet : using_front signs.Nothing ≡ true
using_quiet = refl

abbrev pub claim_lawful : Claim → LawfulPhrase Breach RawStep is_name anything
claim_lawful claims.Invariant = step_lawful by_next by_quiet follows_by invariance_lawful
claim_lawful claims.Waiting = step_lawful using_front using_quiet (λ g h. h) waiting_lawful
claim_lawful claims.Response = step_lawful no_dot refl follows_undotted response_lawful

module _ (g : Setting) (before : List PlainStep) where
  abbrev StepSo : Claim → Type 0
  StepSo claim = Judges anything (step_of g claim (earlier_of before)) (claim_lawful claim).phrase.reader later_size (later_rules g before) (IsMade g)

  -- an invariance and a response have no levels
  module _ {r : Reader Claimed} (claim : Claim) (reads : (s : Stream) → claimed_of g claim s ≡ r s) where
    unlevelled : (name : List ℕ) (s : Stream) → then_reads (claimed_of g claim) (ended before name) s ≡ then_reads (without_levels r) (λ q. guarded q.wrong q.breach (ended before name q.item)) s
    unlevelled name s = ap (λ (o : Read Breach Claimed). o >>= λ c. ended before name c.0 c.1) (reads s) ∙ uncounted_same r (ended before name) (ended_refuses before name) s

  invariance_step_so : StepSo claims.Invariant
  unfolding claimed_of
  invariance_step_so = named_step_so g before by_next by_quiet follows_by invariance_lawful (without_levels (invariance_of g)) invariances_so claims.Invariant (unlevelled claims.Invariant reads)
    where
      reads : (s : Stream) → claimed_of g claims.Invariant s ≡ invariance_of g s
      reads s = refl

      invariances_so : Judges by_next (without_levels (invariance_of g)) invariance_lawful.phrase.reader claim_size (own_claim_rules g) (FitsClaim g)
      invariances_so = seen_so the_invariance claim_size (own_claim_rules g) (FitsClaim g) (λ p. refl) (λ at p. refl) (λ p x m. m) (made_so uncounted (λ p x. FitsClaim g (the_invariance p) x) (λ p x m. (refl, refl, m)) (invariance_parts_so g))

  response_step_so : StepSo claims.Response
  unfolding claimed_of
  response_step_so = named_step_so g before no_dot refl follows_undotted response_lawful (without_levels (response_of g)) responses_so claims.Response (unlevelled claims.Response reads)
    where
      reads : (s : Stream) → claimed_of g claims.Response s ≡ response_of g s
      reads s = refl

      responses_so : Judges no_dot (without_levels (response_of g)) response_lawful.phrase.reader claim_size (own_claim_rules g) (FitsClaim g)
      responses_so = seen_so the_response claim_size (own_claim_rules g) (FitsClaim g) (λ p. omega arith) (λ at p. refl) (λ p x m. m) (made_so uncounted (λ p x. FitsClaim g (the_response p) x) (λ p x m. (refl, refl, m)) (response_parts_so g))

  waiting_step_so : StepSo claims.Waiting
  unfolding claimed_of
  waiting_step_so = named_step_so g before using_front using_quiet (λ g h. h) waiting_lawful (waiting_judge g) (waiting_so g) claims.Waiting same
    where
      same : (name : List ℕ) (s : Stream) → then_reads (claimed_of g claims.Waiting) (ended before name) s ≡ then_reads (waiting_judge g) (λ q. guarded q.wrong q.breach (ended before name q.item)) s
      same name s = waiting_same g (ended before name) (ended_refuses before name) s

  pub claim_step_so : (claim : Claim) → StepSo claim
  claim_step_so claims.Invariant = invariance_step_so
  claim_step_so claims.Waiting = waiting_step_so
  claim_step_so claims.Response = response_step_so

-- WITH THE TOKEN
abbrev pub invariant_token : Lexeme
invariant_token = keyword (codes "invariant")

pub invariant_spelled : IsSpelled invariant_token
invariant_spelled = refl

pub invariant_is : Is marks.Invariant invariant_token
unfolding number declaring_word basic_word compound_word step_word rule_word drawing_word
invariant_is = refl

abbrev pub waiting_token : Lexeme
waiting_token = keyword (codes "waiting")

pub waiting_spelled : IsSpelled waiting_token
waiting_spelled = refl

pub waiting_is : Is marks.Waiting waiting_token
unfolding number declaring_word basic_word compound_word step_word rule_word drawing_word
waiting_is = refl

abbrev pub response_token : Lexeme
response_token = keyword (codes "response")

pub response_spelled : IsSpelled response_token
response_spelled = refl

pub response_is : Is marks.Response response_token
unfolding number declaring_word basic_word compound_word step_word rule_word drawing_word
response_is = refl

module _ (g : Setting) (before : List PlainStep) where
  marked_step_so : (word : Mark) (claim : Claim) → (claim_lawful claim).phrase.reader (ends 0) ≡ Err (syntax 0)
      → Judges anything (then_reads (expected word) (λ m. step_of g claim (earlier_of before))) (then_reads (expected word) (λ m. (claim_lawful claim).phrase.reader)) step_size (step_rules g before) (IsMade g)
  marked_step_so word claim needs = same_so step_size (step_rules g before) step_sized (step_ruled g before) (after_so word (claim_lawful claim) (moves refl (syntax 0) needs) (claim_step_so g before claim))

pub invariance_steps_first_fault : InvarianceStepsFirstFault
invariance_steps_first_fault g before =
    stops_at_first (among (marks.Invariant ∷ [])) anything refl (after_lawful marks.Invariant invariant_token invariant_spelled invariant_is is_name anything (claim_lawful claims.Invariant) (moves refl (syntax 0) refl)) (step_rules g before 0)
    (behind_mark marks.Invariant (step_of g claims.Invariant (earlier_of before))) step_size (IsMade g) ((marked_step_so g before marks.Invariant claims.Invariant refl).judged 0)

pub waiting_steps_first_fault : WaitingStepsFirstFault
waiting_steps_first_fault g before =
    stops_at_first (among (marks.Waiting ∷ [])) anything refl (after_lawful marks.Waiting waiting_token waiting_spelled waiting_is is_name anything (claim_lawful claims.Waiting) (moves refl (syntax 0) refl)) (step_rules g before 0)
    (behind_mark marks.Waiting (step_of g claims.Waiting (earlier_of before))) step_size (IsMade g) ((marked_step_so g before marks.Waiting claims.Waiting refl).judged 0)

pub response_steps_first_fault : ResponseStepsFirstFault
response_steps_first_fault g before =
    stops_at_first (among (marks.Response ∷ [])) anything refl (after_lawful marks.Response response_token response_spelled response_is is_name anything (claim_lawful claims.Response) (moves refl (syntax 0) refl)) (step_rules g before 0)
    (behind_mark marks.Response (step_of g claims.Response (earlier_of before))) step_size (IsMade g) ((marked_step_so g before marks.Response claims.Response refl).judged 0)
