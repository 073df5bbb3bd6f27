-- Steps: read exactly where they are spelled.
use Rattle.std.proofs.Common.{List, None, Some, [], cond, refl, true, ℕ, ◌++◌, ◌∷◌, ◌≡◌}
use Rattle.st_reading.specs.Breaches.{Breach}
use Rattle.st_tokens.specs.Stream.{Lexeme}
use Rattle.st_reading.proofs.ListCompleteness.{Complete}
use Rattle.st_reading.proofs.ListSoundness.{one_mark}
use Rattle.st_reading.specs.Mark.{number}
use Rattle.st_reading.specs.Reading.{is_name}
use Rattle.st_reading.specs.Sign.{is, sign_of}
use Rattle.st_reading.specs.Spelling.{Is, Items, Row, Sound, behind_it, item_more, no_items, row}
use Rattle.st_reading.specs.Steady.{anything}
use Rattle.st_reading.specs.declared.mark.Mark.{Mark}
use Rattle.st_reading.specs.declared.mark.Mark.TheVariants as marks
use Rattle.st_reading.specs.declared.sign.Sign.{Sign}
use Rattle.st_program.specs.Names.{AreApart, IsNew}
use Rattle.temporal_goals.specs.Texts.{PlainGoal, PlainRule, PlainStep}
use Rattle.proof_script.specs.Listing.{Setting}
use Rattle.proof_script.specs.Steps.{Earlier, claim_in, claimed_of, earlier_of, step_of}
use Rattle.proof_script.specs.declared.steps.Claim.{Claim}
use Rattle.proof_script.specs.declared.steps.Claim.TheVariants as claims
use Rattle.proof_grammar.specs.Grammar.{IsInvariance, IsNamed, IsResponse, IsStep, IsUsing, IsWaiting, invariance_step, named_step, no_using, response_step, using_names, waiting_step}
use Rattle.st_reading.specs.Phrases.{After}
use Rattle.proof_grammar.specs.Units.{IsCited, IsNewName, cited_name, names_of_steps, new_name}
use Rattle.st_reading.proofs.Choices.{first_of, none_chosen}
use Rattle.proof_grammar.proofs.Invariances.{invariance_complete, invariance_sound}
use Rattle.proof_grammar.proofs.ItemEnds.{only_mark}
use Rattle.proof_grammar.proofs.Lookups.{apart_grows, found_text, free_is, is_free_name, text_found}
use Rattle.proof_grammar.proofs.Names.{AreFound, IsFoundName, IsFreeName, found_name, free_name, names_found, new_name_phrase, none_found, using_phrase}
use Rattle.st_reading.proofs.Phrases.{Phrase, after_phrase, as_phrase, made, map_phrase, the_mark, then_phrase}
use Rattle.proof_grammar.proofs.Responses.{response_complete, response_sound}
use Rattle.proof_grammar.proofs.Rules.{ending}
use Rattle.st_reading.proofs.Tokens.{at_mark}
use Rattle.proof_grammar.proofs.Waits.{waiting_complete, waiting_sound}

-- WHAT THE TOKENS SAY
abbrev pub claim_mark : Claim → Mark
claim_mark claims.Invariant = marks.Invariant
claim_mark claims.Waiting = marks.Waiting
claim_mark claims.Response = marks.Response

abbrev pub Claims : Sign → Claim → Type 0
Claims g c = is g (claim_mark c) ≡ true

claim_is : (g : Sign) (c : Claim) → claim_in g ≡ Some c → Claims g c
claim_is g c h =
    first_of (Claims g) (is g marks.Invariant) claims.Invariant c (cond (is g marks.Waiting) (Some claims.Waiting) (cond (is g marks.Response) (Some claims.Response) None)) (λ e. e)
    (λ h. first_of (Claims g) (is g marks.Waiting) claims.Waiting c (cond (is g marks.Response) (Some claims.Response) None) (λ e. e)
    (λ h. first_of (Claims g) (is g marks.Response) claims.Response c None (λ e. e) (λ h. none_chosen (Claims g c) c h) h) h) h

pub claim_found : (g : Sign) (c : Claim) → Claims g c → claim_in g ≡ Some c
unfolding number
claim_found g claims.Invariant h = at_mark claim_in (Some claims.Invariant) marks.Invariant refl g h
claim_found g claims.Waiting h = at_mark claim_in (Some claims.Waiting) marks.Waiting refl g h
claim_found g claims.Response h = at_mark claim_in (Some claims.Response) marks.Response refl g h

-- a step, by the names of the earlier ones
pub data IsRead (claim : List Lexeme → PlainGoal × PlainRule → Type 0) (earlier : Earlier) : List Lexeme → PlainStep → Type 0 where
  read_step : (a b c : List Lexeme) (u : Lexeme) (name : List ℕ) (x : PlainGoal × PlainRule) (cited : List ℕ) → IsFreeName earlier a name → After marks.Colon claim b x → AreFound earlier c cited → Is marks.Semicolon u
      → IsRead claim earlier (a ++ (b ++ (c ++ u ∷ []))) (record { name = name; goal = x.0; rule = x.1; cited = cited })

-- a row whose items are said in other words
items_in_words : {A : Type 0} {mark : Mark} {L M : List Lexeme → A → Type 0} (ts : List Lexeme) (xs : List A) → ((us : List Lexeme) (x : A) → L us x → M us x) → Items mark L ts xs → Items mark M ts xs
items_in_words ts xs words no_items = no_items
items_in_words ts xs words (item_more t a b y ys e l rest) = item_more t a b y ys e (words a y l) (items_in_words b ys words rest)

row_in_words : {A : Type 0} {mark : Mark} {L M : List Lexeme → A → Type 0} (ts : List Lexeme) (xs : List A) → ((us : List Lexeme) (x : A) → L us x → M us x) → Row mark L ts xs → Row mark M ts xs
row_in_words ts xs words (row a b x ys l rest) = row a b x ys (words a x l) (items_in_words b ys words rest)

-- IN THE GRAMMAR'S WORDS, of earlier steps
module _ (earlier : List PlainStep) where
  to_new_name : (ts : List Lexeme) (x : List ℕ) → IsFreeName (earlier_of earlier) ts x → IsNewName earlier ts x
  to_new_name ts x (free_name t e k) = new_name t e (free_is earlier t.text k)

  from_new_name : (ts : List Lexeme) (x : List ℕ) → IsNewName earlier ts x → IsFreeName (earlier_of earlier) ts x
  from_new_name ts x (new_name t e k) = free_name t e (is_free_name earlier t.text k)

  is_new : (ts : List Lexeme) (x : List ℕ) → IsNewName earlier ts x → IsNew x (names_of_steps earlier)
  is_new ts x (new_name t e k) = k

  to_cited_name : (ts : List Lexeme) (n : ℕ) → IsFoundName (earlier_of earlier) ts n → IsCited earlier ts n
  to_cited_name ts n (found_name t m e f) = let l = text_found earlier t.text m f in cited_name t m e l.0 l.1

  to_cited_names : (ts : List Lexeme) (ns : List ℕ) → AreFound (earlier_of earlier) ts ns → IsUsing earlier ts ns
  to_cited_names ts ns none_found = no_using
  to_cited_names ts ns (names_found t us ms e l) = using_names t us ms e (row_in_words us ms to_cited_name l)

  to_named : (claim : List Lexeme → PlainGoal × PlainRule → Type 0) (ts : List Lexeme) (s : PlainStep) → IsRead claim (earlier_of earlier) ts s → IsNamed claim earlier ts s
  to_named claim ts s (read_step a b c u name x cited l k m e) = named_step a b c u name x cited (to_new_name a name l) k (to_cited_names c cited m) e

  module _ (apart : AreApart (names_of_steps earlier)) where
    from_cited_name : (ts : List Lexeme) (n : ℕ) → IsCited earlier ts n → IsFoundName (earlier_of earlier) ts n
    from_cited_name ts n (cited_name t m e f l) = found_name t m e (found_text earlier t.text m apart f l)

    from_cited_names : (ts : List Lexeme) (ns : List ℕ) → IsUsing earlier ts ns → AreFound (earlier_of earlier) ts ns
    from_cited_names ts ns no_using = none_found
    from_cited_names ts ns (using_names t us ms e l) = names_found t us ms e (row_in_words us ms from_cited_name l)

    pub from_named : (claim : List Lexeme → PlainGoal × PlainRule → Type 0) (ts : List Lexeme) (s : PlainStep) → IsNamed claim earlier ts s → IsRead claim (earlier_of earlier) ts s
    from_named claim ts s (named_step a b c u name x cited l k m e) = read_step a b c u name x cited (from_new_name a name l) k (from_cited_names c cited m) e

  pub still_apart : (claim : List Lexeme → PlainGoal × PlainRule → Type 0) (ts : List Lexeme) (s : PlainStep) → AreApart (names_of_steps earlier) → IsNamed claim earlier ts s → AreApart (names_of_steps (earlier ++ s ∷ []))
  still_apart claim ts s apart (named_step a b c u name x cited l k m e) = apart_grows earlier (record { name = name; goal = x.0; rule = x.1; cited = cited }) apart (is_new a name l)

module _ (g : Setting) where
  -- GOALS
  abbrev pub Claimed : Claim → List Lexeme → PlainGoal × PlainRule → Type 0
  Claimed claims.Invariant = IsInvariance g
  Claimed claims.Waiting = IsWaiting g
  Claimed claims.Response = IsResponse g

  pub claimed_sound : (c : Claim) → Sound (claimed_of g c) (Claimed c)
  unfolding claimed_of
  claimed_sound claims.Invariant s x rest h = invariance_sound g s x rest h
  claimed_sound claims.Waiting s x rest h = waiting_sound g s x rest h
  claimed_sound claims.Response s x rest h = response_sound g s x rest h

  pub claimed_complete : (c : Claim) → Complete ending (claimed_of g c) (Claimed c)
  unfolding claimed_of
  claimed_complete claims.Invariant ts x l after h = invariance_complete g ts x l after h
  claimed_complete claims.Waiting ts x l after h = waiting_complete g ts x l after h
  claimed_complete claims.Response ts x l after h = response_complete g ts x l after h

  abbrev pub claimed_phrase : Claim → Phrase Breach (PlainGoal × PlainRule) anything ending
  claimed_phrase c = record { reader = claimed_of g c; language = Claimed c; sound = claimed_sound c; complete = claimed_complete c; begins = λ ts x l after h. refl }

  -- STEPS, behind the token that says what is claimed
  abbrev pub step_parts : Claim → Earlier → Phrase Breach PlainStep is_name anything
  step_parts c earlier =
      then_phrase is_name anything (only_mark marks.Colon) anything (λ g h. refl) (new_name_phrase earlier) (λ name.
      then_phrase (only_mark marks.Colon) ending ending anything (λ g h. h) (after_phrase marks.Colon anything ending (claimed_phrase c)) (λ x.
      then_phrase ending (only_mark marks.Semicolon) (only_mark marks.Semicolon) anything (λ g h. h) (using_phrase earlier) (λ cited.
      map_phrase (only_mark marks.Semicolon) anything (λ m. record { name = name; goal = x.0; rule = x.1; cited = cited }) (the_mark marks.Semicolon))))

  pub to_step : (c : Claim) (earlier : Earlier) (ts : List Lexeme) (x : PlainStep) → (step_parts c earlier).language ts x → IsRead (Claimed c) earlier ts x
  to_step c earlier ts s (behind_it a b1 name s1 l (behind_it b b4 x s3 k (behind_it d b5 cited s4 u (made b6 n (one_mark v f))))) = read_step a b d v name x cited l k u f

  pub from_step : (c : Claim) (earlier : Earlier) (ts : List Lexeme) (x : PlainStep) → IsRead (Claimed c) earlier ts x → (step_parts c earlier).language ts x
  from_step c earlier ts s (read_step a b d v name x cited l k u f) = behind_it a (b ++ (d ++ v ∷ [])) name _ l (behind_it b (d ++ v ∷ []) x _ k (behind_it d (v ∷ []) cited _ u (made (v ∷ []) v.start (one_mark v f))))

  abbrev pub step_as : Claim → Earlier → Phrase Breach PlainStep is_name anything
  step_as c earlier = as_phrase is_name anything (step_parts c earlier) (IsRead (Claimed c) earlier) (to_step c earlier) (from_step c earlier)

  pub step_sound : (c : Claim) (earlier : Earlier) → Sound (step_of g c earlier) (IsRead (Claimed c) earlier)
  unfolding step_of
  step_sound c earlier = (step_as c earlier).sound

  pub step_complete : (c : Claim) (earlier : Earlier) → Complete anything (step_of g c earlier) (IsRead (Claimed c) earlier)
  unfolding step_of
  step_complete c earlier = (step_as c earlier).complete

  -- with that token
  pub whole_step : (c : Claim) (earlier : List PlainStep) (t : Lexeme) (ts : List Lexeme) (s : PlainStep) → claim_in (sign_of t) ≡ Some c → IsRead (Claimed c) (earlier_of earlier) ts s → IsStep g earlier (t ∷ ts) s
  whole_step claims.Invariant earlier t ts s e l = invariance_step t ts s (claim_is (sign_of t) claims.Invariant e) (to_named earlier (IsInvariance g) ts s l)
  whole_step claims.Waiting earlier t ts s e l = waiting_step t ts s (claim_is (sign_of t) claims.Waiting e) (to_named earlier (IsWaiting g) ts s l)
  whole_step claims.Response earlier t ts s e l = response_step t ts s (claim_is (sign_of t) claims.Response e) (to_named earlier (IsResponse g) ts s l)
