-- Names of steps: new ones, those of earlier invariances, and citations. Read exactly where they are spelled.
use Rattle.std.proofs.Common.{Bool, List, None, Option, Some, [], ap, false, not, refl, true, ℕ, ◌∙◌, ◌∷◌, ◌≡◌}
use Rattle.st_reading.specs.Rule as rules
use Rattle.st_reading.specs.Breaches.{Breach, broke, present}
use Rattle.st_tokens.specs.Stream.{Lexeme, Stream, ◌++>◌}
use Rattle.st_reading.proofs.ListCompleteness.{Complete}
use Rattle.st_reading.proofs.ListSoundness.{given, sound_named}
use Rattle.st_reading.proofs.Soundness.{taken}
use Rattle.st_reading.specs.Mark.{number}
use Rattle.st_reading.specs.Reading.{other, Label, ahead, gives, is_name, label_of, named}
use Rattle.st_reading.specs.Spelling.{Is, IsName, OneName, Row, Sound, behind_it, one_name}
use Rattle.st_reading.specs.Steady.{Within, anything}
use Rattle.st_reading.specs.declared.mark.Mark.TheVariants as marks
use Rattle.st_reading.specs.declared.sign.Sign.{Sign}
use Rattle.proof_script.specs.Steps.{Earlier, citations_of, cited_of, is_taken, new_name_of, step_named}
use Rattle.st_reading.proofs.Choices.{behind_mark, either_phrase, without_mark}
use Rattle.proof_grammar.proofs.Judgements.{judge_phrase, judged}
use Rattle.st_reading.proofs.Phrases.{Phrase, as_phrase, the_value, then_phrase}
use Rattle.st_reading.proofs.Rows.{row_phrase}
use Rattle.st_reading.proofs.Tokens.{among, but, marks_within}
use Rattle.basic_laws.proofs.Truths.{not_false}

pub name_complete : {X : Type 0} → Complete {X = X} anything named OneName
name_complete ts x (one_name t e) after h = rw e refl

pub name_begins : (ts : List Lexeme) (x : Label) → OneName ts x → (after : Stream) → anything (ahead after) ≡ true → is_name (ahead (ts ++> after)) ≡ true
name_begins ts x (one_name t e) after h = e

abbrev pub name_phrase : {X : Type 0} → Phrase X Label is_name anything
name_phrase {X} = record { reader = named; language = OneName; sound = sound_named; complete = name_complete; begins = name_begins }

-- what is there
pub data Known {A : Type 0} (o : Option A) : List Lexeme → A → Type 0 where
  known : (x : A) → o ≡ Some x → Known o [] x

module _ {A : Type 0} (breach : Breach) where
  pub known_sound : (o : Option A) → Sound (present breach o) (Known o)
  known_sound None s x rest h = absurd cc
  known_sound (Some y) s x rest h = taken {X = Breach} (Known (Some y)) [] (gives y s) y x s rest refl h (known y refl)

  pub known_complete : (o : Option A) → Complete anything (present breach o) (Known o)
  known_complete o ts x (known y e) after h = rw e refl

  abbrev pub known_phrase : Option A → Phrase Breach A anything anything
  known_phrase o = record { reader = present breach o; language = Known o; sound = known_sound o; complete = known_complete o; begins = λ ts x l after h. refl }

-- WHAT IS READ, by the names of the earlier steps, each with whether it is an invariance
pub data IsFreeName (earlier : Earlier) : List Lexeme → List ℕ → Type 0 where
  free_name : (t : Lexeme) → IsName t → is_taken earlier t.text ≡ false → IsFreeName earlier (t ∷ []) t.text

pub data IsFoundName (earlier : Earlier) : List Lexeme → ℕ → Type 0 where
  found_name : (t : Lexeme) (n : ℕ) → IsName t → step_named earlier t.text ≡ Some (n, true) → IsFoundName earlier (t ∷ []) n

pub data AreFound (earlier : Earlier) : List Lexeme → List ℕ → Type 0 where
  none_found : AreFound earlier [] []
  names_found : (t : Lexeme) (ts : List Lexeme) (ns : List ℕ) → Is marks.Using t → Row marks.Comma (IsFoundName earlier) ts ns → AreFound earlier (t ∷ ts) ns

module _ (earlier : Earlier) where
  -- A NEW NAME
  abbrev pub new_parts : Phrase Breach (List ℕ) is_name anything
  new_parts = judge_phrase is_name anything anything (λ g h. h) (λ n. is_taken earlier n.text) (λ n. other (broke rules.Twice n.place)) (λ n. n.text) name_phrase

  to_new : (ts : List Lexeme) (x : List ℕ) → new_parts.language ts x → IsFreeName earlier ts x
  to_new ts x (judged us l (one_name t e) k) = free_name t e k

  from_new : (ts : List Lexeme) (x : List ℕ) → IsFreeName earlier ts x → new_parts.language ts x
  from_new ts x (free_name t e k) = judged (t ∷ []) (label_of t) (one_name t e) k

  pub new_sound : Sound (new_name_of earlier) (IsFreeName earlier)
  unfolding new_name_of
  new_sound = (as_phrase is_name anything new_parts (IsFreeName earlier) to_new from_new).sound

  pub new_complete : Complete anything (new_name_of earlier) (IsFreeName earlier)
  unfolding new_name_of
  new_complete = (as_phrase is_name anything new_parts (IsFreeName earlier) to_new from_new).complete

  pub new_begins : (ts : List Lexeme) (x : List ℕ) → IsFreeName earlier ts x → (after : Stream) → anything (ahead after) ≡ true → is_name (ahead (ts ++> after)) ≡ true
  new_begins ts x (free_name t e k) after h = e

  abbrev pub new_name_phrase : Phrase Breach (List ℕ) is_name anything
  new_name_phrase = record { reader = new_name_of earlier; language = IsFreeName earlier; sound = new_sound; complete = new_complete; begins = new_begins }

  -- A CITATION
  abbrev pub cited_parts : Phrase Breach ℕ is_name anything
  cited_parts =
      then_phrase is_name anything anything anything (λ g h. refl) name_phrase (λ n.
      judge_phrase anything anything anything (λ g h. h) (λ e. not e.1) (λ e. other (broke rules.NotInvariant n.place)) (λ e. e.0) (known_phrase (broke rules.UnknownLemma n.place) (step_named earlier n.text)))

  is_invariant : (o : Option (ℕ × Bool)) (x : ℕ × Bool) → o ≡ Some x → not x.1 ≡ false → o ≡ Some (x.0, true)
  is_invariant o x f k = f ∙ ap (λ b. Some (x.0, b)) (not_false x.1 k)

  pub to_cited : (ts : List Lexeme) (n : ℕ) → cited_parts.language ts n → IsFoundName earlier ts n
  to_cited ts n (behind_it a b l m (one_name t e) (judged us x (known y f) k)) = found_name t x.0 e (is_invariant (step_named earlier t.text) x f k)

  pub from_cited : (ts : List Lexeme) (n : ℕ) → IsFoundName earlier ts n → cited_parts.language ts n
  from_cited ts n (found_name t m e f) = behind_it (t ∷ []) [] (label_of t) m (one_name t e) (judged [] (m, true) (known (m, true) f) refl)

  abbrev pub citation_phrase : Phrase Breach ℕ is_name anything
  citation_phrase = as_phrase is_name anything cited_parts (IsFoundName earlier) to_cited from_cited

  -- CITATIONS, before a ";"
  abbrev pub semicolon : Sign → Bool
  semicolon = among (marks.Semicolon ∷ [])

  pub no_comma : Within semicolon (but marks.Comma)
  unfolding number
  no_comma = marks_within (but marks.Comma) (marks.Semicolon ∷ []) refl

  pub no_keyword : Within semicolon (but marks.Using)
  unfolding number
  no_keyword = marks_within (but marks.Using) (marks.Semicolon ∷ []) refl

  abbrev pub using_parts : Phrase Breach (List ℕ) (among (marks.Using ∷ marks.Semicolon ∷ [])) semicolon
  using_parts = either_phrase marks.Using is_name semicolon semicolon no_keyword (row_phrase marks.Comma is_name anything semicolon refl no_comma (λ g h. refl) citation_phrase) (the_value semicolon [])

  pub to_using : (ts : List Lexeme) (ns : List ℕ) → using_parts.language ts ns → AreFound earlier ts ns
  to_using ts ns (behind_mark t us xs e l) = names_found t us xs e l
  to_using ts ns (without_mark us xs given) = none_found

  pub from_using : (ts : List Lexeme) (ns : List ℕ) → AreFound earlier ts ns → using_parts.language ts ns
  from_using ts ns none_found = without_mark [] [] given
  from_using ts ns (names_found t us xs e l) = behind_mark t us xs e l

  abbrev pub using_as : Phrase Breach (List ℕ) (among (marks.Using ∷ marks.Semicolon ∷ [])) semicolon
  using_as = as_phrase (among (marks.Using ∷ marks.Semicolon ∷ [])) semicolon using_parts (AreFound earlier) to_using from_using

  pub using_sound : Sound (citations_of earlier) (AreFound earlier)
  unfolding citations_of cited_of
  using_sound = using_as.sound

  pub using_complete : Complete semicolon (citations_of earlier) (AreFound earlier)
  unfolding citations_of cited_of
  using_complete = using_as.complete

  abbrev pub using_phrase : Phrase Breach (List ℕ) (among (marks.Using ∷ marks.Semicolon ∷ [])) semicolon
  using_phrase = record { reader = citations_of earlier; language = AreFound earlier; sound = using_sound; complete = using_complete; begins = using_as.begins }
