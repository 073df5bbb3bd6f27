-- Whole scripts: steps as they follow each other, and the text's end. Later steps see the names of earlier ones, and which are invariances.
use Rattle.std.proofs.Common.{◌≡◌, ℕ, zero, suc, ◌+◌, ◌<◌, Bool, true, false, if◌then◌else◌, List, [], ◌∷◌, ◌++◌, length, Option, Some, None, Ok, Err, refl, sym, ap, ◌∙◌, arith}
use Rattle.std.specs.Prelude.{is_some}
use Rattle.std.specs.Str.{bytes_eq}
use Rattle.std.specs.Option.{option_map}
use Rattle.std.proofs.lemmas.List.{map-append}
use Rattle.st_tokens.specs.Stream.{◌++>◌, Lexeme, Stream, more, behind, text_stream}
use Rattle.st_reading.specs.declared.mark.Mark.TheVariants as marks
use Rattle.st_reading.specs.declared.sign.Sign.{Sign}
use Rattle.st_reading.specs.Sign.{sign_of, is}
use Rattle.st_reading.specs.Rule as rules
use Rattle.st_reading.specs.Reading.{Read, ◌>>=◌, Stop, Label, syntax, ahead, place_of, size, is_name, gives, then_reads, on_operator, Turn, goes, turned, chain, whole}
use Rattle.st_reading.specs.Breaches.{Breach, Reader, alone, broke}
use Rattle.st_reading.specs.Phrases.{Many}
use Rattle.st_reading.specs.Spelling.{Sound}
use Rattle.st_reading.specs.Steady.{Short, wider, anything}
use Rattle.st_reading.proofs.Soundness.{Shrinks, sound_shrinks}
use Rattle.st_reading.proofs.Shrinking.{shrinks_map}
use Rattle.st_reading.proofs.ListCompleteness.{Complete}
use Rattle.st_reading.proofs.Chains.{chain_none, chain_of, chain_step}
use Rattle.st_reading.proofs.Choices.{chosen}
use Rattle.st_reading.proofs.FairReaders.{fair_loop}
use Rattle.st_reading.proofs.Lawful.{short_of}
use Rattle.st_reading.proofs.LawfulPhrases.{LawfulPhrase, as_lawful, choice_lawful, within_lawful}
use Rattle.st_reading.proofs.Whiles.{stream_size, while_complete, while_of, while_sound}
use Rattle.st_reading.proofs.Judging.{JudgedAt}
use Rattle.st_reading.proofs.JudgedParts.{Turns, but_not, judged_loop, not_tested, total}
use Rattle.temporal_goals.specs.Texts.{PlainStep}
use Rattle.expression_typer.specs.Naming.{is_text}
use Rattle.proof_script.specs.declared.steps.Claim.{Claim}
use Rattle.proof_script.specs.declared.steps.Claim.TheVariants as claims
use Rattle.proof_script.specs.Listing.{Setting}
use Rattle.proof_script.specs.Steps.{Earlier, claim_in, earlier_of, is_invariance, step_of}
use Rattle.proof_script.specs.Script.{ended, script_spelled, step_turn, steps_of}
use Rattle.script_grammar.proofs.ChoosingTokens.{claim_found, claim_is}
use Rattle.script_grammar.specs.RawScripts.{RawStep}
use Rattle.script_grammar.specs.Sizes.{claim_size, label_size, step_size}
use Rattle.script_grammar.specs.Grammar.{IsRawStep, spells_invariance_step, spells_waiting_step, spells_response_step}
use Rattle.script_grammar.specs.Meaning.{lemma_called, one_later, step_called, step_meant}
use Rattle.script_grammar.specs.Breaking.{broken_where, marked_rules}
use Rattle.script_grammar.specs.Rules.{broken_rules, cited_rules, claim_rules, lemma_rules, name_rules, step_rules, steps_rules}
use Rattle.script_grammar.specs.Theorems.{Forms, Sums}
use Rattle.script_grammar.specs.FirstFaults.{IsSyntactic, StopsAtFirst, ScriptsFirstFault}
use Rattle.script_grammar.proofs.Judges.{Judges, made_so, same_so, shrinks_so}
use Rattle.script_grammar.proofs.JudgedChoices.{choice_so, choosing}
use Rattle.script_grammar.proofs.JudgedSteps.{IsMade, claim_lawful, claim_step_so, invariant_token, invariant_spelled, invariant_is, later_rules, later_size, step_ruled, step_sized}
use Rattle.script_grammar.proofs.PartLaws.{stops_at_first}

-- A STEP, READ AND NOT JUDGED
says_invariant : claim_in (sign_of invariant_token) ≡ Some claims.Invariant
says_invariant = claim_found (sign_of invariant_token) claims.Invariant invariant_is

abbrev claimed_step : Claim → LawfulPhrase Breach RawStep anything anything
claimed_step c = within_lawful is_name anything anything anything (λ g h. refl) (λ g h. refl) (claim_lawful c)

abbrev step_parts : LawfulPhrase Breach RawStep anything anything
step_parts = choice_lawful claim_in refl anything (λ c. (claimed_step c).phrase.reader) (λ c. (claimed_step c).phrase.language) (λ c. (claimed_step c).phrase.sound) (λ c. (claimed_step c).phrase.complete) invariant_token invariant_spelled claims.Invariant says_invariant (λ c. (claimed_step c).lawful)

step_short : Short {A = Claim} anything anything (λ c. (claimed_step c).phrase.reader)
step_short = short_of anything anything (λ c. (claimed_step c).phrase.reader) (λ c. wider (λ g h. refl)) (λ (i : Unit {0}) c. (claimed_step c).phrase.reader) (λ c. (claimed_step c).lawful) tt

abbrev Step : List Lexeme → RawStep → Type 0
Step = IsRawStep Forms Sums

to_step : (ts : List Lexeme) (s : RawStep) → step_parts.phrase.language ts s → Step ts s
to_step ts s (chosen claims.Invariant t us y e l) = spells_invariance_step t us s (claim_is (sign_of t) claims.Invariant e) l
to_step ts s (chosen claims.Waiting t us y e l) = spells_waiting_step t us s (claim_is (sign_of t) claims.Waiting e) l
to_step ts s (chosen claims.Response t us y e l) = spells_response_step t us s (claim_is (sign_of t) claims.Response e) l

from_step : (ts : List Lexeme) (s : RawStep) → Step ts s → step_parts.phrase.language ts s
from_step ts s (spells_invariance_step t us x e l) = chosen claims.Invariant t us x (claim_found (sign_of t) claims.Invariant e) l
from_step ts s (spells_waiting_step t us x e l) = chosen claims.Waiting t us x (claim_found (sign_of t) claims.Waiting e) l
from_step ts s (spells_response_step t us x e l) = chosen claims.Response t us x (claim_found (sign_of t) claims.Response e) l

abbrev step_lawful : LawfulPhrase Breach RawStep anything anything
step_lawful = as_lawful anything anything step_parts Step to_step from_step

abbrev plain_step : Reader RawStep
plain_step = step_lawful.phrase.reader

-- STEPS
abbrev begins_step : Sign → Bool
begins_step g = is_some (claim_in g)

begun_so : (ts : List Lexeme) (x : RawStep) (after : Stream) → Step ts x → (begins_step (ahead (ts ++> after)) ≡ true) × (0 < length ts)
begun_so ts x after (spells_invariance_step t us s e l) = (ap is_some (claim_found (sign_of t) claims.Invariant e), omega arith)
begun_so ts x after (spells_waiting_step t us s e l) = (ap is_some (claim_found (sign_of t) claims.Waiting e), omega arith)
begun_so ts x after (spells_response_step t us s e l) = (ap is_some (claim_found (sign_of t) claims.Response e), omega arith)

strict : (s : Stream) (x : RawStep) (rest : Stream) → plain_step s ≡ Ok (x, rest) → size rest < size s
strict s x rest h = let c = step_lawful.phrase.sound s x rest h in let k = begun_so c.text x rest c.spells in omega (arith, k.1, stream_size c.text rest, ap size c.is)

abbrev loops : Reader (List RawStep)
loops = while_of begins_step plain_step

loops_sound : Sound loops (Many Step)
loops_sound = while_sound begins_step plain_step Step step_lawful.phrase.sound

loops_complete : Complete (but_not begins_step) loops (Many Step)
loops_complete ts xs m after h = while_complete begins_step plain_step Step begun_so (λ us x after2 l. step_lawful.phrase.complete us x l after2 refl) ts xs m after (not_tested begins_step (ahead after) h)

abbrev steps_lawful : LawfulPhrase Breach (List RawStep) anything (but_not begins_step)
steps_lawful = record {
  phrase = record { reader = loops; language = Many Step; sound = loops_sound; complete = loops_complete; begins = λ ts l x after h. refl };
  lawful = fair_loop begins_step refl plain_step strict (syntax 0) refl step_lawful.lawful (sound_shrinks loops (Many Step) loops_sound);
}

-- WHAT THE RULES SEE OF EARLIER STEPS
called_in : Earlier → List ℕ → Option (ℕ × Bool)
called_in [] name = None
called_in (e ∷ es) name = if bytes_eq e.0 name then Some (0, e.1) else option_map one_later (called_in es name)

called_by : (steps : List PlainStep) (name : List ℕ) → step_called steps name ≡ called_in (earlier_of steps) name
unfolding called_in
called_by [] name = refl
called_by (s ∷ steps) name = ap (λ o. if bytes_eq s.name name then Some (0, is_invariance s.goal) else option_map one_later o) (called_by steps name)

abbrev Sees : List PlainStep → List PlainStep → Type 0
Sees x k = earlier_of x ≡ earlier_of k

same_called : (x k : List PlainStep) → Sees x k → (name : List ℕ) → step_called k name ≡ step_called x name
same_called x k e name = called_by k name ∙ ap (λ z. called_in z name) (sym e) ∙ sym (called_by x name)

module _ (g : Setting) (x k : List PlainStep) (e : Sees x k) where
  same_lemma : (name : List ℕ) → lemma_called k name ≡ lemma_called x name
  same_lemma name = ap (λ o. if is_text name then o else None) (same_called x k e name)

  same_cited : (at : ℕ) (ls : List Label) → marked_rules label_size (cited_rules k) at ls ≡ marked_rules label_size (cited_rules x) at ls
  same_cited at [] = refl
  same_cited at (l ∷ ls) =
      ap (λ o. lemma_rules (at + 1 + 1) l o ++ marked_rules label_size (cited_rules k) (at + (1 + label_size l)) ls) (same_lemma l.text)
      ∙ ap (λ z. cited_rules x (at + 1) l ++ z) (same_cited (at + (1 + label_size l)) ls)

  same_rules : (at : ℕ) (s : RawStep) → step_rules g k at s ≡ step_rules g x at s
  same_rules at s =
      ap (λ o. broken_where (is_some o) (at + 1 + 1) (broke rules.Twice s.name.place) ++ (claim_rules g (at + 3) s.claim ++ marked_rules label_size (cited_rules k) (at + 3 + claim_size s.claim) s.cited)) (same_called x k e s.name.text)
      ∙ ap (λ z. name_rules x (at + 1) s.name ++ (claim_rules g (at + 3) s.claim ++ z)) (same_cited (at + 3 + claim_size s.claim) s.cited)

-- JUDGED
module _ (g : Setting) where
  abbrev Adds : List PlainStep → RawStep → List PlainStep → Type 0
  Adds x a y = (z : PlainStep) × (y ≡ x ++ z ∷ []) × IsMade g a z

  abbrev seen : PlainStep → List ℕ × Bool
  seen s = (s.name, is_invariance s.goal)

  sees_more : (x y k : List PlainStep) (a : RawStep) → Sees x k → Adds x a y → Sees y (k ++ step_meant g k a ∷ [])
  sees_more x y k a e (z, is_more, made) =
      ap earlier_of is_more ∙ map-append seen x (z ∷ []) ∙ ap (λ (us : Earlier). us ++ seen z ∷ []) e
      ∙ ap (λ (n : List ℕ). earlier_of k ++ (n, is_invariance z.goal) ∷ []) made.0 ∙ ap (λ (b : Bool). earlier_of k ++ (a.name.text, b) ∷ []) made.1
      ∙ sym (map-append seen k (step_meant g k a ∷ []))

  abbrev step_judge : List PlainStep → Reader PlainStep
  step_judge x = choosing claim_in (λ c. step_of g c (earlier_of x))

  step_so : (x : List PlainStep) → Judges anything (step_judge x) plain_step step_size (step_rules g x) (IsMade g)
  step_so x = choice_so claim_in refl anything (λ c. step_of g c (earlier_of x)) (λ c. (claimed_step c).phrase.reader) step_short step_size later_size step_sized (step_rules g x) (later_rules g x) (step_ruled g x) (IsMade g) (λ c. claim_step_so g x c)

  abbrev adding : List PlainStep → PlainStep → List PlainStep
  adding x z = x ++ z ∷ []

  abbrev front : List PlainStep → Reader (List PlainStep)
  front x = then_reads (step_judge x) (λ z. gives (adding x z))

  judged_item : (x k : List PlainStep) (at : ℕ) → Sees x k → (s : Stream) → JudgedAt IsSyntactic anything at (front x) plain_step step_size (step_rules g k at) (Adds x) s
  judged_item x k at e s = (same_so step_size (step_rules g k) (λ a. refl) (same_rules g x k e) (made_so (adding x) (Adds x) (λ a z made. (z, refl, made)) (step_so x))).judged at s

  -- THE LOOP
  abbrev grown : List PlainStep → PlainStep → Turn (List PlainStep) (List PlainStep)
  grown x z = goes (x ++ z ∷ [])

  turn_shrinks : (c : Claim) (place : ℕ) (x : List PlainStep) → Shrinks (step_turn g c place x)
  turn_shrinks c place x = shrinks_map (grown x) (step_of g c (earlier_of x)) (shrinks_so (claim_step_so g x c))

  abbrev loop : List PlainStep → Reader (List PlainStep)
  loop x s = chain claim_in (step_turn g) gives (size s) x s

  is_none_there : (o : Option Claim) → is_some o ≡ false → None ≡ o
  is_none_there None e = refl
  is_none_there (Some c) e = absurd cc

  loop_none : (x : List PlainStep) (s : Stream) → begins_step (ahead s) ≡ false → loop x s ≡ Ok (x, s)
  loop_none x s e = chain_none claim_in (step_turn g) gives (size s) x s (is_none_there (claim_in (ahead s)) e)

  loop_step : (x : List PlainStep) (t : Lexeme) (s : Stream) → begins_step (sign_of t) ≡ true → loop x (more t s) ≡ then_reads (front x) loop (more t s)
  loop_step x t s e = at_claim (claim_in (sign_of t)) refl
    where
      at_read : (r : Read Breach PlainStep) → ((r >>= λ z. gives {X = Breach} (grown x z.0) z.1) >>= λ y. turned (chain_of claim_in refl (step_turn g) gives turn_shrinks) y.0 y.1) ≡ ((r >>= λ z. gives {X = Breach} (adding x z.0) z.1) >>= λ y. loop y.0 y.1)
      at_read (Ok z) = refl
      at_read (Err f) = refl

      at_claim : (o : Option Claim) → claim_in (sign_of t) ≡ o → loop x (more t s) ≡ then_reads (front x) loop (more t s)
      at_claim None h = let none : begins_step (sign_of t) ≡ false = ap is_some h in let wrong : true ≡ false = sym e ∙ none in absurd cc
      at_claim (Some c) h = chain_step claim_in refl (step_turn g) gives turn_shrinks t c x s h ∙ at_read (step_of g c (earlier_of x) s) ∙ ap (λ (r : Read Breach PlainStep). (r >>= λ z. gives {X = Breach} (adding x z.0) z.1) >>= λ y. loop y.0 y.1) (sym (chosen_is c h))
        where
          chosen_is : (c : Claim) → claim_in (sign_of t) ≡ Some c → step_judge x (more t s) ≡ step_of g c (earlier_of x) s
          chosen_is c h = rw h refl

  positive : (a : RawStep) → 0 < step_size a
  positive a = omega arith

  judged_steps : (s : Stream) → JudgedAt IsSyntactic (but_not begins_step) 0 (loop []) loops (total step_size) (broken_rules g) (Turns Adds []) s
  judged_steps s =
      judged_loop IsSyntactic begins_step refl loop front plain_step loop_none loop_step strict step_size positive Adds Sees (λ k a. k ++ step_meant g k a ∷ []) (λ x y k a e m. sees_more x y k a e m)
      (λ k n a. step_rules g k n a) (λ k n xs. steps_rules g k n xs) (λ k n. refl) (λ k n a xs. refl) judged_item [] [] 0 refl s

  loops_first : StopsAtFirst (Many Step) (broken_rules g) (loop [])
  loops_first = stops_at_first anything (but_not begins_step) refl steps_lawful (broken_rules g) (loop []) (total step_size) (Turns Adds []) judged_steps

  -- AND THE TEXT'S END
  ended_chain : (n : ℕ) (x : List PlainStep) (s : Stream) → chain claim_in (step_turn g) ended n x s ≡ then_reads (λ m. chain claim_in (step_turn g) gives n x m) ended s
  unfolding chain
  ended_chain zero x s = refl
  ended_chain (suc n) x s = at_claim (λ y m. ended_chain n y m) (claim_in (ahead s))
    where
      at_claim : ((y : List PlainStep) (m : Stream) → chain claim_in (step_turn g) ended n y m ≡ then_reads (λ m. chain claim_in (step_turn g) gives n y m) ended m) → (o : Option Claim)
          → on_operator o (ended x s) (λ c. step_turn g c (place_of s) x (behind s) >>= λ y. turned (λ z m. chain claim_in (step_turn g) ended n z m) y.0 y.1) ≡ (on_operator o (gives x s) (λ c. step_turn g c (place_of s) x (behind s) >>= λ y. turned (λ z m. chain claim_in (step_turn g) gives n z m) y.0 y.1) >>= λ y. ended y.0 y.1)
      at_claim again None = refl
      at_claim again (Some c) = at_step (step_of g c (earlier_of x) (behind s))
        where
          at_step : (r : Read Breach PlainStep) → ((r >>= λ z. gives {X = Breach} (grown x z.0) z.1) >>= λ y. turned (λ y m. chain claim_in (step_turn g) ended n y m) y.0 y.1) ≡ (((r >>= λ z. gives {X = Breach} (grown x z.0) z.1) >>= λ y. turned (λ y m. chain claim_in (step_turn g) gives n y m) y.0 y.1) >>= λ y. ended y.0 y.1)
          at_step (Ok z) = again (x ++ z.0 ∷ []) z.1
          at_step (Err f) = refl

  whole_loop : (s : Stream) → steps_of g [] s ≡ whole (loop []) s
  unfolding steps_of
  whole_loop s = ended_chain (size s) [] s

to_alone : {X A : Type 0} (r : Read X A) (f : Stop X) → r ≡ Err f → alone r ≡ Err f
to_alone r f h = ap alone h

from_alone : {X A : Type 0} (r : Read X A) (f : Stop X) → alone r ≡ Err f → r ≡ Err f
from_alone (Ok x) f h = absurd cc
from_alone (Err e) f h = let k : e ≡ f = cc in ap Err k

pub scripts_first_fault : ScriptsFirstFault
unfolding script_spelled
scripts_first_fault g text f =
    let first = loops_first g (text_stream text) f in
    (λ h. first.0 (sym (whole_loop g (text_stream text)) ∙ from_alone (steps_of g [] (text_stream text)) f h), λ h. to_alone (steps_of g [] (text_stream text)) f (whole_loop g (text_stream text) ∙ first.1 h))
