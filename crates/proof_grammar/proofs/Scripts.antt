-- Steps behind one another, up to the text's end, and the laws of scripts.
use Rattle.std.proofs.Common.{List, None, Ok, Option, Some, [], ap, refl, suc, sym, zero, ℕ, ◌++◌, ◌∙◌, ◌∷◌, ◌≡◌}
use Rattle.st_reading.specs.Breaches.{Breach, alone}
use Rattle.st_tokens.specs.Stream.{Lexeme, Stream, behind, breaks, ends, more, text_stream, ◌++>◌}
use Rattle.st_reading.proofs.Chains.{chain_none, chain_of, chain_step}
use Rattle.st_reading.proofs.ListSoundness.{Given, given}
use Rattle.st_reading.proofs.Soundness.{Shrinks, chain_sound, sound_shrinks, split, taken, values}
use Rattle.st_reading.proofs.Steadiness.{bind_ok}
use Rattle.st_reading.proofs.Streams.{append_stream}
use Rattle.st_reading.specs.Reading.{Turn, ahead, at_end, chain, gives, goes, leaves, on_operator, place_of, size, then_reads, turned, ◌>>=◌}
use Rattle.st_reading.specs.Sign.{sign_of}
use Rattle.st_reading.specs.Spelling.{Links, Sound, ended as last_link, left, linked}
use Rattle.st_reading.specs.Steady.{anything}
use Rattle.st_program.specs.Names.{AreApart}
use Rattle.temporal_goals.specs.Texts.{PlainStep}
use Rattle.proof_script.specs.Listing.{Setting}
use Rattle.proof_script.specs.Script.{ended, script_spelled, step_turn, steps_of}
use Rattle.proof_script.specs.Steps.{Earlier, claim_in, earlier_of, step_of}
use Rattle.proof_script.specs.declared.steps.Claim.{Claim}
use Rattle.proof_script.specs.declared.steps.Claim.TheVariants as claims
use Rattle.proof_grammar.specs.Grammar.{IsInvariance, IsResponse, IsScript, IsWaiting, a_further_step, invariance_step, no_further_step, response_step, waiting_step}
use Rattle.proof_grammar.specs.Theorems.{ReadScriptsAreSpelled, ScriptsReadOnce, SpelledScriptsAreRead}
use Rattle.proof_grammar.specs.Units.{names_of_steps}
use Rattle.st_reading.proofs.Phrases.{Phrase, made, map_phrase}
use Rattle.proof_grammar.proofs.Steps.{Claimed, Claims, IsRead, claim_found, from_named, step_complete, step_sound, still_apart, whole_step}
use Rattle.proof_script.proofs.Scripts.{alone_read}

module _ (g : Setting) where
  abbrev pub one_step : Claim → Earlier → Phrase Breach PlainStep anything anything
  one_step claim earlier = record { reader = step_of g claim earlier; language = IsRead (Claimed g claim) earlier; sound = step_sound g claim earlier; complete = step_complete g claim earlier; begins = λ ts x l after h. refl }

  abbrev pub turn : Claim → ℕ → List PlainStep → Phrase Breach (Turn (List PlainStep) (List PlainStep)) anything anything
  turn claim place steps = map_phrase anything anything (λ x. goes (steps ++ x ∷ [])) (one_step claim (earlier_of steps))

  shrinks : (claim : Claim) (place : ℕ) (steps : List PlainStep) → Shrinks (step_turn g claim place steps)
  shrinks claim place steps = sound_shrinks (step_turn g claim place steps) (turn claim place steps).language (turn claim place steps).sound

  pub ended_sound : (steps : List PlainStep) → Sound (ended steps) (Given steps)
  unfolding at_end
  ended_sound steps (ends q) zs rest h = taken {X = Breach} (Given steps) [] (gives steps (ends q)) steps zs (ends q) rest refl h given
  ended_sound steps (breaks f) zs rest h = absurd cc
  ended_sound steps (more t s) zs rest h = absurd cc

  to_script : (before : List PlainStep) (ts : List Lexeme) (steps : List PlainStep) → Links claim_in (λ claim place xs. (turn claim place xs).language) Given before ts steps → IsScript g before ts steps
  to_script before ts steps (last_link xs us zs given) = no_further_step xs
  to_script before ts steps (left xs t o us zs e l) = elim l [ ]
  to_script before ts steps (linked xs ys t o a b zs e (made us s l) rest) = a_further_step xs (t ∷ us) b s zs (whole_step g o xs t us s e l) (to_script (xs ++ s ∷ []) b zs rest)

  script_sound : (before : List PlainStep) → Sound (steps_of g before) (IsScript g before)
  unfolding steps_of
  script_sound before s steps rest h =
      let c = chain_sound claim_in (step_turn g) ended (λ claim place xs. (turn claim place xs).language) Given refl (λ claim place xs. (turn claim place xs).sound) ended_sound (size s) before s steps rest h in
      record { text = c.text; is = c.is; spells = to_script before c.text steps c.spells }

  -- over one step, whatever stands behind it
  over_step : (claim : Claim) (xs : List PlainStep) (t : Lexeme) (a b : List Lexeme) (s : PlainStep) (after : Stream) → Claims (sign_of t) claim → IsRead (Claimed g claim) (earlier_of xs) a s
      → steps_of g xs (((t ∷ a) ++ b) ++> after) ≡ steps_of g (xs ++ s ∷ []) (b ++> after)
  unfolding steps_of
  over_step claim xs t a b s after e l =
      chain_step claim_in refl (step_turn g) ended shrinks t claim xs ((a ++ b) ++> after) (claim_found (sign_of t) claim e)
      ∙ ap (then_reads (step_turn g claim t.start xs) (turned (chain_of claim_in refl (step_turn g) ended shrinks))) (append_stream a b after)
      ∙ bind_ok (step_turn g claim t.start xs) (turned (chain_of claim_in refl (step_turn g) ended shrinks)) (a ++> (b ++> after)) (goes (xs ++ s ∷ [])) (b ++> after)
      ((turn claim t.start xs).complete a (goes (xs ++ s ∷ [])) (made a s l) (b ++> after) refl)

  -- and over a script
  pub over_script : (before : List PlainStep) (ts : List Lexeme) (steps : List PlainStep) → AreApart (names_of_steps before) → IsScript g before ts steps → (after : Stream) → steps_of g before (ts ++> after) ≡ steps_of g steps after
  over_script before ts steps apart (no_further_step xs) after = refl
  over_script before ts steps apart (a_further_step xs a b s zs (invariance_step t us x e l) rest) after =
      over_step claims.Invariant xs t us b x after e (from_named xs apart (IsInvariance g) us x l) ∙ over_script (xs ++ x ∷ []) b zs (still_apart xs (IsInvariance g) us x apart l) rest after
  over_script before ts steps apart (a_further_step xs a b s zs (waiting_step t us x e l) rest) after =
      over_step claims.Waiting xs t us b x after e (from_named xs apart (IsWaiting g) us x l) ∙ over_script (xs ++ x ∷ []) b zs (still_apart xs (IsWaiting g) us x apart l) rest after
  over_script before ts steps apart (a_further_step xs a b s zs (response_step t us x e l) rest) after =
      over_step claims.Response xs t us b x after e (from_named xs apart (IsResponse g) us x l) ∙ over_script (xs ++ x ∷ []) b zs (still_apart xs (IsResponse g) us x apart l) rest after

  no_more_step : (xs : List PlainStep) (q : ℕ) → steps_of g xs (ends q) ≡ Ok (xs, ends q)
  unfolding steps_of at_end
  no_more_step xs q = chain_none claim_in (step_turn g) ended (size (ends q)) xs (ends q) refl

  script_complete : (before : List PlainStep) (ts : List Lexeme) (steps : List PlainStep) → AreApart (names_of_steps before) → IsScript g before ts steps → (q : ℕ) → steps_of g before (ts ++> ends q) ≡ Ok (steps, ends q)
  script_complete before ts steps apart l q = over_script before ts steps apart l (ends q) ∙ no_more_step steps q

  script_read_once : (ts : List Lexeme) (xs ys : List PlainStep) → IsScript g [] ts xs → IsScript g [] ts ys → xs ≡ ys
  script_read_once ts xs ys l m = (values (steps_of g [] (ts ++> ends 0)) xs ys (ends 0) (ends 0) (script_complete [] ts xs tt l 0) (script_complete [] ts ys tt m 0)).0

  -- what is left is the text's end
  ended_ends : (steps zs : List PlainStep) (s rest : Stream) → ended steps s ≡ Ok (zs, rest) → (q : ℕ) × (rest ≡ ends q)
  unfolding at_end
  ended_ends steps zs (ends q) rest h = let v = values {X = Breach} (gives steps (ends q)) steps zs (ends q) rest refl h in (q, sym v.1)
  ended_ends steps zs (breaks f) rest h = absurd cc
  ended_ends steps zs (more t s) rest h = absurd cc

  pub never_leaves : (claim : Claim) (place : ℕ) (xs zs : List PlainStep) (s m : Stream) → step_turn g claim place xs s ≡ Ok (leaves zs, m) → ⊥
  never_leaves claim place xs zs s m h =
      let c = (turn claim place xs).sound s (leaves zs) m h in
      none c.text c.spells
    where
      none : (ts : List Lexeme) → (turn claim place xs).language ts (leaves zs) → ⊥
      none ts l = elim l [ ]

  chain_ends : (k : ℕ) (xs zs : List PlainStep) (s rest : Stream) → chain claim_in (step_turn g) ended k xs s ≡ Ok (zs, rest) → (q : ℕ) × (rest ≡ ends q)
  unfolding chain
  chain_ends zero xs zs s rest h = ended_ends xs zs s rest h
  chain_ends (suc k) xs zs s rest h = at_claim (λ ys m e. chain_ends k ys zs m rest e) (claim_in (ahead s)) h
    where
      at_turn : ((ys : List PlainStep) (m : Stream) → chain claim_in (step_turn g) ended k ys m ≡ Ok (zs, rest) → (q : ℕ) × (rest ≡ ends q)) → (claim : Claim) (y : Turn (List PlainStep) (List PlainStep)) (m : Stream)
          → step_turn g claim (place_of s) xs (behind s) ≡ Ok (y, m) → turned (λ w n. chain claim_in (step_turn g) ended k w n) y m ≡ Ok (zs, rest) → (q : ℕ) × (rest ≡ ends q)
      at_turn again claim (leaves b) m e h = absurd (never_leaves claim (place_of s) xs b (behind s) m e)
      at_turn again claim (goes ys) m e h = again ys m h

      at_claim : ((ys : List PlainStep) (m : Stream) → chain claim_in (step_turn g) ended k ys m ≡ Ok (zs, rest) → (q : ℕ) × (rest ≡ ends q)) → (o : Option Claim)
          → on_operator o (ended xs s) (λ claim. step_turn g claim (place_of s) xs (behind s) >>= λ y. turned (λ w n. chain claim_in (step_turn g) ended k w n) y.0 y.1) ≡ Ok (zs, rest) → (q : ℕ) × (rest ≡ ends q)
      at_claim again None h = ended_ends xs zs s rest h
      at_claim again (Some claim) h =
          let p = split (step_turn g claim (place_of s) xs) (λ y. turned (λ w n. chain claim_in (step_turn g) ended k w n) y) (behind s) zs rest h in
          at_turn again claim p.value p.middle p.first p.second

  script_ends : (before zs : List PlainStep) (s rest : Stream) → steps_of g before s ≡ Ok (zs, rest) → (q : ℕ) × (rest ≡ ends q)
  unfolding steps_of
  script_ends before zs s rest h = chain_ends (size s) before zs s rest h

-- THE LAWS
pub spelled_scripts_are_read : SpelledScriptsAreRead
unfolding script_spelled
spelled_scripts_are_read g text steps l =
    let r : steps_of g [] (text_stream text) ≡ Ok (steps, ends l.1) = ap (steps_of g []) l.2 ∙ script_complete g [] l.0 steps tt l.3 l.1 in
    ap alone r

pub read_scripts_are_spelled : ReadScriptsAreSpelled
unfolding script_spelled
read_scripts_are_spelled g text steps h =
    let r = alone_read (steps_of g [] (text_stream text)) steps h in
    let c = script_sound g [] (text_stream text) steps r.0 r.1 in
    let e = script_ends g [] steps (text_stream text) r.0 r.1 in
    (c.text, e.0, c.is ∙ ap (λ m. c.text ++> m) e.1, c.spells)

pub scripts_read_once : ScriptsReadOnce
scripts_read_once g ts xs ys l m = script_read_once g ts xs ys l m
