-- Texts that grow at their end: the steps that they have spelled stay.
use Rattle.std.proofs.Common.{◌≡◌, ℕ, zero, suc, ◌+◌, List, None, Ok, Option, Some, [], ◌∷◌, ◌++◌, length, ap, refl, sym, ◌∙◌, arith, append_assoc, append-nil, length-append}
use Rattle.st_reading.specs.Breaches.{Breach}
use Rattle.st_tokens.specs.Stream.{Lexeme, Stream, behind, breaks, ends, more, text_stream, shifted, ◌++>◌}
use Rattle.st_tokens.proofs.Shifting.{texts_go_on}
use Rattle.st_reading.proofs.Soundness.{split, values}
use Rattle.st_reading.specs.Reading.{Turn, ahead, at_end, chain, gives, goes, leaves, on_operator, place_of, size, turned, ◌>>=◌}
use Rattle.temporal_goals.specs.Texts.{PlainStep}
use Rattle.proof_script.specs.Listing.{Setting}
use Rattle.proof_script.specs.Script.{ended, script_spelled, step_turn, steps_of}
use Rattle.proof_script.specs.Steps.{claim_in}
use Rattle.proof_script.specs.declared.steps.Claim.{Claim}
use Rattle.proof_grammar.specs.Grammar.{no_further_step}
use Rattle.proof_grammar.specs.Growing.{NothingStands, LinesStand, CommentsAddNothing, StandingIsSpelled, ScriptsGoOn}
use Rattle.st_reading.proofs.Phrases.{made}
use Rattle.proof_grammar.proofs.Scripts.{never_leaves, over_script, read_scripts_are_spelled, turn}
use Rattle.proof_script.proofs.Scripts.{alone_read}
use Rattle.proof_grammar.proofs.TextEnds.{ends_there, shifted_none, shifted_twice, comment_has_none, no_text}

-- more steps behind others
abbrev pub Longer : List PlainStep → List PlainStep → Type 0
Longer xs zs = (further : List PlainStep) × (zs ≡ xs ++ further)

longer-same : (xs zs : List PlainStep) → zs ≡ xs → Longer xs zs
longer-same xs zs e = ([], e ∙ sym (append-nil xs))

longer-one : (xs ys zs : List PlainStep) (s : PlainStep) → ys ≡ xs ++ s ∷ [] → Longer ys zs → Longer xs zs
longer-one xs ys zs s e l = (s ∷ l.0, l.1 ∙ ap (λ (z : List PlainStep). z ++ l.0) e ∙ append_assoc xs (s ∷ []) l.0)

module _ (g : Setting) where
  -- what is read behind steps has them in front
  ended_same : (steps zs : List PlainStep) (s rest : Stream) → ended steps s ≡ Ok (zs, rest) → zs ≡ steps
  unfolding at_end
  ended_same steps zs (ends q) rest h = let v = values {X = Breach} (gives steps (ends q)) steps zs (ends q) rest refl h in sym v.0
  ended_same steps zs (breaks f) rest h = absurd cc
  ended_same steps zs (more t s) rest h = absurd cc

  one_more : (claim : Claim) (place : ℕ) (xs ys : List PlainStep) (s m : Stream) → step_turn g claim place xs s ≡ Ok (goes ys, m) → (x : PlainStep) × (ys ≡ xs ++ x ∷ [])
  one_more claim place xs ys s m h =
      let c = (turn g claim place xs).sound s (goes ys) m h in
      last ys c.text c.spells
    where
      last : (zs : List PlainStep) (ts : List Lexeme) → (turn g claim place xs).language ts (goes zs) → (x : PlainStep) × (zs ≡ xs ++ x ∷ [])
      last zs ts (made us x l) = (x, refl)

  chain_longer : (k : ℕ) (xs zs : List PlainStep) (s rest : Stream) → chain claim_in (step_turn g) ended k xs s ≡ Ok (zs, rest) → Longer xs zs
  unfolding chain
  chain_longer zero xs zs s rest h = longer-same xs zs (ended_same xs zs s rest h)
  chain_longer (suc k) xs zs s rest h = at_claim (λ ys m e. chain_longer k ys zs m rest e) (claim_in (ahead s)) h
    where
      at_turn : ((ys : List PlainStep) (m : Stream) → chain claim_in (step_turn g) ended k ys m ≡ Ok (zs, rest) → Longer ys zs) → (claim : Claim) (y : Turn (List PlainStep) (List PlainStep)) (m : Stream)
          → step_turn g claim (place_of s) xs (behind s) ≡ Ok (y, m) → turned (λ w n. chain claim_in (step_turn g) ended k w n) y m ≡ Ok (zs, rest) → Longer xs zs
      at_turn again claim (leaves b) m e h = absurd (never_leaves g claim (place_of s) xs b (behind s) m e)
      at_turn again claim (goes ys) m e h = let o = one_more claim (place_of s) xs ys (behind s) m e in longer-one xs ys zs o.0 o.1 (again ys m h)

      at_claim : ((ys : List PlainStep) (m : Stream) → chain claim_in (step_turn g) ended k ys m ≡ Ok (zs, rest) → Longer ys zs) → (o : Option Claim)
          → on_operator o (ended xs s) (λ claim. step_turn g claim (place_of s) xs (behind s) >>= λ y. turned (λ w n. chain claim_in (step_turn g) ended k w n) y.0 y.1) ≡ Ok (zs, rest) → Longer xs zs
      at_claim again None h = longer-same xs zs (ended_same xs zs s rest h)
      at_claim again (Some claim) h =
          let p = split (step_turn g claim (place_of s) xs) (λ y. turned (λ w n. chain claim_in (step_turn g) ended k w n) y) (behind s) zs rest h in
          at_turn again claim p.value p.middle p.first p.second

  pub steps_longer : (before zs : List PlainStep) (s rest : Stream) → steps_of g before s ≡ Ok (zs, rest) → Longer before zs
  unfolding steps_of
  steps_longer before zs s rest h = chain_longer (size s) before zs s rest h

pub nothing_stands : NothingStands
nothing_stands g = record { tokens = []; first = λ behind. sym (shifted_none (text_stream behind)); script = no_further_step [] }

pub lines_stand : LinesStand
lines_stand g text steps h =
    let l = read_scripts_are_spelled g text steps h in
    let place : l.1 ≡ length text = ends_there text l.0 l.1 l.2 in
    let long : length (text ++ 10 ∷ []) ≡ length text + 1 = omega (arith, length-append {A = ℕ}) in
    record {
      tokens = l.0;
      first = λ behind. (
          ap text_stream (append_assoc text (10 ∷ []) behind)
          ∙ texts_go_on text [] behind l.0 (ends l.1) (ap text_stream (append-nil text) ∙ l.2) place
          ∙ ap (λ n. l.0 ++> shifted n (text_stream behind)) (sym long)
          );
      script = l.3;
    }

pub comments_add_nothing : CommentsAddNothing
comments_add_nothing g text comment steps s h =
    let whole : List ℕ = 37 ∷ comment ++ 10 ∷ [] in
    let long : length text + (length (37 ∷ comment) + 1) ≡ length (text ++ whole) = omega (arith, length-append text whole, length-append comment (10 ∷ [])) in
    record {
      tokens = s.tokens;
      first = λ behind. (
          ap text_stream (append_assoc text whole behind ∙ ap (λ z. text ++ 37 ∷ z) (append_assoc comment (10 ∷ []) behind))
          ∙ s.first (37 ∷ comment ++ 10 ∷ behind)
          ∙ ap (λ z. s.tokens ++> shifted (length text) z) (texts_go_on (37 ∷ comment) [] behind [] (ends (length (37 ∷ comment))) (comment_has_none comment h) refl)
          ∙ ap (λ z. s.tokens ++> z) (shifted_twice (length text) (length (37 ∷ comment) + 1) (text_stream behind))
          ∙ ap (λ n. s.tokens ++> shifted n (text_stream behind)) long
          );
      script = s.script;
    }

pub standing_is_spelled : StandingIsSpelled
standing_is_spelled g text steps s =
    (s.tokens, length text + 0, ap text_stream (sym (append-nil text)) ∙ s.first [] ∙ ap (λ z. s.tokens ++> shifted (length text) z) no_text, s.script)

pub scripts_go_on : ScriptsGoOn
unfolding script_spelled
scripts_go_on g text behind steps longer s h =
    let r = alone_read (steps_of g [] (text_stream (text ++ behind))) longer h in
    let after = shifted (length text) (text_stream behind) in
    let e : steps_of g steps after ≡ Ok (longer, r.0) = sym (over_script g [] s.tokens steps tt s.script after) ∙ ap (steps_of g []) (sym (s.first behind)) ∙ r.1 in
    steps_longer g steps longer after r.0 e
