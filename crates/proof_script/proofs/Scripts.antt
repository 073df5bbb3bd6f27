-- What holds of each step that is read holds of all steps of a script, where each may know the steps before it.
use Rattle.std.proofs.Common.{◌≡◌, ℕ, List, [], ◌∷◌, ◌++◌, Ok, Err, ap, subst}
use Rattle.st_tokens.specs.Stream.{Stream, text_stream}
use Rattle.st_reading.proofs.Judged.{both, given}
use Rattle.st_reading.specs.Reading.{Read, at_end, gives, leaves, goes, size}
use Rattle.st_program.specs.Names.{Names}
use Rattle.transition_system.specs.Systems.{System}
use Rattle.temporal_goals.specs.Texts.{PlainStep}
use Rattle.diagram_reader.proofs.Inverses.{going, chain_keeps}
use Rattle.st_reading.specs.Breaches.{Breach, alone}
use Rattle.proof_script.specs.declared.steps.Claim.{Claim}
use Rattle.proof_script.specs.Listing.{Setting}
use Rattle.proof_script.specs.Steps.{earlier_of, claim_in, step_of}
use Rattle.proof_script.specs.Script.{step_turn, ended, steps_of, script_spelled}

module _ (g : Setting) (P : List PlainStep → Type 0) (keeps : (claim : Claim) (steps : List PlainStep) (x : PlainStep) (s rest : Stream) → step_of g claim (earlier_of steps) s ≡ Ok (x, rest) → P steps → P (steps ++ x ∷ [])) where
  turn_keeps : (claim : Claim) (place : ℕ) (xs ys : List PlainStep) (s rest : Stream) → P xs → step_turn g claim place xs s ≡ Ok (goes ys, rest) → P ys
  turn_keeps claim place xs ys s rest p h =
      let b = both (step_of g claim (earlier_of xs) s) (λ x. gives {X = Breach} (going {B = List PlainStep} (xs ++ x.0 ∷ [])) x.1) (goes ys, rest) h in
      let e : going {B = List PlainStep} (xs ++ b.value.0 ∷ []) ≡ goes ys = given (going {B = List PlainStep} (xs ++ b.value.0 ∷ [])) (goes ys) b.value.1 rest b.second in
      let i : xs ++ b.value.0 ∷ [] ≡ ys = cc in
      subst P i (keeps claim xs b.value.0 s b.value.1 b.first p)

  never_leaves : (claim : Claim) (place : ℕ) (xs ys : List PlainStep) (s rest : Stream) → P xs → step_turn g claim place xs s ≡ Ok (leaves ys, rest) → P ys
  never_leaves claim place xs ys s rest p h =
      let b = both (step_of g claim (earlier_of xs) s) (λ x. gives {X = Breach} (going {B = List PlainStep} (xs ++ x.0 ∷ [])) x.1) (leaves ys, rest) h in
      let e : going {B = List PlainStep} (xs ++ b.value.0 ∷ []) ≡ leaves ys = given (going {B = List PlainStep} (xs ++ b.value.0 ∷ [])) (leaves ys) b.value.1 rest b.second in
      absurd cc

  end_keeps : (xs ys : List PlainStep) (s rest : Stream) → P xs → ended xs s ≡ Ok (ys, rest) → P ys
  end_keeps xs ys s rest p h = let a = both (at_end {X = Breach} s) _ (ys, rest) h in subst P (given xs ys a.value.1 rest a.second) p

  steps_keep : (ys : List PlainStep) (s rest : Stream) → P [] → steps_of g [] s ≡ Ok (ys, rest) → P ys
  unfolding steps_of
  steps_keep ys s rest p h = chain_keeps claim_in (step_turn g) ended P P turn_keeps never_leaves end_keeps (size s) [] s ys rest p h

pub alone_read : {A : Type 0} (r : Read Breach A) (x : A) → alone r ≡ Ok x → (rest : Stream) × (r ≡ Ok (x, rest))
alone_read (Ok (y, rest)) x h = let e : y ≡ x = cc in (rest, ap (λ z. Ok (z, rest)) e)
alone_read (Err f) x h = absurd cc

module _ (names : Names) (system : System) where
  abbrev pub setting_for : Setting
  setting_for = record { names = names; system = system }

  pub script_keeps : (P : List PlainStep → Type 0) → ((claim : Claim) (steps : List PlainStep) (x : PlainStep) (s rest : Stream) → step_of setting_for claim (earlier_of steps) s ≡ Ok (x, rest) → P steps → P (steps ++ x ∷ []))
      → P [] → (text : List ℕ) (steps : List PlainStep) → script_spelled names system text ≡ Ok steps → P steps
  unfolding script_spelled
  script_keeps P keeps p text steps h =
      let r = alone_read (steps_of setting_for [] (text_stream text)) steps h in
      steps_keep setting_for P keeps steps (text_stream text) r.0 p r.1
