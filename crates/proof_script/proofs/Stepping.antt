-- The loop over the steps of a script: what a step is read to, and what the names of the earlier ones are then.
use Rattle.std.proofs.Common.{◌≡◌, ℕ, suc, ◌+◌, ◌≤◌, Bool, false, List, [], ◌∷◌, ◌++◌, length, Option, Some, None, Ok, refl, sym, ap, subst, ◌∙◌, arith}
use Rattle.std.specs.String.{string_bytes}
use Rattle.std.specs.declared.string.String.{String}
use Rattle.std.proofs.lemmas.List.{length-map, length-append}
use Rattle.std.proofs.lemmas.List.Elements.{All-nil, All-push}
use Rattle.st_tokens.specs.Stream.{Stream, ends, breaks, more, behind}
use Rattle.st_reading.proofs.Judged.{both, given, allowed}
use Rattle.st_reading.specs.declared.mark.Mark.TheVariants as marks
use Rattle.st_reading.specs.Reading.{Stop, Read, IsStop, ahead, expected, named, goes, size}
use Rattle.st_reading.proofs.Chains.{Running, running_next, running_ends, running_fails}
use Rattle.st_reading.proofs.Loops.{mapped, map_fails}
use Rattle.st_form.specs.Formula.{Formula}
use Rattle.st_program.specs.Names.{as_bytes}
use Rattle.temporal_goals.specs.Texts.{PlainStep}
use Rattle.st_reading.specs.Rule as rules
use Rattle.st_reading.specs.Breaches.{Breach, broke}
use Rattle.proof_script.specs.declared.steps.Claim.{Claim}
use Rattle.proof_script.specs.Listing.{Setting, behind_mark, formula_of, listed_formula_of, further_counted}
use Rattle.proof_script.specs.Steps.{Earlier, earlier_of, is_taken, claim_in, new_name_of, citations_of, claimed_of, waiting_goal_of, step_of}
use Rattle.proof_script.specs.Script.{step_turn, ended}
use Rattle.proof_script.proofs.Inverses.{listed_few, further_fits}

name_new : (earlier : Earlier) (n : List ℕ) (s rest : Stream) → new_name_of earlier s ≡ Ok (n, rest) → is_taken earlier n ≡ false
unfolding new_name_of
name_new earlier n s rest h =
    let a = both (named {X = Breach} s) _ (n, rest) h in
    let c = allowed (is_taken earlier a.value.0.text) (broke rules.Twice a.value.0.place) a.value.0.text n a.value.1 rest a.second in
    subst (λ m. is_taken earlier m ≡ false) c.1 c.0

-- one token fewer is left behind the first token of a step
pub claim_passed : (s : Stream) (c : Claim) → Some c ≡ claim_in (ahead s) → suc (size (behind s)) ≡ size s
claim_passed (ends place) c h = absurd cc
claim_passed (breaks f) c h = absurd cc
claim_passed (more t s) c h = refl

-- the names behind one step more
pub earlier_push : (steps : List PlainStep) (x : PlainStep) → earlier_of (steps ++ x ∷ []) ≡ earlier_of steps ++ earlier_of (x ∷ [])
earlier_push [] x = refl
earlier_push (s ∷ steps) x = ap (λ l. earlier_of (s ∷ []) ++ l) (earlier_push steps x)

-- what is known behind one step more, and how many steps may still come
module _ {Z : Type 0} (es new : List (String Z × Bool)) (x : PlainStep) (noted : as_bytes new ≡ as_bytes es ++ earlier_of (x ∷ [])) where
  pub known_next : (xs ys : List PlainStep) → as_bytes es ≡ earlier_of xs → ys ≡ xs ++ x ∷ [] → as_bytes new ≡ earlier_of ys
  known_next xs ys known made = noted ∙ ap (λ l. l ++ earlier_of (x ∷ [])) known ∙ sym (earlier_push xs x) ∙ ap earlier_of (sym made)

  pub fewer_left : (s next after : Stream) (n : ℕ) → length es + size s ≤ n → suc (size next) ≡ size s → size after ≤ size next → length new + size after ≤ n
  fewer_left s next after n few one le =
      let longer = length-map {B = List ℕ × Bool} new (λ e. (string_bytes e.0, e.1)) in
      let before = length-map {B = List ℕ × Bool} es (λ e. (string_bytes e.0, e.1)) in
      let more = ap length noted ∙ length-append (as_bytes es) (earlier_of (x ∷ [])) in
      omega (arith, few, one, le, longer, before, more)

module _ (g : Setting) where
  -- a step has a name that no earlier one has
  pub step_new : (claim : Claim) (earlier : Earlier) (x : PlainStep) (s rest : Stream) → step_of g claim earlier s ≡ Ok (x, rest) → is_taken earlier x.name ≡ false
  unfolding step_of
  step_new claim earlier x s rest h =
      let a = both (new_name_of earlier s) _ (x, rest) h in
      let b = both (behind_mark marks.Colon (claimed_of g claim) a.value.1) _ (x, rest) a.second in
      let c = both (citations_of earlier b.value.1) _ (x, rest) b.second in
      let d = both (expected {X = Breach} marks.Semicolon c.value.1) _ (x, rest) c.second in
      let made : PlainStep = record { name = a.value.0; goal = b.value.0.0; rule = b.value.0.1; cited = c.value.0 } in
      subst (λ (y : PlainStep). is_taken earlier y.name ≡ false) {x = made} (given made x d.value.1 rest d.second) (name_new earlier a.value.0 s a.value.1 a.first)

  -- a goal of nested waiting-for has at most 64 formulas
  pub waiting_few : (w : Formula × List Formula) (s rest : Stream) → waiting_goal_of g s ≡ Ok (w, rest) → length w.1 ≤ 64
  unfolding waiting_goal_of
  waiting_few w s rest h =
      let a = both (formula_of g s) _ (w, rest) h in
      let b = both (behind_mark marks.Unless (listed_formula_of g 0) a.value.1) _ (w, rest) a.second in
      let c = both (behind_mark marks.Wait (listed_formula_of g 1) b.value.1) _ (w, rest) b.second in
      let two : List Formula = b.value.0 ∷ c.value.0 ∷ [] in
      let d = both (further_counted marks.Wait (listed_formula_of g) two c.value.1) _ (w, rest) c.second in
      let made : Formula × List Formula = (a.value.0, d.value.0) in
      let few = (further_fits marks.Wait (listed_formula_of g) (λ f. Unit {0}) (λ n f m r k. (listed_few g n m f r k, tt)) two d.value.0 c.value.1 d.value.1
      (omega arith, All-push (λ f. Unit {0}) (b.value.0 ∷ []) c.value.0 (All-push (λ f. Unit {0}) [] b.value.0 (All-nil (λ f. Unit {0})) tt) tt) d.first).0 in
      subst (λ (v : Formula × List Formula). length v.1 ≤ 64) {x = made} (given made w d.value.1 rest d.second) few

  -- so far these steps were read, and that is left
  abbrev pub Script_on : Stream → Read Breach (List PlainStep) → List PlainStep → Stream → Type 0
  Script_on start whole ys after = Running claim_in (step_turn g) ended ys after start whole

  module _ (xs : List PlainStep) (s start : Stream) (whole : Read Breach (List PlainStep)) where
    pub step_next : (claim : Claim) (earlier : Earlier) (x : PlainStep) (next after : Stream) (ys : List PlainStep) → Script_on start whole xs s → Some claim ≡ claim_in (ahead s) → next ≡ behind s → earlier ≡ earlier_of xs → step_of g claim earlier next ≡ Ok (x, after) → size after ≤ size next
        → ys ≡ xs ++ x ∷ [] → Script_on start whole ys after
    step_next claim earlier x next after ys h begins is_next known reads le made =
        running_next claim_in (step_turn g) ended refl xs s start whole h claim ys next after begins is_next
        (mapped (λ y. goes (xs ++ y ∷ [])) (step_of g claim (earlier_of xs)) next after x (ap (λ e. step_of g claim e next) (sym known) ∙ reads) ∙ ap (λ z. Ok (goes z, after)) (sym made)) le

    pub steps_end : Script_on start whole xs s → None ≡ claim_in (ahead s) → whole ≡ ended xs s
    steps_end h ends_here = running_ends claim_in (step_turn g) ended refl xs s start whole h ends_here

    pub step_fails : (claim : Claim) (earlier : Earlier) (e : Option (Stop Breach)) (next : Stream) → Script_on start whole xs s → Some claim ≡ claim_in (ahead s) → next ≡ behind s → earlier ≡ earlier_of xs → IsStop e (step_of g claim earlier next) → IsStop e whole
    step_fails claim earlier e next h begins is_next known fails =
        running_fails claim_in (step_turn g) ended refl xs s start whole h claim e next begins is_next
        (map_fails (λ y. goes (xs ++ y ∷ [])) (step_of g claim (earlier_of xs)) next e (rw (← known) fails))
