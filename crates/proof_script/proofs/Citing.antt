-- Each step cites invariances among the steps before it.
use Rattle.std.proofs.Common.{◌≡◌, ℕ, Bool, true, false, not, cond, All, List, [], ◌∷◌, ◌++◌, slice_get, position, append-nil, append_assoc, Option, Some, None, Ok, refl, sym, ap, subst, ◌∙◌}
use Rattle.std.specs.Option.{option_map}
use Rattle.std.specs.Str.{bytes_eq}
use Rattle.std.proofs.lemmas.Option.{slice_get-map}
use Rattle.std.proofs.lemmas.List.Elements.{All-nil, All-push}
use Rattle.st_tokens.specs.Stream.{Stream, behind}
use Rattle.st_reading.proofs.Judged.{both, given, allowed, there}
use Rattle.st_reading.specs.declared.mark.Mark.TheVariants as marks
use Rattle.st_reading.specs.Sign.{is}
use Rattle.st_reading.specs.Reading.{ahead, expected, named, then_reads, further}
use Rattle.st_form.specs.Formula.{Formula}
use Rattle.st_program.specs.Names.{Names, names_in}
use Rattle.expression_typer.specs.Naming.{is_text}
use Rattle.expression_typer.specs.Naming.{variable_at}
use Rattle.transition_system.specs.Systems.{System}
use Rattle.temporal_goals.specs.Texts.{PlainGoal, invariant, waiting, response, PlainStep}
use Rattle.st_reading.specs.Rule as rules
use Rattle.st_reading.specs.Breaches.{Breach, broke, present}
use Rattle.proof_script.specs.declared.steps.Claim.{Claim}
use Rattle.proof_script.specs.Listing.{Setting, behind_mark}
use Rattle.proof_script.specs.Steps.{Earlier, is_invariance, earlier_of, step_named, new_name_of, cited_of, citations_of, claimed_of, step_of}
use Rattle.proof_script.specs.Script.{script_spelled}
use Rattle.rule_fits.specs.Obeying.{IsLemma, CiteLemmas}
use Rattle.proof_script.proofs.Inverses.{further_all}
use Rattle.proof_script.proofs.Scripts.{setting_for, script_keeps}
use Rattle.basic_laws.proofs.Truths.{not_false}

pair_or : {A : Type 0} → A → Option A → A
pair_or d None = d
pair_or d (Some p) = p

-- the step that a name is found for
cited_known : (earlier : Earlier) (n : ℕ) (s rest : Stream) → cited_of earlier s ≡ Ok (n, rest) → (name : List ℕ) × (step_named earlier name ≡ Some (n, true))
unfolding cited_of
cited_known earlier n s rest h =
    let a = both (named {X = Breach} s) _ (n, rest) h in
    let o = step_named earlier a.value.0.text in
    let b = both (present (broke rules.UnknownLemma a.value.0.place) o a.value.1) _ (n, rest) a.second in
    let c = allowed (not b.value.0.1) (broke rules.NotInvariant a.value.0.place) b.value.0.0 n b.value.1 rest b.second in
    let f = there (broke rules.UnknownLemma a.value.0.place) o b.value.0 a.value.1 b.value.1 b.first in
    (a.value.0.text, f ∙ ap (λ t. Some (b.value.0.0, t)) (not_false b.value.0.1 c.0) ∙ ap (λ k. Some (k, true)) c.1)

module _ (earlier : Earlier) (n : ℕ) where
  at_entry : (place : ℕ) (o : Option (List ℕ × Bool)) → slice_get earlier place ≡ o → option_map {U = ℕ × Bool} (λ v. (place, v.1)) o ≡ Some (n, true) → option_map (λ e. e.1) (slice_get earlier n) ≡ Some true
  at_entry place None there_is e = absurd cc
  at_entry place (Some x) there_is e =
      let p : (place, x.1) ≡ (n, true) = cc in
      subst (λ k. option_map (λ e. e.1) (slice_get earlier k) ≡ Some true) (ap (λ (q : ℕ × Bool). q.0) p) (ap (option_map (λ e. e.1)) there_is ∙ ap (λ (q : ℕ × Bool). Some q.1) p)

  at_place : (o : Option ℕ) → variable_at earlier o ≡ Some (n, true) → option_map (λ e. e.1) (slice_get earlier n) ≡ Some true
  at_place None e = absurd cc
  at_place (Some place) e = at_entry place (slice_get earlier place) refl e

  at_text : (c : Bool) (o : Option ℕ) → cond c (variable_at earlier o) None ≡ Some (n, true) → option_map (λ e. e.1) (slice_get earlier n) ≡ Some true
  at_text true o e = at_place o e
  at_text false o e = absurd cc

  named_invariance : (name : List ℕ) → step_named earlier name ≡ Some (n, true) → option_map (λ e. e.1) (slice_get earlier n) ≡ Some true
  named_invariance name e = at_text (is_text name) (position (λ k. bytes_eq name k) (names_in earlier)) e

goal_is : (q : PlainGoal) → is_invariance q ≡ true → (p : Formula) × (q ≡ invariant p)
goal_is (invariant p) e = (p, refl)
goal_is (waiting p qs) e = absurd cc
goal_is (response p q b) e = absurd cc

marked : (steps : List PlainStep) (n : ℕ) → option_map (λ e. e.1) (slice_get (earlier_of steps) n) ≡ Some true → IsLemma steps n
unfolding pair_or
marked steps n h = at_step (slice_get steps n) refl (sym (ap (option_map (λ e. e.1)) (slice_get-map (λ s. (s.name, is_invariance s.goal)) steps n)) ∙ h)
  where
    at_step : (o : Option PlainStep) → slice_get steps n ≡ o → option_map (λ e. e.1) (option_map {U = List ℕ × Bool} (λ s. (s.name, is_invariance s.goal)) o) ≡ Some true → IsLemma steps n
    at_step None there_is e = absurd cc
    at_step (Some s) there_is e =
        let m : is_invariance s.goal ≡ true = ap (pair_or false) e in
        let p = goal_is s.goal m in
        (p.0, ap (option_map (λ s. s.goal)) there_is ∙ ap Some p.1)

module _ (steps : List PlainStep) where
  cited_is : (n : ℕ) (s rest : Stream) → cited_of (earlier_of steps) s ≡ Ok (n, rest) → IsLemma steps n
  cited_is n s rest h = let k = cited_known (earlier_of steps) n s rest h in marked steps n (named_invariance (earlier_of steps) n k.0 k.1)

  citations_are : (ns : List ℕ) (s rest : Stream) → citations_of (earlier_of steps) s ≡ Ok (ns, rest) → All (IsLemma steps) ns
  unfolding citations_of
  citations_are ns s rest h = at_test (is (ahead s) marks.Using) h
    where
      at_test : (b : Bool) → cond b (then_reads (cited_of (earlier_of steps)) (λ c. further marks.Comma (cited_of (earlier_of steps)) (c ∷ [])) (behind s)) (Ok ([], s)) ≡ Ok (ns, rest) → All (IsLemma steps) ns
      at_test true h =
          let a = both (cited_of (earlier_of steps) (behind s)) _ (ns, rest) h in
          further_all marks.Comma (cited_of (earlier_of steps)) (IsLemma steps) cited_is (a.value.0 ∷ []) ns a.value.1 rest (All-push (IsLemma steps) [] a.value.0 (All-nil (IsLemma steps)) (cited_is a.value.0 (behind s) a.value.1 a.first)) a.second
      at_test false h = subst (All (IsLemma steps)) (given [] ns s rest h) (All-nil (IsLemma steps))

cite_push : (earlier steps : List PlainStep) (x : PlainStep) → CiteLemmas earlier steps → All (IsLemma (earlier ++ steps)) x.cited → CiteLemmas earlier (steps ++ x ∷ [])
cite_push earlier [] x h k = (subst (λ es. All (IsLemma es) x.cited) (append-nil earlier) k, tt)
cite_push earlier (s ∷ steps) x h k = (h.0, cite_push (earlier ++ s ∷ []) steps x h.1 (subst (λ es. All (IsLemma es) x.cited) (sym (append_assoc earlier (s ∷ []) steps)) k))

module _ (g : Setting) where
  step_cites : (claim : Claim) (steps : List PlainStep) (x : PlainStep) (s rest : Stream) → step_of g claim (earlier_of steps) s ≡ Ok (x, rest) → All (IsLemma steps) x.cited
  unfolding step_of
  step_cites claim steps x s rest h =
      let a = both (new_name_of (earlier_of steps) s) _ (x, rest) h in
      let b = both (behind_mark marks.Colon (claimed_of g claim) a.value.1) _ (x, rest) a.second in
      let c = both (citations_of (earlier_of steps) b.value.1) _ (x, rest) b.second in
      let d = both (expected {X = Breach} marks.Semicolon c.value.1) _ (x, rest) c.second in
      let made : PlainStep = record { name = a.value.0; goal = b.value.0.0; rule = b.value.0.1; cited = c.value.0 } in
      subst (λ (y : PlainStep). All (IsLemma steps) y.cited) {x = made} (given made x d.value.1 rest d.second) (citations_are steps c.value.0 b.value.1 c.value.1 c.first)

pub script_cites : (names : Names) (system : System) (text : List ℕ) (steps : List PlainStep) → script_spelled names system text ≡ Ok steps → CiteLemmas [] steps
script_cites names system text steps h =
    script_keeps names system (CiteLemmas []) (λ claim earlier x s rest r p. cite_push [] earlier x p (step_cites (setting_for names system) claim earlier x s rest r)) tt text steps h
