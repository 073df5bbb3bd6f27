-- What the loops do in one round.
use Rattle.std.proofs.Common.{◌≡◌, ℕ, suc, ◌+◌, ◌-◌, ◌<◌, ◌≤◌, Bool, List, [], ◌∷◌, ◌++◌, length, drop, get_or, map, refl, ap, ◌∙◌, sym, arith, append_assoc, append-nil, Option, None}
use Rattle.std.specs.Prelude.{flat_map, slice_index_or}
use Rattle.std.proofs.lemmas.List.{drop_more}
use Rattle.control_states.specs.declared.alternative.Alternative.{Alternative}
use Rattle.control_states.specs.Control.{ControlFacts}
use Rattle.control_states.specs.Place.{place}
use Rattle.transition_system.specs.Systems.{PlainMode}
use Rattle.transition_system.specs.declared.transitions.Mode.{Mode}
use Rattle.transition_system.specs.declared.transitions.Transition.{Transition}
use Rattle.transition_system.specs.Plain.{plain_mode, plain_transition}
use Rattle.constant_facts.specs.declared.fact.Fact.{Fact}
use Rattle.constant_facts.specs.Rules.{places_or, case_of, cases_from, decided, kept_by, kept_by_all}

kept-append : (k : ControlFacts) (ms ns : List PlainMode) (fs : List Fact) → kept_by_all k (ms ++ ns) fs ≡ kept_by_all k ns (kept_by_all k ms fs)
kept-append k [] ns fs = refl
kept-append k (m ∷ ms) ns fs = kept-append k ms ns (kept_by k m fs)

pub modes-next : (k : ControlFacts) (i : ℕ) (ms : List Mode) (m : Mode) (fs whole : List Fact) → i < length ms → m ≡ get_or ms i m → kept_by_all k (map plain_mode (drop i ms)) fs ≡ whole
    → kept_by_all k (map plain_mode (drop (i + 1) ms)) (kept_by k (plain_mode m) fs) ≡ whole
modes-next k i ms m fs whole l e h = ap (λ x. kept_by_all k (map plain_mode x) fs) (sym (drop_more ms i m l ∙ ap (λ x. x ∷ drop (i + 1) ms) (sym e))) ∙ h

pub transitions-next : (k : ControlFacts) (i : ℕ) (ts : List Transition) (t : Transition) (fs whole : List Fact) → i < length ts → t ≡ get_or ts i t
    → kept_by_all k (flat_map (λ t. t.modes) (map plain_transition (drop i ts))) fs ≡ whole
    → kept_by_all k (flat_map (λ t. t.modes) (map plain_transition (drop (i + 1) ts))) (kept_by_all k (map plain_mode t.modes.items) fs) ≡ whole
transitions-next k i ts t fs whole l e h =
    sym (kept-append k (map plain_mode t.modes.items) (flat_map (λ t. t.modes) (map plain_transition (drop (i + 1) ts))) fs)
    ∙ ap (λ x. kept_by_all k (flat_map (λ t. t.modes) (map plain_transition x)) fs) (sym (drop_more ts i t l ∙ ap (λ x. x ∷ drop (i + 1) ts) (sym e))) ∙ h

pub cases-next : (owners ls : List ℕ) (n c : ℕ) (out whole : List (Option Alternative)) → c < n → out ++ cases_from owners ls (n - c) c ≡ whole
    → (out ++ case_of owners ls c ∷ []) ++ cases_from owners ls (n - (c + 1)) (c + 1) ≡ whole
cases-next owners ls n c out whole l h =
    let e : n - c ≡ suc (n - (c + 1)) = omega arith in
    let j : (out ++ case_of owners ls c ∷ []) ++ cases_from owners ls (n - (c + 1)) (c + 1) ≡ out ++ (case_of owners ls c ∷ cases_from owners ls (n - (c + 1)) (c + 1)) = rw append_assoc refl in
    j ∙ ap (λ m. out ++ cases_from owners ls m c) (sym e) ∙ h

pub cases-end : (owners ls : List ℕ) (n c : ℕ) (out whole : List (Option Alternative)) → n ≤ c → out ++ cases_from owners ls (n - c) c ≡ whole → out ≡ whole
cases-end owners ls n c out whole l h =
    let e : n - c ≡ 0 = omega arith in
    sym (append-nil out) ∙ ap (λ m. out ++ cases_from owners ls m c) (sym e) ∙ h

-- a table of what is decided, as a function
pub decided-by : (k : ControlFacts) (ls : List ℕ) (cases : List (Option Alternative)) (table : List (Option Bool)) → cases ≡ cases_from k.owners ls (length k.components) 0
    → ((l : ℕ) → slice_index_or table l None ≡ place k cases l) → places_or table ≡ decided k ls
decided-by k ls cases table e h = λ i. λ l. (h l ∙ ap (λ c. place k c l) e) i
