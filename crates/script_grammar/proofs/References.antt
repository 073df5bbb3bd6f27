-- Transitions, helpers, groups and new names: refused exactly at their first fault.
use Rattle.std.proofs.Common.{◌≡◌, ℕ, ◌+◌, Bool, true, false, cond, List, [], ◌∷◌, Option, Some, None, Result, Ok, Err, refl, sym, ap, ◌∙◌, ◌⊎◌, inl, inr}
use Rattle.std.specs.Prelude.{if◌then◌else◌, is_none, is_some}
use Rattle.std.specs.Option.{option_map}
use Rattle.std.specs.Str.{bytes_eq}
use Rattle.std.proofs.lemmas.Slice.Eq.{bytes_eq-Decides}
use Rattle.st_tokens.specs.Stream.{Stream, ends, breaks, more, behind}
use Rattle.st_reading.specs.declared.mark.Mark.TheVariants as marks
use Rattle.st_reading.specs.Sign.{sign_of, is}
use Rattle.st_reading.specs.Rule.{Rule}
use Rattle.st_reading.specs.Rule as rules
use Rattle.st_reading.specs.Reading.{Read, Label, ◌>>=◌, other, ahead, is_name, label_of, named, refusal, then_reads}
use Rattle.st_reading.specs.Breaches.{Breach, Reader, broke, present, unless}
use Rattle.st_reading.specs.Spelling.{OneName}
use Rattle.st_reading.specs.Steady.{anything}
use Rattle.st_reading.proofs.Spelled.{none_spelled}
use Rattle.st_reading.proofs.Soundness.{values}
use Rattle.st_reading.proofs.Judging.{closed, JudgedAt, good, bad, alike}
use Rattle.st_reading.proofs.JudgedParts.{judged_as}
use Rattle.st_reading.proofs.LawfulPhrases.{name_lawful}
use Rattle.st_form.specs.declared.conditions.Part.{Part}
use Rattle.st_form.specs.declared.conditions.Part.TheVariants.{Whole}
use Rattle.st_program.specs.Names as tables
use Rattle.temporal_goals.specs.Texts.{PlainStep}
use Rattle.ranked_net.specs.Making.{is_uncompassionate, is_unfair}
use Rattle.diagram_reader.specs.Transitions.{part_at, part_of, suffix_of, transition_named, transition_of as drawn_transition}
use Rattle.proof_script.specs.Faults.{drawn, drawing_stop}
use Rattle.proof_script.specs.Listing.{Setting, compassionate_of, just_of, transition_of}
use Rattle.proof_script.specs.Steps.{earlier_of, is_invariance, is_taken, new_name_of}
use Rattle.script_grammar.specs.RawScripts.{RawTransition}
use Rattle.script_grammar.specs.Sizes.{transition_size}
use Rattle.script_grammar.specs.Drawings.{IsReference}
use Rattle.script_grammar.specs.Meaning.{one_later, step_called}
use Rattle.script_grammar.specs.Breaking.{broken_where, found_at}
use Rattle.script_grammar.specs.Rules.{group_rules, helper_rules, name_rules, owed_rules, transition_rules}
use Rattle.script_grammar.specs.FirstFaults.{IsSyntactic, StopsAtFirst, TransitionsFirstFault, HelpersFirstFault, GroupsFirstFault, NewNamesFirstFault}
use Rattle.script_grammar.proofs.RawReferences.{name_token, name_spelled, no_dot, raw_reference, reference_lawful}
use Rattle.script_grammar.proofs.JudgedReferences.{Verdict, said, said_rules, judged_by, judged_reference, refusal_syntactic, closed_settles, Told}
use Rattle.script_grammar.proofs.PartLaws.{stops_at_first}

-- READERS BY VERDICTS
pub refusal_drawn : (s : Stream) → drawing_stop (refusal s) ≡ refusal s
refusal_drawn (ends p) = refl
refusal_drawn (breaks f) = refl
refusal_drawn (more t s) = refl

-- a part is read, or what stands there is refused
abbrev PartRead : Stream → Type 0
PartRead s = ((y : Part × Stream) × (part_of s ≡ Ok y)) ⊎ ((z : Stream) × (part_of s ≡ Err (refusal z)))

part_read : (s : Stream) → PartRead s
unfolding part_of suffix_of
part_read s = at_dot (is (ahead s) marks.Dot) refl
  where
    at_part : is (ahead s) marks.Dot ≡ true → (o : Option Part) → part_at (behind s) ≡ o → PartRead s
    at_part e None k = inr (behind s, rw (e, k) refl)
    at_part e (Some p) k = inl ((p, behind (behind s)), rw (e, k) refl)

    at_dot : (b : Bool) → is (ahead s) marks.Dot ≡ b → PartRead s
    at_dot false e = inl ((Whole, s), rw e refl)
    at_dot true e = at_part e (part_at (behind s)) refl

module _ {A : Type 0} (k : Label → Part → Reader A) (verdict : Verdict A) (same : (l : Label) (part : Part) (s : Stream) → drawn (k l part s) ≡ said (verdict l part) s) where
  abbrev drawn_first : Reader A
  drawn_first s = drawn (then_reads named (λ l. then_reads part_of (k l)) s)

  behind_label : (l : Label) (s : Stream) → drawn (then_reads part_of (k l) s) ≡ then_reads part_of (λ part. said (verdict l part)) s
  behind_label l s = at_read (part_read s)
    where
      at_read : PartRead s → drawn (then_reads part_of (k l) s) ≡ then_reads part_of (λ part. said (verdict l part)) s
      at_read (inl r) = let e = r.1 in rw e (same l r.0.0 r.0.1)
      at_read (inr r) = let e = r.1 in rw e (ap Err (refusal_drawn r.0))

  drawn_judges : (s : Stream) → drawn_first s ≡ judged_by verdict s
  drawn_judges (ends p) = refl
  drawn_judges (breaks f) = refl
  drawn_judges (more t s) = at_name (is_name (sign_of t)) refl
    where
      at_name : (b : Bool) → is_name (sign_of t) ≡ b → drawn_first (more t s) ≡ judged_by verdict (more t s)
      at_name false e = rw e refl
      at_name true e = rw e (behind_label (label_of t) s)

-- what is made of what was judged
module _ {A B : Type 0} (v : Verdict A) (w : Verdict B) (k : A → Reader B) (same : (l : Label) (part : Part) (s : Stream) → then_reads (said (v l part)) k s ≡ said (w l part) s) where
  at_part : (l : Label) (r : Read Breach Part) → ((r >>= λ y. said (v l y.0) y.1) >>= λ x. k x.0 x.1) ≡ (r >>= λ y. said (w l y.0) y.1)
  at_part l (Ok y) = same l y.0 y.1
  at_part l (Err f) = refl

  at_named : (r : Read Breach Label) → ((r >>= λ x. part_of x.1 >>= λ y. said (v x.0 y.0) y.1) >>= λ z. k z.0 z.1) ≡ (r >>= λ x. part_of x.1 >>= λ y. said (w x.0 y.0) y.1)
  at_named (Ok x) = at_part x.0 (part_of x.1)
  at_named (Err f) = refl

  judged_then : (s : Stream) → then_reads (judged_by v) k s ≡ judged_by w s
  judged_then s = at_named (named s)

module _ (g : Setting) where
  -- THE VERDICTS
  abbrev pub placed : Label → Option ℕ → Result (ℕ × ℕ) Breach
  placed l None = Err (broke rules.UnknownTransition l.place)
  placed l (Some n) = Ok (n, l.place)

  abbrev pub place_verdict : Verdict (ℕ × ℕ)
  place_verdict l part = placed l (transition_named g.names g.system l.text part)

  abbrev pub owed : (Option ℕ → Bool) → Rule → Label → Option ℕ → Result ℕ Breach
  owed fails rule l None = Err (broke rules.UnknownTransition l.place)
  owed fails rule l (Some n) = cond (fails (Some n)) (Err (broke rule l.place)) (Ok n)

  abbrev pub owed_verdict : (Option ℕ → Bool) → Rule → Verdict ℕ
  owed_verdict fails rule l part = owed fails rule l (transition_named g.names g.system l.text part)

  -- TRANSITIONS
  placed_so : (l : Label) (o : Option ℕ) (s : Stream) → drawn (present (broke rules.UnknownTransition l.place) (option_map (λ n. (n, l.place)) o) s) ≡ said (placed l o) s
  placed_so l None s = refl
  placed_so l (Some n) s = refl

  transition_is : (s : Stream) → transition_of g s ≡ judged_by place_verdict s
  unfolding transition_of drawn_transition
  transition_is s =
      drawn_judges (λ l part. present (broke rules.UnknownTransition l.place) (option_map (λ n. (n, l.place)) (transition_named g.names g.system l.text part))) place_verdict (λ l part m. placed_so l (transition_named g.names g.system l.text part) m) s

  pub transition_says : (at : ℕ) (r : RawTransition) → transition_rules g at r ≡ said_rules (at + transition_size r) (place_verdict r.label r.part)
  transition_says at r = at_seen (transition_named g.names g.system r.label.text r.part)
    where
      at_seen : (o : Option ℕ) → broken_where (is_none o) (at + transition_size r) (broke rules.UnknownTransition r.label.place) ≡ said_rules (at + transition_size r) (placed r.label o)
      at_seen None = refl
      at_seen (Some n) = refl

  pub judged_transition : (at : ℕ) (s : Stream) → JudgedAt IsSyntactic no_dot at (transition_of g) raw_reference transition_size (transition_rules g at) (Told place_verdict (transition_rules g) transition_says at) s
  judged_transition at s =
      judged_as IsSyntactic no_dot at (judged_by place_verdict) raw_reference transition_size (transition_rules g at) (Told place_verdict (transition_rules g) transition_says at) (transition_of g) raw_reference s (λ after h. transition_is after) (λ after h. refl) (judged_reference place_verdict (transition_rules g) transition_says at s)

  pub transitions : StopsAtFirst IsReference (transition_rules g 0) (transition_of g)
  transitions = stops_at_first is_name no_dot refl reference_lawful (transition_rules g 0) (transition_of g) transition_size (Told place_verdict (transition_rules g) transition_says 0) (judged_transition 0)

  -- HELPERS AND GROUPS
  abbrev owing : (Option ℕ → Bool) → Rule → ℕ × ℕ → Reader ℕ
  owing fails rule t = unless (fails (Some t.0)) (broke rule t.1) t.0

  owed_so : (fails : Option ℕ → Bool) (rule : Rule) (l : Label) (o : Option ℕ) (s : Stream) → then_reads (said (placed l o)) (owing fails rule) s ≡ said (owed fails rule l o) s
  owed_so fails rule l None s = refl
  owed_so fails rule l (Some n) s = at_bool (fails (Some n))
    where
      at_bool : (b : Bool) → cond b (Err (other (broke rule l.place))) (Ok (n, s)) ≡ said (cond b (Err (broke rule l.place)) (Ok n)) s
      at_bool true = refl
      at_bool false = refl

  owed_says : (fails : Option ℕ → Bool) (rule : Rule) (n : ℕ) (l : Label) (o : Option ℕ) → owed_rules fails rule n l o ≡ said_rules n (owed fails rule l o)
  owed_says fails rule n l None = refl
  owed_says fails rule n l (Some k) = at_bool (fails (Some k))
    where
      at_bool : (b : Bool) → broken_where b n (broke rule l.place) ≡ said_rules n (cond b (Err (broke rule l.place)) (Ok k))
      at_bool true = refl
      at_bool false = refl

  owed_is : (fails : Option ℕ → Bool) (rule : Rule) (s : Stream) → then_reads (transition_of g) (owing fails rule) s ≡ judged_by (owed_verdict fails rule) s
  owed_is fails rule s =
      ap (λ (r : Read Breach (ℕ × ℕ)). r >>= λ x. owing fails rule x.0 x.1) (transition_is s)
      ∙ judged_then place_verdict (owed_verdict fails rule) (owing fails rule) (λ l part m. owed_so fails rule l (transition_named g.names g.system l.text part) m) s

  pub helper_says : (at : ℕ) (r : RawTransition) → helper_rules g at r ≡ said_rules (at + transition_size r) (owed_verdict (is_unfair g.system) rules.UnfairHelper r.label r.part)
  helper_says at r = owed_says (is_unfair g.system) rules.UnfairHelper (at + transition_size r) r.label (transition_named g.names g.system r.label.text r.part)

  helper_is : (s : Stream) → just_of g s ≡ judged_by (owed_verdict (is_unfair g.system) rules.UnfairHelper) s
  unfolding just_of
  helper_is s = owed_is (is_unfair g.system) rules.UnfairHelper s

  pub judged_helper : (at : ℕ) (s : Stream) → JudgedAt IsSyntactic no_dot at (just_of g) raw_reference transition_size (helper_rules g at) (Told (owed_verdict (is_unfair g.system) rules.UnfairHelper) (helper_rules g) helper_says at) s
  judged_helper at s =
      judged_as IsSyntactic no_dot at (judged_by (owed_verdict (is_unfair g.system) rules.UnfairHelper)) raw_reference transition_size (helper_rules g at) (Told (owed_verdict (is_unfair g.system) rules.UnfairHelper) (helper_rules g) helper_says at) (just_of g) raw_reference s (λ after h. helper_is after) (λ after h. refl) (judged_reference (owed_verdict (is_unfair g.system) rules.UnfairHelper) (helper_rules g) helper_says at s)

  pub helpers : StopsAtFirst IsReference (helper_rules g 0) (just_of g)
  helpers = stops_at_first is_name no_dot refl reference_lawful (helper_rules g 0) (just_of g) transition_size (Told (owed_verdict (is_unfair g.system) rules.UnfairHelper) (helper_rules g) helper_says 0) (judged_helper 0)

  pub group_says : (at : ℕ) (r : RawTransition) → group_rules g at r ≡ said_rules (at + transition_size r) (owed_verdict (is_uncompassionate g.system) rules.NotCompassionate r.label r.part)
  group_says at r = owed_says (is_uncompassionate g.system) rules.NotCompassionate (at + transition_size r) r.label (transition_named g.names g.system r.label.text r.part)

  group_is : (s : Stream) → compassionate_of g s ≡ judged_by (owed_verdict (is_uncompassionate g.system) rules.NotCompassionate) s
  unfolding compassionate_of
  group_is s = owed_is (is_uncompassionate g.system) rules.NotCompassionate s

  pub judged_group : (at : ℕ) (s : Stream) → JudgedAt IsSyntactic no_dot at (compassionate_of g) raw_reference transition_size (group_rules g at) (Told (owed_verdict (is_uncompassionate g.system) rules.NotCompassionate) (group_rules g) group_says at) s
  judged_group at s =
      judged_as IsSyntactic no_dot at (judged_by (owed_verdict (is_uncompassionate g.system) rules.NotCompassionate)) raw_reference transition_size (group_rules g at) (Told (owed_verdict (is_uncompassionate g.system) rules.NotCompassionate) (group_rules g) group_says at) (compassionate_of g) raw_reference s (λ after h. group_is after) (λ after h. refl) (judged_reference (owed_verdict (is_uncompassionate g.system) rules.NotCompassionate) (group_rules g) group_says at s)

  pub groups : StopsAtFirst IsReference (group_rules g 0) (compassionate_of g)
  groups = stops_at_first is_name no_dot refl reference_lawful (group_rules g 0) (compassionate_of g) transition_size (Told (owed_verdict (is_uncompassionate g.system) rules.NotCompassionate) (group_rules g) group_says 0) (judged_group 0)

-- NEW NAMES
unequal : (xs ys : List ℕ) → bytes_eq xs ys ≡ bytes_eq ys xs
unequal xs ys = at_test (bytes_eq xs ys) (bytes_eq ys xs) refl refl
  where
    at_test : (b c : Bool) → b ≡ bytes_eq xs ys → c ≡ bytes_eq ys xs → b ≡ c
    at_test true true e f = refl
    at_test false false e f = refl
    at_test true false e f = let same : bytes_eq ys xs ≡ true = (bytes_eq-Decides ys xs).1 (sym ((bytes_eq-Decides xs ys).0 (sym e))) in cc
    at_test false true e f = let same : bytes_eq xs ys ≡ true = (bytes_eq-Decides xs ys).1 (sym ((bytes_eq-Decides ys xs).0 (sym f))) in cc

later_same : (o : Option (ℕ × Bool)) → is_some (option_map one_later o) ≡ is_some o
later_same None = refl
later_same (Some e) = refl

taken_same : (before : List PlainStep) (name : List ℕ) → is_taken (earlier_of before) name ≡ is_some (step_called before name)
taken_same [] name = refl
taken_same (s ∷ steps) name = ap (λ b. is_some (if b then Some (is_invariance s.goal) else tables.named name (earlier_of steps))) (unequal name s.name) ∙ at_test (bytes_eq s.name name) (taken_same steps name)
  where
    at_test : (b : Bool) → is_taken (earlier_of steps) name ≡ is_some (step_called steps name) → is_some (if b then Some (is_invariance s.goal) else tables.named name (earlier_of steps)) ≡ is_some (if b then Some (0, is_invariance s.goal) else option_map one_later (step_called steps name))
    at_test true again = refl
    at_test false again = again ∙ sym (later_same (step_called steps name))

module _ (before : List PlainStep) where
  abbrev pub Names : Label → List ℕ → Type 0
  Names l name = l.text ≡ name

  abbrev JudgedName : ℕ → Stream → Type 0
  JudgedName at s = JudgedAt IsSyntactic anything at (new_name_of (earlier_of before)) named (λ l. 1) (name_rules before at) Names s

  pub judged_name : (at : ℕ) (s : Stream) → JudgedName at s
  unfolding new_name_of
  judged_name at (ends p) = alike (refusal (ends p)) (refusal_syntactic (ends p)) refl refl
  judged_name at (breaks f) = alike (refusal (breaks f)) (refusal_syntactic (breaks f)) refl refl
  judged_name at (more t s) = at_name (is_name (sign_of t)) refl
    where
      at_taken : is_name (sign_of t) ≡ true → (b : Bool) → is_some (step_called before t.text) ≡ b → is_taken (earlier_of before) t.text ≡ b → JudgedName at (more t s)
      at_taken n false e k = good (t ∷ []) (label_of t) t.text s refl (λ after h. rw n refl) (λ after h. rw (n, k) refl) refl (rw e refl) refl
      at_taken n true e k =
          bad t [] s (found_at (at + 1) (broke rules.Twice t.start)) closed refl refl (closed_settles s) (λ after h. rw (n, k) refl)
          (λ after x m h r. let v = values (named {X = Breach} (more t after)) (label_of t) x after m (rw n refl) r in ([], ap (name_rules before at) (sym v.0) ∙ rw e refl))
          (record { others = []; spelled = none_spelled; value = label_of t; reads = λ after h. rw n refl; settled = λ after h. closed_settles after }) (λ d g. absurd cc)

      at_name : (b : Bool) → is_name (sign_of t) ≡ b → JudgedName at (more t s)
      at_name false n = alike (refusal (more t s)) (refusal_syntactic (more t s)) (rw n refl) (rw n refl)
      at_name true n = at_taken n (is_some (step_called before t.text)) refl (taken_same before t.text)

  pub new_names : StopsAtFirst OneName (name_rules before 0) (new_name_of (earlier_of before))
  new_names = stops_at_first is_name anything refl (name_lawful name_token name_spelled refl) (name_rules before 0) (new_name_of (earlier_of before)) (λ l. 1) Names (judged_name 0)

-- THE LAWS
pub transitions_first_fault : TransitionsFirstFault
transitions_first_fault g = transitions g

pub helpers_first_fault : HelpersFirstFault
helpers_first_fault g = helpers g

pub groups_first_fault : GroupsFirstFault
groups_first_fault g = groups g

pub new_names_first_fault : NewNamesFirstFault
new_names_first_fault before = new_names before
