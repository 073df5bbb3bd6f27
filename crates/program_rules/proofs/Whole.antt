-- Which programs are lawful: the laws.
use Rattle.std.proofs.Common.{◌≡◌, ℕ, ◌+◌, ◌≤◌, nat_le, Bool, true, false, cond, List, [], ◌∷◌, ◌++◌, map, length, refl, sym, ap, subst, ◌∙◌, arith, Result, Ok, Err}
use Rattle.std.proofs.lemmas.List.{map-append, length-map}
use Rattle.list_laws.specs.Each.{Each}
use Rattle.st_form.specs.declared.variables.Variable.{Variable}
use Rattle.st_tokens.specs.declared.limit.LimitKind.TheVariants as limits
use Rattle.st_program.specs.Tree.{action}
use Rattle.st_program.specs.Names.{Names, AreApart, names_in}
use Rattle.st_program.specs.Member.{Member}
use Rattle.st_program.specs.Spots.{Spot, all_spots}
use Rattle.spl_parser.specs.ProgramTree as raw
use Rattle.expression_typer.specs.declared.fault.TypeFault.{TypeFault}
use Rattle.expression_typer.specs.declared.fault.TypeFault.TheVariants as faults
use Rattle.expression_typer.specs.Answers.{◌>>=◌}
use Rattle.expression_typer.specs.Told.{Tells}
use Rattle.expression_typer.specs.Naming.{is_text}
use Rattle.expression_typer.proofs.Holding.{Holds, bound, weaker}
use Rattle.spl_typer.specs.Walk.{Entry}
use Rattle.spl_typer.specs.Programs.{Heading, Labels, Variables, Typed, Apart, declarations_in, processes_in, nothing_met, few_processes, heading_of, text_of, with_variable, with_label, variables_of, labels_of, few_names, names_of, side_by_side, typed_of, typing}
use Rattle.spl_typer.specs.ProgramRules.{program_faults, ProgramModest}
use Rattle.spl_typer.proofs.PartTells.{Any}
use Rattle.spl_typer.proofs.ProgramTells.{program_tells}
use Rattle.spl_typer.proofs.Whole.{Complete, heading_sound}
use Rattle.typing_laws.specs.Laws.{AreRules}
use Rattle.typing_laws.proofs.Whole.{typed_is_well}
use Rattle.typing_laws.proofs.Programs.{spelled_lies}
use Rattle.typing_laws.proofs.Modesty.{program_modest}
use Rattle.typing_laws.proofs.ProgramFaults.{program_ordered}
use Rattle.typing_laws.proofs.Ordering.{ordered_rules}
use Rattle.program_meaning.specs.Meaning.{Declared, declared, known, all_declared, Means}
use Rattle.program_meaning.proofs.Headings.{own_of, labels_among}
use Rattle.program_meaning.proofs.Typed.{Listed, names_listed, typed_is_meant}
use Rattle.program_meaning.proofs.Whole.{meant_once, means_is_typing}
use Rattle.program_rules.specs.Groups.{GroupIsSmall, GroupsAreWithin}
use Rattle.program_rules.specs.Lawful.{all_names, IsLawful}
use Rattle.program_rules.specs.Theorems.{LawfulIsTyping, LawfulIsWell, RulesAreKept}
use Rattle.program_rules.proofs.Passing.{Passes, onward, if_passes}
use Rattle.program_rules.proofs.Allowed.{what_fits_is_allowed}
use Rattle.program_rules.proofs.Names.{Texts}
use Rattle.program_rules.proofs.Acts.{acts_of, all_act, each_act, act_of, load, load_sum}
use Rattle.program_rules.proofs.Walks.{IsFine}
use Rattle.program_rules.proofs.Headings.{Head, head_at, texts, declarations_pass, processes_pass, behind, shared_scoped}
use Rattle.program_rules.proofs.Weighed.{HeadWeighed, declared_weighed, processes_weighed}
use Rattle.program_rules.proofs.Declared.{processes_among, declared_names, processes_named, kinds_apart}

-- FROM A LAWFUL PROGRAM
text_passes : (name : List ℕ) → Passes (λ n. Unit {0}) (text_of name)
text_passes name = if_passes (λ n. Unit {0}) (is_text name) name _ (λ r. r) tt

variables_pass : (done : Variables) (es : List Entry) → Passes (λ vs. Unit {0}) (variables_of done es)
variables_pass done [] = tt
variables_pass done (e ∷ es) = onward (λ n. Unit {0}) (λ vs. Unit {0}) (text_of e.name) _ (text_passes e.name) (λ name u. variables_pass (with_variable e.mark name done) es)

labels_pass : (done : Labels) (es : List Entry) → Passes (λ ls. Unit {0}) (labels_of done es)
labels_pass done [] = tt
labels_pass done (e ∷ es) = onward (λ n. Unit {0}) (λ ls. Unit {0}) (text_of e.name) _ (text_passes e.name) (λ name u. labels_pass (with_label e.mark name done) es)

names_pass : (es : List Entry) → Passes (λ ns. Unit {0}) (names_of es)
names_pass es =
    onward (λ vs. Unit {0}) (λ ns. Unit {0}) (variables_of [] es) _ (variables_pass [] es)
    (λ vs u. onward (λ few. Unit {0}) (λ ns. Unit {0}) (few_names vs) _ (if_passes (λ few. Unit {0}) (nat_le (length vs) 64) tt _ (λ r. r) tt)
    (λ few v. onward (λ ls. Unit {0}) (λ ns. Unit {0}) (labels_of [] es) _ (labels_pass [] es) (λ ls z. tt)))

each_fine : (vs : List Variable) (xs : List Spot) → ((x : Spot) → Member x xs → IsFine vs (action x.stmt)) → Each (IsFine vs) (map (λ (x : Spot). action x.stmt) xs)
each_fine vs xs h = each_act (IsFine vs) xs h

kinds_named : (vs : List Declared) → names_in (map (λ (v : Declared). (v.0, v.1.truth)) vs) ≡ texts vs
kinds_named [] = refl
kinds_named (v ∷ vs) = ap (λ z. v.0 ∷ z) (kinds_named vs)

zero_plus : (n : ℕ) → 0 + n ≡ n
zero_plus n = omega arith

module _ (tree : raw.Program) (p : Typed) (modest : ProgramModest tree) (m : Means tree p) (lawful : IsLawful tree p) where
  abbrev shared : List Declared
  shared = declared tree.declarations

  abbrev process_names : Texts
  process_names = map (λ q. q.name.text) tree.processes

  abbrev rest : Texts
  rest = process_names ++ names_in p.names.labels

  apart : AreApart (texts shared ++ (texts (own_of tree.processes) ++ rest))
  apart =
      subst AreApart
      (ap (λ z. names_in z ++ rest) m.names ∙ ap (λ z. z ++ rest) (kinds_named (all_declared tree) ∙ map-append (λ (v : Declared). v.0) shared (own_of tree.processes))
      ∙ append_three (texts shared) (texts (own_of tree.processes)) rest)
      lawful.apart
    where
      append_three : (a b c : Texts) → (a ++ b) ++ c ≡ a ++ (b ++ c)
      append_three [] b c = refl
      append_three (x ∷ a) b c = ap (λ z. x ∷ z) (append_three a b c)

  variables : p.variables ≡ map (λ v. v.1) shared ++ map (λ v. v.1) (own_of tree.processes)
  variables = m.variables ∙ map-append (λ (v : Declared). v.1) shared (own_of tree.processes)

  fine : Each (IsFine p.variables) (acts_of p.processes)
  fine =
      subst (Each (IsFine p.variables)) (all_act p.processes)
      (each_fine p.variables (all_spots p.processes) (λ x i. record { allowed = lawful.allowed x i; heads = lawful.heads x i; small = lawful.groups.small x i }))

  light : 0 + load (acts_of p.processes) ≤ 16777216
  light = within (load (acts_of p.processes)) (subst (λ n. n ≤ 16777216) (load_sum (all_spots p.processes) ∙ ap load (all_act p.processes)) lawful.groups.light)
    where
      within : (n : ℕ) → n ≤ 16777216 → 0 + n ≤ 16777216
      within n h = omega (arith, h)

  heading_passes : Passes (λ k. Unit {0}) (declarations_in tree.declarations nothing_met >>= λ h. processes_in tree.processes h)
  heading_passes =
      onward (Head ([] ++ texts shared) ([] ++ known 0 shared) (0 + length shared) 0) (λ k. Unit {0}) (declarations_in tree.declarations nothing_met) _
      (declarations_pass tree.declarations m.shared nothing_met [] (texts (own_of tree.processes) ++ rest) [] 0 0 m.starts modest.0 apart (record { stands = record { names = refl; weight = refl }; scope = refl; count = refl }))
      (λ h hd. processes_pass p.variables (known 0 shared) tree.processes p.processes m.own p.names.labels h (texts shared) (length shared) 0 m.processes modest.1
      (shared_scoped p.variables shared (map (λ v. v.1) (own_of tree.processes)) variables)
      (behind p.variables (length shared) 0 tree.processes p.processes (map (λ v. v.1) shared) (length-map shared (λ v. v.1)) variables fine light)
      apart
      (head_at ([] ++ texts shared) (texts shared) ([] ++ known 0 shared) (known 0 shared) (0 + length shared) (length shared) 0 h refl refl (zero_plus (length shared)) hd))

  pub typing_passes : Passes (λ q. Unit {0}) (typing tree)
  typing_passes =
      onward (λ k. Unit {0}) (λ q. Unit {0}) (heading_of tree) _ (if_heading (few_processes tree.processes))
      (λ k u. onward (λ ns. Unit {0}) (λ q. Unit {0}) (names_of k.state.names) _ (names_pass k.state.names) (λ names v. tt))
    where
      if_heading : (b : Bool) → Passes (λ k. Unit {0}) (cond b (declarations_in tree.declarations nothing_met >>= λ h. processes_in tree.processes h) (Err (faults.Limit limits.Processes 0)))
      if_heading true = heading_passes
      if_heading false = λ r. r

rule_first : (f : TypeFault) (fs gs : List TypeFault) → gs ≡ f ∷ fs → AreRules gs → AreRules (f ∷ fs)
rule_first f fs gs e h = subst AreRules e h

some_program : (r : Result Typed TypeFault) (fs : List TypeFault) → Passes (λ q. Unit {0}) r → Tells (Any {A = Typed}) r fs → AreRules fs → (q : Typed) × (r ≡ Ok q)
some_program (Ok q) fs h t rules = (q, refl)
some_program (Err f) fs h t rules = absurd (h (rule_first f t.0 fs t.1 rules).0)

-- FROM A TYPED PROGRAM
record Walked (tree : raw.Program) (k : Heading) : Type 0 where
  apart : Apart k.state.names
  names : processes_among k.state.names ≡ map (λ q. q.name.text) tree.processes
  weighed : HeadWeighed k

nothing_weighs : HeadWeighed nothing_met
nothing_weighs = record { small = tt; weight = refl; light = omega arith }

heading_walked : (tree : raw.Program) → ProgramModest tree → Holds (Walked tree) (heading_of tree)
heading_walked tree m = all (heading_of tree) (heading_sound tree) (named (few_processes tree.processes)) (weighed (few_processes tree.processes))
  where
    named : (b : Bool) → Holds (λ k. processes_among k.state.names ≡ map (λ q. q.name.text) tree.processes) (cond b (declarations_in tree.declarations nothing_met >>= λ h. processes_in tree.processes h) (Err (faults.Limit limits.Processes 0)))
    named false = tt
    named true =
        bound (λ h. processes_among h.state.names ≡ []) (λ k. processes_among k.state.names ≡ map (λ q. q.name.text) tree.processes) (declarations_in tree.declarations nothing_met) _ (declared_names tree.declarations nothing_met m.0)
        (λ h e. weaker (λ k. processes_among k.state.names ≡ processes_among h.state.names ++ map (λ q. q.name.text) tree.processes) (λ k. processes_among k.state.names ≡ map (λ q. q.name.text) tree.processes) (processes_in tree.processes h) (processes_named tree.processes h m.1)
        (λ k i. i ∙ ap (λ z. z ++ map (λ (q : raw.Process). q.name.text) tree.processes) e))

    weighed : (b : Bool) → Holds HeadWeighed (cond b (declarations_in tree.declarations nothing_met >>= λ h. processes_in tree.processes h) (Err (faults.Limit limits.Processes 0)))
    weighed false = tt
    weighed true = bound HeadWeighed HeadWeighed (declarations_in tree.declarations nothing_met) _ (declared_weighed tree.declarations nothing_met nothing_weighs) (λ h c. processes_weighed tree.processes h c)

    all : (r : Result Heading TypeFault) → Holds Complete r → Holds (λ k. processes_among k.state.names ≡ map (λ q. q.name.text) tree.processes) r → Holds HeadWeighed r → Holds (Walked tree) r
    all (Ok k) a b c = record { apart = a.sound.apart; names = b; weighed = c }
    all (Err f) a b c = tt

record Kept (tree : raw.Program) (p : Typed) : Type 0 where
  apart : AreApart (all_names tree p)
  groups : GroupsAreWithin p.processes

kept : (tree : raw.Program) (k : Heading) (names : Names) → Walked tree k → Listed k.state.names names → Kept tree (typed_of k names)
kept tree k names w l = record {
  apart =
      subst AreApart
      (ap (λ z. names_in z ++ (processes_among k.state.names ++ names_in (labels_among k.state.names))) (sym l.0) ∙ ap (λ z. names_in names.variables ++ (z ++ names_in (labels_among k.state.names))) w.names
      ∙ ap (λ z. names_in names.variables ++ (map (λ (q : raw.Process). q.name.text) tree.processes ++ names_in z)) (sym l.1))
      (kinds_apart k.state.names w.apart);
  groups = record {
    small = λ x i. act_of GroupIsSmall (all_spots (side_by_side k.processes)) x (subst (Each GroupIsSmall) (sym (all_act (side_by_side k.processes))) w.weighed.small) i;
    light = subst (λ n. n ≤ 16777216) (w.weighed.weight ∙ zero_plus (load (acts_of (side_by_side k.processes))) ∙ ap load (sym (all_act (side_by_side k.processes))) ∙ sym (load_sum (all_spots (side_by_side k.processes)))) w.weighed.light;
  };
}

typing_kept : (tree : raw.Program) → ProgramModest tree → Holds (Kept tree) (typing tree)
typing_kept tree m =
    bound (Walked tree) (Kept tree) (heading_of tree) _ (heading_walked tree m)
    (λ k w. bound (Listed k.state.names) (Kept tree) (names_of k.state.names) _ (names_listed k.state.names) (λ names l. kept tree k names w l))

-- THE LAWS
pub lawful_is_typing : LawfulIsTyping
lawful_is_typing text tree p s =
    let lies = spelled_lies text tree s in
    let modest = program_modest tree lies in
    let rules = ordered_rules 0 lies.end (program_faults tree) (program_ordered tree lies s.2.numbers) in (
      λ e. let k : Kept tree p = subst (Holds (Kept tree)) e (typing_kept tree modest) in
          let well = typed_is_well tree p e in
          (typed_is_meant tree p modest e, record { apart = k.apart; allowed = λ x i. what_fits_is_allowed p.variables (action x.stmt) (well.typed x i); heads = well.well.heads; groups = k.groups }),
      λ h. let q = some_program (typing tree) (program_faults tree) (typing_passes tree p modest h.0 h.1) (program_tells tree modest) rules in q.1 ∙ ap Ok (meant_once tree q.0 p (typed_is_meant tree q.0 modest q.1) h.0),
    )

pub lawful_is_well : LawfulIsWell
lawful_is_well text tree p s m l = typed_is_well tree p ((lawful_is_typing text tree p s).1 (m, l))

pub rules_are_kept : RulesAreKept
rules_are_kept text tree p s m =
    let l = lawful_is_typing text tree p s in
    let t = means_is_typing text tree p s in
    (λ e. (l.0 (t.1 (e, m))).1, λ h. (t.0 (l.1 (m, h))).0)
